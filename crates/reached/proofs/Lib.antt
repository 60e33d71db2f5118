-- Laws of the calls on tables.
pub mod Outcomes
