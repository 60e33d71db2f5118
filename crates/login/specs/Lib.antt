-- Helper definitions of private functions.
pub mod Inside
