-- Laws of the dictionary as it is printed.
pub mod InOrder
