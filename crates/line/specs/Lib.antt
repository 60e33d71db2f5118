-- The definitions that the promises of `line` cite, and laws for the crates above.
pub mod Line
pub mod Laws
pub mod Inside
