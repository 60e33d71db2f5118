-- The definitions that the promises of `hex` cite, and a law.
pub mod Hex
pub mod Laws
pub mod Inside
