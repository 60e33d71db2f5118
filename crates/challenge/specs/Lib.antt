-- The definitions that the promises of `challenge` cite, and its laws.
pub mod Challenges
pub mod Inside
pub mod Laws
pub mod Examples
