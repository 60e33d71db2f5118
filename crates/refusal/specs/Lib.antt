-- The definitions that the promises of `refusal` cite, and how checks are joined in other crates' definitions.
pub mod Answers
pub mod Numbers
pub mod Checks
pub mod Each
pub mod Laws
