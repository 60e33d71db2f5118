-- The definitions that the promises of `sixwords` cite, its laws and its examples.
pub mod Places
pub mod Laws
pub mod Examples
pub mod Inside
pub mod SpellingLaws
pub mod Spelling
