-- The definitions that the promises of `dictionary` cite, its laws and its examples.
pub mod Words
pub mod Dictionary
pub mod Runs
pub mod Order
pub mod Laws
pub mod Examples
