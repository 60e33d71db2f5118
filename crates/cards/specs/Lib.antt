-- The definitions that the promises of `cards` cite, and its laws.
pub mod Cards
pub mod Inside
pub mod Laws
pub mod CardChecks
pub mod CardCheckLaws
pub mod CardLineLaws
pub mod CardLines
pub mod Printed
pub mod Examples
