-- What a table means, the checks and the written steps that the promises of the calls cite, and what follows of them at once.
pub mod Answers
pub mod Table
pub mod TableChecks
pub mod Steps
pub mod StepLaws
pub mod ViewLaws
pub mod HeldLaws
pub mod Examples
