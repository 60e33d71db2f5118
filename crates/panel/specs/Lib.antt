-- What the promises of `panel` cite.
pub mod Answers
pub mod Laid
