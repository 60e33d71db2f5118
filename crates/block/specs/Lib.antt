-- Words by four, what a digest function answers, and laws for the crates above `block`; the digests themselves are defined
-- in `digests`.
pub mod ByFour
pub mod ChoiceLaws
pub mod Digest
pub mod Inside
pub mod Laws
pub mod WordLaws
