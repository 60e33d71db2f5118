-- What the proofs of `cards`' functions share.
pub mod Climb
pub mod Ways
pub mod NextLine
