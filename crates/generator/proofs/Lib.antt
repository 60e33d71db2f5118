-- What the proofs of `generator`'s functions share.
pub mod Chained
