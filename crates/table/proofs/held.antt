-- What the proofs of `held`'s functions share.
pub mod Found
