-- What the proofs of `steps`'s functions share.
pub mod Quarters
