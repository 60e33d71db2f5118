-- What the proofs of `values`' functions share.
pub mod Good
