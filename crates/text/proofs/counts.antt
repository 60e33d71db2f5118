-- What the proofs of the functions in `counts` share.
pub mod CountNumbers
