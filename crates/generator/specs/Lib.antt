-- What the proofs of `generator` cite beside the definitions of `password`.
pub mod Inside
