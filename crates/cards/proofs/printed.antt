-- What the proofs of the functions in `printed` share.
pub mod PrintedLines
