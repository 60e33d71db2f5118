-- Lemmas of the proofs of `spelling`.
pub mod PackedLetters
pub mod Spacing
