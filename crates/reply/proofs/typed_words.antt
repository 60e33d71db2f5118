-- Lemmas of the proofs of `typed_words`.
pub mod TypedLetters
pub mod TokensRead
