-- Lemmas of this crate's proofs.
mod TableWords
