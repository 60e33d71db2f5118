-- Lemmas of this crate's proofs.
mod Six
mod PairSum
