-- A lemma of the proof of `known_words`.
pub mod Looked
