-- Lemmas that the proof of this crate stands on.
pub mod Answered
