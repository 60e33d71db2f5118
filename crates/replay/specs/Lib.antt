-- What a line's words say.
pub mod ReplayWords
