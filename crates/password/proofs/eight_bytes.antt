-- What the proof of `number_of` stands on.
pub mod EightListed
