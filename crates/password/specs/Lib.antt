-- Passwords, with a worked example; and laws for the crates above.
pub mod Algorithm
pub mod AlgorithmLaws
pub mod Password
pub mod Examples
pub mod Laws
pub mod FoldLaws
pub mod Bounds
pub mod PhraseAndSeed
pub mod PhraseAndSeedLaws
pub mod EightBytes
pub mod EightBytesLaws
