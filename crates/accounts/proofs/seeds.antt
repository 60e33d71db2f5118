-- What the proofs of `seeds`' functions share.
pub mod SeedKept
