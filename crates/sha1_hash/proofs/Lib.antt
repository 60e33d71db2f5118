-- What the proofs of `sha1`'s functions share.
pub mod Scheduled
pub mod BySixteen
