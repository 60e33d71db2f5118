-- Helper definitions and laws; SHA-1 itself is defined in `digests`.
pub mod Inside
pub mod Laws
