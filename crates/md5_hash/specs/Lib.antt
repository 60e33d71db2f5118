-- Helper definitions and laws; MD5 itself is defined in `digests`.
pub mod Formulas
pub mod Inside
pub mod Laws
pub mod OperationLaws
