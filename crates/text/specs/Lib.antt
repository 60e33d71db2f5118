-- The definitions that promises on texts cite, of `text` and of the crates above it, and their laws.
pub mod Kinds
pub mod Scan
pub mod Digits
pub mod Put
pub mod Quoted
pub mod Tests
pub mod KindLaws
pub mod ScanLaws
pub mod DigitLaws
pub mod PutLaws
pub mod Counts
pub mod CountLaws
