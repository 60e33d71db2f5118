-- The definitions that the promises of `port` cite.
pub mod Port
