-- RFC 1321 and FIPS 180-4, each in its own order, with their worked examples, and lists as their parts are given.
pub mod Lists
pub mod Words32
pub mod Padding
pub mod Hash
pub mod Rounds
pub mod Md5
pub mod Sha1
pub mod Examples
