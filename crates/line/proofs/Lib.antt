-- What the proofs of `line`'s functions share.
pub mod Taken
pub mod Seen
pub mod Flat
pub mod Changed
pub mod Joined
pub mod RoomFound
