-- A room and its account, what becomes of an account, and the bytes of older seeds, which the promises of `accounts` cite; and laws.
pub mod Accounts
pub mod Laws
pub mod ProposalLaws
pub mod OlderBytes
pub mod Rooms
