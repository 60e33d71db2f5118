-- Runs of calls, equal tables, and the laws of the tables that calls make: what is found in their rooms and lines, what a call can do to them, what stays.
-- Made, Offered, ReadAndOffered, OldCalls, InTurn, Day and SeedsHad have the words of the demands on tables.
pub mod Calls
pub mod Offered
pub mod OfferedLaws
pub mod ReadAndOffered
pub mod OldCalls
pub mod Equal
pub mod RoomsFound
pub mod RoomsChanged
pub mod LinesChanged
pub mod SeedLaws
pub mod Outcome
pub mod EqualLaws
pub mod Laws
pub mod Examples
pub mod Made
pub mod InTurn
pub mod Day
pub mod SeedsHad
