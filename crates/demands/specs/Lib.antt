-- The letter's demands as theorems: Demand1, Demand2, Demand3, with AfterRefusal, NoAccounts, Tight, Isolation, SeedsAgain, ExtendedTexts, ExtendedReplies,
-- ReadThenOffer, OneStep, TablesMade and Examples. Their words are in `grounds`, Listed, Conditions, LongestWait and TenSeeds, in `reached`, Calls, Offered,
-- ReadAndOffered, OldCalls, InTurn, Day, Made and SeedsHad, and in `refusal`, Each; how they are proved is in `grounds`.
pub mod Demand1
pub mod Demand2
pub mod Examples
pub mod Tight
pub mod TablesMade
pub mod NoAccounts
pub mod AfterRefusal
pub mod OneStep
pub mod Demand3
pub mod Isolation
pub mod SeedsAgain
pub mod ExtendedTexts
pub mod ExtendedReplies
pub mod ReadThenOffer
