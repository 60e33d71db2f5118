-- Only what private functions cite: the calls' promises are over `table`'s definitions.
pub mod TurnChecks
pub mod TurnCheckLaws
pub mod TurnPartLaws
pub mod TurnPart
