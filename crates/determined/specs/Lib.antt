-- 01, What the promises have to say: Determined says what it is that a promise determines its results, the others that each one does.
pub mod Determined
pub mod OfTexts
pub mod OfPasswords
pub mod OfWords
pub mod OfChallenges
pub mod OfTables
pub mod OfPanel
