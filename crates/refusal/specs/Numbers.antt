-- The numbers of document 01, 'Refusal numbers', and the marks that 31 carries; then the number and values of each enum answer.
use Rattle.std.specs.Prelude.{ℕ, Ok, Err}
use Rattle.refusal.specs.declared.Refusal.{Refusal}
use Rattle.refusal.specs.declared.Listing.{Listing}
use Rattle.refusal.specs.Answers.{Checked}
use Rattle.refusal.specs.Answers.{Reading}
use Rattle.refusal.specs.Answers.{Written}

-- "A refusal returns its number, and 31 its place", which 02, R-2 makes marks: the number, then the marks, 0 with every other.
abbrev pub listing_of : Refusal → Listing
listing_of Refusal.PhraseShort = record { 0 = 10; 1 = 0 }
listing_of Refusal.PhraseLong = record { 0 = 11; 1 = 0 }
listing_of Refusal.InputLong = record { 0 = 12; 1 = 0 }
listing_of Refusal.CountHigh = record { 0 = 13; 1 = 0 }
listing_of Refusal.OpeningWrong = record { 0 = 20; 1 = 0 }
listing_of Refusal.AlgorithmUnknown = record { 0 = 21; 1 = 0 }
listing_of Refusal.CountUnread = record { 0 = 22; 1 = 0 }
listing_of Refusal.SeedLength = record { 0 = 23; 1 = 0 }
listing_of Refusal.SeedCharacter = record { 0 = 24; 1 = 0 }
listing_of Refusal.SeedUnended = record { 0 = 25; 1 = 0 }
listing_of Refusal.ReplyLong = record { 0 = 30; 1 = 0 }
listing_of (Refusal.WordUnknown marks) = record { 0 = 31; 1 = marks }
listing_of Refusal.PairSumWrong = record { 0 = 32; 1 = 0 }
listing_of Refusal.ReplyUnread = record { 0 = 33; 1 = 0 }
listing_of Refusal.TypeUnknown = record { 0 = 34; 1 = 0 }
listing_of Refusal.PartsWrong = record { 0 = 35; 1 = 0 }
listing_of Refusal.BufferShort = record { 0 = 40; 1 = 0 }
listing_of Refusal.IdZero = record { 0 = 50; 1 = 0 }
listing_of Refusal.CountOutside = record { 0 = 51; 1 = 0 }
listing_of Refusal.IdTaken = record { 0 = 52; 1 = 0 }
listing_of Refusal.TableFull = record { 0 = 53; 1 = 0 }
listing_of Refusal.AccountMissing = record { 0 = 54; 1 = 0 }
listing_of Refusal.PortUnknown = record { 0 = 55; 1 = 0 }
listing_of Refusal.PortInLine = record { 0 = 56; 1 = 0 }
listing_of Refusal.PortShut = record { 0 = 57; 1 = 0 }
listing_of Refusal.AccountUsedUp = record { 0 = 58; 1 = 0 }
listing_of Refusal.PortNotInLine = record { 0 = 59; 1 = 0 }
listing_of Refusal.PortNotInFront = record { 0 = 60; 1 = 0 }
listing_of Refusal.ReplyWrong = record { 0 = 61; 1 = 0 }
listing_of Refusal.ReplyWrongThird = record { 0 = 62; 1 = 0 }
listing_of Refusal.SeedSame = record { 0 = 63; 1 = 0 }
listing_of Refusal.LinesOutside = record { 0 = 70; 1 = 0 }

-- 01, 'Forms for parts of the code': "Each enum answer has a definition that gives this paper's number and values for each of its cases."
-- The number and marks, 0 where nothing is refused; then the value, 0 after a refusal. A challenge's is in `challenge`, that of
-- a reply's text in `extended`, that of an offer in `table`.
abbrev pub unrefused : Listing
unrefused = record { 0 = 0; 1 = 0 }

abbrev pub checked_numbers : Checked → Listing
checked_numbers (Ok _) = unrefused
checked_numbers (Err why) = listing_of why

-- and the password
abbrev pub reading_numbers : Reading → Listing × ℕ
reading_numbers (Ok password) = (unrefused, password)
reading_numbers (Err why) = (listing_of why, 0)

abbrev pub password_in : Reading → ℕ
password_in r = (reading_numbers r).1

-- and the bytes written
abbrev pub written_numbers : Written → Listing × ℕ
written_numbers (Ok n) = (unrefused, n)
written_numbers (Err why) = (listing_of why, 0)
