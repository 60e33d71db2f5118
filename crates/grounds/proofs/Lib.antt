-- What rests on the rows of every call.
pub mod CallsRefused
