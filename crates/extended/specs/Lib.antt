-- The definitions that the promises of `extended` cite, and laws of what lies within a text and of what is written.
pub mod ReplyTypes
pub mod Parameters
pub mod ReplyTexts
pub mod Inside
pub mod ReplyWriting
pub mod ReplyWritingLaws
pub mod Laws
