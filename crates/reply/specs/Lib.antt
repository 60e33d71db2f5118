-- What a reply says, with worked examples, and laws of tokens that could be words and of marks.
pub mod Reply
pub mod Marked
pub mod Examples
pub mod Laws
pub mod Inside
