pub mod Book
pub mod Refusals
pub mod Answers
pub mod Marking
