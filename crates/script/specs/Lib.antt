pub mod Record
pub mod Measure
pub mod Decode
pub mod Answers
pub mod Reader
pub mod Survey
