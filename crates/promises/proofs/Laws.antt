pub mod Answered
pub mod Promises
pub mod Unless
