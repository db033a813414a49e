mod Disabled
pub mod Run
pub mod Unread
mod Turns
mod Needed
mod Met
