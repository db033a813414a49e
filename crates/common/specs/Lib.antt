pub mod Lists
pub mod Limits
pub mod Numbers
pub mod Bits
pub mod Refusals
pub mod Buffer
