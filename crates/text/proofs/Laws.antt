pub mod Decimal
pub mod Shown
pub mod Text
pub mod Writing
