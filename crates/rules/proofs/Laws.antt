pub mod Chips
mod Tests
mod StatusByte
pub mod State
pub mod Status
pub mod Soundness
pub mod Power
pub mod Protection
pub mod Time
mod Among
mod Kinds
mod Lines
mod Does
mod AtRest
mod Armed
pub mod Frames
mod Rows
pub mod Reads
pub mod Switches
pub mod Writes
pub mod Ruled
pub mod Interrupted
pub mod StatusWrite
pub mod Scripts
pub mod Running
pub mod Sent
pub mod PlanStatus
pub mod PlanWords
pub mod PlanPages
mod WordsDetermined
mod PagesDetermined
mod PlanDetermined
pub mod Plans
mod Numbered
mod Conditions
pub mod BadRecords
pub mod Survey
pub mod Refusals
pub mod Play
pub mod Driver
mod Erases
pub mod Unread
pub mod Driven
pub mod Worst
pub mod Book
pub mod Salvaged
pub mod Salvage
pub mod FlagsRead
pub mod FlagsLaid
pub mod FlagsWanted
pub mod FlagsPlans
pub mod FlagsRefused
pub mod FlagsCalls
pub mod FlagsLists
pub mod FlagsSent
pub mod FlagsLeft
pub mod FlagsMoved
pub mod FlagsAgain
pub mod FlagsRestored
pub mod Flags
pub mod Demands
