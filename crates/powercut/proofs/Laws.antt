mod States
mod Between
mod Near
mod Safe
mod Run
mod Frames
mod Status
mod Words
mod Pages
pub mod Updated
mod Region
mod Length
mod PlanRun
mod Completes
mod Recovery
pub mod PowerCut
pub mod Calls
mod Witness
mod Counterexamples
