mod Kraft
mod Forest
pub mod BitLists
mod Canonical
pub mod Windows
mod Held
mod Reading
mod WordLaws
mod Sides
mod Made
mod Putting
mod Joining
mod Depths
pub mod Uses
mod Spans
mod Order
pub mod WrittenBack
mod Totals
mod Pairs
mod Least
mod Answered
mod SpanLists
mod Turns
pub mod Cutting
pub mod TableLaws
pub mod Decided
mod Counting
pub mod Filling
pub mod ChosenRuns
pub mod ChosenTables
pub mod Counted
mod Tallies
mod Pushing
mod Begun
pub mod Once
mod Lookups
mod Prefixed
mod Noted
