-- The words of private functions alone: no public clause cites them.
pub mod Asked
pub mod Fronts
pub mod Flags
pub mod Blocked
pub mod BlockedProps
pub mod Sides
pub mod Tallies
pub mod Coded
pub mod Choosing
pub mod Suits
pub mod Layout
pub mod Joined
