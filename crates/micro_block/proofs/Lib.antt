pub mod Blocks
pub mod Written
pub mod BlockSteps
pub mod Fewest
mod Near
mod Above
mod Stepped
mod Fast
pub mod Steps
mod Closed
mod Range
mod SizeSteps
mod Chosen
mod WriteSteps
mod QuantiseSteps
mod ShortTables
mod RemainderSets
mod InPlace
mod KeptBounds
mod FarApart
pub mod Permuted
pub mod Named
