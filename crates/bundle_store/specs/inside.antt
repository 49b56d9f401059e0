pub mod Checking
pub mod Finishing
pub mod Grouped
pub mod Listed
pub mod Parts
pub mod Reading
pub mod Table
