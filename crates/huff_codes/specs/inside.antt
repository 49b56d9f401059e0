-- Words of the private functions: nothing here has to be believed.
pub mod Spans
pub mod Stored
pub mod Reading
pub mod Places
pub mod Gaps
pub mod Nodes
pub mod Forests
pub mod Cutting
pub mod Filling
pub mod Begun
pub mod Lookup
pub mod Looking
pub mod Tallied
pub mod Noted
