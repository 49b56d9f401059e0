pub mod inside
pub mod program
pub mod streams
pub mod Present
pub mod volume
