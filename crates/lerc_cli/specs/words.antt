-- Commands.
pub mod Commands
