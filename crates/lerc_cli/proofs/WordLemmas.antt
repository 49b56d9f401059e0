-- Which words spell a command.
pub mod Spelled
