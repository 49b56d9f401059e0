-- Words of the private functions: nothing here has to be believed.
pub mod Listed
pub mod Pieces
pub mod Runs
pub mod Plain
pub mod Bytewise
pub mod Strided
pub mod Steps
pub mod Starts
