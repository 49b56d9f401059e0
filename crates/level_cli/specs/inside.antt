-- The words of private functions.
pub mod Shelves
pub mod Spelling
