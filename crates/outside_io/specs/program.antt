-- What the contracts of words, lines and marks cite.
pub mod Line
pub mod Marks
pub mod Word
