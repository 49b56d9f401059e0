-- What a run leaves of the objects that it is lent.
pub mod InWords
pub mod Run
