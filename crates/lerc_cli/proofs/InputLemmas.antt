-- What reading an input answers.
pub mod GridReads
pub mod WholeGrids
pub mod WholeReads
