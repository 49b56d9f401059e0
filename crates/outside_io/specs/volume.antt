-- What the contracts of volumes cite.
pub mod Blind
pub mod Disk
pub mod History
pub mod Pick
pub mod Pieces
pub mod Recorded
pub mod Sparse
