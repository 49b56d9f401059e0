-- What crashes may leave, and what a run leaves of its volume.
pub mod CutRuns
pub mod Kept
pub mod Phase
