-- What a run leaves of its volume.
pub mod BuildRuns
pub mod CutRuns
pub mod Idle
pub mod PutRuns
pub mod Resting
pub mod Unopened
