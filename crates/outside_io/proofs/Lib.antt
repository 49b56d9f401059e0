mod Inside
mod ProgramLemmas
pub mod StreamLemmas
pub mod VolumeLemmas
