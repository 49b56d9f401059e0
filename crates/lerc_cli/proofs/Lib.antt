mod AnswerLemmas
mod CrashLemmas
mod InputLemmas
mod WordLemmas
