pub mod OneAnswer
mod Reading
