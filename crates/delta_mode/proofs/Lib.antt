mod Numbers
mod Predictors
pub mod Marks
pub mod SymbolLaws
mod Bytes
mod Pieces
mod Kernels
mod InPieces
mod WholeDepth
mod Sources
mod Bytewise
mod Strided
mod EvenPieces
mod Runs
mod PlainTaking
pub mod EncodeStates
mod Gathered
mod StartBits
mod NextRuns
mod StartPieces
pub mod FullPieces
pub mod PlainPieces
pub mod Existence
