mod HeadFaultSteps
mod HeadSteps
mod Tests
mod Decided
mod CellSteps
mod DigitSteps
pub mod OneFault
pub mod OneText
mod PageSteps
mod ReadSteps
mod TextSteps
mod TokenLists
mod Windows
mod WordTokens
pub mod CanonSteps
mod FieldSteps
mod ContentSteps
mod LgaParts
pub mod LgaLaws
mod LgaSteps
