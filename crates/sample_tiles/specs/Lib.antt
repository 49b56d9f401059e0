pub use Rattle.lerc_encode.specs.Choice
pub use Rattle.lerc_grammar.specs.Bands
pub mod Drawn
pub mod Laws
pub mod Sums
pub mod inside
