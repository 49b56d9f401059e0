-- The part with whose header bytes begin.
use Rattle.std.specs.Prelude.{◌≡◌, ℕ, ◌≤◌, List, length}
use Rattle.lerc_header.specs.declared.header.Header.{Header}
use Rattle.lerc_header.specs.Head.{HeadAt}

-- it has so many bytes, and they are there
pub record IsHeadedBy (bytes : List ℕ) (size : ℕ) : Type 0 where
  pub header : Header
  pub stands : HeadAt bytes header
  pub size_is : size ≡ header.size
  pub within : size ≤ length bytes
