-- What a session keeps of its bundle.
use Rattle.std.specs.Prelude.{◌≡◌, ◌⊎◌, ℕ, List, length, take, drop, replicate}

-- the bytes of a bundle's index
unfoldable pub index_of : List ℕ → List ℕ
index_of bundle = take 131072 (drop 64 bundle)

-- a header and an index, by their bytes
pub record FrontBytes : Type 0 where
  pub header : List ℕ
  pub index : List ℕ

-- They are those that a read of the bundle gives. An empty file has neither; all entries that are
-- kept of it are 0.
abbrev pub Keeps : FrontBytes → List ℕ → Type 0
Keeps front bundle = ((length bundle ≡ 0) × (front.index ≡ replicate 131072 0)) ⊎
    ((front.header ≡ take 64 bundle) × (front.index ≡ index_of bundle))
