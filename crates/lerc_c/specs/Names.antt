-- The names of the reasons that a blob is refused for, by their numbers.
use Rattle.std.specs.Prelude.{ℕ, List, [], ◌∷◌, get_or, codes}

-- the names in the order of the numbers, of which 0 and 32 have none; 33 is that of a blob that is
-- not like the first of its tile
abbrev pub names : List (List ℕ)
names =
    []
    ∷ codes "Truncated"
    ∷ codes "BadKey"
    ∷ codes "BadVersion"
    ∷ codes "BadRows"
    ∷ codes "BadCols"
    ∷ codes "BadDepth"
    ∷ codes "TooLarge"
    ∷ codes "BadCount"
    ∷ codes "BadBlockSize"
    ∷ codes "BadBlobSize"
    ∷ codes "FloatPixels"
    ∷ codes "BadType"
    ∷ codes "BadError"
    ∷ codes "BadRange"
    ∷ codes "BadChecksum"
    ∷ codes "BadMaskLength"
    ∷ codes "BadRun"
    ∷ codes "BadMaskCount"
    ∷ codes "MaskMissing"
    ∷ codes "BadSweep"
    ∷ codes "BadMode"
    ∷ codes "BadBlockTag"
    ∷ codes "BadOffsetCode"
    ∷ codes "BadListHead"
    ∷ codes "BadListCount"
    ∷ codes "BadTable"
    ∷ codes "BadIndex"
    ∷ codes "BadCodeTable"
    ∷ codes "NoCode"
    ∷ codes "PastEnd"
    ∷ codes "Leftover"
    ∷ []
    ∷ codes "BadBand"
    ∷ []

-- the name of the reason with this number, and none where no reason has it
abbrev pub name_at : ℕ → List ℕ
name_at number = get_or names number []
