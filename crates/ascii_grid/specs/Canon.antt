-- The one text that is written of a grid.
use Rattle.std.specs.Prelude.{◌≡◌, ◌≢◌, ℕ, ℤ, pos, suc, ◌%◌, ◌==◌, ◌<◌, unsigned_abs, List, [], ◌∷◌, ◌++◌, Bool, if◌then◌else◌, get_or, Option, None, Some, IfSome, decimal, All}
use Rattle.std.specs.Fmt.{signed_decimal}
use Rattle.ascii_grid.specs.declared.words.Key.{Key}
use Rattle.ascii_grid.specs.declared.words.Key.TheVariants.{Cols, Rows, XCorner, XCenter, YCorner, YCenter, Cell, Nodata}
use Rattle.ascii_grid.specs.declared.grid.AsciiGrid.{AsciiGrid}
use Rattle.ascii_grid.specs.declared.grid.Georef.{Georef}
use Rattle.ascii_grid.specs.Head.{IsText, name_of}

-- the three texts are such, and the nodata value has at most ten digits
pub record IsLawfulGeo (geo : Georef) : Type 0 where
  pub x : IsText geo.x
  pub y : IsText geo.y
  pub cell : IsText geo.cell
  pub nodata : unsigned_abs geo.nodata < 10000000000

-- a valid pixel's value is not nodata
abbrev pub IsApart : ℤ → Option (List ℤ) → Type 0
IsApart nodata p = IfSome p (λ values. get_or values 0 (pos 0) ≢ nodata)

-- What a grid has that a text can say.
pub record IsLawful (g : AsciiGrid) : Type 0 where
  pub depth : g.raster.depth ≡ 1
  pub geo : IsLawfulGeo g.geo
  pub apart : All (IsApart g.geo.nodata) g.raster.pixels

-- a word, and the byte behind it
pub record Word : Type 0 where
  pub bytes : List ℕ
  pub behind : ℕ

-- the text of words
abbrev pub spelled : List Word → List ℕ
spelled [] = []
spelled (w ∷ ws) = w.bytes ++ w.behind ∷ spelled ws

-- a keyword, a space, its value, and a line feed
abbrev pub line : Key → List ℕ → List Word
line key value =
    record { bytes = name_of key; behind = 32 } ∷ record { bytes = value; behind = 10 } ∷ []

abbrev pub x_key : Bool → Key
x_key centre = if centre then XCenter else XCorner

abbrev pub y_key : Bool → Key
y_key centre = if centre then YCenter else YCorner

abbrev pub head_words : AsciiGrid → List Word
head_words g =
    line Cols (decimal g.raster.cols) ++ (line Rows (decimal g.raster.rows)
    ++ (line (x_key g.geo.x_centre) g.geo.x ++ (line (y_key g.geo.y_centre) g.geo.y
    ++ (line Cell g.geo.cell ++ line Nodata (signed_decimal g.geo.nodata)))))

-- the number of a pixel
abbrev pub number_of : ℤ → Option (List ℤ) → ℤ
number_of nodata None = nodata
number_of nodata (Some values) = get_or values 0 (pos 0)

-- behind the last number of a row a line feed, behind any other a space
abbrev pub end_of : ℕ → ℕ → ℕ
end_of cols k = if (suc k) % cols == 0 then 10 else 32

-- the numbers of pixels, of which the first has the number k
abbrev pub number_words : ℤ → ℕ → ℕ → List (Option (List ℤ)) → List Word
number_words nodata cols k [] = []
number_words nodata cols k (p ∷ ps) =
    record { bytes = signed_decimal (number_of nodata p); behind = end_of cols k }
    ∷ number_words nodata cols (suc k) ps

-- Six lines of a keyword and its value, and a line for each row.
abbrev pub canon_words : AsciiGrid → List Word
canon_words g =
    head_words g ++ number_words g.geo.nodata g.raster.cols 0 g.raster.pixels

abbrev pub canon : AsciiGrid → List ℕ
canon g = spelled (canon_words g)
