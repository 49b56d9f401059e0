-- The lines of a row more.
use Rattle.std.proofs.Common.{◌≡◌, ℕ, zero, suc, ◌+◌, ◌*◌, ◌<◌, ◌≤◌, List, [], ◌++◌, Option, Bool, refl, sym, ap, ◌∙◌, arith, append_assoc}
use Rattle.std.specs.Prelude.{IsErr, IsTrue, Result, Ok, Err}
use Rattle.outside_io.specs.declared.Failed.{Failed}
use Rattle.std.proofs.lemmas.List.{append-nil}
use Rattle.std.proofs.lemmas.Result.{IfOk-from_err}
use Rattle.outside_io.specs.streams.Sink.{Holds, HoldsPrefix}
use Rattle.outside_io.proofs.StreamLemmas.Gives.{HoldsPrefix_join, Holds_join, Holds_none}
use Rattle.bundle_index.specs.Entry.{entry_at}
use Rattle.bundle_lines.specs.Gave.{IsListing, ListGave}
use Rattle.bundle_lines.specs.Lines.{list_line, listing}
use Rattle.bundle_lines.specs.inside.Rows.{row_lines}

listing_next : (b : List ℕ) (m n : ℕ) → n ≡ suc m → listing b n ≡ listing b m ++ list_line m (entry_at b m)
unfolding listing
listing_next b m n is = ap (listing b) is

pub row_next : (b : List ℕ) (row col next : ℕ) → next ≡ suc col → row_lines b row next ≡ row_lines b row col ++ list_line (128 * row + col) (entry_at b (128 * row + col))
unfolding row_lines
row_next b row col next is = ap (row_lines b row) is

pub row_none : (b : List ℕ) (row : ℕ) → row_lines b row 0 ≡ []
unfolding row_lines
row_none b row = refl

listing_none : (b : List ℕ) → listing b 0 ≡ []
unfolding listing
listing_none b = refl

-- the lines of the first slots of a row stand behind those of the rows before
row_is : (b : List ℕ) (row n : ℕ) → listing b (128 * row + n) ≡ listing b (128 * row) ++ row_lines b row n
row_is b row zero =
    ap (listing b) (let e : 128 * row + 0 ≡ 128 * row = omega arith in e) ∙ sym (append-nil (listing b (128 * row))) ∙ ap (λ x. listing b (128 * row) ++ x) (sym (row_none b row))
row_is b row (suc n) =
    let at = 128 * row + n in
    listing_next b at (128 * row + suc n) (omega arith)
    ∙ ap (λ x. x ++ list_line at (entry_at b at)) (row_is b row n)
    ∙ append_assoc (listing b (128 * row)) (row_lines b row n) (list_line at (entry_at b at))
    ∙ ap (λ x. listing b (128 * row) ++ x) (sym (row_next b row n (suc n) refl))

-- what was given so far
abbrev pub Listed : Bool → List ℕ → ℕ → Option (List ℕ) → Option (List ℕ) → Type 0
Listed told b k old new = (lines : List ℕ) × (IsListing told b k lines × Holds old new lines)

pub listed_none : (told : Bool) (b : List ℕ) (held : Option (List ℕ)) → Listed told b 0 held held
listed_none told b held = ([], (λ yes_. sym (listing_none b), Holds_none held))

is_next : (told : Bool) (b : List ℕ) (k : ℕ) (row lines : List ℕ) → IsListing told b k lines → (IsTrue told → row ≡ row_lines b k 128) → IsListing told b (k + 1) (lines ++ row)
is_next told b k row lines is are yes_ = (λ i. is yes_ i ++ are yes_ i) ∙ sym (row_is b k 128) ∙ ap (listing b) (let e : 128 * k + 128 ≡ 128 * (k + 1) = omega arith in e)

pub listed_next : (told : Bool) (b : List ℕ) (k : ℕ) (row : List ℕ) (old mid new : Option (List ℕ)) → Listed told b k old mid → (IsTrue told → row ≡ row_lines b k 128)
    → Holds mid new row → Listed told b (k + 1) old new
listed_next told b k row old mid new so are gave =
    (so.0 ++ row, (is_next told b k row so.0 so.1.0 are, Holds_join old mid new so.0 row so.1.1 gave))

pub listed_cut : (told : Bool) (b : List ℕ) (k : ℕ) (row : List ℕ) (old mid new : Option (List ℕ)) → Listed told b k old mid → (IsTrue told → row ≡ row_lines b k 128) → k < 128
    → HoldsPrefix mid new row
    → (n : ℕ) × ((n ≤ 128) × ((lines : List ℕ) × (IsListing told b n lines × HoldsPrefix old new lines)))
listed_cut told b k row old mid new so are below gave =
    (k + 1, (omega (arith, below), (so.0 ++ row, (is_next told b k row so.0 so.1.0 are, HoldsPrefix_join old mid new so.0 row so.1.1 gave))))

-- an output that failed
pub gave_cut : (told : Bool) (b : List ℕ) (r : Result (Unit {0}) Failed) (old new : Option (List ℕ)) → IsErr r
    → (n : ℕ) × ((n ≤ 128) × ((lines : List ℕ) × (IsListing told b n lines × HoldsPrefix old new lines))) → ListGave told b r old new
gave_cut told b (Ok x) old new is cut = absurd (let failed : IsErr (let r : Result (Unit {0}) Failed = Ok x in r) = is in IfOk-from_err (let r : Result (Unit {0}) Failed = Ok x in r) (λ _. ⊥) failed)
gave_cut told b (Err e) old new is cut = cut
