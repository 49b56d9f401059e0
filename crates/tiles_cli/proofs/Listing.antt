-- A list of slots, line by line, and piece by piece.
use Rattle.std.proofs.Common.{◌≡◌, inl, inr, ℕ, zero, suc, ◌+◌, ◌-◌, ◌<◌, ◌≤◌, List, [], ◌∷◌, ◌++◌, length, take, drop, Bool, true, Option, Some, None, Ok, Err, refl, sym, ap, subst, ◌∙◌, rules, arith, append_assoc, length-append, length-drop}
use Rattle.std.specs.Prelude.{IfErr, IfSome, MatchResult, Result}
use Rattle.std.proofs.lemmas.List.{append-nil, drop_all, length-take-le, take-append-drop, take_all, take_at}
use Rattle.outside_io.specs.streams.Source.{IsAtEnd}
use Rattle.raster_grids.specs.Taken.{TookBytes}
use Rattle.raster_grids.proofs.Taken.{ended}
use Rattle.raster_grids.proofs.TakenBytes.{took_join}
use Rattle.tiles_cli.specs.SlotList.{HasLines, IsOneLine, IsSlotList, NamesSlot, TellsList, list_faults}
use Rattle.tiles_cli.specs.declared.slot_list.ListFault.{ListFault}
use Rattle.tiles_cli.specs.declared.slot_list.ListReason.{ListReason}
use Rattle.tiles_cli.specs.declared.slot_list.ListReason.TheVariants.{TooLong}
use Rattle.tiles_cli.specs.declared.slot_list.ListStop.{ListStop}
use Rattle.tiles_cli.specs.declared.slot_list.ListStop.TheVariants.{Fault, Source, OutOfMemory}
use Rattle.tiles_cli.specs.declared.slot_list.ListedSlot.{ListedSlot}
use Rattle.tiles_cli.specs.inside.Fields.{IsFree, IsListStop, IsListedAt, IsWrongAt, TookPiece}

-- ---- the lines

list_push : (front line : List ℕ) (slots : List ℕ) (slot : ℕ) → IsSlotList front slots → IsOneLine line → NamesSlot line slot → IsSlotList (front ++ (line ++ 10 ∷ [])) (slots ++ slot ∷ [])
list_push front line [] slot none one names = (line, [], (record { joined = ap (λ (l : List ℕ). l ++ (line ++ 10 ∷ [])) none; one = one }, (names, refl)))
list_push front line (s ∷ ss) slot (first, rest, (is, (named, more))) one names =
    (first, rest ++ (line ++ 10 ∷ []), (record { joined = ap (λ (l : List ℕ). l ++ (line ++ 10 ∷ [])) is.joined ∙ append_assoc first (10 ∷ rest) (line ++ 10 ∷ []); one = is.one }, (named, list_push rest line ss slot more one names)))

-- what stands in front of what is left
front_is : (text front rest : List ℕ) (behind : ℕ) → behind ≤ length text → rest ≡ drop behind text → text ≡ front ++ rest → take behind text ≡ front
front_is text front rest behind within is joined =
    let size : length text ≡ length front + length rest = ap length joined ∙ length-append front rest in
    let left : length rest ≡ length text - behind = ap length is ∙ length-drop behind text in
    ap (take behind) joined ∙ take_at front rest behind (omega (arith, size, left, within))

-- one line more
pub line_listed : (text : List ℕ) (at : ℕ) (slots : List ℕ) (found : ListedSlot) → IsSlotList (take at text) slots → IsListedAt text at found → IsSlotList (take found.behind text) (slots ++ found.slot ∷ [])
line_listed text at slots found so is =
    let joined : text ≡ (take at text ++ (is.line ++ 10 ∷ [])) ++ drop found.behind text =
    sym (take-append-drop at text) ∙ ap (λ (l : List ℕ). take at text ++ l) (is.is.joined ∙ sym (append_assoc is.line (10 ∷ []) (drop found.behind text)))
    ∙ sym (append_assoc (take at text) (is.line ++ 10 ∷ []) (drop found.behind text)) in
    subst (λ (l : List ℕ). IsSlotList l (slots ++ found.slot ∷ [])) (sym (front_is text (take at text ++ (is.line ++ 10 ∷ [])) (drop found.behind text) found.behind is.within refl joined))
    (list_push (take at text) is.line slots found.slot so is.is.one is.names)

-- no line is left
pub all_listed : (text : List ℕ) (at : ℕ) (slots : List ℕ) → length text ≤ at → IsSlotList (take at text) slots → IsSlotList text slots
all_listed text at slots all so = subst (λ (l : List ℕ). IsSlotList l slots) (take_all at text all) so

abbrev has_lines : (text : List ℕ) (at : ℕ) (slots : List ℕ) → IsSlotList (take at text) slots → HasLines text (drop at text)
has_lines text at slots so = record { front = take at text; slots = slots; joined = sym (take-append-drop at text); lines = so }

pub wrong_listed : (text : List ℕ) (at : ℕ) (slots : List ℕ) (stop : ListStop) → at ≤ length text → IsSlotList (take at text) slots → IsWrongAt text at stop → IsListStop text stop
wrong_listed text at slots Source within so is = is
wrong_listed text at slots OutOfMemory within so is = tt
wrong_listed text at slots (Fault f) within so (inl (reason, place, wrong)) =
    subst (λ (r : ListReason). list_faults text f.place r) (sym reason) (drop at text, (has_lines text at slots so, (wrong, place ∙ sym (length-take-le at text within))))
wrong_listed text at slots (Fault f) within so (inr (reason, place, cut)) =
    subst (λ (r : ListReason). list_faults text f.place r) (sym reason) (drop at text, (has_lines text at slots so, (cut, place)))

-- ---- one line

drop_twice : (a b : ℕ) (xs : List ℕ) → drop b (drop a xs) ≡ drop (a + b) xs
drop_twice zero b xs = ap (λ (k : ℕ). drop k xs) (let e : b ≡ 0 + b = omega arith in e)
drop_twice (suc a) b [] = drop_all b [] (omega arith) ∙ sym (drop_all (suc a + b) [] (omega arith))
drop_twice (suc a) b (x ∷ xs) = drop_twice a b xs ∙ ap (λ (k : ℕ). drop k (x ∷ xs)) (let e : suc (a + b) ≡ suc a + b = omega arith in e)

-- what follows a line of so many bytes
pub later_drop : (text : List ℕ) (at n behind : ℕ) → at + n < length text → behind ≡ at + n + 1 → drop (suc n) (drop at text) ≡ drop behind text
later_drop text at n behind less is = drop_twice at (suc n) text ∙ ap (λ (k : ℕ). drop k text) (let e : at + suc n ≡ behind = omega (arith, is) in e)

-- ---- the text

pub piece_joined : (old mid new : Option (List ℕ)) (text text_new : List ℕ) (more : Bool) → TookBytes old mid text → TookPiece mid new text text_new more → TookBytes old new text_new
piece_joined old mid new text text_new more so piece = subst (TookBytes old new) (sym piece.text_is) (took_join old mid new text piece.piece so piece.took)

pub piece_long : (mid new : Option (List ℕ)) (text text_new : List ℕ) → TookPiece mid new text text_new true → length text_new ≡ length text + 4096
piece_long mid new text text_new piece =
    let size : length piece.piece ≡ 4096 = piece.whole (search rules) in
    ap length piece.text_is ∙ length-append text piece.piece ∙ omega (arith, size)

pub free_tells : (left : Option (List ℕ)) (stop : ListStop) → IsFree stop → TellsList left stop
free_tells None (Fault f) free = tt
free_tells (Some text) (Fault f) free = absurd free
free_tells None Source free = tt
free_tells (Some text) Source free = tt
free_tells None OutOfMemory free = tt
free_tells (Some text) OutOfMemory free = tt

pub too_long : (left new : Option (List ℕ)) (text : List ℕ) (f : ListFault) → TookBytes left new text → 16777216 ≤ length text → f.reason ≡ TooLong → f.place ≡ 16777216 → TellsList left (Fault f)
too_long None new text f took long reason place = tt
too_long (Some bytes) new text f (rest, (joined, then)) long reason place =
    let size : length bytes ≡ length text + length rest = ap length joined ∙ length-append text rest in
    subst (λ (r : ListReason). list_faults bytes f.place r) (sym reason) (omega (arith, size, long), place)

-- all of the source was taken
all_taken : (left new : Option (List ℕ)) (text : List ℕ) → TookBytes left new text → IsAtEnd new → IfSome left (λ bytes. bytes ≡ text)
all_taken None new text took end = tt
all_taken (Some bytes) new text (rest, (joined, then)) end = joined ∙ ap (λ (l : List ℕ). text ++ l) (ended new rest end then) ∙ append-nil text

pub list_read : (left new : Option (List ℕ)) (text slots : List ℕ) → TookBytes left new text → IsAtEnd new → IsSlotList text slots → IfSome left (λ bytes. IsSlotList bytes slots)
list_read None new text slots took end is = tt
list_read (Some bytes) new text slots took end is = subst (λ (l : List ℕ). IsSlotList l slots) (sym (all_taken (Some bytes) new text took end)) is

pub list_told : (left new : Option (List ℕ)) (text : List ℕ) (stop : ListStop) → TookBytes left new text → IsAtEnd new → IsListStop text stop → TellsList left stop
list_told None new text (Fault f) took end is = tt
list_told None new text Source took end is = tt
list_told None new text OutOfMemory took end is = tt
list_told (Some bytes) new text (Fault f) took end is = subst (λ (l : List ℕ). list_faults l f.place f.reason) (sym (all_taken (Some bytes) new text took end)) is
list_told (Some bytes) new text Source took end is = tt
list_told (Some bytes) new text OutOfMemory took end is = tt

pub list_told_of : {X : Type 0} (left new : Option (List ℕ)) (text : List ℕ) (P : X → Type 0) (r : Result X ListStop) → TookBytes left new text → IsAtEnd new → MatchResult r P (λ stop. IsListStop text stop) → IfErr r (λ stop. TellsList left stop)
list_told_of left new text P (Ok x) took end is = tt
list_told_of left new text P (Err stop) took end is = list_told left new text stop took end is
