-- One call on a source, and what a decoder takes of it.
use Rattle.std.proofs.Common.{◌≡◌, ℕ, ◌+◌, ◌-◌, ◌<◌, ◌≤◌, List, ◌++◌, length, take, drop, Option, Some, None, Ok, Err, refl, sym, ap, ◌∙◌, subst, arith, [], ◌⊎◌, inl, inr}
use Rattle.std.specs.Prelude.{IfOk, Result}
use Rattle.std.proofs.Math.Seq.{drop-append-add}
use Rattle.outside_io.specs.declared.streams.failed.Failed.{Failed}
use Rattle.outside_io.specs.streams.Source.{TakesUpTo}
use Rattle.raster_values.specs.Raster.{IsRaster}
use Rattle.lerc_header.specs.Head.{HeadAt}
use Rattle.lerc_header.proofs.Prefixes.{head_more}
use Rattle.lerc_decode.specs.declared.streams.from_source.Decoded.{Decoded}
use Rattle.lerc_decode.specs.FromSource.{IsSized}
use Rattle.std.proofs.lemmas.List.{append_assoc, length-append, length-take-le, take-append-drop, take_all}
use Rattle.lerc_header.specs.Head.{head_length}
use Rattle.lerc_header.specs.declared.header.Version.{Version}
use Rattle.lerc_header.specs.declared.header.Version.TheVariants.{V3, V4}
use Rattle.outside_io.specs.streams.Source.{Takes}
use Rattle.lerc_decode.specs.Decoding.{Stage, Key, Fields, Body, Whole, Wrong, NoMemory, Decoding, IsStageOf, HasTaken}
use Rattle.lerc_decode.specs.States.{missing_at, finished_at, IsUsed}
use Rattle.outside_io.specs.streams.Source.{IsAtEnd}
use Rattle.lerc_decode.specs.Feeding.{Begins, Joins, Follows}
use Rattle.lerc_decode.specs.inside.Feeding.{from_finished, work_at}
use Rattle.lerc_header.specs.declared.fault.BlobReason.TheVariants.{Truncated}
use Rattle.lerc_decode.specs.declared.streams.from_source.FromFault.TheVariants.{Blob}
use Rattle.lerc_decode.specs.FromSource.{IsDecoded}
use Rattle.lerc_decode.proofs.Steps.{told_of}
use Rattle.lerc_grammar.specs.Mask.{Previous}
use Rattle.lerc_grammar.specs.Verdict.{IsMore}

follows : (s : Stage) (piece : List ℕ) (used : ℕ) (joins : Type 0) → IsUsed s piece used → (used ≡ length piece → joins) → Follows s joins
follows Key piece used joins u go = go u
follows (Fields v) piece used joins u go = go u
follows (Body h) piece used joins u go = go u
follows (Whole r) piece used joins u go = go u
follows (Wrong place reason) piece used joins u go = go u
follows NoMemory piece used joins u go = tt

joined : (left0 left1 : Option (List ℕ)) (got used : ℕ) (buf old new : List ℕ) → Takes left0 left1 (Ok got) buf → new ≡ old ++ take used (take got buf) → used ≡ length (take got buf) → Joins left0 left1 old new
joined None left1 got used buf old new takes e all = takes
joined (Some left) left1 got used buf old new takes e all =
    let piece : take used (take got buf) ≡ take got left = take_all used (take got buf) (omega (arith, all)) ∙ takes.0.1.1 in
    (drop got left, (takes.0.0, ap (λ u. old ++ u) (sym (take-append-drop got left)) ∙ sym (append_assoc old (take got left) (drop got left)) ∙ ap (λ u. (old ++ u) ++ drop got left) (sym piece) ∙ ap (λ u. u ++ drop got left) (sym e)))

pub fed_once : (s : Stage) (left0 left1 : Option (List ℕ)) (got used : ℕ) (buf : List ℕ) (o n : Decoding) → Takes left0 left1 (Ok got) buf → HasTaken o n (take got buf) used → IsUsed s (take got buf) used → Follows s (Joins left0 left1 o.taken n.taken)
fed_once s left0 left1 got used buf o n takes taken all = follows s (take got buf) used _ all (λ whole. joined left0 left1 got used buf o.taken n.taken takes taken.taken whole)

short_head : (v : Version) → head_length v ≤ 66
short_head V3 = omega arith
short_head V4 = omega arith

work_less : (s : Stage) (lo ln used : ℕ) (piece : List ℕ) → lo < 134217729 → ln ≡ lo + used → 0 < length piece → IsUsed s piece used → work_at s ln < 134217729 - lo
work_less Key lo ln used piece low e some u = omega (arith, low, e, some, u)
work_less (Fields v) lo ln used piece low e some u = omega (arith, low, e, some, u)
work_less (Body h) lo ln used piece low e some u = omega (arith, low, e, some, u)
work_less (Whole r) lo ln used piece low e some u = omega (arith, low)
work_less (Wrong place reason) lo ln used piece low e some u = omega (arith, low)
work_less NoMemory lo ln used piece low e some u = omega (arith, low)

pub less_work : (before : Option Previous) (so sn : Stage) (old new piece : List ℕ) (used : ℕ) → IsStageOf before old so → 0 < length piece → length piece ≤ missing_at so (length old) → used ≤ length piece → new ≡ old ++ take used piece → IsUsed sn piece used → work_at sn (length new) < work_at so (length old)
less_work before Key sn old new piece used stands some short within e u =
    work_less sn (length old) (length new) used piece (omega (arith, stands)) (ap length e ∙ length-append old (take used piece) ∙ ap (λ k. length old + k) (length-take-le used piece within)) some u
less_work before (Fields v) sn old new piece used stands some short within e u =
    work_less sn (length old) (length new) used piece (omega (arith, stands.1.0, short_head v)) (ap length e ∙ length-append old (take used piece) ∙ ap (λ k. length old + k) (length-take-le used piece within)) some u
less_work before (Body h) sn old new piece used stands some short within e u =
    work_less sn (length old) (length new) used piece (omega (arith, stands.1, stands.0.size_below)) (ap length e ∙ length-append old (take used piece) ∙ ap (λ k. length old + k) (length-take-le used piece within)) some u
less_work before (Whole r) sn old new piece used stands some short within e u = absurd (omega (arith, some, short))
less_work before (Wrong place reason) sn old new piece used stands some short within e u = absurd (omega (arith, some, short))
less_work before NoMemory sn old new piece used stands some short within e u = absurd (omega (arith, some, short))

-- ---- several calls

pub joins_same : (left : Option (List ℕ)) (taken : List ℕ) → Joins left left taken taken
joins_same None taken = refl
joins_same (Some left) taken = (left, (refl, refl))

pub joins_more : (a b c : Option (List ℕ)) (s t u : List ℕ) → Joins a b s t → Joins b c t u → Joins a c s u
joins_more None b c s t u x y = subst (λ (o : Option (List ℕ)). Joins o c t u) x y
joins_more (Some left) b c s t u (rest, (e, j)) y =
    let z : Joins (Some rest) c t u = subst (λ (o : Option (List ℕ)). Joins o c t u) e y in (z.0, (z.1.0, j ∙ z.1.1))

pub follow_any : (s : Stage) (joins : Type 0) → joins → Follows s joins
follow_any Key joins j = j
follow_any (Fields v) joins j = j
follow_any (Body h) joins j = j
follow_any (Whole r) joins j = j
follow_any (Wrong place reason) joins j = j
follow_any NoMemory joins j = tt

follow_map : (s : Stage) (x y : Type 0) → (x → y) → Follows s x → Follows s y
follow_map Key x y f j = f j
follow_map (Fields v) x y f j = f j
follow_map (Body h) x y f j = f j
follow_map (Whole r) x y f j = f j
follow_map (Wrong place reason) x y f j = f j
follow_map NoMemory x y f j = tt

pub follow_more : (so sn : Stage) (x y z : Type 0) → (so ≡ NoMemory → Follows sn z) → (x → y → z) → Follows so x → Follows sn y → Follows sn z
follow_more Key sn x y z other f a b = follow_map sn y z (f a) b
follow_more (Fields v) sn x y z other f a b = follow_map sn y z (f a) b
follow_more (Body h) sn x y z other f a b = follow_map sn y z (f a) b
follow_more (Whole r) sn x y z other f a b = follow_map sn y z (f a) b
follow_more (Wrong place reason) sn x y z other f a b = follow_map sn y z (f a) b
follow_more NoMemory sn x y z other f a b = other refl

pub no_memory_follows : (s : Stage) (joins : Type 0) → s ≡ NoMemory → Follows s joins
no_memory_follows s joins e = subst (λ (t : Stage). Follows t joins) (sym e) tt

-- ---- the end

at_end : (left1 : Option (List ℕ)) (rest : List ℕ) → left1 ≡ Some rest → IsAtEnd left1 → rest ≡ []
at_end left1 rest e end = subst IsAtEnd e end

pub found_more : (left0 left1 : Option (List ℕ)) (taken : List ℕ) → IsMore taken → Joins left0 left1 [] taken → IsAtEnd left1 → IsSized (Err (Blob (record { reason = Truncated; place = length taken }))) left0 left1
found_more None left1 taken more j end = j
found_more (Some input) left1 taken more (rest, (e, j)) end = (taken, (rest, (j, (e, inr (more, (at_end left1 rest e end, refl))))))

pub waits : (n : ℕ) (P : Type 0) → 0 < n → (n ≡ 0) ⊎ P → P
waits n P some (inl e) = absurd (omega (arith, some, e))
waits n P some (inr p) = p

pub decoded : (s : Stage) (taken : List ℕ) (left0 left1 : Option (List ℕ)) → IsStageOf None taken s → Follows s (Joins left0 left1 [] taken) → Begins left0 [] taken → (missing_at s (length taken) ≡ 0) ⊎ IsAtEnd left1
    → IsSized (from_finished (finished_at s taken) (length taken)) left0 left1
decoded Key taken left0 left1 stands f b end = found_more left0 left1 taken (told_of None taken Key stands) f (waits (10 - length taken) (IsAtEnd left1) (omega (arith, stands)) end)
decoded (Fields v) taken left0 left1 stands f b end = found_more left0 left1 taken (told_of None taken (Fields v) stands) f (waits (head_length v - length taken) (IsAtEnd left1) (omega (arith, stands.1.0)) end)
decoded (Body h) taken left0 left1 stands f b end = found_more left0 left1 taken (told_of None taken (Body h) stands) f (waits (h.size - length taken) (IsAtEnd left1) (omega (arith, stands.1)) end)
decoded (Whole r) taken None left1 stands f b end = f
decoded (Whole r) taken (Some input) left1 stands (rest, (e, j)) b end = (taken, (rest, (j, (e, (stands.0, refl)))))
decoded (Wrong place reason) taken None left1 stands f b end = f
decoded (Wrong place reason) taken (Some input) left1 stands (rest, (e, j)) b end = (taken, (rest, (j, (e, inl stands))))
decoded NoMemory taken None left1 stands f b end = tt
decoded NoMemory taken (Some input) left1 stands f (rest, j) end = record { header = stands.header; stands = subst (λ (u : List ℕ). HeadAt u stands.header) (sym j) (head_more taken rest stands.header stands.stands) }

pub decoded_raster : (s : Stage) (taken : List ℕ) (size : ℕ) → IsStageOf None taken s → IfOk (from_finished (finished_at s taken) size) (λ d. IsRaster d.raster)
decoded_raster Key taken size stands = tt
decoded_raster (Fields v) taken size stands = tt
decoded_raster (Body h) taken size stands = tt
decoded_raster (Whole r) taken size stands = stands.0.1.0
decoded_raster (Wrong place reason) taken size stands = tt
decoded_raster NoMemory taken size stands = tt

-- ---- bytes that came first

pub begins_once : (left0 left1 : Option (List ℕ)) (got used : ℕ) (buf old new : List ℕ) → Takes left0 left1 (Ok got) buf → new ≡ old ++ take used (take got buf) → Begins left0 old new
begins_once None left1 got used buf old new takes e = tt
begins_once (Some left) left1 got used buf old new takes e =
    let piece = take got left in
    let rest = drop used piece ++ drop got left in (
      rest,
      ap (λ u. old ++ u) (sym (take-append-drop got left) ∙ ap (λ u. u ++ drop got left) (sym (take-append-drop used piece)) ∙ append_assoc (take used piece) (drop used piece) (drop got left))
          ∙ sym (append_assoc old (take used piece) rest) ∙ ap (λ (u : List ℕ). (old ++ take used u) ++ rest) (sym takes.0.1.1) ∙ ap (λ u. u ++ rest) (sym e),
    )

pub begins_same : (left : Option (List ℕ)) (taken : List ℕ) → Begins left taken taken
begins_same None taken = tt
begins_same (Some left) taken = (left, refl)

begins_join : (a b : Option (List ℕ)) (s t u : List ℕ) → Joins a b s t → Begins b t u → Begins a s u
begins_join None b s t u j more = tt
begins_join (Some left) b s t u (rest, (e, j)) more =
    let there : Begins (Some rest) t u = subst (λ (o : Option (List ℕ)). Begins o t u) e more in (there.0, j ∙ there.1)

pub begins_more : (st : Stage) (a b : Option (List ℕ)) (s t u : List ℕ) → (st ≡ NoMemory → Begins a s u) → Follows st (Joins a b s t) → Begins b t u → Begins a s u
begins_more Key a b s t u other f more = begins_join a b s t u f more
begins_more (Fields v) a b s t u other f more = begins_join a b s t u f more
begins_more (Body h) a b s t u other f more = begins_join a b s t u f more
begins_more (Whole r) a b s t u other f more = begins_join a b s t u f more
begins_more (Wrong place reason) a b s t u other f more = begins_join a b s t u f more
begins_more NoMemory a b s t u other f more = other refl

-- ---- how many bytes are taken at most

pub takes_few : (left0 left1 : Option (List ℕ)) (r : Result ℕ Failed) (buf : List ℕ) (room : ℕ) → Takes left0 left1 r buf → IfOk r (λ n. n ≤ length buf) → length buf ≤ room → TakesUpTo room left0 left1
takes_few None left1 r buf room takes within few = takes
takes_few (Some left) left1 (Ok n) buf room takes within few = (n, (omega (arith, within, few), (takes.0.1.0, takes.0.0)))
takes_few (Some left) left1 (Err e) buf room takes within few = (0, (omega arith, (omega arith, takes)))

pub takes_none : (left : Option (List ℕ)) (most : ℕ) → TakesUpTo most left left
takes_none None most = refl
takes_none (Some left) most = (0, (omega arith, (omega arith, refl)))

same_left : (left1 left2 : Option (List ℕ)) (room : ℕ) → room ≡ 0 → TakesUpTo room left1 left2 → left2 ≡ left1
same_left None left2 room zero t = t
same_left (Some rest) left2 room zero (m, (few, (within, e))) = let none : m ≡ 0 = omega (arith, zero, few) in e ∙ ap (λ k. Some (drop k rest)) none

few_live : (left0 left1 left2 : Option (List ℕ)) (taken : List ℕ) (room : ℕ) → Joins left0 left1 [] taken → length taken + room ≤ 134217728 → TakesUpTo room left1 left2 → TakesUpTo 134217728 left0 left2
few_live None left1 left2 taken room j most t = let there : TakesUpTo room None left2 = subst (λ (o : Option (List ℕ)). TakesUpTo room o left2) j t in there
few_live (Some left) left1 left2 taken room (rest, (e, j)) most t =
    let there : TakesUpTo room (Some rest) left2 = subst (λ (o : Option (List ℕ)). TakesUpTo room o left2) e t in
    let m = there.0 in (
      length taken + m,
      (
        omega (arith, most, there.1.0),
        (
          omega (arith, ap length j, length-append taken rest, there.1.1.0),
          there.1.1.1 ∙ ap Some (sym (drop-append-add taken rest m) ∙ ap (drop (length taken + m)) (sym j)),
        ),
      ),
    )

few_stopped : (left0 left1 left2 : Option (List ℕ)) (room : ℕ) → room ≡ 0 → TakesUpTo room left1 left2 → TakesUpTo 134217728 left0 left1 → TakesUpTo 134217728 left0 left2
few_stopped left0 left1 left2 room zero t before = subst (TakesUpTo 134217728 left0) (sym (same_left left1 left2 room zero t)) before

few_from_nothing : (before : Option Previous) (s : Stage) (left0 left1 left2 : Option (List ℕ)) (taken : List ℕ) (room : ℕ) → IsStageOf before taken s → Follows s (Joins left0 left1 [] taken) → room ≤ missing_at s (length taken)
    → TakesUpTo room left1 left2 → TakesUpTo 134217728 left0 left1 → TakesUpTo 134217728 left0 left2
few_from_nothing behind Key left0 left1 left2 taken room stands f short t before = few_live left0 left1 left2 taken room f (omega (arith, stands, short)) t
few_from_nothing behind (Fields v) left0 left1 left2 taken room stands f short t before = few_live left0 left1 left2 taken room f (omega (arith, stands.1.0, short, short_head v)) t
few_from_nothing behind (Body h) left0 left1 left2 taken room stands f short t before = few_live left0 left1 left2 taken room f (omega (arith, stands.1, short, stands.0.size_below)) t
few_from_nothing behind (Whole r) left0 left1 left2 taken room stands f short t before = few_stopped left0 left1 left2 room (omega (arith, short)) t before
few_from_nothing behind (Wrong place reason) left0 left1 left2 taken room stands f short t before = few_stopped left0 left1 left2 room (omega (arith, short)) t before
few_from_nothing behind NoMemory left0 left1 left2 taken room stands f short t before = few_stopped left0 left1 left2 room (omega (arith, short)) t before

pub few_more : (before : Option Previous) (s : Stage) (left0 left1 left2 : Option (List ℕ)) (old taken : List ℕ) (room : ℕ) → old ≡ [] → IsStageOf before taken s → Follows s (Joins left0 left1 old taken) → room ≤ missing_at s (length taken)
    → TakesUpTo room left1 left2 → TakesUpTo 134217728 left0 left1 → TakesUpTo 134217728 left0 left2
few_more behind s left0 left1 left2 old taken room none stands f short t before =
    few_from_nothing behind s left0 left1 left2 taken room stands (subst (λ (u : List ℕ). Follows s (Joins left0 left1 u taken)) none f) short t before

-- ---- the raster alone

pub alone : (d : Decoded) (old new : Option (List ℕ)) → IsSized (Ok d) old new → IsDecoded (Ok d.raster) old new
alone d None new t = t
alone d (Some input) new (taken, (rest, (j, (e, found)))) = (taken, (rest, (j, (e, found.0))))
