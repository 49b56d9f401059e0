-- The answer to a whole input that is to be one grid of bands: there is one.
use Rattle.std.proofs.Common.{◌≡◌, ℕ, List, [], length, length-append, None, Some, refl, sym, ap, subst, ◌∙◌, arith}
use Rattle.std.proofs.lemmas.List.{append-nil}
use Rattle.raster_values.specs.Raster.{Pixels}
use Rattle.raster_grids.specs.declared.reading.GridReason.{GridReason}
use Rattle.raster_grids.specs.BandsGrid.{IsBandsGrid, bands_faults}
use Rattle.raster_grids.proofs.BandsGridLaws.{bands_grids_are_parts}
use Rattle.lerc_header.specs.declared.header.Version.{Version}
use Rattle.lerc_header.specs.Written.{step_of}
use Rattle.lerc_encode.specs.Choice.{chosen_bands}
use Rattle.lerc_encode.specs.Encoded.{BandsNeedV4}
use Rattle.grid_blobs.specs.declared.stop.InputReason.{InputReason}
use Rattle.grid_blobs.specs.declared.stop.InputReason.TheVariants.{Grid, Leftover, DepthNeedsV4}
use Rattle.grid_blobs.specs.Blobs.{AreBlobsOf}
use Rattle.grid_blobs.specs.Stops.{EndsBefore, IsFirstFault}

one_grid : (input : List ℕ) (bands others : List Pixels) → IsBandsGrid input bands → IsBandsGrid input others → bands ≡ others
one_grid input bands others g h = (bands_grids_are_parts.once input input [] [] bands others g h refl).1

-- bytes behind a grid
front_is : (input : List ℕ) (bands : List Pixels) (place : ℕ) → IsBandsGrid input bands → (h : EndsBefore input place) → h.grid ≡ input
front_is input bands place g h = (bands_grids_are_parts.once h.grid input h.rest [] h.bands bands h.stands g (sym h.joined ∙ sym (append-nil input))).0

not_behind : (input : List ℕ) (bands : List Pixels) (place : ℕ) → IsBandsGrid input bands → EndsBefore input place → ⊥
not_behind input bands place g h =
    let whole = ap length (front_is input bands place g h) in
    let all = ap length h.joined in omega (arith, whole, all, length-append h.grid h.rest, h.more)

one_end : (input : List ℕ) (p q : ℕ) → EndsBefore input p → EndsBefore input q → p ≡ q
one_end input p q g h = g.ends ∙ ap length (bands_grids_are_parts.once g.grid h.grid g.rest h.rest g.bands h.bands g.stands h.stands (sym g.joined ∙ h.joined)).0 ∙ sym h.ends

-- a fault and a grid
no_fault : (input : List ℕ) (bands : List Pixels) (place : ℕ) (reason : GridReason) → IsBandsGrid input bands → bands_faults input place reason → ⊥
no_fault input bands place reason g f = bands_grids_are_parts.either input [] bands place reason g (subst (λ (u : List ℕ). bands_faults u place reason) (sym (append-nil input)) f)

no_fault_before : (input : List ℕ) (p q : ℕ) (reason : GridReason) → bands_faults input p reason → EndsBefore input q → ⊥
no_fault_before input p q reason f h = bands_grids_are_parts.either h.grid h.rest h.bands p reason h.stands (subst (λ (u : List ℕ). bands_faults u p reason) h.joined f)

-- the blobs of an input are once
pub one_tile : (version : Version) (error : ℕ) (input t u : List ℕ) → AreBlobsOf version error (Some input) t → AreBlobsOf version error (Some input) u → t ≡ u
one_tile version error input t u a b =
    a.blobs_are.chosen ∙ (ap (λ (l : List Pixels). chosen_bands None l version (step_of error)) (one_grid input a.bands b.bands a.grid b.grid) ∙ sym b.blobs_are.chosen)

-- it has blobs, or a first fault
pub blobs_or_fault : (version : Version) (error : ℕ) (input tile : List ℕ) (place : ℕ) (reason : InputReason) → AreBlobsOf version error (Some input) tile
    → IsFirstFault version input place reason → ⊥
blobs_or_fault version error input tile place (Grid reason) a h = no_fault input a.bands place reason a.grid h
blobs_or_fault version error input tile place Leftover a h = not_behind input a.bands place a.grid h
blobs_or_fault version error input tile place DepthNeedsV4 a h = a.flat (subst (BandsNeedV4 version) (one_grid input h.1.1.0 a.bands h.1.1.1.0 a.grid) h.1.1.1.1)

-- the first fault is one
pub one_fault : (version : Version) (input : List ℕ) (p q : ℕ) (a b : InputReason) → IsFirstFault version input p a → IsFirstFault version input q b → (p ≡ q) × (a ≡ b)
one_fault version input p q (Grid a) (Grid b) f g = let same = bands_grids_are_parts.single input p q a b f g in (same.0, ap Grid same.1)
one_fault version input p q (Grid a) Leftover f g = absurd (no_fault_before input p q a f g)
one_fault version input p q (Grid a) DepthNeedsV4 f g = absurd (no_fault input g.1.1.0 p a g.1.1.1.0 f)
one_fault version input p q Leftover (Grid b) f g = absurd (no_fault_before input q p b g f)
one_fault version input p q Leftover Leftover f g = (one_end input p q f g, refl)
one_fault version input p q Leftover DepthNeedsV4 f g = absurd (not_behind input g.1.1.0 p g.1.1.1.0 f)
one_fault version input p q DepthNeedsV4 (Grid b) f g = absurd (no_fault input f.1.1.0 q b f.1.1.1.0 g)
one_fault version input p q DepthNeedsV4 Leftover f g = absurd (not_behind input f.1.1.0 q f.1.1.1.0 g)
one_fault version input p q DepthNeedsV4 DepthNeedsV4 f g = (f.0 ∙ sym g.0, refl)
