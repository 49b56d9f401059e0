-- The answer to a whole input that is to be one grid of bands: there is one.
use Rattle.std.proofs.Common.{◌≡◌, ℕ, List, [], length, length-append, Option, Some, refl, sym, ap, subst, ◌∙◌, arith}
use Rattle.std.proofs.lemmas.List.{append-nil}
use Rattle.raster_grids.specs.declared.reading.GridReason.{GridReason}
use Rattle.raster_values.specs.Raster.{Pixels}
use Rattle.raster_grids.specs.BandsGrid.{IsBandsGrid, bands_faults}
use Rattle.raster_grids.proofs.BandsGridLaws.{bands_grids_are_parts}
use Rattle.lerc_header.specs.declared.header.Version.{Version}
use Rattle.lerc_cli.specs.declared.refusal.Reason.{Reason}
use Rattle.lerc_cli.specs.declared.refusal.Reason.TheVariants.{Blob, BadBand, Grid, Leftover, DepthNeedsV4, BadTileMark, BadSlot}
use Rattle.lerc_cli.specs.inputs.Refused.{EndsBefore, IsNotEncoded}
use Rattle.opened_bundle.specs.Files.{Files}
use Rattle.lerc_cli.specs.inputs.Given.{given}
use Rattle.lerc_encode.specs.Encoded.{BandsNeedV4}

pub one_grid : (input : List ℕ) (bands others : List Pixels) → IsBandsGrid input bands → IsBandsGrid input others → bands ≡ others
one_grid input bands others g h = (bands_grids_are_parts.once input input [] [] bands others g h refl).1

-- bytes behind a grid
front_is : (input : List ℕ) (bands : List Pixels) (place : ℕ) → IsBandsGrid input bands → (h : EndsBefore input place) → h.grid ≡ input
front_is input bands place g h = (bands_grids_are_parts.once h.grid input h.rest [] h.bands bands h.stands g (sym h.joined ∙ sym (append-nil input))).0

not_behind : (input : List ℕ) (bands : List Pixels) (place : ℕ) → IsBandsGrid input bands → EndsBefore input place → ⊥
not_behind input bands place g h =
    let whole = ap length (front_is input bands place g h) in
    let all = ap length h.joined in omega (arith, whole, all, length-append h.grid h.rest, h.more)

one_end : (input : List ℕ) (p q : ℕ) → EndsBefore input p → EndsBefore input q → p ≡ q
one_end input p q g h = g.ends ∙ ap length (bands_grids_are_parts.once g.grid h.grid g.rest h.rest g.bands h.bands g.stands h.stands (sym g.joined ∙ h.joined)).0 ∙ sym h.ends

-- a fault and a grid
no_fault : (input : List ℕ) (bands : List Pixels) (place : ℕ) (reason : GridReason) → IsBandsGrid input bands → bands_faults input place reason → ⊥
no_fault input bands place reason g f = bands_grids_are_parts.either input [] bands place reason g (subst (λ (u : List ℕ). bands_faults u place reason) (sym (append-nil input)) f)

no_fault_before : (input : List ℕ) (p q : ℕ) (reason : GridReason) → bands_faults input p reason → EndsBefore input q → ⊥
no_fault_before input p q reason f h = bands_grids_are_parts.either h.grid h.rest h.bands p reason h.stands (subst (λ (u : List ℕ). bands_faults u p reason) h.joined f)

pub grid_or_refusal : (version : Version) (input : List ℕ) (files : Option Files) (bands : List Pixels) → IsBandsGrid input bands → ¬ BandsNeedV4 version bands → (place : ℕ) (reason : Reason)
    → IsNotEncoded version (given (Some input) files) place reason → ⊥
grid_or_refusal version input files bands g fits place (Blob reason) h = h
grid_or_refusal version input files bands g fits place BadBand h = h
grid_or_refusal version input files bands g fits place (Grid reason) h = no_fault input bands place reason g h
grid_or_refusal version input files bands g fits place BadTileMark h = h
grid_or_refusal version input files bands g fits place BadSlot h = h
grid_or_refusal version input files bands g fits place Leftover h = not_behind input bands place g h
grid_or_refusal version input files bands g fits place DepthNeedsV4 h = fits (subst (BandsNeedV4 version) (one_grid input h.2.0 bands h.2.1.0 g) h.2.1.1)

pub one_refusal : (version : Version) (input : List ℕ) (files : Option Files) (p q : ℕ) (a b : Reason)
    → IsNotEncoded version (given (Some input) files) p a → IsNotEncoded version (given (Some input) files) q b → (p ≡ q) × (a ≡ b)
one_refusal version input files p q (Blob a) b f g = absurd f
one_refusal version input files p q BadBand b f g = absurd f
one_refusal version input files p q BadTileMark b f g = absurd f
one_refusal version input files p q BadSlot b f g = absurd f
one_refusal version input files p q (Grid a) BadTileMark f g = absurd g
one_refusal version input files p q (Grid a) BadSlot f g = absurd g
one_refusal version input files p q Leftover BadTileMark f g = absurd g
one_refusal version input files p q Leftover BadSlot f g = absurd g
one_refusal version input files p q DepthNeedsV4 BadTileMark f g = absurd g
one_refusal version input files p q DepthNeedsV4 BadSlot f g = absurd g
one_refusal version input files p q (Grid a) (Blob b) f g = absurd g
one_refusal version input files p q Leftover (Blob b) f g = absurd g
one_refusal version input files p q DepthNeedsV4 (Blob b) f g = absurd g
one_refusal version input files p q (Grid a) BadBand f g = absurd g
one_refusal version input files p q Leftover BadBand f g = absurd g
one_refusal version input files p q DepthNeedsV4 BadBand f g = absurd g
one_refusal version input files p q (Grid a) (Grid b) f g = let same = bands_grids_are_parts.single input p q a b f g in (same.0, ap Grid same.1)
one_refusal version input files p q (Grid a) Leftover f g = absurd (no_fault_before input p q a f g)
one_refusal version input files p q (Grid a) DepthNeedsV4 f g = absurd (no_fault input g.2.0 p a g.2.1.0 f)
one_refusal version input files p q Leftover (Grid b) f g = absurd (no_fault_before input q p b g f)
one_refusal version input files p q Leftover Leftover f g = (one_end input p q f g, refl)
one_refusal version input files p q Leftover DepthNeedsV4 f g = absurd (not_behind input g.2.0 p g.2.1.0 f)
one_refusal version input files p q DepthNeedsV4 (Grid b) f g = absurd (no_fault input f.2.0 q b f.2.1.0 g)
one_refusal version input files p q DepthNeedsV4 Leftover f g = absurd (not_behind input f.2.0 q f.2.1.0 g)
one_refusal version input files p q DepthNeedsV4 DepthNeedsV4 f g = (f.0 ∙ sym g.0, refl)
