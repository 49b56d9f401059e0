use Rattle.std.proofs.Common.{◌≡◌, ℕ, true, ap, sym, subst, ◌∙◌, length}
use Rattle.std.specs.Prelude.{◌&&◌, nat_eq}
use Rattle.std.proofs.lemmas.Bool.{and_parts, eqb-true}
use Rattle.raster_cells.specs.PixelType.{bytes_of}
use Rattle.delta_mode.specs.Symbols.{IsByteType}
use Rattle.lerc_encode.specs.Codings.{have_codes}
use Rattle.raster_values.specs.Raster.{Pixels}
use Rattle.lerc_header.specs.declared.header.Version.{Version}
use Rattle.delta_mode.specs.Deltas.{plain as plain_symbols}
use Rattle.lerc_encode.specs.Heads.{header_of}
use Rattle.lerc_encode.specs.Images as images
use Rattle.lerc_encode.specs.Images.{all_deltas}
use Rattle.lerc_encode.specs.declared.image.forms.ValueForm.TheVariants.{Delta, Plain}
use Rattle.lerc_encode.specs.Images.{coded_form_bytes}
use Rattle.lerc_encode.specs.inside.Choosing.{named}
use Rattle.lerc_encode.specs.declared.image.forms.ValueForm.{ValueForm}
use Rattle.lerc_encode.proofs.Forming.{base_blocked, large_blocked, large_header, sweep_is, small_is, large_is}
use Rattle.lerc_encode.specs.inside.Choosing.{IsChosen}
use Rattle.lerc_encode.specs.inside.Coded.{AreThere}
use Rattle.lerc_encode.specs.declared.image.forms.Chosen.{Chosen}
use Rattle.lerc_encode.proofs.Candidates.{chosen_may, delta_is, measured_here, plain_is}
use Rattle.lerc_encode.proofs.Standing.{MayBe}
use Rattle.lerc_encode.proofs.SymbolSteps.{symbols_there}
use Rattle.lerc_encode.proofs.image.forms.write_form.Goals as goal

-- the form that is chosen may be there
chosen_there : (r : Pixels) (version : Version) (step : ℕ) (chosen : Chosen) (form : ValueForm) → IsChosen r version step chosen → chosen.form ≡ form → MayBe r version step (named form)
chosen_there r version step chosen form is e = subst (MayBe r version step) (sym is.form ∙ ap named e) (chosen_may r version step)

deltas_there : (r : Pixels) (version : Version) (step : ℕ) (chosen : Chosen) → IsChosen r version step chosen → chosen.form ≡ Delta → AreThere (all_deltas r) chosen.codings.deltas
deltas_there r version step chosen is e =
    symbols_there (images.has_mode r step) (all_deltas r) chosen.codings.deltas is.codings_are.deltas (chosen_there r version step chosen Delta is e)

plains_there : (r : Pixels) (version : Version) (step : ℕ) (chosen : Chosen) → IsChosen r version step chosen → chosen.form ≡ Plain → AreThere (plain_symbols r) chosen.codings.plains
plains_there r version step chosen is e =
    symbols_there (images.has_mode r step && images.is_v4 version) (plain_symbols r) chosen.codings.plains is.codings_are.plains (chosen_there r version step chosen Plain is e)

-- where symbols stand for values, these take a byte
byte_of_mode : (r : Pixels) (step : ℕ) → images.has_mode r step ≡ true → IsByteType r.kind
byte_of_mode r step h = eqb-true (bytes_of r.kind) 1 (and_parts (nat_eq (bytes_of r.kind) 1) (nat_eq step 1) h).0

pub write_sweep-requires : goal.write_sweep-requires
write_sweep-requires g c =
    let h = c.args.base.now in
    let r = (g.V.View.pixels c.args.raster.now) in
    c.requires.room ∙ ap (λ (f : ValueForm). length (coded_form_bytes r h.version h.step (named f))) c.in-Sweep.is ∙ sym (ap length (sweep_is r h.version h.step))

pub invariant_of-small : goal.invariant_of-small
invariant_of-small g c = record { blocked = base_blocked c.args.base.now (g.V.View.pixels c.args.raster.now) c.requires.base }

pub write_block_form-requires-clause-measured : goal.write_block_form-requires-clause-measured
write_block_form-requires-clause-measured g c =
    let h = c.args.base.now in
    let r = (g.V.View.pixels c.args.raster.now) in
    let chosen = c.args.chosen.now in
    measured_here h (header_of r h.version h.step 8 0 0) r images.blocks_8 (named chosen.form) chosen.small c.requires.chosen.small_are (ap named c.in-SmallBlocks.is) c.requires.base.is

pub write_block_form-requires-clause-room : goal.write_block_form-requires-clause-room
write_block_form-requires-clause-room g c =
    let h = c.args.base.now in
    let r = (g.V.View.pixels c.args.raster.now) in
    c.requires.room ∙ ap (λ (f : ValueForm). length (coded_form_bytes r h.version h.step (named f))) c.in-SmallBlocks.is ∙ sym (ap length (small_is h r c.requires.base))

pub invariant_of-large : goal.invariant_of-large
invariant_of-large g c = record { blocked = large_blocked c.args.base.now c.with_large-header.result (g.V.View.pixels c.args.raster.now) c.requires.base c.with_large-header.ensures }

pub write_block_form-requires-in-LargeBlocks-clause-measured : goal.write_block_form-requires-in-LargeBlocks-clause-measured
write_block_form-requires-in-LargeBlocks-clause-measured g c =
    let h = c.args.base.now in
    let r = (g.V.View.pixels c.args.raster.now) in
    let chosen = c.args.chosen.now in
    measured_here c.with_large-header.result (header_of r h.version h.step 16 0 0) r images.blocks_16 (named chosen.form) chosen.large c.requires.chosen.large_are (ap named c.in-LargeBlocks.is) (c.with_large-header.ensures ∙ large_header h r c.requires.base)

pub write_block_form-requires-in-LargeBlocks-clause-room : goal.write_block_form-requires-in-LargeBlocks-clause-room
write_block_form-requires-in-LargeBlocks-clause-room g c =
    let h = c.args.base.now in
    let r = (g.V.View.pixels c.args.raster.now) in
    c.requires.room ∙ ap (λ (f : ValueForm). length (coded_form_bytes r h.version h.step (named f))) c.in-LargeBlocks.is ∙ sym (ap length (large_is h c.with_large-header.result r c.requires.base c.with_large-header.ensures))

pub returns-in-Sweep : goal.returns-in-Sweep
returns-in-Sweep g c =
    let h = c.args.base.now in
    let r = (g.V.View.pixels c.args.raster.now) in
    c.write_sweep.ensures ∙ sweep_is r h.version h.step ∙ ap (λ (f : ValueForm). coded_form_bytes r h.version h.step (named f)) (sym c.in-Sweep.is)

pub returns-in-SmallBlocks : goal.returns-in-SmallBlocks
returns-in-SmallBlocks g c =
    let h = c.args.base.now in
    let r = (g.V.View.pixels c.args.raster.now) in
    c.write_block_form.ensures ∙ small_is h r c.requires.base ∙ ap (λ (f : ValueForm). coded_form_bytes r h.version h.step (named f)) (sym c.in-SmallBlocks.is)

pub returns-in-LargeBlocks : goal.returns-in-LargeBlocks
returns-in-LargeBlocks g c =
    let h = c.args.base.now in
    let r = (g.V.View.pixels c.args.raster.now) in
    c.write_block_form-in-LargeBlocks.ensures ∙ large_is h c.with_large-header.result r c.requires.base c.with_large-header.ensures ∙ ap (λ (f : ValueForm). coded_form_bytes r h.version h.step (named f)) (sym c.in-LargeBlocks.is)

pub write_coded_form-requires-clause-kind : goal.write_coded_form-requires-clause-kind
write_coded_form-requires-clause-kind g c =
    let r = (g.V.View.pixels c.args.raster.now) in
    let h = c.args.base.now in
    byte_of_mode r h.step (and_parts (images.has_mode r h.step) (have_codes (all_deltas r)) (chosen_there r h.version h.step c.args.chosen.now Delta c.requires.chosen c.in-Delta.is)).0

pub write_coded_form-requires-clause-coding : goal.write_coded_form-requires-clause-coding
write_coded_form-requires-clause-coding g c = deltas_there (g.V.View.pixels c.args.raster.now) c.args.base.now.version c.args.base.now.step c.args.chosen.now c.requires.chosen c.in-Delta.is

pub write_coded_form-requires-clause-room : goal.write_coded_form-requires-clause-room
write_coded_form-requires-clause-room g c =
    let h = c.args.base.now in
    let r = (g.V.View.pixels c.args.raster.now) in
    c.requires.room ∙ ap (λ (f : ValueForm). length (coded_form_bytes r h.version h.step (named f))) c.in-Delta.is ∙ sym (ap length (delta_is r h.version h.step))

pub returns-in-Delta : goal.returns-in-Delta
returns-in-Delta g c =
    let h = c.args.base.now in
    let r = (g.V.View.pixels c.args.raster.now) in
    c.write_coded_form.ensures ∙ delta_is r h.version h.step ∙ ap (λ (f : ValueForm). coded_form_bytes r h.version h.step (named f)) (sym c.in-Delta.is)

pub write_coded_form-requires-in-Plain-clause-kind : goal.write_coded_form-requires-in-Plain-clause-kind
write_coded_form-requires-in-Plain-clause-kind g c =
    let r = (g.V.View.pixels c.args.raster.now) in
    let h = c.args.base.now in
    let may = and_parts (images.has_mode r h.step && images.is_v4 h.version) (have_codes (plain_symbols r)) (chosen_there r h.version h.step c.args.chosen.now Plain c.requires.chosen c.in-Plain.is) in
    byte_of_mode r h.step (and_parts (images.has_mode r h.step) (images.is_v4 h.version) may.0).0

pub write_coded_form-requires-in-Plain-clause-coding : goal.write_coded_form-requires-in-Plain-clause-coding
write_coded_form-requires-in-Plain-clause-coding g c = plains_there (g.V.View.pixels c.args.raster.now) c.args.base.now.version c.args.base.now.step c.args.chosen.now c.requires.chosen c.in-Plain.is

pub write_coded_form-requires-in-Plain-clause-room : goal.write_coded_form-requires-in-Plain-clause-room
write_coded_form-requires-in-Plain-clause-room g c =
    let h = c.args.base.now in
    let r = (g.V.View.pixels c.args.raster.now) in
    c.requires.room ∙ ap (λ (f : ValueForm). length (coded_form_bytes r h.version h.step (named f))) c.in-Plain.is ∙ sym (ap length (plain_is r h.version h.step))

pub returns-in-Plain : goal.returns-in-Plain
returns-in-Plain g c =
    let h = c.args.base.now in
    let r = (g.V.View.pixels c.args.raster.now) in
    c.write_coded_form-in-Plain.ensures ∙ plain_is r h.version h.step ∙ ap (λ (f : ValueForm). coded_form_bytes r h.version h.step (named f)) (sym c.in-Plain.is)
