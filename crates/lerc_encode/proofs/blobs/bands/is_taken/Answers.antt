use Rattle.std.proofs.Common.{◌≡◌, ◌∙◌, Option, Some, sym, ap}
use Rattle.std.specs.Prelude.{unwrap_or}
use Rattle.raster_values.specs.Raster.{Pixels}
use Rattle.lerc_grammar.specs.Mask.{previous_of}
use Rattle.lerc_encode.specs.Masks.{takes_mask}
use Rattle.lerc_encode.proofs.Joining.{next_taken}
use Rattle.lerc_encode.proofs.blobs.bands.is_taken.Goals as goal

pub returns-then-k-gt0 : goal.returns-then-k-gt0
returns-then-k-gt0 c = λ r e.
    let p = c.at.result.now in
    let same : c.at-then-k-gt0.result.now ≡ r = ap (λ (u : Option Pixels). unwrap_or u r) (sym c.at-then-k-gt0.ensures ∙ e) in
    c.takes_mask.ensures ∙ ap (λ (x : Pixels). takes_mask (Some (previous_of p)) x) same
    ∙ next_taken c.args.bands.now c.args.k p r c.if-k-gt0.true c.at.ensures
