use Rattle.std.proofs.Common.{◌≡◌, ◌∙◌, Bool, true, false, refl, ap, arith}
use Rattle.std.specs.Prelude.{cond}
use mir.Val.{bool_byte}
use Rattle.tile_audit.specs.Audit.{is_damaged, is_foreign, is_summed, is_unread, is_whole}
use Rattle.tile_audit.proofs.Counts.{one_of}
use Rattle.tile_audit.proofs.totals.Totals.with_tile.Goals as goal

byte_is : (b : Bool) → bool_byte b ≡ cond b 1 0
byte_is true = refl
byte_is false = refl

pub invariant_of-result : goal.invariant_of-result
invariant_of-result c =
    let self = c.args.self.now in
    let whole : bool_byte c.finds_whole.result ≡ cond (is_whole c.args.tile.now.finding) 1 0 = byte_is c.finds_whole.result ∙ ap (λ b. cond b 1 0) c.finds_whole.ensures in
    let summed : bool_byte c.finds_summed.result ≡ cond (is_summed c.args.tile.now.finding) 1 0 = byte_is c.finds_summed.result ∙ ap (λ b. cond b 1 0) c.finds_summed.ensures in
    let foreign : bool_byte c.finds_foreign.result ≡ cond (is_foreign c.args.tile.now.finding) 1 0 = byte_is c.finds_foreign.result ∙ ap (λ b. cond b 1 0) c.finds_foreign.ensures in
    let unread : bool_byte c.finds_unread.result ≡ cond (is_unread c.args.tile.now.finding) 1 0 = byte_is c.finds_unread.result ∙ ap (λ b. cond b 1 0) c.finds_unread.ensures in
    let damaged : bool_byte c.finds_damage.result ≡ cond (is_damaged false c.args.tile.now.finding) 1 0 = byte_is c.finds_damage.result ∙ ap (λ b. cond b 1 0) c.finds_damage.ensures in
    record {
      few = omega (arith, c.requires);
      few_bytes = omega (arith, self.few_bytes, c.size_of.ensures.few);
      few_pixels = omega (arith, self.few_pixels, c.count_pixels.ensures.few);
      each = omega (arith, self.each, whole, summed, foreign, unread, damaged, one_of c.args.tile.now.finding);
    }
