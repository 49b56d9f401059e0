use Rattle.std.proofs.Common.{◌≡◌, ℕ, ◌+◌, ◌-◌, List, take, drop, sym, ap, subst, ◌∙◌, arith}
use Rattle.std.specs.Prelude.{IfOk}
use Rattle.std.proofs.lemmas.Result.{IfOk-weaker}
use Rattle.bundle_store.specs.Ahead.{AheadBytes, HasPart}
use Rattle.bundle_store.proofs.Cutting.{cut_room}
use Rattle.bundle_store.proofs.ahead.Ahead.cut.Goals as goal

pub returns-clause-bytes : goal.returns-clause-bytes
returns-clause-bytes c =
    let a = c.self.inside in
    let e = c.args.entry in
    let at = e.offset - a.start in
    let l = c.deref.result.now in
    let part = subst (λ (v : AheadBytes). HasPart v e) (sym c.self.view_is) c.requires in
    let size : at + e.size - at ≡ e.size = omega arith in
    let slice : take (at + e.size - at) (drop at l) ≡ take e.size (drop at (take a.count a.room.items)) =
    ap (λ (n : ℕ). take n (drop at l)) size ∙ ap (λ (x : List ℕ). take e.size (drop at x)) c.deref.ensures.value ∙ cut_room a.start a.count a.room.items e c.self.invariant.1.0 part in
    subst (λ (v : AheadBytes). IfOk c.of.result (λ tile. tile ≡ take e.size (drop (e.offset - v.start) v.bytes))) c.self.view_is
    (IfOk-weaker c.of.result (λ tile. tile ≡ take (at + e.size - at) (drop at l)) (λ tile. tile ≡ take e.size (drop at (take a.count a.room.items))) (λ tile is. is ∙ slice) c.of.ensures)
