use Rattle.std.proofs.Common.{◌≡◌, ℕ, ◌+◌, ◌<◌, ◌≤◌, List, length, take, drop, refl, sym, subst, arith, rules, add-one, inl, inr}
use Rattle.std.proofs.lemmas.List.{length-drop, take_all, take_rest}
use Rattle.std.proofs.lemmas.Result.{err_from_is_err_and}
use Rattle.lerc_header.specs.declared.fault.BlobFault.{BlobFault}
use Rattle.lerc_header.specs.declared.fault.BlobReason.TheVariants.{Leftover}
use Rattle.lerc_c.specs.HeadedBands.{AreHeaded, IsUnheaded, headed_faults}
use Rattle.lerc_c.specs.inside.Headed.{IsHeadedBy}
use Rattle.lerc_c.proofs.HeadedTiles.{headed_first, headed_low, headed_more, unheaded_behind}
use Rattle.lerc_c.proofs.header_counting.count_headers.Goals as goal

pub returns-in_err-at-clause-fault : goal.returns-in_err-at-clause-fault
returns-in_err-at-clause-fault c =
    let p = err_from_is_err_and c.from_residual.result c.from_residual.ensures.1 in
    let f = c.in_err-at.field-0.0 in
    let here : 0 + f.place ≡ f.place = omega arith in
    let told = unheaded_behind c.args.tile.now 0 0 f.place f.reason (omega arith) refl (inl refl) (inl (omega arith, c.in_err-at.ensures.fault)) in
    rw (p.1, p.2) (subst (λ (k : ℕ). IsUnheaded c.args.tile.now k f.reason) here told)

pub loop-at-init : goal.loop-at-init
loop-at-init c = record {
  within = c.in_ok-at.ensures.ok.within;
  some = omega arith;
  few = omega arith;
  stand = headed_first c.args.tile.now c.in_ok-at.at c.in_ok-at.ensures.ok;
}

pub returns-then-count-eq-GREATEST_BANDS-clause-fault : goal.returns-then-count-eq-GREATEST_BANDS-clause-fault
returns-then-count-eq-GREATEST_BANDS-clause-fault c =
    let tile = c.args.tile.now in
    let at = c.loop-at.at in
    let loop = c.loop-at.invariant in
    let more : 0 < length (drop at tile) = omega (arith, c.loop-at-test.true, length-drop at tile) in
    let told = unheaded_behind tile at c.loop-at.count 0 Leftover loop.within loop.stand (inr more) (inr (omega arith, (refl, refl))) in
    let here : at + 0 ≡ at = omega arith in
    subst (λ (f : BlobFault). IsUnheaded tile f.place f.reason) (sym c.left_over.ensures) (subst (λ (p : ℕ). IsUnheaded tile p Leftover) here told)

pub fault_behind-requires : goal.fault_behind-requires
fault_behind-requires c =
    let tile = c.args.tile.now in
    let at = c.loop-at.at in
    let f = c.in-Err.fault in
    let low = headed_low (drop at tile) f.place f.reason (subst (λ (u : List ℕ). headed_faults u f.place f.reason) (take_rest tile at) c.in-Err.ensures.fault) in
    let within : at + c.in-Err.fault.place ≤ length tile = omega (arith, low, length-drop at tile, c.loop-at-test.true) in
    search rules

pub returns-in-Err-clause-fault : goal.returns-in-Err-clause-fault
returns-in-Err-clause-fault c =
    let tile = c.args.tile.now in
    let at = c.loop-at.at in
    let loop = c.loop-at.invariant in
    let more : 0 < length (drop at tile) = omega (arith, c.loop-at-test.true, length-drop at tile) in
    let few : c.loop-at.count < 16 = omega (arith, loop.few, c.if-count-eq-GREATEST_BANDS.false) in
    let f = c.in-Err.fault in
    let wrong = subst (λ (u : List ℕ). headed_faults u f.place f.reason) (take_rest tile at) c.in-Err.ensures.fault in
    subst (λ (g : BlobFault). IsUnheaded tile g.place g.reason) (sym c.fault_behind.ensures)
    (unheaded_behind tile at c.loop-at.count f.place f.reason loop.within loop.stand (inr more) (inl (few, wrong)))

pub loop-at-smaller : goal.loop-at-smaller
loop-at-smaller c =
    let by = c.in-Ok.ensures.ok in
    omega (arith, c.loop-at-test.true, by.size_is, by.stands.size_above)

pub loop-at-preserved : goal.loop-at-preserved
loop-at-preserved c =
    let tile = c.args.tile.now in
    let at = c.loop-at.at in
    let loop = c.loop-at.invariant in
    let by = subst (λ (u : List ℕ). IsHeadedBy u c.in-Ok.size) (take_rest tile at) c.in-Ok.ensures.ok in
    let few : c.loop-at.count < 16 = omega (arith, loop.few, c.if-count-eq-GREATEST_BANDS.false) in
    record {
      within = omega (arith, by.within, length-drop at tile, loop.within);
      some = omega (arith, loop.some);
      few = omega (arith, few);
      stand = subst (λ (n : ℕ). AreHeaded (take (at + c.in-Ok.size) tile) n) (sym (add-one c.loop-at.count)) (headed_more tile at c.loop-at.count c.in-Ok.size loop.within loop.stand by);
    }

pub returns-clause-ok : goal.returns-clause-ok
returns-clause-ok c =
    let tile = c.args.tile.now in
    subst (λ (u : List ℕ). AreHeaded u c.loop-at.count) (take_all c.loop-at.at tile (omega (arith, c.loop-at-test.false))) c.loop-at.invariant.stand
