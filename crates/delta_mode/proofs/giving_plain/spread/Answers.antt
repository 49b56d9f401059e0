use Rattle.std.proofs.Common.{◌≡◌, ◌+◌, ◌*◌, ◌<◌, set, length, get_or, refl, sym, ap, ◌∙◌, arith, inl, inr}
use Rattle.std.proofs.lemmas.Bool.{cases_lt}
use Rattle.std.proofs.lemmas.List.{get_or-set_same, get_or-set_other}
use Rattle.std.proofs.Math.ListN.{length-set}
use Rattle.delta_mode.proofs.PlainPieces.{apart, apart_pixels, place_fits}
use Rattle.delta_mode.proofs.giving_plain.spread.Goals as goal

pub loop-i-init : goal.loop-i-init
loop-i-init c = record {
  room = refl;
  symbols = λ k lt. absurd (omega (arith, lt));
  others = λ q e low ne. refl;
}

pub loop-i-preserved : goal.loop-i-preserved
loop-i-preserved c =
    let out = c.loop-i.out in
    let i = c.loop-i.i in
    let depth = c.args.depth in
    let d = c.args.d in
    let inv = c.loop-i.invariant in
    let s = get_or c.args.symbols.now i 0 in
    let at = i * depth + d in
    let some : 0 < depth = (let low = c.requires.depth in omega (arith, low)) in
    let fits = place_fits depth i (length c.args.symbols.now) d (length c.args.out.now) c.requires.depth c.loop-i-test.true c.requires.room in
    let room : at < length out = omega (arith, fits, inv.room) in
    record {
      room = length-set out at s ∙ inv.room;
      symbols = λ k lt. elim (cases_lt k i) [
        | inl before ↦ get_or-set_other out at (k * depth + d) s 0 (λ same. apart_pixels depth k i d some before same) ∙ inv.symbols k before
        | inr from ↦
            let is : k ≡ i = omega (arith, from, lt) in
            ap (λ n. get_or (set out at s) (n * depth + d) 0) is ∙ get_or-set_same out at s 0 room ∙ ap (λ n. get_or c.args.symbols.now n 0) (sym is)
      ];
      others = λ q e low ne. get_or-set_other out at (q * depth + e) s 0 (λ same. apart depth q i d e c.requires.depth low ne same) ∙ inv.others q e low ne;
    }
