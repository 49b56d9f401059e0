use Rattle.std.proofs.Common.{◌<◌, ◌≤◌, ℕ, inl, inr, length, subst, arith, ⊎_elim}
use Rattle.std.proofs.lemmas.Bool.{cases_lt}
use Rattle.bundle_store.specs.Fitting.{HasRoomFirst}
use Rattle.bundle_lines.proofs.puts.first_fitting.Goals as goal

pub returns : goal.returns
returns c =
    let us = c.args.updates.now in
    let is = c.first_place.ensures in
    let fits = c.count_fitting.ensures in
    record {
      most = omega (arith, fits.within, c.min-most.ensures);
      within = omega (arith, fits.within, c.min-most.ensures);
      first = subst (λ (end : ℕ). HasRoomFirst end us c.count_fitting.result) is fits.first;
      ends = elim fits.ends [
        | inl all ↦ ⊎_elim (λ (few : length us < 64). inr (inl (omega (arith, all, few, c.min-most.ensures))))
            (λ (many : 64 ≤ length us). inl (omega (arith, all, many, c.min-most.ensures))) (cases_lt (length us) 64)
        | inr full ↦ inr (inr (omega (arith, full, is)))
      ];
    }
