use Rattle.std.proofs.Common.{◌≡◌, ℕ, List, ◌++◌, length, take, drop, sym, ap, subst, ◌∙◌}
use Rattle.std.proofs.Math.Seq.{take-append_seam}
use Rattle.outside_io.specs.declared.volume.VolFile.TheVariants.{Bundle}
use Rattle.outside_io.specs.volume.History.{contents}
use Rattle.bundle_store.specs.Ahead.{IsAheadOf}
use Rattle.bundle_store.proofs.ahead.Ahead.load.Goals as goal

pub returns-clause-ahead : goal.returns-clause-ahead
returns-clause-ahead g c = λ told.
    let b = contents Bundle (g.V.Volume.history c.args.vol.now) in
    let v = c.self.inside.room in
    let buf = c.read_span.new.room in
    let rest = drop (length buf) v.items in
    let len : v.len ≡ length buf = v.ok.0 ∙ sym (ap length c.as_mut_slice.ensures.value) ∙ sym c.read_span.auto.room in
    let back : take v.len (buf ++ rest) ≡ buf = ap (λ (n : ℕ). take n (buf ++ rest)) len ∙ take-append_seam buf rest in
    subst (λ (l : List ℕ). IsAheadOf b (record { start = c.span_from-span.result.start; bytes = take c.in_ok-got.got l })) (sym back) (c.in_ok-got.ensures.bytes told)
