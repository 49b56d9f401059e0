use Rattle.std.proofs.Common.{◌≡◌, ℕ, ◌+◌, ◌-◌, take, drop, refl, sym, ap, subst, ◌∙◌, arith}
use Rattle.outside_io.specs.declared.volume.VolFile.TheVariants.{Bundle}
use Rattle.outside_io.specs.volume.History.{contents}
use Rattle.bundle_index.specs.Numbers.{u32_at}
use Rattle.bundle_store.specs.Ahead.{AheadBytes, HasPart, IsAheadOf}
use Rattle.bundle_store.proofs.Cutting.{cut_word}
use Rattle.bundle_store.proofs.check.words.Words.number_at.Goals as goal

pub returns-clause-value : goal.returns-clause-value
unfolding u32_at
returns-clause-value g c = λ told.
    let b = contents Bundle (g.V.Volume.history c.args.vol.now) in
    let w = c.self.inside in
    let from = c.args.at - w.start in
    let part = subst (λ (a : AheadBytes). HasPart a (record { offset = c.args.at; size = 4 })) (sym c.self.view_is) (c.if-not-has.ensures.0 refl) in
    let is = subst (IsAheadOf b) (sym c.self.view_is) (c.load.ensures.words told) in
    let word : c.read_u32.result ≡ u32_at (take (from + 4 - from) (drop from w.room)) 0 = c.read_u32.ensures in
    let four : from + 4 - from ≡ 4 = omega arith in
    word ∙ ap (λ (n : ℕ). u32_at (take n (drop from w.room)) 0) four
    ∙ cut_word b w.room w.start w.count c.args.at (omega (arith, c.self.invariant, c.self.told)) is part
