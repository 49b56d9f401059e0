use Rattle.std.proofs.Common.{◌≡◌, ap, sym, ◌∙◌, arith}
use Rattle.std.proofs.lemmas.List.{with_items_is}
use Rattle.overview_tiles.specs.declared.layer.Layer.TheInside.{Inside}
use Rattle.overview_tiles.specs.Sums.{Sums}
use Rattle.overview_tiles.specs.inside.Layers.{listed}
use Rattle.overview_tiles.specs.inside.Numbers.{Numbers}
use Rattle.overview_tiles.proofs.Layers.{laid_all}
use Rattle.overview_tiles.proofs.layer.Layer.lay.Goals as goal
use Rattle.overview_tiles.proofs.layer.Layer.lay.Goals.{in-Narrow, in-Wide}

pub returns-clause-sums : goal.returns-clause-sums
returns-clause-sums c =
    let f = c.args.frame in
    let r = c.args.raster.now in
    let a = c.self.inside in
    let si = c.match-self.self-inside in
    let old : Sums = c.args.self.now.sums in
    let new : Sums = record { counts = si.counts.items; sums = listed si.sums } in
    let counts0 = c.as_mut_slice-counts.result.now in
    let oc : old.counts ≡ counts0 = sym (ap (λ (n : Numbers). n.sums.counts) c.self.view_is) ∙ sym c.as_mut_slice-counts.ensures.value in
    elim c.match-self.branch [
      | in-Narrow w ↦
          (let v = w.in-Narrow.sums in
          let counts1 = w.lay_rows.new.counts in
          let sums0 = w.as_mut_slice.result.now in
          let sums1 = w.lay_rows.new.sums in
          let os : old.sums ≡ sums0 = sym (ap (λ (n : Numbers). n.sums.sums) c.self.view_is) ∙ ap listed w.in-Narrow.is ∙ sym w.as_mut_slice.ensures.value in
          let nc : si.counts.items ≡ counts1 = ap (λ (i : Inside). i.counts.items) w.self-inside-is ∙ with_items_is a.counts counts1 (omega (arith, w.lay_rows.auto.counts, c.as_mut_slice-counts.ensures.len)) in
          let ns : listed si.sums ≡ sums1 = ap (λ (i : Inside). listed i.sums) w.self-inside-is ∙ with_items_is v sums1 (omega (arith, w.lay_rows.auto.sums, w.as_mut_slice.ensures.len)) in
          laid_all f r old new counts0 counts1 sums0 sums1 oc os nc ns w.lay_rows.auto.counts w.lay_rows.auto.sums w.lay_rows.ensures.counts w.lay_rows.ensures.sums)
      | in-Wide w ↦
          (let v = w.in-Wide.sums in
          let counts1 = w.lay_rows-in-Wide.new.counts in
          let sums0 = w.as_mut_slice-in-Wide.result.now in
          let sums1 = w.lay_rows-in-Wide.new.sums in
          let os : old.sums ≡ sums0 = sym (ap (λ (n : Numbers). n.sums.sums) c.self.view_is) ∙ ap listed w.in-Wide.is ∙ sym w.as_mut_slice-in-Wide.ensures.value in
          let nc : si.counts.items ≡ counts1 = ap (λ (i : Inside). i.counts.items) w.self-inside-is ∙ with_items_is a.counts counts1 (omega (arith, w.lay_rows-in-Wide.auto.counts, c.as_mut_slice-counts.ensures.len)) in
          let ns : listed si.sums ≡ sums1 = ap (λ (i : Inside). listed i.sums) w.self-inside-is ∙ with_items_is v sums1 (omega (arith, w.lay_rows-in-Wide.auto.sums, w.as_mut_slice-in-Wide.ensures.len)) in
          laid_all f r old new counts0 counts1 sums0 sums1 oc os nc ns w.lay_rows-in-Wide.auto.counts w.lay_rows-in-Wide.auto.sums w.lay_rows-in-Wide.ensures.counts w.lay_rows-in-Wide.ensures.sums)
    ]
