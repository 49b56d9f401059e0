use Rattle.std.proofs.Common.{◌≡◌, inr, ℕ, ◌++◌, length, take, drop, sym, ap, ◌∙◌}
use Rattle.std.proofs.Math.Seq.{take-append_seam}
use Rattle.outside_io.specs.declared.volume.VolFile.TheVariants.{Bundle}
use Rattle.outside_io.specs.volume.History.{contents}
use Rattle.bundle_store.specs.Kept.{index_of}
use Rattle.bundle_store.proofs.Kept.{length-index_of, read_index}
use Rattle.bundle_store.proofs.front.Front.read.Goals as goal

pub returns-clause-keeps : goal.returns-clause-keeps
returns-clause-keeps g c = λ told.
    let b = contents Bundle (g.V.Volume.history c.args.vol.now) in
    let v = c.self.inside.index in
    let buf = c.read.new.buf in
    let rest = drop (length buf) v.items in
    let size : length c.as_mut_slice.result.now ≡ 131072 = ap length c.as_mut_slice.ensures.value ∙ c.self.invariant.1 in
    let is : buf ≡ index_of b = read_index b c.as_mut_slice.result.now buf c.in_ok-read.field-0 (c.in_ok-read.ensures.answer told) size (c.requires.long told) in
    let len : v.len ≡ length buf = v.ok.0 ∙ c.self.invariant.1 ∙ sym (ap length is ∙ length-index_of b (c.requires.long told)) in
    inr (c.requires.header told, ap (λ (n : ℕ). take n (buf ++ rest)) len ∙ take-append_seam buf rest ∙ is)
