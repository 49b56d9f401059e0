use Rattle.std.proofs.Common.{◌≡◌, ℕ, List, [], ◌++◌, length, sym, ap, ◌∙◌}
use Rattle.std.proofs.lemmas.Result.{on_ok_weaker}
use Rattle.outside_io.specs.volume.Disk.{Disk}
use Rattle.outside_io.specs.volume.History.{current}
use Rattle.bundle_store.specs.Kept.{FrontBytes}
use Rattle.bundle_store.proofs.Building.{laid_end}
use Rattle.bundle_store.proofs.front.Front.write.Goals as goal

pub returns-clause-done : goal.returns-clause-done
returns-clause-done g c = λ told.
    let old = current (g.V.Volume.history c.args.vol.now) in
    let one = current (g.V.Volume.history c.write.new.self) in
    let head = c.bytes-header.result in
    let words = c.as_slice.result.now in
    let nothing : old.bundle.now ≡ [] = c.requires told in
    let ok = c.in_ok-write.ensures.ok told in
    let first : one.bundle.now ≡ head = ap (λ (d : Disk). d.bundle.now) ok ∙ laid_end 0 head old.bundle.now (sym (ap length nothing)) ∙ ap (λ (l : List ℕ). l ++ head) nothing in
    let head_is : head ≡ c.args.self.now.header = c.bytes-header.ensures ∙ ap (λ (f : FrontBytes). f.header) c.self.view_is in
    let words_are : words ≡ c.args.self.now.index = c.as_slice.ensures.value ∙ ap (λ (f : FrontBytes). f.index) c.self.view_is in
    let at : 64 ≡ length one.bundle.now = sym (ap length first ∙ ap length c.bytes-header.ensures ∙ c.self.invariant.0) in
    on_ok_weaker c.write-2.result (λ is. record {
      journal = ap (λ (d : Disk). d.journal) is ∙ ap (λ (d : Disk). d.journal) ok;
      bundle = ap (λ (d : Disk). d.bundle.now) is ∙ laid_end 64 words one.bundle.now at ∙ (λ i. first i ++ words) ∙ (λ i. head_is i ++ words_are i) ∙ sym (ap (λ (l : List ℕ). l ++ (c.args.self.now.header ++ c.args.self.now.index)) nothing);
    }) (c.write-2.ensures.ok (c.write.ensures.told ∙ told))
