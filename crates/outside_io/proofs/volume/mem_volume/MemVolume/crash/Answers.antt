use Rattle.std.proofs.Common.{◌≡◌, refl, sym, ap, subst}
use Rattle.std.proofs.lemmas.Result.{IfOk-weaker}
use Rattle.outside_io.specs.declared.volume.VolFile.TheVariants.{Bundle, Journal}
use Rattle.outside_io.specs.volume.Disk.{IsImage, IsQuiet}
use Rattle.outside_io.specs.volume.History.{contents, current}
use Rattle.outside_io.specs.Present.{octets_sparse, sound_recorded}
use Rattle.outside_io.specs.volume.Recorded.{Recorded, history_of}
use Rattle.outside_io.specs.volume.Sparse.{SparseFile, sparse_bytes}
use Rattle.outside_io.proofs.Inside.Torn.{picked_image}
use Rattle.outside_io.proofs.volume.mem_volume.MemVolume.crash.Goals as goal

pub returns-clause-image : goal.returns-clause-image
returns-clause-image c = IfOk-weaker c.new-2.result _ _ (λ v is.
    let d = (history_of c.args.self.now).disk_at c.args.moment in
    let sound = sound_recorded c.args.self.now c.args.moment in
    let b : SparseFile = c.in_ok-bundle.bundle in
    let j : SparseFile = c.in_ok-journal.journal in
    record {
      bundle = subst (λ (l : SparseFile). IsImage d.bundle (sparse_bytes l)) (sym (ap (λ (r : Recorded). r.bundle) is)) (picked_image c.args.pick d.bundle (sparse_bytes b) (octets_sparse b.len b.pieces) sound.bundle c.in_ok-bundle.ensures);
      journal = subst (λ (l : SparseFile). IsImage d.journal (sparse_bytes l)) (sym (ap (λ (r : Recorded). r.journal) is)) (picked_image c.args.pick d.journal (sparse_bytes j) (octets_sparse j.len j.pieces) sound.journal c.in_ok-journal.ensures);
    }) c.new-2.ensures

pub returns-clause-quiet : goal.returns-clause-quiet
returns-clause-quiet c = IfOk-weaker c.new-2.result _ _ (λ v is.
    subst (λ (r : Recorded). IsQuiet (current (history_of r))) (sym is) (record { bundle = refl; journal = refl })) c.new-2.ensures

pub returns-clause-reads : goal.returns-clause-reads
returns-clause-reads c = IfOk-weaker c.new-2.result _ _ (λ v is.
    subst (λ (r : Recorded). (contents Bundle (history_of r) ≡ sparse_bytes r.bundle) × (contents Journal (history_of r) ≡ sparse_bytes r.journal)) (sym is) (refl, refl)) c.new-2.ensures
