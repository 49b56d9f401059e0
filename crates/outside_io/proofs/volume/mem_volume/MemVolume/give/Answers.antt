use Rattle.std.proofs.Common.{◌≡◌, ℕ, ◌+◌, ◌-◌, ◌<◌, ◌≤◌, min, List, length, take, get_or, sym, ◌∙◌, ap, arith, rules}
use Rattle.std.proofs.lemmas.List.{length-take-le}
use Rattle.outside_io.specs.volume.History.{contents}
use Rattle.outside_io.specs.volume.Recorded.{history_of}
use Rattle.outside_io.specs.volume.Sparse.{byte_at}
use Rattle.outside_io.specs.inside.Effects.{effects, written_pieces}
use Rattle.outside_io.specs.declared.volume.VolFile.{VolFile}
use Rattle.outside_io.proofs.Inside.Held.{first_byte, given}
use Rattle.outside_io.proofs.volume.mem_volume.MemVolume.give.Goals as goal
use Rattle.outside_io.proofs.volume.mem_volume.MemVolume.give.Goals.{in-Bundle, in-Journal}

pub returns-clause-bytes : goal.returns-clause-bytes
returns-clause-bytes c =
    let count : c.min-count.result ≡ min (length (contents c.args.file (history_of c.args.self.now)) - c.args.at) (length c.args.buf.now) = search rules in
    let most : c.min-count.result ≤ length c.args.buf.now = omega arith in
    let whole : length (take c.min-count.result c.args.buf.now) ≡ c.min-count.result = length-take-le c.min-count.result c.args.buf.now most in
    let size : length c.match-file.part ≡ c.min-count.result = omega arith in
    let pieces : (k : ℕ) → k < c.min-count.result → get_or c.match-file.part k 0 ≡ first_byte c.args.file c.self.inside (c.args.at + k) = λ k lt.
    elim c.match-file.branch [
      | in-Bundle w ↦ ap (λ (l : List ℕ). get_or l k 0) w.part-is ∙ w.read.ensures k (omega (arith, whole)) ∙ ap (λ (f : VolFile). first_byte f c.self.inside (c.args.at + k)) (sym w.in-Bundle.is)
      | in-Journal w ↦ ap (λ (l : List ℕ). get_or l k 0) w.part-is ∙ w.read-in-Journal.ensures k (omega (arith, whole)) ∙ ap (λ (f : VolFile). first_byte f c.self.inside (c.args.at + k)) (sym w.in-Journal.is)
    ] in
    given c.args.file c.self.inside c.args.self.now c.args.at c.min-count.result c.args.buf.now c.match-file.part c.replay_over.new.buf c.self.invariant c.self.view_is count (omega arith) size pieces
    (λ k lt. c.replay_over.ensures k lt ∙ (λ i. byte_at (written_pieces c.args.file (effects (c.deref-2.ensures.value i) (c.deref.ensures.value i))) (c.args.at + k) (get_or c.match-file.part k 0)))
