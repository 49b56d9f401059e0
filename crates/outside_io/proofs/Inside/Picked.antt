-- The images of a volume in memory.
use Rattle.std.proofs.Common.{◌≡◌, ℕ, ◌≤◌, min, List, [], length, take, sym, ◌∙◌, ap, subst, arith, vec_capacity}
use Rattle.std.proofs.lemmas.List.{take-map, take_min}
use Rattle.outside_io.specs.declared.volume.VolFile.{VolFile}
use Rattle.outside_io.specs.declared.volume.call_log.Call.{Call}
use Rattle.outside_io.specs.declared.volume.image.Pick.{Pick}
use Rattle.outside_io.specs.declared.volume.mem_volume.MemVolume.TheInside.{Inside}
use Rattle.outside_io.specs.volume.Disk.{Disk, File, file_of, settled}
use Rattle.outside_io.specs.inside.MemVolume.{IsKept, first, recorded, effects_of}
use Rattle.outside_io.specs.volume.Pick.{IsPicked}
use Rattle.outside_io.specs.inside.Effects.{AllFit, AllEndWithin, AllInPool, effect, effects}
use Rattle.outside_io.specs.volume.Recorded.{Recorded, history_of, replay, sum_written, Effect}
use Rattle.outside_io.specs.volume.Sparse.{SparseFile, sparse_bytes}
use Rattle.outside_io.proofs.Inside.Held.{first_in, length-sparse, start_in}
use Rattle.outside_io.proofs.Inside.Kept.{all_fit-take}
use Rattle.outside_io.proofs.Inside.Noted.{replayed}

-- nothing has been asked
pub kept_new : (a : Inside) → a.log.items ≡ [] → a.written.items ≡ [] → a.bundle_len ≡ a.bundle.len → a.journal_len ≡ a.journal.len → a.clock ≡ 0 → a.calls ≤ vec_capacity a.log → a.room ≤ vec_capacity a.written → IsKept a
kept_new a none empty bundle journal clock calls room =
    let no_effects : effects_of a ≡ [] = ap (λ (cs : List Call). effects a.written.items cs) none in
    record {
      pool = subst (AllInPool (length a.written.items)) (sym none) tt;
      ends = subst AllEndWithin (sym none) tt;
      octets = λ i less. absurd (omega (arith, ap length empty));
      fit = subst (λ (ss : List Effect). AllFit ss (first a)) (sym no_effects) tt;
      bundle_len = bundle ∙ sym (length-sparse a.bundle.len a.bundle.pieces) ∙ ap (λ (ss : List Effect). length (replay ss (first a)).bundle.now) (sym no_effects);
      journal_len = journal ∙ sym (length-sparse a.journal.len a.journal.pieces) ∙ ap (λ (ss : List Effect). length (replay ss (first a)).journal.now) (sym no_effects);
      counted = ap length none ∙ omega arith;
      log_room = calls;
      written_room = room;
      used = omega (arith, ap length empty);
      all_used = ap sum_written no_effects ∙ sym (ap length empty);
    }

-- the calls up to a moment
pub until : (a : Inside) (r : Recorded) (file : VolFile) (moment upto : ℕ) → IsKept a → recorded a ≡ r → upto ≡ min (length a.log.items) moment
    → file_of file (replay (effects a.written.items (take upto a.log.items)) (first a)) ≡ file_of file ((history_of r).disk_at moment)
until a r file moment upto kept is upto_is =
    let same : take upto a.log.items ≡ take moment a.log.items = ap (λ (n : ℕ). take n a.log.items) (upto_is ∙ omega arith) ∙ take_min moment a.log.items in
    ap (λ (cs : List Call). file_of file (replay (effects a.written.items cs) (first a))) same
    ∙ ap (λ (ss : List Effect). file_of file (replay ss (first a))) (sym (take-map (effect a.written.items) moment a.log.items))
    ∙ ap (file_of file) (sym (replayed a moment kept))
    ∙ ap (λ (q : Recorded). file_of file ((history_of q).disk_at moment)) is

fit_until : (a : Inside) (n : ℕ) → IsKept a → AllFit (effects a.written.items (take n a.log.items)) (first a)
fit_until a n kept = subst (λ (ss : List Effect). AllFit ss (first a)) (take-map (effect a.written.items) n a.log.items) (all_fit-take n (effects_of a) (first a) kept.fit)

-- an image of the record is one of the volume
pub picked : (a : Inside) (r : Recorded) (file : VolFile) (pick : Pick) (moment upto : ℕ) (written : List ℕ) (log : List Call) (start s : SparseFile) → IsKept a → recorded a ≡ r → upto ≡ min (length a.log.items) moment
    → written ≡ a.written.items → log ≡ a.log.items → start ≡ start_in file a
    → ((d : Disk) → AllFit (effects written (take upto log)) d → file_of file d ≡ settled (sparse_bytes start) → IsPicked pick (file_of file (replay (effects written (take upto log)) d)) (sparse_bytes s))
    → IsPicked pick (file_of file ((history_of r).disk_at moment)) (sparse_bytes s)
picked a r file pick moment upto written log start s kept is upto_is written_is log_is start_is each =
    let fit : AllFit (effects written (take upto log)) (first a) = subst (λ (w : List ℕ). AllFit (effects w (take upto log)) (first a)) (sym written_is) (subst (λ (l : List Call). AllFit (effects a.written.items (take upto l)) (first a)) (sym log_is) (fit_until a upto kept)) in
    let here : IsPicked pick (file_of file (replay (effects written (take upto log)) (first a))) (sparse_bytes s) = each (first a) fit (first_in file a ∙ ap (λ (l : SparseFile). settled (sparse_bytes l)) (sym start_is)) in
    let same : file_of file (replay (effects written (take upto log)) (first a)) ≡ file_of file ((history_of r).disk_at moment) =
    (λ i. file_of file (replay (effects (written_is i) (take upto (log_is i))) (first a))) ∙ until a r file moment upto kept is upto_is in
    subst (λ (f : File). IsPicked pick f (sparse_bytes s)) same here
