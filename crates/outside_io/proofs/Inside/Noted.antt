-- The invariant of a volume in memory after one more call.
use Rattle.std.proofs.Common.{◌≡◌, ℕ, ◌+◌, ◌<◌, ◌≤◌, List, [], ◌∷◌, ◌++◌, length, take, map, sym, ◌∙◌, ap, subst, arith, vec_capacity}
use Rattle.std.proofs.lemmas.List.{take_all, length-map, take-map, take-append-le}
use Rattle.outside_io.specs.declared.volume.VolFile.TheVariants.{Bundle, Journal}
use Rattle.outside_io.specs.declared.volume.mem_volume.MemVolume.TheInside.{Inside}
use Rattle.outside_io.specs.volume.Disk.{AreBytes, Disk}
use Rattle.outside_io.specs.volume.History.{current}
use Rattle.outside_io.specs.inside.MemVolume.{IsKept, first, recorded, effects_of}
use Rattle.outside_io.specs.inside.Effects.{AllFit, Fits, AllEndWithin, AllInPool, len_after, effect, effects}
use Rattle.outside_io.specs.volume.Recorded.{clean, history_of, replay, disk_after, sum_written, Effect}
use Rattle.outside_io.proofs.Inside.Kept.{all_fit-push, length_step, replay-push}
use Rattle.outside_io.proofs.Inside.Octets.{clean_effects}

-- the disk at a moment is that after the calls before it
pub replayed : (a : Inside) (t : ℕ) → IsKept a → (history_of (recorded a)).disk_at t ≡ replay (take t (effects_of a)) (first a)
replayed a t kept =
    let cut : take t (effects_of a) ≡ effects a.written.items (take t a.log.items) = take-map (effect a.written.items) t a.log.items in
    ap (λ (ss : List Effect). replay ss (first a)) (ap (map clean) cut ∙ clean_effects a.written.items (take t a.log.items) kept.octets ∙ sym cut)

-- the disk now is that after all the calls
pub now_is : (a : Inside) → IsKept a → current (history_of (recorded a)) ≡ replay (effects_of a) (first a)
now_is a kept =
    replayed a a.clock kept
    ∙ ap (λ (ss : List Effect). replay ss (first a)) (take_all a.clock (effects_of a) (omega (arith, kept.counted, length-map a.log.items (effect a.written.items))))

-- b is a after one call more
pub record Follows (a b : Inside) (s : Effect) : Type 0 where
  pub bundle : b.bundle ≡ a.bundle
  pub journal : b.journal ≡ a.journal
  pub effects : effects_of b ≡ effects_of a ++ s ∷ []
  pub pool : AllInPool (length b.written.items) b.log.items
  pub ends : AllEndWithin b.log.items
  pub octets : AreBytes b.written.items
  pub bundle_len : b.bundle_len ≡ len_after Bundle s.ask a.bundle_len (length s.bytes)
  pub journal_len : b.journal_len ≡ len_after Journal s.ask a.journal_len (length s.bytes)
  pub below : a.clock < a.calls
  pub clock : b.clock ≡ a.clock + 1
  pub calls : b.calls ≡ a.calls
  pub counted : length b.log.items ≡ length a.log.items + 1
  pub room : b.room ≡ a.room
  pub used : length b.written.items ≡ length a.written.items + length s.bytes
  pub within : length b.written.items ≤ a.room
  pub log_room : vec_capacity a.log ≤ vec_capacity b.log
  pub written_room : vec_capacity a.written ≤ vec_capacity b.written

pub sum_written-push : (ss : List Effect) (s : Effect) → sum_written (ss ++ s ∷ []) ≡ sum_written ss + length s.bytes
sum_written-push [] s = omega arith
sum_written-push (r ∷ ss) s = omega (arith, sum_written-push ss s)

first_same : (a b : Inside) (s : Effect) → Follows a b s → first b ≡ first a
first_same a b s f = let x = f.bundle in let y = f.journal in cc

after : (a b : Inside) (s : Effect) → Follows a b s → replay (effects_of b) (first b) ≡ disk_after s.ask s.bytes (replay (effects_of a) (first a))
after a b s f = (λ i. replay (f.effects i) (first_same a b s f i)) ∙ replay-push (effects_of a) s (first a)

pub kept_after : (a b : Inside) (s : Effect) → IsKept a → Fits s.ask (current (history_of (recorded a))) → Follows a b s → IsKept b
kept_after a b s kept fits f =
    let now = replay (effects_of a) (first a) in
    let here : Fits s.ask now = subst (Fits s.ask) (now_is a kept) fits in
    record {
      pool = f.pool;
      ends = f.ends;
      octets = f.octets;
      fit = subst (λ (ss : List Effect). AllFit ss (first b)) (sym f.effects) (subst (AllFit (effects_of a ++ s ∷ [])) (sym (first_same a b s f)) (all_fit-push (effects_of a) s (first a) kept.fit here));
      bundle_len = f.bundle_len ∙ ap (λ (n : ℕ). len_after Bundle s.ask n (length s.bytes)) kept.bundle_len ∙ sym (length_step Bundle s.ask s.bytes now here) ∙ ap (λ (d : Disk). length d.bundle.now) (sym (after a b s f));
      journal_len = f.journal_len ∙ ap (λ (n : ℕ). len_after Journal s.ask n (length s.bytes)) kept.journal_len ∙ sym (length_step Journal s.ask s.bytes now here) ∙ ap (λ (d : Disk). length d.journal.now) (sym (after a b s f));
      counted = omega (arith, f.counted, kept.counted, f.below, f.clock, f.calls);
      log_room = omega (arith, f.log_room, kept.log_room, f.calls);
      written_room = omega (arith, f.written_room, kept.written_room, f.room);
      used = omega (arith, f.within, f.room);
      all_used = ap sum_written f.effects ∙ sum_written-push (effects_of a) s ∙ omega (arith, kept.all_used, f.used);
    }

pub now_after : (a b : Inside) (s : Effect) → IsKept a → Fits s.ask (current (history_of (recorded a))) → Follows a b s → current (history_of (recorded b)) ≡ disk_after s.ask s.bytes (current (history_of (recorded a)))
now_after a b s kept fits f = now_is b (kept_after a b s kept fits f) ∙ after a b s f ∙ ap (disk_after s.ask s.bytes) (sym (now_is a kept))

pub past_after : (a b : Inside) (s : Effect) (t : ℕ) → IsKept a → Follows a b s → t ≤ a.clock → (history_of (recorded b)).disk_at t ≡ (history_of (recorded a)).disk_at t
past_after a b s t kept f le =
    let short : t ≤ length (effects_of a) = omega (arith, kept.counted, f.below, length-map a.log.items (effect a.written.items)) in
    (λ i. replay (map clean (take t (f.effects i))) (first_same a b s f i))
    ∙ ap (λ (ss : List Effect). replay (map clean ss) (first a)) (take-append-le t (effects_of a) (s ∷ []) short)

-- a call past all that are noted
abbrev pub skipped : Inside → ℕ → ℕ → Inside
skipped a clock faults = record a { clock = clock; faults = faults }

pub kept_skipped : (a : Inside) (clock faults : ℕ) → IsKept a → a.calls ≤ a.clock → a.clock ≤ clock → IsKept (skipped a clock faults)
kept_skipped a clock faults kept past later = record {
  pool = kept.pool;
  ends = kept.ends;
  octets = kept.octets;
  fit = kept.fit;
  bundle_len = kept.bundle_len;
  journal_len = kept.journal_len;
  counted = omega (arith, kept.counted);
  log_room = kept.log_room;
  written_room = kept.written_room;
  used = kept.used;
  all_used = kept.all_used;
}

pub now_skipped : (a : Inside) (clock faults : ℕ) → IsKept a → a.calls ≤ a.clock → a.clock ≤ clock → current (history_of (recorded (skipped a clock faults))) ≡ current (history_of (recorded a))
now_skipped a clock faults kept past later = now_is (skipped a clock faults) (kept_skipped a clock faults kept past later) ∙ sym (now_is a kept)
