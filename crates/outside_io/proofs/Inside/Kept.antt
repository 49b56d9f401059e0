-- One more call on the record of a volume in memory.
use Rattle.std.proofs.Common.{◌≡◌, refl, true, false, ℕ, zero, suc, ◌+◌, ◌<◌, ◌≤◌, min, max, List, [], ◌∷◌, ◌++◌, length, get_or, take, drop, Option, Some, None, unwrap_or, sym, ◌∙◌, ap, subst, arith}
use Rattle.std.proofs.lemmas.List.{map_push, map_more, take-map, places, drop_at, take_all, drop-append-le, take-append-le, length-take}
use Rattle.outside_io.specs.declared.volume.VolFile.{VolFile}
use Rattle.outside_io.specs.declared.volume.VolFile.TheVariants.{Bundle, Journal}
use Rattle.outside_io.specs.declared.volume.call_log.Ask.{Ask}
use Rattle.outside_io.specs.declared.volume.call_log.Ask.TheVariants.{Look, Write, Cut, Sync}
use Rattle.outside_io.specs.declared.volume.call_log.Call.{Call}
use Rattle.outside_io.specs.volume.Disk.{Disk, file_of, laid}
use Rattle.outside_io.specs.inside.Effects.{AllFit, Fits, AllEndWithin, AllInPool, EndsWithin, len_after, place_in, effect, effects, syncs}
use Rattle.outside_io.specs.volume.Recorded.{replay, disk_after, Effect}
use Rattle.outside_io.proofs.VolumeLemmas.Laid.{length-laid}
use Rattle.outside_io.proofs.Inside.Replay.{in_pool}

pub all_in_pool-push : (n m : ℕ) (cs : List Call) (c : Call) → n ≤ m → AllInPool n cs → c.from + c.count ≤ m → AllInPool m (cs ++ c ∷ [])
all_in_pool-push n m [] c le all here = (here, tt)
all_in_pool-push n m (d ∷ cs) c le all here = (omega (arith, all.0), all_in_pool-push n m cs c le all.1 here)

part_grows : (written more : List ℕ) (from count : ℕ) → from + count ≤ length written → take count (drop from (written ++ more)) ≡ take count (drop from written)
part_grows written more from count within = ap (take count) (drop-append-le from written more (omega arith)) ∙ take-append-le count (drop from written) more (grind (arith, places))

effects_grow : (written more : List ℕ) (cs : List Call) → AllInPool (length written) cs → effects (written ++ more) cs ≡ effects written cs
effects_grow written more [] all = refl
effects_grow written more (c ∷ cs) all =
    ap (λ (b : List ℕ). (let s : Effect = record { ask = c.ask; bytes = b } in s) ∷ effects (written ++ more) cs) (part_grows written more c.from c.count all.0)
    ∙ ap (λ (ss : List Effect). effect written c ∷ ss) (effects_grow written more cs all.1)

pub effects-push : (written bytes : List ℕ) (cs : List Call) (ask : Ask) (from count : ℕ) → AllInPool (length written) cs → from ≡ length written → count ≡ length bytes
    → effects (written ++ bytes) (cs ++ (record { ask = ask; from = from; count = count }) ∷ []) ≡ effects written cs ++ (record { ask = ask; bytes = bytes }) ∷ []
effects-push written bytes cs ask from count all from_is count_is =
    let c : Call = record { ask = ask; from = from; count = count } in
    let part : take count (drop from (written ++ bytes)) ≡ bytes = ap (take count) (drop_at written bytes from (sym from_is)) ∙ take_all count bytes (omega arith) in
    map_push (effect (written ++ bytes)) cs c
    ∙ ap (λ (ss : List Effect). ss ++ effect (written ++ bytes) c ∷ []) (effects_grow written bytes cs all)
    ∙ ap (λ (b : List ℕ). effects written cs ++ (let s : Effect = record { ask = ask; bytes = b } in s) ∷ []) part

pub replay-push : (ss : List Effect) (s : Effect) (d : Disk) → replay (ss ++ s ∷ []) d ≡ disk_after s.ask s.bytes (replay ss d)
replay-push [] s d = refl
replay-push (r ∷ ss) s d = replay-push ss s (disk_after r.ask r.bytes d)

pub all_fit-push : (ss : List Effect) (s : Effect) (d : Disk) → AllFit ss d → Fits s.ask (replay ss d) → AllFit (ss ++ s ∷ []) d
all_fit-push [] s d all here = (here, tt)
all_fit-push (r ∷ ss) s d all here = (all.0, all_fit-push ss s (disk_after r.ask r.bytes d) all.1 here)

at_len : (at len : ℕ) → at ≤ len → min at len ≡ at
at_len at len le = omega arith

written_len : (at : ℕ) (bytes now : List ℕ) → at ≤ length now → length (laid (min at (length now)) bytes now) ≡ max (length now) (at + length bytes)
written_len at bytes now fits = ap (λ (n : ℕ). length (laid n bytes now)) (at_len at (length now) fits) ∙ length-laid at bytes now fits

cut_len : (to : ℕ) (now : List ℕ) → to ≤ length now → length (take (min to (length now)) now) ≡ to
cut_len to now fits = omega (arith, length-take (min to (length now)) now)

pub length_step : (file : VolFile) (ask : Ask) (bytes : List ℕ) (d : Disk) → Fits ask d → length (file_of file (disk_after ask bytes d)).now ≡ len_after file ask (length (file_of file d).now) (length bytes)
length_step Bundle Look bytes d fits = refl
length_step Journal Look bytes d fits = refl
length_step Bundle (Write Bundle at) bytes d fits = written_len at bytes d.bundle.now fits
length_step Journal (Write Bundle at) bytes d fits = refl
length_step Bundle (Write Journal at) bytes d fits = refl
length_step Journal (Write Journal at) bytes d fits = written_len at bytes d.journal.now fits
length_step Bundle (Cut Bundle to) bytes d fits = cut_len to d.bundle.now fits
length_step Journal (Cut Bundle to) bytes d fits = refl
length_step Bundle (Cut Journal to) bytes d fits = refl
length_step Journal (Cut Journal to) bytes d fits = cut_len to d.journal.now fits
length_step Bundle (Sync Bundle) bytes d fits = refl
length_step Journal (Sync Bundle) bytes d fits = refl
length_step Bundle (Sync Journal) bytes d fits = refl
length_step Journal (Sync Journal) bytes d fits = refl

pub all_end_within-push : (cs : List Call) (c : Call) → AllEndWithin cs → EndsWithin c.ask c.count → AllEndWithin (cs ++ c ∷ [])
all_end_within-push [] c all here = (here, tt)
all_end_within-push (d ∷ cs) c all here = (all.0, all_end_within-push cs c all.1 here)

pub ends_at : (cs : List Call) (i : ℕ) (d : Call) → i < length cs → AllEndWithin cs → EndsWithin (get_or cs i d).ask (get_or cs i d).count
ends_at [] i d lt all = absurd (omega arith)
ends_at (c ∷ cs) zero d lt all = all.0
ends_at (c ∷ cs) (suc i) d lt all = ends_at cs i d (omega arith) all.1

-- what holds of all calls holds of the first of them
pub all_end_within-take : (n : ℕ) (cs : List Call) → AllEndWithin cs → AllEndWithin (take n cs)
all_end_within-take zero cs all = tt
all_end_within-take (suc n) [] all = tt
all_end_within-take (suc n) (c ∷ cs) all = (all.0, all_end_within-take n cs all.1)

pub all_in_pool-take : (m n : ℕ) (cs : List Call) → AllInPool m cs → AllInPool m (take n cs)
all_in_pool-take m zero cs all = tt
all_in_pool-take m (suc n) [] all = tt
all_in_pool-take m (suc n) (c ∷ cs) all = (all.0, all_in_pool-take m n cs all.1)

pub all_fit-take : (n : ℕ) (ss : List Effect) (d : Disk) → AllFit ss d → AllFit (take n ss) d
all_fit-take zero ss d all = tt
all_fit-take (suc n) [] d all = tt
all_fit-take (suc n) (s ∷ ss) d all = (all.0, all_fit-take n ss (disk_after s.ask s.bytes d) all.1)

-- one call more
pub replay_more : (written : List ℕ) (log : List Call) (i : ℕ) (e : Call) (d : Disk) → i < length log
    → replay (effects written (take (i + 1) log)) d ≡ disk_after (get_or log i e).ask (effect written (get_or log i e)).bytes (replay (effects written (take i log)) d)
replay_more written log i e d lt = ap (λ (ss : List Effect). replay ss d) (map_more (effect written) log i e lt) ∙ replay-push (effects written (take i log)) (effect written (get_or log i e)) d

pub base_step : (file : VolFile) (ask : Ask) (bytes : List ℕ) (d : Disk) → syncs ask file ≡ false → (file_of file (disk_after ask bytes d)).base ≡ (file_of file d).base
base_step Bundle Look bytes d e = refl
base_step Journal Look bytes d e = refl
base_step Bundle (Write Bundle at) bytes d e = refl
base_step Journal (Write Bundle at) bytes d e = refl
base_step Bundle (Write Journal at) bytes d e = refl
base_step Journal (Write Journal at) bytes d e = refl
base_step Bundle (Cut Bundle to) bytes d e = refl
base_step Journal (Cut Bundle to) bytes d e = refl
base_step Bundle (Cut Journal to) bytes d e = refl
base_step Journal (Cut Journal to) bytes d e = refl
base_step Bundle (Sync Bundle) bytes d e = cc
base_step Journal (Sync Bundle) bytes d e = refl
base_step Bundle (Sync Journal) bytes d e = refl
base_step Journal (Sync Journal) bytes d e = cc

pub base_synced : (file : VolFile) (ask : Ask) (bytes : List ℕ) (d : Disk) → syncs ask file ≡ true → (file_of file (disk_after ask bytes d)).base ≡ (file_of file (disk_after ask bytes d)).now
base_synced Bundle Look bytes d e = cc
base_synced Journal Look bytes d e = cc
base_synced Bundle (Write Bundle at) bytes d e = cc
base_synced Journal (Write Bundle at) bytes d e = cc
base_synced Bundle (Write Journal at) bytes d e = cc
base_synced Journal (Write Journal at) bytes d e = cc
base_synced Bundle (Cut Bundle to) bytes d e = cc
base_synced Journal (Cut Bundle to) bytes d e = cc
base_synced Bundle (Cut Journal to) bytes d e = cc
base_synced Journal (Cut Journal to) bytes d e = cc
base_synced Bundle (Sync Bundle) bytes d e = refl
base_synced Journal (Sync Bundle) bytes d e = cc
base_synced Bundle (Sync Journal) bytes d e = cc
base_synced Journal (Sync Journal) bytes d e = refl

pub fit_at : (written : List ℕ) (log : List Call) (i : ℕ) (e : Call) (d : Disk) → i < length log → AllFit (effects written log) d → Fits (get_or log i e).ask (replay (effects written (take i log)) d)
fit_at written [] i e d lt fit = absurd (omega arith)
fit_at written (c ∷ cs) zero e d lt fit = fit.0
fit_at written (c ∷ cs) (suc i) e d lt fit = fit_at written cs i e (disk_after (effect written c).ask (effect written c).bytes d) (omega arith) fit.1

-- the length after one call more
pub length_more : (file : VolFile) (written : List ℕ) (log : List Call) (i : ℕ) (e : Call) (d : Disk) (len : ℕ) → i < length log → AllInPool (length written) log → AllFit (effects written log) d
    → len ≡ length (file_of file (replay (effects written (take i log)) d)).now
    → len_after file (get_or log i e).ask len (get_or log i e).count ≡ length (file_of file (replay (effects written (take (i + 1) log)) d)).now
length_more file written log i e d len lt pool fit is =
    let call = get_or log i e in
    let within : call.from + call.count ≤ length written = in_pool (length written) log i e lt pool in
    let size : length (effect written call).bytes ≡ call.count = grind (arith, places) in
    ap (λ (n : ℕ). len_after file call.ask n call.count) is ∙ ap (λ (n : ℕ). len_after file call.ask (length (file_of file (replay (effects written (take i log)) d)).now) n) (sym size)
    ∙ sym (length_step file call.ask (effect written call).bytes (replay (effects written (take i log)) d) (fit_at written log i e d lt fit))
    ∙ ap (λ (q : Disk). length (file_of file q).now) (sym (replay_more written log i e d lt))

some_is : (a b : ℕ) → Some a ≡ Some b → a ≡ b
some_is a b e = ap (λ (o : Option ℕ). unwrap_or o 0) e

-- a call that does not write to the file leaves its written ranges
pub touched_kept : (file : VolFile) (ask : Ask) (bytes : List ℕ) (d : Disk) → syncs ask file ≡ false → place_in ask file ≡ None → (file_of file (disk_after ask bytes d)).touched ≡ (file_of file d).touched
touched_kept Bundle Look bytes d s e = refl
touched_kept Journal Look bytes d s e = refl
touched_kept Bundle (Write Bundle at) bytes d s e = cc
touched_kept Journal (Write Bundle at) bytes d s e = refl
touched_kept Bundle (Write Journal at) bytes d s e = refl
touched_kept Journal (Write Journal at) bytes d s e = cc
touched_kept Bundle (Cut Bundle to) bytes d s e = refl
touched_kept Journal (Cut Bundle to) bytes d s e = refl
touched_kept Bundle (Cut Journal to) bytes d s e = refl
touched_kept Journal (Cut Journal to) bytes d s e = refl
touched_kept Bundle (Sync Bundle) bytes d s e = cc
touched_kept Journal (Sync Bundle) bytes d s e = refl
touched_kept Bundle (Sync Journal) bytes d s e = refl
touched_kept Journal (Sync Journal) bytes d s e = cc

-- a write adds its range
pub touched_more : (file : VolFile) (ask : Ask) (bytes : List ℕ) (d : Disk) (at : ℕ) → Fits ask d → place_in ask file ≡ Some at → (file_of file (disk_after ask bytes d)).touched ≡ (at, length bytes) ∷ (file_of file d).touched
touched_more Bundle Look bytes d at fits e = cc
touched_more Journal Look bytes d at fits e = cc
touched_more Bundle (Write Bundle from) bytes d at fits e = ap (λ (n : ℕ). (n, length bytes) ∷ d.bundle.touched) (at_len from (length d.bundle.now) fits ∙ some_is from at e)
touched_more Journal (Write Bundle from) bytes d at fits e = cc
touched_more Bundle (Write Journal from) bytes d at fits e = cc
touched_more Journal (Write Journal from) bytes d at fits e = ap (λ (n : ℕ). (n, length bytes) ∷ d.journal.touched) (at_len from (length d.journal.now) fits ∙ some_is from at e)
touched_more Bundle (Cut Bundle to) bytes d at fits e = cc
touched_more Journal (Cut Bundle to) bytes d at fits e = cc
touched_more Bundle (Cut Journal to) bytes d at fits e = cc
touched_more Journal (Cut Journal to) bytes d at fits e = cc
touched_more Bundle (Sync Bundle) bytes d at fits e = cc
touched_more Journal (Sync Bundle) bytes d at fits e = cc
touched_more Bundle (Sync Journal) bytes d at fits e = cc
touched_more Journal (Sync Journal) bytes d at fits e = cc

-- a sync leaves none
pub touched_synced : (file : VolFile) (ask : Ask) (bytes : List ℕ) (d : Disk) → syncs ask file ≡ true → (file_of file (disk_after ask bytes d)).touched ≡ []
touched_synced Bundle Look bytes d e = cc
touched_synced Journal Look bytes d e = cc
touched_synced Bundle (Write Bundle at) bytes d e = cc
touched_synced Journal (Write Bundle at) bytes d e = cc
touched_synced Bundle (Write Journal at) bytes d e = cc
touched_synced Journal (Write Journal at) bytes d e = cc
touched_synced Bundle (Cut Bundle to) bytes d e = cc
touched_synced Journal (Cut Bundle to) bytes d e = cc
touched_synced Bundle (Cut Journal to) bytes d e = cc
touched_synced Journal (Cut Journal to) bytes d e = cc
touched_synced Bundle (Sync Bundle) bytes d e = refl
touched_synced Journal (Sync Bundle) bytes d e = cc
touched_synced Bundle (Sync Journal) bytes d e = cc
touched_synced Journal (Sync Journal) bytes d e = refl

pub fit_take : (written : List ℕ) (log : List Call) (n : ℕ) (d : Disk) → AllFit (effects written log) d → AllFit (effects written (take n log)) d
fit_take written log n d fit = subst (λ (ss : List Effect). AllFit ss d) (take-map (effect written) n log) (all_fit-take n (effects written log) d fit)
