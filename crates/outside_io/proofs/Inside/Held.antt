-- The bytes of a file in memory, from its pieces and what was written since.
use Rattle.std.proofs.Common.{◌≡◌, inl, inr, refl, ℕ, ◌+◌, ◌-◌, ◌<◌, ◌≤◌, min, max, List, [], ◌∷◌, ◌++◌, length, get_or, take, drop, Option, Some, None, sym, ◌∙◌, ap, subst, arith}
use Rattle.std.proofs.lemmas.List.{places, get_or_default, get_or_past, get_or-take, length-take, same_lists}
use Rattle.std.proofs.lemmas.List.FromFn.{length-map-range_with_len, get_or-map-range_with_len}
use Rattle.std.proofs.lemmas.Bool.{cases_lt}
use Rattle.outside_io.specs.declared.volume.VolFile.{VolFile}
use Rattle.outside_io.specs.declared.volume.VolFile.TheVariants.{Bundle, Journal}
use Rattle.outside_io.specs.declared.volume.call_log.Ask.{Ask}
use Rattle.outside_io.specs.declared.volume.call_log.Ask.TheVariants.{Look, Write, Cut, Sync}
use Rattle.outside_io.specs.declared.volume.mem_volume.MemVolume.TheInside.{Inside}
use Rattle.outside_io.specs.declared.volume.call_log.Call.{Call}
use Rattle.outside_io.specs.volume.Disk.{AreBytes, Disk, file_of, laid, settled}
use Rattle.outside_io.specs.volume.History.{ReadsAt, contents}
use Rattle.outside_io.specs.inside.MemVolume.{IsKept, first, recorded, effects_of}
use Rattle.outside_io.specs.inside.Effects.{AllFit, Fits, place_in, effects, with_piece, written_pieces}
use Rattle.outside_io.specs.volume.Recorded.{Recorded, history_of, replay, disk_after, Effect}
use Rattle.outside_io.proofs.Inside.Noted.{now_is}
use Rattle.outside_io.specs.volume.Sparse.{SparseFile, as_byte, sparse_bytes, byte_at, byte_over, sparse}
use Rattle.outside_io.proofs.Inside.Octets.{as_byte-written}
use Rattle.outside_io.proofs.VolumeLemmas.Laid.{length-laid, laid_before, laid_in, laid_after}
use Rattle.outside_io.proofs.Inside.Pieces.{over_before, over_at}

-- the list has these bytes at its places
abbrev pub Shows : List ℕ → (ℕ → ℕ) → Type 0
Shows bytes at = (i : ℕ) → i < length bytes → get_or bytes i 0 ≡ at i

pub length-sparse : (len : ℕ) (pieces : List (ℕ × List ℕ)) → length (sparse len pieces) ≡ len
unfolding sparse
length-sparse len pieces = length-map-range_with_len (λ i. as_byte (byte_at pieces i 0)) 0 len

pub shows_sparse : (len : ℕ) (pieces : List (ℕ × List ℕ)) → Shows (sparse len pieces) (λ i. as_byte (byte_at pieces i 0))
unfolding sparse
shows_sparse len pieces i lt =
    let f : ℕ → ℕ = λ j. as_byte (byte_at pieces j 0) in
    get_or-map-range_with_len f 0 len i i 0 (let l : i < len = omega (arith, length-map-range_with_len f 0 len) in l) (omega arith)

shows_laid : (at : ℕ) (bytes old : List ℕ) (below : ℕ → ℕ) → at ≤ length old → Shows old below → Shows (laid (min at (length old)) bytes old) (λ i. byte_over at bytes i (below i))
shows_laid at bytes old below fits shows = subst (λ (n : ℕ). Shows (laid n bytes old) (λ i. byte_over at bytes i (below i))) (let e : at ≡ min at (length old) = omega arith in e) (λ i lt.
    let within : i < max (length old) (at + length bytes) = omega (arith, length-laid at bytes old fits) in
    elim (cases_lt i at) [
      | inl before ↦ laid_before at bytes old i 0 fits before ∙ shows i (omega arith) ∙ sym (over_before at i (below i) bytes before)
      | inr from ↦ elim (cases_lt i (at + length bytes)) [
        | inl inside ↦ laid_in at bytes old i 0 fits from inside ∙ get_or_default bytes (i - at) 0 (below i) (omega arith) ∙ sym (over_at at i (below i) bytes from)
        | inr past ↦ laid_after at bytes old i 0 fits past ∙ shows i (omega arith) ∙ sym (get_or_past bytes (i - at) (below i) (omega arith)) ∙ sym (over_at at i (below i) bytes from)
      ]
    ])

shows_cut : (to : ℕ) (old : List ℕ) (below : ℕ → ℕ) → Shows old below → Shows (take (min to (length old)) old) below
shows_cut to old below shows i lt =
    let less : i < min to (length old) = omega (arith, length-take (min to (length old)) old) in
    get_or-take (min to (length old)) old i 0 less ∙ shows i (omega arith)

shows_step : (file : VolFile) (ask : Ask) (bytes : List ℕ) (d : Disk) (below : ℕ → ℕ) → Fits ask d → Shows (file_of file d).now below
    → Shows (file_of file (disk_after ask bytes d)).now (λ i. byte_at (with_piece (place_in ask file) bytes []) i (below i))
shows_step Bundle Look bytes d below fits shows = shows
shows_step Journal Look bytes d below fits shows = shows
shows_step Bundle (Write Bundle at) bytes d below fits shows = shows_laid at bytes d.bundle.now below fits shows
shows_step Journal (Write Bundle at) bytes d below fits shows = shows
shows_step Bundle (Write Journal at) bytes d below fits shows = shows
shows_step Journal (Write Journal at) bytes d below fits shows = shows_laid at bytes d.journal.now below fits shows
shows_step Bundle (Cut Bundle to) bytes d below fits shows = shows_cut to d.bundle.now below shows
shows_step Journal (Cut Bundle to) bytes d below fits shows = shows
shows_step Bundle (Cut Journal to) bytes d below fits shows = shows
shows_step Journal (Cut Journal to) bytes d below fits shows = shows_cut to d.journal.now below shows
shows_step Bundle (Sync Bundle) bytes d below fits shows = shows
shows_step Journal (Sync Bundle) bytes d below fits shows = shows
shows_step Bundle (Sync Journal) bytes d below fits shows = shows
shows_step Journal (Sync Journal) bytes d below fits shows = shows

byte_at-with_piece : (o : Option ℕ) (bytes : List ℕ) (rest : List (ℕ × List ℕ)) (i below : ℕ) → byte_at (with_piece o bytes rest) i below ≡ byte_at rest i (byte_at (with_piece o bytes []) i below)
byte_at-with_piece None bytes rest i below = refl
byte_at-with_piece (Some at) bytes rest i below = refl

-- the bytes that were written lie over those that stood first
pub shows_replay : (file : VolFile) (ss : List Effect) (d : Disk) (below : ℕ → ℕ) → AllFit ss d → Shows (file_of file d).now below → Shows (file_of file (replay ss d)).now (λ i. byte_at (written_pieces file ss) i (below i))
shows_replay file [] d below fit shows i lt = shows i lt
shows_replay file (s ∷ ss) d below fit shows i lt =
    shows_replay file ss (disk_after s.ask s.bytes d) (λ j. byte_at (with_piece (place_in s.ask file) s.bytes []) j (below j)) fit.1 (shows_step file s.ask s.bytes d below fit.0 shows) i lt
    ∙ sym (byte_at-with_piece (place_in s.ask file) s.bytes (written_pieces file ss) i (below i))

-- a part of a list that shows these bytes
pub part_is : (bytes part : List ℕ) (at n : ℕ) (shown : ℕ → ℕ) → Shows bytes shown → n ≤ length bytes - at → length part ≡ n → ((k : ℕ) → k < n → get_or part k 0 ≡ shown (at + k)) → part ≡ take n (drop at bytes)
part_is bytes part at n shown shows within size each =
    same_lists part (take n (drop at bytes)) (grind (arith, places)) (λ k d lt. let k_in : k < n = omega arith in
    get_or_default part k d 0 lt ∙ each k k_in ∙ sym (shows (at + k) (omega arith)) ∙ (let there : get_or bytes (at + k) 0 ≡ get_or bytes (at + k) d = get_or_default bytes (at + k) 0 d (omega arith) in there) ∙ grind (arith, places))

abbrev pub start_in : VolFile → Inside → SparseFile
start_in Bundle a = a.bundle
start_in Journal a = a.journal

pub first_in : (file : VolFile) (a : Inside) → file_of file (first a) ≡ settled (sparse_bytes (start_in file a))
first_in Bundle a = refl
first_in Journal a = refl

-- the byte that stood first
abbrev pub first_byte : VolFile → Inside → ℕ → ℕ
first_byte file a i = as_byte (byte_at (start_in file a).pieces i 0)

shows_first : (file : VolFile) (a : Inside) → Shows (file_of file (first a)).now (first_byte file a)
shows_first Bundle a = shows_sparse a.bundle.len a.bundle.pieces
shows_first Journal a = shows_sparse a.journal.len a.journal.pieces

-- what a read of the pieces and of what was written gives
pub given : (file : VolFile) (a : Inside) (r : Recorded) (at n : ℕ) (buf part new : List ℕ) → IsKept a → recorded a ≡ r → n ≡ min (length (contents file (history_of r)) - at) (length buf) → length new ≡ n → length part ≡ n
    → ((k : ℕ) → k < n → get_or part k 0 ≡ first_byte file a (at + k)) → ((k : ℕ) → k < length part → get_or new k 0 ≡ byte_at (written_pieces file (effects_of a)) (at + k) (get_or part k 0))
    → ReadsAt (contents file (history_of r)) at n buf (new ++ drop n buf)
given file a r at n buf part new kept is count size part_size pieces written =
    let shown : ℕ → ℕ = λ i. byte_at (written_pieces file (effects_of a)) i (first_byte file a i) in
    let now : (file_of file (replay (effects_of a) (first a))).now ≡ contents file (history_of r) = ap (λ (d : Disk). (file_of file d).now) (sym (now_is a kept)) ∙ ap (λ (q : Recorded). contents file (history_of q)) is in
    let shows : Shows (contents file (history_of r)) shown = subst (λ (l : List ℕ). Shows l shown) now (shows_replay file (effects_of a) (first a) (first_byte file a) kept.fit (shows_first file a)) in
    let same : new ≡ take n (drop at (contents file (history_of r))) = part_is (contents file (history_of r)) new at n shown shows (omega arith) size (λ k lt.
    written k (omega arith) ∙ ap (λ (b : ℕ). byte_at (written_pieces file (effects_of a)) (at + k) b) (pieces k lt)) in
    record { count = count ∙ omega arith; bytes = ap (λ (l : List ℕ). l ++ drop n buf) same }

pub byte_at-append : (ps qs : List (ℕ × List ℕ)) (i below : ℕ) → byte_at (ps ++ qs) i below ≡ byte_at qs i (byte_at ps i below)
byte_at-append [] qs i below = refl
byte_at-append (p ∷ ps) qs i below = byte_at-append ps qs i (byte_over p.0 p.1 i below)

-- the pieces and what was written since are what stands now
pub laid_out : (file : VolFile) (written : List ℕ) (log : List Call) (d : Disk) (start new : SparseFile) → AreBytes written → AllFit (effects written log) d → (file_of file d).now ≡ sparse_bytes start
    → new.len ≡ length (file_of file (replay (effects written log) d)).now → new.pieces ≡ start.pieces ++ written_pieces file (effects written log) → sparse_bytes new ≡ (file_of file (replay (effects written log) d)).now
laid_out file written log d start new octets fit is len pieces =
    let ss = effects written log in
    let now = (file_of file (replay ss d)).now in
    let first : Shows (file_of file d).now (λ i. as_byte (byte_at start.pieces i 0)) = subst (λ (l : List ℕ). Shows l (λ i. as_byte (byte_at start.pieces i 0))) (sym is) (shows_sparse start.len start.pieces) in
    let shows = shows_replay file ss d (λ i. as_byte (byte_at start.pieces i 0)) fit first in
    let size : length (sparse_bytes new) ≡ length now = length-sparse new.len new.pieces ∙ len in
    same_lists (sparse_bytes new) now size (λ k d lt. let k_in : k < length now = omega arith in
    get_or_default (sparse_bytes new) k d 0 lt ∙ shows_sparse new.len new.pieces k lt
    ∙ ap (λ (ps : List (ℕ × List ℕ)). as_byte (byte_at ps k 0)) pieces
    ∙ ap as_byte (byte_at-append start.pieces (written_pieces file ss) k 0)
    ∙ as_byte-written file written log k (byte_at start.pieces k 0) octets
    ∙ sym (shows k k_in) ∙ get_or_default now k 0 d k_in)
