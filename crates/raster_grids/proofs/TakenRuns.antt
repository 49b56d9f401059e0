-- Runs of values taken from a source.
use Rattle.std.proofs.Common.{[], ◌≡◌, ℕ, List, ap, ◌∙◌, ◌*◌, length, sym, ◌-◌, Bool, subst, ◌++◌, refl, ◌+◌, true, false, cond, ◌∷◌, take, drop, arith, ◌≤◌, Option, ◌<◌}
use Rattle.std.specs.Prelude.{ℤ, Ok}
use Rattle.std.specs.List.{count_by}
use Rattle.std.proofs.lemmas.List.{length-append, length-drop, length-take-le, take_all}
use Rattle.std.proofs.lemmas.List.Sums.{sum_by-cons}
use Rattle.std.proofs.Math.Nat.{mul-le-mul}
use Rattle.raster_cells.specs.declared.kind.PixelType.{PixelType}
use Rattle.raster_cells.specs.CellList.{CellList}
use Rattle.raster_grids.specs.inside.TakenRun.{PutsRun, TakesRun}
use Rattle.raster_cells.proofs.Spelled.{bytes_put, few_bytes}
use Rattle.raster_cells.specs.PixelType.{bytes_of}
use Rattle.raster_values.specs.Ordered.{ChangesMarked}
use Rattle.raster_cells.specs.MarkRuns.{AreRuns}
use Rattle.raster_values.proofs.Scattered.{kept_run, Fills, fills_next, run_within}
use Rattle.raster_values.specs.Raster.{values_of}
use Rattle.raster_values.specs.View.{pixels_of}
use Rattle.raster_values.proofs.Pack.{next_values}
use Rattle.raster_values.proofs.MarkedRuns.{values_few, fits_more}
use Rattle.outside_io.specs.streams.Source.{TakesFront}
use Rattle.raster_grids.specs.Taken.{TookBytes}
use Rattle.raster_grids.proofs.TakenBytes.{took_join}
use Rattle.raster_grids.proofs.Taken.{took_front, told, ended, values_cut}
use Rattle.raster_grids.specs.declared.reading.GridFault.{GridFault}
use Rattle.raster_grids.specs.declared.reading.GridReason.TheVariants.{Truncated}
use Rattle.raster_grids.specs.declared.reading.GridStop.{GridStop}
use Rattle.raster_grids.specs.declared.reading.GridStop.TheVariants.{Fault}
use Rattle.raster_grids.specs.ReadGrid.{IsToldFault, value_faults}

run_is : (kind : PixelType) (mid new : CellList) (at count : ℕ) (P : List ℕ → Type 0) → mid.kind ≡ kind → (put : PutsRun mid new at count P) → new.values ≡ bytes_put kind mid.values at count put.run
run_is kind mid new at count P same put = ap (λ (l : CellList). l.values) put.put ∙ ap (λ (k : PixelType). bytes_put k mid.values at count put.run) same

-- how many bytes a run takes
pub run_size : {kind : PixelType} {mid new : CellList} {at count s : ℕ} {P : List ℕ → Type 0} → (put : PutsRun mid new at count P) → mid.kind ≡ kind → s ≡ bytes_of kind → length put.run ≡ count * s
run_size {count} put same is = put.size ∙ ap (λ (k : PixelType). count * bytes_of k) same ∙ ap (λ n. count * n) (sym is)

pub run_kind : {kind : PixelType} {mid new : CellList} {at count : ℕ} {P : List ℕ → Type 0} → PutsRun mid new at count P → mid.kind ≡ kind → new.kind ≡ kind
run_kind put same = ap (λ (l : CellList). l.kind) put.put ∙ same

pub changed_put : {kind : PixelType} {depth at start end : ℕ} {marks : List Bool} {old : List ℤ} {mid new : CellList} {P : List ℕ → Type 0} → AreRuns marks at start end → ChangesMarked kind depth marks old mid.values
    → PutsRun mid new (start * depth) ((end - start) * depth) P → mid.kind ≡ kind → length old ≡ length marks * depth → ChangesMarked kind depth marks old new.values
changed_put {kind} {depth} {at} {start} {end} {marks} {old} {mid} {new} {P} runs h put same full =
    subst (ChangesMarked kind depth marks old) (sym (run_is kind mid new (start * depth) ((end - start) * depth) P same put)) (kept_run kind depth at start end marks old mid.values put.run full runs put.small h)

pub fills_put : {kind : PixelType} {depth size at start end : ℕ} {marks : List Bool} {read : List ℕ} {old : List ℤ} {mid new : CellList} {P : List ℕ → Type 0} → AreRuns marks at start end → Fills kind depth marks size read old mid.values at
    → (put : PutsRun mid new (start * depth) ((end - start) * depth) P) → mid.kind ≡ kind → length old ≡ length marks * depth → Fills kind depth marks size (read ++ put.run) old new.values end
fills_put {kind} {depth} {size} {at} {start} {end} {marks} {read} {old} {mid} {new} {P} runs h put same full =
    subst (λ vs. Fills kind depth marks size (read ++ put.run) old vs end) (sym (run_is kind mid new (start * depth) ((end - start) * depth) P same put))
    (fills_next kind depth marks size read old mid.values at start end put.run full runs put.small (run_size put same refl) h)

-- how many values the marked pixels have
pub values_counted : (depth : ℕ) (ms : List Bool) (vs : List ℤ) → length vs ≡ length ms * depth → length (values_of (pixels_of depth ms vs)) ≡ count_by (λ m. m) ms * depth
unfolding pixels_of
values_counted depth [] vs long = let e : 0 ≡ 0 * depth = omega arith in e
values_counted depth (true ∷ ms) vs long =
    let room : length vs ≡ depth + length ms * depth = omega (arith, long) in
    let rest = values_counted depth ms (drop depth vs) (omega (arith, length-drop depth vs, room)) in
    let front : length (take depth vs) ≡ depth = length-take-le depth vs (omega (arith, room)) in
    let more : count_by (λ m. m) (true ∷ ms) ≡ 1 + count_by (λ m. m) ms = sum_by-cons (λ m. cond m 1 0) true ms in
    let split : length (values_of (pixels_of depth (true ∷ ms) vs)) ≡ length (take depth vs) + length (values_of (pixels_of depth ms (drop depth vs))) =
    ap length (next_values depth true ms vs) ∙ length-append (take depth vs) (values_of (pixels_of depth ms (drop depth vs))) in
    let product : (1 + count_by (λ m. m) ms) * depth ≡ depth + count_by (λ m. m) ms * depth = omega arith in
    let joined : length (values_of (pixels_of depth (true ∷ ms) vs)) ≡ (1 + count_by (λ m. m) ms) * depth = omega (arith, split, rest, front, product) in
    joined ∙ ap (λ n. n * depth) (sym more)
values_counted depth (false ∷ ms) vs long =
    let room : length vs ≡ depth + length ms * depth = omega (arith, long) in
    let more : count_by (λ m. m) (false ∷ ms) ≡ 0 + count_by (λ m. m) ms = sum_by-cons (λ m. cond m 1 0) false ms in
    ap length (next_values depth false ms vs) ∙ values_counted depth ms (drop depth vs) (omega (arith, length-drop depth vs, room))
    ∙ ap (λ n. n * depth) (let e : count_by (λ m. m) ms ≡ count_by (λ m. m) (false ∷ ms) = omega (arith, more) in e)

pub size_few : (kind : PixelType) (depth : ℕ) (marks : List Bool) (old : List ℤ) → length old ≤ 16777216 → length (values_of (pixels_of depth marks old)) * bytes_of kind ≤ 67108864
size_few kind depth marks old few =
    let a : length (values_of (pixels_of depth marks old)) ≤ 16777216 = omega (arith, values_few depth marks old) in
    let b : bytes_of kind ≤ 4 = few_bytes kind in
    let c : length (values_of (pixels_of depth marks old)) * bytes_of kind ≤ 16777216 * 4 = mul-le-mul a b in
    omega (arith, c)

run_few : {at start end size : ℕ} {marks : List Bool} (kind : PixelType) (depth : ℕ) → AreRuns marks at start end → size ≡ length marks * depth → size ≤ 16777216 → (end - start) * depth * bytes_of kind ≤ 67108864
run_few {start} {end} kind depth runs full few =
    let a : (end - start) * depth ≤ 16777216 = omega (arith, run_within depth runs full) in
    let b : bytes_of kind ≤ 4 = few_bytes kind in
    let c : (end - start) * depth * bytes_of kind ≤ 16777216 * 4 = mul-le-mul a b in
    omega (arith, c)

-- the bytes of a run and those of all values are few
pub taken_few : {at start end s : ℕ} (kind : PixelType) (depth : ℕ) (marks : List Bool)
    (old : List ℤ) → AreRuns marks at start end → length old ≡ length marks * depth
    → length old ≤ 16777216 → s ≡ bytes_of kind
    → ((end - start) * depth * s ≤ 67108864)
    × (length (values_of (pixels_of depth marks old)) * bytes_of kind ≤ 67108864)
taken_few {start} {end} kind depth marks old runs full few is =
    let run = run_few kind depth runs full few in
    let same = ap (λ n. (end - start) * depth * n) is in
    (omega (arith, run, same), size_few kind depth marks old few)

-- the bytes of a run are among those of all values
pub run_fits : {kind : PixelType} {depth size at start end : ℕ} {marks : List Bool} {read : List ℕ} {old vs : List ℤ} → AreRuns marks at start end → Fills kind depth marks size read old vs at → length old ≡ length marks * depth
    → length read + (end - start) * depth * bytes_of kind ≤ size
run_fits {kind} {depth} {size} {at} {start} {end} {marks} {read} {old} runs h full = omega (arith, fits_more kind depth at start end (length read) size marks old runs full h.fits)

-- a run of which all bytes were taken
pub took_run : (old mid new : Option (List ℕ)) (read run : List ℕ) (n : ℕ) → TookBytes old mid read → TakesFront mid new n run → length run ≤ n → TookBytes old new (read ++ run)
took_run old mid new read run n took takes whole =
    subst (λ xs. TookBytes old new (read ++ xs)) (take_all n run whole) (took_join old mid new read (take n run) took (took_front mid new n run takes))

-- where the bytes end within a run, that is what is wrong first
pub told_cut : {kind : PixelType} {depth size done start end n : ℕ} {marks : List Bool} {read : List ℕ} {old vs : List ℤ} {stop : GridStop} (before mid new : Option (List ℕ)) (run : List ℕ) (at : ℕ) (f : GridFault)
    → AreRuns marks done start end → Fills kind depth marks size read old vs done → length old ≡ length marks * depth → length run ≡ (end - start) * depth * bytes_of kind
    → TookBytes before mid read → TakesRun (Ok n) mid new run → n < length run
    → f.reason ≡ Truncated → f.place ≡ length read + n → stop ≡ Fault (record { reason = f.reason; place = at + f.place }) → IsToldFault (value_faults size) before at stop
told_cut {kind} {depth} {size} {done} {start} {end} {n} {marks} {read} {old} before mid new run at f runs fills full long took takes short reason place is =
    let bytes = read ++ take n run in
    let count : length bytes ≡ f.place = length-append read (take n run) ∙ omega (arith, length-take-le n run takes.0) in
    let fewer : length bytes < size = omega (arith, fits_more kind depth done start end (length read) size marks old runs full fills.fits) in
    subst (λ (stop : GridStop). IsToldFault (value_faults size) before at stop) (sym is)
    (told (value_faults size) before new at (record { reason = f.reason; place = at + f.place }) f.place bytes (took_join before mid new read (take n run) took (took_front mid new n run takes.1.0)) refl
    (λ rest nothing. rw (reason, ← count) (values_cut size bytes rest fewer (ended new rest (takes.1.1 short) nothing))))
