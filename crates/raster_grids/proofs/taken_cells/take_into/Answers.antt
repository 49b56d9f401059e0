use Rattle.std.proofs.Common.{◌≡◌, ◌<◌, ◌≤◌, ◌-◌, ◌+◌, ◌++◌, ℕ, List, length, get_or, take, drop, arith, ap, ◌∙◌, ⊎_elim, length-append}
use Rattle.std.proofs.lemmas.List.{length-take-le, length-drop, with_items_is, get_or_append_left, get_or-append-add, get_or_past}
use Rattle.std.proofs.lemmas.Bool.{cases_lt}
use borrow.Rule.Slice.PartMut.{put_mid}
use Rattle.raster_cells.proofs.WholeRuns.{put_whole}
use Rattle.raster_grids.proofs.taken_cells.take_into.Goals as goal

small_mid : (front run back : List ℕ) (all : List ℕ) → all ≡ front ++ (run ++ back) → ((i : ℕ) → i < length all → get_or all i 0 < 256) → (i : ℕ) → get_or run i 0 < 256
small_mid front run back all is are i =
    ⊎_elim
    (λ (less : i < length run).
    let e : get_or all (length front + i) 0 ≡ get_or run i 0 = ap (λ (xs : List ℕ). get_or xs (length front + i) 0) is ∙ get_or-append-add front (run ++ back) i 0 ∙ get_or_append_left run back 0 i less in
    let low : length front + i < length all = omega (arith, ap length is, length-append front (run ++ back), length-append run back) in
    omega (arith, are (length front + i) low))
    (λ (past : length run ≤ i). let e : get_or run i 0 ≡ 0 = get_or_past run i 0 past in omega arith)
    (cases_lt i (length run))

pub returns-clause-taken : goal.returns-clause-taken
returns-clause-taken g c =
    let old = c.deref_mut.result.now in
    let run = c.take.new.out in
    let from = c.args.from in
    let end = c.args.end in
    let order = c.requires.order in
    let size_old : length old ≡ length c.args.bytes.now.items = ap length c.deref_mut.ensures.value in
    let within : end ≤ length old = omega (arith, c.requires.within) in
    let size : length run ≡ end - from = c.take.auto.out ∙ length-take-le (end - from) (drop from old) (omega (arith, length-drop from old)) in
    let whole : put_mid from (end - from) old run ≡ take from old ++ (run ++ drop end old) = put_whole from end old run order within size in
    let long : length (put_mid from (end - from) old run) ≡ c.args.bytes.now.len =
    ap length whole ∙ length-append (take from old) (run ++ drop end old) ∙ omega (arith, length-append run (drop end old), length-take-le from old (omega arith), length-drop end old, c.deref_mut.ensures.len) in
    let laid = with_items_is c.args.bytes.now (put_mid from (end - from) old run) long ∙ whole ∙ ap (λ (xs : List ℕ). take from xs ++ (run ++ drop end xs)) c.deref_mut.ensures.value in
    record {
      run = run;
      size = size;
      small = small_mid (take from c.args.bytes.now.items) run (drop end c.args.bytes.now.items) _ laid (λ i low. omega (arith, c.type_inv.bytes i));
      laid = laid;
      of_run = c.take.ensures.taken;
    }
