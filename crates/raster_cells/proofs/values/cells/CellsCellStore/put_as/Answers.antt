use Rattle.std.proofs.Common.{◌≡◌, ◌+◌, ◌*◌, ◌-◌, ◌++◌, ◌≤◌, ap, ◌∙◌, sym, subst, take, drop, length, arith}
use Rattle.std.specs.Prelude.{All}
use Rattle.std.specs.Vec.{with_items}
use Rattle.std.proofs.lemmas.List.{with_items_is, take_rest, length-drop}
use borrow.Rule.Slice.PartMut.{put_mid}
use Rattle.raster_cells.specs.declared.kind.PixelType.{PixelType}
use Rattle.raster_cells.specs.PixelType.{bytes_of, InRange}
use Rattle.raster_cells.specs.Values.{values_bytes}
use Rattle.raster_cells.specs.CellList.{CellList, values_in}
use Rattle.raster_cells.specs.inside.CellView.{listed}
use Rattle.raster_cells.proofs.Pack.{length-values_bytes}
use Rattle.raster_cells.proofs.CellRuns.{run_put, are_cells, values_is, with_run, length-with_run, with_run_in_range}
use Rattle.raster_cells.proofs.GivenRuns.{given_long, given_fits, given_put}
use Rattle.raster_cells.proofs.values.cells.CellsCellStore.put_as.Goals as goal

pub write_as-requires-clause-in_range : goal.write_as-requires-clause-in_range
write_as-requires-clause-in_range g c = subst (λ (k : PixelType). All (InRange k) (g.G.ValueSource.listed c.args.given.now)) (sym c.requires.kind) c.requires.in_range

pub invariant_of-self : goal.invariant_of-self
invariant_of-self g c =
    let a = c.self.inside in
    let listed_ = g.G.ValueSource.listed c.args.given.now in
    let run = take c.args.count (drop c.args.n listed_) in
    let size : length run ≡ c.args.count = given_long listed_ c.args.n c.args.count c.requires.there in
    let within : c.args.at + length run ≤ length (listed a) = subst (λ (l : CellList). c.args.at + length run ≤ length l.values) (sym c.self.view_is) (omega (arith, size, c.requires.within)) in
    let fits : All (InRange a.kind) run = given_fits a.kind listed_ c.args.n c.args.count (subst (λ (l : CellList). All (InRange l.kind) listed_) (sym c.self.view_is) c.requires.in_range) in
    let old = c.deref_mut.result.now in
    let from = c.place-from.result in
    let s = bytes_of a.kind in
    let of : c.args.kind ≡ a.kind = c.requires.kind ∙ ap (λ (l : CellList). l.kind) (sym c.self.view_is) in
    let start : from ≡ c.args.at * s = c.place-from.ensures.value ∙ ap (λ (k : PixelType). c.args.at * bytes_of k) of in
    let below : from ≤ a.count * s = subst (λ (k : PixelType). from ≤ a.count * bytes_of k) of c.place-from.ensures.within in
    let wrote : c.write_as.new.out ≡ values_bytes a.kind run ++ drop (length run * s) (take (length old - from) (drop from old)) =
    c.write_as.ensures ∙ ap (λ (k : PixelType). values_bytes k run ++ drop (c.args.count * bytes_of k) (take (length old - from) (drop from old))) of
    ∙ ap (λ m. values_bytes a.kind run ++ drop (m * s) (take (length old - from) (drop from old))) (sym size) in
    let is : old ≡ values_bytes a.kind (listed a) = c.deref_mut.ensures.value ∙ c.self.invariant.bytes in
    let bytes : length old ≡ a.count * s = ap length c.deref_mut.ensures.value ∙ c.self.invariant.size in
    let inside : c.args.at * s ≤ length old = omega (arith, start, below, bytes) in
    let put : put_mid from (length old - from) old c.write_as.new.out ≡ values_bytes a.kind (with_run (listed a) c.args.at run) =
    ap (λ n. put_mid n (length old - n) old c.write_as.new.out) start
    ∙ run_put a.kind (listed a) run old c.write_as.new.out c.args.at within is
    (subst (λ n. c.write_as.new.out ≡ values_bytes a.kind run ++ drop (length run * s) (take (length old - n) (drop n old))) start wrote)
    inside (let e : length c.write_as.new.out ≡ length old - c.args.at * s = omega (arith, c.write_as.auto.out, ap length (take_rest old from), length-drop from old, start) in e) in
    let long : length (put_mid from (length old - from) old c.write_as.new.out) ≡ a.bytes.len =
    ap length put ∙ length-values_bytes a.kind (with_run (listed a) c.args.at run) ∙ ap (λ n. n * s) (length-with_run (listed a) run c.args.at within ∙ c.self.invariant.counted) ∙ sym bytes ∙ c.deref_mut.ensures.len in
    let laid = with_items_is a.bytes (put_mid from (length old - from) old c.write_as.new.out) long ∙ put in
    are_cells _ (with_run (listed a) c.args.at run) laid (length-with_run (listed a) run c.args.at within ∙ c.self.invariant.counted)
    (with_run_in_range a.kind (listed a) run c.args.at c.self.invariant.in_range fits) c.self.invariant.few

pub returns-clause-put : goal.returns-clause-put
returns-clause-put g c =
    let a = c.self.inside in
    let listed_ = g.G.ValueSource.listed c.args.given.now in
    let run = take c.args.count (drop c.args.n listed_) in
    let size : length run ≡ c.args.count = given_long listed_ c.args.n c.args.count c.requires.there in
    let within : c.args.at + length run ≤ length (listed a) = subst (λ (l : CellList). c.args.at + length run ≤ length l.values) (sym c.self.view_is) (omega (arith, size, c.requires.within)) in
    let fits : All (InRange a.kind) run = given_fits a.kind listed_ c.args.n c.args.count (subst (λ (l : CellList). All (InRange l.kind) listed_) (sym c.self.view_is) c.requires.in_range) in
    let old = c.deref_mut.result.now in
    let from = c.place-from.result in
    let s = bytes_of a.kind in
    let of : c.args.kind ≡ a.kind = c.requires.kind ∙ ap (λ (l : CellList). l.kind) (sym c.self.view_is) in
    let start : from ≡ c.args.at * s = c.place-from.ensures.value ∙ ap (λ (k : PixelType). c.args.at * bytes_of k) of in
    let below : from ≤ a.count * s = subst (λ (k : PixelType). from ≤ a.count * bytes_of k) of c.place-from.ensures.within in
    let wrote : c.write_as.new.out ≡ values_bytes a.kind run ++ drop (length run * s) (take (length old - from) (drop from old)) =
    c.write_as.ensures ∙ ap (λ (k : PixelType). values_bytes k run ++ drop (c.args.count * bytes_of k) (take (length old - from) (drop from old))) of
    ∙ ap (λ m. values_bytes a.kind run ++ drop (m * s) (take (length old - from) (drop from old))) (sym size) in
    let is : old ≡ values_bytes a.kind (listed a) = c.deref_mut.ensures.value ∙ c.self.invariant.bytes in
    let bytes : length old ≡ a.count * s = ap length c.deref_mut.ensures.value ∙ c.self.invariant.size in
    let inside : c.args.at * s ≤ length old = omega (arith, start, below, bytes) in
    let put : put_mid from (length old - from) old c.write_as.new.out ≡ values_bytes a.kind (with_run (listed a) c.args.at run) =
    ap (λ n. put_mid n (length old - n) old c.write_as.new.out) start
    ∙ run_put a.kind (listed a) run old c.write_as.new.out c.args.at within is
    (subst (λ n. c.write_as.new.out ≡ values_bytes a.kind run ++ drop (length run * s) (take (length old - n) (drop n old))) start wrote)
    inside (let e : length c.write_as.new.out ≡ length old - c.args.at * s = omega (arith, c.write_as.auto.out, ap length (take_rest old from), length-drop from old, start) in e) in
    let long : length (put_mid from (length old - from) old c.write_as.new.out) ≡ a.bytes.len =
    ap length put ∙ length-values_bytes a.kind (with_run (listed a) c.args.at run) ∙ ap (λ n. n * s) (length-with_run (listed a) run c.args.at within ∙ c.self.invariant.counted) ∙ sym bytes ∙ c.deref_mut.ensures.len in
    let laid = with_items_is a.bytes (put_mid from (length old - from) old c.write_as.new.out) long ∙ put in
    let same : values_in a.kind a.count (with_items a.bytes (put_mid from (length old - from) old c.write_as.new.out)).items ≡ with_run (listed a) c.args.at run =
    values_is a.kind a.count _ (with_run (listed a) c.args.at run) laid (length-with_run (listed a) run c.args.at within ∙ c.self.invariant.counted)
    (with_run_in_range a.kind (listed a) run c.args.at c.self.invariant.in_range fits) in
    ap (λ vs. record { kind = a.kind; values = vs }) (same ∙ given_put (listed a) listed_ c.args.at c.args.n c.args.count c.requires.there)
    ∙ ap (λ (l : CellList). record { kind = l.kind; values = take c.args.at l.values ++ (run ++ drop (c.args.at + c.args.count) l.values) }) c.self.view_is
