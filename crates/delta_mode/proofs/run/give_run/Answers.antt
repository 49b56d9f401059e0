use Rattle.std.proofs.Common.{◌≡◌, ℕ, pos, ◌+◌, ◌-◌, ◌<◌, ◌++◌, ◌-ℤ◌, true, length, get_or, sym, ap, ◌∙◌, arith, subst, refl}
use Rattle.std.specs.Prelude.{All}
use mir.Syntax.{w64}
use mir.Val.{to_z, of_z}
use Rattle.raster_cells.specs.declared.kind.PixelType.{PixelType}
use Rattle.raster_cells.specs.PixelType.{InRange}
use Rattle.raster_cells.specs.Values.{values_above}
use Rattle.raster_cells.proofs.GivenBytes.{above_at, length-above}
use Rattle.raster_values.specs.Flat.{value_in}
use Rattle.delta_mode.specs.Symbols.{symbol_of}
use Rattle.delta_mode.specs.inside.Runs.{value_before}
use Rattle.delta_mode.specs.Deltas.{is_valid, predictor}
use Rattle.delta_mode.specs.inside.Pieces.{rank, value_of_place}
use Rattle.delta_mode.proofs.Marks.{value_in_range, zero_in_range}
use Rattle.delta_mode.proofs.Predictors.{predictor_has, predictor_same, last_has}
use Rattle.delta_mode.proofs.Kernels.{same}
use Rattle.delta_mode.proofs.EvenPieces.{fits_bits, bits_are, whole_at, whole_coded}
use Rattle.delta_mode.proofs.Runs.{before_at}
use Rattle.delta_mode.proofs.Sources.{area_few, behind, rank_le}
use Rattle.delta_mode.proofs.StartBits.{marks_are}
use Rattle.delta_mode.proofs.run.give_run.Goals as goal

pub predictor_at-predictor-requires-clause-across : goal.predictor_at-predictor-requires-clause-across
predictor_at-predictor-requires-clause-across g c = omega (arith, c.requires.some, c.requires.across)

pub predictor_at-predictor-requires-clause-last_in_range : goal.predictor_at-predictor-requires-clause-last_in_range
predictor_at-predictor-requires-clause-last_in_range g c =
    let r = (g.T.Target.pixels c.args.raster.now) in
    let sound = c.kind-kind.ensures.sound in
    subst (InRange r.kind) (sym c.requires.last) (last_has (InRange r.kind) (is_valid r) (value_in r c.args.d) c.args.place (zero_in_range r.kind) (λ j lt. value_in_range r c.args.d j sound))

pub find_bytes-requires-clause-predictor : goal.find_bytes-requires-clause-predictor
find_bytes-requires-clause-predictor g c =
    let r = (g.T.Target.pixels c.args.raster.now) in
    let sound = c.kind-kind.ensures.sound in
    let fits : InRange r.kind (predictor r.cols (is_valid r) (value_in r c.args.d) c.args.place) =
    predictor_has (InRange r.kind) r.cols (is_valid r) (value_in r c.args.d) c.args.place sound.shape.cols_above (zero_in_range r.kind) (λ j lt. value_in_range r c.args.d j sound) in
    fits_bits r.kind c.requires.kind fits c.predictor_at-predictor.ensures c.kind-kind.ensures.value

pub put_run-requires-clause-in_range : goal.put_run-requires-clause-in_range
put_run-requires-clause-in_range g c =
    let r = g.T.Target.pixels c.args.raster.now in
    let bytes = c.find_bytes.new.symbols in
    subst (λ (kind : PixelType). All (InRange kind) (values_above c.bias_of-below.result bytes)) c.kind-kind.ensures.value
    (subst (λ (n : ℕ). All (InRange c.kind-kind.result) (values_above n bytes)) (sym c.bias_of-below.ensures) c.find_bytes.ensures.in_range)

pub put_run-requires-clause-place : goal.put_run-requires-clause-place
put_run-requires-clause-place g c = omega (arith, c.requires.within, c.find_bytes.auto.symbols)

pub put_run-requires-clause-marked : goal.put_run-requires-clause-marked
put_run-requires-clause-marked g c = λ k ge lt.
    let r = g.T.Target.pixels c.args.raster.now in
    let i = k - c.args.place in
    let there : c.args.place + i ≡ k = omega (arith, ge) in
    let inside : i < length c.args.symbols.now = omega (arith, ge, lt, c.find_bytes.auto.symbols) in
    marks_are r k ∙ ap (is_valid r) (sym there) ∙ c.requires.valid i inside

pub overflow_add-result : goal.overflow_add-result
overflow_add-result g c =
    let r = g.T.Target.pixels c.args.raster.now in
    let most = area_few r.rows r.cols r.depth c.kind-kind.ensures.sound.shape in
    let first = rank_le (is_valid r) c.args.place in
    omega (arith, most, first, c.requires.within, c.requires.count, c.find_bytes.auto.symbols)

pub returns-clause-at : goal.returns-clause-at
returns-clause-at g c =
    let r = g.T.Target.pixels c.args.raster.now in
    let s = g.T.Target.pixels c.put_run.new.self in
    let d = c.args.d in
    let place = c.args.place in
    let n = length c.args.symbols.now in
    let bytes = c.find_bytes.new.symbols in
    let below = c.bias_of-below.result in
    let out = values_above below bytes in
    let many : length bytes ≡ n = c.find_bytes.auto.symbols in
    let long : length out ≡ n = length-above below bytes ∙ many in
    let k = length bytes - 1 in
    let last : value_of_place out k ≡ value_in s d (place + (n - 1)) =
    sym (c.put_run.ensures.put.put k (omega (arith, long, many, c.requires.some)) (c.requires.valid k (omega (arith, many, c.requires.some)))) ∙ ap (λ m. value_in s d (place + (m - 1))) many in
    let inside : k < length bytes = omega (arith, many, c.requires.some) in
    let told_last : c.value_above_least.result ≡ value_of_place out k = c.value_above_least.ensures.value ∙ sym (above_at below bytes k inside) in
    let own : All (InRange c.kind-kind.result) out = subst (λ (m : ℕ). All (InRange c.kind-kind.result) (values_above m bytes)) (sym c.bias_of-below.ensures) c.find_bytes.ensures.in_range in
    let all : All (InRange r.kind) out = subst (λ (kind : PixelType). All (InRange kind) out) c.kind-kind.ensures.value own in
    let fits : InRange r.kind (value_of_place out k) = all k (pos 0) (omega (arith, inside, length-above below bytes)) in
    whole_at (is_valid r) (value_in s d) place n c.requires.some c.requires.valid c.requires.count refl
    (ap (λ z. to_z w64 (of_z w64 z)) told_last ∙ same r.kind (value_of_place out k) c.requires.kind fits ∙ last)
    (ap (λ m. c.args.walk.count + m) many)

pub returns-clause-coded : goal.returns-clause-coded
returns-clause-coded g c front e =
    let r = g.T.Target.pixels c.args.raster.now in
    let s = g.T.Target.pixels c.put_run.new.self in
    let d = c.args.d in
    let place = c.args.place in
    let symbols = c.args.symbols.now in
    let n = length symbols in
    let bytes = c.find_bytes.new.symbols in
    let below = c.bias_of-below.result in
    let out = values_above below bytes in
    let put = c.put_run.ensures.put in
    let many : length bytes ≡ n = c.find_bytes.auto.symbols in
    let long : length out ≡ n = length-above below bytes ∙ many in
    let kind_symbols : (i : ℕ) → i < n → symbol_of c.kind-kind.result (value_of_place out i -ℤ value_before (to_z w64 (of_z w64 c.predictor_at-predictor.result)) (value_of_place out) i) ≡ get_or symbols i 0 =
    subst (λ (m : ℕ). (i : ℕ) → i < n → symbol_of c.kind-kind.result (value_of_place (values_above m bytes) i -ℤ value_before (to_z w64 (of_z w64 c.predictor_at-predictor.result)) (value_of_place (values_above m bytes)) i) ≡ get_or symbols i 0) (sym c.bias_of-below.ensures) c.find_bytes.ensures.symbols in
    let sound = c.kind-kind.ensures.sound in
    let some = sound.shape.cols_above in
    let ek = c.kind-kind.ensures.value in
    let value = value_in s d in
    let p = predictor r.cols (is_valid r) (value_in r d) place in
    let fits : InRange r.kind p = predictor_has (InRange r.kind) r.cols (is_valid r) (value_in r d) place some (zero_in_range r.kind) (λ j lt. value_in_range r d j sound) in
    let is_p = bits_are r.kind c.requires.kind fits c.predictor_at-predictor.ensures in
    let before : (k : ℕ) → k < place → is_valid r k ≡ true → value k ≡ value_in r d k =
    λ (k : ℕ) (lt : k < place) (on : is_valid r k ≡ true). put.rest k d (omega (arith, lt, c.requires.within)) c.requires.depth (λ from below e. omega (arith, lt, from)) in
    let first_is = is_p ∙ sym (predictor_same r.cols (is_valid r) value (value_in r d) place some before) in
    let now : (i : ℕ) → i < n → value (place + i) ≡ value_of_place out i = λ (i : ℕ) (lt : i < n). put.put i (omega (arith, lt, long)) (c.requires.valid i lt) in
    let none : place ≡ place + 0 = omega arith in
    let zero_ : c.args.walk.count + 0 ≡ rank (is_valid r) place = omega (arith, c.requires.count) in
    whole_coded r.kind r.cols (is_valid r) value place n (front ++ symbols) some c.requires.across c.requires.valid
    ((λ t. symbol_of (sym ek t) ((ap value none ∙ now 0 c.requires.some) t -ℤ sym first_is t))
    ∙ kind_symbols 0 c.requires.some ∙ sym (behind front symbols c.args.walk.count 0 e) ∙ ap (λ m. get_or (front ++ symbols) m 0) zero_)
    (λ i above lt.
    (λ t. symbol_of (sym ek t) (now i lt t -ℤ (now (i - 1) (omega (arith, lt)) ∙ sym (before_at (to_z w64 (of_z w64 c.predictor_at-predictor.result)) (value_of_place out) i above)) t))
    ∙ kind_symbols i lt ∙ sym (behind front symbols c.args.walk.count i e) ∙ ap (λ m. get_or (front ++ symbols) (m + i) 0) c.requires.count)

pub returns-clause-rest : goal.returns-clause-rest
returns-clause-rest g c k e lt below other =
    let long = length-above c.bias_of-below.result c.find_bytes.new.symbols in
    c.put_run.ensures.put.rest k e lt below (λ from to_ is. other from (omega (arith, to_, long, c.find_bytes.auto.symbols)) is)

pub returns-clause-frame : goal.returns-clause-frame
returns-clause-frame g c = record { raster = c.put_run.ensures.sound; same = c.put_run.ensures.put.same; kept = c.put_run.ensures.kept }
