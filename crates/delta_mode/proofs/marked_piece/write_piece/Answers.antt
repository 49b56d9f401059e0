use Rattle.std.proofs.Common.{rules, ◌≡◌, ◌&&◌, nat_lt, ◌+◌, ◌-◌, ◌%◌, ◌≤◌, ◌++◌, get_or, take, sym, ap, ◌∙◌, arith}
use Rattle.raster_cells.specs.PixelType.{type_least}
use Rattle.raster_cells.specs.Distance.{value_above}
use Rattle.raster_cells.proofs.Distances.{sum_is, value_back}
use Rattle.delta_mode.specs.Symbols.{bias}
use Rattle.delta_mode.specs.Deltas.{has_left, is_valid}
use Rattle.delta_mode.specs.EncodeStates.{deltas_before}
use Rattle.delta_mode.proofs.Bytewise.{rank_most}
use Rattle.delta_mode.proofs.FullPieces.{pixels_few}
use Rattle.delta_mode.proofs.InPieces.{kept_left}
use Rattle.delta_mode.proofs.Pieces.{rank_split}
use Rattle.delta_mode.proofs.StartBits.{word_marks}
use Rattle.delta_mode.proofs.StartPieces.{in_order, last_in_range, last_mark, marks_left, piece_symbols, starts_are}
use Rattle.delta_mode.proofs.marked_piece.write_piece.Goals as goal

pub write_starts-requires-clause-starts : goal.write_starts-requires-clause-starts
write_starts-requires-clause-starts g c =
    let r = g.V.View.pixels c.args.plane.now.raster.now in
    let sound = c.kind-kind.ensures.sound in
    let left : c.left_in.result ≡ has_left r.cols (is_valid r) c.args.place =
    c.left_in.ensures ∙ ap (λ q. nat_lt 0 q && c.args.walk.left) c.requires.col ∙ kept_left r.cols c.args.place (is_valid r) c.args.walk.left sound.shape.cols_above c.requires.at.left_is in
    let across : c.args.place % r.cols + c.args.count ≤ r.cols = omega (arith, c.requires.across, c.requires.col) in
    starts_are r c.args.place c.args.count c.mark_word-marks.result c.starts-starts.result c.left_in.result sound across left c.mark_word-marks.ensures.marks c.starts-starts.ensures.below c.starts-starts.ensures.on

pub write_starts-requires-clause-symbols : goal.write_starts-requires-clause-symbols
write_starts-requires-clause-symbols g c =
    let r = g.V.View.pixels c.args.plane.now.raster.now in
    let place = c.args.place in
    let n = c.args.count in
    let sound = c.kind-kind.ensures.sound in
    let marks = c.mark_word-marks.ensures.marks in
    let left : c.left_in.result ≡ has_left r.cols (is_valid r) place =
    c.left_in.ensures ∙ ap (λ q. nat_lt 0 q && c.args.walk.left) c.requires.col ∙ kept_left r.cols place (is_valid r) c.args.walk.left sound.shape.cols_above c.requires.at.left_is in
    let across : place % r.cols + n ≤ r.cols = omega (arith, c.requires.across, c.requires.col) in
    in_order r c.args.plane.now.d place n c.from-bias.result c.starts-starts.result c.gather-valid.result c.gather-valid.new.distances c.differences.new.out sound c.args.plane.now.byte c.gather-valid.ensures.last
    (c.from-bias.ensures ∙ c.bias_of.ensures ∙ ap bias c.kind-kind.ensures.value) c.gather-valid.ensures.count
    (λ i lt on off. sym (marks_left r place n c.mark_word-marks.result i c.left_in.result sound across left marks lt)
    ∙ c.starts-starts.ensures.off i lt (word_marks r place n c.mark_word-marks.result marks i lt ∙ on) off)
    c.differences.ensures.symbols

pub overflow_add-result-2 : goal.overflow_add-result-2
overflow_add-result-2 g c =
    let r = g.V.View.pixels c.args.plane.now.raster.now in
    let most = rank_most (is_valid r) c.args.place in
    let few = pixels_few r c.kind-kind.ensures.sound in
    let small : c.args.walk.count + c.gather-valid.result ≤ 16777216 = omega (arith, most, few, c.requires.within, c.gather-valid.ensures.few, c.requires.at.count_is) in
    search rules

pub returns-clause-at : goal.returns-clause-at
returns-clause-at g c =
    let r = g.V.View.pixels c.args.plane.now.raster.now in
    let place = c.args.place in
    let n = c.args.count in
    let valid = c.gather-valid.result in
    let distance = get_or c.gather-valid.new.distances valid 0 in
    let low = c.gather-valid.ensures.bytes valid (omega arith) in
    let split = rank_split (is_valid r) place n in
    let least = c.least.ensures ∙ ap type_least c.kind-kind.ensures.value in
    record {
      left_is = λ _. last_mark r place n c.mark_word-marks.result c.requires.some c.mark_word-marks.ensures.marks;
      last_is = sum_is r.kind c.least.result c.from.result distance least c.from.ensures (omega (arith, low))
          ∙ ap (value_above r.kind) (ap (λ j. get_or c.gather-valid.new.distances j 0) c.gather-valid.ensures.count ∙ c.gather-valid.ensures.last.each n (omega arith))
          ∙ value_back r.kind _ (last_in_range r c.args.plane.now.d (place + n) c.kind-kind.ensures.sound);
      count_is = omega (arith, split, c.requires.at.count_is, c.gather-valid.ensures.count);
    }

pub returns-clause-symbols : goal.returns-clause-symbols
returns-clause-symbols g c =
    let r = g.V.View.pixels c.args.plane.now.raster.now in
    let out = c.write_starts.new.out in
    let all : c.gather-valid.result ≡ c.args.walk.count + c.gather-valid.result - c.args.walk.count = omega arith in
    piece_symbols r c.args.plane.now.d c.args.place c.args.count c.gather-valid.result out c.gather-valid.ensures.count (omega (arith, c.gather-valid.ensures.few, c.requires.room, c.write_starts.auto.out, c.differences.auto.out)) c.write_starts.ensures.symbols
    ∙ ap (λ j. deltas_before r c.args.plane.now.d c.args.place ++ take j out) all
