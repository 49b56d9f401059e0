use Rattle.std.proofs.Common.{◌≡◌, ℕ, ◌+◌, ◌<◌, ◌++◌, List, length, take, drop, slice_index, refl, sym, ap, ◌∙◌, subst, arith, true, length-append, length-drop}
use Rattle.std.specs.Prelude.{All}
use Rattle.std.proofs.lemmas.List.{take_rest, length-take-le}
use Rattle.first_fault.specs.Parts.{AreBytes}
use Rattle.huff_codes.specs.Codes.{canonical_codes}
use Rattle.huff_codes.specs.Written.{AreWritten, IsTableSize, IsWrittenTable, written_size}
use Rattle.lerc_encode.specs.Codings.{code_lengths, coding_bytes, have_codes}
use Rattle.lerc_encode.specs.inside.Coded.{symbols_of}
use Rattle.lerc_encode.proofs.Given.{symbols_low}
use Rattle.lerc_encode.proofs.TableBytes.{coding_is, length_coding, symbols_coded}
use Rattle.lerc_encode.proofs.WordBytes.{front_bytes_are, back_bytes_are}
use Rattle.lerc_encode.proofs.Laying.{two_written}
use Rattle.lerc_encode.proofs.code_words.codings.write_coding.Goals as goal

-- the table and the words together take all of the room
parts_fit : (symbols lengths : List ℕ) (table room : ℕ) → have_codes symbols ≡ true → lengths ≡ code_lengths symbols → IsTableSize lengths table → room ≡ length (coding_bytes symbols)
    → table + written_size (canonical_codes lengths) symbols ≡ room
parts_fit symbols lengths table room has is size e =
    length_coding symbols table (written_size (canonical_codes lengths) symbols) has (subst (λ (l : List ℕ). IsTableSize l table) is size) (ap (λ (l : List ℕ). written_size (canonical_codes l) symbols) is) ∙ sym e

pub write_code_table-requires : goal.write_code_table-requires
write_code_table-requires g c =
    let fit = parts_fit (symbols_of c.args.mode (g.V.View.pixels c.args.bytes.now.raster.now)) c.args.coding.now.lengths c.table_size.result (length c.args.out.now) c.requires.coding.has c.requires.coding.lengths_are c.table_size.ensures.size c.requires.room in
    let least = c.min-table.ensures in
    let long : length (take c.min-table.result c.args.out.now) ≡ c.table_size.result = length-take-le c.min-table.result c.args.out.now (omega (arith, least)) ∙ omega (arith, least, fit) in
    subst (IsTableSize c.args.coding.now.lengths) (sym long) c.table_size.ensures.size

pub write_words-requires-clause-coded : goal.write_words-requires-clause-coded
write_words-requires-clause-coded g c =
    let symbols = symbols_of c.args.mode (g.V.View.pixels c.args.bytes.now.raster.now) in
    subst (λ (l : List ℕ). All (λ s. 0 < slice_index l s) symbols) (sym c.requires.coding.lengths_are)
    (symbols_coded symbols (symbols_low c.args.mode (g.V.View.pixels c.args.bytes.now.raster.now) c.kind-kind.ensures.sound) c.requires.coding.has)

pub write_words-requires-clause-room : goal.write_words-requires-clause-room
write_words-requires-clause-room g c =
    let out = c.args.out.now in
    let n = c.min-table.result in
    let fit = parts_fit (symbols_of c.args.mode (g.V.View.pixels c.args.bytes.now.raster.now)) c.args.coding.now.lengths c.table_size.result (length out) c.requires.coding.has c.requires.coding.lengths_are c.table_size.ensures.size c.requires.room in
    let least = c.min-table.ensures in
    let mid = c.write_code_table.new.out ++ drop n out in
    let kept : length c.write_code_table.new.out ≡ length (take n out) = c.write_code_table.auto.out in
    let first = length-take-le n out (omega (arith, least)) in
    let sizes = length-append c.write_code_table.new.out (drop n out) in
    let later = length-drop n out in
    let rest = length-drop n mid in
    ap length (take_rest mid n) ∙ omega (arith, fit, least, kept, first, sizes, later, rest)

pub returns : goal.returns
returns g c =
    let symbols = (symbols_of c.args.mode (g.V.View.pixels c.args.bytes.now.raster.now)) in
    let out = c.args.out.now in
    let n = c.min-table.result in
    let table = c.write_code_table.new.out in
    let words = c.write_words.new.out in
    let least = c.min-table.ensures in
    let kept : length table ≡ length (take n out) = c.write_code_table.auto.out in
    let long : length table ≡ n = kept ∙ length-take-le n out (omega (arith, least)) in
    let laid = two_written n table words (drop n out) table words long refl refl in
    let are : AreBytes (table ++ words) = subst AreBytes laid (λ i. let byte = c.type_inv.out i in omega (arith, byte)) in
    let is = c.requires.coding.lengths_are in
    laid
    ∙ coding_is symbols table words (front_bytes_are table words are) (back_bytes_are table words are)
    (subst (λ (l : List ℕ). IsWrittenTable l table) is c.write_code_table.ensures.written)
    (subst (λ (l : List ℕ). AreWritten (canonical_codes l) symbols words) is c.write_words.ensures)
