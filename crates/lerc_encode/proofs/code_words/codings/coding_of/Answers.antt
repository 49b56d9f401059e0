use Rattle.std.proofs.Common.{◌≡◌, ℕ, ◌<◌, ◌⊎◌, List, slice_index, true, false, refl, sym, ap, ◌∙◌, subst, arith}
use Rattle.std.specs.Prelude.{SomeIndex}
use Rattle.huff_codes.specs.Tree.{lengths_of, used_count}
use Rattle.huff_codes.specs.Codes.{canonical_codes}
use Rattle.huff_codes.specs.Written.{IsTableSize, written_size}
use Rattle.lerc_encode.proofs.TableBytes.{have_of, none_of, length_coding}
use Rattle.lerc_encode.proofs.code_words.codings.coding_of.Goals as goal

abbrev NoneFor : List ℕ → Type 0
NoneFor counts = (used_count counts < 2) ⊎ SomeIndex (lengths_of counts) (λ s. 32 < slice_index (lengths_of counts) s)

pub returns-in-Some : goal.returns-in-Some
returns-in-Some c = λ symbols counts.
    let has = have_of symbols (λ none. let e : true ≡ false = c.in-Some.ensures.none.1 (subst NoneFor (sym counts) none) in cc) in
    let is = c.in-Some.ensures.some ∙ ap lengths_of counts in
    let table = c.table_size.ensures.few in
    let words = c.counted_len.ensures.few in
    record {
      has = has;
      lengths_are = is;
      size_is = length_coding symbols c.table_size.result c.counted_len.result has (subst (λ (l : List ℕ). IsTableSize l c.table_size.result) is c.table_size.ensures.size)
          (c.counted_len.ensures.size symbols (sym counts) ∙ ap (λ (l : List ℕ). written_size (canonical_codes l) symbols) is);
      few = omega (arith, table, words);
    }

pub returns-in-None : goal.returns-in-None
returns-in-None c = λ symbols counts. none_of symbols (subst NoneFor counts (c.in-None.ensures.none.0 refl))
