-- Code words as a source of symbols.
use Rattle.std.specs.Prelude.{ℕ, ◌≡◌, ◌+◌, Bool, List, length}
use Rattle.huff_codes.specs.Readers.{HaveRead, IsReader, bytes_of, codes_of, left_of}
use Rattle.huff_codes.specs.Words.{word_faults}
use Rattle.huff_codes.specs.declared.faults.CodeFault.{CodeFault}
use Rattle.lerc_decode.specs.declared.blob.words.Words.{Words}

-- what reading does not change: the codes, the bytes, and how many symbols there are
pub record WordFrame : Type 0 where
  pub codes : List (List Bool)
  pub bytes : List ℕ
  pub total : ℕ

abbrev pub frame_of : Words → WordFrame
frame_of w = record { codes = codes_of w.reader; bytes = bytes_of w.reader; total = w.total }

abbrev pub left_in : Words → ℕ
left_in w = left_of w.reader

abbrev pub have_come : Words → List ℕ → Type 0
have_come w symbols = HaveRead w.reader symbols

-- some symbols have been read, and the others of all may still be
pub record AreWordsLeft (w : Words) : Type 0 where
  pub reader : IsReader w.reader
  pub symbols : List ℕ
  pub read : HaveRead w.reader symbols
  pub count : length symbols + left_of w.reader ≡ w.total

-- the fault is that of the words of all symbols
abbrev pub stops_with : WordFrame → CodeFault → Type 0
stops_with frame f = word_faults frame.codes frame.total frame.bytes f.at f.reason
