-- The record of the calls of a volume in memory.
use Rattle.std.proofs.Common.{◌≡◌, refl, ℕ, zero, suc, ◌+◌, ◌<◌, ◌≤◌, List, [], ◌∷◌, ◌++◌, length, get_or, take, Option, Some, None, sym, ◌∙◌, ap, arith}
use Rattle.std.proofs.lemmas.List.{map_more}
use Rattle.outside_io.specs.declared.volume.VolFile.{VolFile}
use Rattle.outside_io.specs.declared.volume.call_log.Call.{Call}
use Rattle.outside_io.specs.declared.volume.start.Piece.{Piece}
use Rattle.outside_io.specs.volume.Pieces.{pieces_of}
use Rattle.outside_io.specs.volume.Sparse.{byte_at, byte_over}
use Rattle.outside_io.specs.volume.Recorded.{Effect}
use Rattle.outside_io.specs.inside.Effects.{AllInPool, place_in, effect, effects, with_piece, written_pieces}
use Rattle.outside_io.proofs.Inside.Pieces.{byte_at-push}

pub in_pool : (n : ℕ) (cs : List Call) (i : ℕ) (d : Call) → i < length cs → AllInPool n cs → (get_or cs i d).from + (get_or cs i d).count ≤ n
in_pool n [] i d lt all = absurd (omega arith)
in_pool n (c ∷ cs) zero d lt all = all.0
in_pool n (c ∷ cs) (suc i) d lt all = in_pool n cs i d (omega arith) all.1

with_piece-append : (o : Option ℕ) (bytes : List ℕ) (a b : List (ℕ × List ℕ)) → with_piece o bytes (a ++ b) ≡ with_piece o bytes a ++ b
with_piece-append None bytes a b = refl
with_piece-append (Some at) bytes a b = refl

pub written_pieces-push : (file : VolFile) (ss : List Effect) (s : Effect) → written_pieces file (ss ++ s ∷ []) ≡ written_pieces file ss ++ with_piece (place_in s.ask file) s.bytes []
written_pieces-push file [] s = refl
written_pieces-push file (r ∷ ss) s =
    ap (with_piece (place_in r.ask file) r.bytes) (written_pieces-push file ss s) ∙ with_piece-append (place_in r.ask file) r.bytes (written_pieces file ss) (with_piece (place_in s.ask file) s.bytes [])

pub written_more : (file : VolFile) (written : List ℕ) (log : List Call) (i : ℕ) (d : Call) → i < length log
    → written_pieces file (effects written (take (i + 1) log)) ≡ written_pieces file (effects written (take i log)) ++ with_piece (place_in (get_or log i d).ask file) (effect written (get_or log i d)).bytes []
written_more file written log i d lt =
    ap (written_pieces file) (map_more (effect written) log i d lt) ∙ written_pieces-push file (effects written (take i log)) (effect written (get_or log i d))

-- one call more over a byte
pub byte_more : (file : VolFile) (written : List ℕ) (log : List Call) (i : ℕ) (d : Call) (k below : ℕ) → i < length log
    → byte_at (written_pieces file (effects written (take (i + 1) log))) k below
    ≡ byte_at (with_piece (place_in (get_or log i d).ask file) (effect written (get_or log i d)).bytes []) k (byte_at (written_pieces file (effects written (take i log))) k below)
byte_more file written log i d k below lt =
    ap (λ (ps : List (ℕ × List ℕ)). byte_at ps k below) (written_more file written log i d lt) ∙ one (place_in (get_or log i d).ask file)
  where
    one : (o : Option ℕ) → byte_at (written_pieces file (effects written (take i log)) ++ with_piece o (effect written (get_or log i d)).bytes []) k below
        ≡ byte_at (with_piece o (effect written (get_or log i d)).bytes []) k (byte_at (written_pieces file (effects written (take i log))) k below)
    one None = ap (λ (ps : List (ℕ × List ℕ)). byte_at ps k below) (nil (written_pieces file (effects written (take i log))))
      where
        nil : (ps : List (ℕ × List ℕ)) → ps ++ [] ≡ ps
        nil [] = refl
        nil (p ∷ ps) = ap (λ (l : List (ℕ × List ℕ)). p ∷ l) (nil ps)
    one (Some at) = byte_at-push (written_pieces file (effects written (take i log))) (at, (effect written (get_or log i d)).bytes) k below

-- one piece more over a byte
pub piece_more : (ps : List Piece) (i : ℕ) (p : Piece) (k below : ℕ) → i < length ps → p ≡ get_or ps i p
    → byte_at (pieces_of (take (i + 1) ps)) k below ≡ byte_over p.at p.bytes k (byte_at (pieces_of (take i ps)) k below)
piece_more ps i p k below lt is =
    ap (λ (l : List (ℕ × List ℕ)). byte_at l k below) (map_more (λ (q : Piece). (q.at, q.bytes)) ps i p lt)
    ∙ byte_at-push (pieces_of (take i ps)) ((get_or ps i p).at, (get_or ps i p).bytes) k below
    ∙ ap (λ (q : Piece). byte_over q.at q.bytes k (byte_at (pieces_of (take i ps)) k below)) (sym is)
