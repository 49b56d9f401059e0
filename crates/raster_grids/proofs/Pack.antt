-- Marks and values given to a sink.
use Rattle.std.proofs.Common.{[], ◌≡◌, Bool, cond, List, length, ℕ, ◌+◌, ◌≤◌, ◌++◌, take, drop, ap, ◌∙◌, arith, Option, sym, subst, true, false, Some, None, refl, ◌∷◌, map, append_assoc, ◌-◌, ◌*◌, ◌<◌, get_or}
use Rattle.std.proofs.lemmas.List.{length-map, take_at, length-take-le, length-drop, map-append, take-append-drop, append-nil, drop_all}
use Rattle.std.proofs.Math.Seq.{take-add}
use Rattle.std.specs.Prelude.{ℤ}
use Rattle.std.proofs.lemmas.Grind.{flat_map-append}
use Rattle.raster_cells.specs.MarkBytes.{mark_bytes}
use Rattle.outside_io.specs.streams.Sink.{Holds, HoldsPrefix}
use Rattle.outside_io.proofs.StreamLemmas.Gives.{Holds_join, HoldsPrefix_front, HoldsPrefix_join}
use Rattle.raster_values.specs.Raster.{mark_of, values_of}
use Rattle.raster_values.specs.View.{pixels_of}
use Rattle.raster_cells.specs.declared.kind.PixelType.{PixelType}
use Rattle.raster_cells.specs.PixelType.{value_bytes}
use Rattle.raster_cells.specs.Values.{values_bytes}
use Rattle.raster_values.proofs.Pack.{two_runs}
use Rattle.raster_grids.specs.inside.Pack.{Sends}
use Rattle.raster_grids.specs.Grid.{head_of}

-- ---- marks

length-mark_bytes : (ms : List Bool) → length (mark_bytes ms) ≡ length ms
length-mark_bytes ms = length-map ms (λ m. cond m 1 0)

mark_piece : (ms : List Bool) (at count : ℕ) (old new : List ℕ) → at + count ≤ length ms
    → new ≡ mark_bytes (take count (drop at ms)) ++ drop count old
    → take count new ≡ mark_bytes (take count (drop at ms))
mark_piece ms at count old new within e =
    let long : length (mark_bytes (take count (drop at ms))) ≡ count = length-mark_bytes (take count (drop at ms)) ∙ length-take-le count (drop at ms) (omega (arith, length-drop at ms)) in
    ap (take count) e ∙ take_at (mark_bytes (take count (drop at ms))) (drop count old) count long

mark_bytes-add : (ms : List Bool) (at count : ℕ) → mark_bytes (take (at + count) ms) ≡ mark_bytes (take at ms) ++ mark_bytes (take count (drop at ms))
mark_bytes-add ms at count = ap mark_bytes (take-add at count ms) ∙ map-append (λ m. cond m 1 0) (take at ms) (take count (drop at ms))

pub marks_more : (old mid new : Option (List ℕ)) (ms : List Bool) (at count : ℕ) (before buffer : List ℕ) → at + count ≤ length ms
    → buffer ≡ mark_bytes (take count (drop at ms)) ++ drop count before
    → Holds old mid (mark_bytes (take at ms)) → Holds mid new (take count buffer) → Holds old new (mark_bytes (take (at + count) ms))
marks_more old mid new ms at count before buffer within e first second =
    subst (Holds old new) (ap (λ xs. mark_bytes (take at ms) ++ xs) (mark_piece ms at count before buffer within e) ∙ sym (mark_bytes-add ms at count))
    (Holds_join old mid new (mark_bytes (take at ms)) (take count buffer) first second)

pub marks_fail : (old mid new : Option (List ℕ)) (ms : List Bool) (at count : ℕ) (before buffer : List ℕ) → at + count ≤ length ms
    → buffer ≡ mark_bytes (take count (drop at ms)) ++ drop count before
    → Holds old mid (mark_bytes (take at ms)) → HoldsPrefix mid new (take count buffer) → HoldsPrefix old new (mark_bytes ms)
marks_fail old mid new ms at count before buffer within e first second =
    let whole : mark_bytes (take (at + count) ms) ++ mark_bytes (drop (at + count) ms) ≡ mark_bytes ms = sym (map-append (λ m. cond m 1 0) (take (at + count) ms) (drop (at + count) ms)) ∙ ap mark_bytes (take-append-drop (at + count) ms) in
    subst (HoldsPrefix old new) whole (HoldsPrefix_front old new (mark_bytes (take (at + count) ms)) (mark_bytes (drop (at + count) ms))
    (subst (HoldsPrefix old new) (ap (λ xs. mark_bytes (take at ms) ++ xs) (mark_piece ms at count before buffer within e) ∙ sym (mark_bytes-add ms at count))
    (HoldsPrefix_join old mid new (mark_bytes (take at ms)) (take count buffer) first second)))

one_mark : (b : Bool) (xs : List ℤ) → mark_of (cond b (Some xs) None) ≡ cond b 1 0
one_mark true xs = refl
one_mark false xs = refl

pub grid_marks-pixels_of : (depth : ℕ) (ms : List Bool) (vs : List ℤ) → map mark_of (pixels_of depth ms vs) ≡ mark_bytes ms
unfolding pixels_of
grid_marks-pixels_of depth [] vs = refl
grid_marks-pixels_of depth (m ∷ ms) vs = ap (λ n. n ∷ map mark_of (pixels_of depth ms (drop depth vs))) (one_mark m (take depth vs)) ∙ ap (λ ns. cond m 1 0 ∷ ns) (grid_marks-pixels_of depth ms (drop depth vs))

-- ---- what waits, and what was given

-- more bytes wait
pub sends_put : (old new : Option (List ℕ)) (p x rest all : List ℕ) → Sends old new p (x ++ rest) all → Sends old new (p ++ x) rest all
sends_put old new p x rest all s = record { sent = s.sent; told = ap (λ xs. s.sent ++ xs) (append_assoc p x rest) ∙ s.told; held = s.held }

-- the bytes that wait were given in part
pub sends_give : (old mid new : Option (List ℕ)) (p q rest all : List ℕ) → Sends old mid p rest all → Sends mid new q [] p → Sends old new q rest all
sends_give old mid new p q rest all a b = record {
  sent = a.sent ++ b.sent;
  told = append_assoc a.sent b.sent (q ++ rest) ∙ ap (λ xs. a.sent ++ xs) (sym (append_assoc b.sent q rest)
      ∙ ap (λ xs. xs ++ rest) (ap (λ xs. b.sent ++ xs) (sym (append-nil q)) ∙ b.told)) ∙ a.told;
  held = Holds_join old mid new a.sent b.sent a.held b.held;
}

-- the bytes that wait were given whole
pub sends_all : (old mid new : Option (List ℕ)) (p all : List ℕ) → Sends old mid p [] all → Holds mid new p → Holds old new all
sends_all old mid new p all a h = subst (Holds old new) (ap (λ xs. a.sent ++ xs) (sym (append-nil p)) ∙ a.told) (Holds_join old mid new a.sent p a.held h)

pub sends_fail : (old mid new : Option (List ℕ)) (p rest all : List ℕ) → Sends old mid p rest all → HoldsPrefix mid new p → HoldsPrefix old new all
sends_fail old mid new p rest all a h =
    subst (HoldsPrefix old new) (append_assoc a.sent p rest ∙ a.told) (HoldsPrefix_front old new (a.sent ++ p) rest (HoldsPrefix_join old mid new a.sent p a.held h))

-- ---- runs of equal marks

pub two_runs_bytes : (kind : PixelType) (depth at start end : ℕ) (ms : List Bool) (vs : List ℤ) → at ≤ start → start ≤ end → end ≤ length ms
    → ((k : ℕ) → at ≤ k → k < start → get_or ms k false ≡ false) → ((k : ℕ) → start ≤ k → k < end → get_or ms k false ≡ true)
    → values_bytes kind (values_of (pixels_of depth (drop at ms) (drop (at * depth) vs)))
    ≡ values_bytes kind (take (end * depth - start * depth) (drop (start * depth) vs)) ++ values_bytes kind (values_of (pixels_of depth (drop end ms) (drop (end * depth) vs)))
two_runs_bytes kind depth at start end ms vs first second within off on =
    ap (values_bytes kind) (two_runs depth at start end ms vs first second within off on)
    ∙ flat_map-append (value_bytes kind) (take (end * depth - start * depth) (drop (start * depth) vs)) (values_of (pixels_of depth (drop end ms) (drop (end * depth) vs)))

no_pixels : (depth : ℕ) (ms : List Bool) (vs : List ℤ) → ms ≡ [] → pixels_of depth ms vs ≡ []
unfolding pixels_of
no_pixels depth ms vs e = ap (λ xs. pixels_of depth xs vs) e

pub no_more : (kind : PixelType) (depth at : ℕ) (ms : List Bool) (vs : List ℤ) → length ms ≤ at → values_bytes kind (values_of (pixels_of depth (drop at ms) (drop (at * depth) vs))) ≡ []
no_more kind depth at ms vs past = ap (λ ps. values_bytes kind (values_of ps)) (no_pixels depth (drop at ms) (drop (at * depth) vs) (drop_all at ms past))

-- the same head of the same numbers
pub same_head : (magic : List ℕ) {k k' : PixelType} {a a' b b' d d' : ℕ} → k ≡ k' → a ≡ a' → b ≡ b' → d ≡ d' → head_of magic k a b d ≡ head_of magic k' a' b' d'
same_head magic k a b d = λ i. head_of magic (k i) (a i) (b i) (d i)
