-- The lines of a group.
use Rattle.std.proofs.Common.{◌≡◌, ℕ, ◌+◌, ◌<◌, List, [], ◌∷◌, ◌++◌, length, take, drop, get_or, Option, sym, ap, subst, ◌∙◌, add-one}
use Rattle.std.proofs.lemmas.Grind.{flat_map-append}
use Rattle.std.proofs.lemmas.List.{append-nil, take-append-drop}
use Rattle.std.proofs.Math.Seq.{take-suc}
use Rattle.outside_io.specs.streams.Sink.{Holds, HoldsPrefix}
use Rattle.outside_io.proofs.StreamLemmas.Gives.{HoldsPrefix_front, HoldsPrefix_join}
use Rattle.bundle_store.specs.declared.tile_rec.TileRec.{TileRec}
use Rattle.bundle_lines.specs.Lines.{put_line, put_lines}

-- the line of number k, behind those before it, and before the others
pub line_cut : (us : List TileRec) (k : ℕ) (u : TileRec) (old mid new : Option (List ℕ)) → k < length us → get_or us k u ≡ u
    → Holds old mid (put_lines (take k us)) → HoldsPrefix mid new (put_line u) → HoldsPrefix old new (put_lines us)
line_cut us k u old mid new below is so cut =
    let one : take (k + 1) us ≡ take k us ++ u ∷ [] =
    (let e : take (k + 1) us ≡ take k us ++ (get_or us k u ∷ []) = rw add-one (take-suc us k u below) in e) ∙ ap (λ x. take k us ++ (x ∷ [])) is in
    let line : put_lines (take (k + 1) us) ≡ put_lines (take k us) ++ put_line u =
    ap put_lines one ∙ flat_map-append put_line (take k us) (u ∷ []) ∙ ap (λ x. put_lines (take k us) ++ x) (append-nil (put_line u)) in
    let all : put_lines (take (k + 1) us) ++ put_lines (drop (k + 1) us) ≡ put_lines us =
    sym (flat_map-append put_line (take (k + 1) us) (drop (k + 1) us)) ∙ ap put_lines (take-append-drop (k + 1) us) in
    subst (HoldsPrefix old new) all
    (HoldsPrefix_front old new (put_lines (take (k + 1) us)) (put_lines (drop (k + 1) us))
    (subst (HoldsPrefix old new) (sym line) (HoldsPrefix_join old mid new (put_lines (take k us)) (put_line u) so cut)))
