use Rattle.std.proofs.Common.{◌≡◌, ◌-◌, ◌++◌, [], ℕ, List, length, take, drop, ap, ◌∙◌, subst, append_assoc}
use Rattle.std.proofs.lemmas.List.{take-append-drop, take_rest, append-nil}
use Rattle.std.proofs.lemmas.Result.{on_ok_weaker, on_err_weaker}
use Rattle.outside_io.specs.streams.Sink.{Holds, HoldsPrefix}
use Rattle.outside_io.proofs.StreamLemmas.Gives.{Holds_join, HoldsPrefix_front, HoldsPrefix_join}
use Rattle.raster_cells.proofs.Pack.{on_err}
use Rattle.raster_grids.proofs.waiting.Waiting.give.Goals as goal

-- the bytes that were put behind those that wait, and the others
split : (w bytes put : List ℕ) (n : ℕ) → put ≡ w ++ take n bytes → put ++ drop n bytes ≡ w ++ bytes
split w bytes put n is = ap (λ xs. xs ++ drop n bytes) is ∙ append_assoc w (take n bytes) (drop n bytes) ∙ ap (λ xs. w ++ xs) (take-append-drop n bytes)

pub returns-in_err-flush-clause-err : goal.returns-in_err-flush-clause-err
returns-in_err-flush-clause-err g c =
    let bytes = c.args.bytes.now in
    let n = c.put-n.result in
    on_err c.from_residual.result (subst (HoldsPrefix (g.K.Sink.held c.args.sink.now) (g.K.Sink.held c.flush.new.sink)) (split c.args.self.now bytes c.put-n.new.self n c.put-n.ensures.bytes)
    (HoldsPrefix_front _ _ c.put-n.new.self (drop n bytes) c.in_err-flush.ensures.err))

pub returns-then-rest-ge-PIECE-clause-ok : goal.returns-then-rest-ge-PIECE-clause-ok
returns-then-rest-ge-PIECE-clause-ok g c =
    let bytes = c.args.bytes.now in
    let n = c.put-n.result in
    let put = c.put-n.new.self in
    let rest = take (length bytes - n) (drop n bytes) in
    on_ok_weaker c.give_all.result
    (λ (h : Holds (g.K.Sink.held c.flush.new.sink) (g.K.Sink.held c.give_all.new.sink) rest). record {
      sent = put ++ rest;
      told = ap (λ xs. (put ++ rest) ++ (xs ++ [])) c.in_ok-flush.ensures.none ∙ append-nil (put ++ rest) ∙ ap (λ xs. put ++ xs) (take_rest bytes n) ∙ split c.args.self.now bytes put n c.put-n.ensures.bytes;
      held = Holds_join _ _ _ put rest c.in_ok-flush.ensures.ok h;
    })
    c.give_all.ensures.ok

pub returns-then-rest-ge-PIECE-clause-err : goal.returns-then-rest-ge-PIECE-clause-err
returns-then-rest-ge-PIECE-clause-err g c =
    let bytes = c.args.bytes.now in
    let n = c.put-n.result in
    let put = c.put-n.new.self in
    let rest = take (length bytes - n) (drop n bytes) in
    on_err_weaker c.give_all.result
    (λ (h : HoldsPrefix (g.K.Sink.held c.flush.new.sink) (g.K.Sink.held c.give_all.new.sink) rest).
    subst (HoldsPrefix (g.K.Sink.held c.args.sink.now) (g.K.Sink.held c.give_all.new.sink)) (ap (λ xs. put ++ xs) (take_rest bytes n) ∙ split c.args.self.now bytes put n c.put-n.ensures.bytes)
    (HoldsPrefix_join _ _ _ put rest c.in_ok-flush.ensures.ok h))
    c.give_all.ensures.err
