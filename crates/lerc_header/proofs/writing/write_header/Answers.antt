use Rattle.std.proofs.Common.{◌≡◌, ◌++◌, drop, sym, subst}
use Rattle.lerc_header.specs.Head.{HeadAt}
use Rattle.lerc_header.specs.Written.{front_bytes, shape_bytes, counts_bytes, doubles_bytes, field_bytes, head_bytes}
use Rattle.lerc_header.proofs.LaidLemmas.{laid_join, laid_front}
use Rattle.lerc_header.proofs.WrittenHeads.{head_stands}
use Rattle.lerc_header.proofs.writing.write_header.Goals as goal

written : (c : goal.After-put_doubles) → c.put_doubles.new.out ≡ head_bytes c.args.header.now ++ drop c.put_doubles.result c.args.out.now
unfolding head_bytes field_bytes
written c =
    let h = c.args.header.now in
    laid_front _ _ (head_bytes h) _
    (laid_join _ _ _ _ (front_bytes h) _ (shape_bytes h ++ (counts_bytes h ++ doubles_bytes h)) _ c.put_front-place.ensures.laid
    (laid_join _ _ _ _ (shape_bytes h) _ (counts_bytes h ++ doubles_bytes h) _ c.put_shape-place.ensures.laid
    (laid_join _ _ _ _ (counts_bytes h) _ (doubles_bytes h) _ c.put_counts-place.ensures.laid c.put_doubles.ensures.laid)))

pub returns-clause-bytes : goal.returns-clause-bytes
returns-clause-bytes = written

pub returns-clause-head : goal.returns-clause-head
returns-clause-head c = subst (λ bytes. HeadAt bytes c.args.header.now) (sym (written c)) (head_stands c.args.header.now (drop c.put_doubles.result c.args.out.now) c.requires)
