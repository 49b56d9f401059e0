use Rattle.std.proofs.Common.{ℕ, ◌+◌, List, None, Some, drop, sym, subst, arith}
use Rattle.std.proofs.lemmas.List.{drop_all}
use Rattle.lerc_cli.proofs.AnswerLemmas.EachOutlined.{Continues, Rest, continues_all, continues_end, continues_next, next_blob, rest_all, rest_behind, rest_outlined}
use Rattle.lerc_cli.proofs.commands.info.outlines_of.Goals as goal

pub loop-i-init : goal.loop-i-init
loop-i-init c = record {
  rest = rest_all c.args.blobs.now c.requires;
  so_far = subst (Continues c.args.blobs.now None c.args.blobs.now) (sym c.in_ok-outlines.ensures.items) (continues_all c.args.blobs.now);
}

pub outline_of-outline-requires : goal.outline_of-outline-requires
outline_of-outline-requires c =
    let i = c.loop-i.i in
    let blobs = c.args.blobs.now in
    rest_outlined c.loop-i.before c.at.result.now (drop (i + 1) blobs) (subst (Rest c.loop-i.before) (next_blob blobs i c.at.result.now c.at.ensures) c.loop-i.invariant.rest)

pub loop-i-preserved : goal.loop-i-preserved
loop-i-preserved c =
    let i = c.loop-i.i in
    let blobs = c.args.blobs.now in
    let is = next_blob blobs i c.at.result.now c.at.ensures in
    let o = c.outline_of-outline.result in
    let behind = rest_behind c.loop-i.before c.at.result.now (drop (i + 1) blobs) o (subst (Rest c.loop-i.before) is c.loop-i.invariant.rest) c.outline_of-outline.ensures in
    let so_far = subst (λ (r : List (List ℕ)). Continues blobs c.loop-i.before r c.loop-i.outlines.items) is c.loop-i.invariant.so_far in
    record {
      rest = behind.0;
      so_far = subst (Continues blobs (Some c.outline_of-outline.result.header.valid) (drop (i + 1) blobs)) (sym c.in_ok-push.ensures.items)
          (continues_next blobs c.loop-i.before c.at.result.now (drop (i + 1) blobs) c.loop-i.outlines.items o behind.1 c.outline_of-outline.ensures so_far);
    }

pub returns : goal.returns
returns c =
    let i = c.loop-i.i in
    let blobs = c.args.blobs.now in
    continues_end blobs c.loop-i.before (drop i blobs) c.loop-i.outlines.items (drop_all i blobs (omega (arith, c.loop-i-test.false, c.len-i-end.ensures))) c.loop-i.invariant.so_far
