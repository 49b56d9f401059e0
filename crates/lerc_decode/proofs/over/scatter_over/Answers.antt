use Rattle.std.proofs.Common.{◌-◌, ◌*◌, None, drop, take, sym, subst, arith}
use Rattle.lerc_header.specs.Head.{head_length}
use Rattle.lerc_grammar.specs.Mask.{IsMaskAfter}
use Rattle.lerc_grammar.specs.Outline.{image_place}
use Rattle.lerc_decode.proofs.over.scatter_over.Goals as goal

pub fill_lent-requires-clause-marked : goal.fill_lent-requires-clause-marked
fill_lent-requires-clause-marked c =
    let h = c.args.blob.now.header in
    let e = c.over-lent.ensures in
    record {
      shape = record { kind = sym e.kind; rows = sym e.rows; cols = sym e.cols; depth = sym e.depth };
      mask = subst (IsMaskAfter None (h.rows * h.cols) h.valid (take (image_place h c.args.form.now - head_length h.version) (drop (head_length h.version) c.args.blob.now.bytes.now))) (sym e.marks) c.requires.mask;
    }

pub returns-clause-bytes : goal.returns-clause-bytes
returns-clause-bytes c = λ k. omega (arith, c.type_inv.mask k)
