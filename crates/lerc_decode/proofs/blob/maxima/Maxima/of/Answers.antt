use Rattle.std.proofs.Common.{◌*◌, ◌-◌, ◌≡◌, ◌≤◌, length, take, drop, ap, arith, ◌∙◌, inl}
use Rattle.std.proofs.lemmas.List.{length-drop, length-take-le}
use Rattle.lerc_grammar.proofs.Forms.{untrue}
use Rattle.lerc_decode.proofs.TopLists.{listed_maxima, one_top, value_at, which_version}
use Rattle.lerc_decode.specs.inside.Maxima.{top_in}
use Rattle.lerc_decode.proofs.blob.maxima.Maxima.of.Goals as goal

pub returns-then-has_one_top : goal.returns-then-has_one_top
returns-then-has_one_top c = one_top c.args.header.now c.args.bytes.now (c.has_one_top.ensures.0 c.if-has_one_top.true) c.requires.top

pub returns : goal.returns
unfolding top_in
returns c =
    let h = c.args.header.now in
    let bytes = c.args.bytes.now in
    let size = h.depth * c.bytes.result in
    let size_is = ap (λ n. h.depth * n) c.bytes.ensures in
    let cut : 2 * size - size ≡ size = omega arith in
    let several = untrue c.has_one_top.result _ c.if-has_one_top.false c.has_one_top.ensures in
    let both = c.requires.lists (which_version h.version (λ v. several (inl v))) in
    let room : size ≤ length (drop size bytes) = omega (arith, both, size_is, length-drop size bytes) in
    record {
      maxima_are = ap (λ n. length (take n (drop size bytes))) cut ∙ length-take-le size (drop size bytes) room ∙ size_is;
      each = λ front behind l d low. ap (λ n. value_at h.kind (take n (drop size bytes)) d) cut ∙ listed_maxima h bytes size several size_is front behind l d low;
    }
