use Rattle.std.proofs.Common.{◌∙◌}
use Rattle.lerc_grammar.proofs.Counts.{mask_count}
use Rattle.lerc_decode.specs.inside.Body.{marks_for}
use Rattle.lerc_decode.proofs.Bodies.{ok_map}
use Rattle.lerc_decode.proofs.CallersArrays.{mask_held}
use Rattle.lerc_decode.proofs.OverBands.{err_to, some_before}
use Rattle.lerc_decode.proofs.over_next.summed_behind.Goals as goal

pub scatter_behind-requires-clause-valid : goal.scatter_behind-requires-clause-valid
scatter_behind-requires-clause-valid c =
    let h = c.args.blob.now.header in
    let e = some_before h c.args.mask.now in
    mask_count (marks_for e.0 h) _ h.valid _ _ (c.in_ok-bits_behind.ensures.ok e.0 e.1)

pub returns-clause-ok : goal.returns-clause-ok
returns-clause-ok c =
    ok_map (λ p before b.
    let s = p before (c.in_ok-bits_behind.ensures.ok before b) in (
      s.raster,
      (
        s.blob_of,
        record {
          values_are = s.values_are;
          mask_is = mask_held c.args.blob.now.header s.raster c.bits_behind.new.bits s.blob_of.0 s.shape (λ i. c.scatter_behind.ensures.bytes i) (c.bits_behind.auto.bits ∙ c.requires.room.masks_size) s.marks c.in_ok-bits_behind.ensures.spare;
        },
      ),
    )) c.scatter_behind.result c.scatter_behind.ensures.ok

pub returns-clause-fault : goal.returns-clause-fault
returns-clause-fault c = err_to (λ f w before b. w before (c.in_ok-bits_behind.ensures.ok before b)) c.scatter_behind.result c.scatter_behind.ensures.fault
