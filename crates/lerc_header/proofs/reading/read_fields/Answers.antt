use Rattle.std.proofs.Common.{rules}
use Rattle.lerc_header.specs.declared.fault.BlobFault.{BlobFault}
use Rattle.lerc_header.specs.HeadFaults.{field_faults}
use Rattle.lerc_header.proofs.ReadParts.{handed_on, no_answer, behind_shape, behind_counts, behind_kind, behind_step}
use Rattle.lerc_header.proofs.reading.read_fields.Goals as goal

pub returns-in_err-counts-clause-fault : goal.returns-in_err-counts-clause-fault
returns-in_err-counts-clause-fault c =
    let v = c.args.version in
    let bytes = c.args.bytes.now in
    let e = c.in_err-counts.field-0.0 in
    handed_on (λ (f : BlobFault). field_faults v bytes f.place f.reason) c.from_residual-in_err-counts.result e c.from_residual-in_err-counts.ensures.1
    (behind_shape v bytes c.in_ok-shape.shape c.in_ok-shape.ensures.ok e.place e.reason c.in_err-counts.ensures.fault)

pub returns-in_err-kind-clause-fault : goal.returns-in_err-kind-clause-fault
returns-in_err-kind-clause-fault c =
    let v = c.args.version in
    let bytes = c.args.bytes.now in
    let shape = c.in_ok-shape.shape in
    let e = c.in_err-kind.field-0.0 in
    handed_on (λ (f : BlobFault). field_faults v bytes f.place f.reason) c.from_residual-in_err-kind.result e c.from_residual-in_err-kind.ensures.1
    (behind_shape v bytes shape c.in_ok-shape.ensures.ok e.place e.reason
    (behind_counts v bytes shape c.in_ok-counts.counts c.in_ok-shape.ensures.ok c.in_ok-counts.ensures.ok e.place e.reason c.in_err-kind.ensures.fault))

pub returns-in_err-step-clause-fault : goal.returns-in_err-step-clause-fault
returns-in_err-step-clause-fault c =
    let v = c.args.version in
    let bytes = c.args.bytes.now in
    let shape = c.in_ok-shape.shape in
    let e = c.in_err-step.field-0.0 in
    handed_on (λ (f : BlobFault). field_faults v bytes f.place f.reason) c.from_residual-in_err-step.result e c.from_residual-in_err-step.ensures.1
    (behind_shape v bytes shape c.in_ok-shape.ensures.ok e.place e.reason
    (behind_counts v bytes shape c.in_ok-counts.counts c.in_ok-shape.ensures.ok c.in_ok-counts.ensures.ok e.place e.reason
    (behind_kind v bytes c.in_ok-kind.kind c.in_ok-kind.ensures.ok e.place e.reason c.in_err-step.ensures.fault)))

pub returns-in_err-least-clause-fault : goal.returns-in_err-least-clause-fault
returns-in_err-least-clause-fault c =
    let v = c.args.version in
    let bytes = c.args.bytes.now in
    let shape = c.in_ok-shape.shape in
    let e = c.in_err-least.field-0.0 in
    handed_on (λ (f : BlobFault). field_faults v bytes f.place f.reason) c.from_residual-in_err-least.result e c.from_residual-in_err-least.ensures.1
    (behind_shape v bytes shape c.in_ok-shape.ensures.ok e.place e.reason
    (behind_counts v bytes shape c.in_ok-counts.counts c.in_ok-shape.ensures.ok c.in_ok-counts.ensures.ok e.place e.reason
    (behind_kind v bytes c.in_ok-kind.kind c.in_ok-kind.ensures.ok e.place e.reason
    (behind_step v bytes c.in_ok-step.step c.in_ok-step.ensures.ok e.place e.reason c.in_err-least.ensures.fault))))

pub returns-in_err-shape-clause-ok : goal.returns-in_err-shape-clause-ok
returns-in_err-shape-clause-ok c =
    no_answer _ c.from_residual.result c.in_err-shape.field-0.0 c.from_residual.ensures.1

pub returns-in_err-counts-clause-ok : goal.returns-in_err-counts-clause-ok
returns-in_err-counts-clause-ok c =
    no_answer _ c.from_residual-in_err-counts.result c.in_err-counts.field-0.0 c.from_residual-in_err-counts.ensures.1

pub returns-in_err-kind-clause-ok : goal.returns-in_err-kind-clause-ok
returns-in_err-kind-clause-ok c =
    no_answer _ c.from_residual-in_err-kind.result c.in_err-kind.field-0.0 c.from_residual-in_err-kind.ensures.1

pub returns-in_err-step-clause-ok : goal.returns-in_err-step-clause-ok
returns-in_err-step-clause-ok c =
    no_answer _ c.from_residual-in_err-step.result c.in_err-step.field-0.0 c.from_residual-in_err-step.ensures.1

pub returns-in_err-least-clause-ok : goal.returns-in_err-least-clause-ok
returns-in_err-least-clause-ok c =
    no_answer _ c.from_residual-in_err-least.result c.in_err-least.field-0.0 c.from_residual-in_err-least.ensures.1

pub returns-in_err-shape-clause-fault : goal.returns-in_err-shape-clause-fault
returns-in_err-shape-clause-fault c =
    handed_on _ c.from_residual.result c.in_err-shape.field-0.0 c.from_residual.ensures.1
    c.in_err-shape.ensures.fault

pub counts_at-requires-clause-long : goal.counts_at-requires-clause-long
counts_at-requires-clause-long c = c.requires.long

pub range_at-requires-clause-long : goal.range_at-requires-clause-long
range_at-requires-clause-long c = c.requires.long

pub returns-clause-ok : goal.returns-clause-ok
returns-clause-ok c =
    let shape = c.in_ok-shape.ensures.ok in
    let counts = c.in_ok-counts.ensures.ok in
    let step = c.in_ok-step.ensures.ok in
    record {
      long = c.requires.long;
      key = c.requires.key;
      version = c.requires.version;
      checksum = c.unsigned_at.ensures;
      rows = shape.rows;
      cols = shape.cols;
      depth = shape.depth;
      shape = shape.shape;
      valid = counts.valid;
      valid_below = counts.valid_below;
      side = counts.side;
      side_above = counts.side_above;
      size = counts.size;
      size_above = counts.size_above;
      size_below = counts.size_below;
      kind = c.in_ok-kind.ensures.ok;
      step = step.there;
      step_allowed = step.allowed;
      range = search rules;
    }
