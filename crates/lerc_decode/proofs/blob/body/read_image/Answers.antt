use Rattle.std.proofs.Common.{◌≡◌, ◌≤◌, ℕ, List, ◌*◌, ◌-◌, length, refl, ap, arith}
use Rattle.first_fault.specs.Parts.{AreBytes}
use Rattle.raster_cells.specs.PixelType.{bytes_of}
use Rattle.raster_values.specs.Flat.{marks_of}
use Rattle.lerc_header.specs.declared.header.Header.{Header}
use Rattle.lerc_grammar.specs.declared.parts.MaskForm.{MaskForm}
use Rattle.lerc_grammar.specs.declared.parts.ImageForm.{ImageForm}
use Rattle.lerc_grammar.specs.declared.parts.ImageForm.TheVariants.{Ranges}
use Rattle.lerc_grammar.specs.Outline.{IsMaskForm, IsImageForm}
use Rattle.lerc_decode.proofs.Bodies.{image_empty, ranges_there, image_ranges, sweep_there, image_sweep, sweep_fault, few_values, ok_map, err_map}
use Rattle.lerc_decode.proofs.Filling.{same_frame}
use Rattle.lerc_decode.proofs.blob.body.read_image.Goals as goal

-- both lists stand in the blob
both_within : (h : Header) (blob : List ℕ) (mask : MaskForm) (form : ImageForm) (n : ℕ)
    → form ≡ Ranges → IsMaskForm h blob mask → IsImageForm h blob mask form → n ≡ bytes_of h.kind
    → 2 * (h.depth * n) ≤ length blob
both_within h blob mask form n is mm m n_is =
    let size_is = ap (λ k. h.depth * k) n_is in
    omega (arith, (ranges_there h blob mask form (h.depth * n) is mm m size_is).room)

pub overflow_sub-place : goal.overflow_sub-place
overflow_sub-place g c =
    both_within c.args.blob.now.header c.args.blob.now.bytes.now c.args.mask.now c.args.form.now c.bytes.result
    c.in-Ranges.is c.requires.mask c.requires.form c.bytes.ensures

pub overflow_add-place : goal.overflow_add-place
overflow_add-place g c =
    let both = both_within c.args.blob.now.header c.args.blob.now.bytes.now c.args.mask.now c.args.form.now
    c.bytes.result c.in-Ranges.is c.requires.mask c.requires.form c.bytes.ensures in
    omega (arith, both, c.args.blob.now.size, c.args.blob.now.head.size_below)

pub slice_bounds-fill_list-end : goal.slice_bounds-fill_list-end
slice_bounds-fill_list-end g c =
    let both = both_within c.args.blob.now.header c.args.blob.now.bytes.now c.args.mask.now c.args.form.now
    c.bytes.result c.in-Ranges.is c.requires.mask c.requires.form c.bytes.ensures in
    omega (arith, both)

pub scatter_sweep-requires-clause-values : goal.scatter_sweep-requires-clause-values
scatter_sweep-requires-clause-values g c =
    few_values c.args.blob.now.bytes.now c.args.blob.now.header c.args.blob.now.head

pub returns-in-Empty-clause-frame : goal.returns-in-Empty-clause-frame
returns-in-Empty-clause-frame g c = same_frame _ _ c.requires.marked.shaped.raster

pub returns-in-Empty-clause-read : goal.returns-in-Empty-clause-read
returns-in-Empty-clause-read g c = record {
  ok = image_empty c.args.blob.now.header c.args.blob.now.bytes.now c.args.mask.now c.args.form.now (g.T.Target.pixels c.args.raster.now) c.in-Empty.is c.requires.form c.requires.marked.valid;
  fault = tt;
}

pub returns-in-Ranges-clause-read : goal.returns-in-Ranges-clause-read
returns-in-Ranges-clause-read g c =
    let h = c.args.blob.now.header in
    let blob = c.args.blob.now.bytes.now in
    let size = h.depth * c.bytes.result in
    let size_is = ap (λ n. h.depth * n) c.bytes.ensures in
    let there = ranges_there h blob c.args.mask.now c.args.form.now size c.in-Ranges.is c.requires.mask c.requires.form size_is in
    let bytes : AreBytes blob = λ i. omega (arith, c.args.blob.now.are_bytes i) in
    record {
      ok = image_ranges h blob c.args.mask.now size (length blob - 2 * size) (g.T.Target.pixels c.fill_list.new.raster) bytes there size_is refl c.fill_list.ensures.filled;
      fault = tt;
    }

pub returns-in-Sweep-clause-read : goal.returns-in-Sweep-clause-read
returns-in-Sweep-clause-read g c =
    let h = c.args.blob.now.header in
    let blob = c.args.blob.now.bytes.now in
    let mask = c.args.mask.now in
    let at = c.in-Sweep.at in
    let there = sweep_there h blob mask c.args.form.now at c.in-Sweep.is c.requires.mask c.requires.form in
    record {
      ok = ok_map (image_sweep h blob mask at (g.T.Target.pixels c.scatter_sweep.new.raster) there) c.scatter_sweep.result c.scatter_sweep.ensures.ok;
      fault = err_map (sweep_fault h blob mask (marks_of (g.T.Target.pixels c.args.raster.now)) at there) c.scatter_sweep.result c.scatter_sweep.ensures.fault;
    }
