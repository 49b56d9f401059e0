use Rattle.std.proofs.Common.{◌≡◌, ℕ, ◌*◌, ◌<◌, ◌≤◌, true, false, List, length, get_or, take, sym, refl, nat_eq, subst, arith, rules, inl, inr, ⊎_elim}
use Rattle.std.specs.Prelude.{not}
use Rattle.std.specs.Cmp.Lexicographic.{pointwise}
use Rattle.std.proofs.lemmas.Bool.{cases_lt, false≢true}
use Rattle.std.proofs.lemmas.Result.{err_from_is_err_and}
use Rattle.raster_grids.specs.declared.reading.GridReason.{GridReason}
use Rattle.raster_grids.specs.declared.reading.GridReason.TheVariants.{TooLarge}
use Rattle.raster_cells.specs.Shapes.{IsShape, IsTooLarge}
use Rattle.raster_grids.specs.ReadGrid.{number_at, shape_faults, depth_faults, cols_faults, rows_faults, magic_faults}
use Rattle.raster_grids.specs.inside.Heads.{IsSizeFault}
use Rattle.raster_grids.proofs.reading.head_of.Goals as goal

-- a number above 5 names no type
named : (code : ℕ) → (5 < code → true ≡ false) → code ≤ 5
named code none =
    ⊎_elim (λ (lt : 5 < code). absurd (false≢true (sym (none lt)))) (λ (ge : code ≤ 5). ge)
    (cases_lt 5 code)

begins : (magic bytes : List ℕ) → false ≡ not (pointwise nat_eq (take 4 bytes) magic)
    → take 4 bytes ≡ magic
begins magic bytes same = search rules

-- what is wrong behind the type is what is wrong first
behind : (magic bytes : List ℕ) (place : ℕ) (reason : GridReason) → 5 ≤ length bytes
    → take 4 bytes ≡ magic → get_or bytes 4 0 ≤ 5
    → rows_faults bytes place reason → magic_faults magic bytes place reason
behind magic bytes place reason long letters kind h =
    inl (omega (arith, long), inl (letters, inl (long, inl (kind, h))))

rows_wrong : (bytes : List ℕ) (place : ℕ) (reason : GridReason)
    → IsSizeFault bytes 5 place reason → rows_faults bytes place reason
rows_wrong bytes place reason h = search rules

cols_wrong : (bytes : List ℕ) (place : ℕ) (reason : GridReason)
    → IsSizeFault bytes 9 place reason → cols_faults bytes place reason
cols_wrong bytes place reason h = search rules

depth_wrong : (bytes : List ℕ) (place : ℕ) (reason : GridReason)
    → IsSizeFault bytes 13 place reason → depth_faults bytes place reason
depth_wrong bytes place reason h = search rules

shape_wrong : (bytes : List ℕ) (place rows cols depth : ℕ) (reason : GridReason)
    → rows ≡ number_at bytes 5 → cols ≡ number_at bytes 9 → depth ≡ number_at bytes 13
    → 0 < rows → 0 < cols → 0 < depth → (IsShape rows cols depth → false ≡ true) → place ≡ 13
    → reason ≡ TooLarge → shape_faults bytes place reason
shape_wrong bytes place rows cols depth reason high wide deep tall broad thick over at why =
    let large : IsTooLarge rows cols depth =
    ⊎_elim (λ (lt : 65536 < depth). inl lt)
    (λ (few : depth ≤ 65536). ⊎_elim (λ (lt : 16777216 < rows * cols * depth). inr lt)
    (λ (small : rows * cols * depth ≤ 16777216). absurd (false≢true (over (record { rows_above = tall; cols_above = broad; depth_above = thick; depth_below = few; size = small }))))
    (cases_lt 16777216 (rows * cols * depth))) (cases_lt 65536 depth) in
    let told : IsTooLarge (number_at bytes 5) (number_at bytes 9) (number_at bytes 13) =
    subst (λ n. IsTooLarge (number_at bytes 5) (number_at bytes 9) n) deep
    (subst (λ n. IsTooLarge (number_at bytes 5) n depth) wide
    (subst (λ n. IsTooLarge n cols depth) high large)) in
    inr ((λ fine. fine told), (at, why))

near : (bytes : List ℕ) (at place : ℕ) (reason : GridReason) → at ≤ 13 → length bytes ≤ 17
    → IsSizeFault bytes at place reason → place ≤ 17
near bytes at place reason low few h = search rules

pub returns-in_err-rows : goal.returns-in_err-rows
returns-in_err-rows c =
    let bytes = c.args.bytes.now in
    let f = c.in_err-rows.field-0.0 in
    let p = err_from_is_err_and c.from_residual.result c.from_residual.ensures.1 in
    let letters : take 4 bytes ≡ c.args.magic = begins c.args.magic bytes c.if-ne.ensures in
    let kind : get_or bytes 4 0 ≤ 5 = named (get_or bytes 4 0) c.in-Some.ensures.none.1 in
    let wrong = c.in_err-rows.ensures.err in
    rw (p.1, p.2) (
      behind c.args.magic bytes f.place f.reason (omega arith) letters kind
          (rows_wrong bytes f.place f.reason wrong),
      near bytes 5 f.place f.reason (omega arith) c.requires wrong,
    )

pub returns-in_err-cols : goal.returns-in_err-cols
returns-in_err-cols c =
    let bytes = c.args.bytes.now in
    let f = c.in_err-cols.field-0.0 in
    let p =
    err_from_is_err_and c.from_residual-in_err-cols.result c.from_residual-in_err-cols.ensures.1 in
    let letters : take 4 bytes ≡ c.args.magic = begins c.args.magic bytes c.if-ne.ensures in
    let kind : get_or bytes 4 0 ≤ 5 = named (get_or bytes 4 0) c.in-Some.ensures.none.1 in
    let rows = c.in_ok-rows.ensures.ok in
    let some : 0 < number_at bytes 5 = omega (arith, rows.1) in
    let wrong = c.in_err-cols.ensures.err in
    rw (p.1, p.2) (
      behind c.args.magic bytes f.place f.reason (omega arith) letters kind
          (inl (rows.0, inl (some, cols_wrong bytes f.place f.reason wrong))),
      near bytes 9 f.place f.reason (omega arith) c.requires wrong,
    )

pub returns-in_err-depth : goal.returns-in_err-depth
returns-in_err-depth c =
    let bytes = c.args.bytes.now in
    let f = c.in_err-depth.field-0.0 in
    let p =
    err_from_is_err_and c.from_residual-in_err-depth.result c.from_residual-in_err-depth.ensures.1
    in
    let letters : take 4 bytes ≡ c.args.magic = begins c.args.magic bytes c.if-ne.ensures in
    let kind : get_or bytes 4 0 ≤ 5 = named (get_or bytes 4 0) c.in-Some.ensures.none.1 in
    let rows = c.in_ok-rows.ensures.ok in
    let cols = c.in_ok-cols.ensures.ok in
    let some : 0 < number_at bytes 5 = omega (arith, rows.1) in
    let more : 0 < number_at bytes 9 = omega (arith, cols.1) in
    let wrong = c.in_err-depth.ensures.err in
    rw (p.1, p.2) (
      behind c.args.magic bytes f.place f.reason (omega arith) letters kind
          (inl (rows.0, inl (some, inl (cols.0, inl (more, depth_wrong bytes f.place f.reason wrong))))),
      near bytes 13 f.place f.reason (omega arith) c.requires wrong,
    )

pub returns-then-not-is_shape : goal.returns-then-not-is_shape
returns-then-not-is_shape c =
    let bytes = c.args.bytes.now in
    let f = c.fault-then-not-is_shape.result in
    let letters : take 4 bytes ≡ c.args.magic = begins c.args.magic bytes c.if-ne.ensures in
    let kind : get_or bytes 4 0 ≤ 5 = named (get_or bytes 4 0) c.in-Some.ensures.none.1 in
    let rows = c.in_ok-rows.ensures.ok in
    let cols = c.in_ok-cols.ensures.ok in
    let depth = c.in_ok-depth.ensures.ok in
    let some : 0 < number_at bytes 5 = omega (arith, rows.1) in
    let more : 0 < number_at bytes 9 = omega (arith, cols.1) in
    let deep : 0 < number_at bytes 13 = omega (arith, depth.1) in
    let wrong =
    shape_wrong bytes f.place c.in_ok-rows.rows c.in_ok-cols.cols c.in_ok-depth.depth f.reason
    rows.1.0 cols.1.0 depth.1.0 rows.1.1 cols.1.1 depth.1.1
    c.if-not-is_shape.ensures.1 c.fault-then-not-is_shape.ensures.place
    c.fault-then-not-is_shape.ensures.reason in (
      behind c.args.magic bytes f.place f.reason (omega arith) letters kind
          (inl (rows.0, inl (some, inl (cols.0, inl (more, inl (depth.0, inl (deep, wrong))))))),
      omega (arith, c.fault-then-not-is_shape.ensures.place),
    )

pub returns : goal.returns
returns c =
    let rows = c.in_ok-rows.ensures.ok in
    let cols = c.in_ok-cols.ensures.ok in
    let depth = c.in_ok-depth.ensures.ok in
    record {
      size = omega (arith, depth.0, c.requires);
      letters = begins c.args.magic c.args.bytes.now c.if-ne.ensures;
      kind = (c.in-Some.ensures.named c.in-Some.kind).0 refl;
      rows = sym rows.1.0;
      cols = sym cols.1.0;
      depth = sym depth.1.0;
      shape = c.if-not-is_shape.ensures.0 refl;
    }

pub returns-then-bytes-lt5 : goal.returns-then-bytes-lt5
returns-then-bytes-lt5 c =
    let letters = begins c.args.magic c.args.bytes.now c.if-ne.ensures in
    let short : length c.args.bytes.now < 5 = c.if-bytes-lt5.true in
    let cut = c.fault-cut.ensures in (
      inl (
        omega arith,
        inl (letters, inr ((λ long. omega (arith, long, short)), (cut.place, cut.reason))),
      ),
      omega (arith, cut.place, short),
    )
