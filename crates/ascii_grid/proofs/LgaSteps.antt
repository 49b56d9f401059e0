-- A whole `LGA1`, field by field.
use Rattle.std.proofs.Common.{◌≡◌, ℕ, ℤ, suc, ◌+◌, List, ◌++◌, length, All, Option, None, Some, IfSome, Ok, Err, ap, ◌∙◌, subst, arith, append_assoc}
use Rattle.std.specs.Prelude.{codes}
use Rattle.raster_grids.specs.ReadGrid.{IsGrid}
use Rattle.raster_grids.specs.Taken.{TookBytes}
use Rattle.ascii_grid.specs.declared.fault.AsciiStop.{AsciiStop}
use Rattle.ascii_grid.specs.declared.fault.AsciiStop.TheVariants.{Fault, Source, OutOfMemory}
use Rattle.ascii_grid.specs.declared.grid.AsciiGrid.{AsciiGrid}
use Rattle.ascii_grid.specs.declared.lga.fields.Centres.{Centres}
use Rattle.ascii_grid.specs.Canon.{IsApart, IsLawful}
use Rattle.ascii_grid.specs.Lga.{IsFlags, IsLga, IsMagic, IsNodataField, IsTextField, LgaRead, behind_cell, behind_flags, behind_magic, behind_x, behind_y, flag_faults, grid_and_end_faults, lga_faults, magic_faults, nodata_faults, text_field_faults}
use Rattle.ascii_grid.specs.inside.Fields.{Tells, TookPart}
use Rattle.ascii_grid.proofs.FieldSteps.{tells_later, tells_own, took_both}

-- ---- a fault behind fields that were taken

pub up_magic : (old mid : Option (List ℕ)) (u : Unit {0}) (e : AsciiStop) → TookPart IsMagic old mid u → Tells behind_magic mid 4 e → Tells lga_faults old 0 e
up_magic old mid u e (front, (is, took)) h = tells_later IsMagic magic_faults (λ (v : Unit {0}). behind_magic) old mid 0 4 u front e is took (let s : 4 ≡ 0 + length front = omega (arith, ap length is) in s) h

pub up_flags : (old mid : Option (List ℕ)) (c : Centres) (e : AsciiStop) → TookPart IsFlags old mid c → Tells behind_flags mid 5 e → Tells behind_magic old 4 e
up_flags old mid c e (front, (is, took)) h = tells_later IsFlags flag_faults (λ (d : Centres). behind_flags) old mid 4 5 c front e is took (let s : 5 ≡ 4 + length front = omega (arith, ap length is) in s) h

long : (front text : List ℕ) (at next : ℕ) → IsTextField front text → next ≡ at + 1 + length text → next ≡ at + length front
long front text at next is e = let s : length front ≡ suc (length text) = ap length is.spelled in omega (arith, s, e)

pub up_x : (old mid : Option (List ℕ)) (at next : ℕ) (text : List ℕ) (e : AsciiStop) → TookPart IsTextField old mid text → next ≡ at + 1 + length text → Tells behind_x mid next e → Tells behind_flags old at e
up_x old mid at next text e (front, (is, took)) place h = tells_later IsTextField text_field_faults (λ (t : List ℕ). behind_x) old mid at next text front e is took (long front text at next is place) h

pub up_y : (old mid : Option (List ℕ)) (at next : ℕ) (text : List ℕ) (e : AsciiStop) → TookPart IsTextField old mid text → next ≡ at + 1 + length text → Tells behind_y mid next e → Tells behind_x old at e
up_y old mid at next text e (front, (is, took)) place h = tells_later IsTextField text_field_faults (λ (t : List ℕ). behind_y) old mid at next text front e is took (long front text at next is place) h

pub up_cell : (old mid : Option (List ℕ)) (at next : ℕ) (text : List ℕ) (e : AsciiStop) → TookPart IsTextField old mid text → next ≡ at + 1 + length text → Tells behind_cell mid next e → Tells behind_y old at e
up_cell old mid at next text e (front, (is, took)) place h = tells_later IsTextField text_field_faults (λ (t : List ℕ). behind_cell) old mid at next text front e is took (long front text at next is place) h

pub up_nodata : (old mid : Option (List ℕ)) (at next : ℕ) (z : ℤ) (e : AsciiStop) → TookPart IsNodataField old mid z → next ≡ at + 8 → Tells (grid_and_end_faults z) mid next e → Tells behind_cell old at e
up_nodata old mid at next z e (front, (is, took)) place h = tells_later IsNodataField nodata_faults grid_and_end_faults old mid at next z front e is took (omega (arith, is.size, place)) h

-- ---- and a fault of a field

pub at_magic : (old : Option (List ℕ)) (e : AsciiStop) → Tells magic_faults old 0 e → Tells lga_faults old 0 e
at_magic old e h = tells_own IsMagic magic_faults (λ (v : Unit {0}). behind_magic) old 0 e h

pub at_flags : (old : Option (List ℕ)) (e : AsciiStop) → Tells flag_faults old 4 e → Tells behind_magic old 4 e
at_flags old e h = tells_own IsFlags flag_faults (λ (d : Centres). behind_flags) old 4 e h

pub at_x : (old : Option (List ℕ)) (at : ℕ) (e : AsciiStop) → Tells text_field_faults old at e → Tells behind_flags old at e
at_x old at e h = tells_own IsTextField text_field_faults (λ (t : List ℕ). behind_x) old at e h

pub at_y : (old : Option (List ℕ)) (at : ℕ) (e : AsciiStop) → Tells text_field_faults old at e → Tells behind_x old at e
at_y old at e h = tells_own IsTextField text_field_faults (λ (t : List ℕ). behind_y) old at e h

pub at_cell : (old : Option (List ℕ)) (at : ℕ) (e : AsciiStop) → Tells text_field_faults old at e → Tells behind_y old at e
at_cell old at e h = tells_own IsTextField text_field_faults (λ (t : List ℕ). behind_cell) old at e h

pub at_nodata : (old : Option (List ℕ)) (at : ℕ) (e : AsciiStop) → Tells nodata_faults old at e → Tells behind_cell old at e
at_nodata old at e h = tells_own IsNodataField nodata_faults grid_and_end_faults old at e h

pub stopped : (old : Option (List ℕ)) (e : AsciiStop) → Tells lga_faults old 0 e → IfSome old (λ bytes. LgaRead (Err e) bytes)
stopped None e h = tt
stopped (Some left) Source h = tt
stopped (Some left) OutOfMemory h = tt
stopped (Some left) (Fault f) (p, (is, h)) = subst (λ (n : ℕ). lga_faults left n f.reason) (let s : p ≡ f.place = omega (arith, is) in s) h

-- ---- all of it

joins : (a b c d e f r : List ℕ) → (a ++ (b ++ (c ++ (d ++ (e ++ f))))) ++ r ≡ a ++ (b ++ (c ++ (d ++ (e ++ (f ++ r)))))
joins a b c d e f r =
    append_assoc a (b ++ (c ++ (d ++ (e ++ f)))) r ∙ ap (λ (u : List ℕ). a ++ u) (append_assoc b (c ++ (d ++ (e ++ f))) r ∙ ap (λ (u : List ℕ). b ++ u) (append_assoc c (d ++ (e ++ f)) r ∙ ap (λ (u : List ℕ). c ++ u) (append_assoc d (e ++ f) r ∙ ap (λ (u : List ℕ). d ++ u) (append_assoc e f r))))

-- what was taken before the grid
pub record Before (g : AsciiGrid) (old mid : Option (List ℕ)) : Type 0 where
  pub flags : List ℕ
  pub x : List ℕ
  pub y : List ℕ
  pub cell : List ℕ
  pub nodata : List ℕ
  pub flags_are : IsFlags flags (record { x = g.geo.x_centre; y = g.geo.y_centre })
  pub x_is : IsTextField x g.geo.x
  pub y_is : IsTextField y g.geo.y
  pub cell_is : IsTextField cell g.geo.cell
  pub nodata_is : IsNodataField nodata g.geo.nodata
  pub took : TookBytes old mid (codes "LGA1" ++ (flags ++ (x ++ (y ++ (cell ++ nodata)))))

pub before : (g : AsciiGrid) (o a b c d e f : Option (List ℕ)) (u : Unit {0}) → TookPart IsMagic o a u → TookPart IsFlags a b (record { x = g.geo.x_centre; y = g.geo.y_centre }) → TookPart IsTextField b c g.geo.x → TookPart IsTextField c d g.geo.y
    → TookPart IsTextField d e g.geo.cell → TookPart IsNodataField e f g.geo.nodata → Before g o f
before g o a b c d e f u (m, (m_is, m_took)) (w, (w_is, w_took)) (x, (x_is, x_took)) (y, (y_is, y_took)) (t, (t_is, t_took)) (n, (n_is, n_took)) = record {
  flags = w;
  x = x;
  y = y;
  cell = t;
  nodata = n;
  flags_are = w_is;
  x_is = x_is;
  y_is = y_is;
  cell_is = t_is;
  nodata_is = n_is;
  took = took_both o a f (codes "LGA1") (w ++ (x ++ (y ++ (t ++ n)))) (subst (λ (v : List ℕ). TookBytes o a v) m_is m_took)
      (took_both a b f w (x ++ (y ++ (t ++ n))) w_took (took_both b c f x (y ++ (t ++ n)) x_took (took_both c d f y (t ++ n) y_took (took_both d e f t n t_took n_took))));
}

pub whole : (g : AsciiGrid) (old mid : Option (List ℕ)) → Before g old mid → IfSome mid (λ bytes. IsGrid bytes g.raster) → g.raster.depth ≡ 1 → All (IsApart g.geo.nodata) g.raster.pixels → IfSome old (λ bytes. LgaRead (Ok g) bytes)
whole g None mid b grid depth apart = tt
whole g (Some left) mid b grid depth apart = from b.took.0 b.took.1.0 (subst (λ (o : Option (List ℕ)). IfSome o (λ bytes. IsGrid bytes g.raster)) b.took.1.1 grid)
  where
    from : (rest : List ℕ) → left ≡ (codes "LGA1" ++ (b.flags ++ (b.x ++ (b.y ++ (b.cell ++ b.nodata))))) ++ rest → IsGrid rest g.raster → IsLga left g
    from rest joined is = record {
      flags = b.flags;
      x = b.x;
      y = b.y;
      cell = b.cell;
      nodata = b.nodata;
      grid = rest;
      joined = joined ∙ joins (codes "LGA1") b.flags b.x b.y b.cell b.nodata rest;
      flags_are = b.flags_are;
      x_is = b.x_is;
      y_is = b.y_is;
      cell_is = b.cell_is;
      nodata_is = b.nodata_is;
      grid_is = is;
      depth = depth;
      apart = apart;
    }

pub lawful : (g : AsciiGrid) (old mid : Option (List ℕ)) → Before g old mid → g.raster.depth ≡ 1 → All (IsApart g.geo.nodata) g.raster.pixels → IsLawful g
lawful g old mid b depth apart = record {
  depth = depth;
  geo = record { x = b.x_is.text_is; y = b.y_is.text_is; cell = b.cell_is.text_is; nodata = b.nodata_is.few };
  apart = apart;
}
