use Rattle.std.proofs.Common.{◌≡◌, ◌+◌, ◌++◌, ℕ, List, Bool, arith, sym, subst}
use Rattle.std.specs.Prelude.{codes}
use Rattle.std.proofs.lemmas.Result.{err_from_is_err_and, IfOk-weaker, IfErr-weaker, on_err_weaker}
use Rattle.first_fault.specs.Faults.{AllNumbered, InNumbered}
use Rattle.raster_grids.specs.BandsGrid.{IsBandGrid, TookBands, bands_faults}
use Rattle.raster_grids.specs.ReadGrid.{IsHead, IsToldFault, behind_head}
use Rattle.raster_grids.specs.Taken.{TookBytes}
use Rattle.raster_grids.specs.inside.Heads.{front_faults, letters_of}
use Rattle.raster_cells.proofs.Pack.{on_err}
use Rattle.raster_grids.proofs.TakenBytes.{took_join, took_more}
use Rattle.raster_grids.proofs.GridParts.{told_so}
use Rattle.raster_grids.proofs.BandsTaken.{front_is_fault, one_told, one_taken, more_told, count_told, bands_told, more_taken}
use Rattle.raster_grids.proofs.bands_grid.bands_read.Goals as goal

pub returns-in_err-head-clause-fault : goal.returns-in_err-head-clause-fault
returns-in_err-head-clause-fault g c =
    let p = err_from_is_err_and c.from_residual.result c.from_residual.ensures.1 in
    rw (p.1, p.2) (told_so front_faults bands_faults front_is_fault (g.S.Source.left c.args.src.now) c.args.at c.in_err-head.field-0.0 c.in_err-head.ensures.err)

pub returns-in_err-count-clause-fault : goal.returns-in_err-count-clause-fault
returns-in_err-count-clause-fault g c =
    let h = c.in_ok-head.head in
    let taken = c.in_ok-head.ensures.ok in
    let mid = g.S.Source.left c.take_front.new.src in
    let stands : IsHead (codes "LGR2") taken.0 h = subst (λ (b : Bool). IsHead (letters_of b) taken.0 h) c.if-more.true taken.1.0 in
    let stop = c.in_err-count.field-0.0 in
    let p = err_from_is_err_and c.from_residual-in_err-count.result c.from_residual-in_err-count.ensures.1 in
    rw (p.1, p.2) (more_told (g.S.Source.left c.args.src.now) mid taken.0 h c.args.at stop stands taken.1.1 (count_told mid h (c.args.at + 17) stop c.in_err-count.ensures.err))

pub returns-in_err-count-clause-some : goal.returns-in_err-count-clause-some
returns-in_err-count-clause-some g c =
    let taken = c.in_ok-head.ensures.ok in
    on_err c.from_residual-in_err-count.result (took_more _ _ _ taken.0 taken.1.1 c.in_err-count.ensures.some)

pub returns-in_err-band-clause-fault : goal.returns-in_err-band-clause-fault
returns-in_err-band-clause-fault g c =
    let h = c.in_ok-head.head in
    let taken = c.in_ok-head.ensures.ok in
    let mid = g.S.Source.left c.take_front.new.src in
    let stands : IsHead (codes "LGR1") taken.0 h = subst (λ (b : Bool). IsHead (letters_of b) taken.0 h) c.if-more.false taken.1.0 in
    let p = err_from_is_err_and c.from_residual-in_err-band.result c.from_residual-in_err-band.ensures.1 in
    rw (p.1, p.2) (one_told (g.S.Source.left c.args.src.now) mid taken.0 h c.args.at c.in_err-band.field-0.0 stands taken.1.1 c.in_err-band.ensures.err)

pub returns-in_err-band-clause-some : goal.returns-in_err-band-clause-some
returns-in_err-band-clause-some g c =
    let taken = c.in_ok-head.ensures.ok in
    on_err c.from_residual-in_err-band.result (took_more _ _ _ taken.0 taken.1.1 c.in_err-band.ensures.some)

pub returns-in_err-of-clause-some : goal.returns-in_err-of-clause-some
returns-in_err-of-clause-some g c =
    let taken = c.in_ok-head.ensures.ok in
    let one = c.in_ok-band.ensures.ok in
    on_err c.from_residual-in_err-of.result (taken.0 ++ one.0, took_join _ _ _ taken.0 one.0 taken.1.1 one.1.1)

pub returns-in_ok-count-clause-ok : goal.returns-in_ok-count-clause-ok
returns-in_ok-count-clause-ok g c =
    let h = c.in_ok-head.head in
    let n = c.in_ok-count.count in
    let taken = c.in_ok-head.ensures.ok in
    let number = c.in_ok-count.ensures.ok in
    let old = g.S.Source.left c.args.src.now in
    let mid = g.S.Source.left c.take_front.new.src in
    let later = g.S.Source.left c.take_count.new.src in
    let new = g.S.Source.left c.read_bands.new.src in
    let stands : IsHead (codes "LGR2") taken.0 h = subst (λ (b : Bool). IsHead (letters_of b) taken.0 h) c.if-more.true taken.1.0 in
    IfOk-weaker c.read_bands.result (λ bands. (bytes : List ℕ) × (AllNumbered (λ k. IsBandGrid h) n bytes bands × TookBytes later new bytes)) (λ bands. TookBands old new bands)
    (λ bands all. more_taken old mid later new taken.0 number.0 all.0 h n bands stands taken.1.1 number.1.0 number.1.1 all.1.0 all.1.1) c.read_bands.ensures.ok

pub returns-in_ok-count-clause-fault : goal.returns-in_ok-count-clause-fault
returns-in_ok-count-clause-fault g c =
    let h = c.in_ok-head.head in
    let n = c.in_ok-count.count in
    let taken = c.in_ok-head.ensures.ok in
    let number = c.in_ok-count.ensures.ok in
    let old = g.S.Source.left c.args.src.now in
    let mid = g.S.Source.left c.take_front.new.src in
    let later = g.S.Source.left c.take_count.new.src in
    let stands : IsHead (codes "LGR2") taken.0 h = subst (λ (b : Bool). IsHead (letters_of b) taken.0 h) c.if-more.true taken.1.0 in
    IfErr-weaker c.read_bands.result (λ stop. IsToldFault (InNumbered (λ k. IsBandGrid h) (λ k. behind_head h) n) later (c.args.at + 21) stop) (λ stop. IsToldFault bands_faults old c.args.at stop)
    (λ stop told. more_told old mid taken.0 h c.args.at stop stands taken.1.1
    (bands_told mid later number.0 h n (c.args.at + 17) (c.args.at + 21) stop number.1.0 number.1.1 (let e : c.args.at + 21 ≡ c.args.at + 17 + 4 = omega arith in e) told)) c.read_bands.ensures.err

pub returns-in_ok-count-clause-some : goal.returns-in_ok-count-clause-some
returns-in_ok-count-clause-some g c =
    let taken = c.in_ok-head.ensures.ok in
    let number = c.in_ok-count.ensures.ok in
    on_err_weaker c.read_bands.result (λ some. took_more _ _ _ (taken.0 ++ number.0) (took_join _ _ _ taken.0 number.0 taken.1.1 number.1.1) some) c.read_bands.ensures.some

pub returns-in_ok-of-clause-ok : goal.returns-in_ok-of-clause-ok
returns-in_ok-of-clause-ok g c =
    let h = c.in_ok-head.head in
    let taken = c.in_ok-head.ensures.ok in
    let one = c.in_ok-band.ensures.ok in
    let old = g.S.Source.left c.args.src.now in
    let mid = g.S.Source.left c.take_front.new.src in
    let new = g.S.Source.left c.read_band.new.src in
    let stands : IsHead (codes "LGR1") taken.0 h = subst (λ (b : Bool). IsHead (letters_of b) taken.0 h) c.if-more.false taken.1.0 in
    subst (TookBands old new) (sym c.in_ok-of.ensures) (one_taken old mid new taken.0 one.0 h c.in_ok-band.band stands taken.1.1 one.1.0 one.1.1)
