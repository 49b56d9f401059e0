use Rattle.std.proofs.Common.{◌≡◌, inl, [], length, sym, subst, ap, ◌∙◌, arith, rules}
use Rattle.std.proofs.lemmas.List.{nil_from_length}
use Rattle.outside_io.specs.volume.Disk.{Disk}
use Rattle.outside_io.specs.volume.History.{current}
use Rattle.outside_io.proofs.VolumeLemmas.Moments.{during_join, during_map, started, stays_on}
use Rattle.bundle_store.specs.inside.Table.{table_map}
use Rattle.bundle_store.specs.Images.{EachImage, EmptyOr}
use Rattle.bundle_store.specs.Tiles.{tiles}
use Rattle.bundle_store.proofs.Recovering.{tiles_empty}
use Rattle.bundle_store.proofs.Standing.{still_good}
use Rattle.bundle_store.specs.Layout.{layout}
use Rattle.bundle_store.proofs.Keeping.{keeps_disk}
use Rattle.bundle_store.proofs.Rests.{holds_rest, opens_layout}
use Rattle.bundle_store.specs.inside.Parts.{IsAtRest}
use Rattle.bundle_store.proofs.build.build_on.Goals as goal

pub returns-in_err-len-clause-changes : goal.returns-in_err-len-clause-changes
returns-in_err-len-clause-changes g c = record {
  same = (cc);
  counted = search rules;
  during = λ told.
      let old = g.V.Volume.history c.args.vol.now in
      let map = table_map c.args.tiles.now c.args.table.now in
      let Pass : Disk → Type 0 = λ d. (current old).bundle.now ≡ [] → EachImage (EmptyOr map) d in
      let start : Pass (current old) = λ is. still_good (EmptyOr map) (current old) (c.requires.rest told).quiet (c.requires.rest told).closed (inl (ap length is)) (inl (ap tiles is ∙ tiles_empty)) in
      let measuring = stays_on Pass _ _ _ _ (started Pass old start) c.len.ensures.time (c.len.ensures.disk told) in
      measuring;
}

pub returns-clause-changes : goal.returns-clause-changes
returns-clause-changes g c = record {
  same = (cc);
  counted = search rules;
  during = λ told.
      let old = g.V.Volume.history c.args.vol.now in
      let map = table_map c.args.tiles.now c.args.table.now in
      let Pass : Disk → Type 0 = λ d. (current old).bundle.now ≡ [] → EachImage (EmptyOr map) d in
      let start : Pass (current old) = λ is. still_good (EmptyOr map) (current old) (c.requires.rest told).quiet (c.requires.rest told).closed (inl (ap length is)) (inl (ap tiles is ∙ tiles_empty)) in
      let measuring = stays_on Pass _ _ _ _ (started Pass old start) c.len.ensures.time (c.len.ensures.disk told) in
      during_join Pass _ _ _ measuring (during_map _ Pass _ _ (λ d each is. each) (c.build_empty.ensures.changes.during (c.len.ensures.told ∙ told)));
}

pub returns-clause-rest : goal.returns-clause-rest
returns-clause-rest g c = λ told.
    let map = table_map c.args.tiles.now c.args.table.now in
    holds_rest (layout map) c.build_empty.new.front (current (g.V.Volume.history c.build_empty.new.vol)) (opens_layout map c.requires.table.are_tiles) c.in_ok-build_empty.ensures.keeps (c.in_ok-build_empty.ensures.done (c.len.ensures.told ∙ told))

pub returns-in_err-build_empty-clause-changes : goal.returns-in_err-build_empty-clause-changes
returns-in_err-build_empty-clause-changes g c = record {
  same = (cc);
  counted = search rules;
  during = λ told.
      let old = g.V.Volume.history c.args.vol.now in
      let map = table_map c.args.tiles.now c.args.table.now in
      let Pass : Disk → Type 0 = λ d. (current old).bundle.now ≡ [] → EachImage (EmptyOr map) d in
      let start : Pass (current old) = λ is. still_good (EmptyOr map) (current old) (c.requires.rest told).quiet (c.requires.rest told).closed (inl (ap length is)) (inl (ap tiles is ∙ tiles_empty)) in
      let measuring = stays_on Pass _ _ _ _ (started Pass old start) c.len.ensures.time (c.len.ensures.disk told) in
      during_join Pass _ _ _ measuring (during_map _ Pass _ _ (λ d each is. each) (c.build_empty.ensures.changes.during (c.len.ensures.told ∙ told)));
}

pub returns-then-len-ne0-clause-changes : goal.returns-then-len-ne0-clause-changes
returns-then-len-ne0-clause-changes g c = record {
  same = (cc);
  counted = search rules;
  during = λ told.
      let old = g.V.Volume.history c.args.vol.now in
      let map = table_map c.args.tiles.now c.args.table.now in
      let Pass : Disk → Type 0 = λ d. (current old).bundle.now ≡ [] → EachImage (EmptyOr map) d in
      let start : Pass (current old) = λ is. still_good (EmptyOr map) (current old) (c.requires.rest told).quiet (c.requires.rest told).closed (inl (ap length is)) (inl (ap tiles is ∙ tiles_empty)) in
      let measuring = stays_on Pass _ _ _ _ (started Pass old start) c.len.ensures.time (c.len.ensures.disk told) in
      measuring;
}

pub returns-then-len-ne0-clause-kept : goal.returns-then-len-ne0-clause-kept
returns-then-len-ne0-clause-kept g c = λ told.
    keeps_disk _ _ _ c.len.ensures.time (c.len.ensures.disk told)

pub returns-in_err-len-clause-beside : goal.returns-in_err-len-clause-beside
returns-in_err-len-clause-beside g c = λ told some.
    keeps_disk _ _ _ c.len.ensures.time (c.len.ensures.disk told)

pub returns-then-len-ne0-clause-beside : goal.returns-then-len-ne0-clause-beside
returns-then-len-ne0-clause-beside g c = λ told some.
    keeps_disk _ _ _ c.len.ensures.time (c.len.ensures.disk told)

pub returns-in_err-build_empty-clause-beside : goal.returns-in_err-build_empty-clause-beside
returns-in_err-build_empty-clause-beside g c = λ told some.
    absurd (omega (arith, some, c.in_ok-len.ensures.answer told, c.if-len-ne0.false))

pub returns-clause-beside : goal.returns-clause-beside
returns-clause-beside g c = λ told some.
    absurd (omega (arith, some, c.in_ok-len.ensures.answer told, c.if-len-ne0.false))

pub returns-then-len-ne0-clause-rest : goal.returns-then-len-ne0-clause-rest
returns-then-len-ne0-clause-rest g c = λ told.
    subst (IsAtRest c.args.front.now) (sym (c.len.ensures.disk told))
    (c.requires.rest told)

pub build_empty-requires-clause-empty : goal.build_empty-requires-clause-empty
build_empty-requires-clause-empty g c = λ told_1.
    let told = sym c.len.ensures.told ∙ told_1 in
    let zero = sym (c.in_ok-len.ensures.answer told) ∙ c.if-len-ne0.false in
    ap (λ (d : Disk). d.bundle.now) (c.len.ensures.disk told) ∙ nil_from_length _ zero

pub returns-clause-empty : goal.returns-clause-empty
returns-clause-empty g c = λ told.
    nil_from_length _ (sym (c.in_ok-len.ensures.answer told) ∙ c.if-len-ne0.false)
