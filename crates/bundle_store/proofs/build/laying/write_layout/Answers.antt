use Rattle.std.proofs.Common.{◌≡◌, ℕ, ◌+◌, List, [], ◌++◌, length, length-append, sym, ap, ◌∙◌, arith, rules}
use Rattle.std.proofs.lemmas.List.{append_assoc}
use Rattle.std.proofs.lemmas.Result.{on_ok_weaker}
use Rattle.outside_io.specs.volume.Disk.{Disk, settled}
use Rattle.outside_io.specs.volume.History.{current}
use Rattle.bundle_index.specs.Header.{fresh_header}
use Rattle.bundle_index.proofs.Headers.{length-fresh_header}
use Rattle.bundle_store.specs.inside.Parts.{Extends}
use Rattle.bundle_store.specs.inside.Table.{table_map}
use Rattle.bundle_store.specs.Layout.{entries, greatest_size, layout, records}
use Rattle.bundle_store.proofs.Layouts.{is_layout, length-entries}
use Rattle.bundle_store.proofs.Keeping.{journal_on, journal_stays}
use Rattle.bundle_store.proofs.Kept.{kept_layout}
use Rattle.bundle_store.proofs.build.laying.write_layout.Goals as goal

pub fill-requires-clause-size : goal.fill-requires-clause-size
fill-requires-clause-size g c =
    let map = table_map c.args.tiles.now c.args.table.now in
    let total = length (records map 16384) in
    let header : c.fresh.result ≡ fresh_header (greatest_size map 16384) (131136 + total) = c.fresh.ensures ∙ (λ i. fresh_header (c.measure-most.ensures.greatest i) (131136 + c.measure-most.ensures.total i)) in
    ap length header ∙ length-fresh_header (greatest_size map 16384) (131136 + total)

pub write_records-requires-clause-end : goal.write_records-requires-clause-end
write_records-requires-clause-end g c = λ told_1.
    let told_0 = sym c.write.ensures.changes.same ∙ told_1 in
    let map = table_map c.args.tiles.now c.args.table.now in
    let old = current (g.V.Volume.history c.args.vol.now) in
    let one = current (g.V.Volume.history c.write.new.vol) in
    let nothing : old.bundle.now ≡ [] = c.requires.empty told_0 in
    let head = c.fill.new.self.header in
    let words = c.fill.new.self.index in
    let front : Extends old one (head ++ words) = c.in_ok-write.ensures.done told_0 in
    let total = length (records map 16384) in
    let header : head ≡ fresh_header (greatest_size map 16384) (131136 + total) = c.fill.ensures.header ∙ c.fresh.ensures ∙ (λ i. fresh_header (c.measure-most.ensures.greatest i) (131136 + c.measure-most.ensures.total i)) in
    omega (arith, ap length front.bundle, length-append old.bundle.now (head ++ words), length-append head words, ap length nothing, ap length header, length-fresh_header (greatest_size map 16384) (131136 + total), ap length c.fill.ensures.index, length-entries map 16384)

pub returns-clause-bundle : goal.returns-clause-bundle
returns-clause-bundle g c = λ told_0.
    let told_1 = c.write.ensures.changes.same ∙ told_0 in
    let map = table_map c.args.tiles.now c.args.table.now in
    let are = c.requires.table.are_tiles in
    let old = current (g.V.Volume.history c.args.vol.now) in
    let one = current (g.V.Volume.history c.write.new.vol) in
    let last = current (g.V.Volume.history c.write_records.new.vol) in
    let nothing : old.bundle.now ≡ [] = c.requires.empty told_0 in
    let head = c.fill.new.self.header in
    let words = c.fill.new.self.index in
    let front : Extends old one (head ++ words) = c.in_ok-write.ensures.done told_0 in
    let total = length (records map 16384) in
    let header : head ≡ fresh_header (greatest_size map 16384) (131136 + total) = c.fill.ensures.header ∙ c.fresh.ensures ∙ (λ i. fresh_header (c.measure-most.ensures.greatest i) (131136 + c.measure-most.ensures.total i)) in
    let recs : Extends one last (records map 16384) = c.in_ok-write_records.ensures.done told_1 in
    let fronted : one.bundle.now ≡ fresh_header (greatest_size map 16384) (131136 + total) ++ entries map 16384 = front.bundle ∙ ap (λ (l : List ℕ). l ++ (head ++ words)) nothing ∙ (λ i. header i ++ c.fill.ensures.index i) in
    let whole : last.bundle.now ≡ layout map = recs.bundle ∙ ap (λ (l : List ℕ). l ++ records map 16384) fronted
    ∙ append_assoc (fresh_header (greatest_size map 16384) (131136 + total)) (entries map 16384) (records map 16384) ∙ sym (is_layout map are) in
    on_ok_weaker c.sync.result (λ is. ap (λ (d : Disk). d.bundle) is ∙ ap settled whole) (c.sync.ensures.ok (c.write_records.ensures.changes.same ∙ told_1))

pub returns-in_err-write-clause-keeps : goal.returns-in_err-write-clause-keeps
returns-in_err-write-clause-keeps g c =
    kept_layout (table_map c.args.tiles.now c.args.table.now) c.fill.new.self c.requires.table.are_tiles (c.fill.ensures.header ∙ c.fresh.ensures ∙ (λ i. fresh_header (c.measure-most.ensures.greatest i) (131136 + c.measure-most.ensures.total i))) c.fill.ensures.index

pub returns-in_err-write_records-clause-keeps : goal.returns-in_err-write_records-clause-keeps
returns-in_err-write_records-clause-keeps g c =
    kept_layout (table_map c.args.tiles.now c.args.table.now) c.fill.new.self c.requires.table.are_tiles (c.fill.ensures.header ∙ c.fresh.ensures ∙ (λ i. fresh_header (c.measure-most.ensures.greatest i) (131136 + c.measure-most.ensures.total i))) c.fill.ensures.index

pub returns-clause-keeps : goal.returns-clause-keeps
returns-clause-keeps g c =
    kept_layout (table_map c.args.tiles.now c.args.table.now) c.fill.new.self c.requires.table.are_tiles (c.fill.ensures.header ∙ c.fresh.ensures ∙ (λ i. fresh_header (c.measure-most.ensures.greatest i) (131136 + c.measure-most.ensures.total i))) c.fill.ensures.index

pub returns-in_err-write_records-clause-changes : goal.returns-in_err-write_records-clause-changes
returns-in_err-write_records-clause-changes g c = record {
  same = (cc);
  counted = search rules;
  during = λ told.
      journal_on _ _ _ (c.write.ensures.changes.during told) (c.write_records.ensures.changes.during (c.write.ensures.changes.same ∙ told));
}

pub returns-clause-changes : goal.returns-clause-changes
returns-clause-changes g c = record {
  same = (cc);
  counted = search rules;
  during = λ told.
      let told_1 = c.write.ensures.changes.same ∙ told in
      let written = journal_on _ _ _ (c.write.ensures.changes.during told) (c.write_records.ensures.changes.during told_1) in
      let syncing = c.sync.ensures.crash (c.write_records.ensures.changes.same ∙ told_1) in
      journal_stays _ _ _ _ written c.sync.ensures.time syncing.other;
}
