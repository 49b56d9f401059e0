use Rattle.std.proofs.Common.{◌≡◌, ◌≢◌, ◌+◌, length, ap, ◌∙◌, arith}
use Rattle.bundle_index.specs.Header.{header_after}
use Rattle.bundle_index.specs.declared.entry.Entry.{Entry}
use Rattle.bundle_index.proofs.Headers.{length-header_after}
use Rattle.bundle_store.specs.Appended.{put_entry, put_header}
use Rattle.bundle_store.proofs.Kept.{keeps_header, kept_put}
use Rattle.bundle_store.proofs.put.add_tile.Goals as goal

pub put-requires-clause-entry : goal.put-requires-clause-entry
put-requires-clause-entry c = record {
  offset = omega (arith, c.requires.room, c.requires.some);
  size = c.requires.size;
}

pub returns-clause-keeps : goal.returns-clause-keeps
returns-clause-keeps c = λ b long end keeps.
    let slot = c.args.slot in
    let tile = c.args.tile.now in
    let some : length b ≢ 0 = λ zero. absurd (omega (arith, zero, long)) in
    let front = c.header.ensures.value ∙ keeps_header b c.args.front.now keeps some in
    let old = c.entry-old.ensures.value b keeps in
    let header_is : c.after_put-header.result ≡ put_header b slot tile = c.after_put-header.ensures ∙ (λ i. header_after (front i) (old i).size (length tile) (end i + 4 + length tile)) in
    let e : Entry = record { offset = c.args.end + 4; size = length tile } in
    let e_is : e ≡ put_entry b tile = λ i. let r : Entry = record { offset = end i + 4; size = length tile } in r in
    let whole : length c.after_put-header.result ≡ 64 = ap length c.after_put-header.ensures ∙ length-header_after c.header.result c.entry-old.result.size (length tile) (c.args.end + 4 + length tile) c.header.ensures.size in
    kept_put b tile c.after_put-header.result slot e c.args.front.now c.put.new.self keeps header_is e_is whole c.entry-old.ensures.slot long c.put.ensures.header c.put.ensures.index
