use Rattle.std.proofs.Common.{◌≡◌, ◌+◌, ℕ, List, ◌++◌, length, take, ap, ◌∙◌, rules}
use Rattle.byteorder.specs.Endian.{little_bytes}
use Rattle.outside_io.specs.volume.Disk.{laid}
use Rattle.bundle_store.proofs.Gathering.{laid_behind}
use Rattle.bundle_store.proofs.build.laying.spell_record.Goals as goal

pub returns-clause-bytes : goal.returns-clause-bytes
returns-clause-bytes c =
    let size : c.to_le_bytes-size.result ≡ little_bytes 4 (length c.args.tile.now) = search rules in
    let four : length c.to_le_bytes-size.result ≡ 4 = search rules in
    ap (take (c.args.at + length c.args.tile.now + 4)) (c.lay-2.ensures ∙ ap (λ (l : List ℕ). laid (c.args.at + 4) c.args.tile.now l) c.lay.ensures)
    ∙ laid_behind c.args.at c.to_le_bytes-size.result c.args.tile.now c.args.buffer.now four c.requires.room
    ∙ ap (λ (s : List ℕ). take c.args.at c.args.buffer.now ++ (s ++ c.args.tile.now)) size
