use Rattle.std.proofs.Common.{◌≡◌, ◌≤◌, ◌+◌, ◌-◌, ◌∙◌, refl, length, arith}
use Rattle.outside_io.specs.declared.volume.VolFile.TheVariants.{Bundle}
use Rattle.outside_io.specs.volume.History.{contents}
use Rattle.bundle_index.specs.Numbers.{u32_at}
use Rattle.tile_audit.proofs.FrontNumber.{number_decides, read_number}
use Rattle.tile_audit.proofs.records.is_bad_record.Goals as goal

pub returns-clause-value : goal.returns-clause-value
unfolding u32_at
returns-clause-value g c = λ told.
    let b = contents Bundle (g.V.Volume.history c.args.vol.now) in
    let e = c.args.entry in
    let long : c.args.len ≡ length b = c.requires.len told in
    let high : 131140 ≤ e.offset = omega arith in
    let within : e.offset + e.size ≤ length b = omega arith in
    let word : c.read_u32.result ≡ u32_at c.read.new.buf 0 = c.read_u32.ensures in
    number_decides b e c.read_u32.result c.requires.some high within (word ∙ read_number b _ c.read.new.buf (e.offset - 4) _ refl (omega arith) (c.in_ok-read.ensures.answer told))
