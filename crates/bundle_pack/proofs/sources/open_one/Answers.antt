use Rattle.std.proofs.Common.{◌≡◌, ◌∙◌, Err, inr, refl}
use Rattle.outside_io.specs.volume.History.{current}
use Rattle.outside_io.proofs.VolumeLemmas.Moments.{started}
use Rattle.bundle_pack.proofs.Recovered.{bytes_on, files_on, images_on}
use Rattle.bundle_pack.proofs.Opening.{open_left, open_says, open_shut}
use Rattle.bundle_pack.proofs.sources.open_one.Goals as goal

pub returns-in-Err-clause-kept : goal.returns-in-Err-clause-kept
returns-in-Err-clause-kept g c =
    let vol = g.V.Volume in
    let old = vol.history c.args.vol.now in
    let left = vol.history c.recover.new.vol in
    record {
      told_same = c.recover.ensures.told.same;
      images = c.recover.ensures.images;
      bytes = c.recover.ensures.bytes;
      files = c.recover.ensures.files;
      changes = λ told. inr (left, (record { answer = Err c.in-Err.fault; says = c.in-Err.ensures.says told; images = c.recover.ensures.images told; bytes = c.recover.ensures.bytes told; files = c.recover.ensures.files told; done = tt; leaves = tt; journal = tt; closed = tt; refused = c.in-Err.ensures.refused told }, started (λ d. d ≡ current left) left refl));
    }

pub returns-clause-kept : goal.returns-clause-kept
returns-clause-kept g c =
    let vol = g.V.Volume in
    let old = vol.history c.args.vol.now in
    let left = vol.history c.recover.new.vol in
    let new = vol.history c.open.new.vol in
    record {
      told_same = c.open.ensures.told.same ∙ c.recover.ensures.told.same;
      images = λ told. images_on old left new (c.recover.ensures.images told) (c.open.ensures.during (c.recover.ensures.told.same ∙ told));
      bytes = λ told. bytes_on old left new (c.recover.ensures.bytes told) (c.open.ensures.during (c.recover.ensures.told.same ∙ told));
      files = λ told. files_on old left new (c.recover.ensures.files told) (c.open.ensures.during (c.recover.ensures.told.same ∙ told));
      changes = λ told. inr (left, (record { answer = c.recover.result; says = c.recover.ensures.says told; images = c.recover.ensures.images told; bytes = c.recover.ensures.bytes told; files = c.recover.ensures.files told; done = c.recover.ensures.done told; leaves = c.recover.ensures.leaves told; journal = c.recover.ensures.journal told; closed = c.recover.ensures.closed told; refused = c.recover.ensures.refused told }, c.open.ensures.during (c.recover.ensures.told.same ∙ told)));
    }

pub returns-clause-says : goal.returns-clause-says
returns-clause-says g c told =
    let vol = g.V.Volume in
    let old = vol.history c.args.vol.now in
    let left = vol.history c.recover.new.vol in
    let new = vol.history c.open.new.vol in
    let tells = c.recover.ensures.told.same ∙ told in
    let during = c.open.ensures.during tells in
    open_says old left new c.in-Ok.field-0 (c.in-Ok.ensures.leaves told) during c.open.result (c.open.ensures.ok tells) (c.open.ensures.refused tells)

pub returns-clause-left : goal.returns-clause-left
returns-clause-left g c told =
    let vol = g.V.Volume in
    let old = vol.history c.args.vol.now in
    let left = vol.history c.recover.new.vol in
    let new = vol.history c.open.new.vol in
    let tells = c.recover.ensures.told.same ∙ told in
    let during = c.open.ensures.during tells in
    open_left old left new c.in-Ok.field-0 (c.in-Ok.ensures.leaves told) during c.open.result

pub returns-clause-shut : goal.returns-clause-shut
returns-clause-shut g c told =
    let vol = g.V.Volume in
    let old = vol.history c.args.vol.now in
    let left = vol.history c.recover.new.vol in
    let new = vol.history c.open.new.vol in
    let tells = c.recover.ensures.told.same ∙ told in
    let during = c.open.ensures.during tells in
    open_shut old left new c.in-Ok.field-0 (c.in-Ok.ensures.leaves told) during c.open.result (c.in-Ok.ensures.done told)
