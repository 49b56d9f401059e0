use Rattle.std.proofs.Common.{◌≡◌, Ok, Err, List, length, refl, subst, sym, ap, ◌∙◌}
use Rattle.std.specs.Prelude.{Vec}
use Rattle.std.specs.declared.alloc.Global.{Global}
use Rattle.outside_io.specs.volume.History.{current}
use Rattle.bundle_store.specs.declared.fault.StoreFault.TheVariants.{Device}
use Rattle.bundle_store.specs.declared.tile_rec.TileRec.{TileRec}
use Rattle.bundle_store.specs.Build.{last_tiles}
use Rattle.bundle_store.specs.Built.{filled}
use Rattle.bundle_store.specs.Images.{HoldsClosed}
use Rattle.bundle_store.specs.Layout.{layout}
use Rattle.bundle_pack.specs.Files.{all_files, files_in}
use Rattle.bundle_pack.specs.Packing.{PackSays}
use Rattle.bundle_pack.specs.Refusals.{target_fault_of}
use Rattle.bundle_pack.specs.declared.fault.PackFault.TheVariants.{Target}
use Rattle.bundle_pack.specs.declared.packing.PackReport.{PackReport}
use Rattle.bundle_pack.specs.inside.Turns.{TargetImages}
use Rattle.bundle_pack.proofs.Packs.{holds_merged, is_left, never_begun, not_left, packs_ill, packs_well, reads_refuse, stays_unpacked, target_keeps, untouched_keeps}
use Rattle.bundle_pack.proofs.Recovered.{untouched}
use Rattle.bundle_pack.proofs.Sound.{sound_answers, sound_packed}
use Rattle.bundle_pack.proofs.Steps.{all_moved, err_as, not_source, not_target, read_fails, target_cause, target_fails}
use Rattle.bundle_pack.proofs.Telling.{cause_map}
use Rattle.opened_bundle.proofs.BundleOpening.{still}
use Rattle.bundle_pack.proofs.Volumes.{each_map}
use Rattle.bundle_pack.proofs.packing.pack.Goals as goal

-- the sources refuse

pub returns-in-Err-clause-sources : goal.returns-in-Err-clause-sources
returns-in-Err-clause-sources g c =
    let vol = g.V.Volume in
    let fault = c.in-Err.fault in
    all_moved {X = Vec TileRec Global} vol.told vol.history vol.faults c.args.from.now c.read_sources.new.from (Err fault) _ (λ i is. err_as fault _ is) (λ i is. err_as fault _ is) c.in-Err.ensures.sources

pub returns-in-Err-clause-says : goal.returns-in-Err-clause-says
returns-in-Err-clause-says g c = λ all tells. reads_refuse (all_files g.V.Volume.history c.args.from.now) (files_in (g.W.Volume.history c.args.to.now)) c.in-Err.fault (c.in-Err.ensures.says all)

pub returns-in-Err-clause-complete : goal.returns-in-Err-clause-complete
returns-in-Err-clause-complete g c = λ maps start all tells stand stands.
    let sources = all_files g.V.Volume.history c.args.from.now in
    let target = files_in (g.W.Volume.history c.args.to.now) in
    sound_answers sources target maps start (Err c.in-Err.fault) stand stands (reads_refuse sources target c.in-Err.fault (c.in-Err.ensures.says all))

pub returns-in-Err-clause-images : goal.returns-in-Err-clause-images
returns-in-Err-clause-images g c = λ all tells. untouched_keeps (all_files g.V.Volume.history c.args.from.now) (files_in (g.W.Volume.history c.args.to.now)) (g.W.Volume.history c.args.to.now)

pub returns-in-Err-clause-answers : goal.returns-in-Err-clause-answers
returns-in-Err-clause-answers g c = read_fails (length c.args.from.now) c.in-Err.fault c.in-Err.ensures.answers

pub returns-in-Err-clause-target : goal.returns-in-Err-clause-target
returns-in-Err-clause-target g c = still _ _ _ refl (λ is. not_target PackReport (length c.args.from.now) c.in-Err.fault Device c.in-Err.ensures.answers is)

pub returns-in-Err-clause-unpacked : goal.returns-in-Err-clause-unpacked
returns-in-Err-clause-unpacked g c = λ tells. never_begun c.in-Err.fault _ (untouched (g.W.Volume.history c.args.to.now))

pub returns-in-Err-clause-left : goal.returns-in-Err-clause-left
returns-in-Err-clause-left g c = λ tells. not_left (length c.args.from.now) c.in-Err.fault _ c.in-Err.ensures.answers

-- memory is refused

pub returns-in-Err-built_size-clause-unpacked : goal.returns-in-Err-built_size-clause-unpacked
returns-in-Err-built_size-clause-unpacked g c = λ tells. untouched (g.W.Volume.history c.args.to.now)

pub returns-in-Err-built_size-clause-sources : goal.returns-in-Err-built_size-clause-sources
returns-in-Err-built_size-clause-sources g c =
    let vol = g.V.Volume in
    all_moved {X = Vec TileRec Global} vol.told vol.history vol.faults c.args.from.now c.read_sources.new.from (Ok c.in-Ok.tiles) _ (λ i is. absurd cc) (λ i is. absurd cc) c.in-Ok.ensures.sources

pub returns-in-Err-built_size-clause-images : goal.returns-in-Err-built_size-clause-images
returns-in-Err-built_size-clause-images g c = λ all tells. untouched_keeps (all_files g.V.Volume.history c.args.from.now) (files_in (g.W.Volume.history c.args.to.now)) (g.W.Volume.history c.args.to.now)

pub returns-in-Err-built_size-clause-target : goal.returns-in-Err-built_size-clause-target
returns-in-Err-built_size-clause-target g c = still _ _ _ refl (λ is. absurd cc)

-- it is packed

pub returns-in-Ok-write_target-clause-sources : goal.returns-in-Ok-write_target-clause-sources
returns-in-Ok-write_target-clause-sources g c =
    let vol = g.V.Volume in
    all_moved {X = Vec TileRec Global} vol.told vol.history vol.faults c.args.from.now c.read_sources.new.from (Ok c.in-Ok.tiles) _ (λ i is. absurd cc) (λ i is. absurd cc) c.in-Ok.ensures.sources

pub returns-in-Ok-write_target-clause-says : goal.returns-in-Ok-write_target-clause-says
returns-in-Ok-write_target-clause-says g c = λ all tells.
    packs_well (all_files g.V.Volume.history c.args.from.now) (files_in (g.W.Volume.history c.args.to.now)) c.in-Ok.tiles _ (c.in-Ok.ensures.says all) (c.in-Ok-write_target.ensures.says tells)
    (c.in-Ok-built_size.ensures.tiles ∙ ap (λ (ts : List TileRec). filled (last_tiles ts) 16384) c.as_slice.ensures.value)
    (c.in-Ok-built_size.ensures.len ∙ ap (λ (ts : List TileRec). length (layout (last_tiles ts))) c.as_slice.ensures.value)

pub returns-in-Ok-write_target-clause-packed : goal.returns-in-Ok-write_target-clause-packed
returns-in-Ok-write_target-clause-packed g c = λ all tells.
    let d = current (g.W.Volume.history c.write_target.new.to) in
    holds_merged (all_files g.V.Volume.history c.args.from.now) c.in-Ok.tiles d (c.in-Ok.ensures.says all) (subst (λ (ts : List TileRec). HoldsClosed (layout (last_tiles ts)) d) c.as_slice-2.ensures.value (c.in-Ok-write_target.ensures.done tells))

pub returns-in-Ok-write_target-clause-merges : goal.returns-in-Ok-write_target-clause-merges
returns-in-Ok-write_target-clause-merges g c = λ maps all tells stand.
    let sources = all_files g.V.Volume.history c.args.from.now in
    let target = files_in (g.W.Volume.history c.args.to.now) in
    let d = current (g.W.Volume.history c.write_target.new.to) in
    let size = c.in-Ok-built_size.size in
    let report : PackReport = record { tiles = size.tiles; length = size.len } in
    let says : PackSays sources target (Ok report) = packs_well sources target c.in-Ok.tiles report (c.in-Ok.ensures.says all) (c.in-Ok-write_target.ensures.says tells)
    (c.in-Ok-built_size.ensures.tiles ∙ ap (λ (ts : List TileRec). filled (last_tiles ts) 16384) c.as_slice.ensures.value)
    (c.in-Ok-built_size.ensures.len ∙ ap (λ (ts : List TileRec). length (layout (last_tiles ts))) c.as_slice.ensures.value) in
    let holds = holds_merged sources c.in-Ok.tiles d (c.in-Ok.ensures.says all) (subst (λ (ts : List TileRec). HoldsClosed (layout (last_tiles ts)) d) c.as_slice-2.ensures.value (c.in-Ok-write_target.ensures.done tells)) in
    sound_packed sources target maps report d stand says holds

pub returns-in-Ok-write_target-clause-images : goal.returns-in-Ok-write_target-clause-images
returns-in-Ok-write_target-clause-images g c = λ all tells.
    let target = files_in (g.W.Volume.history c.args.to.now) in
    let old = g.W.Volume.history c.args.to.now in
    let new = g.W.Volume.history c.write_target.new.to in
    target_keeps (all_files g.V.Volume.history c.args.from.now) target c.in-Ok.tiles old new (c.in-Ok.ensures.says all) (subst (λ (ts : List TileRec). TargetImages target (last_tiles ts) old new) c.as_slice-2.ensures.value (c.write_target.ensures.images tells))

pub returns-in-Ok-write_target-clause-target : goal.returns-in-Ok-write_target-clause-target
returns-in-Ok-write_target-clause-target g c = still _ _ _ c.in-Ok-write_target.ensures.counted (λ is. absurd cc)

-- the target refuses

pub returns-clause-sources : goal.returns-clause-sources
returns-clause-sources g c =
    let vol = g.V.Volume in
    all_moved {X = Vec TileRec Global} vol.told vol.history vol.faults c.args.from.now c.read_sources.new.from (Ok c.in-Ok.tiles) _ (λ i is. absurd cc)
    (λ i is. absurd (not_source i c.in-Err-write_target.fault (sym c.target_fault.ensures ∙ cc))) c.in-Ok.ensures.sources

pub returns-clause-says : goal.returns-clause-says
returns-clause-says g c = λ all tells.
    rw c.target_fault.ensures (packs_ill (all_files g.V.Volume.history c.args.from.now) (files_in (g.W.Volume.history c.args.to.now)) c.in-Ok.tiles c.in-Err-write_target.fault (c.in-Ok.ensures.says all) (c.in-Err-write_target.ensures.says tells))

pub returns-clause-complete : goal.returns-clause-complete
returns-clause-complete g c = λ maps start all tells stand stands.
    let sources = all_files g.V.Volume.history c.args.from.now in
    let target = files_in (g.W.Volume.history c.args.to.now) in
    let fault = c.in-Err-write_target.fault in
    rw c.target_fault.ensures (sound_answers sources target maps start (Err (target_fault_of fault)) stand stands (packs_ill sources target c.in-Ok.tiles fault (c.in-Ok.ensures.says all) (c.in-Err-write_target.ensures.says tells)))

pub returns-clause-images : goal.returns-clause-images
returns-clause-images g c = λ all tells.
    let target = files_in (g.W.Volume.history c.args.to.now) in
    let old = g.W.Volume.history c.args.to.now in
    let new = g.W.Volume.history c.write_target.new.to in
    target_keeps (all_files g.V.Volume.history c.args.from.now) target c.in-Ok.tiles old new (c.in-Ok.ensures.says all) (subst (λ (ts : List TileRec). TargetImages target (last_tiles ts) old new) c.as_slice-2.ensures.value (c.write_target.ensures.images tells))

pub returns-clause-answers : goal.returns-clause-answers
returns-clause-answers g c = rw c.target_fault.ensures (target_fails (length c.args.from.now) c.in-Err-write_target.fault c.in-Err-write_target.ensures.answers)

pub returns-clause-target : goal.returns-clause-target
returns-clause-target g c =
    cause_map _ _ _ _ (λ e. ap Err (c.target_fault.ensures ∙ e)) (λ is. sym c.target_fault.ensures ∙ (let same : c.target_fault.result ≡ Target Device = cc in same))
    (target_cause c.in-Err-write_target.fault _ _ c.in-Err-write_target.ensures.counted)

pub returns-clause-unpacked : goal.returns-clause-unpacked
returns-clause-unpacked g c = λ tells. rw c.target_fault.ensures (stays_unpacked c.in-Err-write_target.fault _ (c.in-Err-write_target.ensures.unpacked tells))

pub returns-clause-left : goal.returns-clause-left
returns-clause-left g c = λ tells. rw c.target_fault.ensures (is_left c.in-Err-write_target.fault _ (c.in-Err-write_target.ensures.left tells))

-- ---- the sources that were opened

pub returns-in-Err-clause-shut : goal.returns-in-Err-clause-shut
returns-in-Err-clause-shut g c = c.in-Err.ensures.shut

pub returns-in-Err-built_size-clause-shut : goal.returns-in-Err-built_size-clause-shut
returns-in-Err-built_size-clause-shut g c = each_map _ _ _ _ (λ i v w less shut was tells. shut tt tells) c.in-Ok.ensures.shut

pub returns-in-Ok-write_target-clause-shut : goal.returns-in-Ok-write_target-clause-shut
returns-in-Ok-write_target-clause-shut g c = c.in-Ok.ensures.shut

pub returns-clause-shut : goal.returns-clause-shut
returns-clause-shut g c = each_map _ _ _ _ (λ i v w less shut was tells. shut tt tells) c.in-Ok.ensures.shut
