use Rattle.std.proofs.Common.{◌≡◌, ℕ, List, Option, refl, rules, None, subst, sym, ◌∙◌}
use Rattle.std.specs.Prelude.{OnOk}
use Rattle.lerc_header.specs.declared.header.Version.{Version}
use Rattle.program_ends.specs.Moves.{Change}
use Rattle.lerc_cli.specs.inputs.Given.{given}
use Rattle.lerc_cli.specs.run.InWords.{GivesBlobs, GivesSums}
use Rattle.lerc_cli.proofs.CrashLemmas.Idle.{reading_volume, source_idle, volume_idle}
use Rattle.lerc_cli.proofs.dispatch.perform.Goals as goal

pub returns-in-Encode-clause-output : goal.returns-in-Encode-clause-output
returns-in-Encode-clause-output g c = rw (c.in-Encode.is, c.requires.none) (c.encode.ensures.output _)

pub returns-in-Encode-clause-volume : goal.returns-in-Encode-clause-volume
returns-in-Encode-clause-volume g c = rw (c.in-Encode.is, c.requires.none) (volume_idle _ _ _ _ _ _ g.V.Volume.told g.V.Volume.history g.V.Volume.faults _ (search rules) (c.encode.ensures.output _))

pub returns-in-Decode-clause-output : goal.returns-in-Decode-clause-output
returns-in-Decode-clause-output g c = rw (c.in-Decode.is, c.requires.none) (c.decode.ensures.output _)

pub returns-in-Decode-clause-volume : goal.returns-in-Decode-clause-volume
returns-in-Decode-clause-volume g c = rw (c.in-Decode.is, c.requires.none) (volume_idle _ _ _ _ _ _ g.V.Volume.told g.V.Volume.history g.V.Volume.faults _ (search rules) (c.decode.ensures.output _))

pub returns-in-Info-clause-output : goal.returns-in-Info-clause-output
returns-in-Info-clause-output g c = rw (c.in-Info.is, c.requires.none) (c.info.ensures.output _)

pub returns-in-Info-clause-volume : goal.returns-in-Info-clause-volume
returns-in-Info-clause-volume g c = rw (c.in-Info.is, c.requires.none) (volume_idle _ _ _ _ _ _ g.V.Volume.told g.V.Volume.history g.V.Volume.faults _ (search rules) (c.info.ensures.output _))

pub returns-in-Get-clause-source : goal.returns-in-Get-clause-source
returns-in-Get-clause-source g c = rw c.in-Get.is (source_idle _ _ _ _ _ _ g.S.Source.left g.S.Source.faults _ (search rules) (c.get.ensures.output None))

pub returns-in-Get-clause-output : goal.returns-in-Get-clause-output
returns-in-Get-clause-output g c = rw (c.in-Get.is, c.requires.none) (c.get.ensures.output _)

pub returns-in-Get-clause-volume : goal.returns-in-Get-clause-volume
returns-in-Get-clause-volume g c = rw (c.in-Get.is, c.requires.none) (reading_volume _ _ _ _ (search rules) refl c.get.ensures.volume c.get.ensures.rests)

pub returns-in-GetRaw-clause-source : goal.returns-in-GetRaw-clause-source
returns-in-GetRaw-clause-source g c = rw c.in-GetRaw.is (source_idle _ _ _ _ _ _ g.S.Source.left g.S.Source.faults _ (search rules) (c.get_raw.ensures.output None))

pub returns-in-GetRaw-clause-output : goal.returns-in-GetRaw-clause-output
returns-in-GetRaw-clause-output g c = rw (c.in-GetRaw.is, c.requires.none) (c.get_raw.ensures.output _)

pub returns-in-GetRaw-clause-volume : goal.returns-in-GetRaw-clause-volume
returns-in-GetRaw-clause-volume g c = rw (c.in-GetRaw.is, c.requires.none) (reading_volume _ _ _ _ (search rules) refl c.get_raw.ensures.volume c.get_raw.ensures.rests)

pub returns-in-List-clause-source : goal.returns-in-List-clause-source
returns-in-List-clause-source g c = rw c.in-List.is (source_idle _ _ _ _ _ _ g.S.Source.left g.S.Source.faults _ (search rules) (c.list.ensures.output None))

pub returns-in-List-clause-output : goal.returns-in-List-clause-output
returns-in-List-clause-output g c = rw (c.in-List.is, c.requires.none) (c.list.ensures.output _)

pub returns-in-List-clause-volume : goal.returns-in-List-clause-volume
returns-in-List-clause-volume g c = rw (c.in-List.is, c.requires.none) (reading_volume _ _ _ _ (search rules) refl c.list.ensures.volume c.list.ensures.rests)

pub returns-in-Check-clause-source : goal.returns-in-Check-clause-source
returns-in-Check-clause-source g c = rw c.in-Check.is (source_idle _ _ _ _ _ _ g.S.Source.left g.S.Source.faults _ (search rules) (c.check.ensures.output None))

pub returns-in-Check-clause-output : goal.returns-in-Check-clause-output
returns-in-Check-clause-output g c = rw (c.in-Check.is, c.requires.none) (c.check.ensures.output _)

pub returns-in-Check-clause-volume : goal.returns-in-Check-clause-volume
returns-in-Check-clause-volume g c = rw (c.in-Check.is, c.requires.none) (reading_volume _ _ _ _ (search rules) refl c.check.ensures.volume c.check.ensures.rests)

pub returns-in-Recover-clause-source : goal.returns-in-Recover-clause-source
returns-in-Recover-clause-source g c = rw c.in-Recover.is (source_idle _ _ _ _ _ _ g.S.Source.left g.S.Source.faults _ (search rules) (c.recover.ensures.output None))

pub returns-in-Recover-clause-output : goal.returns-in-Recover-clause-output
returns-in-Recover-clause-output g c = rw (c.in-Recover.is, c.requires.none) (c.recover.ensures.output _)

pub returns-in-Recover-clause-volume : goal.returns-in-Recover-clause-volume
returns-in-Recover-clause-volume g c = rw (c.in-Recover.is, c.requires.none) (reading_volume _ _ _ _ (search rules) refl c.recover.ensures.volume c.recover.ensures.rests)

pub returns-in-Encode-clause-blobs : goal.returns-in-Encode-clause-blobs
returns-in-Encode-clause-blobs g c = λ version error is.
    let same = sym c.in-Encode.is ∙ is in
    let v : c.in-Encode.version ≡ version = cc in
    let e : c.in-Encode.error ≡ error = cc in
    let input = g.S.Source.left c.args.src.now in
    let held : Change (Option (List ℕ)) = record { old = g.K.Sink.held c.args.out.now; new = g.K.Sink.held c.encode.new.out } in
    subst (λ (x : Version). OnOk c.encode.result (GivesBlobs x error input held)) v
    (subst (λ (n : ℕ). OnOk c.encode.result (GivesBlobs c.in-Encode.version n input held)) e c.encode.ensures.blobs)

pub returns-in-Put-clause-source : goal.returns-in-Put-clause-source
returns-in-Put-clause-source g c = rw c.in-Put.is (c.put.ensures.source _)

pub returns-in-Put-clause-output : goal.returns-in-Put-clause-output
returns-in-Put-clause-output g c = rw c.in-Put.is (c.put.ensures.output _)

pub returns-in-Put-clause-volume : goal.returns-in-Put-clause-volume
returns-in-Put-clause-volume g c = rw c.in-Put.is (c.put.ensures.volume _)

pub returns-in-Build-clause-source : goal.returns-in-Build-clause-source
returns-in-Build-clause-source g c = rw c.in-Build.is (c.build.ensures.source _)

pub returns-in-Build-clause-output : goal.returns-in-Build-clause-output
returns-in-Build-clause-output g c = rw c.in-Build.is (c.build.ensures.output _)

pub returns-in-Build-clause-volume : goal.returns-in-Build-clause-volume
returns-in-Build-clause-volume g c = rw c.in-Build.is (c.build.ensures.volume _)

pub returns-in-Sample-clause-source : goal.returns-in-Sample-clause-source
returns-in-Sample-clause-source g c = rw c.in-Sample.is (source_idle _ _ _ _ _ _ g.S.Source.left g.S.Source.faults _ (search rules) (c.sample.ensures.output (given None None)))

pub returns-in-Sample-clause-output : goal.returns-in-Sample-clause-output
returns-in-Sample-clause-output g c = rw (c.in-Sample.is, c.requires.none) (c.sample.ensures.output _)

pub returns-in-Sample-clause-volume : goal.returns-in-Sample-clause-volume
returns-in-Sample-clause-volume g c = rw (c.in-Sample.is, c.requires.none) (volume_idle _ _ _ _ _ _ g.V.Volume.told g.V.Volume.history g.V.Volume.faults _ (search rules) (c.sample.ensures.output _))

pub returns-in-Sample-clause-sums : goal.returns-in-Sample-clause-sums
returns-in-Sample-clause-sums g c = λ start count is.
    let same = sym c.in-Sample.is ∙ is in
    let s : c.in-Sample.start ≡ start = cc in
    let n : c.in-Sample.count ≡ count = cc in
    let held : Change (Option (List ℕ)) = record { old = g.K.Sink.held c.args.out.now; new = g.K.Sink.held c.sample.new.out } in
    subst (λ (x : ℕ). OnOk c.sample.result (GivesSums x count held)) s
    (subst (λ (x : ℕ). OnOk c.sample.result (GivesSums c.in-Sample.start x held)) n c.sample.ensures.sums)
