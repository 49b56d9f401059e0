-- What the end of `build` tells of its output, its bundle and its marks.
use Rattle.std.proofs.Common.{◌≡◌, ℕ, List, length, replicate, take, Option, Some, Ok, sym, ap, subst, ◌∙◌, arith}
use Rattle.std.proofs.lemmas.List.{take_all}
use Rattle.outside_io.specs.streams.Sink.{Holds}
use Rattle.lerc_header.specs.declared.header.Version.{Version}
use Rattle.lerc_header.specs.Written.{step_of}
use Rattle.bundle_store.specs.declared.tile_rec.TileRec.{TileRec}
use Rattle.bundle_store.specs.Build.{last_tiles}
use Rattle.bundle_store.specs.Layout.{layout}
use Rattle.bundle_lines.specs.Builds.{built_line_of}
use Rattle.tile_updates.specs.Updates.{IsUpdates}
use Rattle.tile_updates.proofs.Refusals.{updates_once}
use Rattle.program_ends.specs.Moves.{SinkMove, VolumeMove}
use Rattle.lerc_cli.specs.declared.words.Command.TheVariants.{Build}
use Rattle.lerc_cli.specs.answers.Names.{End, status_at}
use Rattle.opened_bundle.specs.Files.{Files}
use Rattle.lerc_cli.specs.run.InWords.{Builds}
use Rattle.lerc_cli.specs.run.Run.{OfOutput, OfVolume}
use Rattle.lerc_cli.specs.crashes.Phase.{Phase, IsLeftIn}
use Rattle.lerc_cli.specs.inputs.Given.{given}
use Rattle.lerc_cli.proofs.AnswerLemmas.Statuses.{ok_at}

pub built : (v : Version) (e w : ℕ) (left : Option (List ℕ)) (input : List ℕ) (files : Option Files) (us : List TileRec) (status : ℕ) (end : End) (marks : List ℕ) (sink : SinkMove) (vol : VolumeMove)
    → left ≡ Some input → status ≡ status_at end → status ≡ 0 → IsUpdates v (step_of e) input us
    → OfOutput (Build v e w) (given left files) (length marks) end sink → OfVolume (Build v e w) (given left files) end marks vol
    → Builds us vol.told.old vol.history.new marks sink.held
built v e w left input files us status end marks sink vol is s zero of out leaves_all =
    let well = ok_at end (sym s ∙ zero) in
    let gives = subst (λ (x : Option (List ℕ)). OfOutput (Build v e w) (given x files) (length marks) (Ok tt) sink) is
    (subst (λ (x : End). OfOutput (Build v e w) (given left files) (length marks) x sink) well out) in
    let leaves = subst (λ (x : Option (List ℕ)). OfVolume (Build v e w) (given x files) (Ok tt) marks vol) is
    (subst (λ (x : End). OfVolume (Build v e w) (given left files) x marks vol) well leaves_all) in
    let ends = gives.gave.1.0 in
    let one : ends.0 ≡ us = updates_once v (step_of e) input ends.0 us ends.1.0 of in
    let many : length marks ≡ length us = ends.1.1 ∙ ap length one in
    record {
      line = subst (Holds sink.held.old sink.held.new) (ends.1.3 ∙ ap built_line_of one) gives.gave.1.1;
      bundle = λ t.
          let left = subst (λ (p : Phase). IsLeftIn p (Build v e w) (given (Some input) files) (Ok tt) marks vol) leaves.comes leaves.left in
          let so = left t (λ bad. cc) in
          let other : so.updates ≡ us = updates_once v (step_of e) input so.updates us so.are of in
          so.reads ∙ ap (λ (xs : List TileRec). layout (last_tiles xs)) (ap (λ (xs : List TileRec). take (length marks) xs) other ∙ take_all (length marks) us (omega (arith, many)));
      marks_are = leaves.marks_at ∙ ap (λ (n : ℕ). replicate n vol.history.new.moment) many;
    }
