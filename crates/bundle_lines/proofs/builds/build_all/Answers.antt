use Rattle.std.proofs.Common.{◌≡◌, ap, ◌∙◌, ◌++◌, replicate, length, refl}
use Rattle.outside_io.specs.volume.History.{current}
use Rattle.outside_io.proofs.VolumeLemmas.Moments.{started}
use Rattle.bundle_lines.proofs.Raised.{refused_gave, refused_length, refused_marks, refused_output, refused_reads, keeps_marked, keeps_still}
use Rattle.bundle_lines.proofs.builds.build_all.Goals as goal

pub returns-in-Err-clause-images : goal.returns-in-Err-clause-images
returns-in-Err-clause-images g c = λ told readable. keeps_still c.args.updates.now _ c.args.session.now _ c.requires.none (c.requires.serving.ready told) readable

pub returns-in-Ok-give_built-clause-images : goal.returns-in-Ok-give_built-clause-images
returns-in-Ok-give_built-clause-images g c = λ told readable.
    keeps_marked c.args.updates.now _ _ _ (c.add_marks.ensures.marks ∙ ap (λ x. x ++ replicate (length c.args.updates.now) c.moment.result) c.requires.none ∙ ap (λ m. replicate (length c.args.updates.now) m) c.moment.ensures) (c.in-Ok-raise.ensures.raises told) (c.raise.ensures.images told readable)

pub returns-in-Err-give_built-clause-images : goal.returns-in-Err-give_built-clause-images
returns-in-Err-give_built-clause-images g c = λ told readable.
    keeps_marked c.args.updates.now _ _ _ (c.add_marks.ensures.marks ∙ ap (λ x. x ++ replicate (length c.args.updates.now) c.moment.result) c.requires.none ∙ ap (λ m. replicate (length c.args.updates.now) m) c.moment.ensures) (c.in-Ok-raise.ensures.raises told) (c.raise.ensures.images told readable)

pub returns-in-Err-raise-clause-gave : goal.returns-in-Err-raise-clause-gave
returns-in-Err-raise-clause-gave g c =
    refused_gave c.args.updates.now _ _ _ c.in-Err-raise.stop _ _
    c.in-Err-raise.ensures.raises refl

pub returns-in-Err-raise-clause-marks : goal.returns-in-Err-raise-clause-marks
returns-in-Err-raise-clause-marks g c =
    refused_marks c.args.updates.now _ _ _ c.in-Err-raise.stop _ _
    c.in-Err-raise.ensures.raises c.requires.none

pub returns-in-Err-raise-clause-reads : goal.returns-in-Err-raise-clause-reads
returns-in-Err-raise-clause-reads g c =
    refused_reads c.args.updates.now _ _ _ c.in-Err-raise.stop c.in-Err-raise.ensures.raises

pub returns-in-Err-raise-clause-not_empty : goal.returns-in-Err-raise-clause-not_empty
returns-in-Err-raise-clause-not_empty g c =
    refused_length c.args.updates.now _ _ _ c.in-Err-raise.stop c.in-Err-raise.ensures.raises

pub returns-in-Err-raise-clause-kept : goal.returns-in-Err-raise-clause-kept
returns-in-Err-raise-clause-kept g c = c.in-Err-raise.ensures.kept

pub returns-in-Err-raise-clause-images : goal.returns-in-Err-raise-clause-images
returns-in-Err-raise-clause-images g c = rw c.requires.none c.raise.ensures.images

pub returns-in-Err-raise-clause-output_failed : goal.returns-in-Err-raise-clause-output_failed
returns-in-Err-raise-clause-output_failed g c =
    refused_output c.args.updates.now _ _ _ c.in-Err-raise.stop _ _ refl
    c.in-Err-raise.ensures.raises

pub returns-in-Err-clause-kept : goal.returns-in-Err-clause-kept
returns-in-Err-clause-kept g c = λ told.
    let before = g.V.Volume.history c.args.vol.now in
    started (λ d. d ≡ current before) before refl

pub built_size-requires : goal.built_size-requires
built_size-requires g c = c.requires.fit

pub raise-requires-clause-fit : goal.raise-requires-clause-fit
raise-requires-clause-fit g c = c.requires.fit

pub raise-requires-clause-serving : goal.raise-requires-clause-serving
raise-requires-clause-serving g c = c.requires.serving

pub add_marks-requires : goal.add_marks-requires
add_marks-requires g c = record { room = c.requires.room }

pub returns-in-Err-raise-clause-later : goal.returns-in-Err-raise-clause-later
returns-in-Err-raise-clause-later g c = c.raise.ensures.later

pub returns-in-Err-raise-clause-told : goal.returns-in-Err-raise-clause-told
returns-in-Err-raise-clause-told g c = c.in-Err-raise.ensures.told

pub returns-in-Err-clause-ready : goal.returns-in-Err-clause-ready
returns-in-Err-clause-ready g c = c.requires.serving.ready

pub returns-in-Err-raise-clause-ready : goal.returns-in-Err-raise-clause-ready
returns-in-Err-raise-clause-ready g c = c.in-Err-raise.ensures.ready

pub returns-in-Ok-give_built-clause-ready : goal.returns-in-Ok-give_built-clause-ready
returns-in-Ok-give_built-clause-ready g c = c.in-Ok-raise.ensures.ready

pub returns-in-Err-give_built-clause-ready : goal.returns-in-Err-give_built-clause-ready
returns-in-Err-give_built-clause-ready g c = c.in-Ok-raise.ensures.ready

pub returns-in-Err-raise-clause-stops : goal.returns-in-Err-raise-clause-stops
returns-in-Err-raise-clause-stops g c = c.in-Err-raise.ensures.stops
