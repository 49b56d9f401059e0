use Rattle.std.proofs.Common.{sym, ◌∙◌, rules, arith}
use Rattle.bundle_pack.proofs.Ended.{ends_as, ends_with, never_usage, not_free, output_status, volume_status}
use Rattle.bundle_pack.proofs.OneAnswer.{one_answer}
use Rattle.bundle_pack.proofs.Promised.{complete, packed_all, packed_shut, source_keeps, source_stays, target_keeps, target_unpacked, unpacked_keeps, unpacked_stays}
use Rattle.bundle_pack.proofs.Volumes.{each_map}
use Rattle.bundle_pack.proofs.dispatch.run_pack.Goals as goal

pub returns-clause-usage : goal.returns-clause-usage
returns-clause-usage g c = (
  λ one. absurd (never_usage _ _ c.end_of-ended.ensures.ends (sym c.ended_status.ensures.status ∙ one)),
  λ none. absurd (none (search rules)),
)

pub returns-clause-unused : goal.returns-clause-unused
returns-clause-unused g c = λ one. absurd (never_usage _ _ c.end_of-ended.ensures.ends (sym c.ended_status.ensures.status ∙ one))

pub returns-clause-usage_told : goal.returns-clause-usage_told
returns-clause-usage_told g c = λ one. absurd (never_usage _ _ c.end_of-ended.ensures.ends (sym c.ended_status.ensures.status ∙ one))

pub returns-clause-output_failed : goal.returns-clause-output_failed
returns-clause-output_failed g c = output_status _ _ _ _ c.ended_status.ensures.status c.end_of-ended.ensures.output.cause

pub returns-clause-volume_failed : goal.returns-clause-volume_failed
returns-clause-volume_failed g c =
    volume_status g.V.Volume.faults _ _ _ _ _ _ c.ended_status.ensures.status c.end_of-ended.ensures.ends c.pack-answer.ensures.answers
    (each_map _ _ _ _ (λ i v w less moves. moves.cause) c.pack-answer.ensures.sources) c.pack-answer.ensures.target

pub returns-clause-ran : goal.returns-clause-ran
returns-clause-ran g c = λ asked. record {
  answer = _;
  end = _;
  ends = c.end_of-ended.ensures.ends;
  status_is = c.ended_status.ensures.status;
  says = c.pack-answer.ensures.says;
  fails = c.pack-answer.ensures.answers;
  sources = c.pack-answer.ensures.sources;
  shut = c.pack-answer.ensures.shut;
  target = record {
    cause = c.pack-answer.ensures.target;
    told = c.pack-answer.ensures.told;
    untouched = c.pack-answer.ensures.untouched;
    keeps = c.pack-answer.ensures.images;
    unpacked = c.pack-answer.ensures.unpacked;
    left = c.pack-answer.ensures.left;
    packed = c.pack-answer.ensures.packed;
  };
  output = c.end_of-ended.ensures.output;
  line = c.ended_status.ensures.line;
}

pub returns-clause-exactly : goal.returns-clause-exactly
returns-clause-exactly g c = λ asked from_told to_told answer says free four five six.
    let is = c.ended_status.ensures.status in
    let same = one_answer _ _ _ answer (c.pack-answer.ensures.says from_told to_told) says
    (not_free _ _ c.end_of-ended.ensures.ends (λ e. five (is ∙ e)) (λ e. six (is ∙ e))) free in
    ends_as _ answer _ _ _ same (ends_with _ _ _ _ _ c.end_of-ended.ensures.ends is c.end_of-ended.ensures.output c.ended_status.ensures.line four)

pub returns-clause-packed : goal.returns-clause-packed
returns-clause-packed g c = λ asked from_told to_told maps stand zero.
    let is = c.ended_status.ensures.status in
    packed_all _ _ _ maps _ _ _ c.end_of-ended.ensures.ends is zero (c.pack-answer.ensures.merges maps from_told to_told stand)
    (ends_with _ _ _ _ _ c.end_of-ended.ensures.ends is c.end_of-ended.ensures.output c.ended_status.ensures.line (λ four. absurd (omega (arith, four, zero))))

pub returns-clause-complete : goal.returns-clause-complete
returns-clause-complete g c = λ asked from_told to_told maps start stand stands few empty four five.
    complete _ _ _ _ _ c.end_of-ended.ensures.ends c.ended_status.ensures.status (c.pack-answer.ensures.says from_told to_told)
    (c.pack-answer.ensures.complete maps start from_told to_told stand stands) few empty four five

pub returns-clause-sources_keep : goal.returns-clause-sources_keep
returns-clause-sources_keep g c = λ asked.
    each_map _ _ _ _ (λ i v w less moves tells sound. source_keeps g.V.Volume.told g.V.Volume.history v w moves.kept tells sound) c.pack-answer.ensures.sources

pub returns-clause-sources_stay : goal.returns-clause-sources_stay
returns-clause-sources_stay g c = λ asked.
    each_map _ _ _ _ (λ i v w less moves tells shut. source_stays g.V.Volume.told g.V.Volume.history v w moves.kept tells shut) c.pack-answer.ensures.sources

pub returns-clause-target_keeps : goal.returns-clause-target_keeps
returns-clause-target_keeps g c = λ asked from_told maps start stand ready.
    target_keeps _ _ _ _ maps start stand ready (c.pack-answer.ensures.images from_told ready.tells)

pub returns-clause-target_unpacked : goal.returns-clause-target_unpacked
returns-clause-target_unpacked g c = λ asked start ready late.
    unpacked_keeps _ _ _ start ready (target_unpacked _ _ _ _ c.end_of-ended.ensures.ends c.ended_status.ensures.status late (c.pack-answer.ensures.unpacked ready.tells))

pub returns-clause-target_stays : goal.returns-clause-target_stays
returns-clause-target_stays g c = λ asked tells shut late.
    unpacked_stays _ _ shut (target_unpacked _ _ _ _ c.end_of-ended.ensures.ends c.ended_status.ensures.status late (c.pack-answer.ensures.unpacked tells))

pub returns-clause-shut : goal.returns-clause-shut
returns-clause-shut g c = λ asked zero. packed_shut g.V.Volume.told g.V.Volume.history _ _ _ _ _ c.end_of-ended.ensures.ends c.ended_status.ensures.status zero c.pack-answer.ensures.shut
