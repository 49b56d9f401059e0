use Rattle.std.proofs.Common.{◌∙◌, refl}
use Rattle.lerc_decode.proofs.BandsFeeding.{has_started, takes_more_of, takes_none}
use Rattle.lerc_decode.proofs.streams.bands_source.step_all.Goals as goal

pub loop-got-init : goal.loop-got-init
loop-got-init g c = record {
  read = has_started _ c.args.decoder.now c.requires;
  few = takes_none _ _;
  faults = refl;
  keeps = λ k. k;
}

pub loop-got-preserved : goal.loop-got-preserved
loop-got-preserved g c = record {
  read = c.in_ok-got.ensures.read (g.S.Source.left c.args.src.now) c.loop-got.invariant.read;
  few = takes_more_of (g.S.Source.left c.args.src.now) (g.S.Source.left c.loop-got.src) (g.S.Source.left c.step_once.new.src) c.loop-got.decoder c.loop-got.invariant.read c.step_once.ensures.taken c.loop-got.invariant.few;
  faults = c.in_ok-got.ensures.counted ∙ c.loop-got.invariant.faults;
  keeps = λ k. c.step_once.ensures.keeps (c.loop-got.invariant.keeps k);
}

pub returns-in_err-got-clause-taken : goal.returns-in_err-got-clause-taken
returns-in_err-got-clause-taken g c =
    takes_more_of (g.S.Source.left c.args.src.now) (g.S.Source.left c.loop-got.src) (g.S.Source.left c.step_once.new.src) c.loop-got.decoder c.loop-got.invariant.read c.step_once.ensures.taken c.loop-got.invariant.few

pub returns-then-got-eq0-clause-taken : goal.returns-then-got-eq0-clause-taken
returns-then-got-eq0-clause-taken g c =
    takes_more_of (g.S.Source.left c.args.src.now) (g.S.Source.left c.loop-got.src) (g.S.Source.left c.step_once.new.src) c.loop-got.decoder c.loop-got.invariant.read c.step_once.ensures.taken c.loop-got.invariant.few
