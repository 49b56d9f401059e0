use Rattle.std.proofs.Common.{◌≡◌, length, ap, refl, ◌∙◌, arith}
use Rattle.lerc_decode.specs.Decoding.{Stage, Decoding}
use Rattle.lerc_decode.specs.inside.Feeding.{work_at, work_left}
use Rattle.lerc_decode.proofs.Feeding.{begins_more, begins_same, few_more, follow_any, follow_more, joins_same, takes_none, joins_more, no_memory_follows}
use Rattle.lerc_decode.proofs.streams.from_source.feed_from.Goals as goal

pub returns-then-got-eq0-clause-fed : goal.returns-then-got-eq0-clause-fed
returns-then-got-eq0-clause-fed g c =
    let same : c.feed_once.new.decoder ≡ c.loop-got.decoder = c.in_ok-got.ensures.same c.if-got-eq0.true in
    follow_more c.loop-got.decoder.stage c.feed_once.new.decoder.stage _ _ _
    (λ e. no_memory_follows c.feed_once.new.decoder.stage _ (ap (λ (d : Decoding). d.stage) same ∙ e))
    (joins_more (g.S.Source.left c.args.src.now) (g.S.Source.left c.loop-got.src) (g.S.Source.left c.feed_once.new.src) c.args.decoder.now.taken c.loop-got.decoder.taken c.feed_once.new.decoder.taken)
    c.loop-got.invariant.fed c.in_ok-got.ensures.fed

pub loop-got-preserved : goal.loop-got-preserved
loop-got-preserved g c = record {
  stands = c.feed_once.ensures.stands;
  fed = follow_more c.loop-got.decoder.stage c.feed_once.new.decoder.stage _ _ _
      (λ e. let none : work_left c.loop-got.decoder ≡ 0 = ap (λ (s : Stage). work_at s (length c.loop-got.decoder.taken)) e in absurd (omega (arith, none, c.if-got-eq0.false, c.in_ok-got.ensures.less (omega (arith, c.if-got-eq0.false)))))
      (joins_more (g.S.Source.left c.args.src.now) (g.S.Source.left c.loop-got.src) (g.S.Source.left c.feed_once.new.src) c.args.decoder.now.taken c.loop-got.decoder.taken c.feed_once.new.decoder.taken)
      c.loop-got.invariant.fed c.in_ok-got.ensures.fed;
  begins = begins_more c.loop-got.decoder.stage (g.S.Source.left c.args.src.now) (g.S.Source.left c.loop-got.src) c.args.decoder.now.taken c.loop-got.decoder.taken c.feed_once.new.decoder.taken
      (λ e. let none : work_left c.loop-got.decoder ≡ 0 = ap (λ (s : Stage). work_at s (length c.loop-got.decoder.taken)) e in absurd (omega (arith, none, c.if-got-eq0.false, c.in_ok-got.ensures.less (omega (arith, c.if-got-eq0.false)))))
      c.loop-got.invariant.fed c.in_ok-got.ensures.begins;
  few = λ none. few_more c.loop-got.decoder.before c.loop-got.decoder.stage _ _ _ _ c.loop-got.decoder.taken _ none c.loop-got.invariant.stands c.loop-got.invariant.fed (omega arith) c.feed_once.ensures.taken (c.loop-got.invariant.few none);
  faults = c.in_ok-got.ensures.counted ∙ c.loop-got.invariant.faults;
  before = c.feed_once.ensures.before ∙ c.loop-got.invariant.before;
}

pub loop-got-init : goal.loop-got-init
loop-got-init g c = record {
  stands = c.state-state.ensures.sound;
  fed = follow_any c.args.decoder.now.stage _ (joins_same _ _);
  begins = begins_same _ _;
  few = λ none. takes_none _ _;
  faults = refl;
  before = refl;
}

pub returns-in_err-got-clause-taken : goal.returns-in_err-got-clause-taken
returns-in_err-got-clause-taken g c = λ none. few_more c.loop-got.decoder.before c.loop-got.decoder.stage _ _ _ _ c.loop-got.decoder.taken _ none c.loop-got.invariant.stands c.loop-got.invariant.fed (omega arith) c.feed_once.ensures.taken (c.loop-got.invariant.few none)

pub returns-then-got-eq0-clause-taken : goal.returns-then-got-eq0-clause-taken
returns-then-got-eq0-clause-taken g c = λ none. few_more c.loop-got.decoder.before c.loop-got.decoder.stage _ _ _ _ c.loop-got.decoder.taken _ none c.loop-got.invariant.stands c.loop-got.invariant.fed (omega arith) c.feed_once.ensures.taken (c.loop-got.invariant.few none)
