use Rattle.std.proofs.Common.{inl, inr, refl, ◌+◌, ◌<◌, ◌≤◌, length, sym, ◌∙◌, ap, subst, arith}
use Rattle.std.proofs.lemmas.Bool.{cases_lt}
use Rattle.outside_io.specs.declared.volume.mem_volume.MemVolume.TheInside.{Inside}
use Rattle.outside_io.specs.volume.History.{current}
use Rattle.outside_io.specs.inside.MemVolume.{recorded, effects_of}
use Rattle.outside_io.specs.inside.Effects.{Fits}
use Rattle.outside_io.specs.volume.Recorded.{MustFail, Recorded, history_of, disk_after, sum_written}
use Rattle.outside_io.proofs.Inside.Noted.{Follows, kept_after, now_after, sum_written-push}
use Rattle.outside_io.proofs.volume.mem_volume.MemVolume.note.Goals as goal

-- the fields after the call
abbrev noted : goal.After-self-3-1 → Inside
noted c = record c.self.inside {
  bundle_len = c.len_after-self-inside.result;
  journal_len = c.len_after-self-inside-2.result;
  log = c.append.new.log;
  written = c.append.new.written;
  clock = c.self.inside.clock + 1;
}

passes : (c : goal.After-self-3-1) → MustFail (recorded c.self.inside) → ⊥
passes c must = c.requires.passes (subst MustFail c.self.view_is must)

fits : (c : goal.After-self-3-1) → Fits c.args.ask (current (history_of (recorded c.self.inside)))
fits c = subst (λ (r : Recorded). Fits c.args.ask (current (history_of r))) (sym c.self.view_is) c.requires.fits

follows_noted : (c : goal.After-self-3-1) → Follows c.self.inside (noted c) (record { ask = c.args.ask; bytes = c.args.bytes.now })
follows_noted c =
    let a = c.self.inside in
    let below : a.clock < a.calls = elim (cases_lt a.clock a.calls) [ inl less ↦ less | inr past ↦ absurd (passes c (inr (inr (inl past)))) ] in
    let within : sum_written (effects_of a) + length c.args.bytes.now ≤ a.room =
    subst (λ (r : Recorded). sum_written r.effects + length c.args.bytes.now ≤ r.room) (sym c.self.view_is) c.requires.space in
    record {
      bundle = refl;
      journal = refl;
      effects = c.append.ensures.effects;
      pool = c.append.ensures.pool;
      ends = c.append.ensures.ends;
      octets = c.append.ensures.octets;
      bundle_len = c.len_after-self-inside.ensures;
      journal_len = c.len_after-self-inside-2.ensures;
      below = below;
      clock = refl;
      calls = refl;
      counted = c.append.ensures.counted;
      room = refl;
      used = c.append.ensures.used;
      within = omega (arith, c.append.ensures.used, c.self.invariant.all_used, within);
      log_room = c.append.ensures.log_capacity;
      written_room = c.append.ensures.written_capacity;
    }

pub invariant_of-self : goal.invariant_of-self
invariant_of-self c = kept_after c.self.inside (noted c) _ c.self.invariant (fits c) (follows_noted c)

pub returns-clause-disk : goal.returns-clause-disk
returns-clause-disk c = now_after c.self.inside (noted c) _ c.self.invariant (fits c) (follows_noted c) ∙ ap (λ (r : Recorded). disk_after c.args.ask c.args.bytes.now (current (history_of r))) c.self.view_is

pub returns-clause-written : goal.returns-clause-written
returns-clause-written c =
    ap sum_written c.append.ensures.effects
    ∙ sum_written-push (effects_of c.self.inside) (record { ask = c.args.ask; bytes = c.args.bytes.now })
    ∙ ap (λ (r : Recorded). sum_written r.effects + length c.args.bytes.now) c.self.view_is
