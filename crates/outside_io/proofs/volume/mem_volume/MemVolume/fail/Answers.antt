use Rattle.std.proofs.Common.{◌≡◌, refl, ◌+◌, [], ◌∙◌, ap, arith}
use Rattle.outside_io.specs.declared.volume.call_log.Ask.TheVariants.{Look}
use Rattle.outside_io.specs.declared.volume.mem_volume.MemVolume.TheInside.{Inside}
use Rattle.outside_io.specs.volume.History.{current}
use Rattle.outside_io.specs.inside.MemVolume.{effects_of}
use Rattle.outside_io.specs.volume.Recorded.{Recorded, history_of, sum_written}
use Rattle.outside_io.proofs.Inside.Noted.{Follows, kept_after, now_after, sum_written-push}
use Rattle.outside_io.proofs.volume.mem_volume.MemVolume.fail.Goals as goal

-- the fields after the call
abbrev failed : goal.After-self-2-1 → Inside
failed c = record c.self.inside { log = c.append.new.log; written = c.append.new.written; clock = c.self.inside.clock + 1; faults = c.saturating_add-self-inside.result }

follows_failed : (c : goal.After-self-2-1) → Follows c.self.inside (failed c) (record { ask = Look; bytes = [] })
follows_failed c = record {
  bundle = refl;
  journal = refl;
  effects = c.append.ensures.effects;
  pool = c.append.ensures.pool;
  ends = c.append.ensures.ends;
  octets = c.append.ensures.octets;
  bundle_len = refl;
  journal_len = refl;
  below = c.if-self.false;
  clock = refl;
  calls = refl;
  counted = c.append.ensures.counted;
  room = refl;
  used = c.append.ensures.used;
  within = omega (arith, c.append.ensures.used, c.self.invariant.used);
  log_room = c.append.ensures.log_capacity;
  written_room = c.append.ensures.written_capacity;
}

pub invariant_of-self-2 : goal.invariant_of-self-2
invariant_of-self-2 c = kept_after c.self.inside (failed c) _ c.self.invariant tt (follows_failed c)

pub returns-clause-disk : goal.returns-clause-disk
returns-clause-disk c = now_after c.self.inside (failed c) _ c.self.invariant tt (follows_failed c) ∙ ap (λ (r : Recorded). current (history_of r)) c.self.view_is

pub returns-clause-written : goal.returns-clause-written
returns-clause-written c =
    ap sum_written c.append.ensures.effects
    ∙ sum_written-push (effects_of c.self.inside) (record { ask = Look; bytes = [] })
    ∙ (let same : sum_written (effects_of c.self.inside) + 0 ≡ sum_written (effects_of c.self.inside) = omega arith in same)
    ∙ ap (λ (r : Recorded). sum_written r.effects) c.self.view_is
