use Rattle.std.proofs.Common.{[], refl, ◌∙◌, arith}
use Rattle.bundle_tiles.proofs.Exporting.{unraised}
use Rattle.bundle_tiles.proofs.Importing.{ended_well, group_none, imports_more, many_stopped, put_stopped, read_stopped}
use Rattle.bundle_tiles.proofs.Joining.{whole_none}
use Rattle.bundle_tiles.proofs.taking.import_all.Goals as goal

pub loop-turn-init : goal.loop-turn-init
loop-turn-init g c = record {
  so = record {
    tiles = [];
    marks = [];
    many = refl;
    took = group_none _ 0 [] refl;
    same = refl;
    whole = whole_none _ _ _ _ c.requires.serving.running c.requires.serving.ready;
  };
  place = omega arith;
  volume = refl;
  output = refl;
  source = refl;
}

pub returns-in-Err-clause-ended : goal.returns-in-Err-clause-ended
returns-in-Err-clause-ended g c = rw c.read_stop.ensures (read_stopped _ _ _ _ _ _ _ _ _ _ _ c.loop-turn.invariant.so c.in-Err.stop c.in-Err.ensures.fault)

pub returns-in-Err-put_group-clause-ended : goal.returns-in-Err-put_group-clause-ended
returns-in-Err-put_group-clause-ended g c =
    let puts = rw c.as_slice.ensures.value at c.in-Err-put_group.ensures.puts in
    put_stopped _ _ _ _ _ _ _ _ _ _ _ c.loop-turn.invariant.so c.in-Ok.group _ c.in-Ok.ensures.group _ _ _ c.in-Err-put_group.stop c.in-Err-put_group.ensures.never puts

pub loop-turn-preserved : goal.loop-turn-preserved
loop-turn-preserved g c =
    let inv = c.loop-turn.invariant in
    let puts = rw c.as_slice.ensures.value at c.in-Ok-put_group.ensures.puts in
    record {
      so = imports_more _ _ _ _ _ _ _ _ _ _ _ inv.so c.in-Ok.group _ c.in-Ok.ensures.group _ _ _ puts.0 puts.1 _ c.put_group.ensures.told.same (omega (arith, c.if-len-lt-GROUP.false));
      place = omega (arith, inv.place, c.in-Ok.ensures.end, c.in-Ok.ensures.held);
      volume = unraised _ _ _ c.in-Ok-put_group.ensures.told.counted (λ is. let no : ⊥ = cc in no) ∙ inv.volume;
      output = unraised _ _ _ c.in-Ok-put_group.ensures.output_failed (λ is. let no : ⊥ = cc in no) ∙ inv.output;
      source = c.in-Ok.ensures.counted ∙ inv.source;
    }

pub returns-then-len-lt-GROUP-clause-ended : goal.returns-then-len-lt-GROUP-clause-ended
returns-then-len-lt-GROUP-clause-ended g c =
    let puts = rw c.as_slice.ensures.value at c.in-Ok-put_group.ensures.puts in
    ended_well _ _ _ _ _ _ _ _ _ _ _ c.loop-turn.invariant.so c.in-Ok.group _ c.in-Ok.ensures.group _ _ _ puts.0 puts.1 (omega (arith, c.if-len-lt-GROUP.true))

pub returns-clause-ended : goal.returns-clause-ended
returns-clause-ended g c = many_stopped _ _ _ _ _ _ _ _ _ _ _ c.loop-turn.invariant.so (omega arith)
