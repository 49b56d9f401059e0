use Rattle.std.proofs.Common.{◌≡◌, ◌≤◌, ◌*◌, take}
use Rattle.std.specs.Prelude.{sum}
use Rattle.list_cases.proofs.code_writing.total.Given as goal

abbrev pub invariant-loop-count : goal.invariant-loop-count
invariant-loop-count l = record {
  few : l.total ≤ 4294967296 * l.count-index;
  is : l.total ≡ sum (take l.count-index l.counts);
}
