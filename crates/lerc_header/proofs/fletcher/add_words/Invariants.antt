use Rattle.std.proofs.Common.{◌≡◌, ◌+◌, ◌*◌, ◌≤◌, take, sum}
use Rattle.lerc_header.specs.Checksum.{words, weighted}
use Rattle.lerc_header.proofs.fletcher.add_words.Given as goal

abbrev pub invariant-loop-i : goal.invariant-loop-i
invariant-loop-i l = record {
  first : l.sum1 ≡ l.first + sum (take l.i (words l.bytes));
  second : l.sum2 ≡ l.second + l.i * l.first + weighted (take l.i (words l.bytes));
  small1 : l.sum1 ≤ 23200000 + 65535 * l.i;
  small2 : l.sum2 ≤ 4118000000 + 23700000 * l.i;
}
