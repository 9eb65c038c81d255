use Rattle.std.proofs.Common.{◌≡◌, ◌+◌, drop, false}
use Rattle.path_glob.specs.Stretch.{stretch_len}
use Rattle.target_parse.proofs.bytes.stretch_len.Given as goal

abbrev pub invariant-loop-at : goal.invariant-loop-at
invariant-loop-at l = l.at + stretch_len l.in_braces (drop l.at l.text) ≡ stretch_len false l.text
