use Rattle.std.proofs.Common.{◌≡◌, ◌+◌, drop}
use Rattle.target_parse.specs.Reading.{place_of_byte}
use Rattle.target_parse.proofs.bytes.place_of_byte.Given as goal

abbrev pub invariant-loop-at : goal.invariant-loop-at
invariant-loop-at l = l.at + place_of_byte l.mark (drop l.at l.text) ≡ place_of_byte l.mark l.text
