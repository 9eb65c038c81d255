use Rattle.std.proofs.Common.{◌≡◌, ◌+◌, ◌*◌, ◌^◌, ◌<◌, ◌++◌, drop, length}
use Rattle.ring_look.specs.ValuesText.{rows_text}
use Rattle.ring_look.proofs.values_text.push_rows.Given as goal

abbrev pub invariant-loop-value : goal.invariant-loop-value
invariant-loop-value l =
    (l.out.items ++ rows_text l.moment l.step (drop l.value-index l.values) ≡ l.fn.out.items ++ rows_text l.first l.step l.values)
    × (l.moment + length (drop l.value-index l.values) * l.step < 2 ^ 32)
