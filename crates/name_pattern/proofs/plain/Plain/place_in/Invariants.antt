use Rattle.std.proofs.Common.{ℕ, ◌<◌}
use Rattle.name_pattern.specs.PlainTexts.{Stands}
use Rattle.name_pattern.proofs.plain.Plain.place_in.Given as goal

abbrev pub invariant-loop-at : goal.invariant-loop-at
invariant-loop-at l =
    (i : ℕ) → i < l.at → ¬ Stands l.self.text.items l.self.at_start l.self.at_end l.name i
