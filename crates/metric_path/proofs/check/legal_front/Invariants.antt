use Rattle.std.proofs.Common.{◌≤◌, ◌-◌, take}
use Rattle.metric_path.proofs.CheckLemmas.{Walked}
use Rattle.metric_path.proofs.check.legal_front.Given as goal

abbrev pub invariant-loop-at : goal.invariant-loop-at
invariant-loop-at l = record { walked : Walked (take l.at l.text) (l.at - l.start); begun : l.start ≤ l.at }
