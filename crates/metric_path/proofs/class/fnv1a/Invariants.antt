use Rattle.std.proofs.Common.{◌≡◌, take}
use Rattle.metric_path.specs.Class.{fnv1a}
use Rattle.metric_path.proofs.class.fnv1a.Given as goal

abbrev pub invariant-loop-b : goal.invariant-loop-b
invariant-loop-b l = l.hash ≡ fnv1a (take l.b-index l.text)
