use Rattle.std.proofs.Common.{◌≡◌, ◌+◌, ◌<◌, ◌≤◌, length, take}
use Rattle.metric_path.specs.Path.{nodes_of}
use Rattle.find_api.proofs.find.end_of_nodes.Given as goal

abbrev pub invariant-loop-at : goal.invariant-loop-at
invariant-loop-at l = (0 < l.left) × (l.at ≤ length l.name) × (length (nodes_of (take l.at l.name)) + l.left ≡ l.count + 1)
