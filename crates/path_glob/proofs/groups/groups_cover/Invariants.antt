use Rattle.std.proofs.Common.{◌≡◌, drop}
use Rattle.path_glob.specs.Positions.{held}
use Rattle.path_glob.proofs.GroupLemmas.{LeadsFrom}
use Rattle.path_glob.proofs.groups.groups_cover.Given as goal

abbrev pub invariant-loop-i : goal.invariant-loop-i
invariant-loop-i l = record {
  same : l.groups ≡ l.fn.groups;
  leads : LeadsFrom (drop l.i l.fn.groups) l.fn.groups l.node (held l.initial.reached) (held l.reached);
}
