use Rattle.std.proofs.Common.{take}
use Rattle.find_api.specs.Nodes.{Expands}
use Rattle.find_api.proofs.find.expand_paths.Given as goal

abbrev pub invariant-loop-glob : goal.invariant-loop-glob
invariant-loop-glob l = Expands (take l.glob-index l.globs) l.names l.paths.items
