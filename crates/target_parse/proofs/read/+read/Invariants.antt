use Rattle.std.proofs.Common.{◌+◌, ◌*◌, length}
use Rattle.target_parse.proofs.LoopLemmas.{Reached}
use Rattle.target_parse.proofs.read.+read.Given as goal

abbrev pub decreases-read_argument : goal.decreases-read_argument
decreases-read_argument l = 4 * l.levels + 3

abbrev pub decreases-read_call : goal.decreases-read_call
decreases-read_call l = 4 * l.levels + 2

abbrev pub decreases-read_arguments : goal.decreases-read_arguments
decreases-read_arguments l = 4 * l.levels + 5

abbrev pub decreases-read_next : goal.decreases-read_next
decreases-read_next l = 4 * l.levels + 4

abbrev pub invariant-read_arguments-loop-items : goal.invariant-read_arguments-loop-items
invariant-read_arguments-loop-items l = Reached l.levels l.text l.items.items l.rest

abbrev pub decreases-read_arguments-loop-items : goal.decreases-read_arguments-loop-items
decreases-read_arguments-loop-items l = length l.rest
