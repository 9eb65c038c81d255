use Rattle.std.proofs.Common.{◌≡◌, vec_len}
use Rattle.shared_store.proofs.start.make_pairs.Given as goal

abbrev pub invariant-loop-class : goal.invariant-loop-class
invariant-loop-class l = record { count : vec_len l.pairs ≡ l._class }
