use Rattle.std.proofs.Common.{◌≡◌, ◌+◌, [], vec_len, Some}
use Rattle.std.specs.Prelude.{slice_get}
use Rattle.shared_history.specs.Parts.{IsNewTail, IsNewPass}
use Rattle.shared_history.proofs.making.make.Given as goal

abbrev pub invariant-loop-k : goal.invariant-loop-k
invariant-loop-k l = record {
  words : l.order.table.words ≡ l.classes + 1;
  list : l.order.list ≡ [];
  passes : l.order.passes ≡ 0;
  classes : l.order.classes ≡ l._k;
  count : vec_len l.tails ≡ l._k;
  tails : (k : _) (t : _) → slice_get l.tails.items k ≡ Some t → IsNewTail l.order.table k t;
}

abbrev pub invariant-loop-n : goal.invariant-loop-n
invariant-loop-n l = record {
  list : l.order.list ≡ [];
  classes : l.order.classes ≡ l.classes;
  passes : l.order.passes ≡ l._n;
  tail_count : vec_len l.tails ≡ l.classes;
  tails : (k : _) (t : _) → slice_get l.tails.items k ≡ Some t → IsNewTail l.order.table k t;
  count : vec_len l.members ≡ l._n;
  members : (k : _) (t : _) → slice_get l.members.items k ≡ Some t → IsNewPass l.order.table k t;
}
