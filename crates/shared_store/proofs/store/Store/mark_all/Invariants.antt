use Rattle.std.proofs.Common.{◌≡◌, ℕ, ◌<◌, ◌≤◌, List, vec_len}
use Rattle.carbon_history.specs.declared.entry.Entry.{Entry}
use Rattle.shared_history.specs.Views.{look_at}
use Rattle.shared_store.specs.Asking.{AreDesksOf, HadSeen, OnlyLooks}
use Rattle.shared_store.proofs.store.Store.mark_all.Given as goal

abbrev pub invariant-loop-i : goal.invariant-loop-i
invariant-loop-i g l = record {
  count : vec_len l.desks ≡ vec_len l.fn.desks;
  desks : AreDesksOf l.fn.pass.seen l.desks.items;
  still : (list : List Entry) → AreDesksOf list l.fn.desks.items → AreDesksOf list l.desks.items;
  only : OnlyLooks l.fn.pass l.pass;
  had : (k : ℕ) → k < l.i → HadSeen l.fn.pass.seen l.fn.pass k;
  rest : (k : ℕ) → l.i ≤ k → look_at k l.pass.looks ≡ look_at k l.fn.pass.looks;
}
