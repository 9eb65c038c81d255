use Rattle.std.proofs.Common.{◌≡◌, ℕ, ◌+◌, List, [], get_or, vec_len}
use Rattle.carbon_history.specs.declared.entry.Entry.{Entry}
use Rattle.carbon_model.specs.Replay.{replay}
use Rattle.shared_store.specs.Asking.{AreDesksOf}
use Rattle.shared_store.specs.Known.{AreInOrder, lists_of}
use Rattle.shared_store.specs.Naming.{NamesBelow, joined}
use Rattle.shared_store.proofs.naming.names_of_each.Given as goal

abbrev pub invariant-loop-desk : goal.invariant-loop-desk
invariant-loop-desk g l = record {
  left : vec_len l.known + l.desk-index ≡ 16;
  rest : (k : ℕ) → get_or (lists_of l.known.items) k [] ≡ get_or (lists_of l.fn.known.items) (l.desk-index + k) [];
  order : AreInOrder l.known.items;
  all : (list : List Entry) → AreDesksOf list l.desks → NamesBelow l.desk-index (replay g.N.Named.start list) (joined (lists_of l.names.items));
}
