use Rattle.std.proofs.Common.{◌≡◌, All, take}
use Rattle.shared_store.specs.Known.{lists_of, needs_of}
use Rattle.shared_store.proofs.wanted.want_all.Given as goal

abbrev pub invariant-loop-need : goal.invariant-loop-need
invariant-loop-need l = record {
  needs : needs_of l.all.items ≡ take l.need-index l.needs;
  names : All (λ w. w.names ≡ lists_of l.names) l.all.items;
}
