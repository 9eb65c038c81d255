use Rattle.std.proofs.Common.{List, sym, subst, arith}
use Rattle.std.specs.declared.sync.MutexGuard.{MutexGuard}
use Rattle.carbon_model.specs.Replay.{replay}
use Rattle.shared_store.specs.Asking.{AreDesksOf}
use Rattle.shared_store.specs.Desks.{DeskValue}
use Rattle.shared_store.specs.Known.{KnowsAt, lists_of}
use Rattle.shared_store.specs.Naming.{Names, NamesUp, PutsNames, joined}
use Rattle.shared_store.proofs.KnownLemmas.{knows_at, knows_in}
use Rattle.shared_store.proofs.NameLemmas.{if_ok, names_are}
use Rattle.shared_store.proofs.store.Store.names_by.Goals as goal

pub names_of_each-requires-clause-known : goal.names_of_each-requires-clause-known
names_of_each-requires-clause-known g c =
    let n = g.N.Named in
    let new = c.enter_try.new.pass in
    subst (λ (l : List (MutexGuard DeskValue)). KnowsAt n.start l (lists_of c.args.known.items)) (sym c.as_slice.ensures.value)
    (knows_at n.start new.seen c.enter_try.new.desks.items (lists_of c.args.known.items) (c.enter_try.ensures.desks, omega (arith, c.enter_try.ensures.sixteen, c.enter_try.new.desks.ok.0))
    (knows_in n.start n.passes c.args.now 1 c.args.pass.now new (lists_of c.args.known.items) c.enter_try.ensures.enters c.requires.known))

pub returns-clause-names : goal.returns-clause-names
returns-clause-names g c =
    let n = g.N.Named in
    let old = c.args.pass.now in
    let new = c.enter_try.new.pass in
    let desks = subst (λ (l : List (MutexGuard DeskValue)). AreDesksOf new.seen l) (sym c.as_slice.ensures.value) c.enter_try.ensures.desks in
    let up : NamesUp (replay n.start new.seen) (joined (lists_of c.in_ok-names.names.items)) = c.in_ok-names.ensures new.seen desks in
    let all : NamesUp (replay n.start new.seen) c.in_ok-join.field-0.items = subst (NamesUp (replay n.start new.seen)) (sym c.in_ok-join.ensures) up in
    if_ok (λ sorted. PutsNames c.in_ok-join.field-0.items sorted.items) (λ sorted. Names n.start n.passes c.args.now sorted.items old new) c.put_in_order.result
    (λ sorted puts. names_are n.start n.passes c.args.now old new c.enter_try.ensures.enters c.in_ok-join.field-0.items sorted.items all puts) c.put_in_order.ensures
