use Rattle.std.proofs.Common.{rules, ◌≡◌, ℕ, List, None, sym, subst}
use Rattle.carbon_history.specs.declared.entry.Entry.{Entry}
use Rattle.carbon_model.specs.Found.{Finds}
use Rattle.carbon_model.specs.Replay.{replay}
use Rattle.carbon_model.specs.RingFiles.{IsOfClass}
use Rattle.shard_core.specs.Halves.{DeskInside, desk_of}
use Rattle.shared_store.specs.Desks.{DeskValue}
use Rattle.shared_store.specs.Known.{AreKnownAfter}
use Rattle.shared_store.proofs.DeskPutLemmas.{untold, with_untold}
use Rattle.shared_store.proofs.FindLemmas.{if_ok}
use Rattle.shared_store.proofs.KnownLemmas.{table_knows}
use Rattle.shared_store.proofs.class_desk.ClassDesk.names_again.Goals as goal

pub names_again-requires-clause-known : goal.names_again-requires-clause-known
names_again-requires-clause-known g c =
    let n = g.N.Named in
    let inside : DeskInside = desk_of c.self.inside.desk in
    let tail = c.self.inside.tail in
    let same : record { class = inside.class; list = tail.list } ≡ c.args.self.now = search rules in
    table_knows inside n.start tail.list c.args.names.items c.self.inside.desk.listed c.self.invariant.holds
    (subst (λ (d : DeskValue). AreKnownAfter n.start d.class d.list c.args.names.items) (sym same) c.requires.known)

pub returns : goal.returns
returns g c =
    let n = g.N.Named in
    let desk : DeskInside = desk_of c.self.inside.desk in
    let tail = c.self.inside.tail in
    let here : desk.class ≡ c.args.self.now.class = search rules in
    let list : tail.list ≡ c.args.self.now.list = search rules in
    if_ok c.names_again.result _ _ c.names_again.ensures (λ names are.
    subst (λ (k : ℕ). Finds (replay n.start c.args.self.now.list) (IsOfClass k) names.items) here
    (subst (λ (l : List Entry). Finds (replay n.start l) (IsOfClass desk.class) names.items) list
    (are (untold desk.class) None (replay n.start tail.list) (with_untold desk (replay n.start tail.list) c.self.invariant.holds))))
