use Rattle.std.proofs.Common.{rules, ◌≡◌, ◌∙◌, ℕ, List, [], None, get_or, sym, ap, subst}
use Rattle.path_glob.specs.Faults.{Said}
use Rattle.metric_index.specs.Found.{IsFitted}
use Rattle.carbon_history.specs.declared.entry.Entry.{Entry}
use Rattle.carbon_model.specs.Replay.{replay}
use Rattle.shard_core.specs.Halves.{DeskInside, desk_of}
use Rattle.shard_core.specs.Looks.{FindsFor}
use Rattle.shared_store.specs.Desks.{DeskValue}
use Rattle.shared_store.specs.Known.{AreKnownAfter}
use Rattle.shared_store.proofs.DeskPutLemmas.{untold, with_untold}
use Rattle.shared_store.proofs.FindLemmas.{if_ok}
use Rattle.shared_store.proofs.KnownLemmas.{table_knows}
use Rattle.shared_store.proofs.class_desk.ClassDesk.find.Goals as goal

pub returns : goal.returns
returns g c =
    let n = g.N.Named in
    let desk : DeskInside = desk_of c.self.inside.desk in
    let tail = c.self.inside.tail in
    let here : desk.class ≡ c.args.self.now.class = search rules in
    let list : tail.list ≡ c.args.self.now.list = search rules in
    if_ok c.find_again.result _ _ c.find_again.ensures (λ found is.
    subst (λ (k : ℕ). FindsFor k (replay n.start c.args.self.now.list) (IsFitted c.args.wanted.now.need.glob) found.items) here
    (subst (λ (l : List Entry). FindsFor desk.class (replay n.start l) (IsFitted c.args.wanted.now.need.glob) found.items) list
    (subst (λ (glob : Said). FindsFor desk.class (replay n.start tail.list) (IsFitted glob) found.items) c.searched.ensures.glob
    ((is (untold desk.class)).states None (replay n.start tail.list) (with_untold desk (replay n.start tail.list) c.self.invariant.holds)))))

pub find_again-requires : goal.find_again-requires
find_again-requires g c =
    let n = g.N.Named in
    let inside : DeskInside = desk_of c.self.inside.desk in
    let desk : DeskValue = c.args.self.now in
    let tail = c.self.inside.tail in
    let same : record { class = inside.class; list = tail.list } ≡ desk = search rules in
    let names : c.searched.result.now.names ≡ get_or c.args.wanted.now.names desk.class [] =
    c.searched.ensures.names ∙ ap (λ (k : ℕ). get_or c.args.wanted.now.names k []) c.class.ensures in
    let known : AreKnownAfter n.start desk.class desk.list c.searched.result.now.names = subst (AreKnownAfter n.start desk.class desk.list) (sym names) c.requires.known in
    record {
      known = table_knows inside n.start tail.list c.searched.result.now.names c.self.inside.desk.listed c.self.invariant.holds
          (subst (λ (d : DeskValue). AreKnownAfter n.start d.class d.list c.searched.result.now.names) (sym same) known);
    }
