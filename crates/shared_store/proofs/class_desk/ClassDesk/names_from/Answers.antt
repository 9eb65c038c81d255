use Rattle.std.proofs.Common.{rules, ◌≡◌, ℕ, List, subst}
use Rattle.carbon_history.specs.declared.entry.Entry.{Entry}
use Rattle.shard_core.specs.Halves.{DeskInside, desk_of}
use Rattle.shared_store.specs.Known.{IsPieceOf}
use Rattle.shared_store.proofs.DeskPutLemmas.{untold}
use Rattle.shared_store.proofs.FindLemmas.{if_ok}
use Rattle.shared_store.proofs.LearnLemmas.{desk_piece}
use Rattle.shared_store.proofs.class_desk.ClassDesk.names_from.Goals as goal

pub returns : goal.returns
returns g c =
    let n = g.N.Named in
    let desk : DeskInside = desk_of c.self.inside.desk in
    let tail = c.self.inside.tail in
    let here : desk.class ≡ c.args.self.now.class = search rules in
    let list : tail.list ≡ c.args.self.now.list = search rules in
    if_ok c.names_from.result _ _ c.names_from.ensures (λ names are.
    subst (λ (k : ℕ). IsPieceOf n.start k c.args.self.now.list c.args.least.now names.items) here
    (subst (λ (l : List Entry). IsPieceOf n.start desk.class l c.args.least.now names.items) list
    (desk_piece n.start desk tail.list c.args.least.now names.items c.self.invariant.holds (are (untold desk.class)))))
