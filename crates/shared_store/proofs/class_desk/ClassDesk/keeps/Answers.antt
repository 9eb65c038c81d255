use Rattle.std.proofs.Common.{rules, ◌≡◌, ◌∙◌, List, sym, subst}
use Rattle.std.specs.Prelude.{IfOk, Ok, Option, None, Result}
use Rattle.carbon_history.specs.declared.entry.Entry.{Entry}
use Rattle.carbon_model.specs.Replay.{replay}
use Rattle.metric_path.specs.Class.{class_of}
use Rattle.shard_core.specs.Halves.{DeskInside, desk_of}
use Rattle.shared_store.specs.Asking.{IsLookAt}
use Rattle.shared_store.proofs.AskStateLemmas.{bare_here, known_here}
use Rattle.shared_store.proofs.class_desk.ClassDesk.keeps.Goals as goal

pub recall-requires : goal.recall-requires
recall-requires g c =
    let n = g.N.Named in
    let desk : DeskInside = desk_of c.self.inside.desk in
    let tail = c.self.inside.tail in
    let looked = c.args.looked.now in
    let list : tail.list ≡ c.args.self.now.list = search rules in
    let here : class_of looked.path ≡ desk.class = search (rules, c.requires.here) in
    let look : IsLookAt (replay n.start tail.list) looked = subst (λ (l : List Entry). IsLookAt (replay n.start l) looked) (sym list) c.requires.look in
    known_here desk (replay n.start tail.list) looked c.self.invariant.holds c.self.inside.desk.listed look here
