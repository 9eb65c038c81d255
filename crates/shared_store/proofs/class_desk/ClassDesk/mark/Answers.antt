use Rattle.std.proofs.Common.{rules, ◌≡◌, ℕ, List, subst}
use Rattle.carbon_history.specs.declared.entry.Entry.{Entry}
use Rattle.shared_store.specs.Asking.{MarksClass}
use Rattle.shared_store.proofs.AskPassLemmas.{marks_class}
use Rattle.shared_store.proofs.class_desk.ClassDesk.mark.Goals as goal

pub returns-clause-marks : goal.returns-clause-marks
returns-clause-marks g c =
    let first = c.self.inside.tail in
    let old = c.args.pass.now in
    let new = c.mark.new.pass in
    let here : first.class ≡ c.args.self.now.class = search rules in
    let list : first.list ≡ c.args.self.now.list = search rules in
    subst (λ (k : ℕ). MarksClass k c.args.self.now.list old new) here
    (subst (λ (l : List Entry). MarksClass first.class l old new) list (marks_class first old new c.mark.ensures.pass c.mark.ensures.later))
