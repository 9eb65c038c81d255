use Rattle.std.proofs.Common.{◌≡◌, ◌∙◌, Option, Some, IfSome, sym, subst}
use Rattle.redo_log.specs.Ends.{RedoEnds, rest_of}
use Rattle.redo_log.specs.Rows.{InRow}
use Rattle.redo_log.specs.Steps.{IsReady, RedoValue}
use Rattle.redo_log.proofs.EndLemmas.{redo_ends, redo_row}
use Rattle.redo_log.proofs.MomentLemmas.{between}
use Rattle.redo_log.proofs.ReadyLemmas.{ready_again}
use Rattle.redo_log.proofs.redo.Redo.step.Goals as goal

pub returns-clause-ends : goal.returns-clause-ends
returns-clause-ends g c =
    let held : c.args.self.now ≡ Some c.in-Some.steps = sym c.self.view_is ∙ sym c.take.ensures.value ∙ c.in-Some.is in
    subst (λ (left : Option RedoValue). RedoEnds c.take-end.result c.args.self.now left (g.D.Disk.image c.args.disk.now) (g.D.Disk.image c.take-end.new.disk)) (sym c.rest_of.ensures)
    (redo_ends c.take-end.result c.args.self.now c.in-Some.steps c.take-end.new.self _ _ held c.take-end.ensures.ends)

pub returns-clause-rows : goal.returns-clause-rows
returns-clause-rows g c = λ first.
    let held : c.args.self.now ≡ Some c.in-Some.steps = sym c.self.view_is ∙ sym c.take.ensures.value ∙ c.in-Some.is in
    let row : InRow c.rest_of.result (g.D.Disk.image c.take-end.new.disk) (g.D.Disk.may_leave c.take-end.new.disk) =
    subst (λ (left : Option RedoValue). InRow left (g.D.Disk.image c.take-end.new.disk) (g.D.Disk.may_leave c.take-end.new.disk))
    (sym c.rest_of.ensures)
    (redo_row c.take-end.result c.args.self.now c.in-Some.steps c.take-end.new.self (g.D.Disk.image c.args.disk.now) (g.D.Disk.image c.take-end.new.disk) (g.D.Disk.may_leave c.args.disk.now) (g.D.Disk.may_leave c.take-end.new.disk) held
    c.take-end.ensures.ends c.take-end.ensures.row first) in
    record {
      row = row;
      leaves = between g.D.Disk.moment g.D.Disk.left_since c.args.disk.now c.take-end.new.disk c.args.self.now c.rest_of.result (g.D.Disk.image c.args.disk.now) (g.D.Disk.image c.take-end.new.disk)
          (g.D.Disk.may_leave c.args.disk.now) (g.D.Disk.may_leave c.take-end.new.disk) (g.D.Disk.only_now c.args.disk.now) c.take-end.ensures.frame.time first row;
    }

pub returns-clause-ready : goal.returns-clause-ready
returns-clause-ready g c =
    let held : c.args.self.now ≡ Some c.in-Some.steps = sym c.self.view_is ∙ sym c.take.ensures.value ∙ c.in-Some.is in
    subst (λ (left : Option RedoValue). IfSome left (λ redo. IfSome (g.D.Disk.image c.take-end.new.disk) (IsReady redo))) (sym c.rest_of.ensures)
    (ready_again c.take-end.result c.args.self.now (rest_of c.take-end.result c.take-end.new.self) _ _ (redo_ends c.take-end.result c.args.self.now c.in-Some.steps c.take-end.new.self (g.D.Disk.image c.args.disk.now) (g.D.Disk.image c.take-end.new.disk) held c.take-end.ensures.ends))
