use Rattle.std.proofs.Common.{rules, ◌≡◌, ◌∙◌, ℕ, List, [], ◌∷◌, ◌++◌, sym, ap, subst}
use Rattle.carbon_history.specs.declared.entry.Entry.{Entry}
use Rattle.carbon_model.specs.Replay.{IsLegalHistory}
use Rattle.carbon_model.proofs.HistoryLemmas.{legal_more}
use Rattle.shared_history.specs.Events.{ask_by}
use Rattle.shared_history.specs.Parts.{OrderValue, order_with}
use Rattle.shared_store.specs.Asking.{EntersTry}
use Rattle.shared_store.specs.Tallies.{tally_of}
use Rattle.shared_store.proofs.AskPassLemmas.{enters_try}
use Rattle.shared_store.proofs.DeskLemmas.{tally_more}
use Rattle.shared_store.proofs.order_desk.OrderDesk.enter_try.Goals as goal

pub returns : goal.returns
returns g c =
    let o = c.self.inside.order in
    let n = g.N.Named in
    let moment : c.from.result ≡ c.args.now = search rules in
    let list : o.list ≡ c.args.self.now = search rules in
    subst (λ (l : List Entry). EntersTry n.start n.passes l (ask_by c.args.pass.now c.args.attempt c.args.now) c.args.pass.now c.enter_ask.new.pass) list
    (subst (λ (now : ℕ). EntersTry n.start n.passes o.list (ask_by c.args.pass.now c.args.attempt now) c.args.pass.now c.enter_ask.new.pass) moment
    (enters_try n.start n.passes o c.enter_ask.new.order c.args.pass.now c.enter_ask.new.pass c.args.attempt c.from.result c.self.invariant.count c.self.invariant.legal
    c.enter_ask.ensures.order c.enter_ask.ensures.pass c.enter_ask.ensures.once c.enter_ask.ensures.begins c.enter_ask.ensures.made))

pub invariant_of-self : goal.invariant_of-self
invariant_of-self g c =
    let o = c.self.inside.order in
    let n = g.N.Named in
    let v = c.self.invariant in
    let e : Entry = ask_by c.args.pass.now c.args.attempt c.from.result in
    let is : c.enter_ask.new.order ≡ order_with o e = c.enter_ask.ensures.order in
    let list : c.enter_ask.new.order.list ≡ o.list ++ e ∷ [] = ap (λ (x : OrderValue). x.list) is in record {
      same = ap (λ (x : OrderValue). x.table) is ∙ v.same;
      count = ap (λ (x : OrderValue). x.passes) is ∙ v.count;
      legal = subst (IsLegalHistory n.start) (sym list) (legal_more n.start o.list e v.legal tt);
      counts = v.counts ∙ (tally_more o.list e ∙ ap tally_of (sym list));
    }
