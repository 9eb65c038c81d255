use Rattle.std.proofs.Common.{rules, ◌≡◌, ◌∙◌, sym, subst, List}
use Rattle.std.proofs.lemmas.Iterator.Adapters.{YieldsList-from_vec}
use Rattle.std.proofs.lemmas.Iterator.Consumers.{YieldsList-end}
use Rattle.carbon_history.specs.declared.entry.Entry.{Entry}
use Rattle.shared_history.specs.Parts.{AllSeen, HasSeen, OrderValue, PassValue}
use Rattle.shared_history.proofs.ListLemmas.{map_same, pushed}
use Rattle.shared_history.proofs.closing.see_all.Goals as goal

pub loop-pass-preserved : goal.loop-pass-preserved
loop-pass-preserved c =
    let list : List Entry = c.args.order.now.list in
    let same = c.loop-pass.invariant.order in
    let new : HasSeen list c.in-Some.pass = subst (λ (o : OrderValue). HasSeen o.list c.in-Some.pass) same c.see_last.ensures.seen in
    record {
      order = c.see_last.ensures.order ∙ same;
      seen = pushed (λ k p. HasSeen list p) c.loop-pass.yielded c.in-Some.pass c.loop-pass.invariant.seen new;
    }

pub returns-clause-seen : goal.returns-clause-seen
returns-clause-seen c =
    let from = YieldsList-from_vec {s = c.into_iter-pass-iterator.result} c.args.passes.items (search rules) (search rules) in
    let end = YieldsList-end from c.loop-pass.yielded c.loop-pass.pass-iterator c.loop-pass.yielded_by c.next.result c.next.new.self c.in-None.is c.next.ensures.steps in
    let all : c.loop-pass.yielded ≡ c.args.passes.items = sym (map_same c.loop-pass.yielded) ∙ end.0 in
    subst (λ (ps : List PassValue). AllSeen c.args.order.now.list ps) all c.loop-pass.invariant.seen
