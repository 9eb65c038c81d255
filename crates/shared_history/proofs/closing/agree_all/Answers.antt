use Rattle.std.proofs.Common.{rules, ◌≡◌, ◌∙◌, sym, subst, List}
use Rattle.std.proofs.lemmas.Iterator.Adapters.{YieldsList-from_vec}
use Rattle.std.proofs.lemmas.Iterator.Consumers.{YieldsList-end}
use Rattle.carbon_history.specs.declared.entry.Entry.{Entry}
use Rattle.carbon_history.specs.Entries.{about_class}
use Rattle.shared_history.specs.Parts.{AllAgree, OrderValue, TailValue}
use Rattle.shared_history.proofs.ListLemmas.{map_same, pushed}
use Rattle.shared_history.proofs.closing.agree_all.Goals as goal

pub loop-tail-preserved : goal.loop-tail-preserved
loop-tail-preserved c =
    let list : List Entry = c.args.order.now.list in
    let same = c.loop-tail.invariant.order in
    let new : c.in-Some.tail.list ≡ about_class c.in-Some.tail.class list = subst (λ (o : OrderValue). c.in-Some.tail.list ≡ about_class c.in-Some.tail.class o.list) same c.agree_last.ensures.agree in
    record {
      order = c.agree_last.ensures.order ∙ same;
      agree = pushed (λ k t. t.list ≡ about_class t.class list) c.loop-tail.yielded c.in-Some.tail c.loop-tail.invariant.agree new;
    }

pub returns-clause-agree : goal.returns-clause-agree
returns-clause-agree c =
    let from = YieldsList-from_vec {s = c.into_iter-tail-iterator.result} c.args.tails.items (search rules) (search rules) in
    let end = YieldsList-end from c.loop-tail.yielded c.loop-tail.tail-iterator c.loop-tail.yielded_by c.next.result c.next.new.self c.in-None.is c.next.ensures.steps in
    let all : c.loop-tail.yielded ≡ c.args.tails.items = sym (map_same c.loop-tail.yielded) ∙ end.0 in
    subst (λ (ps : List TailValue). AllAgree c.args.order.now.list ps) all c.loop-tail.invariant.agree
