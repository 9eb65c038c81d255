use Rattle.std.proofs.Common.{rules, ◌≡◌, ℕ, ◌<◌, List, get_or, sym, ap, subst, refl, arith, length}
use Rattle.std.proofs.lemmas.List.Elements.{All-get_or}
use Rattle.carbon_model.specs.Replay.{replay}
use Rattle.render_need.specs.Ends.{AreEnds}
use Rattle.shard_core.specs.declared.looked.LookCount.{LookCount}
use Rattle.shared_store.specs.Counting.{CountsBelow}
use Rattle.shared_store.specs.Finds.{ClassFindsValue, IsFindOf}
use Rattle.shared_store.proofs.AskCountLemmas.{counts_more, counts_need, counts_none}
use Rattle.shared_store.proofs.FindLemmas.{counts_here}
use Rattle.shared_store.proofs.counting.count_need.Goals as goal

pub loop-class-init : goal.loop-class-init
loop-class-init g c = λ list h. counts_none (replay g.N.Named.start list) c.args.now c.args.finds.now.need _ refl refl

pub loop-class-preserved : goal.loop-class-preserved
loop-class-preserved g c = λ list h.
    let start = g.N.Named.start in
    let finds = c.args.finds.now in
    let i : ℕ = c.loop-class.class-index in
    let it : ClassFindsValue = c.class-item.result in
    let is : it ≡ get_or finds.classes i it = search rules in
    let within : i < length finds.classes = search rules in
    let more : LookCount = c.in_ok-count.field-0 in
    counts_more start list i c.args.now finds.need c.loop-class.count more c.in_ok-count-2.count (c.loop-class.invariant list h)
    (counts_here start list i c.args.now finds.need it more (subst (λ (x : ClassFindsValue). IsFindOf i list finds.need x) (sym is) (h.each i it within)) c.in_ok-count.ensures) c.in_ok-count-2.ensures

pub returns : goal.returns
returns g c = λ list h.
    let all : c.loop-class.class-index ≡ 16 = omega (arith, c.loop-class-test.false, c.loop-class.auto.class-index-end, h.sixteen, ap length c.classes-class-items.ensures.classes) in
    counts_need (replay g.N.Named.start list) c.args.now c.args.finds.now.need c.loop-class.count
    (subst (λ (n : ℕ). CountsBelow n (replay g.N.Named.start list) c.args.now c.args.finds.now.need c.loop-class.count) all (c.loop-class.invariant list h))

pub count-requires-clause-ends : goal.count-requires-clause-ends
count-requires-clause-ends g c =
    let items : List ClassFindsValue = c.classes-class-items.result.now in
    let it : ClassFindsValue = c.class-item.result in
    let is : it ≡ get_or items c.loop-class.class-index it = search rules in
    let same : it.need ≡ c.args.finds.now.need = subst (λ (x : ClassFindsValue). x.need ≡ c.args.finds.now.need) (sym is)
    (All-get_or (λ (x : ClassFindsValue). x.need ≡ c.args.finds.now.need) items c.loop-class.class-index it c.loop-class-test.true c.classes-class-items.ensures.need) in
    subst AreEnds (sym same) c.requires.ends
