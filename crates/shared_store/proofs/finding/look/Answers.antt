use Rattle.std.proofs.Common.{rules, ◌≡◌, ℕ, ◌+◌, ◌<◌, List, get_or, length, sym, ap, subst, arith}
use Rattle.std.proofs.lemmas.List.Elements.{All-get_or}
use Rattle.carbon_model.specs.Replay.{replay}
use Rattle.render_need.specs.Ends.{AreEnds}
use Rattle.shard_core.specs.declared.looked.Looked.{Looked}
use Rattle.shared_store.specs.Asking.{LooksBelow}
use Rattle.shared_store.specs.Finds.{ClassFindsValue, IsFindOf}
use Rattle.shared_store.proofs.AskFoundLemmas.{looks_more, looks_up}
use Rattle.shared_store.proofs.FindLemmas.{looks_here}
use Rattle.shared_store.proofs.finding.look.Goals as goal

pub loop-class-preserved : goal.loop-class-preserved
loop-class-preserved g c = λ list h.
    let start = g.N.Named.start in
    let finds = c.args.finds.now in
    let i : ℕ = c.loop-class.class-index in
    let it : ClassFindsValue = c.class-item.result in
    let is : it ≡ get_or finds.classes i it = search rules in
    let within : i < length finds.classes = search rules in
    let more : List Looked = c.in_ok-look.field-0.items in
    subst (λ (l : List Looked). LooksBelow (i + 1) (replay start list) c.args.now finds.need l) (sym c.in_ok-append.ensures)
    (looks_more start list i c.args.now finds.need c.loop-class.found more (c.loop-class.invariant list h)
    (looks_here start list i c.args.now finds.need it more (subst (λ (x : ClassFindsValue). IsFindOf i list finds.need x) (sym is) (h.each i it within)) c.in_ok-look.ensures.looks)
    c.in_ok-look.ensures.readable)

pub returns : goal.returns
returns g c = λ list h.
    let all : c.loop-class.class-index ≡ 16 = omega (arith, c.loop-class-test.false, c.loop-class.auto.class-index-end, h.sixteen, ap length c.classes-class-items.ensures.classes) in
    looks_up (replay g.N.Named.start list) c.args.now c.args.finds.now.need c.loop-class.found
    (subst (λ (n : ℕ). LooksBelow n (replay g.N.Named.start list) c.args.now c.args.finds.now.need c.loop-class.found) all (c.loop-class.invariant list h))

pub look-requires-clause-ends : goal.look-requires-clause-ends
look-requires-clause-ends g c =
    let items : List ClassFindsValue = c.classes-class-items.result.now in
    let it : ClassFindsValue = c.class-item.result in
    let is : it ≡ get_or items c.loop-class.class-index it = search rules in
    let same : it.need ≡ c.args.finds.now.need = subst (λ (x : ClassFindsValue). x.need ≡ c.args.finds.now.need) (sym is)
    (All-get_or (λ (x : ClassFindsValue). x.need ≡ c.args.finds.now.need) items c.loop-class.class-index it c.loop-class-test.true c.classes-class-items.ensures.need) in
    subst AreEnds (sym same) c.requires.ends
