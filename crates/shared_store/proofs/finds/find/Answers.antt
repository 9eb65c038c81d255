use Rattle.std.proofs.Common.{rules, ◌≡◌, ℕ, ◌<◌, List, get_or, length, sym, ap, subst, arith}
use Rattle.std.specs.Prelude.{All, slice_index_or}
use Rattle.std.proofs.lemmas.List.Elements.{All-push}
use Rattle.std.specs.Sync.Mutex.{mutex_guard_value}
use Rattle.shared_store.specs.Asking.{IsDeskOf}
use Rattle.shared_store.specs.Desks.{DeskValue}
use Rattle.render_need.specs.declared.need.Need.{Need}
use Rattle.shared_store.specs.Finds.{AreFindsOf, ClassFindsValue, IsFindOf}
use Rattle.shared_store.specs.Known.{KnowsHere}
use Rattle.shared_store.proofs.FindLemmas.{each_more, finds_all, finds_in}
use Rattle.shared_store.proofs.finds.find.Goals as goal

pub loop-desk-preserved : goal.loop-desk-preserved
loop-desk-preserved g c =
    let i : ℕ = c.loop-desk.desk-index in
    let d : DeskValue = c.deref.result.now in
    let finds : List ClassFindsValue = c.loop-desk.classes.items in
    let more : ClassFindsValue = c.in_ok-find.field-0 in
    let before = c.loop-desk.invariant in
    let value : d ≡ mutex_guard_value (slice_index_or c.args.desks.now i c.desk-item.result) = search rules in
    record {
      count = search (rules, before.count);
      needs = subst (All (λ (x : ClassFindsValue). x.need ≡ c.args.wanted.now.need)) (sym c.in_ok-push.ensures.items)
          (All-push (λ (x : ClassFindsValue). x.need ≡ c.args.wanted.now.need) finds more before.needs (ap (λ (x : ClassFindsValue). x.need) c.in_ok-find.ensures));
      each = λ list h.
          let desk : IsDeskOf i list d = subst (λ (x : DeskValue). IsDeskOf i list x) (sym value) (h i c.desk-item.result c.loop-desk-test.true) in
          let one : IsFindOf (length finds) list c.args.wanted.now.need more = subst (λ (n : ℕ). IsFindOf n list c.args.wanted.now.need more) (sym before.count) (finds_in i list c.args.wanted.now.need d more desk c.in_ok-find.ensures) in
          subst (λ (l : List ClassFindsValue). (k : ℕ) (x : ClassFindsValue) → k < length l → IsFindOf k list c.args.wanted.now.need (get_or l k x)) (sym c.in_ok-push.ensures.items)
          (each_more (λ k x. IsFindOf k list c.args.wanted.now.need x) finds more (before.each list h) one);
    }

pub returns-clause-finds : goal.returns-clause-finds
returns-clause-finds g c = λ list h.
    let before = c.loop-desk.invariant in
    subst (λ (n : Need). AreFindsOf list (record { need = n; classes = c.loop-desk.classes.items })) (sym c.need.ensures)
    (finds_all list c.args.wanted.now.need c.loop-desk.classes.items
    (omega (arith, c.loop-desk-test.false, c.loop-desk.auto.desk-index-end, c.requires.sixteen, before.count)) (before.each list h))

pub find-requires : goal.find-requires
find-requires g c =
    let d : DeskValue = c.deref.result.now in
    let value : d ≡ mutex_guard_value (slice_index_or c.args.desks.now c.loop-desk.desk-index c.desk-item.result) = search rules in record {
      known = subst (λ (x : DeskValue). KnowsHere g.N.Named.start x c.args.wanted.now.names) (sym value)
          (c.requires.known.each c.loop-desk.desk-index c.desk-item.result c.loop-desk-test.true);
    }
