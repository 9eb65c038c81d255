use Rattle.std.proofs.Common.{rules, ◌≡◌, ◌∙◌, ℕ, ◌+◌, ◌<◌, Global, Vec, List, [], ◌++◌, get_or, length, sym, ap, subst, arith}
use Rattle.std.specs.Prelude.{slice_index_or}
use Rattle.std.specs.Sync.Mutex.{mutex_guard_value}
use Rattle.std.proofs.lemmas.List.{map_push}
use Rattle.carbon_history.specs.declared.entry.Entry.{Entry}
use Rattle.carbon_history.specs.Entries.{about_class}
use Rattle.carbon_model.specs.Found.{Finds}
use Rattle.carbon_model.specs.RingFiles.{IsOfClass}
use Rattle.carbon_model.specs.Replay.{replay}
use Rattle.shared_store.specs.Asking.{IsDeskOf}
use Rattle.shared_store.specs.Desks.{DeskValue}
use Rattle.shared_store.specs.Known.{AreInOrder, AreKnownAfter, IsInOrder, lists_of}
use Rattle.shared_store.specs.Naming.{NamesBelow, joined}
use Rattle.shared_store.proofs.NameLemmas.{first_list, joined_push, lists_behind, names_more, names_up, order_behind, order_first}
use Rattle.shared_store.proofs.naming.names_of_each.Goals as goal

pub names_again-requires-clause-known : goal.names_again-requires-clause-known
names_again-requires-clause-known g c =
    let v = c.loop-desk.invariant in
    let start = g.N.Named.start in
    let i : ℕ = c.loop-desk.desk-index in
    let all : List (Vec (List ℕ) Global) = c.args.known.items in
    let lists : List (Vec (List ℕ) Global) = c.loop-desk.known.items in
    let d : DeskValue = c.deref.result.now in
    let some : 0 < length lists = omega (arith, v.left, c.loop-desk-test.true, c.requires.sixteen, c.loop-desk.known.ok.0) in
    let value : d ≡ mutex_guard_value (slice_index_or c.args.desks.now i c.desk-item.result) = search rules in
    let class : d.class ≡ i = ap (λ (x : DeskValue). x.class) value ∙ c.requires.desks i c.desk-item.result c.loop-desk-test.true in
    let at : i ≡ i + 0 = omega arith in
    let here : get_or (lists_of all) i [] ≡ c.remove-here.result.items =
    ap (λ (n : ℕ). get_or (lists_of all) n []) at ∙ sym (v.rest 0) ∙ first_list lists c.remove-here.result some ∙ ap (λ (l : Vec (List ℕ) Global). l.items) (sym c.remove-here.ensures.value) in
    subst (AreKnownAfter start d.class d.list) here
    (subst (λ (n : ℕ). AreKnownAfter start d.class d.list (get_or (lists_of all) n [])) class
    (subst (λ (x : DeskValue). AreKnownAfter start x.class x.list (get_or (lists_of all) x.class [])) (sym value) (c.requires.known.each i c.desk-item.result c.loop-desk-test.true)))

pub names_again-requires-clause-order : goal.names_again-requires-clause-order
names_again-requires-clause-order g c =
    let v = c.loop-desk.invariant in
    let lists : List (Vec (List ℕ) Global) = c.loop-desk.known.items in
    let some : 0 < length lists = omega (arith, v.left, c.loop-desk-test.true, c.requires.sixteen, c.loop-desk.known.ok.0) in
    subst (λ (l : Vec (List ℕ) Global). IsInOrder l.items) (sym c.remove-here.ensures.value) (order_first lists c.remove-here.result some v.order)

pub loop-desk-preserved : goal.loop-desk-preserved
loop-desk-preserved g c =
    let v = c.loop-desk.invariant in
    let start = g.N.Named.start in
    let i : ℕ = c.loop-desk.desk-index in
    let all : List (Vec (List ℕ) Global) = c.args.known.items in
    let lists : List (Vec (List ℕ) Global) = c.loop-desk.known.items in
    let before : List (Vec (List ℕ) Global) = c.loop-desk.names.items in
    let more : Vec (List ℕ) Global = c.in_ok-names_again.field-0 in
    let d : DeskValue = c.deref.result.now in
    let value : d ≡ mutex_guard_value (slice_index_or c.args.desks.now i c.desk-item.result) = search rules in
    let further : joined (lists_of c.push.new.self.items) ≡ joined (lists_of before) ++ more.items =
    ap (λ (l : List (Vec (List ℕ) Global)). joined (lists_of l)) c.in_ok-push.ensures.items ∙ ap joined (map_push (λ (l : Vec (List ℕ) Global). l.items) before more) ∙ joined_push (lists_of before) more.items in
    record {
      left = omega (arith, v.left, c.remove-here.ensures.len);
      rest = λ k.
          let on : i + (k + 1) ≡ (i + 1) + k = omega arith in
          ap (λ (l : List (Vec (List ℕ) Global)). get_or (lists_of l) k []) c.remove-here.ensures.items ∙ lists_behind lists k ∙ v.rest (k + 1) ∙ ap (λ (n : ℕ). get_or (lists_of all) n []) on;
      order = subst AreInOrder (sym c.remove-here.ensures.items) (order_behind lists v.order);
      all = λ list h.
          let desk : IsDeskOf i list d = subst (λ (x : DeskValue). IsDeskOf i list x) (sym value) (h i c.desk-item.result c.loop-desk-test.true) in
          let finds = subst (λ (k : ℕ). Finds (replay start (about_class i list)) (IsOfClass k) more.items) desk.class
          (subst (λ (l : List Entry). Finds (replay start l) (IsOfClass d.class) more.items) desk.list c.in_ok-names_again.ensures) in
          subst (NamesBelow (i + 1) (replay start list)) (sym further) (names_more start list i (joined (lists_of before)) more.items (v.all list h) finds);
    }

pub returns : goal.returns
returns g c = λ list h.
    let all : c.loop-desk.desk-index ≡ 16 = omega (arith, c.loop-desk-test.false, c.loop-desk.auto.desk-index-end, c.requires.sixteen) in
    names_up (replay g.N.Named.start list) (joined (lists_of c.loop-desk.names.items))
    (subst (λ (n : ℕ). NamesBelow n (replay g.N.Named.start list) (joined (lists_of c.loop-desk.names.items))) all (c.loop-desk.invariant.all list h))
