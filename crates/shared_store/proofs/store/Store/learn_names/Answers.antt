use Rattle.std.proofs.Common.{◌≡◌, ◌≢◌, ◌∙◌, ℕ, Global, Vec, List, [], ◌∷◌, ◌++◌, length, sym, ap, subst, arith, length-append}
use Rattle.std.specs.Prelude.{All}
use Rattle.std.proofs.lemmas.List.{length-map, map_push}
use Rattle.std.proofs.lemmas.List.Elements.{All-push}
use Rattle.shared_history.specs.Views.{look_at}
use Rattle.shared_store.specs.Known.{AreKnownAfter, IsInOrder, KnowsBy, lists_of}
use Rattle.shared_store.proofs.AskPassLemmas.{only_both}
use Rattle.shared_store.proofs.KnownLemmas.{knows_more}
use Rattle.shared_store.proofs.store.Store.learn_names.Goals as goal

pub returns-in_err-names_in-clause-only : goal.returns-in_err-names_in-clause-only
returns-in_err-names_in-clause-only g c = only_both c.args.pass.now c.loop-class.pass c.names_in.new.pass c.loop-class.invariant.only c.names_in.ensures.alone.only

pub returns-in_err-push-clause-only : goal.returns-in_err-push-clause-only
returns-in_err-push-clause-only g c = only_both c.args.pass.now c.loop-class.pass c.names_in.new.pass c.loop-class.invariant.only c.names_in.ensures.alone.only

pub loop-class-preserved : goal.loop-class-preserved
loop-class-preserved g c =
    let start = g.N.Named.start in
    let v = c.loop-class.invariant in
    let old = c.loop-class.pass in
    let new = c.names_in.new.pass in
    let class : ℕ = c.loop-class.class in
    let before : List (Vec (List ℕ) Global) = c.loop-class.names.items in
    let more : Vec (List ℕ) Global = c.in_ok-names_in.field-0 in
    let items : c.push.new.self.items ≡ before ++ more ∷ [] = c.in_ok-push.ensures.items in
    let count : length (lists_of before) ≡ class = length-map before (λ (list : Vec (List ℕ) Global). list.items) ∙ v.count in
    let others : (k : ℕ) → k ≢ length (lists_of before) → look_at k new.looks ≡ look_at k old.looks =
    λ k apart. c.names_in.ensures.alone.others k (λ e. apart (e ∙ sym count)) in
    let one : AreKnownAfter start (length (lists_of before)) (look_at (length (lists_of before)) new.looks).list more.items =
    subst (λ (n : ℕ). AreKnownAfter start n (look_at n new.looks).list more.items) (sym count) c.in_ok-names_in.ensures.names.known in
    record {
      count = omega (arith, ap length items, length-append before (more ∷ []), v.count);
      known = subst (λ (l : List (Vec (List ℕ) Global)). KnowsBy start new.looks (lists_of l)) (sym items)
          (subst (KnowsBy start new.looks) (sym (map_push (λ (list : Vec (List ℕ) Global). list.items) before more))
          (knows_more start old.looks new.looks (lists_of before) more.items others v.known one));
      order = subst (All (λ (list : Vec (List ℕ) Global). IsInOrder list.items)) (sym items)
          (All-push (λ (list : Vec (List ℕ) Global). IsInOrder list.items) before more v.order c.in_ok-names_in.ensures.names.order);
      only = only_both c.args.pass.now old new v.only c.names_in.ensures.alone.only;
    }
