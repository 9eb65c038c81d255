use Rattle.std.proofs.Common.{rules, ◌≡◌, ℕ, ◌∙◌, sym, ap, subst, List, ◌∷◌, ◌++◌, [], Some, length, arith}
use Rattle.std.specs.Prelude.{slice_get}
use Rattle.atomic_table.specs.Seated.{TableId}
use Rattle.shared_history.specs.Parts.{OrderValue, TailValue, PassValue, IsNewTail, IsNewPass}
use Rattle.shared_history.proofs.ListLemmas.{pushed}
use Rattle.shared_history.proofs.making.make.Goals as goal

-- a new tail more, of a table that two names have
more_tails : (z z' : TableId) (n : ℕ) (xs ys : List TailValue) (x : TailValue) → z' ≡ z → length xs ≡ n → ys ≡ xs ++ x ∷ [] → ((k : ℕ) (t : TailValue) → slice_get xs k ≡ Some t → IsNewTail z k t) → IsNewTail z n x
    → (k : ℕ) (t : TailValue) → slice_get ys k ≡ Some t → IsNewTail z' k t
more_tails z z' n xs ys x same count is all new k t e =
    pushed (IsNewTail z') xs x (λ m u h. subst (λ (w : TableId). IsNewTail w m u) (sym same) (all m u h))
    (subst (λ (m : ℕ). IsNewTail z' m x) (sym count) (subst (λ (w : TableId). IsNewTail w n x) (sym same) new)) k t (ap (λ (l : List TailValue). slice_get l k) (sym is) ∙ e)

more_passes : (z z' : TableId) (n : ℕ) (xs ys : List PassValue) (x : PassValue) → z' ≡ z → length xs ≡ n → ys ≡ xs ++ x ∷ [] → ((k : ℕ) (t : PassValue) → slice_get xs k ≡ Some t → IsNewPass z k t) → IsNewPass z n x
    → (k : ℕ) (t : PassValue) → slice_get ys k ≡ Some t → IsNewPass z' k t
more_passes z z' n xs ys x same count is all new k t e =
    pushed (IsNewPass z') xs x (λ m u h. subst (λ (w : TableId). IsNewPass w m u) (sym same) (all m u h))
    (subst (λ (m : ℕ). IsNewPass z' m x) (sym count) (subst (λ (w : TableId). IsNewPass w n x) (sym same) new)) k t (ap (λ (l : List PassValue). slice_get l k) (sym is) ∙ e)

pub loop-k-preserved : goal.loop-k-preserved
loop-k-preserved c =
    let same = ap (λ (x : OrderValue). x.table) c.in_ok-add_tail.ensures.order in
    let v = c.loop-k.invariant in
    let count : length c.loop-k.tails.items ≡ c.loop-k.order.classes = omega (arith, c.loop-k.tails.ok.0, v.count, v.classes) in
    record {
      words = search rules;
      list = search rules;
      passes = search rules;
      classes = search rules;
      count = search rules;
      tails = more_tails c.loop-k.order.table c.add_tail.new.order.table c.loop-k.order.classes c.loop-k.tails.items c.push.new.self.items c.in_ok-add_tail.field-0 same count c.in_ok-push.ensures.items v.tails c.in_ok-add_tail.ensures.ok;
    }

pub loop-n-preserved : goal.loop-n-preserved
loop-n-preserved c =
    let same = ap (λ (x : OrderValue). x.table) c.in_ok-add_pass.ensures.order in
    let v = c.loop-n.invariant in
    let count : length c.loop-n.members.items ≡ c.loop-n.order.passes = omega (arith, c.loop-n.members.ok.0, v.count, v.passes) in
    record {
      list = search rules;
      classes = search rules;
      passes = search rules;
      tail_count = search rules;
      tails = λ k t e. subst (λ (w : TableId). IsNewTail w k t) (sym same) (v.tails k t e);
      count = search rules;
      members = more_passes c.loop-n.order.table c.add_pass.new.order.table c.loop-n.order.passes c.loop-n.members.items c.push-in-loop-n.new.self.items c.in_ok-add_pass.field-0 same count c.in_ok-push-2.ensures.items v.members c.in_ok-add_pass.ensures.ok;
    }
