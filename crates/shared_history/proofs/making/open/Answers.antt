use Rattle.std.proofs.Common.{◌≡◌, ℕ, ◌+◌, ◌∙◌, sym, subst, List, [], replicate}
use Rattle.atomic_table.specs.Table.{opening}
use Rattle.carbon_history.specs.declared.entry.Entry.{Entry}
use Rattle.shared_history.specs.Views.{founder}
use Rattle.shared_history.specs.Rule.{Kept}
use Rattle.shared_history.proofs.StartLemmas.{opens}
use Rattle.shared_history.proofs.making.open.Goals as goal

pub of_words-requires : goal.of_words-requires
of_words-requires c =
    let all : c.as_slice.result.now ≡ replicate (c.args.classes + 1) 0 = c.as_slice.ensures.value ∙ c.in_ok-words.ensures.items_if_clones_equal (λ y e. e) in
    subst (λ (ws : List ℕ). Kept (opening {S = Entry} ws [] founder)) (sym all) (opens c.args.classes)
