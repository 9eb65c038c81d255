use Rattle.std.proofs.Common.{◌∙◌, ℕ, Global, Vec, List, ◌++◌, sym, ap}
use Rattle.std.proofs.lemmas.List.{map_push}
use Rattle.shared_store.specs.Known.{lists_of}
use Rattle.shared_store.specs.Naming.{joined}
use Rattle.shared_store.proofs.NameLemmas.{joined_push}
use Rattle.shared_store.proofs.naming.join.Goals as goal

pub loop-list-preserved : goal.loop-list-preserved
loop-list-preserved c =
    let before : List (Vec (List ℕ) Global) = c.loop-list.yielded in
    let more : Vec (List ℕ) Global = c.in-Some.list in
    c.in_ok-append.ensures.items ∙ ap (λ (l : List (List ℕ)). l ++ more.items) c.loop-list.invariant
    ∙ sym (ap joined (map_push (λ (l : Vec (List ℕ) Global). l.items) before more) ∙ joined_push (lists_of before) more.items)
