use Rattle.std.proofs.Common.{◌≡◌, ◌∙◌, ◌+◌, ◌/◌, ℕ, List, ap, subst, sym, arith, length}
use Rattle.path_glob.specs.Tables.{AreEmpty, AreSteps}
use Rattle.path_glob.proofs.WordLemmas.{written_back}
use Rattle.path_glob.proofs.tables.steps_of.Goals as goal

pub enter_states-requires : goal.enter_states-requires
enter_states-requires c =
    subst (λ (l : List (List ℕ)). AreEmpty l (length c.args.states.now / 64 + 1) 256) (sym c.as_mut_slice.ensures.value) c.in_ok-over.ensures

pub returns : goal.returns
returns c =
    let sets = c.in_ok-over.over in
    let new = c.enter_states.new.over in
    let size : length sets.items ≡ sets.len = ap length (sym c.as_mut_slice.ensures.value) ∙ c.as_mut_slice.ensures.len in
    let kept : length new ≡ sets.len = omega (arith, size, c.enter_states.auto.over, ap length c.as_mut_slice.ensures.value) in
    subst (AreSteps c.args.states.now) (sym (written_back sets.len new sets.items kept size)) c.enter_states.ensures
