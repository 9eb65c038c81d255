use Rattle.std.proofs.Common.{◌≡◌, ◌∷◌, ◌++◌, List, ap, map, refl, sym, subst}
use Rattle.path_glob.specs.Glob.{Simple}
use Rattle.path_glob.specs.Reading.{row_of, values_of}
use Rattle.path_glob.specs.States.{AreRows}
use Rattle.path_glob.proofs.StateLemmas.{states_onto}
use Rattle.path_glob.proofs.states.states_of_values.Goals as goal

pub loop-cut-preserved : goal.loop-cut-preserved
loop-cut-preserved c = λ tail are.
    let added = c.in_ok-push_row.ensures in
    let parts : values_of c.loop-cut.rest.now ≡ row_of c.in-Some.cut.before.now ∷ values_of c.in-Some.cut.after.now = ap (map row_of) c.in-Some.ensures.parts.0 in
    let rows = subst (λ (rows : List (List Simple)). AreRows rows (added.0 ++ tail)) (sym parts) (added.0, tail, refl, added.2, are) in
    subst (AreRows (values_of c.args.values.now)) (sym (states_onto c.loop-cut.states.items added.0 tail c.push_row.new.states.items added.1)) (c.loop-cut.invariant (added.0 ++ tail) rows)
