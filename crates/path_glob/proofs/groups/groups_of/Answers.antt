use Rattle.std.proofs.Common.{◌≡◌, ◌∙◌, ◌∷◌, ◌++◌, [], List, ap, sym, subst, append-nil}
use Rattle.path_glob.specs.Glob.{Simple}
use Rattle.path_glob.specs.Groups.{AreGroups, all_rows}
use Rattle.path_glob.specs.Reading.{pieces_of, row_of, values_of}
use Rattle.path_glob.specs.declared.groups.Group.{Group}
use Rattle.path_glob.proofs.GroupLemmas.{last_row, row_and_braces, rows_onto}
use Rattle.path_glob.proofs.groups.groups_of.Goals as goal

pub loop-parts-preserved : goal.loop-parts-preserved
loop-parts-preserved c = λ tail are.
    let parts = c.in-Some.parts in
    let row = row_of parts.before.now in
    let values = values_of parts.inner.now in
    let old = c.loop-parts.groups.items in
    let one = c.in_ok-new.field-0 in
    let two = c.in_ok-new-2.field-0 in
    let whole = c.loop-parts.invariant ((row ∷ []) ∷ values ∷ tail)
    (subst (AreGroups ((row ∷ []) ∷ values ∷ tail)) (sym c.in-Some.ensures.0) (row_and_braces row values tail (pieces_of parts.after.now) are)) in
    let first : all_rows (old ++ one ∷ []) ++ values ∷ tail ≡ all_rows old ++ (row ∷ []) ∷ values ∷ tail = rows_onto old one (row ∷ []) (values ∷ tail) c.in_ok-new.ensures in
    let second = rows_onto (old ++ one ∷ []) two values tail c.in_ok-new-2.ensures in
    let is : c.push-in-Some.new.self.items ≡ (old ++ one ∷ []) ++ two ∷ [] = c.in_ok-push-2.ensures.items ∙ ap (λ (l : List Group). l ++ two ∷ []) c.in_ok-push.ensures.items in
    subst (λ (l : List (List (List Simple))). AreGroups l (pieces_of c.args.pieces.now)) (sym (ap (λ (l : List Group). all_rows l ++ tail) is ∙ second ∙ first)) whole

pub returns : goal.returns
returns c =
    let old = c.loop-parts.groups.items in
    let one = c.in_ok-new-3.field-0 in
    let row = row_of c.loop-parts.rest.now in
    let whole = c.loop-parts.invariant ((row ∷ []) ∷ []) (subst (AreGroups ((row ∷ []) ∷ [])) (sym c.in_default.ensures) (last_row row)) in
    let all : all_rows c.push-2.new.self.items ≡ all_rows old ++ (row ∷ []) ∷ [] =
    ap all_rows c.in_ok-push-3.ensures.items ∙ sym (append-nil (all_rows (old ++ one ∷ []))) ∙ rows_onto old one (row ∷ []) [] c.in_ok-new-3.ensures in
    subst (λ (l : List (List (List Simple))). AreGroups l (pieces_of c.args.pieces.now)) (sym all) whole
