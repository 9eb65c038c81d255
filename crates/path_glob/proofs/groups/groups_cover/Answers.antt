use Rattle.std.proofs.Common.{◌≡◌, ◌<◌, ◌+◌, ◌∷◌, ◌∙◌, [], List, ap, sym, arith, drop, get_or, length, refl, set}
use Rattle.std.proofs.Math.ListN.{drop_of_length-le}
use Rattle.std.proofs.lemmas.List.{drop_more, set-get_or}
use Rattle.path_glob.specs.Positions.{held}
use Rattle.path_glob.specs.declared.groups.Group.{Group}
use Rattle.path_glob.proofs.GroupLemmas.{all_cover, leads_on_by, none_covers}
use Rattle.path_glob.proofs.groups.groups_cover.Goals as goal

pub loop-i-init : goal.loop-i-init
loop-i-init c = record { same = refl; leads = λ new leads. leads }

pub loop-i-preserved : goal.loop-i-preserved
loop-i-preserved c =
    let i = c.loop-i.i in
    let groups = c.args.groups.now in
    let at = c.index-groups-i.result in
    let group = get_or c.loop-i.groups i at in
    let room : i < length groups = omega (arith, ap length c.loop-i.invariant.same) in
    let left : drop i groups ≡ group ∷ drop (i + 1) groups = drop_more groups i at room ∙ ap (λ (l : List Group). get_or l i at ∷ drop (i + 1) groups) (sym c.loop-i.invariant.same) in
    record {
      same = ap (λ (g : Group). set c.loop-i.groups i g) c.after-reached.ensures.same ∙ set-get_or c.loop-i.groups i at ∙ c.loop-i.invariant.same;
      leads = leads_on_by (drop i groups) groups (drop (i + 1) groups) group c.args.node.now (held c.start-reached.result) (held c.loop-i.reached) (held c.after-reached.result) left
          c.loop-i.invariant.leads c.after-reached.ensures.leads;
    }

pub returns-then-is_none-clause-covers : goal.returns-then-is_none-clause-covers
returns-then-is_none-clause-covers c =
    let i = c.loop-i.i in
    let groups = c.args.groups.now in
    let at = c.index-groups-i.result in
    let group = get_or c.loop-i.groups i at in
    let start = held c.start-reached.result in
    let none = held c.after-reached.result in
    let room : i < length groups = omega (arith, ap length c.loop-i.invariant.same) in
    let left : drop i groups ≡ group ∷ drop (i + 1) groups = drop_more groups i at room ∙ ap (λ (l : List Group). get_or l i at ∷ drop (i + 1) groups) (sym c.loop-i.invariant.same) in
    none_covers (drop (i + 1) groups) groups c.args.node.now start none c.start-reached.ensures.first c.start-reached.ensures.other
    (leads_on_by (drop i groups) groups (drop (i + 1) groups) group c.args.node.now start (held c.loop-i.reached) none left c.loop-i.invariant.leads c.after-reached.ensures.leads)
    (λ j within. c.is_none.ensures c.if-is_none.true j (omega (arith, within, c.requires)))

pub returns-clause-covers : goal.returns-clause-covers
returns-clause-covers c =
    let groups = c.args.groups.now in
    let i = c.loop-i.i in
    let none : drop i groups ≡ [] = drop_of_length-le groups (omega (arith, ap length c.loop-i.invariant.same)) in
    let all = all_cover (drop i groups) groups c.args.node.now (held c.start-reached.result) (held c.loop-i.reached) none c.start-reached.ensures.first c.start-reached.ensures.other c.loop-i.invariant.leads in
    let end = ap (held c.loop-i.reached) c.len.ensures in
    (λ yes. all.0 (sym (c.has.ensures ∙ end) ∙ yes), λ covered. c.has.ensures ∙ end ∙ all.1 covered)
