use Rattle.std.proofs.Common.{ℕ, ◌++◌, ◌∷◌, [], List, ap, map, subst, sym, take, ◌∙◌}
use Rattle.std.specs.List.Sorted.{IsPermutation}
use Rattle.std.proofs.lemmas.Cmp.{nat_list_cmp_total}
use Rattle.std.proofs.lemmas.List.{take_more}
use Rattle.std.proofs.lemmas.List.Filters.{dedup_is}
use Rattle.path_glob.specs.Faults.{Said}
use Rattle.find_api.specs.Nodes.{Expands}
use Rattle.find_api.specs.declared.node.Node.{Node}
use Rattle.find_api.proofs.OrderLemmas.{expands_more, expands_none, once_from, once_in_order, once_kept, path_equiv, path_exact, path_ties}
use Rattle.find_api.proofs.find.expand_paths.Goals as goal

pub loop-glob-init : goal.loop-glob-init
loop-glob-init c = subst (λ (l : List (List ℕ)). Expands [] c.args.names.now l) (sym c.new-paths.ensures.items) (expands_none c.args.names.now)

pub loop-glob-preserved : goal.loop-glob-preserved
loop-glob-preserved c =
    let names = c.args.names.now in
    let globs = take c.loop-glob.glob-index c.args.globs.now in
    let old = c.loop-glob.paths.items in
    let nodes = c.in_ok-nodes.nodes.items in
    let all = old ++ map (λ (node : Node). node.path) nodes in
    let sorted = c.sort.new.self.items in
    let paths = c.dedup.new.self.items in
    let moved = subst (λ (l : List (List ℕ)). IsPermutation l sorted) c.in_ok-push_paths.ensures c.in_ok-sort.ensures.permutation in
    let in_order = c.in_ok-sort.ensures.sorted in
    let once = dedup_is _ _ _ c.dedup.ensures.filtered in
    subst (λ (l : List Said). Expands l names paths)
    (sym (take_more c.args.globs.now c.loop-glob.glob-index c.glob-item.result c.loop-glob-test.true ∙ ap (λ (g : Said). globs ++ g ∷ []) (sym c.glob-item.is)))
    (expands_more globs c.glob-item.result names old nodes paths c.loop-glob.invariant c.in_ok-nodes.ensures
    (once_in_order nat_list_cmp_total path_equiv path_ties path_exact all sorted paths moved in_order once)
    (once_kept nat_list_cmp_total path_equiv path_ties path_exact all sorted paths moved in_order once)
    (once_from nat_list_cmp_total path_equiv path_ties path_exact all sorted paths moved in_order once))
