use Rattle.std.proofs.Common.{◌≡◌, ◌↔◌, IsTrue, ℕ, List, Option, subst, sym, ◌∙◌}
use Rattle.metric_path.specs.Path.{nodes_of}
use Rattle.path_glob.specs.Faults.{Said}
use Rattle.path_glob.specs.Glob.{Fits}
use Rattle.find_api.specs.Runs.{TellsAt}
use Rattle.find_api.specs.declared.node.Node.{Node}
use Rattle.find_api.proofs.FindLemmas.{Walks, empty, run_rising, walk_ends, walk_finds, walk_passes, walk_skips, walk_starts}
use Rattle.find_api.proofs.find.push_nodes.Goals as goal

pub loop-name-init : goal.loop-name-init
loop-name-init c =
    let front = c.literal_front.result.now in
    let run = c.run_of-rest.result.now in
    record {
      walks = walk_starts c.args.glob.now c.args.names.now c.args.nodes.now.items front run c.literal_front.ensures.fits (run_rising front c.args.names.now run c.requires c.run_of-rest.ensures) c.run_of-rest.ensures;
      same = c.in_ok-search.ensures;
    }

pub loop-name-preserved-in-Continue-branch-5 : goal.loop-name-preserved-in-Continue-branch-5
loop-name-preserved-in-Continue-branch-5 c =
    let glob = c.args.glob.now in
    let names = c.args.names.now in
    let old = c.args.nodes.now.items in
    let name = c.in-Some.name.now in
    let others = c.in-Some.others.now in
    let nodes = c.loop-name.nodes.items in
    let walks = subst (λ (l : List (List ℕ)). Walks glob names old l nodes) c.in-Some.ensures.cases.0 c.loop-name.invariant.walks in
    let told = subst (λ (o : Option Node). TellsAt c.node_count-count.result name o) c.in-Some-2.is c.in_ok-node.ensures in
    let fits : IsTrue c.in_ok-fits.fits ↔ Fits glob.nodes (nodes_of c.in-Some-2.node.path) = subst (λ (g : Said). IsTrue c.in_ok-fits.fits ↔ Fits g.nodes (nodes_of c.in-Some-2.node.path)) c.loop-name.invariant.same c.in_ok-fits.ensures.fits in
    record {
      walks = subst (λ (l : List Node). Walks glob names old c.behind_node-rest.result.now l) (sym c.in_ok-push.ensures.items)
          (walk_finds glob names old name others nodes walks c.node_count-count.result c.in-Some-2.node c.behind_node-rest.result.now c.node_count-count.ensures.value told c.behind_node-rest.ensures (fits.0 c.if-fits.true));
      same = c.in_ok-fits.ensures.same ∙ c.loop-name.invariant.same;
    }

pub loop-name-preserved-else-fits : goal.loop-name-preserved-else-fits
loop-name-preserved-else-fits c =
    let glob = c.args.glob.now in
    let names = c.args.names.now in
    let old = c.args.nodes.now.items in
    let name = c.in-Some.name.now in
    let others = c.in-Some.others.now in
    let nodes = c.loop-name.nodes.items in
    let walks = subst (λ (l : List (List ℕ)). Walks glob names old l nodes) c.in-Some.ensures.cases.0 c.loop-name.invariant.walks in
    let told = subst (λ (o : Option Node). TellsAt c.node_count-count.result name o) c.in-Some-2.is c.in_ok-node.ensures in
    let fits : IsTrue c.in_ok-fits.fits ↔ Fits glob.nodes (nodes_of c.in-Some-2.node.path) = subst (λ (g : Said). IsTrue c.in_ok-fits.fits ↔ Fits g.nodes (nodes_of c.in-Some-2.node.path)) c.loop-name.invariant.same c.in_ok-fits.ensures.fits in
    record {
      walks = walk_skips glob names old name others nodes walks c.node_count-count.result c.in-Some-2.node c.behind_node-rest.result.now c.node_count-count.ensures.value told c.behind_node-rest.ensures
          (λ fit. absurd (let e = sym c.if-fits.false ∙ fits.1 fit in cc));
      same = c.in_ok-fits.ensures.same ∙ c.loop-name.invariant.same;
    }

pub loop-name-preserved : goal.loop-name-preserved
loop-name-preserved c =
    let glob = c.args.glob.now in
    let names = c.args.names.now in
    let old = c.args.nodes.now.items in
    let name = c.in-Some.name.now in
    let nodes = c.loop-name.nodes.items in
    let walks = subst (λ (l : List (List ℕ)). Walks glob names old l nodes) c.in-Some.ensures.cases.0 c.loop-name.invariant.walks in
    record {
      walks = walk_passes glob names old name c.in-Some.others.now nodes walks c.node_count-count.result c.node_count-count.ensures.value
          (subst (λ (o : Option Node). TellsAt c.node_count-count.result name o) c.in_default-2.is c.in_ok-node.ensures);
      same = c.loop-name.invariant.same;
    }

pub returns : goal.returns
returns c =
    walk_ends c.args.glob.now c.args.names.now c.args.nodes.now.items c.loop-name.rest.now c.loop-name.nodes.items (empty c.loop-name.rest.now c.in_default.ensures.cases) c.loop-name.invariant.walks
