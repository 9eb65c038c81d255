use Rattle.metric_path.specs.Path.{nodes_of}
use Rattle.metric_path.proofs.PathLemmas.{nodes_of_legal}
use Rattle.path_glob.proofs.CoverLemmas.{first_fits, first_fits_not, last_fits_where, several_at_one, short_parts}
use Rattle.path_glob.proofs.cover.text_fits.Goals as goal

pub loop-cut-init : goal.loop-cut-init
loop-cut-init c = record {
  same = (λ fits. fits, λ fits. fits);
  short = (nodes_of_legal c.args.path.now c.requires).0;
}

pub node_fits-requires : goal.node_fits-requires
node_fits-requires c = (short_parts (nodes_of c.loop-cut.nodes.now) c.in-Some-cut_at.node_cut.before.now _ c.loop-cut.invariant.short c.in-Some-cut_at.ensures.parts.0).0

pub loop-cut-preserved : goal.loop-cut-preserved
loop-cut-preserved c =
    let cut = c.in-Some.cut in
    let node_cut = c.in-Some-cut_at.node_cut in
    let parts = c.in-Some.ensures.parts.0 in
    let node_parts = c.in-Some-cut_at.ensures.parts.0 in
    record {
      same = first_fits c.loop-cut.globs.now cut.before.now cut.after.now c.loop-cut.nodes.now node_cut.before.now node_cut.after.now parts node_parts c.if-not-node_fits.ensures c.loop-cut.invariant.same;
      short = (short_parts (nodes_of c.loop-cut.nodes.now) node_cut.before.now (nodes_of node_cut.after.now) c.loop-cut.invariant.short node_parts).1;
    }

pub returns-in_default-cut_at : goal.returns-in_default-cut_at
returns-in_default-cut_at c =
    several_at_one c.loop-cut.globs.now c.in-Some.cut.before.now c.in-Some.cut.after.now c.loop-cut.nodes.now c.in-Some.ensures.parts.0 c.in_default-cut_at.ensures.parts c.loop-cut.invariant.same

pub returns-then-not-node_fits : goal.returns-then-not-node_fits
returns-then-not-node_fits c =
    let cut = c.in-Some.cut in
    let node_cut = c.in-Some-cut_at.node_cut in
    first_fits_not c.loop-cut.globs.now cut.before.now cut.after.now c.loop-cut.nodes.now node_cut.before.now node_cut.after.now c.in-Some.ensures.parts.0 c.in-Some-cut_at.ensures.parts.0 c.if-not-node_fits.ensures c.loop-cut.invariant.same

pub returns : goal.returns
returns c = last_fits_where c.loop-cut.globs.now c.loop-cut.nodes.now c.last_fits.result c.in_default.ensures.parts c.last_fits.ensures c.loop-cut.invariant.same
