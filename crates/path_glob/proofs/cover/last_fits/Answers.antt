use Rattle.path_glob.specs.Reading.{pieces_of}
use Rattle.metric_path.specs.Path.{nodes_of}
use Rattle.path_glob.proofs.CoverLemmas.{last_of_many, last_of_one, short_parts}
use Rattle.path_glob.proofs.cover.last_fits.Goals as goal

pub node_fits-requires : goal.node_fits-requires
node_fits-requires c = (short_parts (nodes_of c.args.nodes.now) c.args.nodes.now _ c.requires c.in-None.ensures.parts).0

pub returns-in-Some : goal.returns-in-Some
returns-in-Some c =
    last_of_many (pieces_of c.args.pieces.now) c.args.nodes.now c.in-Some.field-0.before.now c.in-Some.field-0.after.now c.in-Some.ensures.parts.0

pub returns-in-None : goal.returns-in-None
returns-in-None c = last_of_one (pieces_of c.args.pieces.now) c.args.nodes.now c.args.nodes.now c.node_fits.result c.in-None.ensures.parts c.node_fits.ensures
