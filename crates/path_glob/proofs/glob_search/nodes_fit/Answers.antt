use Rattle.std.proofs.Common.{ap, arith, refl}
use Rattle.std.specs.Option.{option_copied}
use Rattle.metric_path.proofs.PathLemmas.{nodes_of_legal}
use Rattle.path_glob.specs.Search.{nodes_left}
use Rattle.path_glob.proofs.SearchLemmas.{none_left, path_goes_on}
use Rattle.path_glob.proofs.glob_search.nodes_fit.Goals as goal

pub loop-i-init : goal.loop-i-init
loop-i-init c = record {
  same = refl;
  left = (λ fits. fits, λ fits. fits);
  short = (nodes_of_legal c.args.path.now c.requires).0;
  falls = omega arith;
}

pub returns-in_default-clause-fits : goal.returns-in_default-clause-fits
returns-in_default-clause-fits c =
    none_left c.args.nodes.now (nodes_left (option_copied c.loop-i.left)) c.loop-i.i (omega arith) (ap (λ left. nodes_left (option_copied left)) c.in_default.is) c.loop-i.invariant.left

pub returns-in-Some-left-clause-fits : goal.returns-in-Some-left-clause-fits
returns-in-Some-left-clause-fits c =
    path_goes_on c.args.nodes.now (nodes_left (option_copied c.loop-i.left)) c.loop-i.i c.in-Some-left.field-0.now (omega arith) (ap (λ left. nodes_left (option_copied left)) c.in-Some-left.is)
    c.loop-i.invariant.left
