use Rattle.std.proofs.Common.{sym, subst}
use Rattle.std.proofs.lemmas.List.{take_rest}
use Rattle.path_glob.specs.Fronts.{IsBehindRun}
use Rattle.path_glob.proofs.FrontLemmas.{behind_from_parts}
use Rattle.path_glob.proofs.run.behind_run.Goals as goal

pub returns : goal.returns
returns c =
    let names = c.args.names.now in
    let k = c.count_run.result in
    subst (IsBehindRun c.args.front.now names) (sym (take_rest names k)) (behind_from_parts c.args.front.now names k c.count_run.ensures.run)
