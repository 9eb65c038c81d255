use Rattle.std.proofs.Common.{◌≡◌, ◌++◌, drop, cond, map}
use Rattle.json.specs.Print.{quoted}
use Rattle.find_api.specs.Texts.{further, joined}
use Rattle.find_api.proofs.text.push_paths.Given as goal

abbrev pub invariant-loop-path : goal.invariant-loop-path
invariant-loop-path l =
    l.out.items ++ cond l.is_first (joined (map quoted (drop l.path-index l.paths))) (further (map quoted (drop l.path-index l.paths)))
    ≡ l.fn.out.items ++ joined (map quoted l.paths)
