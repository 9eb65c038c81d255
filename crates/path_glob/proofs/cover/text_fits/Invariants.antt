use Rattle.std.proofs.Common.{◌≡◌, ◌↔◌, true, leb, length}
use Rattle.std.specs.List.{list_all}
use Rattle.metric_path.specs.Path.{nodes_of}
use Rattle.path_glob.specs.Glob.{Fits}
use Rattle.path_glob.specs.Reading.{globs_of}
use Rattle.path_glob.proofs.cover.text_fits.Given as goal

abbrev pub invariant-loop-cut : goal.invariant-loop-cut
invariant-loop-cut l = record {
  same : Fits (globs_of l.globs) (nodes_of l.nodes) ↔ Fits (globs_of l.glob) (nodes_of l.path);
  short : list_all (λ node. leb (length node) 240) (nodes_of l.nodes) ≡ true;
}

abbrev pub decreases-loop-cut : goal.decreases-loop-cut
decreases-loop-cut l = length l.globs
