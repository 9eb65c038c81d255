use Rattle.std.proofs.Common.{◌≡◌, length}
use Rattle.metric_index.specs.Verdicts.{AreVerdicts}
use Rattle.metric_index.proofs.verdicts.fits_of.Given as goal

abbrev pub invariant-loop-path : goal.invariant-loop-path
invariant-loop-path l = record {
  same : l.search ≡ l.fn.search;
  have : AreVerdicts l.fn.search l.paths l.fits.items;
  count : length l.fits.items ≡ l.path-index;
}
