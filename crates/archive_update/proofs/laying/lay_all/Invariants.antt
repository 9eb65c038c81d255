-- The values so far are laid.
use Rattle.std.specs.Prelude.{◌≡◌, [], take}
use Rattle.archive_update.specs.Laid.{IsAlike, Lays}
use Rattle.archive_update.proofs.laying.lay_all.Given as goal

abbrev pub invariant-loop-bucket : goal.invariant-loop-bucket
invariant-loop-bucket l = record {
  lays : Lays l.fn.patch l.patch l.archive l.base l.later (take l.bucket-index l.writes);
  filled : l.patch.cells ≡ [] → l.bucket-index ≡ 0;
  alike : IsAlike l.fn.patch l.patch;
}
