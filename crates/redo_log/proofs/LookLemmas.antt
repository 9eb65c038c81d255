-- Calls that change nothing on a disk.
use Rattle.std.proofs.Common.{◌≡◌, refl}
use Rattle.outside_io.specs.Crash.{Follows}
use Rattle.outside_io.specs.Frames.{ReadsOnly}
use Rattle.outside_io.specs.Image.{SameImage}
use Rattle.outside_io.specs.declared.disk.Disk.{Ghosts as DiskGhosts}
use Rattle.outside_io.proofs.FrameLemmas.{reads_only_crashes, reads_only_leaves}
use Rattle.redo_log.specs.Frame.{GoesOn, LooksOnly, MayStay}
use Rattle.redo_log.proofs.MomentLemmas.{within}

-- one call
pub looks_by : {D : Type 0} {d : DiskGhosts D} (a b : D) {failed : Type 0} → d.image b ≡ d.image a → GoesOn d a b failed → Follows SameImage (d.may_leave a) (d.may_leave b) → LooksOnly d a b failed
looks_by {D} {d} a b kept goes follows = record {
  kept = kept;
  later = goes.later;
  cause = goes.cause;
  follows = follows;
  leaves = within d.moment d.left_since a b (MayStay (d.may_leave a)) (d.may_leave a) (d.may_leave b) (d.only_now a) goes.time (λ left was. (left, was, λ name. refl)) follows;
}

-- a call that only reads
pub looks_call : {D : Type 0} {d : DiskGhosts D} (a b : D) {failed : Type 0} → ReadsOnly d a b failed → LooksOnly d a b failed
looks_call {D} {d} a b reads = record {
  kept = reads.kept;
  later = reads.later;
  cause = reads.cause;
  follows = λ left now. (left, (reads_only_crashes a b reads).leaves left now, λ name. refl);
  leaves = reads_only_leaves d a b (MayStay (d.may_leave a)) reads (λ left was. (left, was, λ name. refl));
}
