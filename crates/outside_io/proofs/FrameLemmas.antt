-- Frames of calls in a row.
use Rattle.std.proofs.Common.{inl, ℕ, ◌≤◌, refl, ◌∙◌, arith}
use Rattle.outside_io.specs.Crash.{LeavesOnly, SameCrashes}
use Rattle.outside_io.specs.Faults.{Rose}
use Rattle.outside_io.specs.Frames.{ReadsOnly, CountsFaults, CountsReads, CountsWrites}
use Rattle.outside_io.specs.Image.{Image}
use Rattle.outside_io.specs.declared.disk.Disk.{Ghosts as DiskGhosts}
use Rattle.outside_io.specs.declared.source.Source.{Ghosts as SourceGhosts}
use Rattle.outside_io.specs.declared.sink.Sink.{Ghosts as SinkGhosts}

-- a count that rose later rose from before that too
pub rose_after : (a b c : ℕ) → a ≤ b → Rose b c → Rose a c
rose_after a b c later rose = omega (arith, later, rose)

-- nothing was called
pub reads_only_none : {D : Type 0} {d : DiskGhosts D} (disk : D) → ReadsOnly d disk disk ⊥
reads_only_none disk = record { kept = refl; changes = refl; later = omega arith; cause = λ failed. absurd failed }

-- two calls, of which the first did not fail
pub reads_only_more : {D : Type 0} {d : DiskGhosts D} (a b c : D) {first second : Type 0} → ReadsOnly d a b first → ReadsOnly d b c second → ReadsOnly d a c second
reads_only_more a b c p q = record {
  kept = q.kept ∙ p.kept;
  changes = q.changes ∙ p.changes;
  later = omega (arith, p.later, q.later);
  cause = λ failed. rose_after _ _ _ p.later (q.cause failed);
}

-- a call whose failure is told in other words
pub reads_only_told : {D : Type 0} {d : DiskGhosts D} (a b : D) {failed told : Type 0} → ReadsOnly d a b failed → (told → failed) → ReadsOnly d a b told
reads_only_told a b p same = record { kept = p.kept; changes = p.changes; later = p.later; cause = λ told. p.cause (same told) }

-- a call that only reads is nothing to a crash
pub reads_only_crashes : {D : Type 0} {d : DiskGhosts D} (a b : D) {failed : Type 0} → ReadsOnly d a b failed → SameCrashes (d.moment a) (d.moment b) (d.may_leave a) (d.may_leave b) (d.left_since a) (d.left_since b)
reads_only_crashes {D} {d} a b p = d.same_changes a b p.kept p.changes

-- at each moment of it a crash leaves what it might have left
pub reads_only_leaves : {D : Type 0} (d : DiskGhosts D) (a b : D) (P : Image → Type 0) {failed : Type 0} → ReadsOnly d a b failed → ((left : Image) → d.may_leave a left → P left) → LeavesOnly d.moment d.left_since a b P
reads_only_leaves d a b P reads here =
    let same = d.same_changes a b reads.kept reads.changes in record {
      later = omega (arith, same.moment);
      each = λ left since. here left (d.only_now a left (same.since (d.moment a) left since));
      before = λ t left le since. inl (same.since t left since);
    }

-- a call that only reads, among calls that write
pub counts_reading : {D : Type 0} {d : DiskGhosts D} (a b : D) {failed : Type 0} → ReadsOnly d a b failed → CountsFaults d a b failed
counts_reading a b p = record { later = p.later; cause = p.cause }

pub counts_faults_none : {D : Type 0} {d : DiskGhosts D} (disk : D) → CountsFaults d disk disk ⊥
counts_faults_none disk = record { later = omega arith; cause = λ failed. absurd failed }

pub counts_faults_more : {D : Type 0} {d : DiskGhosts D} (a b c : D) {first second : Type 0} → CountsFaults d a b first → CountsFaults d b c second
    → CountsFaults d a c second
counts_faults_more a b c p q =
    record { later = omega (arith, p.later, q.later); cause = λ failed. rose_after _ _ _ p.later (q.cause failed) }

pub counts_reads_none : {S : Type 0} {s : SourceGhosts S} (source : S) → CountsReads s source source ⊥
counts_reads_none source = record { later = omega arith; cause = λ failed. absurd failed }

pub counts_reads_more : {S : Type 0} {s : SourceGhosts S} (a b c : S) {first second : Type 0} → CountsReads s a b first → CountsReads s b c second
    → CountsReads s a c second
counts_reads_more a b c p q =
    record { later = omega (arith, p.later, q.later); cause = λ failed. rose_after _ _ _ p.later (q.cause failed) }

pub counts_writes_none : {K : Type 0} {k : SinkGhosts K} (sink : K) → CountsWrites k sink sink ⊥
counts_writes_none sink = record { later = omega arith; cause = λ failed. absurd failed }

pub counts_writes_more : {K : Type 0} {k : SinkGhosts K} (a b c : K) {first second : Type 0} → CountsWrites k a b first → CountsWrites k b c second
    → CountsWrites k a c second
counts_writes_more a b c p q =
    record { later = omega (arith, p.later, q.later); cause = λ failed. rose_after _ _ _ p.later (q.cause failed) }
