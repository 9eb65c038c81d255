-- What the status of a run tells of reads and writes.
use Rattle.std.proofs.Common.{◌≡◌, ◌⊎◌, inl, inr, ◌∙◌, ℕ, ◌≤◌, List, Option, refl, sym, arith}
use Rattle.outside_io.specs.Faults.{Rose}
use Rattle.outside_io.specs.Frames.{CountsReads, CountsWrites}
use Rattle.outside_io.specs.declared.source.Source.{Ghosts as SourceGhosts}
use Rattle.outside_io.specs.declared.sink.Sink.{Ghosts as SinkGhosts}
use Rattle.carbon_script.specs.declared.serve.ScriptEnd.{ScriptEnd}
use Rattle.carbon_script.specs.declared.serve.ScriptEnd.TheVariants as end
use Rattle.carbon_run.specs.Runs.{FailsToTell, TellsEnd}

not_six : (status told : ℕ) → (status ≡ told) ⊎ (status ≡ 7) → status ≡ 6 → (told ≡ 6 → ⊥) → ⊥
not_six status told (inl is) six other = other (sym is ∙ six)
not_six status told (inr is) six other = omega (arith, is, six)

-- status 6 comes of a failed read
tells_read : (reason : ScriptEnd) (status : ℕ) (before after : Option (List ℕ)) → TellsEnd reason status before after → status ≡ 6 → reason ≡ end.ReadFault
tells_read end.Done status before after tells six = absurd (omega (arith, tells.0, six))
tells_read end.ReadFault status before after tells six = refl
tells_read end.WriteFault status before after tells six = absurd (omega (arith, tells.0, six))
tells_read (end.DiskFault class) status before after tells six = absurd (not_six status 5 tells.either six (λ is. omega (arith, is)))
tells_read end.InputLimit status before after tells six = absurd (not_six status 10 tells.either six (λ is. omega (arith, is)))
tells_read end.Spent status before after tells six = absurd (not_six status 10 tells.either six (λ is. omega (arith, is)))
tells_read end.NoMemory status before after tells six = absurd (not_six status 8 tells.either six (λ is. omega (arith, is)))

-- status 7 comes of a failed write of the script, or of its fault line
tells_write : (reason : ScriptEnd) (status : ℕ) (before after : Option (List ℕ)) → TellsEnd reason status before after → status ≡ 7
    → (reason ≡ end.WriteFault) ⊎ FailsToTell reason status
tells_write end.Done status before after tells seven = inr seven
tells_write end.ReadFault status before after tells seven = inr seven
tells_write end.WriteFault status before after tells seven = inl refl
tells_write (end.DiskFault class) status before after tells seven = inr seven
tells_write end.InputLimit status before after tells seven = inr seven
tells_write end.Spent status before after tells seven = inr seven
tells_write end.NoMemory status before after tells seven = inr seven

rose_then : (before mid now : ℕ) → Rose before mid → mid ≤ now → Rose before now
rose_then before mid now rose later = omega (arith, rose, later)

rose_before : (before mid now : ℕ) → before ≤ mid → Rose mid now → Rose before now
rose_before before mid now later rose = omega (arith, later, rose)

pub reads_told : {S : Type 0} (s : SourceGhosts S) (old new : S) (reason : ScriptEnd) (status : ℕ) (before after : Option (List ℕ)) → CountsReads s old new (reason ≡ end.ReadFault)
    → TellsEnd reason status before after → CountsReads s old new (status ≡ 6)
reads_told s old new reason status before after reads tells =
    record { later = reads.later; cause = λ six. reads.cause (tells_read reason status before after tells six) }

-- the writes of the script, and then those of its fault line
pub writes_told : {K : Type 0} (k : SinkGhosts K) (old mid new : K) (reason : ScriptEnd) (status : ℕ) (before after : Option (List ℕ)) → CountsWrites k old mid (reason ≡ end.WriteFault)
    → CountsWrites k mid new (FailsToTell reason status) → TellsEnd reason status before after → CountsWrites k old new (status ≡ 7)
writes_told k old mid new reason status before after script line tells = record {
  later = omega (arith, script.later, line.later);
  cause = λ seven. elim (tells_write reason status before after tells seven) [
    | inl failed ↦ rose_then (k.write_faults old) (k.write_faults mid) (k.write_faults new) (script.cause failed) line.later
    | inr failed ↦ rose_before (k.write_faults old) (k.write_faults mid) (k.write_faults new) script.later (line.cause failed)
  ];
}
