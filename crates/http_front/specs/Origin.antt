-- What a link is served from, and where its service stands.
use Rattle.std.specs.Prelude.{◌≡◌, ◌≤◌, ℕ, List, [], ◌∷◌, ◌++◌, Option}
use Rattle.outside_io.specs.Faults.{Rose}
use Rattle.outside_io.specs.Image.{Image}
use Rattle.outside_io.specs.declared.clock.Clock.{Ghosts as ClockGhosts}
use Rattle.outside_io.specs.declared.sink.Sink.{Ghosts as SinkGhosts}
use Rattle.carbon_model.specs.State.{State}
use Rattle.shared_history.specs.Parts.{PassValue}
use Rattle.shared_store.specs.declared.named.Named.{Ghosts as StoreGhosts}

-- What a link is served from: the moments that the clock may tell, and of the store what the disk of each class
-- told at its opening, the state then, and how many passes there are.
pub record Origin : Type 1 where
  pub moments : ℕ → Type 0
  pub told : ℕ → Option Image
  pub start : State
  pub passes : ℕ

-- a store, and a clock
abbrev pub origin_of : {C N : Type 0} → ClockGhosts C → StoreGhosts N → C → Origin
origin_of clocks store clock = record {
  moments = clocks.moments clock;
  told = store.told;
  start = store.start;
  passes = store.passes;
}

-- who asks the store for a link: a pass, and the moments that its watch told, in order
pub record Caller : Type 0 where
  pub pass : PassValue
  pub told : List ℕ

abbrev pub caller_of : PassValue → List ℕ → Caller
caller_of pass told = record { pass = pass; told = told }

-- where a service stands: who asks for it, and what was written to the link, where the link tells it
pub record At : Type 0 where
  pub caller : Caller
  pub written : Option (List ℕ)

abbrev pub standing : {K : Type 0} → SinkGhosts K → PassValue → List ℕ → K → At
standing sink pass told out = record { caller = caller_of pass told; written = sink.written out }

-- the watch told one moment more, which is one of the clock's
pub record ReadsOnce (w : Origin) (now : ℕ) (old new : Caller) : Type 0 where
  pub moment : w.moments now
  pub told : new.told ≡ old.told ++ now ∷ []

-- it is the same pass, of the same store
pub record SamePass (old new : PassValue) : Type 0 where
  pub table : new.table ≡ old.table
  pub number : new.number ≡ old.number

-- A call that only writes: it leaves what is beside the writes as it was, the count of failed writes did not
-- fall, and it rose where a write failed.
pub record WritesOnly {K : Type 0} (k : SinkGhosts K) (old new : K) (failed : Type 0) : Type 0 where
  pub beside : k.beside_write new ≡ k.beside_write old
  pub later : k.write_faults old ≤ k.write_faults new
  pub cause : failed → Rose (k.write_faults old) (k.write_faults new)
