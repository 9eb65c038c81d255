-- From the lines that a service served to the run of a script.
use Rattle.std.proofs.Common.{◌≡◌, inl, inr, ℕ, List, [], ◌∷◌, ◌++◌, Option, refl, sym, subst}
use Rattle.std.specs.Prelude.{Ok, Err}
use Rattle.std.specs.Io.KnownBytes.{Appends}
use Rattle.outside_io.specs.Image.{Image}
use Rattle.outside_io.proofs.Known.{Appends-none, Appends-more}
use Rattle.line_frame.specs.Lines.{Line, lines}
use Rattle.line_frame.specs.Machine.{Runs}
use Rattle.line_service.specs.Service.{At, Chain, Service, StepOf}
use Rattle.line_service.specs.declared.ends.Stop.{Stop}
use Rattle.line_service.specs.declared.ends.Stop.TheVariants as stop
use Rattle.line_service.specs.declared.ends.ServiceEnd.TheVariants as service
use Rattle.carbon_model.specs.State.{State}
use Rattle.carbon_script.specs.Ends.{end_of}
use Rattle.carbon_script.specs.Script.{Machine, Steps, summary_text}
use Rattle.carbon_script.specs.Sessions.{AppendsSome, EndsAs, EndsFrom, Finishes, IsReadOut, Means, Serves, ServesAll, SessionValue, Stops, StopsAtEnd, StopsAtLine}
use Rattle.carbon_script.specs.declared.serve.ScriptEnd.{ScriptEnd}
use Rattle.carbon_script.specs.declared.serve.ScriptEnd.TheVariants as end
use Rattle.carbon_script.proofs.SessionLemmas.{appends_some_none, appends_some_more}

-- ---- what the lines did

-- the machine after some lines, what they said, and what the code stands for behind them
record Followed (told : ℕ → Option Image) (start : State) (first : Machine) (handed : List Line) (before : Option (List ℕ)) (to : At SessionValue) : Type 0 where
  last : Machine
  said : List ℕ
  runs : Runs (Steps told) first handed last said
  means : Means start to.server last
  wrote : Appends before to.written said

follow : (told : ℕ → Option Image) (start : State) (handed : List Line) (from to : At SessionValue) (m : Machine) → Chain (StepOf (Serves told start)) from handed to → Means start from.server m
    → Followed told start m handed from.written to
follow told start [] from to m chain means =
    subst (λ (p : At SessionValue). Followed told start m [] from.written p) (sym chain) (record {
      last = m;
      said = [];
      runs = (refl, refl);
      means = means;
      wrote = Appends-none from.written;
    })
follow told start (line ∷ others) from to m chain means =
    let one = chain.1.0.does m means in
    let more = follow told start others chain.0 to one.next chain.1.1 one.means in record {
      last = more.last;
      said = one.said ++ more.said;
      runs = (one.next, one.said, more.said, (one.does, (more.runs, refl)));
      means = more.means;
      wrote = Appends-more from.written chain.0.written to.written one.said more.said one.wrote more.wrote;
    }

-- all lines of some bytes
pub all_served : (told : ℕ → Option Image) (start : State) (m : Machine) (bytes : List ℕ) (from to : At SessionValue) → Chain (StepOf (Serves told start)) from (lines bytes) to → Means start from.server m
    → ServesAll told start m bytes from.written to.server to.written
all_served told start m bytes from to chain means =
    let followed = follow told start (lines bytes) from to m chain means in record {
      last = followed.last;
      said = followed.said;
      runs = followed.runs;
      means = followed.means;
      wrote = followed.wrote;
    }

-- what was written over some lines
some_later : (told : ℕ → Option Image) (start : State) (handed : List Line) (from to : At SessionValue) → Chain (StepOf (Serves told start)) from handed to → AppendsSome from.written to.written
some_later told start [] from to chain = subst (λ (p : At SessionValue). AppendsSome from.written p.written) (sym chain) (appends_some_none from.written)
some_later told start (line ∷ others) from to chain =
    appends_some_more from.written chain.0.written to.written chain.1.0.some (some_later told start others chain.0 to chain.1.1)

-- ---- the ends

-- a script that was stopped at a line
line_ends : (told : ℕ → Option Image) (start : State) (m : Machine) (reason : Stop) (taken : List ℕ) (left before : Option (List ℕ)) (new : SessionValue) (after : Option (List ℕ)) → StopsAtLine told start m reason (lines taken) before new after
    → EndsAs told start m (end_of reason) taken left before new after
line_ends told start m stop.WriteFault taken left before new after stops = inl stops
line_ends told start m (stop.DiskFault class) taken left before new after stops = absurd stops.cut
line_ends told start m stop.Spent taken left before new after stops = inl stops
line_ends told start m stop.NoMemory taken left before new after stops = inr (inl stops)

-- or at the end of the input
finish_ends : (told : ℕ → Option Image) (start : State) (m : Machine) (reason : Stop) (taken : List ℕ) (left before : Option (List ℕ)) (new : SessionValue) (after : Option (List ℕ)) → StopsAtEnd told start m reason (lines taken) before new after
    → IsReadOut taken left → EndsAs told start m (end_of reason) taken left before new after
finish_ends told start m stop.WriteFault taken left before new after stops read = inr (stops, read)
finish_ends told start m (stop.DiskFault class) taken left before new after stops read = (stops, read)
finish_ends told start m stop.Spent taken left before new after stops read = inr (stops, read)
finish_ends told start m stop.NoMemory taken left before new after stops read = inr (inr (stops, read))

-- the service stopped at a line
pub stopped_line : (told : ℕ → Option Image) (start : State) (m : Machine) (reason : Stop) (left left' : Option (List ℕ)) (from to : At SessionValue) → Means start from.server m
    → (served : Service (Serves told start) (Stops told start) (service.Stopped reason) left from left' to) → StopsAtLine told start m reason (lines served.0) from.written to.server to.written
stopped_line told start m reason left left' from to means served =
    let at = served.1.1 in
    let followed = follow told start at.handed from at.mid m at.chain means in record {
      last = followed.last;
      line = at.line;
      said = followed.said;
      served = record { handed = at.handed; others = at.rest; runs = followed.runs; split = at.split };
      mid = at.mid.written;
      wrote = followed.wrote;
      cut = at.stopped.cut followed.last followed.means;
    }

pub ends_stopped : (told : ℕ → Option Image) (start : State) (m : Machine) (reason : Stop) (left left' : Option (List ℕ)) (from to : At SessionValue) → Means start from.server m
    → Service (Serves told start) (Stops told start) (service.Stopped reason) left from left' to → EndsFrom told start m (end_of reason) left from.written left' to.server to.written
ends_stopped told start m reason left left' from to means served =
    let at = served.1.1 in record {
      taken = served.0;
      consumed = served.1.0;
      ends = line_ends told start m reason served.0 left' from.written to.server to.written (stopped_line told start m reason left left' from to means served);
      some = appends_some_more from.written at.mid.written to.written (some_later told start at.handed from at.mid at.chain) at.stopped.some;
    }

-- memory ran out between two reads
pub ends_short : (told : ℕ → Option Image) (start : State) (m : Machine) (left left' : Option (List ℕ)) (from to : At SessionValue) → Means start from.server m
    → Service (Serves told start) (Stops told start) service.NoMemory left from left' to → EndsFrom told start m end.NoMemory left from.written left' to.server to.written
ends_short told start m left left' from to means service =
    let front = service.1.1.0 in record {
      taken = service.0;
      consumed = service.1.0;
      ends = inl (front, (service.1.1.1.0, all_served told start m front from to service.1.1.1.1 means));
      some = some_later told start (lines front) from to service.1.1.1.1;
    }

-- a read failed
pub ends_unread : (told : ℕ → Option Image) (start : State) (m : Machine) (left left' : Option (List ℕ)) (from to : At SessionValue) → Means start from.server m
    → Service (Serves told start) (Stops told start) service.ReadFault left from left' to → EndsFrom told start m end.ReadFault left from.written left' to.server to.written
ends_unread told start m left left' from to means service = record {
  taken = service.0;
  consumed = service.1.0;
  ends = (all_served told start m service.0 from to service.1.1.0 means, service.1.1.1);
  some = some_later told start (lines service.0) from to service.1.1.0;
}

-- the most bytes were taken
pub ends_limit : (told : ℕ → Option Image) (start : State) (m : Machine) (left left' : Option (List ℕ)) (from to : At SessionValue) → Means start from.server m
    → Service (Serves told start) (Stops told start) service.Limit left from left' to → EndsFrom told start m end.InputLimit left from.written left' to.server to.written
ends_limit told start m left left' from to means service = record {
  taken = service.0;
  consumed = service.1.0;
  ends = (all_served told start m service.0 from to service.1.1.0 means, service.1.1.1);
  some = some_later told start (lines service.0) from to service.1.1.0;
}

-- the input came to its end, and the script was finished
pub ends_done : {T : Type 0} (told : ℕ → Option Image) (start : State) (m : Machine) (x : T) (left left' : Option (List ℕ)) (from mid to : At SessionValue) → Means start from.server m
    → Service (Serves told start) (Stops told start) service.Closed left from left' mid → Finishes start (Ok x) mid.server mid.written to.server to.written → AppendsSome mid.written to.written
    → EndsFrom told start m end.Done left from.written left' to.server to.written
ends_done told start m x left left' from mid to means service finishes some =
    let followed = follow told start (lines service.0) from mid m service.1.1.0 means in
    let summed = finishes followed.last followed.means in record {
      taken = service.0;
      consumed = service.1.0;
      ends = (
        record {
          last = summed.next;
          text = followed.said ++ summary_text summed.next;
          run = record {
            last = followed.last;
            said = followed.said;
            served = followed.runs;
            count = summed.count;
            drained = summed.drained;
            whole = refl;
          };
          means = summed.means;
          room = summed.room;
          wrote = Appends-more from.written mid.written to.written followed.said (summary_text summed.next) followed.wrote summed.wrote;
        },
        record { ended = service.1.1.1.0; short = service.1.1.1.1 },
      );
      some = appends_some_more from.written mid.written to.written (some_later told start (lines service.0) from mid service.1.1.0) some;
    }

-- or could not be
pub ends_cut : (T : Type 0) (told : ℕ → Option Image) (start : State) (m : Machine) (reason : Stop) (left left' : Option (List ℕ)) (from mid to : At SessionValue) → Means start from.server m
    → Service (Serves told start) (Stops told start) service.Closed left from left' mid → Finishes {T = T} start (Err reason) mid.server mid.written to.server to.written → AppendsSome mid.written to.written
    → EndsFrom told start m (end_of reason) left from.written left' to.server to.written
ends_cut T told start m reason left left' from mid to means service finishes some =
    let followed = follow told start (lines service.0) from mid m service.1.1.0 means in record {
      taken = service.0;
      consumed = service.1.0;
      ends = finish_ends told start m reason service.0 left' from.written to.server to.written
          (record {
            last = followed.last;
            said = followed.said;
            served = followed.runs;
            mid = mid.written;
            wrote = followed.wrote;
            cut = finishes followed.last followed.means;
          })
          (record { ended = service.1.1.1.0; short = service.1.1.1.1 });
      some = appends_some_more from.written mid.written to.written (some_later told start (lines service.0) from mid service.1.1.0) some;
    }

-- the same end by another name
pub ends_as : (told : ℕ → Option Image) (start : State) (m : Machine) (reason same : ScriptEnd) (left left' : Option (List ℕ)) (new : SessionValue) (before after : Option (List ℕ)) → reason ≡ same
    → EndsFrom told start m same left before left' new after → EndsFrom told start m reason left before left' new after
ends_as told start m reason same left left' new before after is ends = subst (λ (r : ScriptEnd). EndsFrom told start m r left before left' new after) (sym is) ends
