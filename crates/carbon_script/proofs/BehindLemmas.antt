-- Scripts of which the replies to the first lines are not written.
use Rattle.std.proofs.Common.{◌≡◌, inl, inr, ℕ, List, Option, None, refl, sym, subst}
use Rattle.std.specs.Io.KnownBytes.{Consumes}
use Rattle.outside_io.specs.Image.{Image}
use Rattle.outside_io.proofs.Known.{Consumes-all}
use Rattle.line_frame.specs.Lines.{lines}
use Rattle.line_service.specs.Service.{At, Service}
use Rattle.line_service.specs.declared.ends.Stop.{Stop}
use Rattle.line_service.specs.declared.ends.Stop.TheVariants as stop
use Rattle.line_service.specs.declared.ends.ServiceEnd.TheVariants as service
use Rattle.carbon_model.specs.State.{State}
use Rattle.carbon_script.specs.Behind.{BreaksOff, EndsBehind, EndsWithin}
use Rattle.carbon_script.specs.Ends.{end_of}
use Rattle.carbon_script.specs.Script.{Machine, opening}
use Rattle.carbon_script.specs.Sessions.{EndsFrom, Means, Serves, SessionValue, Stops, StopsAtLine}
use Rattle.carbon_script.specs.declared.serve.ScriptEnd.{ScriptEnd}
use Rattle.carbon_script.specs.declared.serve.ScriptEnd.TheVariants as end
use Rattle.carbon_script.proofs.ScriptLemmas.{all_served, stopped_line}

-- where a service stands whose replies nobody keeps
abbrev pub unheard : SessionValue → At SessionValue
unheard code = record { server = code; written = None }

-- the script ended within the front
within : (told : ℕ → Option Image) (start : State) (reason : ScriptEnd) (front rest left before : Option (List ℕ)) (taken : List ℕ) (new : SessionValue) → Consumes front rest taken
    → BreaksOff told start reason taken new → EndsBehind told start reason front left before left new before
within told start reason front rest left before taken new consumed breaks =
    inl (record { taken = taken; rest = rest; consumed = consumed; breaks = breaks; silent = refl; unread = refl })

line_breaks : (told : ℕ → Option Image) (start : State) (reason : Stop) (taken : List ℕ) (new : SessionValue) → (reason ≡ stop.WriteFault → ⊥)
    → StopsAtLine told start (opening start) reason (lines taken) None new None → BreaksOff told start (end_of reason) taken new
line_breaks told start stop.WriteFault taken new none stops = absurd (none refl)
line_breaks told start (stop.DiskFault class) taken new none stops = absurd stops.cut
line_breaks told start stop.Spent taken new none stops = stops
line_breaks told start stop.NoMemory taken new none stops = inr stops

-- at one of its lines
pub behind_stopped : (told : ℕ → Option Image) (start : State) (reason : Stop) (same : ScriptEnd) (front rest left before : Option (List ℕ)) (old new : SessionValue) → same ≡ end_of reason
    → (reason ≡ stop.WriteFault → ⊥) → Means start old (opening start)
    → Service (Serves told start) (Stops told start) (service.Stopped reason) front (unheard old) rest (unheard new) → EndsBehind told start same front left before left new before
behind_stopped told start reason same front rest left before old new is none means served =
    subst (λ (r : ScriptEnd). EndsBehind told start r front left before left new before) (sym is)
    (within told start (end_of reason) front rest left before served.0 new served.1.0
    (line_breaks told start reason served.0 new none (stopped_line told start (opening start) reason front rest (unheard old) (unheard new) means served)))

-- for want of memory between two reads
pub behind_short : (told : ℕ → Option Image) (start : State) (front rest left before : Option (List ℕ)) (old new : SessionValue) → Means start old (opening start)
    → Service (Serves told start) (Stops told start) service.NoMemory front (unheard old) rest (unheard new) → EndsBehind told start end.NoMemory front left before left new before
behind_short told start front rest left before old new means served =
    let first = served.1.1.0 in
    within told start end.NoMemory front rest left before served.0 new served.1.0
    (inl (first, (served.1.1.1.0, all_served told start (opening start) first (unheard old) (unheard new) served.1.1.1.1 means)))

-- at a failed read
pub behind_unread : (told : ℕ → Option Image) (start : State) (front rest left before : Option (List ℕ)) (old new : SessionValue) → Means start old (opening start)
    → Service (Serves told start) (Stops told start) service.ReadFault front (unheard old) rest (unheard new) → EndsBehind told start end.ReadFault front left before left new before
behind_unread told start front rest left before old new means served =
    within told start end.ReadFault front rest left before served.0 new served.1.0
    (all_served told start (opening start) served.0 (unheard old) (unheard new) served.1.1.0 means, served.1.1.1)

-- at the limit of an input
pub behind_limit : (told : ℕ → Option Image) (start : State) (front rest left before : Option (List ℕ)) (old new : SessionValue) → Means start old (opening start)
    → Service (Serves told start) (Stops told start) service.Limit front (unheard old) rest (unheard new) → EndsBehind told start end.InputLimit front left before left new before
behind_limit told start front rest left before old new means served =
    within told start end.InputLimit front rest left before served.0 new served.1.0
    (all_served told start (opening start) served.0 (unheard old) (unheard new) served.1.1.0 means, served.1.1.1)

-- all lines of the front were served, and the script went on
pub behind_all : (told : ℕ → Option Image) (start : State) (reason : ScriptEnd) (front rest left before left' : Option (List ℕ)) (old mid new : SessionValue) (after : Option (List ℕ)) → Means start old (opening start)
    → Service (Serves told start) (Stops told start) service.Closed front (unheard old) rest (unheard mid)
    → ((from : Machine) → Means start mid from → EndsFrom told start from reason left before left' new after) → EndsBehind told start reason front left before left' new after
behind_all told start reason front rest left before left' old mid new after means served goes_on =
    let all = all_served told start (opening start) served.0 (unheard old) (unheard mid) served.1.1.0 means in
    inr (record {
      served = served.0;
      all = Consumes-all front rest served.0 served.1.0 served.1.1.1.0;
      mid = all.last;
      hidden = all.said;
      runs = all.runs;
      ends = goes_on all.last all.means;
    })
