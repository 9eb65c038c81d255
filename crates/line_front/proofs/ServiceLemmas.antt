-- From the lines that a service served to what the service of a link came to.
use Rattle.std.proofs.Common.{◌≡◌, ◌⊎◌, inl, inr, ℕ, ◌∷◌, List, [], Option, refl, sym, ap, ◌∙◌, subst, rules}
use Rattle.outside_io.specs.Frames.{CountsReads}
use Rattle.outside_io.specs.declared.source.Source.{Ghosts}
use Rattle.outside_io.proofs.Known.{Consumes-none}
use Rattle.shared_store.specs.Passes.{HasRoom}
use Rattle.line_frame.specs.Lines.{Line, lines}
use Rattle.line_service.specs.Service.{At, Chain, Service, StepOf, StopsAt}
use Rattle.line_service.specs.declared.ends.ServiceEnd.{ServiceEnd}
use Rattle.line_service.specs.declared.ends.ServiceEnd.TheVariants as end
use Rattle.line_service.specs.declared.ends.Stop.{Stop}
use Rattle.line_service.specs.declared.ends.Stop.TheVariants as stop
use Rattle.carbon_model.specs.State.{State}
use Rattle.line_front.specs.Ends.{IsLinkEnd, cause_of}
use Rattle.line_front.specs.Emits.{EndsLines, LinesEndAs}
use Rattle.line_front.specs.Links.{HandlesFront, HandlesLines, IsSpent, LacksMemory, LacksRoom, ReadsThen, Timed}
use Rattle.line_front.specs.Sessions.{LinkValue, ServesLink, StopsLink, timed_of}
use Rattle.line_front.specs.declared.ends.LineCause.{LineCause}
use Rattle.line_front.specs.declared.ends.LineCause.TheVariants as cause
use Rattle.line_front.proofs.LinkLemmas.{handles_append, handles_none, handles_one}

-- lines that were served by a clock
record Follows {C : Type 0} (moments : C → ℕ → Type 0) (start : State) (passes : ℕ) (all : List Line) (old new : LinkValue C) : Type 0 where
  clock : new.watch.clock ≡ old.watch.clock
  handles : HandlesLines (moments old.watch.clock) start passes all (timed_of old) (timed_of new)

-- a list of lines is its first one and the others
follow : {C : Type 0} (moments : C → ℕ → Type 0) (start : State) (passes : ℕ) (all : List Line) (from to : At (LinkValue C))
    → Chain (StepOf (ServesLink moments start passes)) from all to → Follows moments start passes all from.server to.server
follow {C} moments start passes [] from to chain = record {
  clock = ap (λ (p : At (LinkValue C)). p.server.watch.clock) chain;
  handles = handles_none (moments from.server.watch.clock) start passes (timed_of from.server) (timed_of to.server) (ap (λ (p : At (LinkValue C)). timed_of p.server) chain);
}
follow {C} moments start passes (line ∷ others) from to chain =
    let more = follow moments start passes others chain.0 to chain.1.1 in record {
      clock = more.clock ∙ chain.1.0.clock;
      handles = handles_append (moments from.server.watch.clock) start passes (line ∷ []) others (timed_of from.server) (timed_of chain.0.server) (timed_of to.server)
          (handles_one (moments from.server.watch.clock) start passes line (timed_of from.server) (timed_of chain.0.server) chain.1.0.handles)
          (subst (λ (clock : C). HandlesLines (moments clock) start passes others (timed_of chain.0.server) (timed_of to.server)) chain.1.0.clock more.handles);
    }

-- of the lines the first were served, and at the next one the service stopped
handles_front : {C : Type 0} (moments : C → ℕ → Type 0) (start : State) (passes : ℕ) (reason : Stop) (bytes : List ℕ) (from to : At (LinkValue C))
    → (s : StopsAt (ServesLink moments start passes) (StopsLink moments start passes) reason from (lines bytes) to)
    → HandlesFront (moments from.server.watch.clock) start passes bytes (timed_of from.server) (timed_of s.mid.server)
handles_front moments start passes reason bytes from to s = record {
  handled = s.handed;
  line = s.line;
  others = s.rest;
  split = s.split;
  front = (follow moments start passes s.handed from s.mid s.chain).handles;
}

ends_stopped : {C : Type 0} (moments : C → ℕ → Type 0) (start : State) (passes : ℕ) (reason : Stop) (bytes : List ℕ) (left : Option (List ℕ)) (from to : At (LinkValue C))
    → StopsAt (ServesLink moments start passes) (StopsLink moments start passes) reason from (lines bytes) to
    → LinesEndAs (moments from.server.watch.clock) start passes (cause_of (end.Stopped reason)) bytes left (timed_of from.server) (timed_of to.server)
unfolding handles_front
ends_stopped moments start passes stop.WriteFault bytes left from to s = absurd s.stopped.stops.stops
ends_stopped moments start passes (stop.DiskFault class) bytes left from to s = absurd s.stopped.stops.stops
ends_stopped {C} moments start passes stop.Spent bytes left from to s =
    let clock : s.mid.server.watch.clock ≡ from.server.watch.clock = (follow moments start passes s.handed from s.mid s.chain).clock in (
      inr (record {
        mid = timed_of s.mid.server;
        handles = handles_front moments start passes stop.Spent bytes from to s;
        ahead = s.stopped.stops.ahead;
        lacks = subst (λ (k : C). (to.server.session ≡ s.mid.server.session)
            ⊎ LacksRoom (ReadsThen (moments k) s.mid.server.watch.told to.server.watch.told) start passes s.line s.mid.server.session to.server.session) clock s.stopped.stops.stops.0;
      }),
      s.stopped.stops.stops.1,
    )
ends_stopped {C} moments start passes stop.NoMemory bytes left from to s =
    let clock : s.mid.server.watch.clock ≡ from.server.watch.clock = (follow moments start passes s.handed from s.mid s.chain).clock in
    inr (record {
      mid = timed_of s.mid.server;
      handles = handles_front moments start passes stop.NoMemory bytes from to s;
      lacks = subst
          (λ (k : C). LacksMemory (ReadsThen (moments k) s.mid.server.watch.told to.server.watch.told) start passes s.line s.mid.server.session to.server.session)
          clock s.stopped.stops.stops;
    })

ends_as : {C : Type 0} (moments : C → ℕ → Type 0) (start : State) (passes : ℕ) (reason : ServiceEnd) (left left' : Option (List ℕ)) (from to : At (LinkValue C))
    → (s : Service (ServesLink moments start passes) (StopsLink moments start passes) reason left from left' to)
    → LinesEndAs (moments from.server.watch.clock) start passes (cause_of reason) s.0 left' (timed_of from.server) (timed_of to.server)
ends_as moments start passes end.Closed left left' from to s =
    record { handles = (follow moments start passes (lines s.0) from to s.1.1.0).handles; at_end = s.1.1.1.0; short = s.1.1.1.1 }
ends_as moments start passes end.ReadFault left left' from to s = ((follow moments start passes (lines s.0) from to s.1.1.0).handles, s.1.1.1)
ends_as moments start passes end.Limit left left' from to s = ((follow moments start passes (lines s.0) from to s.1.1.0).handles, s.1.1.1)
ends_as moments start passes end.NoMemory left left' from to s =
    let taken = s.1.1.0 in
    inl (taken, (s.1.1.1.0, (follow moments start passes (lines taken) from to s.1.1.1.1).handles))
ends_as moments start passes (end.Stopped reason) left left' from to s = ends_stopped moments start passes reason s.0 left' from to s.1.1

-- what the service of a link came to, by a pass that has room at the start
pub ends_served : {C : Type 0} (moments : C → ℕ → Type 0) (start : State) (passes : ℕ) (reason : ServiceEnd) (told : LineCause) (left left' : Option (List ℕ)) (from to : At (LinkValue C))
    → told ≡ cause_of reason → HasRoom from.server.session.pass → Service (ServesLink moments start passes) (StopsLink moments start passes) reason left from left' to
    → EndsLines (moments from.server.watch.clock) start passes told left left' (timed_of from.server) (timed_of to.server)
ends_served moments start passes reason told left left' from to same room s =
    subst (λ (r : LineCause). EndsLines (moments from.server.watch.clock) start passes r left left' (timed_of from.server) (timed_of to.server)) (sym same) (record {
      taken = s.0;
      consumed = s.1.0;
      room = λ other. room;
      ends = ends_as moments start passes reason left left' from to s;
    })

-- and by one that has none
pub ends_spent : (moments : ℕ → Type 0) (start : State) (passes : ℕ) (left : Option (List ℕ)) (at : Timed) → IsSpent at.session.pass
    → EndsLines moments start passes cause.Spent left left at at
ends_spent moments start passes left at spent = record {
  taken = [];
  consumed = Consumes-none left;
  room = λ other. absurd (other refl);
  ends = (inl (record { none = refl; same = refl }), spent);
}

-- only a failed read is told as one
read_fault : (reason : ServiceEnd) → cause_of reason ≡ cause.ReadFault → reason ≡ end.ReadFault
read_fault end.Closed is = search rules
read_fault end.ReadFault is = refl
read_fault end.Limit is = search rules
read_fault end.NoMemory is = search rules
read_fault (end.Stopped stop.WriteFault) is = search rules
read_fault (end.Stopped (stop.DiskFault class)) is = search rules
read_fault (end.Stopped stop.Spent) is = search rules
read_fault (end.Stopped stop.NoMemory) is = search rules

pub reads_as : {S : Type 0} (ghosts : Ghosts S) (old new : S) (reason : ServiceEnd) (told : LineCause) → told ≡ cause_of reason
    → CountsReads ghosts old new (reason ≡ end.ReadFault) → CountsReads ghosts old new (told ≡ cause.ReadFault)
reads_as ghosts old new reason told same counts =
    record { later = counts.later; cause = λ failed. counts.cause (read_fault reason (sym same ∙ failed)) }

-- neither a write nor a disk failed
pub is_link_end : {C : Type 0} (moments : C → ℕ → Type 0) (start : State) (passes : ℕ) (reason : ServiceEnd) (left left' : Option (List ℕ)) (from to : At (LinkValue C))
    → Service (ServesLink moments start passes) (StopsLink moments start passes) reason left from left' to → IsLinkEnd reason
is_link_end moments start passes end.Closed left left' from to s = tt
is_link_end moments start passes end.ReadFault left left' from to s = tt
is_link_end moments start passes end.Limit left left' from to s = tt
is_link_end moments start passes end.NoMemory left left' from to s = tt
is_link_end moments start passes (end.Stopped stop.WriteFault) left left' from to s = absurd s.1.1.stopped.stops.stops
is_link_end moments start passes (end.Stopped (stop.DiskFault class)) left left' from to s = absurd s.1.1.stopped.stops.stops
is_link_end moments start passes (end.Stopped stop.Spent) left left' from to s = tt
is_link_end moments start passes (end.Stopped stop.NoMemory) left left' from to s = tt
