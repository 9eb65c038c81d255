-- What the courses of a server's passes say of its one history.
use Rattle.std.proofs.Common.{◌≡◌, ◌∙◌, ℕ, ◌+◌, Bool, true, false, List, [], ◌∷◌, ◌++◌, Option, refl, sym, ap, subst}
use Rattle.std.specs.Prelude.{All}
use Rattle.std.proofs.lemmas.List.Elements.{All-cons, All-nil, All-push}
use mathlib.Core.List.{IsPrefix}
use Rattle.outside_io.specs.Image.{Image}
use Rattle.outside_io.specs.declared.disk.Disk.{Ghosts}
use Rattle.carbon_history.specs.declared.entry.Entry.{Entry}
use Rattle.carbon_history.specs.declared.entry.Entry.TheVariants as entry
use Rattle.carbon_history.specs.Entries.{of_pass}
use Rattle.carbon_model.specs.State.{State}
use Rattle.carbon_model.specs.Replay.{IsDrainOf}
use Rattle.shared_history.specs.Parts.{PassValue, own_entries}
use Rattle.shared_store.specs.Drains.{DrainsTo, RiseWithin}
use Rattle.shared_store.specs.declared.drain_end.DrainEnd.{DrainEnd}
use Rattle.shared_store.specs.declared.drain_end.DrainEnd.TheVariants.{Done, DiskFault, Spent, NoMemory}
use Rattle.http_front.specs.Origin.{Origin, caller_of}
use Rattle.carbon_serve.specs.Courses.{CourseOf, LastCourse, Staff, origin_by}
use Rattle.carbon_serve.specs.Crews.{Finishes, role_of}
use Rattle.carbon_serve.specs.Deeds.{Did, IsOfDrainer, Telling}
use Rattle.carbon_serve.specs.Headline.{IsOfLast, IsOfWorker, IsOneHistory}
use Rattle.carbon_serve.specs.Serves.{Serves}
use Rattle.carbon_serve.specs.declared.crew.Duties.{Duties}
use Rattle.carbon_serve.specs.declared.workers.Role.{Role}
use Rattle.carbon_serve.specs.declared.workers.Role.TheVariants as role
use Rattle.carbon_serve.proofs.PutLemmas.{all_puts}
use Rattle.carbon_serve.proofs.ReplyLemmas.{all_replies}
use Rattle.carbon_serve.proofs.WovenLemmas.{woven}

-- ---- the workers

-- a pass of this number that had seen nothing, and whose own entries are these
nothing_own : (pass : PassValue) → pass.seen ≡ [] → own_entries pass ≡ []
nothing_own pass none = ap (λ (es : List Entry). of_pass pass.number es) none

worker_of : {L : Type 0} (links : Telling L) (w : Origin) (does : Role) (number : ℕ) (history : List Entry) (fresh pass : PassValue) → fresh.number ≡ number → fresh.seen ≡ [] → pass.number ≡ number
    → own_entries pass ≡ of_pass number history → IsPrefix pass.seen history → Did links w does fresh pass → IsOfWorker links w does number history
worker_of links w role.Receiver number history fresh pass same none same' own begins did =
    (did.1.0, all_puts links w number did.1.0 (caller_of fresh []) (caller_of pass did.0) (of_pass number history) same (nothing_own fresh none) own did.1.1)
worker_of links w (role.Renderer answer_bytes) number history fresh pass same none same' own begins did =
    (did.1.0, pass.seen, all_replies links w number history did.1.0 (caller_of fresh []) (caller_of pass did.0) (of_pass number history) same none same' own begins did.1.1)
worker_of links w (role.Drainer pace) number history fresh pass same none same' own begins did =
    let entries : List Entry = did.1.entries in
    let are : entries ≡ of_pass number history = sym (did.1.once ∙ ap (λ (es : List Entry). es ++ entries) (nothing_own fresh none)) ∙ own in
    subst (All (IsOfDrainer w.moments number)) are (subst (λ (n : ℕ). All (IsOfDrainer w.moments n) entries) same did.1.each)

pub worker : {L : Type 0} (links : Telling L) (w : Origin) (duties : Duties) (number : ℕ) (history : List Entry) → CourseOf links w duties number history
    → IsOfWorker links w (role_of number duties) number history
worker links w duties number history course =
    worker_of links w (role_of number duties) number history course.fresh course.pass course.new.place course.new.seen course.same course.own course.begins course.did

-- ---- the last pass

drain_kind : (moments : ℕ → Type 0) (pass class now : ℕ) (e : Entry) → moments now → IsDrainOf pass class now e → IsOfDrainer moments pass e
drain_kind moments pass class now (entry.Drain by path at) told is = (is.0, subst moments (sym is.1.1) told)
drain_kind moments pass class now (entry.Put by path time value end) told is = absurd is
drain_kind moments pass class now (entry.Ask by number try at) told is = absurd is
drain_kind moments pass class now (entry.Fault by of_class) told is = absurd is

rise_kinds : (moments : ℕ → Type 0) (pass now class most : ℕ) (es : List Entry) → moments now → RiseWithin pass now class most es → All (IsOfDrainer moments pass) es
rise_kinds moments pass now class most [] told rise = All-nil (IsOfDrainer moments pass)
rise_kinds moments pass now class most (e ∷ es) told rise =
    All-cons (IsOfDrainer moments pass) e es (drain_kind moments pass rise.0 now e told rise.2.1.0) (rise_kinds moments pass now rise.0 most es told rise.2.1.1)

-- what a pass entered that had entered nothing
own_made : (moments : ℕ → Type 0) (old new : PassValue) (made : List Entry) → own_entries old ≡ [] → own_entries new ≡ own_entries old ++ made → All (IsOfDrainer moments old.number) made
    → All (IsOfDrainer moments old.number) (own_entries new)
own_made moments old new made none once each =
    subst (All (IsOfDrainer moments old.number)) (sym (once ∙ ap (λ (es : List Entry). es ++ made) none)) each

drain_kinds : (moments : ℕ → Type 0) (start : State) (passes now : ℕ) (end : DrainEnd) (old new : PassValue) → moments now → own_entries old ≡ [] → DrainsTo start passes now end old new
    → All (IsOfDrainer moments old.number) (own_entries new)
drain_kinds moments start passes now (Done count) old new told none drains =
    let d = drains.0 in own_made moments old new d.made none d.enters.once (rise_kinds moments old.number now 0 16 d.made told d.rise)
drain_kinds moments start passes now (DiskFault class) old new told none drains =
    let made : List Entry = drains.made in
    own_made moments old new (made ++ entry.Fault old.number class ∷ []) none drains.enters.once
    (All-push (IsOfDrainer moments old.number) made (entry.Fault old.number class) (rise_kinds moments old.number now 0 (class + 1) made told drains.rise) refl)
drain_kinds moments start passes now Spent old new told none drains =
    let d = drains.0 in own_made moments old new d.made none d.enters.once (rise_kinds moments old.number now 0 16 d.made told d.rise)
drain_kinds moments start passes now NoMemory old new told none drains =
    let d = drains.0 in own_made moments old new d.made none d.enters.once (rise_kinds moments old.number now 0 16 d.made told d.rise)

finish_kinds : (moments : ℕ → Type 0) (start : State) (passes : ℕ) (spent : Bool) (end : DrainEnd) (old new : PassValue) → own_entries old ≡ [] → Finishes moments start passes spent end old new
    → All (IsOfDrainer moments old.number) (own_entries new)
finish_kinds moments start passes true end old new none finishes =
    subst (λ (es : List Entry). All (IsOfDrainer moments old.number) es) (sym (ap own_entries finishes.1 ∙ none)) (All-nil (IsOfDrainer moments old.number))
finish_kinds moments start passes false end old new none finishes = drain_kinds moments start passes finishes.0 end old new finishes.1.0 none finishes.1.1

same_after : (moments : ℕ → Type 0) (start : State) (passes : ℕ) (spent : Bool) (end : DrainEnd) (old new : PassValue) → Finishes moments start passes spent end old new → new.number ≡ old.number
same_after moments start passes true end old new finishes = ap (λ (pass : PassValue). pass.number) finishes.1
same_after moments start passes false (Done count) old new finishes = finishes.1.1.0.enters.number
same_after moments start passes false (DiskFault class) old new finishes = finishes.1.1.enters.number
same_after moments start passes false Spent old new finishes = finishes.1.1.0.enters.number
same_after moments start passes false NoMemory old new finishes = finishes.1.1.0.enters.number

pub last_pass : (w : Origin) (end : DrainEnd) (history : List Entry) → LastCourse w end history → IsOfLast w.moments w.passes history
last_pass w end history course =
    let number : ℕ = course.after.number in
    let own : own_entries course.after ≡ of_pass number history = ap (λ (es : List Entry). of_pass number es) (sym course.whole) in
    let same : number ≡ course.before.number = same_after w.moments w.start w.passes course.is_spent end course.before course.after course.finishes in record {
      number = number;
      is = course.last;
      front = course.before.seen;
      alone = course.alone ∙ ap (λ (es : List Entry). course.before.seen ++ es) own;
      kinds = subst (All (IsOfDrainer w.moments number)) own
          (subst (λ (n : ℕ). All (IsOfDrainer w.moments n) (own_entries course.after)) (sym same)
          (finish_kinds w.moments w.start w.passes course.is_spent end course.before course.after course.none course.finishes));
    }

-- ---- the headline

pub one_history : {D L : Type 0} (d : Ghosts D) (staff : Staff L) (told : ℕ → Option Image) (start : State) (earlier : ℕ → ℕ) (end : DrainEnd) (history : List Entry) (disks : List D)
    → Serves d staff told start earlier end history disks → IsOneHistory staff told start history
one_history d staff told start earlier end history disks serves = record {
  legal = serves.legal;
  names = serves.names;
  woven = woven staff.passes history serves.names;
  workers = λ number few. worker staff.links (origin_by staff told start) staff.duties number history (serves.courses number few);
  last = last_pass (origin_by staff told start) end history serves.last;
}
