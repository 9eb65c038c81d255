-- From replies to what a line came to.
use Rattle.std.proofs.Common.{◌≡◌, ◌∙◌, ℕ, ◌+◌, ◌≤◌, ◌^◌, ◌-◌, inl, inr, min, Bool, List, [], ◌++◌, Option, length, refl, sym, ap, subst, arith, take, count_by}
use Rattle.std.specs.Prelude.{Result, Ok, Err}
use Rattle.std.specs.Io.KnownBytes.{Appends}
use Rattle.std.proofs.lemmas.List.Sums.{count_by-le-length}
use Rattle.outside_io.specs.Image.{Image}
use Rattle.outside_io.specs.Sink.{AppendsFront}
use Rattle.outside_io.proofs.Known.{Appends-none, Appends-more}
use Rattle.line_frame.specs.Lines.{Line}
use Rattle.line_service.specs.declared.ends.Stop.{Stop}
use Rattle.line_service.specs.declared.ends.Stop.TheVariants as stop
use Rattle.metric_line.specs.declared.fault.LineFault.{LineFault}
use Rattle.carbon_history.specs.declared.entry.Entry.{Entry}
use Rattle.carbon_history.specs.Entries.{NamesPasses, about_class, drains, is_drain, of_pass}
use Rattle.carbon_model.specs.State.{State}
use Rattle.carbon_model.specs.Replay.{replay}
use Rattle.atomic_table.specs.Seated.{TableId}
use Rattle.shared_history.specs.Parts.{IsNewPass, PassValue}
use Rattle.shared_store.specs.Passes.{HasRoom, runs_in, settled_in}
use Rattle.shared_store.specs.Tallies.{tally_of}
use Rattle.shared_store.specs.declared.drain_end.DrainEnd.TheVariants as drain
use Rattle.shared_store.specs.declared.tally.Tally.{Tally}
use Rattle.carbon_script.specs.Alone.{Adds, IsOnly}
use Rattle.carbon_script.specs.Command.{Command, Metric, Refused, Long, Clock, Ask, Plan, Write, DrainAll, Bad, TakesMemory, command_of}
use Rattle.carbon_script.specs.Counts.{overlong, refused}
use Rattle.carbon_script.specs.Replies.{DrainsAlone, Replies, Says, SaysText, Summarises, Tells}
use Rattle.carbon_script.specs.Script.{Machine, opening, summary_text}
use Rattle.carbon_script.specs.Sessions.{AppendsSome, CutShort, Done, Finishes, Means, Obeys, RunsShort, Serves, SessionValue, Stops}
use Rattle.carbon_script.specs.Texts.{bad_command, summary_of}
use Rattle.carbon_script.specs.declared.counts.Counts.{Counts}
use Rattle.carbon_script.specs.declared.reply.Shortage.{Shortage}
use Rattle.carbon_script.specs.declared.reply.Shortage.TheVariants as short
use Rattle.carbon_script.proofs.AloneLemmas.{all_own, only_adds, still_room}
use Rattle.carbon_script.proofs.MachineLemmas.{means_same}

-- ---- what is written

pub appends_some_none : (a : Option (List ℕ)) → AppendsSome a a
appends_some_none a = ([], Appends-none a)

pub appends_some_more : (a b c : Option (List ℕ)) → AppendsSome a b → AppendsSome b c → AppendsSome a c
appends_some_more a b c first second = (first.0 ++ second.0, Appends-more a b c first.0 second.0 first.1 second.1)

-- a front of a text is some text
pub some_front : (a b : Option (List ℕ)) (text : List ℕ) → AppendsFront a b text → AppendsSome a b
some_front a b text front = (take front.0 text, front.2)

-- ---- the first machine

pub means_opening : (own : TableId) (start : State) (code : SessionValue) → IsNewPass own 0 code.pass → code.clock ≡ 1700000000 → code.counts ≡ (opening start).counts → Means start code (opening start)
means_opening own start code new clock counts = record {
  seen = new.seen;
  number = new.place;
  alone = record { none_else = λ pass late. refl };
  state = refl;
  clock = clock;
  counts = counts;
  settled = λ class none. omega arith;
  runs = λ class. omega arith;
}

-- ---- commands

-- the same pass, and another clock or other counts
means_again : (start : State) (old new : SessionValue) (m next : Machine) → Means start old m → new.pass ≡ old.pass → next.entries ≡ m.entries → next.state ≡ m.state → next.owes ≡ m.owes → next.runs ≡ m.runs
    → new.clock ≡ next.clock → new.counts ≡ next.counts → Means start new next
means_again start old new m next means pass entries state owes runs clock counts = record {
  seen = ap (λ (p : PassValue). p.seen) pass ∙ means.seen ∙ sym entries;
  number = ap (λ (p : PassValue). p.number) pass ∙ means.number;
  alone = subst (NamesPasses 1) (sym entries) means.alone;
  state = state ∙ means.state ∙ ap (replay start) (sym entries);
  clock = clock;
  counts = counts;
  settled = λ class free.
      subst (λ (es : List Entry). drains (about_class class es) ≤ settled_in class new.pass) (sym entries)
      (subst (λ (p : PassValue). drains (about_class class m.entries) ≤ settled_in class p) (sym pass)
      (means.settled class (ap (λ (f : ℕ → Bool). f class) (sym owes) ∙ free)));
  runs = λ class.
      subst (λ (f : ℕ → ℕ). f class ≤ runs_in class new.pass) (sym runs)
      (subst (λ (p : PassValue). m.runs class ≤ runs_in class p) (sym pass) (means.runs class));
}

-- a command that only counts, or sets the clock
pub obeys_refused : {T : Type 0} (told : ℕ → Option Image) (start : State) (x : T) (old new : SessionValue) (reason : LineFault) (written : Option (List ℕ)) → new.pass ≡ old.pass → new.clock ≡ old.clock
    → new.counts ≡ refused old.counts reason → Obeys told start (Ok x) old (Refused reason) written new written
obeys_refused told start x old new reason written pass clock counts m means = record {
  next = record m { counts = refused m.counts reason };
  said = [];
  does = (refl, refl);
  means = means_again start old new m (record m { counts = refused m.counts reason }) means pass refl refl refl refl (clock ∙ means.clock)
      (counts ∙ ap (λ (c : Counts). refused c reason) means.counts);
  wrote = Appends-none written;
}

pub obeys_long : {T : Type 0} (told : ℕ → Option Image) (start : State) (x : T) (old new : SessionValue) (written : Option (List ℕ)) → new.pass ≡ old.pass → new.clock ≡ old.clock
    → new.counts ≡ overlong old.counts → Obeys told start (Ok x) old Long written new written
obeys_long told start x old new written pass clock counts m means = record {
  next = record m { counts = overlong m.counts };
  said = [];
  does = (refl, refl);
  means = means_again start old new m (record m { counts = overlong m.counts }) means pass refl refl refl refl (clock ∙ means.clock) (counts ∙ ap overlong means.counts);
  wrote = Appends-none written;
}

pub obeys_clock : {T : Type 0} (told : ℕ → Option Image) (start : State) (x : T) (old new : SessionValue) (moment : ℕ) (written : Option (List ℕ)) → new.pass ≡ old.pass → new.clock ≡ moment
    → new.counts ≡ old.counts → Obeys told start (Ok x) old (Clock moment) written new written
obeys_clock told start x old new moment written pass clock counts m means = record {
  next = record m { clock = moment };
  said = [];
  does = (refl, refl);
  means = means_again start old new m (record m { clock = moment }) means pass refl refl refl refl clock (counts ∙ means.counts);
  wrote = Appends-none written;
}

-- a command that has a reply, or none
pub obeys_said : (T : Type 0) (told : ℕ → Option Image) (start : State) (command : Command) (reply : Result (List ℕ) Shortage) (result : Result T Stop) (old new : SessionValue) (before after : Option (List ℕ))
    → Replies told start command reply old new → Says reply result before after → Obeys told start result old command before new after
obeys_said T told start command (Ok text) (Ok x) old new before after replies says = λ m means.
    let did = replies m means in record { next = did.next; said = text; does = did.does; means = did.means; wrote = says }
obeys_said T told start command (Ok text) (Err reason) old new before after replies says =
    subst (λ (r : Stop). (m : Machine) → Means start old m → CutShort r told start m command before new after) (sym says.0) (λ m means.
    let did = replies m means in record { next = did.next; said = text; does = did.does; means = did.means; wrote = says.1 })
obeys_said T told start command (Err short.Room) (Ok x) old new before after replies says = absurd says
obeys_said T told start command (Err short.Memory) (Ok x) old new before after replies says = absurd says
obeys_said T told start command (Err short.Room) (Err reason) old new before after replies says =
    subst (λ (r : Stop). (m : Machine) → Means start old m → CutShort r told start m command before new after) (sym says.0) (λ m means.
    let did = replies m means in (did.0, (did.1.0, (did.1.1.0, record { means = did.1.1.1; same = says.1 }))))
obeys_said T told start command (Err short.Memory) (Err reason) old new before after replies says =
    subst (λ (r : Stop). (m : Machine) → Means start old m → CutShort r told start m command before new after) (sym says.0) (λ m means.
    let did = replies m means in (did.0, (did.1.0, record { means = did.1.1; same = says.1 })))

-- a line that says nothing known
pub obeys_bad : (T : Type 0) (told : ℕ → Option Image) (start : State) (result : Result T Stop) (code : SessionValue) (before after : Option (List ℕ)) → SaysText bad_command result before after
    → Obeys told start result code Bad before code after
obeys_bad T told start (Ok x) code before after says = λ m means. record { next = m; said = bad_command; does = (refl, refl); means = means; wrote = says }
obeys_bad T told start (Err reason) code before after says =
    subst (λ (r : Stop). (m : Machine) → Means start code m → CutShort r told start m Bad before code after) (sym says.0)
    (λ m means. record { next = m; said = bad_command; does = (refl, refl); means = means; wrote = says.1 })

-- ---- the end of the input

few_drains : (own : List Entry) (count : ℕ) → length own + 4 ≤ 2 ^ 48 → count ≤ length own → min count (2 ^ 64 - 1) ≡ count
few_drains own count room few = omega (arith, room, few)

-- the store counts the drains exactly, since a pass has few entries
pub counts_drains : (own : TableId) (start : State) (pass : PassValue) → IsOnly own start pass → HasRoom pass → (tally_of pass.seen).drains ≡ count_by is_drain pass.seen
unfolding tally_of
counts_drains own start pass only room =
    few_drains pass.seen (count_by is_drain pass.seen)
    (subst (λ (es : List Entry). length es + 4 ≤ 2 ^ 48) (ap (λ (n : ℕ). of_pass n pass.seen) only.number ∙ all_own pass.seen only.named) room)
    (count_by-le-length is_drain pass.seen)

-- the summary of the counts, and of the drains as the store counts them
pub summarises : (own : TableId) (start : State) (reply : Result (List ℕ) Shortage) (old new : SessionValue) (tally : Tally) → IsOnly own start old.pass → Adds start [] old.pass new.pass → HasRoom old.pass
    → tally ≡ tally_of new.pass.seen → Tells reply (summary_of old.counts tally.drains) → new.clock ≡ old.clock → new.counts ≡ old.counts → Summarises start reply old new
summarises own start reply old new tally only adds room counts tells clock same = record {
  sees = adds;
  clock = clock;
  counts = same;
  tells = subst (λ (n : ℕ). Tells reply (summary_of old.counts n))
      (ap (λ (t : Tally). t.drains) counts ∙ counts_drains own start new.pass (only_adds own start [] old.pass new.pass only adds) (still_room start old.pass new.pass adds room)) tells;
}

-- the summary of the code is that of the machine
summary_is : (start : State) (old new : SessionValue) (m : Machine) → Means start new m → new.counts ≡ old.counts → summary_of old.counts (count_by is_drain new.pass.seen) ≡ summary_text m
summary_is start old new m means counts = λ i. summary_of ((sym counts ∙ means.counts) i) (count_by is_drain (means.seen i))

pub finishes_said : (T : Type 0) (start : State) (count : ℕ) (reply : Result (List ℕ) Shortage) (result : Result T Stop) (old mid new : SessionValue) (before after : Option (List ℕ))
    → DrainsAlone start (drain.Done count) old mid → Summarises start reply mid new → Says reply result before after → Finishes start result old before new after
finishes_said T start count (Ok text) (Ok x) old mid new before after drains sums says = λ m means.
    let out = drains.1 m means in
    let after_sum = means_same start mid new out.0 out.1.1 sums.sees sums.clock sums.counts in record {
      next = out.0;
      count = count;
      drained = out.1.0;
      means = after_sum;
      room = still_room start mid.pass new.pass sums.sees drains.0;
      wrote = subst (λ (t : List ℕ). Appends before after t) (sums.tells ∙ summary_is start mid new out.0 after_sum sums.counts) says;
    }
finishes_said T start count (Ok text) (Err reason) old mid new before after drains sums says =
    subst (λ (r : Stop). Finishes {T = T} start (Err r) old before new after) (sym says.0) (λ m means.
    let out = drains.1 m means in
    let after_sum = means_same start mid new out.0 out.1.1 sums.sees sums.clock sums.counts in record {
      next = out.0;
      count = count;
      drained = out.1.0;
      means = after_sum;
      room = still_room start mid.pass new.pass sums.sees drains.0;
      wrote = subst (λ (t : List ℕ). AppendsFront before after t) (sums.tells ∙ summary_is start mid new out.0 after_sum sums.counts) says.1;
    })
finishes_said T start count (Err short.Room) result old mid new before after drains sums says = absurd sums.tells
finishes_said T start count (Err short.Memory) (Ok x) old mid new before after drains sums says = absurd says
finishes_said T start count (Err short.Memory) (Err reason) old mid new before after drains sums says =
    subst (λ (r : Stop). Finishes {T = T} start (Err r) old before new after) (sym says.0) (λ m means.
    let out = drains.1 m means in
    (out.0, (inr (count, out.1.0), record { means = means_same start mid new out.0 out.1.1 sums.sees sums.clock sums.counts; same = says.1 })))

-- the drain was cut short
pub finish_fault : (T : Type 0) (start : State) (class : ℕ) (old new : SessionValue) (written : Option (List ℕ)) → DrainsAlone start (drain.DiskFault class) old new
    → Finishes {T = T} start (Err (stop.DiskFault class)) old written new written
finish_fault T start class old new written drains m means = let out = drains m means in (out.0, (out.1.0, record { means = out.1.1; same = refl }))

pub finish_spent : (T : Type 0) (start : State) (old new : SessionValue) (written : Option (List ℕ)) → DrainsAlone start drain.Spent old new → Finishes {T = T} start (Err stop.Spent) old written new written
finish_spent T start old new written drains m means =
    let out = drains m means in (out.0, (out.1.0, (out.1.1.0, record { means = out.1.1.1; same = refl })))

pub finish_short : (T : Type 0) (start : State) (old new : SessionValue) (written : Option (List ℕ)) → DrainsAlone start drain.NoMemory old new → Finishes {T = T} start (Err stop.NoMemory) old written new written
finish_short T start old new written drains m means = let out = drains m means in (out.0, (inl out.1.0, record { means = out.1.1; same = refl }))

-- ---- lines

short_nothing : (told : ℕ → Option Image) (m : Machine) (command : Command) → TakesMemory command → RunsShort told m command m
short_nothing told m (Metric point) takes = refl
short_nothing told m (Refused reason) takes = absurd takes
short_nothing told m Long takes = absurd takes
short_nothing told m (Clock t) takes = absurd takes
short_nothing told m (Ask q) takes = absurd takes
short_nothing told m Plan takes = absurd takes
short_nothing told m Write takes = absurd takes
short_nothing told m DrainAll takes = absurd takes
short_nothing told m Bad takes = absurd takes

-- memory ran out before a line was read
pub stops_nothing : (told : ℕ → Option Image) (start : State) (code : SessionValue) (line : Line) (written : Option (List ℕ)) → TakesMemory (command_of line code.clock)
    → Stops told start code line written stop.NoMemory code written
stops_nothing told start code line written takes = record {
  cut = λ m means. (
    m,
    (
      short_nothing told m (command_of line m.clock) (subst (λ (now : ℕ). TakesMemory (command_of line now)) means.clock takes),
      record { means = means; same = refl },
    ),
  );
  some = appends_some_none written;
}

-- a line that was served, or not, as its command
pub serves_line : {T : Type 0} (told : ℕ → Option Image) (start : State) (x : T) (old new : SessionValue) (line : Line) (command : Command) (before after : Option (List ℕ)) → command ≡ command_of line old.clock
    → Obeys told start (Ok x) old command before new after → AppendsSome before after → Serves told start old line before new after
serves_line told start x old new line command before after is obeys some = record {
  does = λ m means. subst (λ (c : Command). Done told start m c before new after) (is ∙ ap (command_of line) means.clock) (obeys m means);
  some = some;
}

pub stops_line : (T : Type 0) (told : ℕ → Option Image) (start : State) (reason : Stop) (old new : SessionValue) (line : Line) (command : Command) (before after : Option (List ℕ)) → command ≡ command_of line old.clock
    → Obeys {T = T} told start (Err reason) old command before new after → AppendsSome before after → Stops told start old line before reason new after
stops_line T told start reason old new line command before after is obeys some = record {
  cut = λ m means. subst (λ (c : Command). CutShort reason told start m c before new after) (is ∙ ap (command_of line) means.clock) (obeys m means);
  some = some;
}
