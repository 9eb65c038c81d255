-- From a store that was closed to the end of a run.
use Rattle.std.proofs.Common.{◌≡◌, ◌⊎◌, inl, inr, ◌∙◌, ℕ, zero, suc, ◌+◌, ◌<◌, ◌≤◌, ◌==◌, Bool, true, List, [], ◌∷◌, ◌++◌, length, map, Option, Some, None, IfSome, option_map, refl, sym, ap, subst, arith, append_assoc, length-append}
use Rattle.std.specs.Prelude.{count_by, filter, option_and_then, slice_get}
use Rattle.std.specs.Option.{option_map_or}
use Rattle.std.proofs.lemmas.Bool.Decides.{eqb_tells}
use Rattle.std.proofs.lemmas.List.Elements.{filter-append}
use Rattle.std.proofs.lemmas.List.Sums.{length-filter}
use Rattle.std.proofs.lemmas.Option.{none-some, slice_get-map, slice_get_within}
use Rattle.outside_io.specs.Image.{Image, WhereKnown}
use Rattle.outside_io.specs.Faults.{Rose}
use Rattle.outside_io.specs.declared.disk.Disk.{Ghosts}
use Rattle.atomic_table.specs.Seated.{TableId}
use Rattle.carbon_history.specs.declared.entry.Entry.{Entry}
use Rattle.carbon_history.specs.declared.entry.Entry.TheVariants.{Fault}
use Rattle.carbon_history.specs.Entries.{NamesPasses, about_class, drains, is_about, of_pass}
use Rattle.ring_format.specs.Patch.{PatchValue}
use Rattle.carbon_model.specs.State.{Kept, State}
use Rattle.carbon_model.specs.RingFiles.{Settings, Stands, StandsUnder}
use Rattle.carbon_model.specs.Replay.{IsLegalHistory, replay}
use Rattle.shard_core.specs.Opened.{StillOpens}
use Rattle.shard_core.specs.declared.fault.StartFault.TheVariants.{NoMemory}
use Rattle.shard_core.specs.declared.shard.Shard.{Shard}
use Rattle.shard_set.specs.Disks.{disk_faults, faults_at, told_at, told_of}
use Rattle.shard_set.specs.Opening.{StartsAll}
use Rattle.shard_core.specs.Started.{AreReadyShards}
use Rattle.shard_set.specs.OpeningState.{opening_of}
use Rattle.shard_set.proofs.OpeningLemmas.{still_all}
use Rattle.shard_set.proofs.StateLemmas.{opens_run}
use Rattle.shared_history.specs.Parts.{HasSeen, PassValue, PassesOfTable}
use Rattle.shared_store.specs.Closes.{Closes, EndsAs, HasSettled}
use Rattle.shared_store.specs.Passes.{settled_in}
use Rattle.shard_core.specs.Started.{AreReadyShards}
use Rattle.shared_store.specs.Tallies.{capped, is_fault}
use Rattle.shared_store.specs.declared.close.Closed.{Closed}
use Rattle.carbon_script.specs.Alone.{IsOnly}
use Rattle.carbon_script.specs.Script.{Machine, opening}
use Rattle.carbon_script.specs.Sessions.{EndsFrom, SessionValue}
use Rattle.carbon_script.specs.declared.serve.ScriptEnd.{ScriptEnd}
use Rattle.carbon_script.specs.declared.serve.ScriptEnd.TheVariants as end
use Rattle.carbon_script.specs.declared.serve.Scripted.{Scripted as Served}
use Rattle.carbon_script.proofs.AloneLemmas.{all_own}
use Rattle.carbon_script.proofs.PendingLemmas.{none_pending}
use Rattle.carbon_run.specs.Runs.{Answer, CameTo, EndsByDisk, EndsOver, EndsOverWith, IsDrained, NoStart, Scripted, Streams, TellsEnd}
use Rattle.carbon_run.specs.Stores.{RunsShards}

-- ---- the history

-- the only pass has seen all of the history
whole_history : (history : List Entry) (pass : PassValue) → pass.number ≡ 0 → NamesPasses 1 pass.seen → NamesPasses 1 history → HasSeen history pass → history ≡ pass.seen
whole_history history pass number named all seen =
    sym (all_own history all) ∙ (ap (λ (n : ℕ). of_pass n history) (sym number)
    ∙ (seen.own ∙ (ap (λ (n : ℕ). of_pass n pass.seen) number ∙ all_own pass.seen named)))

-- ---- disks

-- what is known of a disk once nothing lies over it
stands_alone : (opening now : Image) (kept : List ℕ → Option Kept) (class : ℕ) → StandsUnder opening now None kept class → Stands opening now kept class
stands_alone opening now kept class under = record {
  rings = under.rings;
  sound = λ path of_class. under.sound path of_class refl;
  others = under.others;
}

where_known : (told known : Option Image) (P Q : Image → Image → Type 0) → ((opening now : Image) → P opening now → Q opening now) → WhereKnown told known P → WhereKnown told known Q
where_known None None P Q more holds = tt
where_known None (Some now) P Q more holds = holds
where_known (Some opening) None P Q more holds = holds
where_known (Some opening) (Some now) P Q more holds = more opening now holds

ends_alone : {D : Type 0} (d : Ghosts D) (told : ℕ → Option Image) (start : State) (earlier : ℕ → ℕ) (pass : PassValue) (history : List Entry) (class : ℕ) (disk : D)
    → drains (about_class class history) ≤ settled_in class pass → EndsAs d told start earlier (pass ∷ []) history class disk
    → WhereKnown (told class) (d.image disk) (λ opening now. Stands opening now (replay start history).kept class)
ends_alone d told start earlier pass history class disk all ends =
    let settled : HasSettled class history (pass ∷ []) = record { place = 0; pass = pass; there = refl; all = all } in
    let whole : ends.patch ≡ None = ends.whole settled in
    let kept : List ℕ → Option Kept = (replay start history).kept in
    where_known (told class) (d.image disk) (λ opening now. StandsUnder opening now None kept class) (λ opening now. Stands opening now kept class)
    (λ opening now. stands_alone opening now kept class)
    (subst (λ (patch : Option PatchValue). WhereKnown (told class) (d.image disk) (λ opening now. StandsUnder opening now patch kept class)) whole ends.stands)

stands_each : {D : Type 0} (o : Option D) (P : D → Type 0) → ((disk : D) → o ≡ Some disk → P disk) → IfSome o P
stands_each None P each = tt
stands_each (Some disk) P each = each disk refl

-- a script that is done leaves nothing pending, and no drain half written
drained : {D : Type 0} (d : Ghosts D) (told : ℕ → Option Image) (start : State) (from : Machine) (earlier : ℕ → ℕ) (session : SessionValue) (left before left' mid : Option (List ℕ)) (history : List Entry) (disks : List D)
    → EndsFrom told start from end.Done left before left' session mid → history ≡ session.pass.seen → length disks ≡ 16
    → ((k : ℕ) (disk : D) → slice_get disks k ≡ Some disk → EndsAs d told start earlier (session.pass ∷ []) history k disk)
    → IsDrained d.image told disks (replay start history)
drained {D} d told start from earlier session left before left' mid history disks ends same sixteen each =
    let whole = ends.ends.0 in
    let means = whole.means in
    let entries : history ≡ whole.last.entries = same ∙ means.seen in
    let settled : (k : ℕ) (disk : D) → slice_get disks k ≡ Some disk → drains (about_class k history) ≤ settled_in k session.pass = λ k disk at.
    let few : k < 16 = omega (arith, sixteen, slice_get_within disks k disk at) in
    subst (λ (es : List Entry). drains (about_class k es) ≤ settled_in k session.pass) (sym entries) (means.settled k (whole.run.drained.none k few)) in record {
      none = λ class few.
          subst (λ (es : List Entry). (replay start es).pending class ≡ []) (sym entries)
          (subst (λ (s : State). s.pending class ≡ []) means.state (none_pending whole.run.last whole.run.count whole.last whole.run.drained class few));
      stand = λ k.
          stands_each (slice_get disks k) _ (λ disk at. ends_alone d told start earlier session.pass history k disk (settled k disk at) (each k disk at));
      shut = λ k.
          stands_each (slice_get disks k) _ (λ disk at.
          let ends = each k disk at in ends.shut (ends.whole (record { place = 0; pass = session.pass; there = refl; all = settled k disk at })));
    }

drained_over : {D : Type 0} (d : Ghosts D) (told : ℕ → Option Image) (start : State) (earlier : ℕ → ℕ) (session : SessionValue) (front left before left' mid : Option (List ℕ)) (history : List Entry) (disks : List D)
    → EndsOver told start end.Done front left before left' session mid → history ≡ session.pass.seen → length disks ≡ 16
    → ((k : ℕ) (disk : D) → slice_get disks k ≡ Some disk → EndsAs d told start earlier (session.pass ∷ []) history k disk)
    → IsDrained d.image told disks (replay start history)
drained_over d told start earlier session None left before left' mid history disks ends same sixteen each =
    drained d told start (opening start) earlier session left before left' mid history disks ends same sixteen each
drained_over d told start earlier session (Some front) left before left' mid history disks (inl within) same sixteen each = absurd within.breaks
drained_over d told start earlier session (Some front) left before left' mid history disks (inr after) same sixteen each =
    drained d told start after.mid earlier session left before left' mid history disks after.ends same sixteen each

-- ---- a disk that failed

same_number : (k : ℕ) → (k == k) ≡ true
same_number k = elim (eqb_tells k k) [
  | inl same ↦ same.0
  | inr other ↦ absurd (other.1 refl)
]

told_once : (class : ℕ) → length (filter is_fault (about_class class (Fault 0 class ∷ []))) ≡ 1
told_once class = rw (same_number class) refl

some_fault : (class : ℕ) (before : List Entry) → 1 ≤ count_by is_fault (about_class class (before ++ Fault 0 class ∷ []))
some_fault class before =
    let all : List Entry = about_class class (before ++ Fault 0 class ∷ []) in
    let first : List Entry = about_class class before in
    let last : List Entry = about_class class (Fault 0 class ∷ []) in
    let count : length (filter is_fault all) ≡ count_by is_fault all = length-filter is_fault all in
    let parts : length (filter is_fault all) ≡ length (filter is_fault first) + length (filter is_fault last) =
    ap (λ (es : List Entry). length (filter is_fault es)) (filter-append (is_about class) before (Fault 0 class ∷ []))
    ∙ (ap (λ (es : List Entry). length es) (filter-append is_fault first last) ∙ length-append (filter is_fault first) (filter is_fault last)) in
    let one : length (filter is_fault last) ≡ 1 = told_once class in
    omega (arith, count, parts, one)

rose_from : (earlier count failed : ℕ) → 1 ≤ count → capped (earlier + count) ≤ failed → Rose earlier failed
rose_from earlier count failed some told = omega (arith, some, told)

rose_at : {D : Type 0} (d : Ghosts D) (earlier : ℕ → ℕ) (class count : ℕ) (o : Option D) → IfSome o (λ disk. capped (earlier class + count) ≤ d.faults disk) → (o ≡ None → ⊥) → 1 ≤ count
    → Rose (earlier class) (option_map_or d.faults o 0)
rose_at d earlier class count None told there some = absurd (there refl)
rose_at d earlier class count (Some disk) told there some = rose_from (earlier class) count (d.faults disk) some told

there_below : {X : Type 0} (xs : List X) (k : ℕ) → k < length xs → slice_get xs k ≡ None → ⊥
there_below [] k few none = absurd (omega (arith, few))
there_below (x ∷ xs) zero few none = none-some x (sym none)
there_below (x ∷ xs) (suc k) few none = there_below xs k (omega (arith, few)) none

-- the drain at the end failed: the last entry tells so
fault_last : {D : Type 0} (d : Ghosts D) (told : ℕ → Option Image) (start : State) (from : Machine) (earlier : ℕ → ℕ) (session : SessionValue) (left before left' mid : Option (List ℕ)) (class : ℕ) (answer : Answer D)
    → EndsFrom told start from (end.DiskFault class) left before left' session mid → answer.history ≡ session.pass.seen → length answer.disks ≡ 16
    → ((k : ℕ) (disk : D) → slice_get answer.disks k ≡ Some disk → EndsAs d told start earlier (session.pass ∷ []) answer.history k disk)
    → EndsByDisk d earlier class answer
fault_last d told start from earlier session left before left' mid class answer ends same sixteen each =
    let stops = ends.ends.0 in
    let fails = stops.cut.1.0 in
    let silent = stops.cut.1.1 in
    let first : List Entry = stops.last.entries ++ fails.made in
    let last : answer.history ≡ first ++ Fault 0 class ∷ [] =
    same ∙ (silent.means.seen ∙ (ap (λ (m : Machine). m.entries) fails.becomes ∙ sym (append_assoc stops.last.entries fails.made (Fault 0 class ∷ [])))) in
    let some : 1 ≤ count_by is_fault (about_class class answer.history) =
    subst (λ (es : List Entry). 1 ≤ count_by is_fault (about_class class es)) (sym last) (some_fault class first) in record {
      before = first;
      last = last;
      cause = rose_at d earlier class (count_by is_fault (about_class class answer.history)) (slice_get answer.disks class)
          (stands_each (slice_get answer.disks class) _ (λ disk at. (each class disk at).faults))
          (there_below answer.disks class (omega (arith, sixteen, fails.within))) some;
    }

fault_over : {D : Type 0} (d : Ghosts D) (told : ℕ → Option Image) (start : State) (earlier : ℕ → ℕ) (session : SessionValue) (front left before left' mid : Option (List ℕ)) (class : ℕ) (answer : Answer D)
    → EndsOver told start (end.DiskFault class) front left before left' session mid → answer.history ≡ session.pass.seen → length answer.disks ≡ 16
    → ((k : ℕ) (disk : D) → slice_get answer.disks k ≡ Some disk → EndsAs d told start earlier (session.pass ∷ []) answer.history k disk)
    → EndsByDisk d earlier class answer
fault_over d told start earlier session None left before left' mid class answer ends same sixteen each =
    fault_last d told start (opening start) earlier session left before left' mid class answer ends same sixteen each
fault_over d told start earlier session (Some front) left before left' mid class answer (inl within) same sixteen each = absurd within.breaks
fault_over d told start earlier session (Some front) left before left' mid class answer (inr after) same sixteen each =
    fault_last d told start after.mid earlier session left before left' mid class answer after.ends same sixteen each

-- ---- the one pass

-- the rest of a list of one, without its last
none_left : {X : Type 0} (xs rest : List X) (x : X) → length xs ≡ 1 → xs ≡ rest ++ x ∷ [] → rest ≡ []
none_left xs [] x one same = refl
none_left xs (y ∷ rest) x one same = absurd (omega (arith, one, ap (λ (ys : List _). length ys) same, length-append rest (x ∷ [])))

last_alone : {X : Type 0} (ys rest : List X) (y : X) → rest ≡ [] → ys ≡ rest ++ y ∷ [] → ys ≡ y ∷ []
last_alone ys [] y none same = same
last_alone ys (z ∷ rest) y none same = absurd cc

-- the last was taken from a list of one, and another one put in its place
pub one_taken : {X : Type 0} (xs rest : List X) (x : X) → length xs ≡ 1 → xs ≡ rest ++ x ∷ [] → xs ≡ x ∷ []
one_taken xs rest x one same = last_alone xs rest x (none_left xs rest x one same) same

pub one_put : {X : Type 0} (xs rest ys : List X) (x y : X) → length xs ≡ 1 → xs ≡ rest ++ x ∷ [] → ys ≡ rest ++ y ∷ [] → ys ≡ y ∷ []
one_put xs rest ys x y one taken put = last_alone ys rest y (none_left xs rest x one taken) put

some_same : {X : Type 0} (x y : X) → Some x ≡ Some y → x ≡ y
some_same x y same = cc same

pub alone_of_table : (table : TableId) (passes : List PassValue) (pass : PassValue) → passes ≡ pass ∷ [] → pass.table ≡ table → PassesOfTable table passes
alone_of_table table passes pass one same = subst (λ (ps : List PassValue). PassesOfTable table ps) (sym one) (at_place pass same)
  where
    at_place : (p : PassValue) → p.table ≡ table → PassesOfTable table (p ∷ [])
    at_place p same zero q there = ap (λ (x : PassValue). x.table) (sym (some_same p q there)) ∙ same
    at_place p same (suc k) q there = absurd (none-some q there)

-- ---- the end of a store

-- what a script over a store came to, once the store is closed
pub came_to : {D : Type 0} (d : Ghosts D) (own : TableId) (told : ℕ → Option Image) (start : State) (earlier : ℕ → ℕ) (made : ℕ) (served : Served) (passes : List PassValue) (closed : Closed D) (streams : Streams) (mid : Option (List ℕ)) (answer : Answer D)
    → made ≡ 1 → passes ≡ served.pass ∷ [] → EndsOverWith told start served streams.front streams.left streams.written streams.left' mid → IsOnly own start served.pass
    → Closes d made told start earlier passes closed → TellsEnd served.end answer.status mid streams.written'
    → answer.history ≡ closed.history → answer.disks ≡ closed.disks.items → CameTo d told start earlier streams answer
came_to {D = D} d own told start earlier made served passes closed streams mid answer alone one ends only closes tells history disks =
    let pass : passes ≡ ends.code.pass ∷ [] = one ∙ ap (λ (p : PassValue). p ∷ []) (sym ends.pass) in
    let at : slice_get passes 0 ≡ Some served.pass = ap (λ (ps : List PassValue). slice_get ps 0) one in
    let named : NamesPasses 1 closed.history = subst (λ (n : ℕ). NamesPasses n closed.history) alone closes.names in
    let whole : closed.history ≡ served.pass.seen = whole_history closed.history served.pass only.number only.named named (closes.seen 0 served.pass at) in
    let seen : answer.history ≡ ends.code.pass.seen = history ∙ (whole ∙ ap (λ (p : PassValue). p.seen) (sym ends.pass)) in
    let sixteen : length answer.disks ≡ 16 = ap (λ (ds : List D). length ds) disks ∙ closes.sixteen in
    let each : (k : ℕ) (disk : D) → slice_get answer.disks k ≡ Some disk → EndsAs d told start earlier (ends.code.pass ∷ []) answer.history k disk = λ k disk there.
    subst (λ (ps : List PassValue). EndsAs d told start earlier ps answer.history k disk) pass
    (subst (λ (es : List Entry). EndsAs d told start earlier passes es k disk) (sym history)
    (closes.disks k disk (ap (λ (ds : List D). slice_get ds k) (sym disks) ∙ there))) in record {
      reason = served.end;
      session = ends.code;
      mid = mid;
      ends = ends.ends;
      tells = tells;
      history = seen;
      legal = subst (λ (es : List Entry). IsLegalHistory start es) (sym history) closes.legal;
      disks = each;
      done = λ is.
          drained_over d told start earlier ends.code streams.front streams.left streams.written streams.left' mid answer.history answer.disks
          (subst (λ (reason : ScriptEnd). EndsOver told start reason streams.front streams.left streams.written streams.left' ends.code mid) is ends.ends) seen sixteen each;
      fault = λ class is.
          fault_over d told start earlier ends.code streams.front streams.left streams.written streams.left' mid class answer
          (subst (λ (reason : ScriptEnd). EndsOver told start reason streams.front streams.left streams.written streams.left' ends.code mid) is ends.ends) seen sixteen each;
    }

-- ---- from the shards to the disks that were given

pub less_told : (earlier earlier' count failed : ℕ) → earlier' ≤ earlier → capped (earlier + count) ≤ failed → capped (earlier' + count) ≤ failed
less_told earlier earlier' count failed later told = omega (arith, later, told)

pub less_rose : (earlier earlier' failed : ℕ) → earlier' ≤ earlier → Rose earlier failed → Rose earlier' failed
less_rose earlier earlier' failed later rose = omega (arith, later, rose)

came_earlier : {D : Type 0} (d : Ghosts D) (told : ℕ → Option Image) (start : State) (earlier earlier' : ℕ → ℕ) (streams : Streams) (answer : Answer D) → ((k : ℕ) → earlier' k ≤ earlier k)
    → CameTo d told start earlier streams answer → CameTo d told start earlier' streams answer
came_earlier d told start earlier earlier' streams answer later came = record {
  reason = came.reason;
  session = came.session;
  mid = came.mid;
  ends = came.ends;
  tells = came.tells;
  history = came.history;
  legal = came.legal;
  disks = λ k disk there.
      let ends = came.disks k disk there in record {
        patch = ends.patch;
        stands = ends.stands;
        last = ends.last;
        whole = ends.whole;
        shut = ends.shut;
        faults = less_told (earlier k) (earlier' k) (count_by is_fault (about_class k answer.history)) (d.faults disk) (later k) ends.faults;
      };
  done = came.done;
  fault = λ class is.
      let fails = came.fault class is in record {
        before = fails.before;
        last = fails.last;
        cause = less_rose (earlier class) (earlier' class) (disk_faults d.faults answer.disks class) (later class) fails.cause;
      };
}

-- what the disk of a shard told, it tells once it is handed back
told_back : {D : Type 0} {d : Ghosts D} (o : Option (Shard D d)) → option_and_then d.image (option_map (λ shard. shard.files.disk) o) ≡ option_and_then (λ shard. d.image shard.files.disk) o
told_back None = refl
told_back (Some shard) = refl

pub back_same : {D : Type 0} {d : Ghosts D} (shards : List (Shard D d)) (k : ℕ) → told_of d.image (map (λ shard. shard.files.disk) shards) k ≡ told_at shards k
back_same {d = d} shards k = rw (slice_get-map (λ shard. shard.files.disk) shards k) (told_back (slice_get shards k))

pub length_back : {D : Type 0} {d : Ghosts D} (shards : List (Shard D d)) → length (map (λ shard. shard.files.disk) shards) ≡ length shards
length_back [] = refl
length_back (shard ∷ shards) = ap suc (length_back shards)

-- they open as they did
pub back_opens : {D : Type 0} {d : Ghosts D} (given back : List D) (shards : List (Shard D d)) → back ≡ map (λ shard. shard.files.disk) shards → ((k : ℕ) → WhereKnown (told_of d.image given k) (told_at shards k) StillOpens)
    → (k : ℕ) → WhereKnown (told_of d.image given k) (told_of d.image back k) StillOpens
back_opens {d = d} given back shards is opens k =
    subst (λ (o : Option Image). WhereKnown (told_of d.image given k) o StillOpens) (sym (ap (λ (ds : List _). told_of d.image ds k) is ∙ back_same shards k)) (opens k)

-- shards of these disks started: memory runs out for their history, or the script runs
pub started : {D : Type 0} {d : Ghosts D} (settings : Settings) (redo : Bool) (given : List D) (shards : List (Shard D d)) (streams : Streams) (answer : Answer D) → StartsAll settings redo given shards
    → RunsShards (told_at shards) (opening_of shards) (faults_at shards) shards streams answer → NoStart d streams given answer ⊎ Scripted d settings redo streams given answer
started {d = d} settings redo given shards streams answer starts (inl lacks) = inl (record {
  refusal = record { class = 0; fault = NoMemory };
  refuses = record {
    class = omega arith;
    all = ap (λ (ds : List _). length ds) lacks.disks ∙ (length_back shards ∙ starts.all);
    opens = back_opens given answer.disks shards lacks.disks (still_all settings redo given shards starts);
    damaged = tt;
    below = λ k few. absurd (omega (arith, few));
    cause = λ failed. absurd failed;
  };
  tells = lacks.tells;
  history = lacks.history;
  input = lacks.input;
})
started {d = d} settings redo given shards streams answer starts (inr came) = inr (record {
  shards = shards;
  starts = starts;
  told = told_at shards;
  told_is = λ k. refl;
  opening = starts.opening;
  sound = starts.sound;
  start = opening_of shards;
  opens = opens_run settings redo (told_at shards) given shards starts.all starts.each (λ k. refl);
  came = came_earlier d (told_at shards) (opening_of shards) (faults_at shards) (disk_faults d.faults given) streams answer starts.later came;
})

-- shards that are ready are those that a store starts from
pub fresh_from : {D : Type 0} {d : Ghosts D} (told : ℕ → Option Image) (start : State) (earlier : ℕ → ℕ) (shards : List (Shard D d)) → AreReadyShards told start earlier shards → AreReadyShards told start earlier shards
fresh_from told start earlier shards ready k shard there =
    let one = ready k shard there in record { class = one.class; empty = one.empty; idle = one.idle; holds = one.holds; faults = one.faults }
