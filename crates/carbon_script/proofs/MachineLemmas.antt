-- From what a pass sees to what the machine does.
use Rattle.std.proofs.Common.{◌≡◌, ◌≢◌, ◌⊎◌, ◌∙◌, inl, inr, ℕ, zero, suc, ◌<◌, ◌≤◌, ◌+◌, ◌^◌, ◌*◌, ◌==◌, Bool, true, false, cond, List, [], ◌∷◌, ◌++◌, Option, length, refl, sym, ap, subst, arith, append-nil, length-append}
use Rattle.std.specs.Prelude.{Result, Ok, Err}
use Rattle.std.specs.Result.{IsErrAnd}
use Rattle.std.proofs.lemmas.Bool.{false≢true}
use Rattle.std.proofs.lemmas.Bool.Decides.{eqb_tells}
use Rattle.outside_io.specs.Image.{Image}
use Rattle.metric_path.specs.Class.{class_of}
use Rattle.metric_line.specs.Point.{Point}
use Rattle.carbon_history.specs.declared.entry.Entry.{Entry}
use Rattle.carbon_history.specs.declared.entry.Entry.TheVariants as entry
use Rattle.carbon_history.specs.declared.entry.PutEnd.{PutEnd}
use Rattle.carbon_history.specs.Entries.{NamesPasses, about_class, drains, of_pass}
use Rattle.carbon_model.specs.State.{State}
use Rattle.carbon_model.specs.Replay.{IsLegal, IsLegalHistory, replay}
use Rattle.carbon_model.proofs.HistoryLemmas.{legal_parts, replay-append}
use Rattle.shared_history.specs.Parts.{PassValue, own_entries}
use Rattle.shared_history.proofs.ListLemmas.{upd, upd_else, upd_same}
use Rattle.shared_store.specs.Asks.{tries_of}
use Rattle.shared_store.specs.Passes.{Enters, IsSettled, IsUnderWay, SameLooks, planned_in, runs_in, settled_in}
use Rattle.shared_store.specs.Steps.{NeedsNoWrite}
use Rattle.atomic_table.specs.Seated.{TableId}
use Rattle.carbon_script.specs.Alone.{Adds, IsOnly, debts}
use Rattle.carbon_script.specs.Command.{Command, Metric, Plan, Write}
use Rattle.carbon_script.specs.Counts.{counted}
use Rattle.carbon_script.specs.Replies.{Lacks, Replies, SaysBegun, SaysRun, Tells, TellsRoom, counting}
use Rattle.carbon_script.specs.Rounds.{AreWritten, Begins, BeginsDrain, BeginsFault, BeginsNone, IsPassedOver, ShowsAll, Writes, WritesFault as FaultWritten, WritesNone as NoneWritten, WritesOne}
use Rattle.carbon_script.specs.Script.{Does, Machine, MayPlan, PlansFault, PlansMetric, PlansNone, WritesFault, WritesNone, WritesRun, drain_entry, fault_entry, put_entry, with_entries}
use Rattle.carbon_script.specs.Sessions.{DoesSome, IsSpent, Means, RunsShort, SessionValue, StopsSpent}
use Rattle.carbon_script.specs.Texts.{plan_fault_text, plan_idle, plan_text, write_fault_text, write_finished, write_nothing, write_run}
use Rattle.carbon_script.specs.declared.reply.Shortage.{Shortage}
use Rattle.carbon_script.specs.declared.reply.Shortage.TheVariants as short
use Rattle.carbon_script.specs.declared.round.Begun.{Begun}
use Rattle.carbon_script.specs.declared.round.Begun.TheVariants as begun
use Rattle.carbon_script.specs.declared.round.NextRun.{NextRun}
use Rattle.carbon_script.specs.declared.round.NextRun.TheVariants as run
use Rattle.carbon_script.proofs.AloneLemmas.{adds_same, all_own, debt_none, debt_some, drains_both, is_debt, no_debt}

-- ---- entries that are no drains of a class

abbrev pub HasNone : ℕ → List Entry → Type 0
HasNone class entries = drains (about_class class entries) ≡ 0

pub none_fault : (class k : ℕ) → HasNone k (fault_entry class ∷ [])
none_fault class k = by (class == k)
  where
    by : (b : Bool) → drains (cond b (fault_entry class ∷ []) []) ≡ 0
    by true = refl
    by false = refl

pub none_put : (point : Point) (end : PutEnd) (k : ℕ) → HasNone k (put_entry point end ∷ [])
none_put point end k = by (class_of point.path == k)
  where
    by : (b : Bool) → drains (cond b (put_entry point end ∷ []) []) ≡ 0
    by true = refl
    by false = refl

pub none_other : (path : List ℕ) (now k : ℕ) → k ≢ class_of path → HasNone k (entry.Drain 0 path now ∷ [])
none_other path now k apart = elim (eqb_tells (class_of path) k) [
  | inl same ↦ absurd (apart (sym same.1))
  | inr other ↦ ap (λ (b : Bool). drains (cond b (entry.Drain 0 path now ∷ []) [])) other.0
]

pub none_both : (k : ℕ) (xs ys : List Entry) → HasNone k xs → HasNone k ys → HasNone k (xs ++ ys)
none_both k xs ys first second = omega (arith, drains_both k xs ys, first, second)

pub none_tries : (number now count k : ℕ) → HasNone k (tries_of 0 number now count)
none_tries number now zero k = refl
none_tries number now (suc count) k = none_both k (tries_of 0 number now count) (entry.Ask 0 number (suc count) now ∷ []) (none_tries number now count k) refl

-- ---- the machine that the code stands for

-- the entries of a pass that sees what a machine has, and made some more
pub seen_more : (start : State) (old new : SessionValue) (m : Machine) (entries : List Entry) → Means start old m → Adds start entries old.pass new.pass → new.pass.seen ≡ m.entries ++ entries
seen_more start old new m entries means adds = adds.seen ∙ ap (λ (es : List Entry). es ++ entries) means.seen

-- of a class of which none was drained there are as many drains as before
drains_same : (start : State) (old new : SessionValue) (m : Machine) (entries : List Entry) (class : ℕ) → Means start old m → Adds start entries old.pass new.pass → HasNone class entries
    → drains (about_class class new.pass.seen) ≡ drains (about_class class m.entries)
drains_same start old new m entries class means adds none =
    ap (λ (es : List Entry). drains (about_class class es)) (seen_more start old new m entries means adds)
    ∙ omega (arith, drains_both class m.entries entries, none)

pub means_adds : (start : State) (old new : SessionValue) (m next : Machine) (entries : List Entry) → Means start old m → Adds start entries old.pass new.pass
    → next.entries ≡ m.entries ++ entries → next.state ≡ replay m.state entries → new.clock ≡ next.clock → new.counts ≡ next.counts
    → ((class : ℕ) → next.owes class ≡ false → drains (about_class class new.pass.seen) ≤ settled_in class new.pass)
    → ((class : ℕ) → next.runs class ≤ runs_in class new.pass) → Means start new next
means_adds start old new m next entries means adds entered state clock counts settled runs =
    let seen : new.pass.seen ≡ next.entries = seen_more start old new m entries means adds ∙ sym entered in record {
      seen = seen;
      number = adds.number ∙ means.number;
      alone = subst (NamesPasses 1) seen adds.named;
      state = state ∙ ap (λ (s : State). replay s entries) means.state ∙ sym (replay-append start m.entries entries) ∙ ap (replay start) (sym entered);
      clock = clock;
      counts = counts;
      settled = λ class none. subst (λ (es : List Entry). drains (about_class class es) ≤ settled_in class new.pass) seen (settled class none);
      runs = runs;
    }

-- the debts that a machine had are kept where nothing was drained
pub owes_kept : (start : State) (old new : SessionValue) (m : Machine) (entries : List Entry) → Means start old m → Adds start entries old.pass new.pass
    → ((class : ℕ) → HasNone class entries) → (class : ℕ) → m.owes class ≡ false → drains (about_class class new.pass.seen) ≤ settled_in class new.pass
owes_kept start old new m entries means adds none class free =
    omega (arith, drains_same start old new m entries class means adds (none class), means.settled class free, adds.settled class)

pub runs_kept : (start : State) (old new : SessionValue) (m : Machine) (entries : List Entry) → Means start old m → Adds start entries old.pass new.pass
    → (class : ℕ) → m.runs class ≤ runs_in class new.pass
runs_kept start old new m entries means adds class = omega (arith, means.runs class, adds.runs class)

-- what the pass knows to be owed was owed, where nothing of the class was drained
pub was_owed : (start : State) (old new : SessionValue) (m : Machine) (entries : List Entry) (class : ℕ) → Means start old m → Adds start entries old.pass new.pass
    → HasNone class entries → debts new.pass class ≡ true → m.owes class ≡ true
was_owed start old new m entries class means adds none owes = by (m.owes class) refl
  where
    by : (b : Bool) → m.owes class ≡ b → b ≡ true
    by true is = refl
    by false is =
        absurd (omega (arith, debt_some new.pass class owes, drains_same start old new m entries class means adds none, means.settled class is, adds.settled class))

-- the machine with these entries more, which owes what the pass knows
abbrev pub known_with : Machine → List Entry → PassValue → Machine
known_with m entries pass = record (with_entries m entries) { owes = debts pass }

pub means_known : (start : State) (old new : SessionValue) (m : Machine) (entries : List Entry) → Means start old m → Adds start entries old.pass new.pass
    → new.clock ≡ old.clock → new.counts ≡ old.counts → Means start new (known_with m entries new.pass)
means_known start old new m entries means adds clock counts =
    means_adds start old new m (known_with m entries new.pass) entries means adds refl refl (clock ∙ means.clock) (counts ∙ means.counts)
    (λ class none. debt_none new.pass class none) (runs_kept start old new m entries means adds)

-- the machine with these entries more, which owes what it owed
pub means_with : (start : State) (old new : SessionValue) (m : Machine) (entries : List Entry) → Means start old m → Adds start entries old.pass new.pass
    → ((class : ℕ) → HasNone class entries) → new.clock ≡ old.clock → new.counts ≡ old.counts → Means start new (with_entries m entries)
means_with start old new m entries means adds none clock counts =
    means_adds start old new m (with_entries m entries) entries means adds refl refl (clock ∙ means.clock) (counts ∙ means.counts)
    (owes_kept start old new m entries means adds none) (runs_kept start old new m entries means adds)

-- the machine itself, where no entry was made
pub means_same : (start : State) (old new : SessionValue) (m : Machine) → Means start old m → Adds start [] old.pass new.pass
    → new.clock ≡ old.clock → new.counts ≡ old.counts → Means start new m
means_same start old new m means adds clock counts =
    means_adds start old new m m [] means adds (sym (append-nil m.entries)) refl (clock ∙ means.clock) (counts ∙ means.counts)
    (owes_kept start old new m [] means adds (λ class. refl)) (runs_kept start old new m [] means adds)

-- an entry that the pass made is legal in the machine's state
pub last_legal : (start : State) (old new : SessionValue) (m : Machine) (e : Entry) → Means start old m → Adds start (e ∷ []) old.pass new.pass → IsLegal m.state e
last_legal start old new m e means adds =
    subst (λ (s : State). IsLegal s e) (sym means.state)
    (legal_parts start m.entries (e ∷ []) (subst (IsLegalHistory start) (seen_more start old new m (e ∷ []) means adds) adds.legal)).1.0

pub is_spent : (start : State) (code : SessionValue) (m : Machine) → Means start code m → 2 ^ 48 < length (own_entries code.pass) + 4 → IsSpent m
is_spent start code m means spent =
    subst (λ (es : List Entry). 2 ^ 48 < length es + 4)
    ((λ i. of_pass (means.number i) (means.seen i)) ∙ all_own m.entries means.alone) spent

-- ---- replies

-- what was done is told, unless memory runs out for that
pub told_or_short : (told : ℕ → Option Image) (start : State) (command : Command) (old new : SessionValue) (said : List ℕ) (reply : Result (List ℕ) Shortage)
    → ((m next : Machine) → DoesSome told m command next → RunsShort told m command next) → Tells reply said
    → ((m : Machine) → Means start old m → (next : Machine) × (Does told m command next said × Means start new next)) → Replies told start command reply old new
told_or_short told start command old new said (Ok text) runs_short tells done = λ m means.
    let did = done m means in record {
      next = did.0;
      does = subst (λ (t : List ℕ). Does told m command did.0 t) (sym tells) did.1.0;
      means = did.1.1;
    }
told_or_short told start command old new said (Err short.Room) runs_short tells done = absurd tells
told_or_short told start command old new said (Err short.Memory) runs_short tells done = λ m means.
    let did = done m means in (did.0, (runs_short m did.0 (said, did.1.0), did.1.1))

pub lacks_memory : (told : ℕ → Option Image) (start : State) (command : Command) (old new : SessionValue) (reply : Result (List ℕ) Shortage) → Lacks short.Memory reply
    → ((m : Machine) → Means start old m → (next : Machine) × (RunsShort told m command next × Means start new next)) → Replies told start command reply old new
lacks_memory told start command old new (Ok text) lacks done = absurd lacks
lacks_memory told start command old new (Err short.Room) lacks done = absurd lacks
lacks_memory told start command old new (Err short.Memory) lacks done = done

-- the pass has no room for a call
pub lacks_room : (told : ℕ → Option Image) (start : State) (command : Command) (code : SessionValue) → ((m : Machine) → StopsSpent m command m) → 2 ^ 48 < length (own_entries code.pass) + 4
    → Replies told start command (Err short.Room) code code
lacks_room told start command code stops spent m means = (m, (stops m, (is_spent start code m means spent, means)))

-- whichever want it is that the room tells, there is no room
pub no_room : (T : Type 0) (why : Shortage) (pass : PassValue) → TellsRoom {T = T} (Err why) pass → 2 ^ 48 < length (own_entries pass) + 4
no_room T short.Room pass tells = tells
no_room T short.Memory pass tells = absurd tells

pub room_lacks : (T : Type 0) (told : ℕ → Option Image) (start : State) (command : Command) (why : Shortage) (reply : Result (List ℕ) Shortage) (code : SessionValue)
    → IsErrAnd reply (λ other. other ≡ why) → ((m : Machine) → StopsSpent m command m) → TellsRoom {T = T} (Err why) code.pass → Replies told start command reply code code
room_lacks T told start command why (Ok text) code is stops tells = absurd is
room_lacks T told start command short.Room (Err other) code is stops tells =
    subst (λ (why : Shortage). Replies told start command (Err why) code code) (sym is) (lacks_room told start command code stops tells)
room_lacks T told start command short.Memory (Err other) code is stops tells = absurd tells

-- ---- puts

pub put_adds : (own : TableId) (start : State) (passes : ℕ) (old new : PassValue) (point : Point) (end : PutEnd) → passes ≡ 1 → IsOnly own start old
    → Enters start passes (entry.Put old.number point.path point.time point.value end ∷ []) old new → SameLooks old new → Adds start (put_entry point end ∷ []) old new
put_adds own start passes old new point end alone only enters looks =
    subst (λ (k : ℕ). Adds start (entry.Put k point.path point.time point.value end ∷ []) old new) only.number
    (adds_same start passes (entry.Put old.number point.path point.time point.value end ∷ []) old new alone only.number enters looks)

pub replies_put : (told : ℕ → Option Image) (start : State) (old mid new : SessionValue) (point : Point) (end : PutEnd) (said : List ℕ) → Adds start (put_entry point end ∷ []) old.pass mid.pass
    → mid.clock ≡ old.clock → mid.counts ≡ old.counts → said ≡ [] → new ≡ counting mid end → Replies told start (Metric point) (Ok said) old new
replies_put told start old mid new point end said adds clock counts silent is m means =
    let next : Machine = record (with_entries m (put_entry point end ∷ [])) { counts = counted m.counts end } in
    let there : Adds start (put_entry point end ∷ []) old.pass new.pass =
    subst (λ (code : SessionValue). Adds start (put_entry point end ∷ []) old.pass code.pass) (sym is) adds in record {
      next = next;
      does = (record { end = end; legal = last_legal start old new m (put_entry point end) means there; becomes = refl }, silent);
      means = means_adds start old new m next (put_entry point end ∷ []) means there refl refl (ap (λ (code : SessionValue). code.clock) is ∙ (clock ∙ means.clock))
          (ap (λ (code : SessionValue). code.counts) is ∙ ap (λ c. counted c end) (counts ∙ means.counts))
          (owes_kept start old new m (put_entry point end ∷ []) means there (none_put point end))
          (runs_kept start old new m (put_entry point end ∷ []) means there);
    }

pub short_put : (told : ℕ → Option Image) (start : State) (old new : SessionValue) (point : Point) → Adds start [] old.pass new.pass → new.clock ≡ old.clock → new.counts ≡ old.counts
    → Replies told start (Metric point) (Err short.Memory) old new
short_put told start old new point adds clock counts m means = (m, (refl, means_same start old new m means adds clock counts))

-- ---- plans

-- a list with one more element has one front
pub front_is : {A : Type 0} (xs ys : List A) (a b : A) → xs ++ a ∷ [] ≡ ys ++ b ∷ [] → xs ≡ ys
front_is [] [] a b same = refl
front_is [] (y ∷ ys) a b same = absurd (omega (arith, ap (λ (l : List _). length l) same, length-append ys (b ∷ [])))
front_is (x ∷ xs) [] a b same = absurd (omega (arith, ap (λ (l : List _). length l) same, length-append xs (a ∷ [])))
front_is (x ∷ xs) (y ∷ ys) a b same = let rest = front_is xs ys a b (cc same) in cc (same, rest)

-- a class that shows a drain under way owes it
under_way_owes : (start : State) (old new : SessionValue) (m : Machine) (entries : List Entry) (class : ℕ) → Means start old m → Adds start entries old.pass new.pass
    → HasNone class entries → ShowsAll old.pass.seen class new.pass → IsUnderWay class new.pass → debts new.pass class ≡ true
under_way_owes start old new m entries class means adds none shows under_way =
    is_debt new.pass class (omega (arith, drains_same start old new m entries class means adds none, shows, under_way, ap (λ (es : List Entry). drains (about_class class es)) means.seen))

-- a class that shows all its drains settled owes nothing
settled_owes : (start : State) (old new : SessionValue) (m : Machine) (entries : List Entry) (class : ℕ) → Means start old m → Adds start entries old.pass new.pass
    → HasNone class entries → ShowsAll old.pass.seen class new.pass → IsSettled class new.pass → debts new.pass class ≡ false
settled_owes start old new m entries class means adds none shows settled =
    no_debt new.pass class (omega (arith, drains_same start old new m entries class means adds none, shows, settled, ap (λ (es : List Entry). drains (about_class class es)) means.seen))

pending_of : (start : State) (old : SessionValue) (m : Machine) (class : ℕ) (seen : List Entry) → Means start old m → seen ≡ old.pass.seen → m.state.pending class ≡ (replay start seen).pending class
pending_of start old m class seen means same = ap (λ (s : State). s.pending class) (means.state ∙ ap (replay start) (sym means.seen ∙ sym same))

-- a class that was passed over could begin no drain, whatever else is known of the debts
passed_over : (start : State) (old new : SessionValue) (m : Machine) (entries : List Entry) (class : ℕ) → Means start old m → Adds start entries old.pass new.pass
    → HasNone class entries → IsPassedOver start old.pass.seen class new.pass → (owes : ℕ → Bool) → owes class ≡ debts new.pass class → MayPlan m.state owes class → ⊥
passed_over start old new m entries class means adds none (inl busy) owes is may =
    false≢true (sym may.free ∙ is ∙ under_way_owes start old new m entries class means adds none busy.0 busy.1)
passed_over start old new m entries class means adds none (inr idle) owes is may =
    may.some (pending_of start old m class old.pass.seen means refl ∙ idle)

not_equal : (k class : ℕ) → k < class → k ≢ class
not_equal k class less same = omega (arith, less, same)

settled_at : (planned all settled : ℕ) → planned ≡ all → (planned ≡ settled) ⊎ (planned ≡ settled + 1) → all ≤ settled → planned ≡ settled
settled_at planned all settled shows (inl even) few = even
settled_at planned all settled shows (inr more) few = absurd (omega (arith, shows, more, few))

pub at_most : (planned all settled : ℕ) → planned ≡ all → planned ≡ settled → all ≤ settled
at_most planned all settled shows even = omega (arith, shows, even)

plans_metric : (start : State) (old new : SessionValue) (m : Machine) (path : List ℕ) → Means start old m → BeginsDrain start m.clock path old.pass new.pass
    → PlansMetric m (known_with m (drain_entry m path ∷ []) new.pass) (plan_text path)
plans_metric start old new m path means begins =
    let entries = drain_entry m path ∷ [] in
    let adds = begins.adds in
    let class = begins.class in
    let took = begins.took in
    let eased : ℕ → Bool = upd (debts new.pass) class false in
    let before : took.before ≡ old.pass.seen =
    front_is took.before old.pass.seen (entry.Drain new.pass.number path m.clock) (drain_entry m path) (sym took.last ∙ adds.seen) in
    let apart : (k : ℕ) → k ≢ class → HasNone k entries = λ k other. none_other path m.clock k (λ same. other (same ∙ took.here)) in record {
      eased = eased;
      eases = λ k owes. elim (eqb_tells k class) [
        | inl same ↦ absurd (false≢true (sym (upd_same (debts new.pass) class k false same.1) ∙ owes))
        | inr other ↦ was_owed start old new m entries k means adds (apart k other.1) (sym (upd_else (debts new.pass) class k false other.1) ∙ owes)
      ];
      class = class;
      chosen = record {
        within = begins.within;
        may = record {
          free = upd_same (debts new.pass) class class false refl;
          some = λ none. took.some (sym (pending_of start old m class took.before means before) ∙ none);
        };
        least = λ k less.
            let other = not_equal k class less in
            passed_over start old new m entries k means adds (apart k other) (begins.over k less) eased (upd_else (debts new.pass) class k false other);
      };
      path = path;
      here = took.here;
      legal = last_legal start old new m (drain_entry m path) means adds;
      owed = debts new.pass class;
      unless = (
        (λ free. subst (λ (s : State). NeedsNoWrite s path m.clock) (ap (replay start) (before ∙ means.seen) ∙ sym means.state)
            (took.nothing.0 (settled_at (planned_in class new.pass) (drains (about_class class new.pass.seen)) (settled_in class new.pass) begins.shows took.either (debt_none new.pass class free)))),
        (λ needs. no_debt new.pass class (at_most (planned_in class new.pass) (drains (about_class class new.pass.seen)) (settled_in class new.pass) begins.shows
            (took.nothing.1 (subst (λ (s : State). NeedsNoWrite s path m.clock) (means.state ∙ ap (replay start) (sym means.seen ∙ sym before)) needs)))),
      );
      debts = record {
        here = refl;
        others = λ k other. sym (upd_else (debts new.pass) class k false other);
      };
      becomes = refl;
      says = refl;
    }

plans_fault : (start : State) (old new : SessionValue) (m : Machine) (class : ℕ) → Means start old m → BeginsFault start class old.pass new.pass
    → PlansFault m (known_with m (fault_entry class ∷ []) new.pass) (plan_fault_text class)
plans_fault start old new m class means begins =
    let entries = fault_entry class ∷ [] in
    let adds = begins.adds in
    let failed = begins.failed in
    let before : failed.before ≡ old.pass.seen = front_is failed.before old.pass.seen (entry.Fault new.pass.number class) (fault_entry class) (sym failed.last ∙ adds.seen) in record {
      class = class;
      eases = λ k owes. was_owed start old new m entries k means adds (none_fault class k) owes;
      chosen = record {
        within = begins.within;
        may = record {
          free = no_debt new.pass class (at_most (planned_in class new.pass) (drains (about_class class new.pass.seen)) (settled_in class new.pass) begins.shows failed.settled);
          some = λ none. failed.some (sym (pending_of start old m class failed.before means before) ∙ none);
        };
        least = λ k less. passed_over start old new m entries k means adds (none_fault class k) (begins.over k less) (debts new.pass) refl;
      };
      becomes = refl;
      says = refl;
    }

-- the machine that found debts to have ended, and else is what it was
abbrev pub eased_by : Machine → PassValue → Machine
eased_by m pass = record m { owes = debts pass }

means_eased : (start : State) (old new : SessionValue) (m : Machine) → Means start old m → Adds start [] old.pass new.pass
    → new.clock ≡ old.clock → new.counts ≡ old.counts → Means start new (eased_by m new.pass)
means_eased start old new m means adds clock counts =
    means_adds start old new m (eased_by m new.pass) [] means adds (sym (append-nil m.entries)) refl (clock ∙ means.clock) (counts ∙ means.counts)
    (λ class none. debt_none new.pass class none) (runs_kept start old new m [] means adds)

plans_none : (start : State) (old new : SessionValue) (m : Machine) → Means start old m → BeginsNone start old.pass new.pass → PlansNone m (eased_by m new.pass) plan_idle
plans_none start old new m means begins = record {
  eases = λ k owes. was_owed start old new m [] k means begins.adds refl owes;
  none = λ class few. passed_over start old new m [] class means begins.adds refl (begins.over class few) (debts new.pass) refl;
  becomes = refl;
  says = refl;
}

pub replies_plan : (told : ℕ → Option Image) (start : State) (came : Begun) (reply : Result (List ℕ) Shortage) (old new : SessionValue) → Begins start old.clock came old.pass new.pass
    → SaysBegun came reply → new.clock ≡ old.clock → new.counts ≡ old.counts → Replies told start Plan reply old new
replies_plan told start (begun.Metric path) reply old new begins says clock counts =
    told_or_short told start Plan old new (plan_text path) reply (λ m next done. inr done) says (λ m means.
    let now = subst (λ (t : ℕ). BeginsDrain start t path old.pass new.pass) means.clock begins in (
      known_with m (drain_entry m path ∷ []) new.pass,
      (inl (plans_metric start old new m path means now), means_known start old new m (drain_entry m path ∷ []) means now.adds clock counts),
    ))
replies_plan told start (begun.DiskFault class) reply old new begins says clock counts =
    told_or_short told start Plan old new (plan_fault_text class) reply (λ m next done. inr done) says (λ m means. (
      known_with m (fault_entry class ∷ []) new.pass,
      (inr (inl (plans_fault start old new m class means begins)), means_known start old new m (fault_entry class ∷ []) means begins.adds clock counts),
    ))
replies_plan told start begun.Nothing reply old new begins says clock counts =
    told_or_short told start Plan old new plan_idle reply (λ m next done. inr done) says (λ m means. (
      eased_by m new.pass,
      (inr (inr (plans_none start old new m means begins)), means_eased start old new m means begins.adds clock counts),
    ))
replies_plan told start begun.NoMemory reply old new adds says clock counts =
    lacks_memory told start Plan old new reply says (λ m means. (
      eased_by m new.pass,
      (
        inl (record { eases = λ k owes. was_owed start old new m [] k means adds refl owes; becomes = refl }),
        means_eased start old new m means adds clock counts,
      ),
    ))

-- ---- writes

all_written : (start : State) (old new : SessionValue) (m : Machine) (entries : List Entry) (count : ℕ) → Means start old m → Adds start entries old.pass new.pass
    → ((k : ℕ) → HasNone k entries) → AreWritten old.pass.seen count new.pass → (k : ℕ) → k < count → debts new.pass k ≡ false
all_written start old new m entries count means adds none written k less =
    settled_owes start old new m entries k means adds (none k) (written k less).shows (written k less).settled

-- one run more of a class, and no more of any other
abbrev pub ran_once : Machine → ℕ → PassValue → Machine
ran_once m class pass = record m { owes = debts pass; runs = upd m.runs class (m.runs class + 1) }

runs_at : (runs : ℕ → ℕ) (class : ℕ) (pass : PassValue) → ((k : ℕ) → runs k ≤ runs_in k pass) → runs class + 1 ≤ runs_in class pass → (k : ℕ) → upd runs class (runs class + 1) k ≤ runs_in k pass
runs_at runs class pass all here k = elim (eqb_tells k class) [
  | inl same ↦ subst (λ (n : ℕ). n ≤ runs_in k pass) (sym (upd_same runs class k (runs class + 1) same.1)) (subst (λ (j : ℕ). runs class + 1 ≤ runs_in j pass) (sym same.1) here)
  | inr other ↦ subst (λ (n : ℕ). n ≤ runs_in k pass) (sym (upd_else runs class k (runs class + 1) other.1)) (all k)
]

more_run : (told before after : ℕ) → told ≤ before → before < after → told + 1 ≤ after
more_run told before after few rose = omega (arith, few, rose)

most_runs : (told after planned all : ℕ) → told ≤ after → after ≤ 5000000 * planned → planned ≡ all → told ≤ 5000000 * all
most_runs told after planned all few most shows = omega (arith, few, most, shows)

owed_before : (start : State) (old new : SessionValue) (m : Machine) (class : ℕ) → Means start old m → ShowsAll old.pass.seen class new.pass → settled_in class old.pass < planned_in class new.pass → m.owes class ≡ true
owed_before start old new m class means shows owed = by (m.owes class) refl
  where
    by : (b : Bool) → m.owes class ≡ b → b ≡ true
    by true is = refl
    by false is = absurd (omega (arith, owed, shows, ap (λ (es : List Entry). drains (about_class class es)) means.seen, means.settled class is))

writes_one : (start : State) (known : ℕ → PassValue → Type 0) (old new : SessionValue) (m : Machine) (owed : Bool) → Means start old m → (one : WritesOne start known old.pass new.pass)
    → debts new.pass one.class ≡ owed → WritesRun m owed (ran_once m one.class new.pass)
writes_one start known old new m owed means one owes =
    let class = one.class in
    let adds = one.adds in
    let eased : ℕ → Bool = upd (debts new.pass) class true in
    let told : m.runs class + 1 ≤ runs_in class new.pass = more_run (m.runs class) (runs_in class old.pass) (runs_in class new.pass) (means.runs class) one.rose in record {
      eased = eased;
      eases = λ k owing. elim (eqb_tells k class) [
        | inl same ↦ ap m.owes same.1 ∙ owed_before start old new m class means one.shows one.owed
        | inr other ↦ was_owed start old new m [] k means adds refl (sym (upd_else (debts new.pass) class k true other.1) ∙ owing)
      ];
      class = class;
      chosen = record {
        within = one.within;
        owed = upd_same (debts new.pass) class class true refl;
        least = λ k less.
            upd_else (debts new.pass) class k true (not_equal k class less)
            ∙ all_written start old new m [] class means adds (λ j. refl) one.below k less;
      };
      debts = record { here = owes; others = λ k other. sym (upd_else (debts new.pass) class k true other) };
      more = record {
        here = upd_same m.runs class class (m.runs class + 1) refl;
        most = subst (λ (n : ℕ). n ≤ 5000000 * drains (about_class class m.entries)) (sym (upd_same m.runs class class (m.runs class + 1) refl))
            (most_runs (m.runs class + 1) (runs_in class new.pass) (planned_in class new.pass) (drains (about_class class m.entries)) told one.most
            (one.shows ∙ ap (λ (es : List Entry). drains (about_class class es)) means.seen));
        others = λ k other. upd_else m.runs class k (m.runs class + 1) other;
      };
      becomes = refl;
    }

means_ran : (start : State) (known : ℕ → PassValue → Type 0) (old new : SessionValue) (m : Machine) → Means start old m → (one : WritesOne start known old.pass new.pass)
    → new.clock ≡ old.clock → new.counts ≡ old.counts → Means start new (ran_once m one.class new.pass)
means_ran start known old new m means one clock counts =
    means_adds start old new m (ran_once m one.class new.pass) [] means one.adds (sym (append-nil m.entries)) refl (clock ∙ means.clock) (counts ∙ means.counts)
    (λ class none. debt_none new.pass class none)
    (runs_at m.runs one.class new.pass (runs_kept start old new m [] means one.adds)
    (more_run (m.runs one.class) (runs_in one.class old.pass) (runs_in one.class new.pass) (means.runs one.class) one.rose))

-- the debt of the class itself
debt_here : (start : State) (old new : SessionValue) (m : Machine) (class : ℕ) → Means start old m → Adds start [] old.pass new.pass → ShowsAll old.pass.seen class new.pass
    → IsUnderWay class new.pass → debts new.pass class ≡ true
debt_here start old new m class means adds shows under_way = under_way_owes start old new m [] class means adds refl shows under_way

writes_fault : (start : State) (old new : SessionValue) (m : Machine) (class : ℕ) → Means start old m → FaultWritten start class old.pass new.pass
    → WritesFault m (known_with m (fault_entry class ∷ []) new.pass) (write_fault_text class)
writes_fault start old new m class means failed =
    let entries = fault_entry class ∷ [] in record {
      class = class;
      eases = λ k owes. was_owed start old new m entries k means failed.adds (none_fault class k) owes;
      chosen = record {
        within = failed.within;
        owed = is_debt new.pass class (omega (arith, failed.shows, failed.under_way));
        least = all_written start old new m entries class means failed.adds (none_fault class) failed.below;
      };
      becomes = refl;
      says = refl;
    }

writes_none : (start : State) (old new : SessionValue) (m : Machine) → Means start old m → NoneWritten start old.pass new.pass → WritesNone m (eased_by m new.pass) write_nothing
writes_none start old new m means none = record {
  eases = λ k owes. was_owed start old new m [] k means none.adds refl owes;
  none = all_written start old new m [] 16 means none.adds (λ k. refl) none.below;
  becomes = refl;
  says = refl;
}

pub replies_write : (told : ℕ → Option Image) (start : State) (next : NextRun) (reply : Result (List ℕ) Shortage) (old new : SessionValue) → Writes start next old.pass new.pass
    → SaysRun next reply → new.clock ≡ old.clock → new.counts ≡ old.counts → Replies told start Write reply old new
replies_write told start run.Written reply old new one says clock counts =
    told_or_short told start Write old new write_run reply (λ m next done. done) says (λ m means. (
      ran_once m one.class new.pass,
      (
        inl (writes_one start IsUnderWay old new m true means one (debt_here start old new m one.class means one.adds one.shows one.ended), refl),
        means_ran start IsUnderWay old new m means one clock counts,
      ),
    ))
replies_write told start run.Finished reply old new one says clock counts =
    told_or_short told start Write old new write_finished reply (λ m next done. done) says (λ m means. (
      ran_once m one.class new.pass,
      (
        inr (inl (writes_one start IsSettled old new m false means one (settled_owes start old new m [] one.class means one.adds refl one.shows one.ended), refl)),
        means_ran start IsSettled old new m means one clock counts,
      ),
    ))
replies_write told start (run.DiskFault class) reply old new failed says clock counts =
    told_or_short told start Write old new (write_fault_text class) reply (λ m next done. done) says (λ m means. (
      known_with m (fault_entry class ∷ []) new.pass,
      (
        inr (inr (inl (writes_fault start old new m class means failed))),
        means_known start old new m (fault_entry class ∷ []) means failed.adds clock counts,
      ),
    ))
replies_write told start run.Nothing reply old new none says clock counts =
    told_or_short told start Write old new write_nothing reply (λ m next done. done) says (λ m means. (
      eased_by m new.pass,
      (
        inr (inr (inr (writes_none start old new m means none))),
        means_eased start old new m means none.adds clock counts,
      ),
    ))
