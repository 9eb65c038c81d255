-- What a pass knows of a class once it has looked, and what the answers of a plan and of the write of a run tell.
use Rattle.std.proofs.Common.{◌≡◌, ◌≢◌, ◌↔◌, ◌⊎◌, inl, inr, ◌∙◌, ℕ, ℤ, ◌<◌, ◌≤◌, ◌+◌, ◌*◌, Bool, true, false, List, [], ◌∷◌, ◌++◌, length, Option, Some, None, IfSome, IsSomeAnd, option_map, refl, sym, ap, subst, arith}
use Rattle.std.specs.Prelude.{IsSome}
use Rattle.std.proofs.lemmas.List.{append_assoc}
use Rattle.std.proofs.lemmas.Bool.{eq-eqb, false≢true}
use Rattle.std.proofs.lemmas.Bool.Decides.{eqb_tells}
use mathlib.Core.List.{IsPrefix}
use Rattle.metric_path.specs.Path.{path_fault}
use Rattle.metric_path.specs.Class.{class_of}
use Rattle.archive_update.specs.Batch.{HaveNoHome}
use Rattle.ring_format.specs.Layout.{LayoutValue}
use Rattle.outside_io.specs.Image.{Image}
use Rattle.atomic_table.specs.Seated.{TableId}
use Rattle.write_shelf.specs.Shelf.{DrainValue}
use Rattle.point_cache.specs.Pending.{points_of}
use Rattle.carbon_history.specs.declared.entry.Entry.{Entry}
use Rattle.carbon_history.specs.declared.entry.Entry.TheVariants as entry
use Rattle.carbon_history.specs.Entries.{NamesPasses, about_class, drains, is_about, listed, of_pass}
use Rattle.shared_history.proofs.ListLemmas.{filter_hit}
use Rattle.carbon_model.specs.State.{Kept, Metrics, SamePart, State, form_of, points_in}
use Rattle.carbon_model.specs.Replay.{IsLegalHistory, replay}
use Rattle.carbon_model.proofs.PartLemmas.{replay_alike, same_part}
use Rattle.shared_history.specs.declared.view.Look.{Look}
use Rattle.shared_history.specs.Views.{look_at}
use Rattle.shared_history.specs.Parts.{IsNoMore, PassValue, TailValue, look_now, pass_looking}
use Rattle.shard_core.specs.Shard.{Holds, Inside}
use Rattle.shard_core.specs.Table.{kept_form}
use Rattle.shard_core.specs.Plans.{NeedsNoWrite as NothingToWrite, PlansTo}
use Rattle.shard_core.specs.Writes.{WritesTo}
use Rattle.shard_core.specs.declared.planned.Planned.{Planned}
use Rattle.shard_core.specs.declared.planned.Planned.TheVariants as planned
use Rattle.shard_core.specs.declared.planned.Wrote.{Wrote}
use Rattle.shard_core.specs.declared.planned.Wrote.TheVariants as wrote
use Rattle.shared_store.specs.Desks.{KeepsClass}
use Rattle.shared_store.specs.Passes.{Enters, IsSettled, IsUnderWay, LooksAgain, SameLooks, runs_in, settled_in}
use Rattle.shared_store.specs.Steps.{AfterPlan, AfterWrite, NeedsNoWrite, plan_entry, write_entry}
use Rattle.shared_store.specs.Tails.{IsLegalTook, MayTell, Tells, tail_begun, tail_told, tail_wrote}

-- ---- an entry, or none

pub told_enters : (start : State) (passes : ℕ) (tail : TailValue) (entry : Option Entry) (old new : PassValue)
    → Tells start passes tail entry old new → Enters start passes (listed entry) old new
told_enters start passes tail None old new tells = tells.enters
told_enters start passes tail (Some entry) old new tells = tells.enters

later : (a b : ℕ) → a < b → a ≤ b
later a b lt = omega (arith, lt)

pub told_same : (start : State) (passes : ℕ) (tail : TailValue) (entry : Option Entry) (old new : PassValue)
    → Tells start passes tail entry old new → SameLooks old new
told_same start passes tail None old new tells = record { looks = tells.looks; sights = later old.sights new.sights tells.sights }
told_same start passes tail (Some entry) old new tells = tells.same

-- what it sees of the class is what the tail has ended
pub told_class : (start : State) (passes : ℕ) (tail : TailValue) (entry : Option Entry) (old new : PassValue)
    → IfSome entry (MayTell start old tail) → Tells start passes tail entry old new → about_class tail.class new.seen ≡ (tail_told tail entry).list
told_class start passes tail None old new may tells = tells.class
told_class start passes tail (Some e) old new may tells =
    ap (about_class tail.class) tells.last ∙ (filter_hit (is_about tail.class) tells.before e may.may.about ∙ ap (λ (l : List Entry). l ++ e ∷ []) tells.class)

pub begun_class : (plan : Planned) (shelved : Bool) (tail : TailValue) → (tail_begun plan shelved tail).class ≡ tail.class
begun_class (planned.Took path) true tail = refl
begun_class (planned.Took path) false tail = refl
begun_class planned.Busy shelved tail = refl
begun_class planned.Idle shelved tail = refl
begun_class planned.DiskFault shelved tail = refl
begun_class planned.NoMemory shelved tail = refl

pub begun_list : (plan : Planned) (shelved : Bool) (tail : TailValue) → (tail_begun plan shelved tail).list ≡ tail.list
begun_list (planned.Took path) true tail = refl
begun_list (planned.Took path) false tail = refl
begun_list planned.Busy shelved tail = refl
begun_list planned.Idle shelved tail = refl
begun_list planned.DiskFault shelved tail = refl
begun_list planned.NoMemory shelved tail = refl

pub told_tail_class : (tail : TailValue) (entry : Option Entry) → (tail_told tail entry).class ≡ tail.class
told_tail_class tail None = refl
told_tail_class tail (Some e) = refl

pub told_tail_runs : (tail : TailValue) (entry : Option Entry) → (tail_told tail entry).runs ≡ tail.runs
told_tail_runs tail None = refl
told_tail_runs tail (Some e) = refl

pub told_tail_settled : (tail : TailValue) (entry : Option Entry) → (tail_told tail entry).settled ≡ tail.settled
told_tail_settled tail None = refl
told_tail_settled tail (Some e) = refl

pub wrote_class : (wrote : Wrote) (tail : TailValue) → (tail_wrote wrote tail).class ≡ tail.class
wrote_class wrote.Run tail = refl
wrote_class wrote.Finished tail = refl
wrote_class wrote.Nothing tail = refl
wrote_class wrote.DiskFault tail = refl

pub wrote_table : (wrote : Wrote) (tail : TailValue) → (tail_wrote wrote tail).table ≡ tail.table
wrote_table wrote.Run tail = refl
wrote_table wrote.Finished tail = refl
wrote_table wrote.Nothing tail = refl
wrote_table wrote.DiskFault tail = refl

-- ---- a look

look_hit : (class : ℕ) (new : Look) (looks : List Look) → new.class ≡ class → look_at class (new ∷ looks) ≡ new
look_hit class new looks is = rw (eq-eqb new.class class is) refl

look_miss : (class : ℕ) (new : Look) (looks : List Look) → class ≢ new.class → look_at class (new ∷ looks) ≡ look_at class looks
look_miss class new looks not = elim (eqb_tells new.class class) [
  | inl same ↦ absurd (not (sym same.1))
  | inr other ↦ rw other.0 refl
]

-- the pass looked at the class of the tail
pub record Looked (tail : TailValue) (old new : PassValue) : Type 0 where
  pub here : look_at tail.class new.looks ≡ look_now tail old
  pub others : (other : ℕ) → other ≢ tail.class → look_at other new.looks ≡ look_at other old.looks
  pub table : new.table ≡ old.table
  pub number : new.number ≡ old.number
  pub seen : new.seen ≡ old.seen
  pub sights : new.sights ≡ old.sights

pub looked : (tail : TailValue) (old new : PassValue) → new ≡ pass_looking old (look_now tail old) → Looked tail old new
looked tail old new is = record {
  here = ap (λ (p : PassValue). look_at tail.class p.looks) is ∙ look_hit tail.class (look_now tail old) old.looks refl;
  others = λ other apart. ap (λ (p : PassValue). look_at other p.looks) is ∙ look_miss other (look_now tail old) old.looks apart;
  table = ap (λ (p : PassValue). p.table) is;
  number = ap (λ (p : PassValue). p.number) is;
  seen = ap (λ (p : PassValue). p.seen) is;
  sights = ap (λ (p : PassValue). p.sights) is;
}

-- a look behind the entries, and one before them, changes nothing of them
pub enters_looked : (start : State) (passes : ℕ) (entries : List Entry) (tail : TailValue) (old pass new : PassValue)
    → Enters start passes entries old pass → Looked tail pass new → Enters start passes entries old new
enters_looked start passes entries tail old pass new enters look = record {
  table = look.table ∙ enters.table;
  number = look.number ∙ enters.number;
  begins = subst (IsPrefix old.seen) (sym look.seen) enters.begins;
  legal = subst (IsLegalHistory start) (sym look.seen) enters.legal;
  made = subst (NamesPasses passes) (sym look.seen) enters.made;
  once = (λ i. of_pass (look.number i) (look.seen i)) ∙ enters.once;
}

pub enters_behind : (start : State) (passes : ℕ) (entries : List Entry) (tail : TailValue) (old pass new : PassValue)
    → Looked tail old pass → Enters start passes entries pass new → Enters start passes entries old new
enters_behind start passes entries tail old pass new look enters = record {
  table = enters.table ∙ look.table;
  number = enters.number ∙ look.number;
  begins = subst (λ (seen : List Entry). IsPrefix seen new.seen) look.seen enters.begins;
  legal = enters.legal;
  made = enters.made;
  once = enters.once ∙ (λ i. of_pass (look.number i) (look.seen i) ++ entries);
}

-- ---- what the look tells

pub is_settled : (tail : TailValue) (old new : PassValue) → Looked tail old new → drains tail.list ≡ tail.settled → IsSettled tail.class new
is_settled tail old new look even = subst (λ (l : Look). drains l.list ≡ l.settled) (sym look.here) even

pub is_under_way : (tail : TailValue) (old new : PassValue) → Looked tail old new → drains tail.list ≡ tail.settled + 1 → IsUnderWay tail.class new
is_under_way tail old new look one = subst (λ (l : Look). drains l.list ≡ l.settled + 1) (sym look.here) one

pub looks_again : (tail : TailValue) (old pass new : PassValue) → SameLooks old pass → IsNoMore (look_at tail.class pass.looks) tail
    → Looked tail pass new → about_class tail.class pass.seen ≡ tail.list → tail.runs ≤ 5000000 * drains tail.list → LooksAgain tail.class old new
looks_again tail old pass new same more look class most =
    let before : look_at tail.class pass.looks ≡ look_at tail.class old.looks = ap (look_at tail.class) same.looks in record {
      times = subst (λ (l : Look). (look_at tail.class old.looks).times < l.times) (sym look.here)
          (subst (λ (l : Look). l.times < (look_at tail.class pass.looks).times + 1) before (omega arith));
      list = ap (λ (l : Look). l.list) look.here ∙ (sym class ∙ ap (about_class tail.class) (sym look.seen));
      grows = subst (λ (l : Look). IsPrefix (look_at tail.class old.looks).list l.list) (sym look.here)
          (subst (λ (l : Look). IsPrefix l.list tail.list) before more.list);
      settled = subst (λ (l : Look). settled_in tail.class old ≤ l.settled) (sym look.here) (subst (λ (l : Look). l.settled ≤ tail.settled) before more.settled);
      runs = subst (λ (l : Look). runs_in tail.class old ≤ l.runs) (sym look.here) (subst (λ (l : Look). l.runs ≤ tail.runs) before more.runs);
      most = subst (λ (l : Look). l.runs ≤ 5000000 * drains l.list) (sym look.here) most;
      others = λ other apart. look.others other apart ∙ ap (look_at other) same.looks;
      sights = subst (λ (n : ℕ). old.sights ≤ n) (sym look.sights) same.sights;
    }

-- ---- the entries before the last one

-- a state after a history, and after the part of it that is about a class
module _ (start : State) (told : Option Image) (shard : Inside) (tail : TailValue) (before : List Entry)
    (keeps : tail.class ≡ shard.class) (holds : Holds told shard (replay start tail.list)) (part : about_class tail.class before ≡ tail.list) where
  alike : SamePart tail.class (replay start before) (replay start tail.list)
  alike = subst (λ (l : List Entry). SamePart tail.class (replay start before) (replay start l)) part
      (replay_alike tail.class start start before (same_part tail.class start))

  pub pending_before : shard.cache.metrics ≡ (replay start before).pending tail.class
  pending_before = holds.pending ∙ (ap (replay start tail.list).pending (sym keeps) ∙ sym alike.pending)

  points_before : (path : List ℕ) → class_of path ≡ tail.class → points_of shard.cache.metrics path ≡ points_in (replay start before) path
  points_before path here =
      ap (λ (ms : Metrics). points_of ms path) (pending_before ∙ ap (replay start before).pending (sym here))

  layout_before : (path : List ℕ) → path_fault path ≡ None → class_of path ≡ tail.class
      → kept_form shard.table path ≡ option_map form_of ((replay start before).kept path)
  layout_before path legal here =
      holds.kept.layouts path (record { legal = legal; here = here ∙ keeps }) ∙ ap (option_map form_of) (sym (alike.kept path here))

  -- what is kept in this form, and none of these points has a home
  abbrev Written : ℕ → List (ℕ × ℤ) → ℕ × LayoutValue → Type 0
  Written now points form = (form.0 ≡ 2) × HaveNoHome form.1.archives now points

  needs_of : (path : List ℕ) (now : ℕ) (form : Option (ℕ × LayoutValue)) (kept : Option Kept) → form ≡ option_map form_of kept
      → IsSomeAnd form (Written now (points_in (replay start before) path))
      ↔ IsSomeAnd kept (λ k. Written now (points_in (replay start before) path) (form_of k))
  needs_of path now form None is =
      (λ some. absurd (subst (λ (o : Option (ℕ × LayoutValue)). IsSomeAnd o (Written now (points_in (replay start before) path))) is some), λ none. absurd none)
  needs_of path now form (Some k) is = (
    (λ some. subst (λ (o : Option (ℕ × LayoutValue)). IsSomeAnd o (Written now (points_in (replay start before) path))) is some),
    (λ some. subst (λ (o : Option (ℕ × LayoutValue)). IsSomeAnd o (Written now (points_in (replay start before) path))) (sym is) some),
  )

  pub nothing_before : (path : List ℕ) (now : ℕ) → path_fault path ≡ None → class_of path ≡ tail.class
      → NothingToWrite shard path now ↔ NeedsNoWrite (replay start before) path now
  nothing_before path now legal here =
      let both = needs_of path now (kept_form shard.table path) ((replay start before).kept path) (layout_before path legal here) in
      let points = points_before path here in (
        (λ some. both.0 (subst (λ (ps : List (ℕ × ℤ)). IsSomeAnd (kept_form shard.table path) (Written now ps)) points some)),
        (λ some. subst (λ (ps : List (ℕ × ℤ)). IsSomeAnd (kept_form shard.table path) (Written now ps)) (sym points) (both.1 some)),
      )

-- ---- after a plan

even_or_more : (settled all : ℕ) → settled ≤ all → all ≤ settled + 1 → (all ≡ settled → ⊥) → all ≡ settled + 1
even_or_more settled all low high not = omega (arith, low, high, λ (e : all ≡ settled). not e)

some_pending : (fewer : ℕ) (metrics : Metrics) → fewer < length metrics → metrics ≡ [] → ⊥
some_pending fewer metrics less none = omega (arith, less, ap (λ (ms : Metrics). length ms) none)

flip : {A B : Type 0} → A ↔ B → B ↔ A
flip f = (f.1, f.0)

fewer_there : (old old' new new' : Metrics) → old ≡ old' → new ≡ new' → length new < length old → length new' < length old'
fewer_there old old' new new' one other less = omega (arith, ap length one, ap length other, less)

both_ways : {A B C : Type 0} → A ↔ B → B ↔ C → A ↔ C
both_ways f g = ((λ a. g.0 (f.0 a)), λ c. f.1 (g.1 c))

module _ (table : TableId) (told : ℕ → Option Image) (start : State) (faults : ℕ → ℕ) (passes : ℕ) where
  -- the drains of the class are settled exactly where no drain is being written
  pub settled_where : (shard : Inside) (failed : ℕ) (tail : TailValue) (old new : PassValue) → KeepsClass table told start faults shard failed tail
      → Looked tail old new → (shard.shelf ≡ None) ↔ IsSettled tail.class new
  settled_where shard failed tail old new keeps look = (
    (λ none. is_settled tail old new look (keeps.settled.0 none)),
    (λ even. keeps.settled.1 (subst (λ (l : Look). drains l.list ≡ l.settled) look.here even)),
  )

  under_way_where : (shard : Inside) (failed : ℕ) (tail : TailValue) (old new : PassValue) → KeepsClass table told start faults shard failed tail
      → Looked tail old new → IsSome shard.shelf → IsUnderWay tail.class new
  under_way_where shard failed tail old new keeps look some =
      is_under_way tail old new look (even_or_more tail.settled (drains tail.list) keeps.owed.low keeps.owed.high
      (λ even. not_none shard.shelf some (keeps.settled.1 even)))
    where
      not_none : (s : Option DrainValue) → IsSome s → s ≡ None → ⊥
      not_none None some is = false≢true some
      not_none (Some d) some is = absurd (cc is)

  either_way : (shard : Inside) (failed : ℕ) (tail : TailValue) (old new : PassValue) (shelf : Option DrainValue) → KeepsClass table told start faults shard failed tail
      → Looked tail old new → shard.shelf ≡ shelf → IsSettled tail.class new ⊎ IsUnderWay tail.class new
  either_way shard failed tail old new None keeps look is = inl ((settled_where shard failed tail old new keeps look).0 is)
  either_way shard failed tail old new (Some d) keeps look is =
      inr (under_way_where shard failed tail old new keeps look (subst IsSome (sym is) refl))

  -- the tail ended, and what is told, by the answer
  pub after_plan : (shard new : Inside) (failed later now : ℕ) (tail ended : TailValue) (plan : Planned) (old pass pass' : PassValue)
      → KeepsClass table told start faults shard failed tail → KeepsClass table told start faults new later ended → ended.class ≡ tail.class
      → about_class ended.class pass.seen ≡ ended.list → PlansTo plan shard new now → IsLegalTook plan
      → Tells start passes tail (plan_entry old.number tail.class now plan) old pass → Looked ended pass pass'
      → AfterPlan start tail.class now plan old pass'
  after_plan shard new failed later now tail ended (planned.Took path) old pass pass' keeps kept class part begins legal tells look =
      let here : class_of path ≡ tail.class = begins.here ∙ sym keeps.class in record {
        here = here;
        before = tells.before;
        last = look.seen ∙ (tells.last ∙ ap (λ (n : ℕ). tells.before ++ entry.Drain n path now ∷ []) (sym (look.number ∙ tells.enters.number)));
        some = λ none. some_pending (length new.cache.metrics) shard.cache.metrics begins.fewer
            (pending_before start (told shard.class) shard tail tells.before keeps.class keeps.holds tells.class ∙ none);
        either = subst (λ (k : ℕ). IsSettled k pass' ⊎ IsUnderWay k pass') class (either_way new later ended pass pass' new.shelf kept look refl);
        fewer = subst (λ (k : ℕ). length ((replay start pass'.seen).pending k) < length ((replay start tells.before).pending tail.class)) class
            (fewer_there shard.cache.metrics ((replay start tells.before).pending tail.class) new.cache.metrics ((replay start pass'.seen).pending ended.class)
            (pending_before start (told shard.class) shard tail tells.before keeps.class keeps.holds tells.class)
            (pending_before start (told new.class) new ended pass'.seen kept.class kept.holds (ap (about_class ended.class) look.seen ∙ part)) begins.fewer);
        nothing = both_ways (flip (subst (λ (k : ℕ). (new.shelf ≡ None) ↔ IsSettled k pass') class (settled_where new later ended pass pass' kept look)))
            (both_ways begins.nothing (nothing_before start (told shard.class) shard tail tells.before keeps.class keeps.holds tells.class path now legal here));
      }
  after_plan shard new failed later now tail ended planned.Busy old pass pass' keeps kept class part plans legal tells look =
      subst (λ (k : ℕ). IsUnderWay k pass') class (under_way_where new later ended pass pass' kept look (subst (λ (x : Inside). IsSome x.shelf) (sym plans.1) plans.0))
  after_plan shard new failed later now tail ended planned.Idle old pass pass' keeps kept class part plans legal tells look = record {
    settled = subst (λ (k : ℕ). IsSettled k pass') class ((settled_where new later ended pass pass' kept look).0 (ap (λ (x : Inside). x.shelf) plans.1.1 ∙ plans.0));
    none = sym (pending_before start (told shard.class) shard tail pass'.seen keeps.class keeps.holds (ap (about_class tail.class) look.seen ∙ tells.class)) ∙ plans.1.0;
    seen = subst (λ (n : ℕ). old.sights < n) (sym look.sights) tells.sights;
  }
  after_plan shard new failed later now tail ended planned.DiskFault old pass pass' keeps kept class part refuses legal tells look = record {
    settled = subst (λ (k : ℕ). IsSettled k pass') class ((settled_where new later ended pass pass' kept look).0 (refuses.shelf ∙ refuses.empty));
    before = tells.before;
    last = look.seen ∙ (tells.last ∙ ap (λ (n : ℕ). tells.before ++ entry.Fault n tail.class ∷ []) (sym (look.number ∙ tells.enters.number)));
    some = λ none. refuses.some (pending_before start (told shard.class) shard tail tells.before keeps.class keeps.holds tells.class ∙ none);
  }
  after_plan shard new failed later now tail ended planned.NoMemory old pass pass' keeps kept class part refuses legal tells look =
      subst (λ (k : ℕ). IsSettled k pass') class ((settled_where new later ended pass pass' kept look).0 (refuses.shelf ∙ refuses.empty))

  -- ---- after the write of a run

  more_runs : (before tail now : ℕ) → before ≤ tail → now ≡ tail + 1 → before < now
  more_runs before tail now le is = omega (arith, le, is)

  runs_rose : (tail ended : TailValue) (old pass pass' : PassValue) → IsNoMore (look_at tail.class old.looks) tail → ended.class ≡ tail.class
      → ended.runs ≡ tail.runs + 1 → Looked ended pass pass' → runs_in tail.class old < runs_in tail.class pass'
  runs_rose tail ended old pass pass' first class one look =
      more_runs (runs_in tail.class old) tail.runs (runs_in tail.class pass') first.runs
      (subst (λ (k : ℕ). runs_in k pass' ≡ ended.runs) class (ap (λ (l : Look). l.runs) look.here) ∙ one)

  settled_rose : (tail ended : TailValue) (old pass pass' : PassValue) → IsNoMore (look_at tail.class old.looks) tail → ended.class ≡ tail.class
      → ended.settled ≡ tail.settled + 1 → Looked ended pass pass' → settled_in tail.class old < settled_in tail.class pass'
  settled_rose tail ended old pass pass' first class one look =
      more_runs (settled_in tail.class old) tail.settled (settled_in tail.class pass') first.settled
      (subst (λ (k : ℕ). settled_in k pass' ≡ ended.settled) class (ap (λ (l : Look). l.settled) look.here) ∙ one)

  pub after_write : (shard new : Inside) (later : ℕ) (tail ended : TailValue) (wrote : Wrote) (old pass pass' : PassValue)
      → KeepsClass table told start faults new later ended → ended.class ≡ tail.class
      → ended.runs ≡ (tail_wrote wrote tail).runs → ended.settled ≡ (tail_wrote wrote tail).settled → WritesTo wrote shard new
      → IsNoMore (look_at tail.class old.looks) tail → Looked ended pass pass'
      → AfterWrite tail.class wrote old pass'
  after_write shard new later tail ended wrote.Run old pass pass' kept class runs settled writes first look = (
    subst (λ (k : ℕ). IsUnderWay k pass') class (under_way_where new later ended pass pass' kept look writes.1),
    runs_rose tail ended old pass pass' first class runs look,
  )
  after_write shard new later tail ended wrote.Finished old pass pass' kept class runs settled writes first look = (
    subst (λ (k : ℕ). IsSettled k pass') class ((settled_where new later ended pass pass' kept look).0 writes.1),
    record {
      runs = runs_rose tail ended old pass pass' first class runs look;
      settled = settled_rose tail ended old pass pass' first class settled look;
    },
  )
  after_write shard new later tail ended wrote.Nothing old pass pass' kept class runs settled writes first look =
      subst (λ (k : ℕ). IsSettled k pass') class ((settled_where new later ended pass pass' kept look).0 (ap (λ (x : Inside). x.shelf) writes.1 ∙ writes.0))
  after_write shard new later tail ended wrote.DiskFault old pass pass' kept class runs settled writes first look =
      subst (λ (k : ℕ). IsUnderWay k pass') class (under_way_where new later ended pass pass' kept look (subst IsSome (sym writes.shelf) writes.some))

-- ---- a look before, a call, and a look after

pub prefix_both : (xs ys zs : List Entry) → IsPrefix xs ys → IsPrefix ys zs → IsPrefix xs zs
prefix_both xs ys zs first next =
    (first.0 ++ next.0, sym (append_assoc xs first.0 next.0) ∙ (ap (λ (l : List Entry). l ++ next.0) first.1 ∙ next.1))

pub looks_behind : (tail : TailValue) (class : ℕ) (old pass new : PassValue) → tail.class ≡ class → IsNoMore (look_at tail.class old.looks) tail
    → Looked tail old pass → LooksAgain class pass new → LooksAgain tail.class old new
looks_behind tail class old pass new is more look again =
    let next : LooksAgain tail.class pass new = subst (λ (k : ℕ). LooksAgain k pass new) (sym is) again in
    let here : (look_at tail.class pass.looks) ≡ look_now tail old = look.here in record {
      times = omega (arith, next.times, ap (λ (l : Look). l.times) here);
      list = next.list;
      grows = prefix_both (look_at tail.class old.looks).list tail.list (look_at tail.class new.looks).list more.list
          (subst (λ (l : Look). IsPrefix l.list (look_at tail.class new.looks).list) here next.grows);
      settled = omega (arith, next.settled, more.settled, ap (λ (l : Look). l.settled) here);
      runs = omega (arith, next.runs, more.runs, ap (λ (l : Look). l.runs) here);
      most = next.most;
      others = λ other apart. next.others other apart ∙ look.others other apart;
      sights = subst (λ (n : ℕ). n ≤ new.sights) look.sights next.sights;
    }

pub write_enters : (start : State) (passes : ℕ) (first tail ended : TailValue) (wrote : Wrote) (old pass pass' new : PassValue)
    → Looked first old pass → tail.class ≡ first.class → Tells start passes tail (write_entry pass.number tail.class wrote) pass pass'
    → Looked ended pass' new → Enters start passes (listed (write_entry old.number first.class wrote)) old new
write_enters start passes first tail ended wrote old pass pass' new before class tells after =
    enters_looked start passes (listed (write_entry old.number first.class wrote)) ended old pass' new
    (enters_behind start passes (listed (write_entry old.number first.class wrote)) first old pass pass' before
    (subst (λ (entries : List Entry). Enters start passes entries pass pass') (λ i. listed (write_entry (before.number i) (class i) wrote))
    (told_enters start passes tail (write_entry pass.number tail.class wrote) pass pass' tells)))
    after
