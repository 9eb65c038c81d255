-- A plan of a class whose two locks are held: what may be entered, what each of them keeps behind it, and what the pass is told.
use Rattle.std.proofs.Common.{◌≡◌, ◌∙◌, ℕ, ◌≤◌, [], Bool, Option, None, IfSome, sym, ap, subst}
use Rattle.std.specs.Prelude.{is_some}
use Rattle.atomic_table.specs.Seated.{TableId}
use Rattle.outside_io.specs.Image.{Image}
use Rattle.outside_io.specs.Faults.{Rose}
use Rattle.write_shelf.specs.Shelf.{DrainValue}
use Rattle.carbon_history.specs.declared.entry.Entry.{Entry}
use Rattle.carbon_history.specs.Entries.{about_class, listed}
use Rattle.carbon_model.specs.State.{State}
use Rattle.class_halves.specs.Parts.{HalfValue, half_with, stand_of}
use Rattle.shared_history.specs.Parts.{IsNoMore, PassValue, TailValue, look_now, pass_looking}
use Rattle.shared_history.specs.Views.{look_at}
use Rattle.shard_core.specs.Halves.{AreHalves, DeskInside, FilesInside, both}
use Rattle.shard_core.specs.Plans.{PlansTo}
use Rattle.shard_core.specs.declared.planned.Planned.{Planned}
use Rattle.shard_core.specs.declared.planned.Planned.TheVariants as planned
use Rattle.shared_store.specs.Desks.{KeepsClass}
use Rattle.shared_store.specs.Locks.{KeepsDesk, KeepsFiles}
use Rattle.shared_store.specs.Passes.{Enters, HasRoom, LooksAgain, SeesAll}
use Rattle.shared_store.specs.Steps.{AfterPlan, PlansAs, plan_entry}
use Rattle.shared_store.specs.Tails.{IsLegalTook, MayTell, OwesBegun, Tells, tail_begun, tail_told}
use Rattle.shared_store.proofs.BothLemmas.{both_keep, desk_keeps, files_keep}
use Rattle.shared_store.proofs.ClassLemmas.{few_runs, keeps_plan, plan_may, plan_owes}
use Rattle.shared_store.proofs.AskPassLemmas.{enters_only, marks_class}
use Rattle.shared_store.proofs.LookLemmas.{after_plan, begun_class, begun_list, looked, looks_again, settled_where, told_class, told_enters, told_same, told_tail_class}

-- the tail once a plan is entered, and settled where nothing of its drain is to be written
pub planned_tail : (plan : Planned) (now number : ℕ) (tail told ended : TailValue) (entry : Option Entry) (shelved : Bool) (shelf : Option DrainValue)
    → ended ≡ tail_begun plan shelved told → shelved ≡ is_some shelf → told ≡ tail_told tail entry → entry ≡ plan_entry number tail.class now plan
    → ended ≡ tail_begun plan (is_some shelf) (tail_told tail (plan_entry number tail.class now plan))
planned_tail plan now number tail told ended entry shelved shelf begun on is event = begun ∙ (λ i. tail_begun plan (on i) ((is ∙ ap (tail_told tail) event) i))

-- the same of files that were only read in between
pub planned_over : (plan : Planned) (now : ℕ) (desk after : DeskInside) (files made there : FilesInside) → made ≡ files
    → PlansTo plan (both desk made) (both after there) now → PlansTo plan (both desk files) (both after there) now
planned_over plan now desk after files made there same plans = subst (λ (x : FilesInside). PlansTo plan (both desk x) (both after there) now) same plans

pub later_by : (failed mid later : ℕ) → later ≡ mid → failed ≤ mid → failed ≤ later
later_by failed mid later is more = subst (λ (n : ℕ). failed ≤ n) (sym is) more

pub rose_by : (failed mid later : ℕ) → later ≡ mid → Rose failed mid → Rose failed later
rose_by failed mid later is rose = subst (λ (n : ℕ). Rose failed n) (sym is) rose

module _ (table : TableId) (half_of : ℕ → TableId) (told : ℕ → Option Image) (start : State) (earlier : ℕ → ℕ)
    (desk after : DeskInside) (files there : FilesInside) (failed now : ℕ) (half other : HalfValue) (tail : TailValue) (plan : Planned)
    (here : files.class ≡ desk.class) (met : other.stand ≡ half.stand)
    (of_desk : KeepsDesk table half_of start desk half tail) (of_files : KeepsFiles half_of told start earlier files failed other)
    (plans : PlansTo plan (both desk files) (both after there) now) where
  keeps : KeepsClass table told start earlier (both desk files) failed tail
  keeps = both_keep table half_of told start earlier desk files failed half other tail here met of_desk of_files

  pub planned_may : (pass : PassValue) (entry : Option Entry) → HasRoom pass → entry ≡ plan_entry pass.number tail.class now plan
      → IfSome entry (MayTell start pass tail)
  planned_may pass entry room event =
      subst (λ (o : Option Entry). IfSome o (MayTell start pass tail)) (sym event)
      (plan_may table told start earlier (both desk files) (both after there) failed now tail pass plan keeps room plans)

  pub planned_owes : (number : ℕ) (entry : Option Entry) (t : TailValue) → entry ≡ plan_entry number tail.class now plan → t ≡ tail_told tail entry
      → OwesBegun plan t
  planned_owes number entry t event is =
      subst (OwesBegun plan) (sym (is ∙ ap (tail_told tail) event))
      (plan_owes table told start earlier (both desk files) (both after there) failed now number tail plan keeps plans)

module _ (table : TableId) (half_of : ℕ → TableId) (told : ℕ → Option Image) (start : State) (earlier : ℕ → ℕ)
    (desk after : DeskInside) (files there : FilesInside) (failed later now number : ℕ) (half other : HalfValue) (tail ended : TailValue) (plan : Planned)
    (here : files.class ≡ desk.class) (met : other.stand ≡ half.stand)
    (of_desk : KeepsDesk table half_of start desk half tail) (of_files : KeepsFiles half_of told start earlier files failed other)
    (plans : PlansTo plan (both desk files) (both after there) now) (class : after.class ≡ desk.class) (halves : AreHalves after there)
    (more : failed ≤ later) (rose : plan ≡ planned.DiskFault → Rose failed later)
    (begun : ended ≡ tail_begun plan (is_some there.shelf) (tail_told tail (plan_entry number tail.class now plan))) where
  was : KeepsClass table told start earlier (both desk files) failed tail
  was = both_keep table half_of told start earlier desk files failed half other tail here met of_desk of_files

  kept : KeepsClass table told start earlier (both after there) later ended
  kept = subst (λ (t : TailValue). KeepsClass table told start earlier (both after there) later t) (sym begun)
      (keeps_plan table told start earlier (both desk files) (both after there) failed now later number tail plan was plans class more rose)

  pub desk_planned : (new : HalfValue) (t : TailValue) → new ≡ half_with half (stand_of ended) → t ≡ ended → KeepsDesk table half_of start after new t
  desk_planned new t is same =
      subst (λ (x : TailValue). KeepsDesk table half_of start after new x) (sym same)
      (subst (λ (h : HalfValue). KeepsDesk table half_of start after h ended) (sym is)
      (desk_keeps table half_of told start earlier after there later half ended (of_desk.tied ∙ ap half_of (sym class)) kept))

  pub files_planned : (new : HalfValue) → new ≡ half_with other (stand_of ended) → KeepsFiles half_of told start earlier there later new
  files_planned new is =
      subst (λ (h : HalfValue). KeepsFiles half_of told start earlier there later h) (sym is)
      (files_keep table half_of told start earlier after there later other ended halves
      (of_files.tied ∙ ap half_of (here ∙ (sym class ∙ sym halves.one))) kept)

  ended_class : ended.class ≡ tail.class
  ended_class = ap (λ (t : TailValue). t.class) begun
      ∙ (begun_class plan (is_some there.shelf) (tail_told tail (plan_entry number tail.class now plan)) ∙ told_tail_class tail (plan_entry number tail.class now plan))

  pub told_planned : (passes of_class : ℕ) (pass mid new : PassValue) (entry : Option Entry) → tail.class ≡ of_class → number ≡ pass.number → HasRoom pass
      → entry ≡ plan_entry number tail.class now plan → Tells start passes tail entry pass mid → IsLegalTook plan
      → IsNoMore (look_at ended.class mid.looks) ended → new ≡ pass_looking mid (look_now ended mid) → PlansAs start passes of_class now plan pass new
  told_planned passes of_class pass mid new entry of_one by room event tells legal no_more is =
      let entry_is : entry ≡ plan_entry pass.number tail.class now plan = event ∙ ap (λ (n : ℕ). plan_entry n tail.class now plan) by in
      let did : Tells start passes tail (plan_entry pass.number tail.class now plan) pass mid = subst (λ (o : Option Entry). Tells start passes tail o pass mid) entry_is tells in
      let look = looked ended mid new is in
      let sees : about_class tail.class mid.seen ≡ ended.list =
      told_class start passes tail (plan_entry pass.number tail.class now plan) pass mid
      (plan_may table told start earlier (both desk files) (both after there) failed now tail pass plan was room plans) did
      ∙ sym (ap (λ (t : TailValue). t.list) begun ∙ (begun_list plan (is_some there.shelf) (tail_told tail (plan_entry number tail.class now plan))
      ∙ ap (λ (n : ℕ). (tail_told tail (plan_entry n tail.class now plan)).list) by)) in
      let saw : about_class ended.class mid.seen ≡ ended.list = subst (λ (k : ℕ). about_class k mid.seen ≡ ended.list) (sym ended_class) sees in
      record {
        enters = subst (λ (k : ℕ). Enters start passes (listed (plan_entry pass.number k now plan)) pass new) of_one
            (enters_only start passes (listed (plan_entry pass.number tail.class now plan)) pass mid new
            (told_enters start passes tail (plan_entry pass.number tail.class now plan) pass mid did)
            (marks_class ended mid new is no_more).only);
        after = subst (λ (k : ℕ). AfterPlan start k now plan pass new) of_one
            (after_plan table told start earlier passes (both desk files) (both after there) failed later now tail ended plan pass mid new was kept ended_class
            saw plans legal did look);
        looks = subst (λ (k : ℕ). LooksAgain k pass new) (ended_class ∙ of_one)
            (looks_again ended pass mid new (told_same start passes tail (plan_entry pass.number tail.class now plan) pass mid did)
            no_more look saw (few_runs table told start earlier (both after there) later ended kept));
      }

-- there was no memory for a plan: the desk and the files are as they were, and the pass saw that the class has no drain under way
module _ (table : TableId) (half_of : ℕ → TableId) (told : ℕ → Option Image) (start : State) (earlier : ℕ → ℕ)
    (desk : DeskInside) (files : FilesInside) (failed : ℕ) (half other : HalfValue) (tail : TailValue)
    (here : files.class ≡ desk.class) (met : other.stand ≡ half.stand)
    (of_desk : KeepsDesk table half_of start desk half tail) (of_files : KeepsFiles half_of told start earlier files failed other) where
  pub told_refused : (passes of_class now : ℕ) (ended : TailValue) (pass mid new : PassValue) → files.shelf ≡ None → tail.class ≡ of_class
      → SeesAll start passes tail pass mid → ended ≡ tail → IsNoMore (look_at ended.class mid.looks) ended → new ≡ pass_looking mid (look_now ended mid)
      → PlansAs start passes of_class now planned.NoMemory pass new
  told_refused passes of_class now ended pass mid new none of_one sees same later looks =
      let no_more : IsNoMore (look_at tail.class mid.looks) tail = subst (λ (t : TailValue). IsNoMore (look_at t.class mid.looks) t) same later in
      let is : new ≡ pass_looking mid (look_now tail mid) = subst (λ (t : TailValue). new ≡ pass_looking mid (look_now t mid)) same looks in
      let keeps : KeepsClass table told start earlier (both desk files) failed tail =
      both_keep table half_of told start earlier desk files failed half other tail here met of_desk of_files in
      let look = looked tail mid new is in
      subst (λ (k : ℕ). PlansAs start passes k now planned.NoMemory pass new) of_one (record {
        enters = enters_only start passes [] pass mid new sees.enters (marks_class tail mid new is no_more).only;
        after = (settled_where table told start earlier passes (both desk files) failed tail mid new keeps look).0 none;
        looks = looks_again tail pass mid new (told_same start passes tail None pass mid sees) no_more look sees.class
            (few_runs table told start earlier (both desk files) failed tail keeps);
      })
