-- The write of a run of a class whose two locks are held behind it: what may be entered, what each of them keeps, and what the pass is told.
use Rattle.std.proofs.Common.{◌≡◌, ◌∙◌, ℕ, ◌≤◌, Option, IfSome, refl, sym, ap, subst}
use Rattle.atomic_table.specs.Seated.{TableId}
use Rattle.outside_io.specs.Image.{Image}
use Rattle.outside_io.specs.Faults.{Rose}
use Rattle.carbon_history.specs.declared.entry.Entry.{Entry}
use Rattle.carbon_history.specs.Entries.{about_class}
use Rattle.carbon_model.specs.State.{State}
use Rattle.class_halves.specs.Parts.{HalfValue, half_with, stand_of}
use Rattle.shared_history.specs.Parts.{IsNoMore, PassValue, TailValue, look_now, pass_looking}
use Rattle.shared_history.specs.Views.{look_at}
use Rattle.shard_core.specs.Halves.{AreHalves, DeskInside, FilesInside, both}
use Rattle.shard_core.specs.Shard.{Stays}
use Rattle.shard_core.specs.Writes.{WritesTo}
use Rattle.shard_core.specs.declared.planned.Wrote.{Wrote}
use Rattle.shard_core.specs.declared.planned.Wrote.TheVariants as wrote
use Rattle.shared_store.specs.Desks.{KeepsClass}
use Rattle.shared_store.specs.Locks.{KeepsDesk, KeepsFiles}
use Rattle.shared_store.specs.Passes.{HasRoom, LooksAgain}
use Rattle.shared_store.specs.Steps.{AfterWrite, write_entry}
use Rattle.shared_store.specs.Tails.{MayTell, OwesRun, Tells, tail_told, tail_wrote}
use Rattle.shared_store.proofs.BothLemmas.{both_keep, desk_keeps, files_keep}
use Rattle.shared_store.proofs.ClassLemmas.{few_runs, keeps_write, write_may, write_owes}
use Rattle.shared_store.proofs.LookLemmas.{after_write, looked, looks_again, looks_behind, told_class, told_same, told_tail_class, told_tail_runs, told_tail_settled, wrote_class}

module _ (table : TableId) (half_of : ℕ → TableId) (told : ℕ → Option Image) (start : State) (earlier : ℕ → ℕ) where
  pub written_may : (begin pass : PassValue) (first tail : TailValue) (run : Wrote) (entry : Option Entry) → pass ≡ pass_looking begin (look_now first begin)
      → HasRoom begin → entry ≡ write_entry pass.number tail.class run → IfSome entry (MayTell start pass tail)
  written_may begin pass first tail run entry is room event =
      subst (λ (o : Option Entry). IfSome o (MayTell start pass tail)) (sym event) (write_may table told start earlier pass tail run (subst HasRoom (sym is) room))

  pub written_owes : (desk : DeskInside) (files there : FilesInside) (failed : ℕ) (half other : HalfValue) (first tail : TailValue) (run : Wrote)
      → files.class ≡ desk.class → other.stand ≡ half.stand → KeepsDesk table half_of start desk half first → KeepsFiles half_of told start earlier files failed other
      → WritesTo run (both desk files) (both desk there) → tail ≡ first → OwesRun run tail
  written_owes desk files there failed half other first tail run here met of_desk of_files writes is =
      subst (OwesRun run) (sym is)
      (write_owes table told start earlier (both desk files) (both desk there) failed first run
      (both_keep table half_of told start earlier desk files failed half other first here met of_desk of_files) writes)

module _ (table : TableId) (half_of : ℕ → TableId) (told : ℕ → Option Image) (start : State) (earlier : ℕ → ℕ)
    (desk : DeskInside) (files there : FilesInside) (failed later number : ℕ) (half other : HalfValue) (first tail ended : TailValue) (run : Wrote)
    (here : files.class ≡ desk.class) (met : other.stand ≡ half.stand)
    (of_desk : KeepsDesk table half_of start desk half first) (of_files : KeepsFiles half_of told start earlier files failed other)
    (writes : WritesTo run (both desk files) (both desk there)) (stays : Stays (both desk files) (both desk there)) (halves : AreHalves desk there)
    (class : there.class ≡ files.class) (more : failed ≤ later) (rose : run ≡ wrote.DiskFault → Rose failed later)
    (one : tail ≡ tail_wrote run first) (is : ended ≡ tail_told tail (write_entry number tail.class run)) where
  before : KeepsClass table told start earlier (both desk files) failed first
  before = both_keep table half_of told start earlier desk files failed half other first here met of_desk of_files

  one_class : tail.class ≡ first.class
  one_class = ap (λ (t : TailValue). t.class) one ∙ wrote_class run first

  ended_class : ended.class ≡ first.class
  ended_class = ap (λ (t : TailValue). t.class) is ∙ (told_tail_class tail (write_entry number tail.class run) ∙ one_class)

  kept : KeepsClass table told start earlier (both desk there) later ended
  kept = subst (λ (t : TailValue). KeepsClass table told start earlier (both desk there) later t)
      (sym (is ∙ (λ i. tail_told (one i) (write_entry number (one_class i) run))))
      (keeps_write table told start earlier (both desk files) (both desk there) failed later number first run before writes stays refl more rose)

  pub desk_written : (new : HalfValue) (t : TailValue) → new ≡ half_with half (stand_of ended) → t ≡ ended → KeepsDesk table half_of start desk new t
  desk_written new t half_is same =
      subst (λ (x : TailValue). KeepsDesk table half_of start desk new x) (sym same)
      (subst (λ (h : HalfValue). KeepsDesk table half_of start desk h ended) (sym half_is)
      (desk_keeps table half_of told start earlier desk there later half ended of_desk.tied kept))

  pub files_written : (new : HalfValue) → new ≡ half_with other (stand_of ended) → KeepsFiles half_of told start earlier there later new
  files_written new half_is =
      subst (λ (h : HalfValue). KeepsFiles half_of told start earlier there later h) (sym half_is)
      (files_keep table half_of told start earlier desk there later other ended halves (of_files.tied ∙ ap half_of (sym class)) kept)

  pub after_written : (passes of_class : ℕ) (begin mid new : PassValue) → first.class ≡ of_class → IsNoMore (look_at first.class begin.looks) first
      → new ≡ pass_looking mid (look_now ended mid) → AfterWrite of_class run begin new
  after_written passes of_class begin mid new of_one no_more look =
      subst (λ (k : ℕ). AfterWrite k run begin new) of_one
      (after_write table told start earlier passes (both desk files) (both desk there) later first ended run begin mid new kept ended_class
      (ap (λ (t : TailValue). t.runs) is ∙ (told_tail_runs tail (write_entry number tail.class run) ∙ ap (λ (t : TailValue). t.runs) one))
      (ap (λ (t : TailValue). t.settled) is ∙ (told_tail_settled tail (write_entry number tail.class run) ∙ ap (λ (t : TailValue). t.settled) one))
      writes no_more (looked ended mid new look))

  pub looks_written : (passes of_class : ℕ) (begin pass mid new : PassValue) (entry : Option Entry) → first.class ≡ of_class → number ≡ pass.number → HasRoom begin
      → pass ≡ pass_looking begin (look_now first begin) → IsNoMore (look_at first.class begin.looks) first
      → entry ≡ write_entry number tail.class run → Tells start passes tail entry pass mid
      → new ≡ pass_looking mid (look_now ended mid) → IsNoMore (look_at ended.class mid.looks) ended → LooksAgain of_class begin new
  looks_written passes of_class begin pass mid new entry of_one by room saw no_more event tells look again =
      let entry_is : entry ≡ write_entry pass.number tail.class run = event ∙ ap (λ (n : ℕ). write_entry n tail.class run) by in
      let did : Tells start passes tail (write_entry pass.number tail.class run) pass mid = subst (λ (o : Option Entry). Tells start passes tail o pass mid) entry_is tells in
      let sees : about_class tail.class mid.seen ≡ ended.list =
      told_class start passes tail (write_entry pass.number tail.class run) pass mid (write_may table told start earlier pass tail run (subst HasRoom (sym saw) room)) did
      ∙ sym (ap (λ (t : TailValue). t.list) is ∙ ap (λ (n : ℕ). (tail_told tail (write_entry n tail.class run)).list) by) in
      subst (λ (k : ℕ). LooksAgain k begin new) of_one
      (looks_behind first ended.class begin pass new (sym ended_class) no_more (looked first begin pass saw)
      (looks_again ended pass mid new (told_same start passes tail (write_entry pass.number tail.class run) pass mid did) again (looked ended mid new look)
      (subst (λ (k : ℕ). about_class k mid.seen ≡ ended.list) (one_class ∙ sym ended_class) sees)
      (few_runs table told start earlier (both desk there) later ended kept)))
