use Rattle.std.proofs.Common.{rules, ◌≡◌, ◌∙◌, ℕ, List, refl, sym, ap, subst}
use Rattle.metric_path.specs.Class.{class_of}
use Rattle.carbon_history.specs.declared.entry.Entry.{Entry}
use Rattle.carbon_history.specs.Entries.{about_class}
use Rattle.carbon_model.specs.Replay.{replay}
use Rattle.class_halves.specs.Parts.{HalfValue, half_with, stand_of}
use Rattle.shared_history.specs.Parts.{TailValue}
use Rattle.shard_core.specs.Halves.{AreHalves, DeskInside, FilesInside, both, desk_of, files_of}
use Rattle.shard_core.specs.Looks.{MayRead}
use Rattle.shard_core.specs.Shard.{Holds}
use Rattle.shared_store.specs.Desks.{KeepsClass}
use Rattle.shared_store.specs.Locks.{KeepsDesk, KeepsFiles, OnlyPuts}
use Rattle.shared_store.proofs.AskPassLemmas.{enters_fault, fault_behind, marks_class}
use Rattle.shared_store.proofs.AskStateLemmas.{known_at, may_read, shows_at, was_drained}
use Rattle.shared_store.proofs.BothLemmas.{both_halves, both_keep, desk_keeps, files_keep}
use Rattle.shared_store.proofs.ClassLemmas.{keeps_fault}
use Rattle.shared_store.proofs.HeldLemmas.{drains_held}
use Rattle.shared_store.proofs.class_files.ClassFiles.read.Goals as goal

pub recall-recalled-requires : goal.recall-recalled-requires
recall-recalled-requires g c =
    let n = g.N.Named in
    let d = c.desk.inside in
    let looked = c.args.looked.now in
    let at : class_of looked.path ≡ d.tail.class = search rules in
    known_at n.start (desk_of d.desk) d.tail c.desk.invariant.class c.desk.invariant.holds d.desk.listed c.args.pass.now looked c.mark.ensures.begins c.requires.look at

pub fetch_looked-requires : goal.fetch_looked-requires
fetch_looked-requires g c =
    let n = g.N.Named in
    let f = c.self.inside in
    let d = c.desk.inside in
    let desk : DeskInside = desk_of d.desk in
    let files : FilesInside = files_of {d = g.D.Disk} f.files in
    let failed : ℕ = g.D.Disk.faults f.files.disk in
    let looked = c.args.looked.now in
    let here : f.files.class ≡ d.desk.class = search rules in
    let at : class_of looked.path ≡ d.tail.class = search rules in
    let may : MayRead (both desk files) looked =
    may_read n.start desk d.tail c.desk.invariant.class c.desk.invariant.holds d.desk.listed c.args.pass.now looked c.mark.ensures.begins c.requires.look at files in
    let halves : AreHalves desk files = both_halves n.table n.halves n.told n.start n.faults desk files failed d.half f.half d.tail here c.meet.ensures.same c.desk.invariant c.self.invariant in
    record { desk = desk; may = record { halves = halves; may = may; kept = c.in-Ok.ensures.kept } }

pub returns-in-Ok-fetch_looked-clause-reads : goal.returns-in-Ok-fetch_looked-clause-reads
returns-in-Ok-fetch_looked-clause-reads g c =
    let n = g.N.Named in
    let f = c.self.inside in
    let d = c.desk.inside in
    let desk : DeskInside = desk_of d.desk in
    let files : FilesInside = files_of {d = g.D.Disk} f.files in
    let failed : ℕ = g.D.Disk.faults f.files.disk in
    let looked = c.args.looked.now in
    let here : f.files.class ≡ d.desk.class = search rules in
    let at : class_of looked.path ≡ d.tail.class = search rules in
    let keeps : KeepsClass n.table n.told n.start n.faults (both desk files) failed d.tail =
    both_keep n.table n.halves n.told n.start n.faults desk files failed d.half f.half d.tail here c.meet.ensures.same c.desk.invariant c.self.invariant in
    let may : MayRead (both desk files) looked =
    may_read n.start desk d.tail c.desk.invariant.class c.desk.invariant.holds d.desk.listed c.args.pass.now looked c.mark.ensures.begins c.requires.look at files in
    let halves : AreHalves desk files = both_halves n.table n.halves n.told n.start n.faults desk files failed d.half f.half d.tail here c.meet.ensures.same c.desk.invariant c.self.invariant in
    let marks = marks_class d.tail c.args.pass.now c.mark.new.pass c.mark.ensures.pass c.mark.ensures.later in (
      marks.only,
      shows_at n.start desk d.tail c.desk.invariant.class c.desk.invariant.holds d.desk.listed c.args.pass.now looked c.mark.ensures.begins
          c.requires.look at n.told files keeps.holds c.in-Ok-fetch_looked.values c.in-Ok.ensures.same
          (c.in-Ok-fetch_looked.ensures.shows desk (record { halves = halves; may = may; kept = c.in-Ok.ensures.kept })),
    )

pub returns-in-Err-clause-reads : goal.returns-in-Err-clause-reads
returns-in-Err-clause-reads g c =
    let n = g.N.Named in
    let d = c.desk.inside in
    let looked = c.args.looked.now in
    let at : class_of looked.path ≡ d.tail.class = search rules in
    let marks = marks_class d.tail c.args.pass.now c.mark.new.pass c.mark.ensures.pass c.mark.ensures.later in (
      marks.only,
      was_drained n.start (desk_of d.desk) d.tail c.desk.invariant.class c.desk.invariant.holds d.desk.listed c.args.pass.now looked c.mark.ensures.begins
          c.requires.look at c.mark.new.pass marks (λ same. c.in-Err.ensures.moved.1 (sym c.in-Err.ensures.moved.0 ∙ same)),
    )

pub returns-in-Err-clause-still : goal.returns-in-Err-clause-still
returns-in-Err-clause-still g c =
    let n = g.N.Named in
    let f = c.self.inside in
    let d = c.desk.inside in
    let looked = c.args.looked.now in
    let at : class_of looked.path ≡ c.args.self.now.class = search rules in
    let desk_at : class_of looked.path ≡ d.desk.class = search rules in
    let stand : c.args.self.now.list ≡ d.half.stand.list = search rules in
    λ puts.
    let held = drains_held n.start d.half.stand.list d.tail.list c.args.pass.now.seen c.args.self.now.class looked.path at c.desk.invariant.since
    (subst (λ (l : List Entry). OnlyPuts l (about_class c.args.self.now.class c.args.pass.now.seen)) stand puts) in
    c.in-Err.ensures.moved.1 (sym c.in-Err.ensures.moved.0 ∙ (c.desk.invariant.holds.drains looked.path (record { legal = c.requires.look.legal; here = desk_at }) ∙ (held ∙ sym c.requires.look.drains)))

pub returns-in-Err-NoMemory-clause-reads : goal.returns-in-Err-NoMemory-clause-reads
returns-in-Err-NoMemory-clause-reads g c = (marks_class c.desk.inside.tail c.args.pass.now c.mark.new.pass c.mark.ensures.pass c.mark.ensures.later).only

pub returns-clause-reads : goal.returns-clause-reads
returns-clause-reads g c =
    let n = g.N.Named in
    let first = c.desk.inside.tail in
    let tail = c.desk-2.inside.tail in
    let at : tail.class ≡ class_of c.args.looked.now.path = search rules in
    let marks = marks_class first c.args.pass.now c.mark.new.pass c.mark.ensures.pass c.mark.ensures.later in
    fault_behind n.start n.passes (class_of c.args.looked.now.path) c.args.pass.now c.mark.new.pass c.tell.new.pass marks.only
    (enters_fault n.start n.passes (class_of c.args.looked.now.path) tail c.mark.new.pass c.tell.new.pass at c.tell.ensures.tells)

pub invariant_of-self-2 : goal.invariant_of-self-2
invariant_of-self-2 g c =
    let n = g.N.Named in
    let f = c.self.inside in
    let d = c.desk-2.inside in
    let desk : DeskInside = desk_of d.desk in
    let old : FilesInside = files_of {d = g.D.Disk} f.files in
    let new : FilesInside = files_of {d = g.D.Disk} c.fetch_looked.new.self in
    let failed : ℕ = g.D.Disk.faults f.files.disk in
    let later : ℕ = g.D.Disk.faults c.fetch_looked.new.self.disk in
    let pass = c.mark.new.pass in
    let here : f.files.class ≡ d.desk.class = search rules in
    let met : f.half.stand ≡ d.half.stand = ap (λ (h : HalfValue). h.stand) (sym c.meet.ensures.files) ∙ c.meet-2.ensures.same in
    let keeps : KeepsClass n.table n.told n.start n.faults (both desk old) failed d.tail =
    both_keep n.table n.halves n.told n.start n.faults desk old failed d.half f.half d.tail here met c.desk-2.invariant c.self.invariant in
    let same : new ≡ old = c.fetch_looked.ensures.same in
    let holds : Holds (n.told desk.class) (both desk new) (replay n.start d.tail.list) =
    subst (λ (x : FilesInside). Holds (n.told desk.class) (both desk x) (replay n.start d.tail.list)) (sym same) keeps.holds in
    let ended : TailValue = c.tell.new.tail in
    let kept : KeepsClass n.table n.told n.start n.faults (both desk new) later ended =
    subst (λ (t : TailValue). KeepsClass n.table n.told n.start n.faults (both desk new) later t) (sym c.tell.ensures.tail)
    (keeps_fault n.table n.told n.start n.faults (both desk old) (both desk new) failed later pass.number d.tail keeps refl
    (ap (λ (x : FilesInside). x.shelf) same) (ap (λ (x : FilesInside). x.steps) same) holds (c.in-Err-DiskFault.ensures.frame.cause (search rules))) in
    let before : AreHalves desk old = both_halves n.table n.halves n.told n.start n.faults desk old failed d.half f.half d.tail here met c.desk-2.invariant c.self.invariant in
    let half : c.renew.new.files ≡ half_with f.half (stand_of ended) =
    c.renew.ensures.files ∙ ap (λ (h : HalfValue). half_with h (stand_of ended)) (c.meet-2.ensures.files ∙ c.meet.ensures.files) in
    subst (λ (h : HalfValue). KeepsFiles n.halves n.told n.start n.faults new later h) (sym half)
    (files_keep n.table n.halves n.told n.start n.faults desk new later f.half ended (subst (AreHalves desk) (sym same) before)
    (c.self.invariant.tied ∙ ap n.halves (ap (λ (x : FilesInside). x.class) (sym same))) kept)

pub invariant_of-desk-2 : goal.invariant_of-desk-2
invariant_of-desk-2 g c =
    let n = g.N.Named in
    let f = c.self.inside in
    let d = c.desk-2.inside in
    let desk : DeskInside = desk_of d.desk in
    let old : FilesInside = files_of {d = g.D.Disk} f.files in
    let new : FilesInside = files_of {d = g.D.Disk} c.fetch_looked.new.self in
    let failed : ℕ = g.D.Disk.faults f.files.disk in
    let later : ℕ = g.D.Disk.faults c.fetch_looked.new.self.disk in
    let pass = c.mark.new.pass in
    let here : f.files.class ≡ d.desk.class = search rules in
    let met : f.half.stand ≡ d.half.stand = ap (λ (h : HalfValue). h.stand) (sym c.meet.ensures.files) ∙ c.meet-2.ensures.same in
    let keeps : KeepsClass n.table n.told n.start n.faults (both desk old) failed d.tail =
    both_keep n.table n.halves n.told n.start n.faults desk old failed d.half f.half d.tail here met c.desk-2.invariant c.self.invariant in
    let same : new ≡ old = c.fetch_looked.ensures.same in
    let holds : Holds (n.told desk.class) (both desk new) (replay n.start d.tail.list) =
    subst (λ (x : FilesInside). Holds (n.told desk.class) (both desk x) (replay n.start d.tail.list)) (sym same) keeps.holds in
    let ended : TailValue = c.tell.new.tail in
    let kept : KeepsClass n.table n.told n.start n.faults (both desk new) later ended =
    subst (λ (t : TailValue). KeepsClass n.table n.told n.start n.faults (both desk new) later t) (sym c.tell.ensures.tail)
    (keeps_fault n.table n.told n.start n.faults (both desk old) (both desk new) failed later pass.number d.tail keeps refl
    (ap (λ (x : FilesInside). x.shelf) same) (ap (λ (x : FilesInside). x.steps) same) holds (c.in-Err-DiskFault.ensures.frame.cause (search rules))) in
    let half : c.renew.new.desk ≡ half_with d.half (stand_of ended) =
    c.renew.ensures.desk ∙ ap (λ (h : HalfValue). half_with h (stand_of ended)) c.meet-2.ensures.desk in
    subst (λ (h : HalfValue). KeepsDesk n.table n.halves n.start desk h ended) (sym half)
    (desk_keeps n.table n.halves n.told n.start n.faults desk new later d.half ended c.desk-2.invariant.tied kept)
