use Rattle.std.proofs.Common.{rules, ◌≡◌, ◌∙◌, ℕ, Option, sym, subst}
use Rattle.std.specs.Prelude.{IfErr, IfOk, Result, Ok, Err}
use Rattle.metric_path.specs.Class.{class_of}
use Rattle.shard_core.specs.Halves.{DeskInside, desk_of}
use Rattle.shard_core.specs.Reads.{IsKept}
use Rattle.shard_core.specs.Table.{drains_in}
use Rattle.shared_store.proofs.AskPassLemmas.{marks_class}
use Rattle.shared_store.proofs.AskStateLemmas.{bare_at, known_at, was_drained}
use Rattle.shared_store.proofs.class_desk.ClassDesk.recall.Goals as goal

pub recall-requires : goal.recall-requires
recall-requires g c =
    let n = g.N.Named in
    let d = c.self.inside in
    let looked = c.args.looked.now in
    let at : class_of looked.path ≡ d.tail.class = search rules in
    known_at n.start (desk_of d.desk) d.tail c.self.invariant.class c.self.invariant.holds d.desk.listed c.args.pass.now looked c.mark.ensures.begins c.requires.look at

pub returns-clause-looks : goal.returns-clause-looks
returns-clause-looks g c = (marks_class c.self.inside.tail c.args.pass.now c.mark.new.pass c.mark.ensures.pass c.mark.ensures.later).only

pub returns-clause-bare : goal.returns-clause-bare
returns-clause-bare g c =
    let n = g.N.Named in
    let d = c.self.inside in
    let desk : DeskInside = desk_of d.desk in
    let looked = c.args.looked.now in
    let at : class_of looked.path ≡ d.tail.class = search rules in
    λ is.
    bare_at n.start desk d.tail c.self.invariant.class c.self.invariant.holds d.desk.listed c.args.pass.now looked c.mark.ensures.begins c.requires.look at
    (subst (λ (r : Result (Option ℕ) ℕ). IfOk r (λ kept. drains_in desk.table looked.path ≡ looked.drains)) is c.recall.ensures.same)
    (subst (λ (r : Result (Option ℕ) ℕ). IfOk r (IsKept desk.table looked.path)) is c.recall.ensures.kept)

pub returns-clause-moved : goal.returns-clause-moved
returns-clause-moved g c =
    let n = g.N.Named in
    let d = c.self.inside in
    let desk : DeskInside = desk_of d.desk in
    let looked = c.args.looked.now in
    let at : class_of looked.path ≡ d.tail.class = search rules in
    let marks = marks_class d.tail c.args.pass.now c.mark.new.pass c.mark.ensures.pass c.mark.ensures.later in
    if_err c.recall.result _ _ c.recall.ensures.moved (λ drains moved.
    was_drained n.start desk d.tail c.self.invariant.class c.self.invariant.holds d.desk.listed c.args.pass.now looked c.mark.ensures.begins c.requires.look at
    c.mark.new.pass marks (λ same. moved.1 (sym moved.0 ∙ same)))
  where
    if_err : (result : Result (Option ℕ) ℕ) (P Q : ℕ → Type 0) → IfErr result P → ((e : ℕ) → P e → Q e) → IfErr result Q
    if_err (Ok kept) P Q is more = tt
    if_err (Err e) P Q is more = more e is
