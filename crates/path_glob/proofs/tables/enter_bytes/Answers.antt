use Rattle.std.proofs.Common.{◌∙◌, ◌+◌, ◌<◌, ℕ, List, subst, sym, arith, length}
use Rattle.path_glob.specs.Parts.{covers_byte}
use Rattle.path_glob.proofs.TableLemmas.{Entering, entering_not, entering_one, entering_start, still_room}
use Rattle.path_glob.proofs.tables.enter_bytes.Goals as goal
use Rattle.path_glob.proofs.tables.enter_bytes.Goals.{then-is_covered, else-is_covered}

pub loop-b-init : goal.loop-b-init
loop-b-init c = entering_start (covers_byte c.args.bytes) c.args.place c.args.over.now

pub insert-requires : goal.insert-requires
insert-requires c = still_room c.args.over.now c.loop-b.over (covers_byte c.args.bytes) c.args.place c.loop-b.b c.index-over-b.result (omega arith) (omega arith) c.requires c.loop-b.invariant

pub loop-b-preserved : goal.loop-b-preserved
loop-b-preserved c =
    let enters = covers_byte c.args.bytes in
    let old = c.args.over.now in
    let place = c.args.place in
    let b = c.loop-b.b in
    let now = c.loop-b.over in
    elim c.if-is_covered.branch [
      | then-is_covered w ↦
          let within : b < length now = omega (arith, c.requires.count) in
          subst (λ (l : List (List ℕ)). Entering enters place old l (b + 1)) (sym w.over-is)
          (entering_one enters place old now b w.index-over-b.result w.insert.new.self within (sym c.is_covered.ensures ∙ w.if-is_covered.true) w.insert.ensures.room w.insert.ensures.added w.insert.ensures.others c.loop-b.invariant)
      | else-is_covered w ↦
          subst (λ (l : List (List ℕ)). Entering enters place old l (b + 1)) (sym w.over-is)
          (entering_not enters place old now b (sym c.is_covered.ensures ∙ w.if-is_covered.false) c.loop-b.invariant)
    ]

pub returns : goal.returns
returns c = λ b small. c.loop-b.invariant.done b (omega (arith, small))
