use Rattle.std.proofs.Common.{◌≡◌, ◌∙◌, ◌+◌, ◌/◌, ◌<◌, ℕ, List, ap, sym, arith, length, false, None}
use Rattle.std.proofs.lemmas.List.{length-replicate}
use Rattle.path_glob.specs.Positions.{bit_of}
use Rattle.path_glob.specs.States.{mark_at, mark_of, state_of}
use Rattle.path_glob.proofs.BitLemmas.{done_more, none_held}
use Rattle.path_glob.proofs.TableLemmas.{all_marks, mark_here}
use Rattle.path_glob.proofs.tables.states_of_kind.Goals as goal
use Rattle.path_glob.proofs.tables.states_of_kind.Goals.{then-is, else-is}

pub loop-place-init : goal.loop-place-init
loop-place-init c =
    let n = length c.args.states.now / 64 + 1 in
    record {
      room = ap length c.in_ok-bits.ensures ∙ length-replicate n 0;
      done = (λ j before. absurd (omega (arith, before)), λ j from. ap (λ (l : List ℕ). bit_of l j) c.in_ok-bits.ensures ∙ none_held n j);
    }

pub loop-place-preserved : goal.loop-place-preserved
loop-place-preserved c =
    let states = c.args.states.now in
    let mark = mark_of c.args.kind in
    let place = c.loop-place.place in
    let within : place < length states = omega arith in
    let told : mark_at mark states place ≡ c.is.result = mark_here mark states place (state_of false false None) within ∙ sym c.is.ensures in
    elim c.if-is.branch [
      | then-is w ↦ record {
        room = ap length w.bits-is ∙ w.insert.ensures.room ∙ c.loop-place.invariant.room;
        done = done_more (mark_at mark states) (bit_of c.loop-place.bits) (bit_of c.if-is.bits) place
            (ap (λ (l : List ℕ). bit_of l place) w.bits-is ∙ w.insert.ensures.added ∙ sym (told ∙ w.if-is.true))
            (λ j other. ap (λ (l : List ℕ). bit_of l j) w.bits-is ∙ w.insert.ensures.others j other) c.loop-place.invariant.done;
      }
      | else-is w ↦ record {
        room = ap length w.bits-is ∙ c.loop-place.invariant.room;
        done = done_more (mark_at mark states) (bit_of c.loop-place.bits) (bit_of c.if-is.bits) place
            (ap (λ (l : List ℕ). bit_of l place) w.bits-is ∙ c.loop-place.invariant.done.1 place (omega arith) ∙ sym (told ∙ w.if-is.false))
            (λ j other. ap (λ (l : List ℕ). bit_of l j) w.bits-is) c.loop-place.invariant.done;
      }
    ]

pub returns : goal.returns
returns c = all_marks (mark_of c.args.kind) c.args.states.now c.loop-place.bits c.loop-place.place (omega arith) c.loop-place.invariant.room c.loop-place.invariant.done

pub insert-requires : goal.insert-requires
insert-requires c =
    let within : c.loop-place.place < length c.args.states.now = omega arith in
    omega (arith, c.loop-place.invariant.room, within)
