use Rattle.std.proofs.Common.{◌≡◌, ◌∙◌, ◌∷◌, [], List, Bool, true, false, Some, None, ap, sym, subst}
use Rattle.path_glob.specs.Glob.{AnyRow}
use Rattle.path_glob.specs.Parts.{simple_said}
use Rattle.path_glob.specs.Reading.{row_of}
use Rattle.path_glob.specs.States.{AddsRow, AreStates, state_of}
use Rattle.path_glob.specs.declared.cut.SimplePiece.{SimplePiece}
use Rattle.path_glob.specs.declared.states.State.{State}
use Rattle.path_glob.proofs.StateLemmas.{byte_first, row_ends, star_first, states_onto}
use Rattle.path_glob.proofs.states.push_row.Goals as goal
use Rattle.path_glob.proofs.states.push_row.Goals.{in-AnyRow, in-Byte+in_ok-push-in-Byte}

pub loop-piece-preserved : goal.loop-piece-preserved
loop-piece-preserved c = λ tail are.
    let row = row_of c.loop-piece.rest.now in
    let after = row_of c.in-Some.piece.after.now in
    let first = c.loop-piece.is_first in
    let star = c.loop-piece.has_star in
    let adds = λ (l : List State). AddsRow (row_of c.args.row.now) c.args.states.now.items l in
    elim c.match-piece.branch [
      | in-AnyRow w ↦
          let is : row ≡ AnyRow ∷ after = c.in-Some.ensures.0 ∙ ap (λ (p : SimplePiece). simple_said p ∷ after) w.in-AnyRow.is in
          let own = subst (λ (f : Bool). AreStates f true after tail) w.is_first-is (subst (λ (s : Bool). AreStates c.match-piece.is_first s after tail) w.has_star-is are) in
          rw w.states-is (c.loop-piece.invariant tail (star_first first star row after tail is own))
      | in-Byte+in_ok-push-in-Byte w ↦
          let set = w.in-Byte.bytes in
          let is = c.in-Some.ensures.0 ∙ ap (λ (p : SimplePiece). simple_said p ∷ after) w.in-Byte.is in
          let own = subst (λ (f : Bool). AreStates f false after tail) w.is_first-is (subst (λ (s : Bool). AreStates c.match-piece.is_first s after tail) w.has_star-is are) in
          let state = state_of first star (Some set) in
          let onto = states_onto c.loop-piece.states.items (state ∷ []) tail w.push.new.self.items w.in_ok-push-in-Byte.ensures.items in
          rw w.states-is (subst adds (sym onto) (c.loop-piece.invariant (state ∷ tail) (byte_first first star set row after tail is own)))
    ]

pub returns : goal.returns
returns c =
    let state = state_of c.loop-piece.is_first c.loop-piece.has_star None in
    subst (AddsRow (row_of c.args.row.now) c.args.states.now.items) (sym c.in_ok-push.ensures.items)
    (c.loop-piece.invariant (state ∷ []) (row_ends c.loop-piece.is_first c.loop-piece.has_star (row_of c.loop-piece.rest.now) c.in_default.ensures))
