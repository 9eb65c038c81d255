-- The ends of needs are in order.
use Rattle.std.proofs.Common.{ℕ, ◌≤◌, [], All, arith}
use Rattle.std.proofs.lemmas.List.Elements.{All-append, All-cons, All-nil}
use Rattle.path_glob.specs.Faults.{Said}
use Rattle.render_plan.specs.declared.needs.Shift.{Shift}
use Rattle.render_plan.specs.Needed.{AreEnds, need_at, needs_in, needs_in_all, needs_of, no_shift, with_operation}
use Rattle.render_plan.specs.Planned.{Plan}
use Rattle.render_plan.specs.Terms.{Term, Terms, Fetch, Apply, NoTerms, WithTerm, all_terms}

ends_at : (from until : ℕ) (shift : Shift) (glob : Said) → from ≤ until → AreEnds (need_at from until shift glob)
ends_at from until shift glob order = record { order = omega (arith, order); early = omega arith }

mutual
  ends_in : (from until : ℕ) (shift : Shift) (term : Term) → from ≤ until → All AreEnds (needs_in from until shift term)
  ends_in from until shift (Fetch glob) order = All-cons AreEnds (need_at from until shift glob) [] (ends_at from until shift glob order) (All-nil AreEnds)
  ends_in from until shift (Apply operation terms) order = ends_in_all from until (with_operation shift operation) terms order

  ends_in_all : (from until : ℕ) (shift : Shift) (terms : Terms) → from ≤ until → All AreEnds (needs_in_all from until shift terms)
  ends_in_all from until shift NoTerms order = All-nil AreEnds
  ends_in_all from until shift (WithTerm term terms) order =
      All-append AreEnds (needs_in from until shift term) (needs_in_all from until shift terms) (ends_in from until shift term order) (ends_in_all from until shift terms order)

pub needs_are_ends : (plan : Plan) → plan.from ≤ plan.until → All AreEnds (needs_of plan)
unfolding needs_of
needs_are_ends plan order = ends_in_all plan.from plan.until no_shift (all_terms plan.targets) order
