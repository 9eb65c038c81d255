use Rattle.std.proofs.Common.{◌≡◌, ◌∙◌, true, false, ℕ, List, Bool, ap, sym, length}
use Rattle.path_glob.specs.Positions.{bit_of, held}
use Rattle.path_glob.proofs.TableLemmas.{begun_here, begun_not}
use Rattle.path_glob.proofs.tables.Tables.visit.Goals as goal
use Rattle.path_glob.proofs.tables.Tables.visit.Goals.{then-has, else-has}

pub returns-then-meets-clause-room : goal.returns-then-meets-clause-room
returns-then-meets-clause-room c = elim c.if-has.branch [
  | then-has w ↦ ap length w.active-is ∙ w.add.ensures.room
  | else-has w ↦ ap length w.active-is
]

pub returns-clause-room : goal.returns-clause-room
returns-clause-room c = elim c.if-has.branch [
  | then-has w ↦ ap length w.active-is ∙ w.add.ensures.room
  | else-has w ↦ ap length w.active-is
]

pub returns-then-meets-clause-begun : goal.returns-then-meets-clause-begun
returns-then-meets-clause-begun c = λ p.
    let old = bit_of c.args.active.now p in
    let first = bit_of c.args.self.now.firsts p in
    let starts = held c.args.start c.args.place in
    elim c.if-has.branch [
      | then-has w ↦ ap (λ (l : List ℕ). bit_of l p) w.active-is ∙ w.add.ensures.either p ∙ begun_here old first starts (sym c.has.ensures ∙ w.if-has.true)
      | else-has w ↦ ap (λ (l : List ℕ). bit_of l p) w.active-is ∙ begun_not old first starts (sym c.has.ensures ∙ w.if-has.false)
    ]

pub returns-clause-begun : goal.returns-clause-begun
returns-clause-begun c = λ p.
    let old = bit_of c.args.active.now p in
    let first = bit_of c.args.self.now.firsts p in
    let starts = held c.args.start c.args.place in
    elim c.if-has.branch [
      | then-has w ↦ ap (λ (l : List ℕ). bit_of l p) w.active-is ∙ w.add.ensures.either p ∙ begun_here old first starts (sym c.has.ensures ∙ w.if-has.true)
      | else-has w ↦ ap (λ (l : List ℕ). bit_of l p) w.active-is ∙ begun_not old first starts (sym c.has.ensures ∙ w.if-has.false)
    ]

pub returns-then-meets-clause-ended : goal.returns-then-meets-clause-ended
returns-then-meets-clause-ended c = (λ yes. c.meets.ensures.0 c.if-meets.true, λ met. c.and.ensures.added)

pub returns-clause-ended : goal.returns-clause-ended
returns-clause-ended c = (
  λ yes. absurd (let e : ◌≡◌ {A = Bool} false true = sym c.requires.unseen ∙ yes in cc),
  λ met. absurd (let e : ◌≡◌ {A = Bool} false true = sym c.if-meets.false ∙ c.meets.ensures.1 met in cc),
)
