use Rattle.std.proofs.Common.{arith, rules, ◌∷◌, ◌+◌, ap, sym, ◌∙◌, refl, slice_range}
use Rattle.line_frame.specs.Lines.{Framing, Line, lines}
use Rattle.line_frame.proofs.LineLemmas.{line_of-long, line_of-short}
use Rattle.line_frame.proofs.BufferLemmas.{IsLaidOut-next, length-range, lines-next, none_waiting}
use Rattle.line_frame.proofs.framer.Framer.next_line.Goals as goal

pub unreachable-requires : goal.unreachable-requires
unreachable-requires c =
    let nowhere = rw c.deref.ensures.value at c.in_default.ensures in
    omega (arith, none_waiting _ nowhere c.self.invariant.whole, length-range c.self.inside.buffer.items c.self.inside.at c.self.inside.open_start c.self.invariant.ordered c.self.invariant.within)

pub invariant_of-self-then-len-gt-MOST_LINE_BYTES : goal.invariant_of-self-then-len-gt-MOST_LINE_BYTES
invariant_of-self-then-len-gt-MOST_LINE_BYTES c =
    let first = rw c.deref.ensures.value at c.in-Some.ensures in IsLaidOut-next _ _ _ _ _ _ c.self.invariant first (λ place is. absurd cc) (λ place is. absurd cc)

pub returns-then-len-gt-MOST_LINE_BYTES-clause-next : goal.returns-then-len-gt-MOST_LINE_BYTES-clause-next
returns-then-len-gt-MOST_LINE_BYTES-clause-next c =
    let first = rw c.deref.ensures.value at c.in-Some.ensures in
    let next = lines-next _ _ _ _ c.self.invariant.ordered c.self.invariant.within first in
    let long = line_of-long (slice_range c.self.inside.buffer.items c.self.inside.at (c.self.inside.at + c.in-Some.len)) (omega (arith, next.1)) in
    (ap (λ (f : Framing). f.waiting) (sym c.self.view_is) ∙ next.0 ∙ ap (λ (l : Line). l ∷ lines (slice_range c.self.inside.buffer.items (c.self.inside.at + c.in-Some.len + 1) c.self.inside.open_start)) long, refl)

pub invariant_of-self-2 : goal.invariant_of-self-2
invariant_of-self-2 c =
    let first = rw c.deref.ensures.value at c.in-Some.ensures in IsLaidOut-next _ _ _ _ _ _ c.self.invariant first (search rules) (search rules)

pub returns-clause-next : goal.returns-clause-next
returns-clause-next c =
    let first = rw c.deref.ensures.value at c.in-Some.ensures in
    let next = lines-next _ _ _ _ c.self.invariant.ordered c.self.invariant.within first in
    let short = line_of-short (slice_range c.self.inside.buffer.items c.self.inside.at (c.self.inside.at + c.in-Some.len)) (omega (arith, next.1)) in (
      slice_range c.self.inside.buffer.items c.self.inside.at (c.self.inside.at + c.in-Some.len),
      ap (λ (f : Framing). f.waiting) (sym c.self.view_is) ∙ next.0 ∙ ap (λ (l : Line). l ∷ lines (slice_range c.self.inside.buffer.items (c.self.inside.at + c.in-Some.len + 1) c.self.inside.open_start)) short,
      refl,
    )
