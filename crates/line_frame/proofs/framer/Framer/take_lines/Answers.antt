use Rattle.std.proofs.Common.{rules, ◌≡◌, ◌+◌, ◌-◌, length, subst}
use Rattle.line_frame.specs.Lines.{Framing}
use Rattle.line_frame.specs.Calls.{Feeds}
use Rattle.line_frame.specs.Held.{framing_of}
use Rattle.line_frame.proofs.BufferLemmas.{IsLaidOut-take_lines, Feeds-take_lines}
use Rattle.line_frame.proofs.framer.Framer.take_lines.Goals as goal

pub invariant_of-self-2 : goal.invariant_of-self-2
invariant_of-self-2 c =
    let start : c.len.result - (c.min-kept.result - (c.args.last + 1)) ≡ length c.extend_from_slice.new.self.items - (c.min-kept.result - (c.args.last + 1)) = search rules in
    IsLaidOut-take_lines _ _ _ _ _ _ _ _ _ c.self.invariant c.requires c.min-kept.ensures c.in_ok-extend_from_slice.ensures.items start

pub returns-clause-ok : goal.returns-clause-ok
returns-clause-ok c =
    let start : c.len.result - (c.min-kept.result - (c.args.last + 1)) ≡ length c.extend_from_slice.new.self.items - (c.min-kept.result - (c.args.last + 1)) = search rules in
    let feeds = Feeds-take_lines _ _ _ _ _ _ _ _ c.self.inside.current c.self.invariant c.requires c.min-kept.ensures c.in_ok-extend_from_slice.ensures.items start in
    subst (λ (old : Framing). Feeds old c.args.piece.now (framing_of c.extend_from_slice.new.self.items c.self.inside.at (c.len.result - (c.min-kept.result - (c.args.last + 1))) c.self.inside.current)) c.self.view_is feeds
