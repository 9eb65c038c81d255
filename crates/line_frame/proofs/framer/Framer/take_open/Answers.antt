use Rattle.std.proofs.Common.{rules, ◌≡◌, ◌-◌, length, min, subst}
use Rattle.line_frame.specs.Lines.{Framing}
use Rattle.line_frame.specs.Calls.{Feeds}
use Rattle.line_frame.specs.Held.{framing_of}
use Rattle.line_frame.proofs.BufferLemmas.{IsLaidOut-take_open, Feeds-take_open}
use Rattle.line_frame.proofs.framer.Framer.take_open.Goals as goal

pub invariant_of-self-2 : goal.invariant_of-self-2
invariant_of-self-2 c =
    let kept : c.min-kept.result ≡ min (length c.args.piece.now) (16385 - (length c.self.inside.buffer.items - c.self.inside.open_start)) = search rules in
    IsLaidOut-take_open _ _ _ _ _ _ _ c.self.invariant c.requires kept c.in_ok-extend_from_slice.ensures.items

pub returns-clause-ok : goal.returns-clause-ok
returns-clause-ok c =
    let kept : c.min-kept.result ≡ min (length c.args.piece.now) (16385 - (length c.self.inside.buffer.items - c.self.inside.open_start)) = search rules in
    let feeds = Feeds-take_open _ _ _ _ _ _ c.self.inside.current c.self.invariant c.requires kept c.in_ok-extend_from_slice.ensures.items in
    subst (λ (old : Framing). Feeds old c.args.piece.now (framing_of c.extend_from_slice.new.self.items c.self.inside.at c.self.inside.open_start c.self.inside.current)) c.self.view_is feeds
