use Rattle.std.proofs.Common.{inl, inr, map, refl, ap, subst}
use Rattle.line_service.specs.declared.ends.Stop.TheVariants.{NoMemory}
use Rattle.metric_line.specs.Seen.{seen}
use Rattle.line_front.specs.Bringing.{FewBehind, PutsBehind}
use Rattle.line_front.specs.Sessions.{LinkValue}
use Rattle.line_front.proofs.BringLemmas.{at_first, part_brings, part_few, part_fewer}
use Rattle.line_front.proofs.session.LineSession.bring_front.Goals as goal

pub returns-in_default-clause-stops : goal.returns-in_default-clause-stops
returns-in_default-clause-stops g c =
    at_first g.N.Named.start g.N.Named.passes c.args.points.now NoMemory c.args.self.now.session c.feed_front.new.self.session c.requires.some
    (λ point. inr (inl (refl, inl (ap (λ (v : LinkValue _). v.session) c.in_default.ensures.none))))

pub returns-in-Err-clause-stops : goal.returns-in-Err-clause-stops
returns-in-Err-clause-stops g c =
    part_fewer g.N.Named.start g.N.Named.passes c.args.points.now c.in-Ok.fed.count c.in-Ok.fed.emitted.items c.args.self.now.session c.feed_front.new.self.session c.in-Ok.ensures.feeds
    c.in-Err.stop c.put_points.new.self.session c.in-Err.ensures.stops

pub returns-in-Ok-put_behind-clause-brings : goal.returns-in-Ok-put_behind-clause-brings
returns-in-Ok-put_behind-clause-brings g c =
    part_brings g.N.Named.start g.N.Named.passes c.args.points.now c.in-Ok.fed.count c.in-Ok.fed.emitted.items c.args.self.now.session c.feed_front.new.self.session c.in-Ok.ensures.feeds
    c.put_points.new.self.session c.in-Ok-put_points.ensures.puts c.put_behind.new.self.session
    (subst (λ points. PutsBehind g.N.Named.start g.N.Named.passes (map seen points) c.put_points.new.self.session c.put_behind.new.self.session) c.as_slice.ensures.value
    c.in-Ok-put_behind.ensures.puts)

pub returns-clause-stops : goal.returns-clause-stops
returns-clause-stops g c =
    part_few g.N.Named.start g.N.Named.passes c.args.points.now c.in-Ok.fed.count c.in-Ok.fed.emitted.items c.args.self.now.session c.feed_front.new.self.session c.in-Ok.ensures.feeds
    c.put_points.new.self.session c.in-Ok-put_points.ensures.puts c.in-Err-put_behind.stop c.put_behind.new.self.session
    (subst (λ points. FewBehind g.N.Named.start g.N.Named.passes (map seen points) c.in-Err-put_behind.stop c.put_points.new.self.session c.put_behind.new.self.session)
    c.as_slice.ensures.value c.in-Err-put_behind.ensures.stops)
