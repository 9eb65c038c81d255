use Rattle.std.proofs.Common.{◌≡◌, sym, subst}
use Rattle.line_front.specs.Emits.{EndsLines}
use Rattle.line_front.specs.Links.{SessionValue, Timed, new_session, timed}
use Rattle.line_front.specs.Sessions.{LinkValue, timed_of}
use Rattle.line_front.proofs.EndLemmas.{ends_link}
use Rattle.line_front.proofs.serve.serve_lines.Goals as goal

pub returns-clause-ends : goal.returns-clause-ends
returns-clause-ends g c =
    let moments = g.C.Clock.moments c.args.clock.now in
    let begun : Timed = timed c.replace.result (record { pass = c.args.pass; counts = c.none.result; gathered = c.within.result }) in
    let old : Timed = timed c.args.watch.now (new_session c.args.rules.now c.args.pass) in
    let new : begun ≡ old = λ i. timed (c.replace.ensures.value i) (record { pass = c.args.pass; counts = c.none.ensures i; gathered = c.within.ensures i }) in
    let mid : SessionValue = record { pass = c.session.inside.pass; counts = c.session.inside.counts; gathered = c.session.inside.aggregator } in
    let told = c.session.inside.watch in
    let left = g.L.Source.left c.args.link.now in
    let left' = g.L.Source.left c.serve_link-read.new.link in
    let lines : EndsLines moments g.N.Named.start g.N.Named.passes c.serve_link-read.result left left' old (timed told mid) =
    subst (λ (t : Timed). EndsLines moments g.N.Named.start g.N.Named.passes c.serve_link-read.result left left' t (timed told mid)) new
    (subst (λ (v : LinkValue _). EndsLines moments g.N.Named.start g.N.Named.passes c.serve_link-read.result left left' begun (timed_of v)) (sym c.session.view_is) c.serve_link-read.ensures.ends) in
    ends_link moments g.N.Named.start g.N.Named.passes left left' old told mid c.serve_link-read.result c.end_link-cause.result c.end_link-cause.new.pass
    lines c.end_link-cause.ensures.closed c.end_link-cause.ensures.other
