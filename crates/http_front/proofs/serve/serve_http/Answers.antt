use Rattle.std.proofs.Common.{inr}
use Rattle.http_front.specs.Origin.{origin_of}
use Rattle.http_front.proofs.EntryLemmas.{link_makes}
use Rattle.http_front.proofs.serve.serve_http.Goals as goal

pub returns-clause-makes : goal.returns-clause-makes
returns-clause-makes g c = link_makes (origin_of g.C.Clock g.N.Named c.args.clock.now) _ _ _ _ _ _ (inr c.serve.ensures.ends)
