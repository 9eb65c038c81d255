use Rattle.std.proofs.Common.{refl}
use Rattle.carbon_serve.proofs.LineLemmas.{link_spent, link_works}
use Rattle.carbon_serve.proofs.workers.Server.receive_link.Goals as goal

pub returns : goal.returns
returns g c = record {
  works = link_works (g.C.Clock.moments c.args.self.now.clock.now) g.N.Named.start g.N.Named.passes c.args.self.now.rules.now c.serve_lines.result.cause _ _ c.args.watch.now c.serve_lines.new.watch c.args.pass
      c.serve_lines.result.pass c.serve_lines.result.counts c.serve_lines.ensures.ends;
  did = (
    record { before = c.args.link; after = c.serve_lines.new.link; cause = c.serve_lines.result.cause; counts = c.serve_lines.result.counts },
    (refl, record { ends = c.serve_lines.ensures.ends; silent = c.serve_lines.ensures.written.written; reads = c.serve_lines.ensures.reads.cause }),
  );
  spent = link_spent (g.C.Clock.moments c.args.self.now.clock.now) g.N.Named.start g.N.Named.passes c.serve_lines.result.cause _ _ _ _ c.serve_lines.result.pass
      c.serve_lines.result.counts c.serve_lines.ensures.ends;
}
