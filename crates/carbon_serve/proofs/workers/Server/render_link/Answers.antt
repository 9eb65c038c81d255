use Rattle.std.proofs.Common.{refl, subst}
use Rattle.http_front.specs.Origin.{origin_of, standing}
use Rattle.http_front.specs.Prompt.{AnswersInTime}
use Rattle.carbon_serve.proofs.HttpLemmas.{link_spent, link_works}
use Rattle.carbon_serve.proofs.workers.Server.render_link.Goals as goal

pub returns : goal.returns
returns g c = record {
  works = link_works g.C.Clock g.N.Named g.E.L.Sink c.args.self.now.clock.now _ c.serve_http.result _ _ c.args.pass.now c.serve_http.new.pass c.args.watch.now c.serve_http.new.watch c.args.link c.serve_http.new.link
      c.serve_http.ensures.serves;
  did = (
    record { before = c.args.link; after = c.serve_http.new.link; end = c.serve_http.result },
    (
      refl,
      record {
        serves = c.serve_http.ensures.serves;
        makes = c.serve_http.ensures.makes;
        reads_noted = c.serve_http.new.reads;
        prompt = subst (λ notes. AnswersInTime g.E.L.Source.left g.E.L.Sink.written (origin_of g.C.Clock g.N.Named c.args.self.now.clock.now)
            (g.E.L.Source.left c.args.link) (g.E.L.Source.left c.serve_http.new.link) (standing g.E.L.Sink c.args.pass.now c.args.watch.now c.args.link) notes c.serve_http.new.reads)
            c.new-reads.ensures c.serve_http.ensures.prompt;
        room = c.serve_http.ensures.room;
        reads = c.serve_http.ensures.reads.cause;
        writes = c.serve_http.ensures.writes.cause;
      },
    ),
  );
  spent = link_spent (origin_of g.C.Clock g.N.Named c.args.self.now.clock.now) _ c.serve_http.result _ _ _ _ c.serve_http.ensures.serves;
}
