use Rattle.std.proofs.Common.{rules, ◌∙◌, List, ◌++◌, reverse, ap, subst, sym}
use Rattle.std.proofs.lemmas.List.Elements.{All-push}
use Rattle.std.specs.Prelude.{All}
use Rattle.carbon_serve.specs.Crews.{HasRole, passes_of}
use Rattle.carbon_serve.specs.declared.workers.Worker.{Worker}
use Rattle.carbon_serve.proofs.OrderLemmas.{worker_more}
use Rattle.carbon_serve.proofs.crew.workers_of.Goals as goal

pub loop-pass-preserved : goal.loop-pass-preserved
loop-pass-preserved c = record {
  all = ap (λ (ws : List Worker). c.pop.new.self.items ++ reverse (passes_of ws)) c.in_ok-push.ensures.items
      ∙ worker_more c.loop-pass.passes.items c.pop.new.self.items c.args.passes.now.items c.in-Some.pass c.loop-pass.workers.items c.worker_of.result c.in-Some.ensures.items
      c.worker_of.ensures.pass c.loop-pass.invariant.all;
  count = search rules;
  roles = subst (λ (ws : List Worker). All (HasRole c.args.duties) ws) (sym c.in_ok-push.ensures.items)
      (All-push (HasRole c.args.duties) c.loop-pass.workers.items c.worker_of.result c.loop-pass.invariant.roles c.worker_of.ensures.role);
  room = search rules;
}
