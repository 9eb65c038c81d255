use Rattle.std.proofs.Common.{◌≡◌}
use Rattle.line_front.proofs.PutLemmas.{PutsSome}
use Rattle.line_front.proofs.session.LineSession.put_each.Given as goal

abbrev pub invariant-loop-datum : goal.invariant-loop-datum
invariant-loop-datum g l = record {
  puts : PutsSome g.N.Named.start g.N.Named.passes l.datum-index l.points l.fn.self.session l.self.session;
  watch : l.self.watch ≡ l.fn.self.watch;
}
