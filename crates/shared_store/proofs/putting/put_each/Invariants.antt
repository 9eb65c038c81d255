use Rattle.std.proofs.Common.{◌≡◌, vec_len}
use Rattle.shared_store.specs.Passes.{SameLooks}
use Rattle.shared_store.specs.Pieces.{HoldsClasses, PutsSoFar}
use Rattle.shared_store.proofs.putting.put_each.Given as goal

abbrev pub invariant-loop-i : goal.invariant-loop-i
invariant-loop-i g l = record {
  sixteen : vec_len l.desks ≡ 16;
  held : HoldsClasses l.classes l.desks.items;
  puts : PutsSoFar g.N.Named.start g.N.Named.passes l.points l.i l.counts l.fn.pass l.pass;
  looks : SameLooks l.fn.pass l.pass;
}
