use Rattle.std.proofs.Common.{◌∙◌, sym}
use Rattle.line_front.proofs.PutLemmas.{room_some, some_fewer, some_more}
use Rattle.line_front.proofs.session.LineSession.put_each.Goals as goal

pub put-requires : goal.put-requires
put-requires g c =
    room_some g.N.Named.start g.N.Named.passes c.loop-datum.datum-index c.args.points.now c.args.self.now.session c.loop-datum.self.session
    c.loop-datum.invariant.puts c.loop-datum-test.true c.requires.room

pub returns-in-Err-clause-stops : goal.returns-in-Err-clause-stops
returns-in-Err-clause-stops g c =
    some_fewer g.N.Named.start g.N.Named.passes c.loop-datum.datum-index c.args.points.now c.args.self.now.session c.loop-datum.self.session
    c.loop-datum.invariant.puts c.loop-datum-test.true c.datum-item.result c.in-Err.stop c.put.new.self.session (sym c.datum-item.is) c.in-Err.ensures.stops

pub loop-datum-preserved : goal.loop-datum-preserved
loop-datum-preserved g c = record {
  puts = some_more g.N.Named.start g.N.Named.passes c.loop-datum.datum-index c.args.points.now c.args.self.now.session c.loop-datum.self.session
      c.loop-datum.invariant.puts c.loop-datum-test.true c.datum-item.result c.put.new.self.session (sym c.datum-item.is)
      (record {
        room = room_some g.N.Named.start g.N.Named.passes c.loop-datum.datum-index c.args.points.now c.args.self.now.session c.loop-datum.self.session
            c.loop-datum.invariant.puts c.loop-datum-test.true c.requires.room;
        puts = c.in-Ok.ensures.puts;
      });
  watch = c.in-Ok.ensures.watch ∙ c.loop-datum.invariant.watch;
}
