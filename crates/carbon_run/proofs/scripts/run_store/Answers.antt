use Rattle.std.proofs.Common.{ap, arith, refl, option_map, List}
use Rattle.std.specs.Prelude.{slice_get}
use Rattle.shared_history.specs.Parts.{PassValue}
use Rattle.sample_text.specs.Sources.{left_of}
use Rattle.carbon_run.specs.Runs.{answer_of, behind, streams_of}
use Rattle.carbon_run.proofs.RunLemmas.{alone_of_table, came_to, one_put, one_taken}
use Rattle.carbon_run.proofs.TellLemmas.{reads_told, writes_told}
use Rattle.carbon_run.proofs.scripts.run_store.Goals as goal

pub serve_script-served-requires : goal.serve_script-served-requires
serve_script-served-requires g c = record {
  alone = c.requires.one.0;
  new = c.requires.new 0 c.in-Some.pass
      (ap (λ (ps : List PassValue). slice_get ps 0)
      (one_taken c.args.passes.items c.pop.new.self.items c.in-Some.pass (omega (arith, c.args.passes.ok.0, c.requires.one.1)) c.in-Some.ensures.items));
}

pub close-history-requires : goal.close-history-requires
close-history-requires g c = record {
  one = alone_of_table g.N.Named.table c.put_back.new.passes.items c.serve_script-served.result.pass
      (one_put c.args.passes.items c.pop.new.self.items c.put_back.new.passes.items c.in-Some.pass c.serve_script-served.result.pass (omega (arith, c.args.passes.ok.0, c.requires.one.1))
      c.in-Some.ensures.items c.put_back.ensures) c.serve_script-served.ensures.only.table;
}

pub returns-clause-came : goal.returns-clause-came
returns-clause-came g c =
    came_to g.D.Disk g.N.Named.table g.N.Named.told g.N.Named.start g.N.Named.faults g.N.Named.passes c.serve_script-served.result c.put_back.new.passes.items c.close-history.result
    (behind (option_map left_of c.args.front) (streams_of g.S.Source g.K.Sink c.args.input.now c.serve_script-served.new.input c.args.out.now c.tell_end-status.new.out)) (g.K.Sink.written c.serve_script-served.new.out)
    (answer_of c.tell_end-status.result c.close-history.result.history c.close-history.result.disks.items)
    c.requires.one.0
    (one_put c.args.passes.items c.pop.new.self.items c.put_back.new.passes.items c.in-Some.pass c.serve_script-served.result.pass (omega (arith, c.args.passes.ok.0, c.requires.one.1))
    c.in-Some.ensures.items c.put_back.ensures)
    c.serve_script-served.ensures.ends c.serve_script-served.ensures.only c.close-history.ensures c.tell_end-status.ensures.told refl refl

pub returns-clause-reads : goal.returns-clause-reads
returns-clause-reads g c =
    reads_told g.S.Source c.args.input.now c.serve_script-served.new.input c.serve_script-served.result.end c.tell_end-status.result (g.K.Sink.written c.serve_script-served.new.out)
    (g.K.Sink.written c.tell_end-status.new.out) c.serve_script-served.ensures.reads c.tell_end-status.ensures.told

pub returns-clause-writes : goal.returns-clause-writes
returns-clause-writes g c =
    writes_told g.K.Sink c.args.out.now c.serve_script-served.new.out c.tell_end-status.new.out c.serve_script-served.result.end c.tell_end-status.result (g.K.Sink.written c.serve_script-served.new.out)
    (g.K.Sink.written c.tell_end-status.new.out) c.serve_script-served.ensures.writes c.tell_end-status.ensures.writes c.tell_end-status.ensures.told
