use Rattle.std.proofs.Common.{Option, option_map, sym, subst}
use Rattle.sample_text.specs.Sources.{SampleState, left_of}
use Rattle.carbon_run.specs.Runs.{EndsOverWith}
use Rattle.carbon_run.proofs.SampleLemmas.{ends_alone, ends_behind, no_rise}
use Rattle.carbon_run.proofs.scripts.serve_script.Goals as goal

pub returns-in-Some-clause-ends : goal.returns-in-Some-clause-ends
returns-in-Some-clause-ends g c =
    let before = g.S.Source.left c.args.input.now in
    let out = g.K.Sink.written c.args.out.now in
    let after = g.S.Source.left c.script_behind.new.input in
    let out' = g.K.Sink.written c.script_behind.new.out in
    subst (λ (front : Option SampleState). EndsOverWith g.N.Named.told g.N.Named.start c.script_behind.result (option_map left_of front) before out after out') (sym c.in-Some.is)
    (ends_behind g.N.Named.told g.N.Named.start c.script_behind.result (left_of c.in-Some.front) before out after out' c.script_behind.ensures.ends)

pub returns-in-Some-clause-reads : goal.returns-in-Some-clause-reads
returns-in-Some-clause-reads g c = record {
  later = c.script_behind.ensures.reads.later;
  cause = λ failed. c.script_behind.ensures.reads.cause (failed, no_rise);
}

pub returns-in-None-clause-ends : goal.returns-in-None-clause-ends
returns-in-None-clause-ends g c =
    let before = g.S.Source.left c.args.input.now in
    let out = g.K.Sink.written c.args.out.now in
    let after = g.S.Source.left c.script.new.input in
    let out' = g.K.Sink.written c.script.new.out in
    subst (λ (front : Option SampleState). EndsOverWith g.N.Named.told g.N.Named.start c.script.result (option_map left_of front) before out after out') (sym c.in-None.is)
    (ends_alone g.N.Named.told g.N.Named.start c.script.result before out after out' c.script.ensures.ends)
