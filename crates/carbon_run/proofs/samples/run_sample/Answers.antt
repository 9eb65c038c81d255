use Rattle.shard_set.specs.Opening.{settings_of}
use Rattle.carbon_run.specs.Runs.{answer_of}
use Rattle.carbon_run.proofs.SampleLemmas.{no_rise, sample_runs}
use Rattle.carbon_run.proofs.samples.run_sample.Goals as goal

pub returns-clause-runs : goal.returns-clause-runs
returns-clause-runs g c = λ left.
    sample_runs g.D.Disk (settings_of c.args.setup.now) c.args.setup.now.redo c.args.said left _ _ (g.K.Sink.written c.args.out.now) (g.K.Sink.written c.run_script.new.out) _ c.args.disks.items
    (answer_of c.run_script.result.status c.run_script.result.history c.run_script.result.disks.items) c.new-front.ensures c.question-asked.ensures c.run_script.ensures.comes

pub returns-clause-unread : goal.returns-clause-unread
returns-clause-unread g c = λ six. no_rise (c.run_script.ensures.reads.cause six)
