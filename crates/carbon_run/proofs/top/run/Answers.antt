use Rattle.std.proofs.Common.{◌∙◌, Err, ap, refl, sym, subst}
use Rattle.carbon_words.specs.declared.reading.WordsFault.{WordsFault}
use Rattle.std.specs.Prelude.{map, string_bytes}
use Rattle.carbon_serve.specs.Deeds.{telling}
use Rattle.carbon_words.specs.CommandLine.{command_of}
use Rattle.carbon_run.specs.Commands.{beside}
use Rattle.carbon_run.specs.Runs.{TellsWords, answer_of, streams_of}
use Rattle.carbon_run.proofs.CommandLemmas.{done_by_rules}
use Rattle.carbon_run.proofs.WordsLemmas.{no_outcome, no_words}
use Rattle.carbon_run.proofs.top.run.Goals as goal

pub returns-in-Err-clause-usage : goal.returns-in-Err-clause-usage
returns-in-Err-clause-usage g c none =
    let tells = c.tell_words-status.ensures in
    let answer = c.without_command.ensures in (
      refl,
      refl,
      no_words c.in-Err.fault (streams_of g.S.Source g.K.Sink c.args.input.now c.args.input.now c.args.out.now c.tell_words-status.new.out) c.args.disks.items
          (answer_of c.without_command.result.status c.without_command.result.history c.without_command.result.disks.items)
          (subst (λ status. TellsWords c.in-Err.fault status (g.K.Sink.written c.args.out.now) (g.K.Sink.written c.tell_words-status.new.out)) (sym answer.status) tells.told) answer.history (ap (λ disks. disks.items) answer.disks) refl,
    )

pub returns-in-Err-clause-outcome : goal.returns-in-Err-clause-outcome
returns-in-Err-clause-outcome g c =
    let tells = c.tell_words-status.ensures in
    let answer = c.without_command.ensures in
    no_outcome g.D.Disk (beside g.N.Net.faults (g.C.Clock.moments c.args.clock.now) (telling g.N.L.Source g.N.L.Sink) c.args.net.now c.args.net.now) c.in-Err.fault (command_of (map string_bytes c.args.words.now)) c.args.conf.now c.args.conf.now
    (streams_of g.S.Source g.K.Sink c.args.input.now c.args.input.now c.args.out.now c.tell_words-status.new.out) c.args.disks.items
    (answer_of c.without_command.result.status c.without_command.result.history c.without_command.result.disks.items) (λ is. c.read_words.ensures.usage (c.in-Err.is ∙ ap (λ (fault : WordsFault). Err fault) is)) refl
    (subst (λ status. TellsWords c.in-Err.fault status (g.K.Sink.written c.args.out.now) (g.K.Sink.written c.tell_words-status.new.out)) (sym answer.status) tells.told) answer.history (ap (λ disks. disks.items) answer.disks) refl

pub returns-in-Ok-read_conf-clause-outcome : goal.returns-in-Ok-read_conf-clause-outcome
returns-in-Ok-read_conf-clause-outcome g c =
    done_by_rules g.D.Disk (beside g.N.Net.faults (g.C.Clock.moments c.args.clock.now) (telling g.N.L.Source g.N.L.Sink) c.args.net.now c.run_command.new.net) (command_of (map string_bytes c.args.words.now)) c.in-Ok.command
    c.in-Ok-read_conf.rules.rules c.in-Ok-read_conf.rules.agg_rules c.args.conf.now c.read_conf.new.conf
    (streams_of g.S.Source g.K.Sink c.args.input.now c.run_command.new.input c.args.out.now c.run_command.new.out) c.args.disks.items
    (answer_of c.run_command.result.status c.run_command.result.history c.run_command.result.disks.items)
    c.in-Ok.ensures.command c.in-Ok-read_conf.ensures.rules c.in-Ok-read_conf.ensures.gathers c.run_command.ensures.does
