use Rattle.carbon_serve.specs.Deeds.{telling}
use Rattle.carbon_run.specs.Commands.{beside}
use Rattle.carbon_run.proofs.HeadlineLemmas.{headline}
use Rattle.carbon_run.proofs.laws.a_run_of_a_server_has_one_history.Goals as goal

pub returns : goal.returns
returns g c clock net net' said more folder folder' streams given answer outcome =
    headline g.D.Disk (beside g.E.Net.faults (g.C.Clock.moments clock) (telling g.E.L.Source g.E.L.Sink) net net') said more folder folder' streams given answer outcome
