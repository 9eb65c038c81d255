use Rattle.std.proofs.Common.{subst}
use Rattle.carbon_serve.specs.Courses.{staff_of}
use Rattle.carbon_serve.specs.Serves.{Serves}
use Rattle.carbon_serve.specs.declared.crew.Duties.{Duties}
use Rattle.carbon_serve.proofs.CrewLemmas.{new_ready}
use Rattle.carbon_serve.proofs.serving.serve.Goals as goal

pub work-requires-clause-one : goal.work-requires-clause-one
work-requires-clause-one g c κs within = new_ready g.N.Named.table g.N.Named.passes c.args.crew c.requires

pub returns-clause-serves : goal.returns-clause-serves
returns-clause-serves g c =
    subst (λ (duties : Duties). Serves g.D.Disk (staff_of g.C.Clock g.E.L.Source g.E.L.Sink c.args.clock.now c.args.rules.now duties g.N.Named.passes) g.N.Named.told g.N.Named.start g.N.Named.faults
    c.end_service.result.end c.end_service.result.closed.history c.end_service.result.closed.disks.items) c.work.ensures.duties c.end_service.ensures.serves
