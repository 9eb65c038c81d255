use Rattle.carbon_serve.specs.Courses.{staff_of}
use Rattle.carbon_serve.proofs.HeadlineLemmas.{one_history}
use Rattle.carbon_serve.proofs.laws.a_server_has_one_history.Goals as goal

pub returns : goal.returns
returns g c clock rules duties passes told start earlier end history disks serves =
    one_history g.D.Disk (staff_of g.C.Clock g.E.L.Source g.E.L.Sink clock rules duties passes) told start earlier end history disks serves
