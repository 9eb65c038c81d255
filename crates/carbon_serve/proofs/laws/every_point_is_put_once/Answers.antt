use Rattle.std.proofs.Common.{List, [], ap}
use Rattle.carbon_history.specs.declared.entry.Entry.{Entry}
use Rattle.carbon_history.specs.Entries.{of_pass}
use Rattle.http_front.specs.Origin.{caller_of, origin_of}
use Rattle.carbon_serve.specs.Deeds.{telling}
use Rattle.carbon_serve.proofs.PutLemmas.{all_puts}
use Rattle.carbon_serve.proofs.laws.every_point_is_put_once.Goals as goal

pub returns : goal.returns
returns g c clock rules duties number history course served told turns =
    all_puts (telling g.E.L.Source g.E.L.Sink rules) (origin_of g.C.Clock g.N.Named clock) number served (caller_of course.fresh []) (caller_of course.pass told) (of_pass number history) course.new.place
    (ap (λ (es : List Entry). of_pass course.fresh.number es) course.new.seen) course.own turns
