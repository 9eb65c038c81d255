use Rattle.std.proofs.Common.{[]}
use Rattle.carbon_history.specs.Entries.{of_pass}
use Rattle.http_front.specs.Origin.{caller_of, origin_of}
use Rattle.carbon_serve.specs.Deeds.{telling}
use Rattle.carbon_serve.proofs.ReplyLemmas.{all_replies}
use Rattle.carbon_serve.proofs.laws.every_reply_is_of_the_one_history.Goals as goal

pub returns : goal.returns
returns g c clock rules duties number history course served told turns =
    all_replies (telling g.E.L.Source g.E.L.Sink rules) (origin_of g.C.Clock g.N.Named clock) number history served (caller_of course.fresh []) (caller_of course.pass told) (of_pass number history)
    course.new.place course.new.seen course.same course.own course.begins turns
