use Rattle.std.proofs.Common.{◌≡◌, ◌≢◌, ◌∙◌, Option, None, Some, ap, subst}
use Rattle.shared_history.specs.Parts.{PassValue}
use Rattle.http_front.specs.Origin.{caller_of}
use Rattle.carbon_serve.specs.Paces.{IsFree}
use Rattle.carbon_serve.specs.Rounds.{TriesClass}
use Rattle.carbon_serve.specs.declared.pace.Pace.{Pace}
use Rattle.carbon_serve.specs.declared.pace.Permit.{Permit}
use Rattle.carbon_serve.proofs.DeedLemmas.{only_then, reads_only}
use Rattle.carbon_serve.proofs.workers.Server.drain_class.Goals as goal

is_there : (permit : Permit) (found : Option Permit) → found ≡ Some permit → found ≢ None
is_there permit None there none = absurd cc
is_there permit (Some other) there none = absurd cc

pub returns-clause-tries : goal.returns-clause-tries
returns-clause-tries g c free =
    let same = c.advance.ensures.pace in
    let still : IsFree c.advance.new.self = record {
      drains = ap (λ (pace : Pace). pace.drains) same ∙ free.drains;
      creates = ap (λ (pace : Pace). pace.creates) same ∙ free.creates;
    } in
    let permits = c.permit-permit.ensures.free still in
    subst (λ (pass : PassValue). TriesClass (g.C.Clock.moments c.args.self.now.clock.now) g.N.Named.start g.N.Named.passes c.args.class c.drain_as.result pass c.drain_as.new.pass) permits.1
    (c.drain_as.ensures.tries (is_there _ c.permit-permit.result permits.0))

pub returns-clause-only : goal.returns-clause-only
returns-clause-only g c =
    let moments = g.C.Clock.moments c.args.self.now.clock.now in
    let from = caller_of c.args.pass.now c.args.watch.now in
    let read = caller_of c.args.pass.now c.read.new.self in
    let mid = caller_of c.permit-permit.new.pass c.read.new.self in
    let to = caller_of c.drain_as.new.pass c.drain_as.new.watch in
    only_then moments from read to (reads_only moments c.args.pass.now c.args.watch.now c.read.new.self c.read.result c.read.ensures.told)
    (only_then moments read mid to (c.permit-permit.ensures.only c.read.new.self) c.drain_as.ensures.only)
