use Rattle.http_front.specs.Origin.{origin_of}
use Rattle.carbon_serve.specs.Deeds.{telling}
use Rattle.carbon_serve.proofs.CrewLemmas.{closing_ready, mustered_room, own_ready, served_ready, service_ends}
use Rattle.carbon_serve.proofs.serving.end_service.Goals as goal

pub muster-muster-requires-clause-one : goal.muster-muster-requires-clause-one
muster-muster-requires-clause-one g c = served_ready g.N.Named.table (telling g.E.L.Source g.E.L.Sink c.args.rules.now) (origin_of g.C.Clock g.N.Named c.args.clock.now) c.args.crew c.requires

pub muster-muster-requires-clause-own : goal.muster-muster-requires-clause-own
muster-muster-requires-clause-own g c = own_ready g.N.Named.table (telling g.E.L.Source g.E.L.Sink c.args.rules.now) (origin_of g.C.Clock g.N.Named c.args.clock.now) c.args.crew c.requires

pub drain-end-requires : goal.drain-end-requires
drain-end-requires g c = record {
  room = mustered_room g.N.Named.table (telling g.E.L.Source g.E.L.Sink c.args.rules.now) (origin_of g.C.Clock g.N.Named c.args.clock.now) c.args.crew c.requires c.muster-muster.result c.muster-muster.ensures.musters;
}

pub close-requires : goal.close-requires
close-requires g c = record {
  one = closing_ready g.N.Named.table (telling g.E.L.Source g.E.L.Sink c.args.rules.now) (origin_of g.C.Clock g.N.Named c.args.clock.now) c.args.crew c.requires c.muster-muster.result c.drain-end.new.self c.drain-end.result c.into_passes.result.items
      c.muster-muster.ensures.musters c.drain-end.ensures.finishes c.drain-end.ensures.served c.into_passes.ensures;
}

pub returns-clause-serves : goal.returns-clause-serves
returns-clause-serves g c =
    service_ends g.N.Named.table (telling g.E.L.Source g.E.L.Sink c.args.rules.now) (origin_of g.C.Clock g.N.Named c.args.clock.now) c.args.crew c.requires g.D.Disk g.N.Named.faults c.muster-muster.result c.drain-end.new.self c.drain-end.result
    c.into_passes.result.items c.close.result c.muster-muster.ensures.musters c.drain-end.ensures.finishes c.drain-end.ensures.served c.into_passes.ensures c.close.ensures
