use Rattle.carbon_model.specs.RingFiles.{IsOfClass}
use Rattle.shard_core.specs.Halves.{desk_of, files_of}
use Rattle.shard_core.proofs.HalvesLemmas.{may_plan}
use Rattle.shard_core.proofs.PickLemmas.{of_class_at}
use Rattle.shard_core.proofs.files.Files.next_drain.Goals as goal

pub make_drain-requires : goal.make_drain-requires
make_drain-requires g c =
    let old = c.args.desk.now in
    let path = c.path-path.result.now in
    let one : IsOfClass old.class path = of_class_at old.class old.cache.metrics old.cache.places c.args.place path old.metrics c.metrics.ensures.placed c.path-path.ensures in
    may_plan (desk_of old) (files_of c.args.self.now) path c.in_ok-known.known c.points-points.result.now c.requires.halves c.requires.empty one old.metrics c.in_ok-known.ensures.there c.points-points.ensures.rising
    (c.points-points.ensures.points path c.path-path.ensures)
