use Rattle.std.proofs.Common.{◌≡◌, arith}
use Rattle.metric_path.specs.FileName.{file_name_of}
use Rattle.ring_archive.proofs.UnderLemmas.{ring_holds}
use Rattle.shard_core.proofs.ReadingLemmas.{view_is_there}
use Rattle.shard_core.proofs.reading.fetch_under.Goals as goal

pub fetch-requires-clause-file : goal.fetch-requires-clause-file
fetch-requires-clause-file g c =
    let name = file_name_of c.args.looked.now.path in
    let image = g.D.Disk.image c.args.disk.now in
    let named : c.new-view.result.name.now ≡ name = grind (arith, c.new-view.ensures.name, c.deref.ensures, c.in_ok-name.ensures) in
    view_is_there c.new-view.result c.args.patch.now.fresh image name c.args.version c.args.looked.now.layout named c.new-view.ensures.version c.new-view.ensures.layout c.requires.version
    (ring_holds c.args.patch.now.fresh image name c.args.version c.args.looked.now.layout c.requires.version c.requires.file)
