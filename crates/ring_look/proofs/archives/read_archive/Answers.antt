use Rattle.std.proofs.Common.{◌≡◌, ◌∙◌, length, ap, rules}
use Rattle.ring_archive.proofs.UnderLemmas.{under_map}
use Rattle.ring_look.proofs.ArchiveLemmas.{archive_is}
use Rattle.ring_look.proofs.archives.read_archive.Goals as goal

pub returns-clause-archive : goal.returns-clause-archive
returns-clause-archive g c =
    let count : c.len.result ≡ length c.in_ok-slots.slots.items = search rules in
    under_map c.args.patch.now.fresh (g.D.Disk.image c.args.disk.now) c.args.view.now.name.now _ _ c.in_ok-slots.ensures.slots (λ file here.
    archive_is c.args.view.now.version c.args.view.now.layout c.args.patch.now file c.args.place c.offset_in.result c.archive.result c.len.result c.offset_in.ensures.value c.archive.ensures.value (count ∙ ap length here))
