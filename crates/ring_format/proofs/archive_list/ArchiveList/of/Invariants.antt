use Rattle.std.proofs.Common.{◌≡◌, take}
use Rattle.ring_format.proofs.archive_list.ArchiveList.of.Given as goal

abbrev pub invariant-loop-archive : goal.invariant-loop-archive
invariant-loop-archive l = l.list ≡ take l.archive-index l.archives
