use Rattle.std.proofs.Common.{◌≡◌, ◌+◌, ◌≤◌, ◌++◌, drop, length}
use Rattle.ring_look.specs.InfoText.{archives_text}
use Rattle.ring_look.proofs.info_text.push_archives.Given as goal

abbrev pub invariant-loop-archive : goal.invariant-loop-archive
invariant-loop-archive l =
    (l.out.items ++ archives_text l.version l.number (drop l.archive-index l.archives) ≡ l.fn.out.items ++ archives_text l.version 0 l.archives)
    × (l.number + length (drop l.archive-index l.archives) ≤ 25)
