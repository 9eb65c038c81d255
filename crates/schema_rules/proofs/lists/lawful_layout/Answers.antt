use Rattle.std.proofs.Common.{◌≡◌, None}
use Rattle.ring_format.specs.Layout.{layout_fault}
use Rattle.schema_rules.proofs.LayoutLemmas.{lawful_with}
use Rattle.schema_rules.proofs.lists.lawful_layout.Goals as goal

pub unreachable-requires : goal.unreachable-requires
unreachable-requires c =
    let lawful : layout_fault c.args.archives.now c.args.factor ≡ None = lawful_with c.args.archives.now c.args.factor c.requires.archives c.requires.factor in
    let made = rw lawful at c.new.ensures in
    absurd (cc (made, c.in-Err.is))
