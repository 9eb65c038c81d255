use Rattle.std.proofs.Common.{◌∙◌, refl, sym}
use Rattle.ring_archive.proofs.UnderLemmas.{under_map}
use Rattle.archive_update.proofs.LayLemmas.{base_prepared, writes_prepared}
use Rattle.archive_update.proofs.MoveLemmas.{under_moved}
use Rattle.archive_update.proofs.laying.write_values.Goals as goal

pub returns-clause-writes : goal.returns-clause-writes
returns-clause-writes g c = record {
  laid = under_map c.args.patch.now.fresh (g.D.Disk.image c.args.disk.now) c.args.view.now.name.now _ _ c.in_ok-base.ensures.prepares (λ file prepared.
      writes_prepared c.args.patch.now c.prepared.new.patch c.lay_all.new.patch c.args.view.now.layout c.args.archive c.in_ok-base.base c.in_ok-later.later c.args.writes.now file (c.in_ok-base.ensures.alike.layout ∙ c.requires.layout) prepared c.in_ok-later.ensures.lays);
  based = record {
    there = c.requires.archive;
    first = under_moved c.lay_all.new.patch.fresh c.args.patch.now.fresh (g.D.Disk.image c.args.disk.now) (g.D.Disk.image c.args.disk.now) c.args.view.now.name.now _ (sym (c.in_ok-later.ensures.alike.fresh ∙ c.in_ok-base.ensures.alike.fresh)) refl
        (under_map c.args.patch.now.fresh (g.D.Disk.image c.args.disk.now) c.args.view.now.name.now _ _ c.in_ok-base.ensures.prepares (λ file prepared.
        base_prepared c.args.patch.now c.prepared.new.patch c.lay_all.new.patch c.args.archive c.in_ok-base.base c.in_ok-later.later c.args.writes.now file prepared c.in_ok-later.ensures.lays));
  };
}
