use Rattle.std.proofs.Common.{◌≡◌, ◌∙◌, false, ℕ, ◌+◌, List, [], ◌∷◌, ap, length, refl, rules, sym, subst, arith}
use Rattle.std.proofs.lemmas.List.{length-append}
use Rattle.ring_format.specs.Patch.{PatchValue}
use Rattle.ring_archive.proofs.UnderLemmas.{under_all}
use Rattle.ring_archive.specs.Ring.{UnderPatch, bare}
use Rattle.ring_look.specs.Archives.{archive_in}
use Rattle.ring_look.specs.declared.archives.ArchiveInfo.{ArchiveInfo}
use Rattle.ring_look.proofs.ArchiveLemmas.{FirstArchives, one_more}
use Rattle.ring_look.proofs.archives.read_archives.Goals as goal

pub loop-place-init : goal.loop-place-init
loop-place-init g c =
    let none : c.new-archives.result.items ≡ [] = search rules in
    record {
      archives = under_all false (g.D.Disk.image c.args.disk.now) c.args.view.now.name.now c.args.view.now.version c.args.view.now.layout.archives _ c.requires.file.1 (λ file. none);
      count = ap length none;
      kept = refl;
      changes = refl;
      later = omega arith;
    }

pub loop-place-preserved : goal.loop-place-preserved
loop-place-preserved g c =
    let ring = c.args.view.now in
    let next = subst (λ (patch : PatchValue). UnderPatch patch.fresh (g.D.Disk.image c.loop-place.disk) ring.name.now (λ file. c.in_ok-archive.archive ≡ archive_in ring.version ring.layout patch file c.loop-place.place)) c.new-patch.ensures c.in_ok-archive.ensures.archive in
    record {
      archives =
          subst (λ (archives : List ArchiveInfo). FirstArchives ring.version ring.layout (bare c.args.path ring.layout) (g.D.Disk.image c.args.disk.now) ring.name.now (c.loop-place.place + 1) archives) (sym c.in_ok-push.ensures.items)
          (one_more ring.version ring.layout (bare c.args.path ring.layout) (g.D.Disk.image c.args.disk.now) (g.D.Disk.image c.loop-place.disk) ring.name.now c.loop-place.place c.loop-place.archives.items c.in_ok-archive.archive
          c.loop-place.invariant.kept c.loop-place.invariant.archives next);
      count = omega (arith, ap length c.in_ok-push.ensures.items, length-append c.loop-place.archives.items (c.in_ok-archive.archive ∷ []), c.loop-place.invariant.count);
      kept = c.in_ok-archive.ensures.frame.kept ∙ c.loop-place.invariant.kept;
      changes = c.in_ok-archive.ensures.frame.changes ∙ c.loop-place.invariant.changes;
      later = omega (arith, c.loop-place.invariant.later, c.in_ok-archive.ensures.frame.later);
    }

pub returns-clause-archives : goal.returns-clause-archives
returns-clause-archives g c =
    let end : c.loop-place.place ≡ length c.args.view.now.layout.archives = omega (arith, c.archive_count-place-end.ensures.value) in
    let ring = c.args.view.now in
    subst (λ (n : ℕ). FirstArchives ring.version ring.layout (bare c.args.path ring.layout) (g.D.Disk.image c.args.disk.now) ring.name.now n c.loop-place.archives.items) end c.loop-place.invariant.archives
