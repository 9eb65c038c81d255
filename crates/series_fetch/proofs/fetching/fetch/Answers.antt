use Rattle.std.proofs.Common.{◌≡◌, None, rules, ◌∙◌, ◌<◌, ◌-◌, ◌/◌, length, arith, ap, refl, sym, subst}
use Rattle.std.proofs.lemmas.List.FromFn.{length-map-range_with_len}
use Rattle.series_fetch.specs.declared.range.Window.{Window}
use Rattle.series_fetch.specs.declared.range.Window.TheVariants.{Empty}
use Rattle.series_fetch.specs.Window.{IsWindow}
use Rattle.series_fetch.proofs.WindowLemmas.{archive_within, has_buckets}
use Rattle.ring_archive.proofs.UnderLemmas.{under_all, under_map}
use Rattle.series_fetch.proofs.ShownLemmas.{shown_over, shown_read}
use Rattle.series_fetch.proofs.fetching.fetch.Goals as goal

pub archive-step-requires : goal.archive-step-requires
archive-step-requires g c =
    archive_within c.args.view.now.layout.archives c.in-Range.archive c.in-Range.first c.in-Range.end
    (subst (λ (w : Window). IsWindow c.args.view.now.layout w) c.in-Range.is c.requires.window)

pub cells-requires-clause-archive : goal.cells-requires-clause-archive
cells-requires-clause-archive g c =
    archive_within c.args.view.now.layout.archives c.in-Range.archive c.in-Range.first c.in-Range.end
    (subst (λ (w : Window). IsWindow c.args.view.now.layout w) c.in-Range.is c.requires.window)

pub returns-in_default-clause-fetches : goal.returns-in_default-clause-fetches
returns-in_default-clause-fetches g c =
    let empty : c.args.window ≡ Empty = search rules in
    rw (empty, c.new.ensures.items) (record {
      count = refl;
      some = ((λ i bucket. None), refl);
      told = under_all c.args.patch.now.fresh (g.D.Disk.image c.args.disk.now) c.args.view.now.name.now c.args.view.now.version c.args.view.now.layout.archives _ c.requires.file.1 (λ file rings reads. refl);
    })

pub returns-clause-fetches : goal.returns-clause-fetches
returns-clause-fetches g c =
    let window = subst (λ (w : Window). IsWindow c.args.view.now.layout w) c.in-Range.is c.requires.window in
    let few = c.in_ok-values.ensures.count in
    let many = ap length c.in_ok-shown.ensures ∙ length-map-range_with_len _ 0 (length c.in_ok-values.values.items) ∙ few in
    let some : 0 < c.archive-step.result.step = omega (arith, c.archive-step.ensures) in
    rw c.in-Range.is
    (record {
      count = has_buckets c.args.view.now.layout c.in-Range.archive c.in-Range.first c.in-Range.end (length c.in_ok-shown.shown.items) c.archive-step.result c.archive-step.ensures.value window many some;
      some = shown_over c.args.view.now.layout c.archive-step.result c.in-Range.archive c.in-Range.first c.in-Range.end c.in_ok-values.values.items c.in_ok-shown.shown.items c.args.cached.now c.archive-step.ensures.value (sym few) some c.in_ok-shown.ensures;
      told = under_map c.args.patch.now.fresh (g.D.Disk.image c.args.disk.now) c.args.view.now.name.now _ _ c.in_ok-values.ensures.values
          (λ file held rings reads. shown_read c.args.view.now.layout c.args.patch.now file rings c.archive-step.result c.in-Range.archive c.in-Range.first c.in-Range.end ((c.in-Range.end - c.in-Range.first) / c.archive-step.result.step)
          c.in_ok-values.values.items c.in_ok-shown.shown.items c.args.cached.now c.requires.layout c.archive-step.ensures.value refl reads held c.in_ok-shown.ensures);
    })
