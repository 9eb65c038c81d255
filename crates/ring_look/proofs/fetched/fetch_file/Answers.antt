use Rattle.std.proofs.Common.{[], subst}
use Rattle.ring_format.specs.Patch.{PatchValue}
use Rattle.series_fetch.specs.Fetched.{Fetches}
use Rattle.ring_look.proofs.fetched.fetch_file.Goals as goal

pub returns-in-Ok-clause-values : goal.returns-in-Ok-clause-values
returns-in-Ok-clause-values g c =
    let fetches = subst (λ (patch : PatchValue). Fetches c.args.view.now patch (g.D.Disk.image c.args.disk.now) [] c.args.window c.in-Ok.values.items) c.new-patch.ensures c.in-Ok.ensures.fetches in
    record { count = fetches.count; some = fetches.some; told = fetches.told }
