use Rattle.std.proofs.Common.{◌≡◌, ◌∙◌, [], Some, false, arith, inl, refl, rules}
use Rattle.std.specs.Prelude.{◌&&◌, not, unwrap_or}
use Rattle.metric_path.specs.FileName.{file_name_of}
use Rattle.metric_table.specs.Table.{kept_version}
use Rattle.shard_core.proofs.KeptLemmas.{version_or_new}
use Rattle.shard_core.proofs.PlannedLemmas.{given_for, old_is_there, plan_is_there, plans_for}
use Rattle.shard_core.proofs.ReadingLemmas.{view_is_there}
use Rattle.shard_core.proofs.planning.plan_drain.Goals as goal

pub carried-requires-clause-file : goal.carried-requires-clause-file
carried-requires-clause-file g c = λ old.
    let known = c.args.known in
    let image = g.D.Disk.image c.args.disk.now in
    let name = file_name_of c.args.path.now in
    let named : c.new-view.result.name.now ≡ name = grind (arith, c.new-view.ensures.name, c.deref.ensures, c.in_ok-name.ensures) in
    let one : kept_version known ≡ Some 1 = search rules in
    let version : c.new-view.result.version ≡ 1 = search rules in
    view_is_there c.new-view.result false image name 1 known.layout named version c.new-view.ensures.layout (inl refl) (old_is_there known image c.args.path.now c.args.points.now c.requires one)

pub plan-requires-clause-file : goal.plan-requires-clause-file
plan-requires-clause-file g c =
    let known = c.args.known in
    let name = file_name_of c.args.path.now in
    let named : c.new-view.result.name.now ≡ name = grind (arith, c.new-view.ensures.name, c.deref.ensures, c.in_ok-name.ensures) in
    let version : c.new-view.result.version ≡ unwrap_or (kept_version known) 2 = search rules in
    let same : g.D.Disk.image c.carried.new.disk ≡ g.D.Disk.image c.args.disk.now = search rules in
    let fresh : c.in_ok-patch.patch.fresh ≡ not (known.is_kept && not known.is_old) = search rules in
    view_is_there c.new-view.result c.in_ok-patch.patch.fresh (g.D.Disk.image c.carried.new.disk) name (unwrap_or (kept_version known) 2) known.layout named version c.new-view.ensures.layout (version_or_new known)
    (rw same (plan_is_there known (g.D.Disk.image c.args.disk.now) c.args.path.now c.args.points.now c.in_ok-patch.patch.fresh c.requires fresh))

pub returns-in-Ok-clause-patch : goal.returns-in-Ok-clause-patch
returns-in-Ok-clause-patch g c =
    let known = c.args.known in
    let image = g.D.Disk.image c.args.disk.now in
    let name = c.new-view.result.name.now in
    let named : name ≡ file_name_of c.args.path.now = grind (arith, c.new-view.ensures.name, c.deref.ensures, c.in_ok-name.ensures) in
    let blank : c.new-patch.result ≡ record { path = c.args.path.now; layout = known.layout; fresh = not (known.is_kept && not known.is_old); cells = [] } = search rules in
    let mid = c.in_ok-patch in
    let given = given_for known image name c.args.path.now c.new-patch.result mid.patch blank mid.ensures.alike (λ other. search rules)
    (λ old. mid.ensures.carries (c.kept_version-version.ensures ∙ old)) in
    let same : g.D.Disk.image c.carried.new.disk ≡ image = search rules in
    plans_for known image (g.D.Disk.image c.carried.new.disk) name c.args.path.now c.new-view.result.layout mid.patch c.in-Ok.patch c.args.now c.args.points.now
    given c.in-Ok.ensures.alike c.new-view.ensures.layout named same c.in-Ok.ensures.batch c.in-Ok.ensures.cells
