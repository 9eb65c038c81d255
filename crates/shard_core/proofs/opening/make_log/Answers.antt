use Rattle.std.proofs.Common.{Bool, ◌∙◌, ⊎_elim, refl, subst, sym}
use Rattle.std.proofs.lemmas.Bool.{true≢false}
use Rattle.shard_core.proofs.CrashLemmas.{gate_row, makes_none}
use Rattle.shard_core.proofs.OpenLemmas.{armed_keeps, looked_kept, same_kept, shut_known}
use Rattle.shard_core.specs.Work.{HoldsLog, no_work}
use Rattle.shard_core.proofs.opening.make_log.Goals as goal

pub returns-then-not-is_logged-clause-log : goal.returns-then-not-is_logged-clause-log
returns-then-not-is_logged-clause-log g c =
    subst (λ (is_logged : Bool). HoldsLog (no_work is_logged).log (g.D.Disk.image c.args.disk.now)) (sym c.if-not-is_logged.true) (shut_known (g.D.Disk.image c.args.disk.now) c.requires.shut)

pub returns-then-not-is_logged-clause-kept : goal.returns-then-not-is_logged-clause-kept
returns-then-not-is_logged-clause-kept g c = same_kept (g.D.Disk.image c.args.disk.now) (g.D.Disk.image c.args.disk.now) refl

pub returns-then-not-is_logged-clause-made : goal.returns-then-not-is_logged-clause-made
returns-then-not-is_logged-clause-made g c = λ is. absurd (true≢false (sym is ∙ c.if-not-is_logged.true))

pub returns-then-not-is_logged-clause-behind : goal.returns-then-not-is_logged-clause-behind
returns-then-not-is_logged-clause-behind g c = λ given gate. ⊎_elim (λ is. absurd (true≢false (sym is ∙ c.if-not-is_logged.true)))
    (λ had. gate_row (g.D.Disk.image c.args.disk.now) (g.D.Disk.may_leave c.args.disk.now) had gate) given

pub returns-then-not-is_logged-clause-moments : goal.returns-then-not-is_logged-clause-moments
returns-then-not-is_logged-clause-moments g c = makes_none g.D.Disk c.args.disk.now c.requires.shut

pub returns-in-Ok-clause-rings : goal.returns-in-Ok-clause-rings
returns-in-Ok-clause-rings g c = armed_keeps (g.D.Disk.image c.args.disk.now) (g.D.Disk.image c.arm.new.disk) c.in-Ok.ensures.image

pub returns-in-Ok-clause-bare : goal.returns-in-Ok-clause-bare
returns-in-Ok-clause-bare g c = λ none. absurd (true≢false (sym c.if-not-is_logged.false ∙ none))

pub returns-in-Ok-clause-kept : goal.returns-in-Ok-clause-kept
returns-in-Ok-clause-kept g c = looked_kept g.D.Disk c.args.disk.now c.arm.new.disk _ c.arm.ensures.kept

pub returns-in-Ok-clause-made : goal.returns-in-Ok-clause-made
returns-in-Ok-clause-made g c = λ logged. c.in-Ok.ensures.made

pub returns-in-Ok-clause-behind : goal.returns-in-Ok-clause-behind
returns-in-Ok-clause-behind g c = λ given. c.in-Ok.ensures.behind

pub returns-in-Err-clause-bare : goal.returns-in-Err-clause-bare
returns-in-Err-clause-bare g c = λ none. absurd (true≢false (sym c.if-not-is_logged.false ∙ none))

pub returns-in-Err-clause-kept : goal.returns-in-Err-clause-kept
returns-in-Err-clause-kept g c = looked_kept g.D.Disk c.args.disk.now c.arm.new.disk _ c.arm.ensures.kept
