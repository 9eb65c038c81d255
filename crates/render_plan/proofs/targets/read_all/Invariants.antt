use Rattle.std.proofs.Common.{◌≡◌, All, ◌+◌, drop}
use Rattle.render_plan.specs.Planned.{targets_from}
use Rattle.render_plan.specs.Sound.{IsSound}
use Rattle.render_plan.specs.Terms.{term_of}
use Rattle.target_parse.specs.Bytes.{most_depth}
use Rattle.render_plan.proofs.PlanLemmas.{asked_before}
use Rattle.render_plan.proofs.targets.read_all.Given as goal

abbrev pub invariant-loop-text : goal.invariant-loop-text
invariant-loop-text l =
    (l.number ≡ l.text-index + 1) × All (λ target. IsSound most_depth (term_of target)) l.targets.items × (asked_before l.targets.items (targets_from (l.text-index + 1) (drop l.text-index l.texts)) ≡ targets_from 1 l.texts)
