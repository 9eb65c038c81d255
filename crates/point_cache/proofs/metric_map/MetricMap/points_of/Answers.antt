use Rattle.std.proofs.Common.{◌∙◌, ap, sym}
use Rattle.std.specs.Option.{option_copied, option_map}
use Rattle.point_cache.specs.declared.numbered.Numbered.{Numbered}
use Rattle.point_cache.proofs.KeptLemmas.{lookup_shown}
use Rattle.point_cache.proofs.metric_map.MetricMap.points_of.Goals as goal

pub returns-in_err-numbered : goal.returns-in_err-numbered
returns-in_err-numbered c =
    let its = sym c.get.ensures.value ∙ ap option_copied c.in_err-numbered.was in
    rw (sym c.self.view_is) (ap option_copied c.from_residual.ensures ∙ sym (lookup_shown c.self.inside.entries.entries c.args.path.now c.self.invariant.once ∙ ap (option_map (λ (m : Numbered). m.points)) its))

pub returns : goal.returns
returns c =
    let its = sym c.get.ensures.value ∙ ap option_copied c.in_ok-numbered.was in
    rw (sym c.self.view_is) (sym (lookup_shown c.self.inside.entries.entries c.args.path.now c.self.invariant.once ∙ ap (option_map (λ (m : Numbered). m.points)) its))
