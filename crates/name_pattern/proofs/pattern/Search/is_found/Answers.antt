use Rattle.std.proofs.Common.{arith, ◌∙◌}
use Rattle.regex.specs.Strings.{matcher_pattern}
use Rattle.name_pattern.proofs.PatternLemmas.{found_by_text}
use Rattle.name_pattern.proofs.pattern.Search.is_found.Goals as goal

pub returns-clause-found : goal.returns-clause-found
returns-clause-found c =
    rw (← c.self.view_is) (c.is_match.ensures.found
    ∙ found_by_text c.self.inside.pattern.now (matcher_pattern c.self.inside.matcher) c.args.name.now c.self.invariant (λ k. omega (arith, c.type_inv.name k)))
