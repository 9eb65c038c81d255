use Rattle.std.proofs.Common.{arith, ap, ◌∙◌, ℕ, List, is_some}
use Rattle.regex.specs.Patterns.{find_str}
use Rattle.regex_hir.specs.Meaning.{meaning}
use Rattle.regex_hir.specs.Re.{Re}
use Rattle.name_pattern.specs.Patterns.{is_found}
use Rattle.name_pattern.proofs.PatternLemmas.{found_by_text}
use Rattle.name_pattern.proofs.name_test.NameTest.is_found.Goals as goal

pub returns-in-Some : goal.returns-in-Some
returns-in-Some c =
    let re : Re = meaning c.self.inside.steps.hir in
    c.in-Some.ensures c.self.invariant.0 c.self.invariant.2 ∙ ap (λ (name : List ℕ). is_some (find_str re name 0)) c.as_bytes.ensures.value
    ∙ found_by_text c.self.inside.pattern re c.args.name.now c.self.invariant.1 (λ k. omega (arith, c.type_inv.name k))
    ∙ ap (λ (text : List ℕ). is_found text c.args.name.now) c.self.view_is
