use Rattle.std.proofs.Common.{arith, rules, ◌≡◌, ◌∙◌, string_bytes}
use Rattle.regex.specs.Strings.{matcher_pattern, captures_haystack, captures_span}
use Rattle.regex.specs.Replace.{bytes_of}
use Rattle.name_pattern.specs.Substitution.{written}
use Rattle.name_pattern.proofs.SubstitutionLemmas.{captures_written, substituted_by_text}
use Rattle.name_pattern.proofs.pattern.Search.substituted.Goals as goal

pub returns-clause-value : goal.returns-clause-value
returns-clause-value c =
    rw (← c.self.view_is) (substituted_by_text _ c.self.inside.pattern.now (matcher_pattern c.self.inside.matcher) c.args.replacement.now c.args.name.now (string_bytes c.in_ok-new.new)
    c.self.invariant (λ k. omega (arith, c.type_inv.name k))
    (λ m text r.
    let by : string_bytes r.1 ≡ written (λ n. bytes_of (captures_haystack r.0.now) (captures_span r.0.now n)) c.args.replacement.now = search rules in
    captures_written c.args.name.now c.args.replacement.now text m r.0.now r.2 (r.4 ∙ by))
    c.in_ok-new.ensures.value)
