use Rattle.std.proofs.Common.{◌∙◌, List, ℕ, Option, subst, sym}
use Rattle.metric_path.specs.FileName.{HasFileName}
use Rattle.ring_look.proofs.finding.find_file.Goals as goal

pub returns-in-Ok-clause-finds : goal.returns-in-Ok-clause-finds
returns-in-Ok-clause-finds g c =
    let named = subst (λ (path : Option (List ℕ)). HasFileName path c.args.name.now) c.in-Ok-Some.field-0-is c.in-Ok-Some.ensures.found in
    (record { path = c.in-Ok-Some.path; named = named; own = sym c.class-own.ensures.value ∙ c.if-own-class.false }, c.in-Ok.ensures.found)
