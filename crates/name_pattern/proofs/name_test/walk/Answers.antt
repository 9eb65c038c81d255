use Rattle.std.proofs.Common.{sym, ◌∙◌}
use Rattle.name_pattern.proofs.WalkLemmas.{walk_finds, walk_misses}
use Rattle.name_pattern.proofs.name_test.walk.Goals as goal

pub returns-in_default-found : goal.returns-in_default-found
returns-in_default-found c = λ re implements. walk_misses c.args.nfa.now re c.args.name.now implements (sym c.in_default-found.is ∙ c.in-Ok.ensures.span)

pub returns-then-is_cut : goal.returns-then-is_cut
returns-then-is_cut c = λ re implements.
    walk_finds c.args.nfa.now re c.args.name.now (c.in-Some.start, c.in-Some.field-0-1) implements (sym c.in-Some.is ∙ c.in-Ok.ensures.span) (sym c.is_cut.ensures ∙ c.if-is_cut.true)
