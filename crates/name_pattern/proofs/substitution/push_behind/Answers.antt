use Rattle.std.proofs.Common.{rules, ◌≡◌, Some, None, string_bytes}
use Rattle.name_pattern.specs.Substitution.{group_called}
use Rattle.name_pattern.proofs.SubstitutionLemmas.{writes_group, writes_behind}
use Rattle.name_pattern.proofs.substitution.push_behind.Goals as goal

pub returns-in-Some : goal.returns-in-Some
returns-in-Some c =
    let is : group_called c.args.c ≡ Some c.in-Some.group = search rules in
    writes_group _ c.args.c c.in-Some.group (string_bytes c.args.out.now) _ is c.in_ok-push_group.ensures

pub returns : goal.returns
returns c =
    let none : group_called c.args.c ≡ None = search rules in
    writes_behind _ c.args.c (string_bytes c.args.out.now) (string_bytes c.push.new.self) _ _ none c.in_ok-push.ensures.bytes (c.in_ok-is_next_open.ensures _)
