use Rattle.std.proofs.Common.{◌∙◌, sym}
use Rattle.aggregate_rules.proofs.NameLemmas.{name_is_new, name_is_there}
use Rattle.aggregate_rules.proofs.names.Names.add.Goals as goal

pub returns-then-contains_key : goal.returns-then-contains_key
returns-then-contains_key c =
    let there = rw c.in_ok-name.ensures at (sym c.contains_key.ensures ∙ c.if-contains_key.true) in
    rw (sym c.self.view_is) (name_is_there c.self.inside.numbers.entries c.args.text.now there)

pub returns : goal.returns
returns c =
    let absent = rw c.in_ok-name.ensures at (sym c.contains_key.ensures ∙ c.if-contains_key.false) in
    let entries = rw c.in_ok-name.ensures at c.in_ok-insert.ensures.entries in
    rw (sym c.self.view_is, entries) (name_is_new c.self.inside.numbers.entries c.args.text.now c.len-number.result absent)
