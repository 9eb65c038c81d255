use Rattle.std.proofs.Common.{◌<◌, ◌-◌, ◌^◌, Option, None, Some, IfSome, length, option_map, subst, sym, ap, ◌∙◌, arith}
use Rattle.std.specs.Option.{IsSomeAnd, option_copied}
use Rattle.metric_index.specs.Index.{entry_of}
use Rattle.metric_table.specs.Table.{drained}
use Rattle.metric_table.specs.declared.entry.Entry.{Entry}
use Rattle.metric_table.specs.declared.known.Known.{Known}
use Rattle.metric_table.proofs.TableLemmas.{same_numbers, sets_have, sets_shown, shown_entry}
use Rattle.metric_table.proofs.table.MetricTable.note_drain.Goals as goal

pub unreachable-requires : goal.unreachable-requires
unreachable-requires c =
    let none = sym c.get.ensures ∙ ap option_copied c.in_default.is in
    subst (λ (o : Option Known). IsSomeAnd o (λ known. known.drains < 2 ^ 64 - 1)) (shown_entry c.self.inside.layouts c.self.inside.index c.args.self.now c.args.path.now None c.self.view_is none) c.requires

pub overflow_add-entry : goal.overflow_add-entry
overflow_add-entry c =
    let entry = c.in-Some.entry.now in
    let some = sym c.get.ensures ∙ ap option_copied c.in-Some.is in
    let small : entry.drains < 18446744073709551615 =
    subst (λ (o : Option Known). IsSomeAnd o (λ known. known.drains < 2 ^ 64 - 1)) (shown_entry c.self.inside.layouts c.self.inside.index c.args.self.now c.args.path.now (Some entry) c.self.view_is some) c.requires in
    omega (arith, small)

pub invariant_of-self : goal.invariant_of-self
invariant_of-self c =
    let layouts = c.self.inside.layouts in
    let some = sym c.get.ensures ∙ ap option_copied c.in-Some.is in
    sets_have layouts layouts c.self.inside.index c.set.new.self c.args.path.now _ c.self.invariant (same_numbers layouts) c.set.ensures
    (subst (λ (o : Option Entry). IfSome o (λ e. e.layout < length layouts)) some (c.self.invariant c.args.path.now))

pub returns : goal.returns
returns c =
    let layouts = c.self.inside.layouts in
    let some = sym c.get.ensures ∙ ap option_copied c.in-Some.is in
    sets_shown layouts layouts c.self.inside.index c.set.new.self c.args.path.now _ c.args.self.now (option_map drained (entry_of c.args.self.now c.args.path.now)) c.self.view_is c.self.invariant (same_numbers layouts) c.set.ensures
    (sym (ap (option_map drained) (shown_entry layouts c.self.inside.index c.args.self.now c.args.path.now (Some c.in-Some.entry.now) c.self.view_is some)))
