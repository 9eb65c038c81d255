use Rattle.std.proofs.Common.{ap}
use Rattle.std.proofs.lemmas.Option.{get_or_from_slice_get, slice_get_within}
use Rattle.ring_format.specs.Layout.{LayoutValue}
use Rattle.metric_table.specs.Numbered.{no_layout}
use Rattle.metric_table.specs.Table.{undrained}
use Rattle.metric_table.proofs.TableLemmas.{inserted_have, inserted_shown, refused_shown}
use Rattle.metric_table.proofs.table.MetricTable.insert.Goals as goal

pub invariant_of-self-2 : goal.invariant_of-self-2
invariant_of-self-2 c =
    let now = c.number_of.new.self in
    let numbered = c.in_ok-number.ensures.numbered in
    let within = slice_get_within now c.in_ok-number.number c.args.layout numbered in
    inserted_have c.self.inside.layouts now c.self.inside.index c.insert.new.self c.args.path _ c.args.self.now c.self.view_is c.self.invariant c.in_ok-number.ensures.kept within c.insert.result c.insert.ensures.ok c.insert.ensures.err

pub returns-clause-ok : goal.returns-clause-ok
returns-clause-ok c =
    let now = c.number_of.new.self in
    let numbered = c.in_ok-number.ensures.numbered in
    let within = slice_get_within now c.in_ok-number.number c.args.layout numbered in
    inserted_shown c.self.inside.layouts now c.self.inside.index c.insert.new.self c.args.path _ c.args.self.now c.self.view_is c.self.invariant c.in_ok-number.ensures.kept within
    (undrained c.args.layout c.args.is_kept c.args.is_old) c.insert.result (ap (λ (layout : LayoutValue). undrained layout c.args.is_kept c.args.is_old) (get_or_from_slice_get now c.in_ok-number.number c.args.layout no_layout numbered)) c.insert.ensures.ok

pub returns-clause-err : goal.returns-clause-err
returns-clause-err c =
    let now = c.number_of.new.self in
    let numbered = c.in_ok-number.ensures.numbered in
    let within = slice_get_within now c.in_ok-number.number c.args.layout numbered in
    refused_shown c.self.inside.layouts now c.self.inside.index c.insert.new.self c.args.path (record { layout = c.in_ok-number.number; is_kept = c.args.is_kept; is_old = c.args.is_old; drains = 0 }) c.args.self.now c.self.view_is c.self.invariant
    c.in_ok-number.ensures.kept within c.insert.result c.len.ensures.rising c.insert.ensures.err
