use Rattle.std.proofs.Common.{◌≡◌, ◌∷◌, [], ap, subst, sym, map, List}
use Rattle.path_glob.specs.Glob.{RowCovers, Simple, SomeCovers}
use Rattle.path_glob.specs.Positions.{Adds, held}
use Rattle.path_glob.specs.Reading.{row_of, values_of}
use Rattle.path_glob.proofs.PositionLemmas.{adds_last, adds_more, adds_none, adds_one}
use Rattle.path_glob.proofs.cover.after_values.Goals as goal

pub loop-cut-init : goal.loop-cut-init
loop-cut-init c = λ new adds.
    adds_none {R = SomeCovers (values_of c.args.values.now)} c.args.node.now (held c.args.start) (held c.none-reached.result) new c.none-reached.ensures adds

pub loop-cut-preserved : goal.loop-cut-preserved
loop-cut-preserved c = λ new adds.
    let node = c.args.node.now in
    let start = held c.args.start in
    let before = held c.loop-cut.reached in
    let after = held c.with-reached.result in
    let value = row_of c.in-Some.cut.before.now in
    let others = values_of c.in-Some.cut.after.now in
    let parts : values_of c.loop-cut.rest.now ≡ value ∷ others = ap (map row_of) c.in-Some.ensures.parts.0 in
    let one = adds_one {R = RowCovers value} node start (held c.after_row.result) before after c.requires c.after_row.ensures c.with-reached.ensures in
    c.loop-cut.invariant new (subst (λ (values : List (List Simple)). Adds (SomeCovers values) node start before new) (sym parts) (adds_more value others node start before after new one adds))

pub returns : goal.returns
returns c =
    let node = c.args.node.now in
    let start = held c.args.start in
    let before = held c.loop-cut.reached in
    let after = held c.with.result in
    let value = row_of c.loop-cut.rest.now in
    let part : values_of c.loop-cut.rest.now ≡ value ∷ [] = ap (map row_of) c.in_default.ensures.parts in
    let one = adds_one {R = RowCovers value} node start (held c.after_row-2.result) before after c.requires c.after_row-2.ensures c.with.ensures in
    c.loop-cut.invariant after (subst (λ (values : List (List Simple)). Adds (SomeCovers values) node start before after) (sym part) (adds_last value node start before after one))
