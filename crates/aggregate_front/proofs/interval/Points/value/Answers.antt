use Rattle.std.proofs.Common.{◌≡◌, ◌∙◌, length, sym, ap, arith}
use Rattle.std.proofs.lemmas.List.{length-map}
use Rattle.rollup.specs.Rollup.{rolled}
use Rattle.aggregate_front.specs.declared.timed_value.TimedValue.{TimedValue}
use Rattle.aggregate_front.specs.TimeOrder.{in_time_order, values_of}
use Rattle.aggregate_front.proofs.TimeOrderLemmas.{length_in_time, sorted_in_time}
use Rattle.aggregate_front.proofs.interval.Points.value.Goals as goal

pub returns : goal.returns
returns c =
    let items = c.self.inside.items.items in
    let sorted : c.sort.new.self.items ≡ in_time_order items = rw (c.in_ok-ordered.ensures.items, c.as_slice.ensures.value) at (sorted_in_time c.in_ok-ordered.ordered.items c.sort.new.self.items c.in_ok-sort.ensures.sorted c.in_ok-sort.ensures.stable) in
    let known : c.in_ok-known.known.items ≡ values_of (in_time_order items) = c.in_ok-known.ensures ∙ ap values_of (c.as_slice-2.ensures.value ∙ sorted) in
    let h = rw (c.as_slice-3.ensures.value, known) at c.roll.ensures in
    let all : c.len.result ≡ length items = omega (arith, c.len.ensures, c.as_slice-3.ensures.len, ap length c.as_slice-3.ensures.value, ap length known, length-map (in_time_order items) (λ (point : TimedValue). point.value), length_in_time items) in
    rw (sym c.self.view_is) (h ∙ ap (rolled c.args.method (values_of (in_time_order items))) all)
