use Rattle.std.proofs.Common.{◌≡◌, ◌≤◌, ◌^◌, length}
use Rattle.time_range.specs.Spans.{spans_of}
use Rattle.time_range.proofs.SpanLemmas.{total_with}
use Rattle.time_range.proofs.spans.total_of.Given as goal

abbrev pub invariant-loop-rest : goal.invariant-loop-rest
invariant-loop-rest l = record {
  same : total_with 0 (spans_of l.text) ≡ total_with l.total (spans_of l.rest);
  most : l.total ≤ 2 ^ 100;
}

abbrev pub decreases-loop-rest : goal.decreases-loop-rest
decreases-loop-rest l = length l.rest
