use Rattle.std.proofs.Common.{◌≡◌, ◌+◌, ◌*◌, ◌<◌, ◌∙◌, None, get_or, length, arith}
use Rattle.std.proofs.lemmas.List.{length-set}
use Rattle.std.proofs.lemmas.List.{get_or_default, get_or-set_other}
use Rattle.series_fetch.proofs.CutLemmas.{points_of_bucket}
use Rattle.series_fetch.proofs.LayingLemmas.{laid_more, value_laid, whole_more}
use Rattle.series_fetch.proofs.laying.lay_latest.Goals as goal

pub loop-k-preserved : goal.loop-k-preserved
loop-k-preserved c =
    let now = c.loop-k.invariant in
    let end : c.loop-k.limit + c.args.step ≡ c.args.first + (c.loop-k.k + 1) * c.args.step = omega (arith, now.place) in
    let whole = whole_more c.args.first c.args.step c.loop-k.k c.requires.whole in
    let pending = points_of_bucket c.args.points.now c.args.step c.loop-k.limit c.loop-k.at c.cut_from-end.result now.cut c.cut_from-end.ensures.cut c.cut_from-end.ensures.onward c.requires.step.0 (rw now.place whole) in
    let within : c.loop-k.k < length c.loop-k.values = omega (arith, now.all) in
    let held : c.index-values-k.result ≡ get_or c.args.values.now c.loop-k.k None = c.index-values-k.is ∙ get_or_default c.loop-k.values c.loop-k.k c.index-values-k.result None within ∙ now.rest c.loop-k.k (omega arith) in
    let value = value_laid c.args.layout.now c.args.points.now 0 c.args.step c.loop-k.limit c.latest_or.result c.index-values-k.result (get_or c.args.values.now c.loop-k.k None) _ c.latest_or.ensures held pending in
    record {
      place = end;
      all = length-set c.loop-k.values c.loop-k.k c.latest_or.result ∙ now.all;
      cut = c.cut_from-end.ensures.cut;
      done = laid_more c.args.layout.now c.args.values.now c.loop-k.values c.args.points.now 0 c.args.first c.args.step c.loop-k.k c.latest_or.result (omega (arith, now.all)) now.done (rw now.place at value);
      rest = λ j above. get_or-set_other c.loop-k.values c.loop-k.k j c.latest_or.result None (omega arith) ∙ now.rest j (omega arith);
    }
