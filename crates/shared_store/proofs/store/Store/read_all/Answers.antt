use Rattle.std.proofs.Common.{◌≡◌, ◌∙◌, ℕ, ◌+◌, List, ◌++◌, ◌∷◌, [], take, sym, ap, subst}
use Rattle.std.specs.Prelude.{All, Contains}
use Rattle.std.proofs.lemmas.List.{take_more}
use Rattle.carbon_model.specs.Replay.{replay}
use Rattle.carbon_model.specs.State.{State}
use Rattle.render_need.specs.Rows.{Rows}
use Rattle.series_set.specs.Series.{SeriesValue}
use Rattle.shard_core.specs.Looks.{looked_paths}
use Rattle.shard_core.specs.declared.looked.Looked.{Looked}
use Rattle.shared_store.specs.Asking.{IsSeriesAt, Pairwise, Stops}
use Rattle.shared_store.specs.Held.{IsCovered}
use Rattle.shared_store.proofs.AskPassLemmas.{only_both}
use Rattle.shared_store.proofs.AskReadLemmas.{all_ends, all_fails, keeps_both, rows_more, set_covered}
use Rattle.shared_store.proofs.store.Store.read_all.Goals as goal

pub loop-found-preserved : goal.loop-found-preserved
loop-found-preserved g c =
    let n = g.N.Named in
    let v = c.loop-found.invariant in
    let old = c.args.pass.now in
    let mid = c.loop-found.pass in
    let s : State = replay n.start old.seen in
    let sets : List (List Looked) = c.args.sets.now in
    let i : ℕ = c.loop-found.found-index in
    let set : List Looked = c.found-item.result in
    let more : take (i + 1) sets ≡ take i sets ++ set ∷ [] = take_more sets i set c.loop-found-test.true ∙ ap (λ (l : List Looked). take i sets ++ l ∷ []) (sym c.found-item.is) in
    let row : List SeriesValue = c.in_ok-read_set.field-0 in
    let reads = subst (λ (l : List Looked). Pairwise (IsSeriesAt n.told (replay n.start mid.seen)) l row) c.as_slice.ensures c.in_ok-read_set.ensures.reads.1 in
    let pairs = rows_more n.start n.told n.passes (take i sets) c.loop-found.rows set row old mid v.only v.pairs reads in
    record {
      only = only_both old mid c.read_set.new.pass v.only c.in_ok-read_set.ensures.reads.0;
      held = keeps_both old mid c.args.held.now.items c.loop-found.held.items c.read_set.new.held.items v.only v.held c.in_ok-read_set.ensures.held;
      pairs = subst (λ (l : List (List Looked)). Pairwise (Pairwise (IsSeriesAt n.told s)) l c.push.new.self) (sym more)
          (subst (λ (l : Rows). Pairwise (Pairwise (IsSeriesAt n.told s)) (take i sets ++ set ∷ []) l) (sym c.in_ok-push.ensures.ok) pairs);
    }

pub returns-in_err-read_set-clause-reads : goal.returns-in_err-read_set-clause-reads
returns-in_err-read_set-clause-reads g c =
    let n = g.N.Named in
    let there : Contains c.args.sets.now c.found-item.result = (c.loop-found.found-index, c.loop-found-test.true, sym c.found-item.is) in
    all_fails n.start n.told n.passes c.args.sets.now c.found-item.result c.from_residual.result c.in_err-read_set.field-0.0 c.args.pass.now c.loop-found.pass
    c.read_set.new.pass c.from_residual.ensures.1 there c.loop-found.invariant.only
    (subst (λ (l : List Looked). Stops (Contains (looked_paths l)) n.start n.passes c.in_err-read_set.field-0.0 c.loop-found.pass c.read_set.new.pass) c.as_slice.ensures
    c.in_err-read_set.ensures.reads)

pub returns-in_err-push-clause-reads : goal.returns-in_err-push-clause-reads
returns-in_err-push-clause-reads g c =
    let n = g.N.Named in
    all_ends n.start n.told n.passes c.args.sets.now c.from_residual-in_err-push.result c.args.pass.now c.read_set.new.pass c.from_residual-in_err-push.ensures.1
    (only_both c.args.pass.now c.loop-found.pass c.read_set.new.pass c.loop-found.invariant.only c.in_ok-read_set.ensures.reads.0)

pub read_set-requires-clause-covered : goal.read_set-requires-clause-covered
read_set-requires-clause-covered g c =
    let v = c.loop-found.invariant in
    subst (All (IsCovered (replay g.N.Named.start c.loop-found.pass.seen) c.loop-found.held.items)) (sym c.as_slice.ensures)
    (set_covered g.N.Named.start c.args.pass.now c.loop-found.pass c.args.held.now.items c.loop-found.held.items c.args.sets.now c.loop-found.found-index c.found-item.result
    c.loop-found-test.true c.found-item.is v.only v.held c.requires.covered)
