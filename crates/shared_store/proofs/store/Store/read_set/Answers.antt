use Rattle.std.proofs.Common.{◌≡◌, ◌∙◌, ℕ, ◌+◌, List, ◌++◌, ◌∷◌, [], take, sym, ap, subst}
use Rattle.std.specs.Prelude.{Contains}
use Rattle.std.proofs.lemmas.List.{take_more}
use Rattle.carbon_model.specs.Replay.{replay}
use Rattle.carbon_model.specs.State.{State}
use Rattle.series_set.specs.Series.{SeriesValue}
use Rattle.shard_core.specs.declared.looked.Looked.{Looked}
use Rattle.shared_store.specs.Asking.{IsSeriesAt, Pairwise}
use Rattle.shared_store.proofs.AskPassLemmas.{only_both}
use Rattle.shared_store.proofs.AskReadLemmas.{keeps_both, one_covered, set_ends, set_fails, set_more}
use Rattle.shared_store.proofs.store.Store.read_set.Goals as goal

pub loop-looked-preserved : goal.loop-looked-preserved
loop-looked-preserved g c =
    let n = g.N.Named in
    let v = c.loop-looked.invariant in
    let old = c.args.pass.now in
    let mid = c.loop-looked.pass in
    let s : State = replay n.start old.seen in
    let found : List Looked = c.args.found.now in
    let i : ℕ = c.loop-looked.looked-index in
    let looked : Looked = c.looked-item.result in
    let more : take (i + 1) found ≡ take i found ++ looked ∷ [] = take_more found i looked c.loop-looked-test.true ∙ ap (λ (l : Looked). take i found ++ l ∷ []) (sym c.looked-item.is) in
    let series : SeriesValue = c.in_ok-series_of.field-0 in
    let pairs = set_more n.start n.told n.passes (take i found) c.loop-looked.set looked c.in_ok-values.values series old mid v.only v.pairs c.in_ok-values.ensures.reads.1 c.in_ok-series_of.ensures in
    record {
      only = only_both old mid c.read_one.new.pass v.only c.in_ok-values.ensures.reads.0;
      held = keeps_both old mid c.args.held.now.items c.loop-looked.held.items c.read_one.new.held.items v.only v.held c.in_ok-values.ensures.held;
      pairs = subst (λ (l : List Looked). Pairwise (IsSeriesAt n.told s) l c.push.new.self) (sym more)
          (subst (λ (l : List SeriesValue). Pairwise (IsSeriesAt n.told s) (take i found ++ looked ∷ []) l) (sym c.in_ok-push.ensures.ok) pairs);
    }

pub returns-in_err-values-clause-reads : goal.returns-in_err-values-clause-reads
returns-in_err-values-clause-reads g c =
    let n = g.N.Named in
    let there : Contains c.args.found.now c.looked-item.result = (c.loop-looked.looked-index, c.loop-looked-test.true, sym c.looked-item.is) in
    set_fails n.start n.told n.passes c.args.found.now c.looked-item.result c.from_residual.result c.in_err-values.field-0.0 c.args.pass.now c.loop-looked.pass
    c.read_one.new.pass c.from_residual.ensures.1 there c.loop-looked.invariant.only c.in_err-values.ensures.reads

pub returns-in_err-series_of-clause-reads : goal.returns-in_err-series_of-clause-reads
returns-in_err-series_of-clause-reads g c =
    let n = g.N.Named in
    set_ends n.start n.told n.passes c.args.found.now c.from_residual-in_err-series_of.result c.args.pass.now c.read_one.new.pass c.from_residual-in_err-series_of.ensures.1
    (only_both c.args.pass.now c.loop-looked.pass c.read_one.new.pass c.loop-looked.invariant.only c.in_ok-values.ensures.reads.0)

pub returns-in_err-push-clause-reads : goal.returns-in_err-push-clause-reads
returns-in_err-push-clause-reads g c =
    let n = g.N.Named in
    set_ends n.start n.told n.passes c.args.found.now c.from_residual-in_err-push.result c.args.pass.now c.read_one.new.pass c.from_residual-in_err-push.ensures.1
    (only_both c.args.pass.now c.loop-looked.pass c.read_one.new.pass c.loop-looked.invariant.only c.in_ok-values.ensures.reads.0)

pub read_one-requires-clause-covered : goal.read_one-requires-clause-covered
read_one-requires-clause-covered g c =
    let v = c.loop-looked.invariant in
    one_covered g.N.Named.start c.args.pass.now c.loop-looked.pass c.args.held.now.items c.loop-looked.held.items c.args.found.now c.loop-looked.looked-index c.looked-item.result
    c.loop-looked-test.true c.looked-item.is v.only v.held c.requires.covered
