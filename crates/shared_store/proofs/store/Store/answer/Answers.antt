use Rattle.std.proofs.Common.{◌≡◌, List, sym, subst}
use Rattle.std.specs.Prelude.{All}
use Rattle.carbon_model.specs.Replay.{replay}
use Rattle.carbon_model.specs.State.{State}
use Rattle.render_need.specs.declared.need.Need.{Need}
use Rattle.shard_core.specs.declared.looked.Looked.{Looked}
use Rattle.shared_store.specs.Asking.{Pairwise}
use Rattle.shared_store.specs.Held.{IsCovered}
use Rattle.shared_store.proofs.AskFoundLemmas.{FoundOf, all_short, few_found, found_of}
use Rattle.shared_store.proofs.AskReadLemmas.{all_sorted, answers_ends, answers_reads, rows_reads}
use Rattle.shared_store.proofs.store.Store.answer.Goals as goal

pub read_all-requires-clause-looks : goal.read_all-requires-clause-looks
read_all-requires-clause-looks g c =
    let f = c.requires.found in
    let s : State = replay g.N.Named.start c.args.pass.now.seen in
    let found : Pairwise (FoundOf s f.now) f.needs c.as_slice.result.now = subst (λ (l : List (List Looked)). Pairwise (FoundOf s f.now) f.needs l) (sym c.as_slice.ensures.value)
    (found_of s f.now f.needs c.args.found.items c.in_ok-found.found.items f.finds.up c.in_ok-found.ensures) in
    all_short s f.now f.needs c.as_slice.result.now found (few_found s f.now f.needs c.as_slice.result.now f.finds.few found).1

pub read_all-requires-clause-covered : goal.read_all-requires-clause-covered
read_all-requires-clause-covered g c =
    let s : State = replay g.N.Named.start c.args.pass.now.seen in
    subst (All (All (IsCovered s c.args.held.items))) (sym c.as_slice.ensures.value)
    (all_sorted (IsCovered s c.args.held.items) c.args.found.items c.in_ok-found.found.items c.in_ok-found.ensures c.requires.covered)

pub returns-clause-answers : goal.returns-clause-answers
returns-clause-answers g c = λ now needs finds.
    let n = g.N.Named in
    let s : State = replay n.start c.args.pass.now.seen in
    let found : Pairwise (FoundOf s now) needs c.as_slice.result.now = subst (λ (l : List (List Looked)). Pairwise (FoundOf s now) needs l) (sym c.as_slice.ensures.value)
    (found_of s now needs c.args.found.items c.in_ok-found.found.items finds.up c.in_ok-found.ensures) in
    answers_reads n.start n.told n.passes now needs c.as_slice.result.now c.args.pass.now c.read_all.new.pass found c.read_all.result finds.few c.read_all.ensures.reads

pub returns-clause-rows : goal.returns-clause-rows
returns-clause-rows g c =
    let n = g.N.Named in
    let f = c.requires.found in
    let s : State = replay n.start c.args.pass.now.seen in
    let found : Pairwise (FoundOf s f.now) f.needs c.as_slice.result.now = subst (λ (l : List (List Looked)). Pairwise (FoundOf s f.now) f.needs l) (sym c.as_slice.ensures.value)
    (found_of s f.now f.needs c.args.found.items c.in_ok-found.found.items f.finds.up c.in_ok-found.ensures) in
    rows_reads n.start n.told n.passes c.as_slice.result.now c.args.pass.now c.read_all.new.pass c.read_all.result
    (few_found s f.now f.needs c.as_slice.result.now f.finds.few found).0 c.read_all.ensures.reads

pub returns-in_err-found-clause-answers : goal.returns-in_err-found-clause-answers
returns-in_err-found-clause-answers g c = λ now needs finds.
    answers_ends g.N.Named.start g.N.Named.told g.N.Named.passes now needs c.from_residual.result c.args.pass.now c.from_residual.ensures.1
