use Rattle.std.proofs.Common.{rules, ◌≡◌, ◌∙◌, ℕ, Bor, List, length, map, sym}
use Rattle.std.proofs.lemmas.Result.{IfOk-weaker}
use Rattle.metric_index.specs.Found.{Finds, IsFitted, seen}
use Rattle.metric_index.specs.Searched.{AreHits}
use Rattle.metric_index.proofs.SearchedLemmas.{finds_again, picked_known}
use Rattle.metric_index.proofs.index.Index.find_again.Goals as goal

pub hits_of-requires : goal.hits_of-requires
hits_of-requires g c = record {
  known = picked_known c.args.searched.now.glob c.args.self.now c.args.searched.now.names (map (λ (b : Bor (List ℕ)). b.now) c.fitting.result.now) c.requires.known c.fitting.ensures;
}

pub returns : goal.returns
returns g c =
    let es = c.args.self.now in
    let glob = c.args.searched.now.glob in
    let picked : List (List ℕ) = map (λ (b : Bor (List ℕ)). b.now) c.fitting.result.now in
    let same : c.len.result ≡ c.count.result = search rules in
    let many : length es ≡ length c.args.searched.now.names = sym c.len.ensures.value ∙ (same ∙ c.count.ensures) in
    IfOk-weaker c.hits_of.result (λ hits. AreHits es picked (map seen hits.items)) (λ hits. Finds es (IsFitted glob) (map seen hits.items))
    (λ hits are. finds_again glob es (map seen hits.items) c.args.searched.now.names picked c.len.ensures.rising c.requires.known many c.fitting.ensures are) c.hits_of.ensures
