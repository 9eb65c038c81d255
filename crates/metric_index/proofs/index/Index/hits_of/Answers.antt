use Rattle.std.proofs.Common.{◌≡◌, ◌∙◌, ℕ, ◌+◌, ◌<◌, Bor, List, [], ◌∷◌, ◌++◌, length, map, take, get_or, sym, ap, subst}
use Rattle.std.specs.Option.{IsSome, option_copied}
use Rattle.std.proofs.lemmas.List.{get_or-map, length-map, map_more, map_push}
use Rattle.std.proofs.lemmas.List.Elements.{All-get_or}
use Rattle.metric_index.specs.Found.{seen}
use Rattle.metric_index.specs.Index.{entry_of}
use Rattle.metric_index.specs.Searched.{AreHits}
use Rattle.metric_index.proofs.FindLemmas.{never_none}
use Rattle.metric_index.proofs.SearchedLemmas.{hits_more}
use Rattle.metric_index.proofs.index.Index.hits_of.Goals as goal

pub unreachable-requires : goal.unreachable-requires
unreachable-requires g c =
    let es = c.args.self.now in
    let paths : List (Bor (List ℕ)) = c.args.paths.now in
    let path : Bor (List ℕ) = c.path-item.result in
    let i : ℕ = c.loop-path.path-index in
    let here : get_or (map (λ (b : Bor (List ℕ)). b.now) paths) i path.now ≡ path.now =
    get_or-map (λ (b : Bor (List ℕ)). b.now) paths i path path.now c.loop-path-test.true ∙ ap (λ (b : Bor (List ℕ)). b.now) (sym c.path-item.is) in
    let less : i < length (map (λ (b : Bor (List ℕ)). b.now) paths) = subst (λ (n : ℕ). i < n) (sym (length-map paths (λ (b : Bor (List ℕ)). b.now))) c.loop-path-test.true in
    let known : IsSome (entry_of es path.now) = subst (λ (p : List ℕ). IsSome (entry_of es p)) here
    (All-get_or (λ (p : List ℕ). IsSome (entry_of es p)) (map (λ (b : Bor (List ℕ)). b.now) paths) i path.now less c.requires.known) in
    never_none (λ p. p ≡ p) (entry_of es path.now) (sym c.get.ensures ∙ ap option_copied c.in_default.is) known

pub loop-path-preserved : goal.loop-path-preserved
loop-path-preserved g c =
    let es = c.args.self.now in
    let paths : List (Bor (List ℕ)) = c.args.paths.now in
    let path : Bor (List ℕ) = c.path-item.result in
    let i : ℕ = c.loop-path.path-index in
    let f : Bor (List ℕ) → List ℕ = λ b. b.now in
    let taken : map f (take (i + 1) paths) ≡ map f (take i paths) ++ path.now ∷ [] =
    map_more f paths i path c.loop-path-test.true ∙ ap (λ (b : Bor (List ℕ)). map f (take i paths) ++ f b ∷ []) (sym c.path-item.is) in
    let more = ap (map seen) c.in_ok-push.ensures.items ∙ map_push seen c.loop-path.hits.items _ in
    subst (λ (l : List (List ℕ)). AreHits es l (map seen c.push.new.self.items)) (sym taken)
    (subst (λ (l : List (List ℕ × _)). AreHits es (map f (take i paths) ++ path.now ∷ []) l) (sym more)
    (hits_more es (map seen c.loop-path.hits.items) (map f (take i paths)) path.now c.in-Some.entry.now c.loop-path.invariant (sym c.get.ensures ∙ ap option_copied c.in-Some.is)))
