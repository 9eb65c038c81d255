use Rattle.std.proofs.Common.{ℕ, List, ◌++◌, map, subst, sym, ap, ◌∙◌}
use Rattle.std.specs.Cmp.{unsigned_Decides}
use Rattle.std.specs.Map.Iter.{deref_pair}
use Rattle.std.proofs.lemmas.List.{map-append}
use Rattle.std.proofs.lemmas.Map.Iter.{rest_all, rest_more}
use Rattle.std.proofs.lemmas.Slice.Eq.{starts_is}
use Rattle.path_glob.specs.Laws.{BeginsWith, literal_front}
use Rattle.metric_index.specs.Found.{IsFitted, seen}
use Rattle.metric_index.proofs.VerdictLemmas.{fitted_by}
use Rattle.metric_index.proofs.WalkLemmas.{Walks, walk_breaks, walk_ends, walk_finds, walk_passes}
use Rattle.metric_index.proofs.finding.fitted.Goals as goal
use Rattle.metric_index.proofs.finding.fitted.Goals.{in-None, in-Some+then-not-starts_with}

pub loop-path-preserved-in-Continue-1 : goal.loop-path-preserved-in-Continue-1
loop-path-preserved-in-Continue-1 g c =
    let fits = IsFitted c.args.glob.now in
    let front = literal_front c.args.glob.now.text in
    let entry : List ℕ × g.row.V.Denot = (c.in-Some.path.now, c.in-Some.entry.now) in
    let hits = map seen c.loop-path.hits.items in
    let left = rest_more deref_pair c.loop-path.path-iterator c.next.new.self c.next.result (c.in-Some.path, c.in-Some.entry) c.in-Some.is c.next.ensures.steps in
    let walks = subst (λ (l : List (List ℕ × _)). Walks fits front c.args.entries l hits) left c.loop-path.invariant in
    let found = walk_finds fits front c.args.entries entry c.next.new.self hits walks (fitted_by c.args.known.now c.args.glob.now c.in-Some.path.now c.requires.same (c.fits.ensures.0 c.if-fits.true)) in
    let more = ap (map seen) c.in_ok-push.ensures.items ∙ map-append seen c.loop-path.hits.items _ in
    subst (Walks fits front c.args.entries c.next.new.self) (sym more) found

pub loop-path-preserved : goal.loop-path-preserved
loop-path-preserved g c =
    let fits = IsFitted c.args.glob.now in
    let front = literal_front c.args.glob.now.text in
    let entry : List ℕ × g.row.V.Denot = (c.in-Some.path.now, c.in-Some.entry.now) in
    let hits = map seen c.loop-path.hits.items in
    let left = rest_more deref_pair c.loop-path.path-iterator c.next.new.self c.next.result (c.in-Some.path, c.in-Some.entry) c.in-Some.is c.next.ensures.steps in
    let walks = subst (λ (l : List (List ℕ × _)). Walks fits front c.args.entries l hits) left c.loop-path.invariant in
    walk_passes fits front c.args.entries entry c.next.new.self hits walks (λ fit. absurd (let yes = sym c.if-fits.false ∙ c.fits.ensures.1 (fitted_by c.args.glob.now c.args.known.now c.in-Some.path.now (sym c.requires.same) fit) in cc))

pub returns : goal.returns
returns g c =
    let fits = IsFitted c.args.glob.now in
    let front = literal_front c.args.glob.now.text in
    let hits = map seen c.loop-path.hits.items in
    elim c.match-next.branch [
      | in-None w ↦ walk_ends fits front c.args.entries c.loop-path.path-iterator hits (rest_all deref_pair c.loop-path.path-iterator c.next.new.self c.next.result w.in-None.is c.next.ensures.steps) c.loop-path.invariant
      | in-Some+then-not-starts_with w ↦
          let entry : List ℕ × g.row.V.Denot = (w.in-Some.path.now, w.in-Some.entry.now) in
          let left = rest_more deref_pair c.loop-path.path-iterator c.next.new.self c.next.result (w.in-Some.path, w.in-Some.entry) w.in-Some.is c.next.ensures.steps in
          let walks = subst (λ (l : List (List ℕ × _)). Walks fits front c.args.entries l hits) left c.loop-path.invariant in
          let starts = starts_is unsigned_Decides w.text.result.now c.literal_front-front.result.now w.starts_with.result w.starts_with.ensures.value in
          walk_breaks fits front c.args.entries entry c.next.new.self hits walks
          (λ path fit. subst (λ (l : List ℕ). BeginsWith l path) c.literal_front-front.ensures.value (c.literal_front-front.ensures.fits path fit))
          c.texts_with_one_front_stand_together.ensures.to
          (λ begins. absurd (let yes = starts.1 begins.0 (w.text.ensures.value ∙ begins.1 ∙ sym (ap (λ (l : List ℕ). l ++ begins.0) c.literal_front-front.ensures.value)) in cc))
    ]
