use Rattle.std.proofs.Common.{ℕ, Bor, List, map, subst, sym}
use Rattle.path_glob.specs.Faults.{Said}
use Rattle.path_glob.specs.Laws.{BeginsWith}
use Rattle.metric_index.specs.Found.{IsFitted}
use Rattle.metric_index.proofs.SearchedLemmas.{picks_run}
use Rattle.metric_index.proofs.searched.fitting_of.Goals as goal

pub returns : goal.returns
returns c =
    let fits = IsFitted c.args.verdicts.now in
    let front : List ℕ = c.literal_front-front.result.now in
    let begins : (path : List ℕ) → fits path → BeginsWith front path =
    λ path fit. c.literal_front-front.ensures.fits path (subst (λ (g : Said). IsFitted g path) (sym c.glob.ensures) fit) in
    picks_run fits front begins c.args.names.now c.run_of.result.now (map (λ (path : Bor (List ℕ)). path.now) c.in_ok-fitting.fitting.items) c.run_of.ensures c.in_ok-fitting.ensures
