use Rattle.std.proofs.Common.{ℕ, Bor, List, None, Some, is_gt, map, subst, ap}
use Rattle.std.specs.declared.ops.Bound.TheVariants.{Included, Unbounded}
use Rattle.std.proofs.lemmas.Cmp.{nat_list_cmp_total, tied_itself}
use Rattle.std.proofs.lemmas.Result.{IfOk-weaker}
use Rattle.path_glob.specs.Laws.{BeginsWith, literal_front}
use Rattle.metric_index.specs.Found.{Finds, IsFitted, Picks, seen}
use Rattle.metric_index.proofs.FindLemmas.{finds_none, least_moved, one_range, part_from, part_from_least, part_only_least, part_rising}
use Rattle.metric_index.proofs.index.Index.find_by.Goals as goal

pub returns-in_default : goal.returns-in_default
returns-in_default g c =
    let front = literal_front c.args.glob.now.text in
    let least = least_moved c.literal_front.result.now front _ None c.literal_front.ensures.value c.in_default.is c.in_ok-least.ensures in
    subst (λ (l : List (List ℕ × _)). Finds l (IsFitted c.args.glob.now) (map seen c.new.result.items)) c.self.view_is
    (finds_none (IsFitted c.args.glob.now) front c.self.inside.entries.entries (map seen c.new.result.items) (ap (map seen) c.new.ensures.items) least
    (λ path fit. subst (λ (l : List ℕ). BeginsWith l path) c.literal_front.ensures.value (c.literal_front.ensures.fits path fit)) c.self.invariant)

pub range-requires : goal.range-requires
range-requires g c =
    let start = ap (λ (b : Bor (List ℕ)). b.now) c.new-then-is_literal.ensures.start in
    let end = ap (λ (b : Bor (List ℕ)). b.now) c.new-then-is_literal.ensures.end in
    rw (start, end) (ap is_gt (tied_itself nat_list_cmp_total c.in-Some.least))

pub fitted-requires-clause-rising : goal.fitted-requires-clause-rising
fitted-requires-clause-rising g c =
    let start = ap (λ (b : Bor (List ℕ)). b.now) c.new-then-is_literal.ensures.start in
    let end = ap (λ (b : Bor (List ℕ)). b.now) c.new-then-is_literal.ensures.end in
    let part = one_range _ _ c.in-Some.least c.self.inside.entries.entries c.range.result start end (c.range.ensures.between tt) in
    part_rising (Included c.in-Some.least) (Included c.in-Some.least) c.self.inside.entries.entries c.range.result part c.range.ensures.ordered

pub fitted-requires-clause-from : goal.fitted-requires-clause-from
fitted-requires-clause-from g c =
    let front = literal_front c.args.glob.now.text in
    let start = ap (λ (b : Bor (List ℕ)). b.now) c.new-then-is_literal.ensures.start in
    let end = ap (λ (b : Bor (List ℕ)). b.now) c.new-then-is_literal.ensures.end in
    let part = one_range _ _ c.in-Some.least c.self.inside.entries.entries c.range.result start end (c.range.ensures.between tt) in
    let least = least_moved c.literal_front.result.now front _ (Some c.in-Some.least) c.literal_front.ensures.value c.in-Some.is c.in_ok-least.ensures in
    part_from front c.in-Some.least (Included c.in-Some.least) c.self.inside.entries.entries c.range.result part least

pub returns-then-is_literal : goal.returns-then-is_literal
returns-then-is_literal g c =
    let fits = IsFitted c.args.glob.now in
    let front = literal_front c.args.glob.now.text in
    let start = ap (λ (b : Bor (List ℕ)). b.now) c.new-then-is_literal.ensures.start in
    let end = ap (λ (b : Bor (List ℕ)). b.now) c.new-then-is_literal.ensures.end in
    let part = one_range _ _ c.in-Some.least c.self.inside.entries.entries c.range.result start end (c.range.ensures.between tt) in
    let least = least_moved c.literal_front.result.now front _ (Some c.in-Some.least) c.literal_front.ensures.value c.in-Some.is c.in_ok-least.ensures in
    IfOk-weaker c.fitted.result (λ hits. Picks fits c.range.result (map seen hits.items)) (λ hits. Finds c.args.self.now fits (map seen hits.items))
    (λ hits picks. part_only_least fits front c.in-Some.least c.args.self.now c.self.inside.entries.entries c.range.result (map seen hits.items) c.self.view_is part least
    (c.is_literal.ensures c.if-is_literal.true) c.self.invariant c.range.ensures.ordered picks) c.fitted.ensures

pub fitted-requires-2-clause-rising : goal.fitted-requires-2-clause-rising
fitted-requires-2-clause-rising g c = part_rising (Included c.in-Some.least) Unbounded c.self.inside.entries.entries c.range-2.result (c.range-2.ensures.between tt) c.range-2.ensures.ordered

pub fitted-requires-2-clause-from : goal.fitted-requires-2-clause-from
fitted-requires-2-clause-from g c =
    let front = literal_front c.args.glob.now.text in
    let least = least_moved c.literal_front.result.now front _ (Some c.in-Some.least) c.literal_front.ensures.value c.in-Some.is c.in_ok-least.ensures in
    part_from front c.in-Some.least Unbounded c.self.inside.entries.entries c.range-2.result (c.range-2.ensures.between tt) least

pub returns : goal.returns
returns g c =
    let fits = IsFitted c.args.glob.now in
    let front = literal_front c.args.glob.now.text in
    let least = least_moved c.literal_front.result.now front _ (Some c.in-Some.least) c.literal_front.ensures.value c.in-Some.is c.in_ok-least.ensures in
    IfOk-weaker c.fitted-2.result (λ hits. Picks fits c.range-2.result (map seen hits.items)) (λ hits. Finds c.args.self.now fits (map seen hits.items))
    (λ hits picks. part_from_least fits front c.in-Some.least c.args.self.now c.self.inside.entries.entries c.range-2.result (map seen hits.items) c.self.view_is (c.range-2.ensures.between tt) least
    (λ path fit. subst (λ (l : List ℕ). BeginsWith l path) c.literal_front.ensures.value (c.literal_front.ensures.fits path fit)) c.self.invariant c.range-2.ensures.ordered picks) c.fitted-2.ensures
