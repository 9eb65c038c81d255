use Rattle.std.proofs.Common.{◌≡◌, ◌∙◌, ◌+◌, ◌*◌, ℕ, sym, ap, length, arith}
use Rattle.std.proofs.lemmas.Bool.Decides.{nat_tests}
use Rattle.series_fetch.proofs.LayingLemmas.{bucket_within}
use Rattle.series_fetch.proofs.ShownLemmas.{all_laid, none_laid, written_back}
use Rattle.series_fetch.proofs.laying.with_pending.Goals as goal

pub returns-then-is_empty : goal.returns-then-is_empty
returns-then-is_empty c =
    let none : length c.between-points.result.now ≡ 0 = grind (arith, nat_tests, c.is_empty.ensures, c.if-is_empty.true) in
    none_laid c.args.layout.now c.args.values.items c.between-points.result.now c.args.cached.now c.args.archive c.args.first c.args.step none
    (λ k lt. c.between-points.ensures.same c.args.step (c.args.first + k * c.args.step) c.requires.some (omega arith)
    (bucket_within c.args.first c.args.step k (length c.args.values.items) _ lt (ap (λ (n : ℕ). c.args.first + n * c.args.step) (c.len.ensures ∙ c.args.values.ok.0))))

pub returns-then-archive-gt0 : goal.returns-then-archive-gt0
returns-then-archive-gt0 c =
    let same : c.deref_mut.result.now ≡ c.args.values.items = c.deref_mut.ensures.value in
    let many : length c.lay_points.new.values ≡ length c.args.values.items = c.lay_points.ensures.all ∙ ap length same in
    let each = rw same at c.lay_points.ensures.each in
    written_back c.args.values.items c.lay_points.new.values c.args.values.len many (sym c.args.values.ok.0)
    ∙ all_laid c.args.layout.now c.args.values.items c.lay_points.new.values c.between-points.result.now c.args.cached.now c.args.archive c.args.first c.args.step many each
    (λ k lt. c.between-points.ensures.same c.args.step (c.args.first + k * c.args.step) c.requires.some (omega arith)
    (bucket_within c.args.first c.args.step k (length c.args.values.items) _ lt (ap (λ (n : ℕ). c.args.first + n * c.args.step) (c.len.ensures ∙ c.args.values.ok.0))))

pub returns : goal.returns
returns c =
    let finest : c.args.archive ≡ 0 = omega (arith, c.if-archive-gt0.false) in
    let same : c.deref_mut-2.result.now ≡ c.args.values.items = c.deref_mut-2.ensures.value in
    let many : length c.lay_latest.new.values ≡ length c.args.values.items = c.lay_latest.ensures.all ∙ ap length same in
    let each = rw same at c.lay_latest.ensures.each in
    rw finest (written_back c.args.values.items c.lay_latest.new.values c.args.values.len many (sym c.args.values.ok.0)
    ∙ all_laid c.args.layout.now c.args.values.items c.lay_latest.new.values c.between-points.result.now c.args.cached.now 0 c.args.first c.args.step many each
    (λ k lt. c.between-points.ensures.same c.args.step (c.args.first + k * c.args.step) c.requires.some (omega arith)
    (bucket_within c.args.first c.args.step k (length c.args.values.items) _ lt (ap (λ (n : ℕ). c.args.first + n * c.args.step) (c.len.ensures ∙ c.args.values.ok.0)))))
