use Rattle.std.proofs.Common.{◌≡◌, ◌∷◌, ℕ, ℤ, [], get_or, subst, arith}
use Rattle.std.specs.Prelude.{take}
use Rattle.std.proofs.lemmas.List.{take_more, take_all}
use Rattle.archive_update.specs.Laid.{Lays}
use Rattle.archive_update.proofs.LayLemmas.{alike_more, lays_more, no_items}
use Rattle.archive_update.proofs.laying.lay_all.Goals as goal

pub loop-bucket-preserved : goal.loop-bucket-preserved
loop-bucket-preserved c =
    let d : ℕ × ℤ = c.loop-bucket-item.result in
    let laid : Lays c.loop-bucket.patch c.lay_value.new.patch c.args.archive c.loop-bucket.later c.in_ok-later.later (get_or c.args.writes.now c.loop-bucket.bucket-index d ∷ []) =
    subst (λ (w : ℕ × ℤ). Lays c.loop-bucket.patch c.lay_value.new.patch c.args.archive c.loop-bucket.later c.in_ok-later.later (w ∷ [])) c.loop-bucket-item.is c.in_ok-later.ensures.lays in
    record {
      lays = rw (take_more c.args.writes.now c.loop-bucket.bucket-index d c.loop-bucket-test.true)
          (lays_more c.args.patch.now c.loop-bucket.patch c.lay_value.new.patch c.args.archive c.args.base c.loop-bucket.later c.in_ok-later.later (take c.loop-bucket.bucket-index c.args.writes.now) (get_or c.args.writes.now c.loop-bucket.bucket-index d ∷ [])
          c.loop-bucket.invariant.alike.layout c.loop-bucket.invariant.lays laid);
      filled = λ none. absurd (c.in_ok-later.ensures.filled none);
      alike = alike_more c.args.patch.now c.loop-bucket.patch c.lay_value.new.patch c.loop-bucket.invariant.alike c.in_ok-later.ensures.alike;
    }

pub returns-clause-lays : goal.returns-clause-lays
returns-clause-lays c =
    let whole : take c.loop-bucket.bucket-index c.args.writes.now ≡ c.args.writes.now = take_all c.loop-bucket.bucket-index c.args.writes.now c.loop-bucket-test.false in
    subst (λ writes. Lays c.args.patch.now c.loop-bucket.patch c.args.archive c.args.base c.loop-bucket.later writes) whole c.loop-bucket.invariant.lays

pub returns-clause-filled : goal.returns-clause-filled
returns-clause-filled c = λ none. no_items c.args.writes.now (let begun : c.loop-bucket.bucket-index ≡ 0 = c.loop-bucket.invariant.filled none in omega (arith, c.loop-bucket-test.false))
