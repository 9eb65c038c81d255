-- What a pace permits.
use Rattle.std.proofs.Common.{◌≡◌, ◌≢◌, ◌∙◌, inl, inr, ℕ, Bool, true, false, Option, None, Some, refl, sym}
use Rattle.carbon_serve.specs.Paces.{IsFree, IsPermitted, Permits}
use Rattle.carbon_serve.specs.Rates.{may_more}
use Rattle.carbon_serve.specs.declared.pace.Pacer.{Pacer}
use Rattle.carbon_serve.specs.declared.pace.Permit.{Permit}
use Rattle.carbon_serve.specs.declared.pace.Permit.TheVariants.{Drain, Create}

unbounded : (most done : ℕ) → most ≡ 0 → may_more most done ≡ true
unbounded most done none = rw none refl

apart : true ≢ false
apart same = absurd cc

-- without a bound a drain is permitted
pub free_drains : (pacer : Pacer) (permit : Option Permit) → IsFree pacer → Permits pacer false permit → permit ≡ Some Drain
free_drains pacer None free permits = elim permits [
  | inl full ↦ absurd (apart (sym (unbounded pacer.pace.drains pacer.drains free.drains) ∙ full))
  | inr many ↦ absurd (apart (sym many.0))
]
free_drains pacer (Some Drain) free permits = refl
free_drains pacer (Some Create) free permits = absurd (apart (sym permits.1.0))

-- what is permitted the second has room for
pub has_permit : (pacer : Pacer) (creates : Bool) (permit : Permit) → Permits pacer creates (Some permit) → IsPermitted pacer permit
has_permit pacer creates Drain permits = permits.0
has_permit pacer creates Create permits = (permits.0, permits.1.1)
