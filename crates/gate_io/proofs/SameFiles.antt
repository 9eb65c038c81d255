-- A write that changed nothing.
use Rattle.std.proofs.Common.{List, ℕ, Option, Some, None, refl}
use Rattle.std.specs.Prelude.{IsSomeAnd, IfSome}
use Rattle.outside_io.specs.Image.{Image, IsTorn, Tears, WhereKnown}

-- a file is torn nowhere
same_torn : (file : Option (List ℕ)) (at count : ℕ) → IfSome file (λ before. IsSomeAnd file (λ torn. IsTorn before torn at count))
same_torn None at count = _
same_torn (Some file) at count = (refl, refl, refl)

pub same_tears : (known : Option Image) (name : List ℕ) (at count : ℕ) → WhereKnown known known (λ before after. Tears before after name at count)
same_tears None name at count = _
same_tears (Some image) name at count = (same_torn (image name) at count, λ other else. refl)
