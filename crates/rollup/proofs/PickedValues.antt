-- The order that picks a value gives the greater, and the lesser.
use Rattle.std.proofs.Common.{◌≡◌, ℤ, arith, int_cmp}
use Rattle.std.proofs.lemmas.Int.{ints}
use Rattle.std.specs.Int.{int_max, int_min}
use Rattle.std.specs.Ordering.{max_by_ordering, min_by_ordering}

pub greater_of : (p z : ℤ) → max_by_ordering (int_cmp p z) p z ≡ int_max p z
greater_of p z = grind (arith, ints)

pub lesser_of : (p z : ℤ) → min_by_ordering (int_cmp p z) p z ≡ int_min p z
lesser_of p z = grind (arith, ints)
