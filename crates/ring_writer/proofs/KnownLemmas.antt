-- Facts on images that may not be told, carried over a call of a disk.
use Rattle.std.proofs.Common.{Option, None, Some, IfSome}
use Rattle.outside_io.specs.Image.{Image, WhereKnown}

-- what follows from facts on a call
pub known_more : (S : Image → Type 0) (P Q : Image → Image → Type 0) → ((x y : Image) → S x → P x y → Q x y) → (a b : Option Image) → IfSome a S → WhereKnown a b P → WhereKnown a b Q
known_more S P Q more None None s p = tt
known_more S P Q more None (Some y) s p = absurd p
known_more S P Q more (Some x) None s p = absurd p
known_more S P Q more (Some x) (Some y) s p = more x y s p

-- what follows of the second image from a fact on one call
pub known_then : (T : Image → Type 0) (P : Image → Image → Type 0) → ((x y : Image) → P x y → T y) → (a b : Option Image) → WhereKnown a b P → IfSome b T
known_then T P more None None p = tt
known_then T P more None (Some y) p = absurd p
known_then T P more (Some x) None p = absurd p
known_then T P more (Some x) (Some y) p = more x y p
