-- Ranges that lie in a file, carried over the calls of a disk.
use Rattle.std.proofs.Common.{◌≡◌, ◌≢◌, ℕ, ◌+◌, ◌≤◌, List, length, Option, None, Some, IsSomeAnd, IfSome, arith, length-append, length-drop, length-take}
use Rattle.std.proofs.lemmas.List.{length-replicate}
use Rattle.std.specs.Prelude.{option_map}
use Rattle.outside_io.specs.Image.{Image, WhereKnown, IsWithinFile, ChangesOnly, Creates, Writes, Tears, IsTorn, put_over}

-- what follows from a fact on the images follows where they are told
pub known_weaker : (P Q : Image → Image → Type 0) → ((old new : Image) → P old new → Q old new) → (before after : Option Image)
    → WhereKnown before after P → WhereKnown before after Q
known_weaker P Q weaker None None known = tt
known_weaker P Q weaker None (Some new) known = absurd known
known_weaker P Q weaker (Some old) None known = absurd known
known_weaker P Q weaker (Some old) (Some new) known = weaker old new known

-- a range of a file that was just made
pub within_created : (before after : Option Image) (name : List ℕ) (len at count : ℕ)
    → WhereKnown before after (λ old new. Creates old new name len) → at + count ≤ len → IsWithinFile after name at count
within_created None None name len at count made fits = tt
within_created None (Some new) name len at count made fits = absurd made
within_created (Some old) None name len at count made fits = absurd made
within_created (Some old) (Some new) name len at count made fits = rw made.0 (omega (arith, length-replicate {A = ℕ} len 0))

-- a range of a file beside the one that changed
pub within_other : (before after : Option Image) (name other : List ℕ) (at count : ℕ)
    → WhereKnown before after (λ old new. ChangesOnly old new name) → other ≢ name → IsWithinFile before other at count → IsWithinFile after other at count
within_other None None name other at count only differs within = tt
within_other None (Some new) name other at count only differs within = absurd only
within_other (Some old) None name other at count only differs within = absurd only
within_other (Some old) (Some new) name other at count only differs within = rw (only other differs) within

-- a piece that is put over bytes of a file leaves its length
pub length-put_over : (file piece : List ℕ) (at : ℕ) → at + length piece ≤ length file → length (put_over file at piece) ≡ length file
length-put_over file piece at fits =
    simp (length-append, length-take, length-drop) (omega arith)

put_over_within : (file now : Option (List ℕ)) (from at count : ℕ) (piece : List ℕ) → now ≡ option_map (λ bytes. put_over bytes from piece) file
    → IsSomeAnd file (λ bytes. from + length piece ≤ length bytes) → IsSomeAnd file (λ bytes. at + count ≤ length bytes)
    → IsSomeAnd now (λ bytes. at + count ≤ length bytes)
put_over_within None now from at count piece is place within = absurd within
put_over_within (Some bytes) now from at count piece is place within = rw is (rw (length-put_over bytes piece from place) within)

-- a range of a file that was written
pub within_written : (before after : Option Image) (name : List ℕ) (from at count : ℕ) (piece : List ℕ)
    → WhereKnown before after (λ old new. Writes old new name from piece) → IsWithinFile before name from (length piece)
    → IsWithinFile before name at count → IsWithinFile after name at count
within_written None None name from at count piece written place within = tt
within_written None (Some new) name from at count piece written place within = absurd written
within_written (Some old) None name from at count piece written place within = absurd written
within_written (Some old) (Some new) name from at count piece written place within =
    put_over_within (old name) (new name) from at count piece written.0 place within

torn_within : (file now : Option (List ℕ)) (from width at count : ℕ) → IfSome file (λ bytes. IsSomeAnd now (λ torn. IsTorn bytes torn from width))
    → IsSomeAnd file (λ bytes. at + count ≤ length bytes) → IsSomeAnd now (λ bytes. at + count ≤ length bytes)
torn_within None now from width at count torn within = absurd within
torn_within (Some bytes) None from width at count torn within = absurd torn
torn_within (Some bytes) (Some left) from width at count torn within = rw torn.0 within

-- a range of a file whose write failed
pub within_torn : (before after : Option Image) (name : List ℕ) (from width at count : ℕ)
    → WhereKnown before after (λ old new. Tears old new name from width) → IsWithinFile before name at count → IsWithinFile after name at count
within_torn None None name from width at count torn within = tt
within_torn None (Some new) name from width at count torn within = absurd torn
within_torn (Some old) None name from width at count torn within = absurd torn
within_torn (Some old) (Some new) name from width at count torn within = torn_within (old name) (new name) from width at count torn.0 within
