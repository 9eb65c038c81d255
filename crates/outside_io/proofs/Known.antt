-- Bytes that are told, carried over several calls.
use Rattle.std.proofs.Common.{◌≡◌, ℕ, ◌+◌, ◌-◌, List, [], ◌++◌, None, Some, IfSome, length, take, drop, refl, sym, ap, ap₂, ◌∙◌, append_assoc, append-nil, take-append-drop, arith}
use Rattle.std.proofs.lemmas.List.{take-take, drop-take, take_rest}
use Rattle.std.specs.Prelude.{Option}
use Rattle.std.specs.Io.KnownBytes.{Appends, Consumes, Keeps, IsAtEnd}

-- nothing was written
pub Appends-none : (a : Option (List ℕ)) → Appends a a []
Appends-none None = tt
Appends-none (Some xs) = sym (append-nil xs)

-- two texts, one after the other
pub Appends-more : (a b c : Option (List ℕ)) (first second : List ℕ) → Appends a b first → Appends b c second → Appends a c (first ++ second)
Appends-more None b c first second p q = tt
Appends-more (Some xs) None c first second p q = absurd p
Appends-more (Some xs) (Some ys) None first second p q = absurd q
Appends-more (Some xs) (Some ys) (Some zs) first second p q = q ∙ ap (λ bytes. bytes ++ second) p ∙ append_assoc xs first second

-- a text, and then nothing
pub Appends-kept : (a b c : Option (List ℕ)) (text : List ℕ) → Appends a b text → Keeps b c → Appends a c text
Appends-kept None b c text p q = tt
Appends-kept (Some xs) None c text p q = absurd p
Appends-kept (Some xs) (Some ys) None text p q = absurd q
Appends-kept (Some xs) (Some ys) (Some zs) text p q = q ∙ p

-- nothing was read
pub Consumes-none : (a : Option (List ℕ)) → Consumes a a []
Consumes-none None = tt
Consumes-none (Some xs) = refl

-- two pieces, one after the other
pub Consumes-more : (a b c : Option (List ℕ)) (first second : List ℕ) → Consumes a b first → Consumes b c second → Consumes a c (first ++ second)
Consumes-more None b c first second p q = tt
Consumes-more (Some xs) None c first second p q = absurd p
Consumes-more (Some xs) (Some ys) None first second p q = absurd q
Consumes-more (Some xs) (Some ys) (Some zs) first second p q = p ∙ ap (λ bytes. first ++ bytes) q ∙ sym (append_assoc first second zs)

-- a piece, and then nothing
pub Consumes-kept : (a b c : Option (List ℕ)) (taken : List ℕ) → Consumes a b taken → Keeps b c → Consumes a c taken
Consumes-kept None b c taken p q = tt
Consumes-kept (Some xs) None c taken p q = absurd p
Consumes-kept (Some xs) (Some ys) None taken p q = absurd q
Consumes-kept (Some xs) (Some ys) (Some zs) taken p q = p ∙ ap (λ bytes. taken ++ bytes) (sym q)

-- where nothing is left, what was taken is all that there was
pub Consumes-all : (a b : Option (List ℕ)) (taken : List ℕ) → Consumes a b taken → IsAtEnd b → IfSome a (λ bytes. taken ≡ bytes)
Consumes-all None b taken p end = tt
Consumes-all (Some xs) None taken p end = absurd p
Consumes-all (Some xs) (Some ys) taken p end = sym (p ∙ ap (λ bytes. taken ++ bytes) end ∙ append-nil taken)

pub take_further : (xs : List ℕ) (at count : ℕ) → take (at + count) xs ≡ take at xs ++ take count (drop at xs)
take_further xs at count =
    sym (take-append-drop at (take (at + count) xs))
    ∙ ap₂ (λ front rest. front ++ rest) (take-take at (at + count) xs (omega arith)) (drop-take at count xs)

-- the front of a text was written, and then the next bytes of it
pub Appends-further : (a b c : Option (List ℕ)) (text : List ℕ) (at count : ℕ) → Appends a b (take at text)
    → Appends b c (take count (take (length text - at) (drop at text))) → Appends a c (take (at + count) text)
Appends-further a b c text at count p q =
    rw take_further (Appends-more a b c _ _ p (rw take_rest at q))
