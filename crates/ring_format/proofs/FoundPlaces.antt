-- The first number of a range that passes a test.
use Rattle.std.proofs.Common.{◌≡◌, ℕ, zero, suc, ◌+◌, ◌<◌, ◌≤◌, Bool, true, false, cond, Option, Some, None, inl, inr, refl, ap, ◌∙◌, arith}
use Rattle.std.specs.List.{find, range_with_len}
use Rattle.std.proofs.lemmas.Bool.{cases_lt}

pub find_first : (test : ℕ → Bool) (a n i : ℕ) → a ≤ i → i < a + n → ((k : ℕ) → a ≤ k → k < i → test k ≡ false) → test i ≡ true → find test (range_with_len a n) ≡ Some i
find_first test a zero i from below before here = absurd (omega arith)
find_first test a (suc n) i from below before here =
    elim (cases_lt a i) [
      | inl lt ↦ rw (before a (omega arith) lt) (find_first test (a + 1) n i (omega arith) (omega arith) (λ k l u. before k (omega arith) u) here)
      | inr le ↦ let same : i ≡ a = omega arith in let passes : test a ≡ true = ap test (omega arith) ∙ here in rw (same, passes) refl
    ]

pub find_nowhere : (test : ℕ → Bool) (a n : ℕ) → ((k : ℕ) → a ≤ k → k < a + n → test k ≡ false) → find test (range_with_len a n) ≡ None
find_nowhere test a zero fails = refl
find_nowhere test a (suc n) fails = rw (fails a (omega arith) (omega arith)) (find_nowhere test (a + 1) n (λ k l u. fails k (omega arith) (omega arith)))

first_fails : (b : Bool) (i : ℕ) (o : Option ℕ) → cond b (Some i) o ≡ None → (b ≡ false) × (o ≡ None)
first_fails true i o e = absurd cc
first_fails false i o e = (refl, e)

pub fails_everywhere : (test : ℕ → Bool) (a n : ℕ) → find test (range_with_len a n) ≡ None → (k : ℕ) → a ≤ k → k < a + n → test k ≡ false
fails_everywhere test a zero e k from below = absurd (omega arith)
fails_everywhere test a (suc n) e k from below =
    let parts = first_fails (test a) a (find test (range_with_len (a + 1) n)) e in
    elim (cases_lt a k) [
      | inl lt ↦ fails_everywhere test (a + 1) n parts.1 k (omega arith) (omega arith)
      | inr le ↦ ap test (let same : k ≡ a = omega arith in same) ∙ parts.0
    ]
