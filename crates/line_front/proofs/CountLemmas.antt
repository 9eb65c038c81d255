-- Puts that are counted together.
use Rattle.std.proofs.Common.{◌≡◌, ℕ, zero, suc, ◌+◌, ◌-◌, ◌^◌, ◌≤◌, List, [], ◌∷◌, true, false, Bool, cond, refl, sym, ◌∙◌, arith}
use Rattle.std.specs.Prelude.{count_by, min}
use Rattle.std.proofs.lemmas.Bool.{false≢true}
use Rattle.std.proofs.lemmas.List.Sums.{sum_by-cons}
use Rattle.carbon_history.specs.declared.entry.PutEnd.{PutEnd}
use Rattle.carbon_history.specs.declared.entry.PutEnd.TheVariants as end
use Rattle.shared_store.specs.Pieces.{counts_of}
use Rattle.shared_store.specs.Tallies.{is_end}
use Rattle.line_front.specs.Counts.{added, counted, counted_puts, raised}
use Rattle.line_front.specs.declared.counts.Counts.{Counts}

raised_few : (count : ℕ) → raised count ≤ 2 ^ 64 - 1
raised_few count = omega arith

one_more : (count n : ℕ) → min (raised count + n) (2 ^ 64 - 1) ≡ min (count + suc n) (2 ^ 64 - 1)
one_more count n = omega arith

-- a count that rises by so many at once rises by one so often
pub added_is : (count n : ℕ) → count ≤ 2 ^ 64 - 1 → min (count + n) (2 ^ 64 - 1) ≡ added count n
added_is count zero few = omega (arith, few)
added_is count (suc n) few = sym (one_more count n) ∙ added_is (raised count) n (raised_few count)

-- the counts after the puts that ended so, one after the other
abbrev pub counted_each : Counts → List PutEnd → Counts
counted_each c [] = c
counted_each c (ended ∷ ends) = counted_each (counted c ended) ends

one_and : (b : Bool) (n all : ℕ) → b ≡ true → all ≡ cond b 1 0 + n → all ≡ suc n
one_and true n all hit is = omega (arith, is)
one_and false n all hit is = absurd (false≢true hit)

none_and : (b : Bool) (n all : ℕ) → b ≡ false → all ≡ cond b 1 0 + n → all ≡ n
none_and true n all miss is = absurd (false≢true (sym miss))
none_and false n all miss is = omega (arith, is)

some_more : (p : PutEnd → Bool) (ended : PutEnd) (ends : List PutEnd) → p ended ≡ true → count_by p (ended ∷ ends) ≡ suc (count_by p ends)
some_more p ended ends hit = one_and (p ended) (count_by p ends) (count_by p (ended ∷ ends)) hit (sum_by-cons (λ x. cond (p x) 1 0) ended ends)

none_more : (p : PutEnd → Bool) (ended : PutEnd) (ends : List PutEnd) → p ended ≡ false → count_by p (ended ∷ ends) ≡ count_by p ends
none_more p ended ends miss = none_and (p ended) (count_by p ends) (count_by p (ended ∷ ends)) miss (sum_by-cons (λ x. cond (p x) 1 0) ended ends)

-- counts where the numbers of the puts are these
abbrev counts_by : Counts → ℕ → ℕ → ℕ → Counts
counts_by c stored replaced full = record c { stored = added c.stored stored; replaced = added c.replaced replaced; full = added c.full full }

counts_same : (c : Counts) (s s' r r' f f' : ℕ) → s ≡ s' → r ≡ r' → f ≡ f' → counts_by c s r f ≡ counts_by c s' r' f'
counts_same c s s' r r' f f' es er ef = λ i. counts_by c (es i) (er i) (ef i)

-- puts that are counted together are counted as if one by one
pub puts_each : (c : Counts) (ends : List PutEnd) → counted_puts c (counts_of ends) ≡ counted_each c ends
puts_each c [] = refl
puts_each c (end.Stored ∷ ends) =
    counts_same c _ _ _ _ _ _ (some_more (is_end end.Stored) end.Stored ends refl) (none_more (is_end end.Replaced) end.Stored ends refl) (none_more (is_end end.Full) end.Stored ends refl)
    ∙ puts_each (counted c end.Stored) ends
puts_each c (end.Replaced ∷ ends) =
    counts_same c _ _ _ _ _ _ (none_more (is_end end.Stored) end.Replaced ends refl) (some_more (is_end end.Replaced) end.Replaced ends refl) (none_more (is_end end.Full) end.Replaced ends refl)
    ∙ puts_each (counted c end.Replaced) ends
puts_each c (end.Full ∷ ends) =
    counts_same c _ _ _ _ _ _ (none_more (is_end end.Stored) end.Full ends refl) (none_more (is_end end.Replaced) end.Full ends refl) (some_more (is_end end.Full) end.Full ends refl)
    ∙ puts_each (counted c end.Full) ends
