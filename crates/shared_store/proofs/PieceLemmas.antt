-- The puts of a piece, one after the other.
use Rattle.std.proofs.Common.{◌≡◌, ◌∙◌, ℕ, zero, suc, ◌<◌, ◌≤◌, ◌+◌, ◌^◌, Bool, true, false, cond, List, [], ◌∷◌, ◌++◌, length, Option, Some, None, IfSome, refl, sym, ap, subst, arith, length-append, slice_get}
use Rattle.std.specs.Prelude.{count_by, nat_eq, slice_index_or}
use Rattle.std.proofs.lemmas.Bool.{false≢true}
use Rattle.std.proofs.lemmas.Cmp.{nat_eq_equiv}
use Rattle.std.proofs.lemmas.List.{length-map}
use Rattle.std.proofs.lemmas.List.Folds.{list_any_at}
use Rattle.std.proofs.lemmas.List.Sums.{sum_by-append, sum_by-cons}
use Rattle.carbon_history.specs.declared.entry.Entry.{Entry}
use Rattle.carbon_history.specs.declared.entry.PutEnd.{PutEnd}
use Rattle.carbon_history.specs.declared.entry.PutEnd.TheVariants as end
use Rattle.carbon_history.specs.Entries.{listed}
use Rattle.metric_path.specs.Class.{class_of}
use Rattle.metric_line.specs.declared.datum.Datum.{Datum}
use Rattle.point_cache.specs.declared.put.Put.{Put}
use Rattle.point_cache.specs.declared.put.Put.TheVariants as put
use Rattle.carbon_model.specs.State.{State}
use Rattle.carbon_model.specs.Replay.{IsLegal, replay}
use Rattle.shared_history.specs.Parts.{PassValue, own_entries}
use Rattle.shared_store.specs.declared.put_counts.PutCounts.{PutCounts}
use Rattle.shared_store.specs.Passes.{Enters, HasRoom, SameLooks}
use Rattle.shared_store.specs.Pieces.{CountsPut, FewCounts, HasRoomFor, PutsFirst, PutsSoFar, classes_in, counts_of, counts_with, is_among, put_by, puts_of}
use Rattle.shared_store.specs.Steps.{AfterPut, put_entry}
use Rattle.shared_store.specs.Tallies.{is_end}
use Rattle.shared_store.proofs.AskPassLemmas.{enters_both}

-- ---- lists

pub get_there : {X : Type 0} (xs : List X) (i : ℕ) (x : X) → i < length xs → slice_index_or xs i x ≡ x → slice_get xs i ≡ Some x
get_there [] i x less e = absurd (omega (arith, less))
get_there (y ∷ xs) zero x less e = ap Some e
get_there (y ∷ xs) (suc i) x less e = get_there xs i x (omega (arith, less)) e

pub stands_among : (points : List Datum) (classes : List ℕ) (i : ℕ) → classes ≡ classes_in points → i < length points → is_among (slice_index_or classes i 0) classes ≡ true
stands_among points classes i is less =
    let k : ℕ = slice_index_or classes i 0 in
    let many : length classes ≡ length points = ap (λ (l : List ℕ). length l) is ∙ length-map points (λ (datum : Datum). class_of datum.path) in
    list_any_at (nat_eq k) classes i 0 (subst (λ (n : ℕ). i < n) (sym many) less) (nat_eq_equiv.refl k)

none_behind : {X : Type 0} (xs : List X) → slice_get xs (length xs) ≡ None
none_behind [] = refl
none_behind (x ∷ xs) = none_behind xs

puts_more : (pass : ℕ) (points : List Datum) (ends : List PutEnd) (datum : Datum) (ended : PutEnd) → slice_get points (length ends) ≡ Some datum
    → puts_of pass points (ends ++ ended ∷ []) ≡ puts_of pass points ends ++ put_by pass datum ended ∷ []
puts_more pass [] ends datum ended there = absurd (cc there)
puts_more pass (first ∷ points) [] datum ended there = ap (λ (o : Option Datum). by o) there
  where
    by : Option Datum → List Entry
    by None = []
    by (Some d) = put_by pass d ended ∷ []
puts_more pass (first ∷ points) (before ∷ ends) datum ended there = ap (λ (l : List Entry). put_by pass first before ∷ l) (puts_more pass points ends datum ended there)

puts_few : (pass : ℕ) (points : List Datum) (ends : List PutEnd) → length (puts_of pass points ends) ≤ length ends
puts_few pass points [] = omega arith
puts_few pass [] (ended ∷ ends) = omega arith
puts_few pass (datum ∷ points) (ended ∷ ends) = omega (arith, puts_few pass points ends)

-- ---- counts

one_few : (b : Bool) (n most all : ℕ) → all ≡ cond b 1 0 + n → n ≤ most → all ≤ suc most
one_few true n most all is few = omega (arith, is, few)
one_few false n most all is few = omega (arith, is, few)

count_few : (p : PutEnd → Bool) (ends : List PutEnd) → count_by p ends ≤ length ends
count_few p [] = omega arith
count_few p (ended ∷ ends) = one_few (p ended) (count_by p ends) (length ends) (count_by p (ended ∷ ends)) (sum_by-cons (λ x. cond (p x) 1 0) ended ends) (count_few p ends)

count_more : (p : PutEnd → Bool) (ends : List PutEnd) (ended : PutEnd) → count_by p (ends ++ ended ∷ []) ≡ count_by p ends + cond (p ended) 1 0
count_more p ends ended = sum_by-append (λ x. cond (p x) 1 0) ends (ended ∷ []) ∙ omega arith

length_more : (ends : List PutEnd) (ended : PutEnd) → length (ends ++ ended ∷ []) ≡ length ends + 1
length_more ends ended = length-append ends (ended ∷ []) ∙ omega arith

none_more : (n m : ℕ) → m ≡ n + 0 → n ≡ m
none_more n m e = omega (arith, e)

counts_more : (ends : List PutEnd) (ended : PutEnd) → counts_with (counts_of ends) ended ≡ counts_of (ends ++ ended ∷ [])
counts_more ends end.Stored = λ i. record {
  done = sym (length_more ends end.Stored) i;
  stored = sym (count_more (is_end end.Stored) ends end.Stored) i;
  replaced = none_more (count_by (is_end end.Replaced) ends) (count_by (is_end end.Replaced) (ends ++ end.Stored ∷ [])) (count_more (is_end end.Replaced) ends end.Stored) i;
  full = none_more (count_by (is_end end.Full) ends) (count_by (is_end end.Full) (ends ++ end.Stored ∷ [])) (count_more (is_end end.Full) ends end.Stored) i;
}
counts_more ends end.Replaced = λ i. record {
  done = sym (length_more ends end.Replaced) i;
  stored = none_more (count_by (is_end end.Stored) ends) (count_by (is_end end.Stored) (ends ++ end.Replaced ∷ [])) (count_more (is_end end.Stored) ends end.Replaced) i;
  replaced = sym (count_more (is_end end.Replaced) ends end.Replaced) i;
  full = none_more (count_by (is_end end.Full) ends) (count_by (is_end end.Full) (ends ++ end.Replaced ∷ [])) (count_more (is_end end.Full) ends end.Replaced) i;
}
counts_more ends end.Full = λ i. record {
  done = sym (length_more ends end.Full) i;
  stored = none_more (count_by (is_end end.Stored) ends) (count_by (is_end end.Stored) (ends ++ end.Full ∷ [])) (count_more (is_end end.Stored) ends end.Full) i;
  replaced = none_more (count_by (is_end end.Replaced) ends) (count_by (is_end end.Replaced) (ends ++ end.Full ∷ [])) (count_more (is_end end.Replaced) ends end.Full) i;
  full = sym (count_more (is_end end.Full) ends end.Full) i;
}

module _ (start : State) (passes : ℕ) (points : List Datum) (old : PassValue) where
  few_of : (n all : ℕ) (room : length (own_entries old) + (all + 4) ≤ 2 ^ 48) → n < all → n < 2 ^ 48
  few_of n all room less = omega (arith, room, less)

  pub few_so_far : (count : ℕ) (counts : PutCounts) (mid : PassValue) → HasRoomFor points old → count < length points → PutsSoFar start passes points count counts old mid → FewCounts counts
  few_so_far count counts mid room less so_far = subst FewCounts (sym so_far.counted) (record {
    done = subst (λ (n : ℕ). n < 2 ^ 48) (sym so_far.many) (few_of count (length points) room less);
    stored = count_few (is_end end.Stored) so_far.ends;
    replaced = count_few (is_end end.Replaced) so_far.ends;
    full = count_few (is_end end.Full) so_far.ends;
  })

  room_of : (own own' made count all : ℕ) → own' ≡ own + made → made ≤ count → count ≤ all → own + (all + 4) ≤ 2 ^ 48 → own' + 4 ≤ 2 ^ 48
  room_of own own' made count all is few less room = omega (arith, is, few, less, room)

  pub room_so_far : (count : ℕ) (counts : PutCounts) (mid : PassValue) → HasRoomFor points old → count < length points → PutsSoFar start passes points count counts old mid → HasRoom mid
  room_so_far count counts mid room less so_far =
      let made : List Entry = puts_of old.number points so_far.ends in
      room_of (length (own_entries old)) (length (own_entries mid)) (length made) (length so_far.ends) (length points)
      (ap length so_far.enters.once ∙ length-append (own_entries old) made) (puts_few old.number points so_far.ends) (omega (arith, so_far.many, less)) room

  pub puts_begin : (mid : PassValue) (counts : PutCounts) → counts ≡ counts_of [] → Enters start passes [] old mid → PutsSoFar start passes points 0 counts old mid
  puts_begin mid counts counted enters = record { ends = []; many = refl; enters = enters; counted = counted }

  module _ (count : ℕ) (counts counts' : PutCounts) (datum : Datum) (mid new : PassValue) (so_far : PutsSoFar start passes points count counts old mid) (there : slice_get points count ≡ Some datum) where
    next_there : slice_get points (length so_far.ends) ≡ Some datum
    next_there = ap (slice_get points) so_far.many ∙ there

    put_one_more : (ended : PutEnd) → Enters start passes (put_by mid.number datum ended ∷ []) mid new → counts' ≡ counts_with counts ended
        → PutsSoFar start passes points (count + 1) counts' old new
    put_one_more ended enters counted = record {
      ends = so_far.ends ++ ended ∷ [];
      many = length_more so_far.ends ended ∙ ap (λ (n : ℕ). n + 1) so_far.many;
      enters = subst (λ (l : List Entry). Enters start passes l old new) (sym (puts_more old.number points so_far.ends datum ended next_there))
          (enters_both start passes (puts_of old.number points so_far.ends) (put_by old.number datum ended ∷ []) old mid new so_far.enters
          (subst (λ (n : ℕ). Enters start passes (put_by n datum ended ∷ []) mid new) so_far.enters.number enters));
      counted = counted ∙ (ap (λ (c : PutCounts). counts_with c ended) so_far.counted ∙ counts_more so_far.ends ended);
    }

    pub so_far_more : (ended : Put) → Enters start passes (listed (put_entry mid.number datum.path datum.time datum.value ended)) mid new
        → CountsPut ended true counts counts' → PutsSoFar start passes points (count + 1) counts' old new
    so_far_more put.Stored enters counted = put_one_more end.Stored enters counted.1
    so_far_more put.Replaced enters counted = put_one_more end.Replaced enters counted.1
    so_far_more put.Full enters counted = put_one_more end.Full enters counted.1
    so_far_more put.NoMemory enters counted = absurd (false≢true (sym counted.0))

    at_most : count < length points → length so_far.ends ≤ length points
    at_most less = omega (arith, so_far.many, less)

    append_none : (xs : List Entry) → xs ++ [] ≡ xs
    append_none [] = refl
    append_none (x ∷ xs) = ap (λ (l : List Entry). x ∷ l) (append_none xs)

    pub puts_short : (ended : Put) → Enters start passes (listed (put_entry mid.number datum.path datum.time datum.value ended)) mid new
        → AfterPut start datum.path datum.time datum.value ended new → CountsPut ended false counts counts' → count < length points
        → PutsFirst start passes points counts' old new
    puts_short put.Stored enters after counted less = absurd (false≢true counted.0)
    puts_short put.Replaced enters after counted less = absurd (false≢true counted.0)
    puts_short put.Full enters after counted less = absurd (false≢true counted.0)
    puts_short put.NoMemory enters after counted less = record {
      ends = so_far.ends;
      few = at_most less;
      enters = subst (λ (l : List Entry). Enters start passes l old new) (append_none (puts_of old.number points so_far.ends))
          (enters_both start passes (puts_of old.number points so_far.ends) [] old mid new so_far.enters enters);
      counted = counted.1 ∙ so_far.counted;
      memory = subst (λ (o : Option Datum). IfSome o (λ d. IsLegal (replay start new.seen) (put_by new.number d end.Stored))) (sym next_there) after;
    }

  pub puts_whole : (count : ℕ) (counts : PutCounts) (new : PassValue) → PutsSoFar start passes points count counts old new → count ≡ length points → PutsFirst start passes points counts old new
  puts_whole count counts new so_far all = record {
    ends = so_far.ends;
    few = omega (arith, so_far.many, all);
    enters = so_far.enters;
    counted = so_far.counted;
    memory = subst (λ (o : Option Datum). IfSome o (λ d. IsLegal (replay start new.seen) (put_by new.number d end.Stored)))
        (sym (ap (slice_get points) (so_far.many ∙ all) ∙ none_behind points)) tt;
  }

pub same_both : (old mid new : PassValue) → SameLooks old mid → SameLooks mid new → SameLooks old new
same_both old mid new p q = record { looks = q.looks ∙ p.looks; sights = sights_both old.sights mid.sights new.sights p.sights q.sights }
  where
    sights_both : (a b c : ℕ) → a ≤ b → b ≤ c → a ≤ c
    sights_both a b c p q = omega (arith, p, q)

pub same_itself : (pass : PassValue) → SameLooks pass pass
same_itself pass = record { looks = refl; sights = omega arith }
