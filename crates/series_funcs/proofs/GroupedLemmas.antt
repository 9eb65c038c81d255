-- Series in groups by a text.
use Rattle.std.proofs.Common.{◌≡◌, ℕ, ◌-◌, ◌<◌, ◌≤◌, Bool, true, false, not, ◌||◌, cond, List, [], ◌∷◌, ◌++◌, All, length, get_or, map, filter, None, Some, is_some, refl, sym, ap, subst, ◌∙◌, arith}
use Rattle.std.specs.List.{AllByRecursion, AllZip, IsDistinct, list_any}
use Rattle.std.specs.Map.{keys_of, lookup, set_value}
use Rattle.std.specs.Str.{bytes_eq}
use Rattle.std.proofs.lemmas.Cmp.{nat_list_eq_equiv}
use Rattle.std.proofs.lemmas.List.{append-nil, map-append}
use Rattle.std.proofs.lemmas.List.Elements.{All-cons, All-filter, All-map, All-nil, All-tail, All-head, All-weaker, filter-append}
use Rattle.std.proofs.lemmas.Map.Keys.{IsDistinct-head, IsDistinct-tail}
use Rattle.std.proofs.lemmas.Map.Made.{is_some-lookup}
use Rattle.std.proofs.lemmas.Slice.Eq.{bytes_eq-Decides}
use Rattle.series_set.specs.Series.{SeriesValue, end_of, latest_end, widest_step}
use Rattle.series_funcs.specs.Combined.{AreCombinable, IsSoonAfter}
use Rattle.series_funcs.specs.declared.kinds.Regroup.{Regroup}
use Rattle.series_funcs.specs.Regrouped.{Groups, combine_of, combined_groups, first_seen, group_text, groups_by, regroup, with_text}

same : (a b : List ℕ) → bytes_eq a b ≡ true → a ≡ b
same a b is = (bytes_eq-Decides a b).0 is

own : (a : List ℕ) → bytes_eq a a ≡ true
own a = (bytes_eq-Decides a a).1 refl

flipped : (a b : List ℕ) → bytes_eq a b ≡ bytes_eq b a
flipped a b = nat_list_eq_equiv.symm a b

-- ---- texts in order of first appearance

abbrev has : List ℕ → List (List ℕ) → Bool
has q texts = list_any (bytes_eq q) texts

abbrev others : List ℕ → List (List ℕ) → List (List ℕ)
others k texts = filter (λ other. not (bytes_eq k other)) texts

has_others : (q k : List ℕ) (texts : List (List ℕ)) → bytes_eq q k ≡ false → has q (others k texts) ≡ has q texts
has_others q k [] other = refl
has_others q k (y ∷ ys) other = by (bytes_eq k y) refl (has_others q k ys other)
  where
    by : (b : Bool) → bytes_eq k y ≡ b → has q (others k ys) ≡ has q ys → has q (cond (not b) (y ∷ others k ys) (others k ys)) ≡ (bytes_eq q y || has q ys)
    by true e more = let no_match : bytes_eq q y ≡ false = ap (bytes_eq q) (sym (same k y e)) ∙ other in rw no_match more
    by false e more = ap (λ (r : Bool). bytes_eq q y || r) more

has_seen : (q : List ℕ) (texts : List (List ℕ)) → has q (first_seen texts) ≡ has q texts
has_seen q [] = refl
has_seen q (k ∷ ks) = by (bytes_eq q k) refl (has_seen q ks)
  where
    by : (b : Bool) → bytes_eq q k ≡ b → has q (first_seen ks) ≡ has q ks → (b || has q (others k (first_seen ks))) ≡ (b || has q ks)
    by true e more = refl
    by false e more = has_others q k (first_seen ks) e ∙ more

-- one text more
seen_more : (q : List ℕ) (texts : List (List ℕ)) → first_seen (texts ++ q ∷ []) ≡ first_seen texts ++ cond (has q texts) [] (q ∷ [])
seen_more q [] = refl
seen_more q (k ∷ ks) =
    ap (λ (l : List (List ℕ)). k ∷ others k l) (seen_more q ks)
    ∙ ap (λ (l : List (List ℕ)). k ∷ l) (filter-append (λ other. not (bytes_eq k other)) (first_seen ks) (cond (has q ks) [] (q ∷ [])))
    ∙ ap (λ (l : List (List ℕ)). k ∷ (others k (first_seen ks) ++ l)) (by (has q ks) (bytes_eq q k) (flipped k q))
  where
    by : (h b : Bool) → bytes_eq k q ≡ b → others k (cond h [] (q ∷ [])) ≡ cond (b || h) [] (q ∷ [])
    by true true e = refl
    by true false e = refl
    by false true e = rw e refl
    by false false e = rw e refl

-- ---- groups

abbrev pairs : (List ℕ → List SeriesValue) → List (List ℕ) → Groups
pairs h texts = map (λ text. (text, h text)) texts

keys_of_pairs : (h : List ℕ → List SeriesValue) (texts : List (List ℕ)) → keys_of (pairs h texts) ≡ texts
keys_of_pairs h [] = refl
keys_of_pairs h (k ∷ ks) = ap (λ (l : List (List ℕ)). k ∷ l) (keys_of_pairs h ks)

with_more : (of : SeriesValue → List ℕ) (set : List SeriesValue) (s : SeriesValue) (text : List ℕ) (is : Bool) → bytes_eq text (of s) ≡ is
    → with_text of (set ++ s ∷ []) text ≡ with_text of set text ++ cond is (s ∷ []) []
with_more of set s text is e =
    filter-append (λ s. bytes_eq text (of s)) set (s ∷ []) ∙ ap (λ (b : Bool). with_text of set text ++ cond b (s ∷ []) []) e

with_none : (of : SeriesValue → List ℕ) (set : List SeriesValue) (q : List ℕ) → has q (map of set) ≡ false → with_text of set q ≡ []
with_none of [] q none = refl
with_none of (s ∷ set) q none = by (bytes_eq q (of s)) none (with_none of set q)
  where
    by : (b : Bool) → (b || has q (map of set)) ≡ false → (has q (map of set) ≡ false → with_text of set q ≡ []) → cond b (s ∷ with_text of set q) (with_text of set q) ≡ []
    by true none more = cc
    by false none more = more none

-- the groups of other texts stay
pairs_stay : (of : SeriesValue → List ℕ) (set : List SeriesValue) (s : SeriesValue) (texts : List (List ℕ)) → has (of s) texts ≡ false → pairs (with_text of (set ++ s ∷ [])) texts ≡ pairs (with_text of set) texts
pairs_stay of set s [] none = refl
pairs_stay of set s (k ∷ ks) none = by (bytes_eq (of s) k) refl none (pairs_stay of set s ks)
  where
    by : (b : Bool) → bytes_eq (of s) k ≡ b → (b || has (of s) ks) ≡ false → (has (of s) ks ≡ false → pairs (with_text of (set ++ s ∷ [])) ks ≡ pairs (with_text of set) ks)
        → pairs (with_text of (set ++ s ∷ [])) (k ∷ ks) ≡ pairs (with_text of set) (k ∷ ks)
    by true e none more = cc
    by false e none more =
        let here : with_text of (set ++ s ∷ []) k ≡ with_text of set k = with_more of set s k false (flipped k (of s) ∙ e) ∙ append-nil (with_text of set k) in
        rw (here, more none) refl

-- the group of a text that is there grows
pairs_grow : (of : SeriesValue → List ℕ) (set : List SeriesValue) (s : SeriesValue) (texts : List (List ℕ)) → IsDistinct bytes_eq texts → has (of s) texts ≡ true
    → set_value (bytes_eq (of s)) (pairs (with_text of set) texts) (with_text of set (of s) ++ s ∷ []) ≡ pairs (with_text of (set ++ s ∷ [])) texts
pairs_grow of set s [] once there = cc
pairs_grow of set s (k ∷ ks) once there = by (bytes_eq (of s) k) refl there (pairs_grow of set s ks (IsDistinct-tail bytes_eq k ks once))
  where
    none_again : (ys : List (List ℕ)) → AllByRecursion (λ y. bytes_eq k y ≡ false) ys → has k ys ≡ false
    none_again [] apart = refl
    none_again (y ∷ ys) apart = rw apart.0 (none_again ys apart.1)

    by : (b : Bool) → bytes_eq (of s) k ≡ b → (b || has (of s) ks) ≡ true
        → (has (of s) ks ≡ true → set_value (bytes_eq (of s)) (pairs (with_text of set) ks) (with_text of set (of s) ++ s ∷ []) ≡ pairs (with_text of (set ++ s ∷ [])) ks)
        → cond b ((k, with_text of set (of s) ++ s ∷ []) ∷ pairs (with_text of set) ks) ((k, with_text of set k) ∷ set_value (bytes_eq (of s)) (pairs (with_text of set) ks) (with_text of set (of s) ++ s ∷ []))
        ≡ pairs (with_text of (set ++ s ∷ [])) (k ∷ ks)
    by true e there more =
        let is : of s ≡ k = same (of s) k e in
        let none : has (of s) ks ≡ false = ap (λ (q : List ℕ). has q ks) is ∙ none_again ks (IsDistinct-head bytes_eq k ks once) in
        let here : with_text of (set ++ s ∷ []) k ≡ with_text of set (of s) ++ s ∷ [] =
        with_more of set s k true (flipped k (of s) ∙ e) ∙ ap (λ (q : List ℕ). with_text of set q ++ s ∷ []) (sym is) in
        rw (here, pairs_stay of set s ks none) refl
    by false e there more =
        let here : with_text of (set ++ s ∷ []) k ≡ with_text of set k = with_more of set s k false (flipped k (of s) ∙ e) ∙ append-nil (with_text of set k) in
        rw (here, more there) refl

lookup_pairs : (h : List ℕ → List SeriesValue) (q : List ℕ) (texts : List (List ℕ)) → has q texts ≡ true → lookup (bytes_eq q) (pairs h texts) ≡ Some (h q)
lookup_pairs h q [] there = cc
lookup_pairs h q (k ∷ ks) there = by (bytes_eq q k) refl there (lookup_pairs h q ks)
  where
    by : (b : Bool) → bytes_eq q k ≡ b → (b || has q ks) ≡ true → (has q ks ≡ true → lookup (bytes_eq q) (pairs h ks) ≡ Some (h q)) → cond b (Some (h k)) (lookup (bytes_eq q) (pairs h ks)) ≡ Some (h q)
    by true e there more = ap (λ (k : List ℕ). Some (h k)) (sym (same q k e))
    by false e there more = more there

has_group : (of : SeriesValue → List ℕ) (set : List SeriesValue) (q : List ℕ) (there : Bool) → is_some (lookup (bytes_eq q) (pairs (with_text of set) (first_seen (map of set)))) ≡ there → has q (map of set) ≡ there
has_group of set q there is =
    let texts = first_seen (map of set) in
    sym (has_seen q (map of set)) ∙ ap (has q) (sym (keys_of_pairs (with_text of set) texts)) ∙ sym (is_some-lookup (bytes_eq q) (pairs (with_text of set) texts)) ∙ is

texts_more : (of : SeriesValue → List ℕ) (set : List SeriesValue) (s : SeriesValue) (there : Bool) → has (of s) (map of set) ≡ there → first_seen (map of (set ++ s ∷ [])) ≡ first_seen (map of set) ++ cond there [] (of s ∷ [])
texts_more of set s there is =
    ap first_seen (map-append of set (s ∷ [])) ∙ seen_more (of s) (map of set) ∙ ap (λ (b : Bool). first_seen (map of set) ++ cond b [] (of s ∷ [])) is

pub groups_none : (of : SeriesValue → List ℕ) → groups_by of [] ≡ []
unfolding groups_by
groups_none of = refl

-- one series more, of a group that is there
pub group_grows : (of : SeriesValue → List ℕ) (set : List SeriesValue) (s : SeriesValue) (group : List SeriesValue) → IsDistinct bytes_eq (keys_of (groups_by of set)) → lookup (bytes_eq (of s)) (groups_by of set) ≡ Some group
    → set_value (bytes_eq (of s)) (groups_by of set) (group ++ s ∷ []) ≡ groups_by of (set ++ s ∷ [])
unfolding groups_by
group_grows of set s group once found =
    let texts = first_seen (map of set) in
    let h = with_text of set in
    let there : has (of s) (map of set) ≡ true = has_group of set (of s) true (ap is_some found) in
    let known : has (of s) texts ≡ true = has_seen (of s) (map of set) ∙ there in
    let is : Some group ≡ Some (h (of s)) = sym found ∙ lookup_pairs h (of s) texts known in
    let group_is : group ≡ h (of s) = cc in
    ap (λ (g : List SeriesValue). set_value (bytes_eq (of s)) (pairs h texts) (g ++ s ∷ [])) group_is
    ∙ pairs_grow of set s texts (subst (IsDistinct bytes_eq) (keys_of_pairs h texts) once) known
    ∙ ap (pairs (with_text of (set ++ s ∷ []))) (sym (texts_more of set s true there ∙ append-nil texts))

-- and the first of a group
pub group_begins : (of : SeriesValue → List ℕ) (set : List SeriesValue) (s : SeriesValue) → lookup (bytes_eq (of s)) (groups_by of set) ≡ None
    → groups_by of set ++ (of s, s ∷ []) ∷ [] ≡ groups_by of (set ++ s ∷ [])
unfolding groups_by
group_begins of set s none =
    let texts = first_seen (map of set) in
    let h = with_text of (set ++ s ∷ []) in
    let absent : has (of s) (map of set) ≡ false = has_group of set (of s) false (ap is_some none) in
    let stay = pairs_stay of set s texts (has_seen (of s) (map of set) ∙ absent) in
    let first : h (of s) ≡ s ∷ [] = with_more of set s (of s) true (own (of s)) ∙ ap (λ (l : List SeriesValue). l ++ s ∷ []) (with_none of set (of s) absent) in
    ap (λ (l : Groups). l ++ (of s, s ∷ []) ∷ []) (sym stay)
    ∙ ap (λ (g : List SeriesValue). pairs h texts ++ (of s, g) ∷ []) (sym first)
    ∙ sym (map-append (λ text. (text, h text)) texts (of s ∷ []))
    ∙ ap (pairs h) (sym (texts_more of set s false absent))

-- the same, by the text that was looked for
pub grown : (of : SeriesValue → List ℕ) (set : List SeriesValue) (s : SeriesValue) (q : List ℕ) (old : Groups) (group : List SeriesValue) → IsDistinct bytes_eq (keys_of old) → lookup (bytes_eq q) old ≡ Some group → of s ≡ q
    → old ≡ groups_by of set → set_value (bytes_eq q) old (group ++ s ∷ []) ≡ groups_by of (set ++ s ∷ [])
grown of set s q old group once found is so_far =
    ap (λ (o : Groups). set_value (bytes_eq q) o (group ++ s ∷ [])) so_far
    ∙ ap (λ (k : List ℕ). set_value (bytes_eq k) (groups_by of set) (group ++ s ∷ [])) (sym is)
    ∙ group_grows of set s group (subst (λ (o : Groups). IsDistinct bytes_eq (keys_of o)) so_far once)
    (ap (λ (k : List ℕ). lookup (bytes_eq k) (groups_by of set)) is ∙ ap (lookup (bytes_eq q)) (sym so_far) ∙ found)

pub begun : (of : SeriesValue → List ℕ) (set : List SeriesValue) (s : SeriesValue) (q : List ℕ) (old : Groups) → lookup (bytes_eq q) old ≡ None → of s ≡ q → old ≡ groups_by of set
    → old ++ (q, s ∷ []) ∷ [] ≡ groups_by of (set ++ s ∷ [])
begun of set s q old none is so_far =
    ap (λ (o : Groups). o ++ (q, s ∷ []) ∷ []) so_far
    ∙ ap (λ (k : List ℕ). groups_by of set ++ (k, s ∷ []) ∷ []) (sym is)
    ∙ group_begins of set s (ap (λ (k : List ℕ). lookup (bytes_eq k) (groups_by of set)) is ∙ ap (lookup (bytes_eq q)) (sym so_far) ∙ none)

-- ---- what groups are like

texts_some : (of : SeriesValue → List ℕ) (set : List SeriesValue) → All (λ text. 0 < length (with_text of set text)) (first_seen (map of set))
texts_some of [] = All-nil (λ text. 0 < length (with_text of [] text))
texts_some of (s ∷ set) =
    let seen = first_seen (map of set) in
    All-cons (λ text. 0 < length (with_text of (s ∷ set) text)) (of s) (others (of s) seen) here
    (All-filter (λ other. not (bytes_eq (of s) other)) (λ text. 0 < length (with_text of (s ∷ set) text)) seen
    (All-weaker (λ text. 0 < length (with_text of set text)) (λ text. 0 < length (with_text of (s ∷ set) text)) longer seen (texts_some of set)))
  where
    here : 0 < length (with_text of (s ∷ set) (of s))
    here = rw (own (of s)) (omega arith)

    by : (b : Bool) (group : List SeriesValue) → 0 < length group → 0 < length (cond b (s ∷ group) group)
    by true group some = omega arith
    by false group some = some

    longer : (text : List ℕ) → 0 < length (with_text of set text) → 0 < length (with_text of (s ∷ set) text)
    longer text some = by (bytes_eq text (of s)) (with_text of set text) some

pub groups_some : (of : SeriesValue → List ℕ) (set : List SeriesValue) → All (λ group. 0 < length group.1) (groups_by of set)
unfolding groups_by
groups_some of set = All-map (λ (group : List ℕ × List SeriesValue). 0 < length group.1) (λ text. (text, with_text of set text)) (first_seen (map of set)) (texts_some of set)

no_more : (p : SeriesValue → Bool) (set : List SeriesValue) → length (filter p set) ≤ length set
no_more p [] = omega arith
no_more p (s ∷ set) = by (p s) (no_more p set)
  where
    by : (b : Bool) → length (filter p set) ≤ length set → length (cond b (s ∷ filter p set) (filter p set)) ≤ length (s ∷ set)
    by true fewer = omega (arith, fewer)
    by false fewer = omega (arith, fewer)

pub groups_combinable : (of : SeriesValue → List ℕ) (set : List SeriesValue) → AreCombinable set → All (λ group. AreCombinable group.1) (groups_by of set)
unfolding groups_by
groups_combinable of set may = All-map (λ (group : List ℕ × List SeriesValue). AreCombinable group.1) (λ text. (text, with_text of set text)) (first_seen (map of set)) (λ k d within.
    let p = λ (s : SeriesValue). bytes_eq (get_or (first_seen (map of set)) k d) (of s) in
    record { few = omega (arith, no_more p set, may.few); short = All-filter p (λ s. s.step ≤ widest_step) set may.short; early = All-filter p (λ s. end_of s ≤ latest_end - widest_step) set may.early })

-- whatever all series of the one end by, those of the other do
abbrev EndsWith : List SeriesValue → List SeriesValue → Type 0
EndsWith set part = (by : ℕ) → All (λ s. end_of s ≤ by) set → All (λ s. end_of s ≤ by) part

soon_after_all : (set : List SeriesValue) (groups : Groups) (together : List SeriesValue) → AllZip (λ group s. IsSoonAfter group.1 s) groups together → All (λ group. EndsWith set group.1) groups → All (IsSoonAfter set) together
soon_after_all set [] [] zip parts = All-nil (IsSoonAfter set)
soon_after_all set [] (s ∷ together) zip parts = absurd zip
soon_after_all set (g ∷ groups) [] zip parts = absurd zip
soon_after_all set (g ∷ groups) (s ∷ together) zip parts =
    let part = All-head (λ (group : List ℕ × List SeriesValue). EndsWith set group.1) g groups parts in
    All-cons (IsSoonAfter set) s together (record { short = zip.0.short; soon = λ by all. zip.0.soon by (part by all) })
    (soon_after_all set groups together zip.1 (All-tail (λ (group : List ℕ × List SeriesValue). EndsWith set group.1) g groups parts))

pub groups_soon : (of : SeriesValue → List ℕ) (set together : List SeriesValue) → AllZip (λ group s. IsSoonAfter group.1 s) (groups_by of set) together → All (IsSoonAfter set) together
unfolding groups_by
groups_soon of set together zip =
    soon_after_all set _ together zip (All-map (λ (group : List ℕ × List SeriesValue). EndsWith set group.1) (λ text. (text, with_text of set text)) (first_seen (map of set))
    (λ k d within by all. All-filter (λ s. bytes_eq (get_or (first_seen (map of set)) k d) (of s)) (λ s. end_of s ≤ by) set all))

-- ---- by kind

pub regroup_is : (kind : Regroup) (set : List SeriesValue) → combined_groups (combine_of kind) (groups_by (λ s. group_text kind s.path) set) ≡ regroup kind set
unfolding regroup
regroup_is kind set = refl
