-- What is known by number, in the words of the index.
use Rattle.std.proofs.Common.{◌≡◌, ℕ, ◌+◌, ◌<◌, ◌++◌, suc, Bool, true, false, List, [], ◌∷◌, length, get_or, map, take, All, Option, Some, None, Result, Ok, Err, OnOk, OnErr, IfSome, option_map, subst, refl, sym, ap, ◌∙◌, arith, append-nil, length-append, slice_get, MatchOption, HoldsAt, Contains}
use Rattle.std.specs.Cmp.Lexicographic.{slice_cmp}
use Rattle.std.specs.List.{AllWithin}
use Rattle.std.specs.List.Sorted.{IsStrictlySortedBy}
use Rattle.std.specs.Option.{IsSome}
use Rattle.std.specs.Ordering.{nat_cmp}
use Rattle.std.specs.Str.{bytes_eq}
use Rattle.std.proofs.Math.Seq.{take-suc}
use Rattle.std.proofs.lemmas.Option.{get_or_from_slice_get, slice_get-get_or}
use Rattle.std.proofs.lemmas.List.{get_or-map, get_or_append_left, length-map, map-append}
use Rattle.std.proofs.lemmas.List.Elements.{All-contains_itself, All-head, All-map, All-tail}
use Rattle.std.proofs.lemmas.Map.Made.{keys_of-map_values, lookup-map_values}
use Rattle.std.proofs.lemmas.Slice.Eq.{bytes_eq-Decides}
use Rattle.ring_format.specs.Layout.{LayoutValue}
use Rattle.metric_index.specs.Found.{Finds, seen as hit_seen}
use Rattle.metric_index.specs.declared.hit.Hit.{Hit}
use Rattle.metric_index.specs.Index.{Sets, entry_of, paths_of}
use Rattle.metric_index.specs.Searched.{AreKnown}
use Rattle.metric_index.proofs.FindLemmas.{own_entry}
use Rattle.metric_table.specs.Numbered.{HaveLayouts, KeepsNumbers, known_by, known_by_all, no_layout}
use Rattle.metric_table.specs.declared.entry.Entry.{Entry}
use Rattle.metric_table.specs.declared.known.Known.{Known}

-- ---- what a look-up finds

pub shown_paths : (layouts : List LayoutValue) (index : List (List ℕ × Entry)) (table : List (List ℕ × Known)) → known_by_all layouts index ≡ table → paths_of index ≡ paths_of table
shown_paths layouts index table is =
    sym (keys_of-map_values (known_by layouts) index) ∙ ap (λ (t : List (List ℕ × Known)). paths_of t) is

shown_by : (layouts : List LayoutValue) (index : List (List ℕ × Entry)) (path : List ℕ) → entry_of (known_by_all layouts index) path ≡ option_map (known_by layouts) (entry_of index path)
shown_by layouts index path = lookup-map_values (known_by layouts) (bytes_eq path) index

pub shown_entry : (layouts : List LayoutValue) (index : List (List ℕ × Entry)) (table : List (List ℕ × Known)) (path : List ℕ) (found : Option Entry) → known_by_all layouts index ≡ table → entry_of index path ≡ found
    → entry_of table path ≡ option_map (known_by layouts) found
shown_entry layouts index table path found is same =
    sym (ap (λ (t : List (List ℕ × Known)). entry_of t path) is) ∙ shown_by layouts index path ∙ ap (option_map (known_by layouts)) same

-- ---- numbers keep their layouts

pub same_numbers : (layouts : List LayoutValue) → KeepsNumbers layouts layouts
same_numbers layouts = ([], sym (append-nil layouts))

abbrev known_with : LayoutValue → Entry → Known
known_with layout entry = record { layout = layout; is_kept = entry.is_kept; is_old = entry.is_old; drains = entry.drains }

kept_known : (layouts more : List LayoutValue) (entry : Entry) → entry.layout < length layouts → known_by (layouts ++ more) entry ≡ known_by layouts entry
kept_known layouts more entry within =
    ap (λ (layout : LayoutValue). known_with layout entry) (get_or_append_left layouts more no_layout entry.layout within)

pub known_later : (layouts now : List LayoutValue) (entry : Entry) → KeepsNumbers layouts now → entry.layout < length layouts → known_by now entry ≡ known_by layouts entry
known_later layouts now entry keeps within = ap (λ (l : List LayoutValue). known_by l entry) keeps.1 ∙ kept_known layouts keeps.0 entry within

found_later : (layouts now : List LayoutValue) (found : Option Entry) → KeepsNumbers layouts now → IfSome found (λ entry. entry.layout < length layouts) → option_map (known_by now) found ≡ option_map (known_by layouts) found
found_later layouts now None keeps within = refl
found_later layouts now (Some entry) keeps within = ap Some (known_later layouts now entry keeps within)

more_numbers : (layouts now : List LayoutValue) (number : ℕ) → KeepsNumbers layouts now → number < length layouts → number < length now
more_numbers layouts now number keeps within = omega (arith, ap (λ (l : List LayoutValue). length l) keeps.1, length-append layouts keeps.0)

some_numbers : (layouts now : List LayoutValue) (found : Option Entry) → KeepsNumbers layouts now → IfSome found (λ entry. entry.layout < length layouts) → IfSome found (λ entry. entry.layout < length now)
some_numbers layouts now None keeps within = within
some_numbers layouts now (Some entry) keeps within = more_numbers layouts now entry.layout keeps within

-- ---- one path is set

module _ (layouts now : List LayoutValue) (old new : List (List ℕ × Entry)) (path : List ℕ) (entry : Option Entry) where
  pub sets_shown : (table : List (List ℕ × Known)) (known : Option Known) → known_by_all layouts old ≡ table → HaveLayouts layouts old → KeepsNumbers layouts now → Sets old new path entry → option_map (known_by now) entry ≡ known
      → Sets table (known_by_all now new) path known
  sets_shown table known is have keeps sets shown = record {
    here = shown_by now new path ∙ ap (option_map (known_by now)) sets.here ∙ shown;
    others = λ other differ. shown_by now new other ∙ ap (option_map (known_by now)) (sets.others other differ) ∙ found_later layouts now (entry_of old other) keeps (have other)
        ∙ sym (shown_entry layouts old table other (entry_of old other) is refl);
  }

  have_by : (other : List ℕ) (same : Bool) → bytes_eq other path ≡ same → HaveLayouts layouts old → KeepsNumbers layouts now → Sets old new path entry → IfSome entry (λ e. e.layout < length now)
      → IfSome (entry_of new other) (λ e. e.layout < length now)
  have_by other true is have keeps sets within =
      subst (λ (o : Option Entry). IfSome o (λ e. e.layout < length now)) (sym (ap (entry_of new) ((bytes_eq-Decides other path).0 is) ∙ sets.here)) within
  have_by other false is have keeps sets within =
      subst (λ (o : Option Entry). IfSome o (λ e. e.layout < length now)) (sym (sets.others other (λ same. absurd (let e = sym is ∙ (bytes_eq-Decides other path).1 same in cc))))
      (some_numbers layouts now (entry_of old other) keeps (have other))

  pub sets_have : HaveLayouts layouts old → KeepsNumbers layouts now → Sets old new path entry → IfSome entry (λ e. e.layout < length now) → HaveLayouts now new
  sets_have have keeps sets within other = have_by other (bytes_eq other path) refl have keeps sets within

-- ---- nothing is set

same_all : (layouts now : List LayoutValue) (index : List (List ℕ × Entry)) → All (λ e. known_by now e.1 ≡ known_by layouts e.1) index → known_by_all now index ≡ known_by_all layouts index
same_all layouts now [] same = refl
same_all layouts now (e ∷ es) same =
    ap (λ (k : Known). (e.0, k) ∷ known_by_all now es) (All-head (λ (x : List ℕ × Entry). known_by now x.1 ≡ known_by layouts x.1) e es same)
    ∙ ap (λ (l : List (List ℕ × Known)). (e.0, known_by layouts e.1) ∷ l) (same_all layouts now es (All-tail (λ (x : List ℕ × Entry). known_by now x.1 ≡ known_by layouts x.1) e es same))

-- what a path has is what all entries have
has_layout : (layouts : List LayoutValue) (index : List (List ℕ × Entry)) (e : List ℕ × Entry) → HaveLayouts layouts index → entry_of index e.0 ≡ Some e.1 → e.1.layout < length layouts
has_layout layouts index e have own = subst (λ (o : Option Entry). IfSome o (λ x. x.layout < length layouts)) own (have e.0)

pub hits_have : (layouts : List LayoutValue) (index : List (List ℕ × Entry)) (hits : List (Hit Entry)) → HaveLayouts layouts index → All (λ e. entry_of index e.0 ≡ Some e.1) (map hit_seen hits)
    → All (λ hit. hit.entry.now.layout < length layouts) hits
hits_have layouts index hits have own k d within =
    let there : k < length (map hit_seen hits) = omega (arith, within, length-map hits hit_seen) in
    has_layout layouts index (hit_seen (get_or hits k d)) have
    (subst (λ (e : List ℕ × Entry). entry_of index e.0 ≡ Some e.1) (get_or-map hit_seen hits k d (hit_seen d) within) (own k (hit_seen d) there))

pub same_shown : (layouts now : List LayoutValue) (index : List (List ℕ × Entry)) → IsStrictlySortedBy (slice_cmp nat_cmp) (paths_of index) → HaveLayouts layouts index → KeepsNumbers layouts now
    → known_by_all now index ≡ known_by_all layouts index
same_shown layouts now index rising have keeps =
    same_all layouts now index (λ k d within.
    let e = get_or index k d in
    known_later layouts now e.1 keeps (has_layout layouts index e have (own_entry index e rising (All-contains_itself index k d within))))

-- ---- what a search finds

some_shown : (layouts : List LayoutValue) (found : Option Entry) → IsSome found → IsSome (option_map (known_by layouts) found)
some_shown layouts None some = absurd cc
some_shown layouts (Some entry) some = refl

some_before : (layouts : List LayoutValue) (found : Option Entry) → IsSome (option_map (known_by layouts) found) → IsSome found
some_before layouts None some = absurd cc
some_before layouts (Some entry) some = refl

pub known_before : (layouts : List LayoutValue) (index : List (List ℕ × Entry)) (table : List (List ℕ × Known)) (names : List (List ℕ)) → known_by_all layouts index ≡ table → AreKnown table names → AreKnown index names
known_before layouts index table names is known = λ k d less.
    let path : List ℕ = get_or names k d in
    some_before layouts (entry_of index path) (subst (λ (o : Option Known). IsSome o) (shown_entry layouts index table path (entry_of index path) is refl) (known k d less))

pub known_shown : (layouts : List LayoutValue) (index : List (List ℕ × Entry)) (table : List (List ℕ × Known)) (names : List (List ℕ)) → known_by_all layouts index ≡ table → AreKnown index names → AreKnown table names
known_shown layouts index table names is known = λ k d less.
    let path : List ℕ = get_or names k d in
    subst (λ (o : Option Known). IsSome o) (sym (shown_entry layouts index table path (entry_of index path) is refl)) (some_shown layouts (entry_of index path) (known k d less))

pub finds_shown : (layouts : List LayoutValue) (index hits : List (List ℕ × Entry)) (table found : List (List ℕ × Known)) (fits : List ℕ → Type 0) → known_by_all layouts index ≡ table → Finds index fits hits
    → found ≡ known_by_all layouts hits → Finds table fits found
finds_shown layouts index hits table found fits is finds same =
    let paths = shown_paths layouts hits found (sym same) in
    record {
      in_order = subst (λ (l : List (List ℕ)). IsStrictlySortedBy (slice_cmp nat_cmp) l) paths finds.in_order;
      found = λ path.
          let shown = shown_entry layouts index table path (entry_of index path) is refl in (
            λ within. let both = (finds.found path).0 (subst (λ (l : List (List ℕ)). Contains l path) (sym paths) within) in
                (both.0, subst (λ (o : Option Known). IsSome o) (sym shown) (some_shown layouts (entry_of index path) both.1)),
            λ both. subst (λ (l : List (List ℕ)). Contains l path) paths
                ((finds.found path).1 (both.0, some_before layouts (entry_of index path) (subst (λ (o : Option Known). IsSome o) shown both.1))),
          );
      entries = subst (λ (l : List (List ℕ × Known)). All (λ hit. entry_of table hit.0 ≡ Some hit.1) l) (sym same)
          (All-map (λ (hit : List ℕ × Known). entry_of table hit.0 ≡ Some hit.1) (λ (e : List ℕ × Entry). (e.0, known_by layouts e.1)) hits
          (λ k d within. shown_entry layouts index table (get_or hits k d).0 (Some (get_or hits k d).1) is (finds.entries k d within)));
    }

-- what is known of one hit more
pub one_more : (layouts : List LayoutValue) (hits : List (Hit Entry)) (found : List (List ℕ × Known)) (k : ℕ) (hit : Hit Entry) (layout : LayoutValue) → found ≡ known_by_all layouts (map hit_seen (take k hits))
    → k < length hits → hit ≡ get_or hits k hit → slice_get layouts hit.entry.now.layout ≡ Some layout
    → found ++ (hit.path.now, record { layout = layout; is_kept = hit.entry.now.is_kept; is_old = hit.entry.now.is_old; drains = hit.entry.now.drains }) ∷ [] ≡ known_by_all layouts (map hit_seen (take (k + 1) hits))
one_more layouts hits found k hit layout same within is here =
    let known : List ℕ × Entry → List ℕ × Known = λ e. (e.0, known_by layouts e.1) in
    let next : known_with layout hit.entry.now ≡ known_by layouts hit.entry.now = ap (λ (l : LayoutValue). known_with l hit.entry.now) (sym (get_or_from_slice_get layouts hit.entry.now.layout layout no_layout here)) in
    let later : k + 1 ≡ suc k = omega arith in
    let more : take (k + 1) hits ≡ take k hits ++ hit ∷ [] = ap (λ (n : ℕ). take n hits) later ∙ take-suc hits k hit within ∙ ap (λ (h : Hit Entry). take k hits ++ h ∷ []) (sym is) in
    ap (λ (l : List (List ℕ × Known)). l ++ (hit.path.now, known_with layout hit.entry.now) ∷ []) same
    ∙ ap (λ (x : Known). known_by_all layouts (map hit_seen (take k hits)) ++ (hit.path.now, x) ∷ []) next
    ∙ sym (map-append known (map hit_seen (take k hits)) (hit_seen hit ∷ []))
    ∙ ap (known_by_all layouts) (sym (map-append hit_seen (take k hits) (hit ∷ [])))
    ∙ ap (λ (l : List (Hit Entry)). known_by_all layouts (map hit_seen l)) (sym more)

-- ---- by the result of an insertion

module _ {X E : Type 0} (layouts now : List LayoutValue) (old new : List (List ℕ × Entry)) (path : List ℕ) (entry : Entry) (table : List (List ℕ × Known)) (is : known_by_all layouts old ≡ table)
    (have : HaveLayouts layouts old) (keeps : KeepsNumbers layouts now) (within : entry.layout < length now) where
  pub inserted_have : (r : Result X E) → OnOk r (Sets old new path (Some entry)) → OnErr r (new ≡ old) → HaveLayouts now new
  inserted_have (Ok _) sets same = sets_have layouts now old new path (Some entry) have keeps sets within
  inserted_have (Err _) sets same = λ other. subst (λ (l : List (List ℕ × Entry)). IfSome (entry_of l other) (λ e. e.layout < length now)) (sym same) (some_numbers layouts now (entry_of old other) keeps (have other))

  pub inserted_shown : (known : Known) (r : Result X E) → known_by now entry ≡ known → OnOk r (Sets old new path (Some entry)) → OnOk r (Sets table (known_by_all now new) path (Some known))
  inserted_shown known (Ok _) shown sets = sets_shown layouts now old new path (Some entry) table (Some known) is have keeps sets (ap Some shown)
  inserted_shown known (Err _) shown sets = sets

  pub refused_shown : (r : Result X E) → IsStrictlySortedBy (slice_cmp nat_cmp) (paths_of old) → OnErr r (new ≡ old) → OnErr r (known_by_all now new ≡ table)
  refused_shown (Ok _) rising same = same
  refused_shown (Err _) rising same = ap (λ (l : List (List ℕ × Entry)). known_by_all now l) same ∙ same_shown layouts now old rising have keeps ∙ is

-- ---- where a layout stands

pub same_parts : (a b : LayoutValue) → a.archives ≡ b.archives → a.method ≡ b.method → a.factor ≡ b.factor → a ≡ b
same_parts a b archives method factor = λ i. record { archives = archives i; method = method i; factor = factor i }

pub first_is : (layouts : List LayoutValue) (layout : LayoutValue) (r : Option ℕ)
    → MatchOption r (AllWithin (λ y. Unit) layouts 0 (length layouts)) (λ i. (i < length layouts) × HoldsAt (λ y. y ≡ layout) layouts i × AllWithin (λ y. Unit) layouts 0 i)
    → IfSome r (λ place. slice_get layouts place ≡ Some layout)
first_is layouts layout None first = tt
first_is layouts layout (Some i) first = slice_get-get_or layouts i layout first.0 ∙ ap Some (first.1 layout)
