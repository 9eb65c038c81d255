-- The keys of a map of files are the names of its image.
use Rattle.std.proofs.Common.{◌≡◌, ℕ, List, [], ◌∷◌, map, Bool, true, false, Option, Some, cond, ◌||◌, refl, rules, tests, sym, subst, ◌∙◌}
use Rattle.std.specs.Prelude.{String, Vec, string_bytes, string_cmp, is_some, option_map, bytes_eq}
use Rattle.std.specs.List.{list_any, IsDistinct, AllByRecursion}
use Rattle.std.specs.Ordering.{nat_cmp, eq_by_cmp}
use Rattle.std.specs.Cmp.Lexicographic.{slice_cmp, nat_list_eq_equiv}
use Rattle.std.specs.BTreeMap.{BTreeMap, IsOrdered, is_at, keys}
use Rattle.std.specs.Map.{lookup}
use Rattle.std.proofs.lemmas.Map.Text.{is_eq-slice_cmp}
use Rattle.std.proofs.lemmas.Map.Keys.{IsDistinct-from_sorted}
use Rattle.std.proofs.lemmas.Map.Views.{list_any-from_Contains, Contains-from_any}
use Rattle.std.proofs.lemmas.Slice.Eq.{bytes_eq-Decides}
use Rattle.outside_io.specs.Image.{ListsNames}
use Rattle.outside_io.specs.MemDisk.{image_of}

-- names that differ in order differ in their bytes
apart_bytes : {A : Type 0} (name : String A) (names : List (String A)) → AllByRecursion (λ other. eq_by_cmp string_cmp name other ≡ false) names
    → AllByRecursion (λ other. bytes_eq (string_bytes name) other ≡ false) (map string_bytes names)
apart_bytes name [] apart = tt
apart_bytes name (other ∷ names) apart =
    (sym (is_eq-slice_cmp (string_bytes name) (string_bytes other)) ∙ apart.0, apart_bytes name names apart.1)

distinct_bytes : {A : Type 0} (names : List (String A)) → IsDistinct (eq_by_cmp string_cmp) names → IsDistinct bytes_eq (map string_bytes names)
unfolding IsDistinct
distinct_bytes [] distinct = tt
distinct_bytes (name ∷ names) distinct = (apart_bytes name names distinct.0, distinct_bytes names distinct.1)

-- an entry that passes, or one behind it
found_first : {X Y : Type 0} (f : X → Y) (passes : Bool) (value : X) (others : Option X) (any : Bool) → is_some (option_map f others) ≡ any
    → is_some (option_map f (cond passes (Some value) others)) ≡ (passes || any)
found_first f true value others any rest = refl
found_first f false value others any rest = rest

-- a look-up finds a file where its name is among the keys
found_among_keys : {A X Y : Type 0} (f : X → Y) (name : List ℕ) (entries : List (String A × X))
    → is_some (option_map f (lookup (is_at (λ key. slice_cmp nat_cmp name (string_bytes key))) entries))
    ≡ list_any (bytes_eq name) (map string_bytes (map (λ e. e.0) entries))
found_among_keys f name [] = refl
found_among_keys f name (entry ∷ entries) =
    rw (is_eq-slice_cmp name (string_bytes entry.0)) (found_first f (bytes_eq name (string_bytes entry.0)) entry.1 _ _ (found_among_keys f name entries))

same_bytes : (xs ys : List ℕ) → bytes_eq xs ys ≡ true → xs ≡ ys
same_bytes xs ys same = search (rules, tests, bytes_eq-Decides)

-- the keys' bytes are the names of the image, each once
pub lists_keys : {A B : Type 0} (files : BTreeMap (String A) (Vec ℕ B)) (names : List (List ℕ)) → IsOrdered string_cmp files
    → names ≡ map string_bytes (keys files) → ListsNames (image_of files) names
lists_keys {A} {B} files names ordered is =
    let found = λ (name : List ℕ). found_among_keys (λ (file : Vec ℕ B). file.items) name files.entries in
    subst (ListsNames (image_of files)) (sym is) (record {
      once = distinct_bytes (keys files) (IsDistinct-from_sorted string_cmp (keys files) ordered);
      held = λ name. (
        λ among. found name ∙ list_any-from_Contains nat_list_eq_equiv name _ among,
        λ some. Contains-from_any same_bytes name _ (sym (found name) ∙ some),
      );
    })
