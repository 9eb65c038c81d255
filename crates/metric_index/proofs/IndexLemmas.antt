-- An index over a map in byte order.
use Rattle.std.proofs.Common.{◌≡◌, ◌≢◌, ℕ, Bool, true, false, List, [], ◌∷◌, Option, Ordering, BTreeMap, subst, refl, sym, ap, ◌∙◌}
use Rattle.std.specs.BTreeMap.{UpdatesBy, get_by, is_at}
use Rattle.std.specs.Cmp.Lexicographic.{slice_cmp}
use Rattle.std.specs.Map.{lookup}
use Rattle.std.specs.Option.{IsSome}
use Rattle.std.specs.Ordering.{nat_cmp}
use Rattle.std.specs.Str.{bytes_eq}
use Rattle.std.proofs.lemmas.Map.Text.{is_eq-slice_cmp}
use Rattle.std.proofs.lemmas.Slice.Eq.{bytes_eq-Decides}
use Rattle.metric_index.specs.Index.{Sets, entry_of}

-- the order of bytes
abbrev pub order : List ℕ → List ℕ → Ordering
order = slice_cmp nat_cmp

-- what is found by order is found by bytes
pub by_bytes : {V : Type 0} (path : List ℕ) (es : List (List ℕ × V)) → lookup (is_at (order path)) es ≡ entry_of es path
by_bytes path [] = refl
by_bytes path (e ∷ es) = rw (is_eq-slice_cmp path e.0, by_bytes path es) refl

-- a text is no other one
other_bytes : (path other : List ℕ) (same : Bool) → bytes_eq path other ≡ same → other ≢ path → bytes_eq path other ≡ false
other_bytes path other true is differ = absurd (differ (sym ((bytes_eq-Decides path other).0 is)))
other_bytes path other false is differ = is

not_at : (path other : List ℕ) → other ≢ path → is_at (order path) other ≡ false
not_at path other differ = is_eq-slice_cmp path other ∙ other_bytes path other (bytes_eq path other) refl differ

pub sets_from_updates : {V : Type 0} (old new : BTreeMap (List ℕ) V) (index : List (List ℕ × V)) (path : List ℕ) (entry : Option V) → old.entries ≡ index → UpdatesBy order (order path) old new entry
    → Sets index new.entries path entry
sets_from_updates old new index path entry is updates = record {
  here = sym (by_bytes path new.entries) ∙ updates.1;
  others = λ other differ. sym (by_bytes other new.entries) ∙ updates.2 other (not_at path other differ) ∙ by_bytes other old.entries
      ∙ ap (λ (es : List (List ℕ × _)). entry_of es other) is;
}

-- a known path has an entry in the map
pub known_here : {V : Type 0} (map : BTreeMap (List ℕ) V) (index : List (List ℕ × V)) (path : List ℕ) → map.entries ≡ index → IsSome (entry_of index path) → IsSome (get_by (order path) map)
known_here map index path is known =
    subst (λ (o : Option _). IsSome o) (sym (by_bytes path map.entries ∙ ap (λ (es : List (List ℕ × _)). entry_of es path) is)) known
