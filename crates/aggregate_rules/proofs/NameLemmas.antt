-- A name that is added to others.
use Rattle.std.proofs.Common.{◌≡◌, ◌∙◌, Bool, true, false, ℕ, List, is_some, refl, sym}
use Rattle.std.proofs.lemmas.Map.Made.{is_some-lookup}
use Rattle.std.specs.List.{list_any}
use Rattle.std.specs.Map.{keys_of, lookup}
use Rattle.std.specs.Str.{bytes_eq}
use Rattle.indexmap.proofs.SetLemmas.{keys_insert_entry}
use Rattle.indexmap.specs.IndexMap.{insert_entry}
use Rattle.aggregate_rules.specs.RuleTexts.{AddsName}

abbrev Entries : Type 0
Entries = List (List ℕ × ℕ)

there : (es : Entries) (name : List ℕ) (b : Bool) → is_some (lookup (bytes_eq name) es) ≡ b → list_any (bytes_eq name) (keys_of es) ≡ b
there es name b e = sym (is_some-lookup (bytes_eq name) es) ∙ e

pub name_is_there : (es : Entries) (name : List ℕ) → is_some (lookup (bytes_eq name) es) ≡ true → AddsName (keys_of es) (keys_of es) name false
name_is_there es name e = rw (there es name true e) refl

pub name_is_new : (es : Entries) (name : List ℕ) (number : ℕ) → is_some (lookup (bytes_eq name) es) ≡ false
    → AddsName (keys_of es) (keys_of (insert_entry bytes_eq es name number)) name true
name_is_new es name number e = rw (keys_insert_entry bytes_eq es name number, there es name false e) refl
