-- Patterns that ask a name for one text.
use Rattle.std.specs.Prelude.{◌≡◌, ℕ, ◌+◌, ◌≤◌, Bool, true, List, length}
use Rattle.regex_hir.specs.Re.{Re}
use Rattle.regex_hir.specs.Matches.{Matches}
use Rattle.regex_hir.specs.Text.{has_bytes_at}
use Rattle.name_pattern.specs.declared.plain.Plain.{Plain}

-- the pattern matches the empty text everywhere
pub record MatchesEmpty (re : Re) : Type 0 where
  pub at : (hay : List ℕ) (i : ℕ) → Matches hay re i i

-- a text stands at a place of a name: at its start, and up to its end, where that is asked
pub record Stands (text : List ℕ) (at_start at_end : Bool) (hay : List ℕ) (i : ℕ) : Type 0 where
  pub within : i ≤ length hay
  pub bytes : has_bytes_at hay i text ≡ true
  pub start : at_start ≡ true → i ≡ 0
  pub end : at_end ≡ true → i + length text ≡ length hay

-- where the text stands, and nowhere else, a match starts
pub record StartsAs (re : Re) (text : List ℕ) (at_start at_end : Bool) : Type 0 where
  pub stands : (hay : List ℕ) (i j : ℕ) → i ≤ length hay → Matches hay re i j → Stands text at_start at_end hay i
  pub starts : (hay : List ℕ) (i : ℕ) → Stands text at_start at_end hay i → (j : ℕ) × Matches hay re i j

-- where the text stands a match starts, and a name with a match has the text
pub record AsksFor (re : Re) (text : List ℕ) (at_start at_end : Bool) : Type 0 where
  pub stands : (hay : List ℕ) (i j : ℕ) → i ≤ length hay → Matches hay re i j → (l : ℕ) × Stands text at_start at_end hay l
  pub starts : (hay : List ℕ) (i : ℕ) → Stands text at_start at_end hay i → (j : ℕ) × Matches hay re i j

abbrev pub Asks : Re → Plain → Type 0
Asks re plain = AsksFor re plain.text.items plain.at_start plain.at_end

-- the same of a pattern whose matches start nowhere else
abbrev pub Begins : Re → Plain → Type 0
Begins re plain = StartsAs re plain.text.items plain.at_start plain.at_end
