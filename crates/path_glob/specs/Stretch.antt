-- How far a glob may reach in a text that goes on behind it.
use Rattle.std.specs.Prelude.{◌≡◌, ℕ, suc, ◌==◌, Bool, false, ◌&&◌, ◌||◌, not, List, [], ◌∷◌, ◌++◌, length, codes, if◌then◌else◌}
use Rattle.std.specs.List.{list_any}
use Rattle.metric_path.specs.Path.{is_node_byte}
use Rattle.path_glob.specs.Reading.{is_comma}

-- a byte that a glob may hold outside braces
abbrev pub is_glob_byte : ℕ → Bool
is_glob_byte b = is_node_byte b || list_any (λ x. x == b) (codes ".*?[]{}")

-- whether a byte belongs to a stretch: a comma does within braces
abbrev pub is_held : Bool → ℕ → Bool
is_held in_braces b = is_glob_byte b || (in_braces && is_comma b)

-- whether the place behind a byte lies within braces; braces don't nest
abbrev pub is_in_braces : Bool → ℕ → Bool
is_in_braces in_braces b = b == 123 || (in_braces && not (b == 125))

-- how long the longest stretch is that begins a text
abbrev pub stretch_len : Bool → List ℕ → ℕ
stretch_len in_braces [] = 0
stretch_len in_braces (b ∷ rest) =
    if is_held in_braces b then suc (stretch_len (is_in_braces in_braces b) rest) else 0

-- no stretch goes on at the front of such a text
abbrev pub Stops : List ℕ → Type 0
Stops [] = Unit {0}
Stops (b ∷ rest) = is_held false b ≡ false

-- The text is the longest stretch of any text that it begins, where none goes on behind it.
abbrev pub Fills : Bool → List ℕ → Type 0
Fills in_braces text = (rest : List ℕ) → Stops rest → stretch_len in_braces (text ++ rest) ≡ length text
