-- The file name of a path: each dot of its text becomes a slash, and `.ring` follows.
use Rattle.std.specs.Prelude.{◌≡◌, ◌≢◌, ℕ, ◌==◌, List, ◌++◌, map, Option, Some, None, if◌then◌else◌, codes}
use Rattle.metric_path.specs.Path.{is_dot, path_fault}

abbrev pub slash_for_dot : ℕ → ℕ
slash_for_dot b = if is_dot b then 47 else b

abbrev pub dot_for_slash : ℕ → ℕ
dot_for_slash b = if b == 47 then 46 else b

abbrev pub file_name_of : List ℕ → List ℕ
file_name_of text = map slash_for_dot text ++ codes ".ring"

-- The legal path that has this file name, or none where no legal path has it.
abbrev pub HasFileName : Option (List ℕ) → List ℕ → Type 0
HasFileName None name = (text : List ℕ) → path_fault text ≡ None → file_name_of text ≢ name
HasFileName (Some text) name = (path_fault text ≡ None) × (file_name_of text ≡ name)
