-- Patterns, by their texts alone.
use Rattle.std.specs.Prelude.{ℕ, Bool, false, nat_le, List, IsSomeAnd, is_some}
use Rattle.std.specs.Option.{option_map_or}
use Rattle.std.specs.Str.{chars}
use Rattle.regex.specs.Patterns.{SameCaptures, find_str}
use Rattle.regex_hir.specs.Re.{Re}
use Rattle.regex_syntax.specs.Grammar.{read}
use Rattle.regex_syntax.specs.Verdict.{default_config}

-- whether the grammar of patterns reads a text, and it nests no deeper than a pattern may
unfoldable pub is_readable : List ℕ → Bool
is_readable text = option_map_or (λ (re, _). nat_le re.depth 250) (read default_config (chars text)) false

-- whether the pattern with this text is found in a name
unfoldable pub is_found : List ℕ → List ℕ → Bool
is_found text name = option_map_or (λ (re, _). is_some (find_str re.value name 0)) (read default_config (chars text)) false

-- what is searched for has the matches, and the groups in them, that the pattern with this text has
abbrev pub SearchesFor : List ℕ → Re → Type 0
SearchesFor text re = IsSomeAnd (read default_config (chars text)) (λ (found, _). SameCaptures re found.value)
