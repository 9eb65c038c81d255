-- Names in which the matches of a pattern are replaced.
use Rattle.std.specs.Prelude.{◌≡◌, ℕ, ◌-◌, ◌==◌, nat_le, Bool, ◌&&◌, List, [], ◌∷◌, ◌++◌, Option, Some, None, if◌then◌else◌}
use Rattle.std.specs.Char.{encode_utf8}
use Rattle.std.specs.Option.{option_map_or}
use Rattle.std.specs.Str.{chars}
use Rattle.regex.specs.Patterns.{find_all_str}
use Rattle.regex.specs.Replace.{group_bytes, replaced_by}
use Rattle.regex_syntax.specs.Grammar.{read}
use Rattle.regex_syntax.specs.Verdict.{default_config}

-- the group that a digit calls: `1` to `9` call the first nine
abbrev pub group_called : ℕ → Option ℕ
group_called digit = if nat_le 49 digit && nat_le digit 57 then Some (digit - 48) else None

-- What a replacement writes, where a group stands for what it matched. A backslash and a digit from `1` to `9` are the group with that
-- number. Each other byte is itself, each other backslash too.
unfoldable pub written : (ℕ → List ℕ) → List ℕ → List ℕ
written group [] = []
written group (b ∷ []) = b ∷ []
written group (b ∷ c ∷ rest) =
    option_map_or (λ n. group n ++ written group rest) (if b == 92 then group_called c else None) (b ∷ written group (c ∷ rest))

-- A name in which each match of the pattern with this text is replaced. A group that the pattern lacks, or that took no part in the match,
-- stands for no bytes. Matches do not overlap, and are found from the left.
unfoldable pub substituted : List ℕ → List ℕ → List ℕ → List ℕ
substituted pattern replacement name =
    option_map_or (λ (re, _). replaced_by (λ m. written (group_bytes name m) replacement) name 0 (find_all_str re.value name))
    (read default_config (chars pattern)) name

-- a backslash where one stands open
abbrev pub opened : Bool → List ℕ
opened is_open = if is_open then 92 ∷ [] else []

-- What is written of a character behind an open backslash or none, and whether one is open behind it: whatever follows, the whole text
-- writes this and then what is left.
abbrev pub Writes : (ℕ → List ℕ) → Bool → ℕ → List ℕ → List ℕ → Bool → Type 0
Writes group is_open c before after is_open' =
    (more : List ℕ) × (after ≡ before ++ more)
    × ((rest : List ℕ) → written group (opened is_open ++ (encode_utf8 c ++ rest)) ≡ more ++ written group (opened is_open' ++ rest))
