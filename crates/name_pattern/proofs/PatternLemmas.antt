-- A compiled pattern against its text.
use Rattle.std.proofs.Common.{◌≡◌, ◌≢◌, ◌⊎◌, inl, inr, ℕ, ◌<◌, ◌≤◌, true, false, List, length, Option, Some, None, IsSomeAnd, IfSome, is_some, refl, arith, slice_index_or, nat_le}
use Rattle.std.proofs.lemmas.Bool.Decides.{nat_tests}
use Rattle.std.specs.Option.{option_map_or}
use Rattle.std.specs.Str.{chars}
use Rattle.regex.specs.Patterns.{find_str, SameCaptures, default_config, Reads, Refuses}
use Rattle.regex.proofs.ForCallers.{is_match_alike}
use Rattle.regex_hir.specs.declared.hir.Hir.{Hir}
use Rattle.regex_hir.specs.Re.{Re}
use Rattle.regex_hir.specs.Meaning.{meaning}
use Rattle.regex_syntax.specs.Grammar.{Names, group_count, read}
use Rattle.regex_syntax.specs.Brackets.{Nested}
use Rattle.regex_syntax.specs.declared.error.ErrorKind.{ErrorKind}
use Rattle.regex_syntax.specs.declared.error.ErrorKind.TheVariants.{OutOfMemory}
use Rattle.name_pattern.specs.Patterns.{SearchesFor, is_found, is_readable}

read_within : (o : Option (Nested Re × Names)) (hir : Hir) (names : Names)
    → IsSomeAnd o (λ (re, found). (re.depth ≤ 250) × SameCaptures (meaning hir) re.value × (names ≡ found) × (group_count (meaning hir) ≤ length names))
    → option_map_or (λ (re, _). nat_le re.depth 250) o false ≡ true
read_within None hir names reads = absurd reads
read_within (Some (re, found)) hir names reads = let deep : re.depth ≤ 250 = reads.0 in grind (arith, nat_tests)

-- what was read is readable
pub readable : (text : List ℕ) (hir : Hir) (names : Names) → Reads default_config text hir names → is_readable text ≡ true
unfolding Reads is_readable
readable text hir names reads = read_within (read default_config (chars text)) hir names reads

not_within : (o : Option (Nested Re × Names)) → (o ≡ None) ⊎ IfSome o (λ (re, _). 250 < re.depth) → option_map_or (λ (re, _). nat_le re.depth 250) o false ≡ false
not_within None refused = refl
not_within (Some (re, found)) (inl none) = absurd cc
not_within (Some (re, found)) (inr deep) = let below : 250 < re.depth = deep in grind (arith, nat_tests)

why_refused : (o : Option (Nested Re × Names)) (k : ErrorKind) (deep : ErrorKind) → k ≢ OutOfMemory
    → (k ≡ OutOfMemory) ⊎ ((o ≡ None) ⊎ ((k ≡ deep) × IfSome o (λ (re, _). 250 < re.depth))) → (o ≡ None) ⊎ IfSome o (λ (re, _). 250 < re.depth)
why_refused o k deep other (inl e) = absurd (other e)
why_refused o k deep other (inr (inl none)) = inl none
why_refused o k deep other (inr (inr both)) = inr both.1

-- what was refused, and not for want of memory, is not readable
pub not_readable : (text : List ℕ) (k : ErrorKind) → k ≢ OutOfMemory → Refuses default_config text k → is_readable text ≡ false
unfolding Refuses is_readable
not_readable text k other refused = not_within (read default_config (chars text)) (why_refused (read default_config (chars text)) k _ other refused)

by_search : (o : Option (Nested Re × Names)) (re : Re) (name : List ℕ) → IsSomeAnd o (λ (found, _). SameCaptures re found.value) → ((k : ℕ) → slice_index_or name k 0 < 256)
    → is_some (find_str re name 0) ≡ option_map_or (λ (found, _). is_some (find_str found.value name 0)) o false
by_search None re name searches bytes = absurd searches
by_search (Some (found, names)) re name searches bytes = is_match_alike searches name bytes true 0

-- a pattern is found as its text says
pub found_by_text : (text : List ℕ) (re : Re) (name : List ℕ) → SearchesFor text re → ((k : ℕ) → slice_index_or name k 0 < 256) → is_some (find_str re name 0) ≡ is_found text name
unfolding is_found
found_by_text text re name searches bytes = by_search (read default_config (chars text)) re name searches bytes

by_reading : (o : Option (Nested Re × Names)) (hir : Hir) (names : Names)
    → IsSomeAnd o (λ (re, found). (re.depth ≤ 250) × SameCaptures (meaning hir) re.value × (names ≡ found) × (group_count (meaning hir) ≤ length names))
    → IsSomeAnd o (λ (found, _). SameCaptures (meaning hir) found.value)
by_reading None hir names reads = absurd reads
by_reading (Some (re, found)) hir names reads = reads.1

-- what was read searches for its text
pub searches_for_text : (text : List ℕ) (hir : Hir) (names : Names) → Reads default_config text hir names → SearchesFor text (meaning hir)
unfolding Reads
searches_for_text text hir names reads = by_reading (read default_config (chars text)) hir names reads
