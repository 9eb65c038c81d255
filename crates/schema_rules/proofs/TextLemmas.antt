-- Blanks and UTF-8: where the texts of a line may be cut.
use Rattle.std.proofs.Common.{◌≡◌, ℕ, suc, ◌+◌, ◌<◌, Bool, true, false, List, [], ◌∷◌, length, drop, get_or, Some, refl, arith, slice_index}
use Rattle.std.proofs.lemmas.Str.{IsUtf8-drop, IsCharBoundary-after_ascii}
use Rattle.std.proofs.lemmas.Bool.Decides.{nat_tests}
use Rattle.std.proofs.lemmas.List.Quantifiers.{position-Some}
use Rattle.std.specs.List.{position, position_or_len}
use Rattle.std.specs.Str.{IsUtf8}
use Rattle.rule_lines.specs.TextLines.{is_blank, is_no_blank, without_first_blanks}
use Rattle.schema_rules.specs.RuleLines.{is_separator}

-- what stands behind an ASCII byte
pub utf8_behind : (bs : List ℕ) (i : ℕ) → IsUtf8 bs → i < length bs → get_or bs i 0 < 128 → IsUtf8 (drop (i + 1) bs)
utf8_behind bs i u within ascii = IsUtf8-drop bs (i + 1) u (IsCharBoundary-after_ascii bs i u within ascii)

blank_is_ascii : (b : ℕ) → is_blank b ≡ true → b < 128
blank_is_ascii b h = grind (arith, nat_tests)

one_plus : (n : ℕ) → 1 + n ≡ suc n
one_plus n = omega arith

-- a text without its first blanks
past_one : (b : ℕ) (bs : List ℕ) (t : Bool) → is_blank b ≡ t → IsUtf8 (b ∷ bs) → (IsUtf8 bs → IsUtf8 (drop (position_or_len is_no_blank bs) bs))
    → IsUtf8 (drop (position_or_len is_no_blank (b ∷ bs)) (b ∷ bs))
past_one b bs true e u more = rw (e, one_plus) (more (utf8_behind (b ∷ bs) 0 u (omega arith) (blank_is_ascii b e)))
past_one b bs false e u more = rw e u

from_first : (bs : List ℕ) → IsUtf8 bs → IsUtf8 (drop (position_or_len is_no_blank bs) bs)
from_first [] u = u
from_first (b ∷ bs) u = past_one b bs (is_blank b) refl u (λ v. from_first bs v)

pub utf8_from_first : (bs : List ℕ) → IsUtf8 bs → IsUtf8 (without_first_blanks bs)
unfolding without_first_blanks
utf8_from_first bs u = from_first bs u

separator_byte : (b : ℕ) → is_separator b ≡ true → b < 128
separator_byte b h = grind (arith, nat_tests)

pub separator_is_ascii : (line : List ℕ) (at : ℕ) → position is_separator line ≡ Some at → slice_index line at < 128
separator_is_ascii line at h = separator_byte _ (position-Some is_separator line at 0 h).1
