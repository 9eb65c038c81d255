-- The bytes of names are ASCII.
use Rattle.std.proofs.Common.{◌≡◌, ℕ, zero, suc, ◌<◌, true, List, [], ◌∷◌, get_or, arith, IsUtf8}
use Rattle.std.proofs.lemmas.Bool.{and_parts}
use Rattle.std.proofs.lemmas.Bool.Decides.{nat_tests}
use Rattle.std.proofs.lemmas.List.{get_or_past}
use Rattle.std.proofs.lemmas.Str.{IsUtf8-from_ascii}
use Rattle.std.specs.List.{list_all}
use Rattle.aggregate_rules.specs.RuleTexts.{is_name_byte}

name_byte : (b : ℕ) → is_name_byte b ≡ true → b < 128
name_byte b good = grind (arith, nat_tests)

ascii_from : (text : List ℕ) → list_all is_name_byte text ≡ true → (i : ℕ) → get_or text i 0 < 128
ascii_from [] all i = let e = get_or_past {X = ℕ} [] i 0 (omega arith) in omega arith
ascii_from (b ∷ bs) all zero = name_byte b (and_parts _ _ all).0
ascii_from (b ∷ bs) all (suc i) = ascii_from bs (and_parts _ _ all).1 i

pub name_is_utf8 : (text : List ℕ) → list_all is_name_byte text ≡ true → IsUtf8 text
name_is_utf8 text all = IsUtf8-from_ascii text (ascii_from text all)
