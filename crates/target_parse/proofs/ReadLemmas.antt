-- Numbers and texts in quotes, as the code meets them.
use Rattle.std.proofs.Common.{◌≡◌, ℕ, ◌-◌, Bool, true, false, cond, List, length, Option, Some, None, Result, Ok, Err, IsUtf8, refl, sym, ap, ◌∙◌, ℤ, rules}
use Rattle.std.proofs.lemmas.Str.{IsUtf8-from_is_utf8, is_utf8-from_IsUtf8}
use Rattle.std.specs.Option.{option_map_or}
use Rattle.std.specs.Str.{is_utf8}
use Rattle.std.specs.Str.Lossy.{utf8_valid_len}
use Rattle.fixed_num.specs.Decimal.{fits, is_not_finite, is_number, scaled}
use Rattle.fixed_num.specs.Read.{fault_of, fitting, read_as}
use Rattle.fixed_num.specs.declared.NumFault.{NumFault}
use Rattle.fixed_num.specs.declared.NumFault.TheVariants.{NotNumber, NotFinite, OutOfRange}
use Rattle.target_parse.specs.declared.expr.Expr.{Text, the_lemmas}
use Rattle.target_parse.specs.declared.fault.Stop.TheVariants.{Left}
use Rattle.target_parse.specs.Reading.{Reading, before_byte, behind_byte, from_byte, read_quoted}
use Rattle.target_parse.specs.Tree.{Tree, Quoted, tree_of}

-- ---- numbers

-- whether an answer is that of a number's text
abbrev pub is_of_number : Result ℤ NumFault → Bool
is_of_number (Ok z) = true
is_of_number (Err OutOfRange) = true
is_of_number (Err NotFinite) = false
is_of_number (Err NotNumber) = false

fitting_tells : (z : ℤ) (fit : Bool) → is_of_number (cond fit (Ok z) (Err OutOfRange)) ≡ true
fitting_tells z true = refl
fitting_tells z false = refl

fault_tells : (infinite : Bool) → is_of_number (Err (cond infinite NotFinite NotNumber)) ≡ false
fault_tells true = refl
fault_tells false = refl

number_cases : (text : List ℕ) (number : Bool) → is_of_number (cond number (fitting fits (scaled 1000 text)) (Err (fault_of text))) ≡ number
number_cases text true = fitting_tells (scaled 1000 text) (fits (scaled 1000 text))
number_cases text false = fault_tells (is_not_finite text)

pub read_tells : (text : List ℕ) → is_of_number (read_as fits 1000 text) ≡ is_number text
unfolding read_as
read_tells text = number_cases text (is_number text)

-- ---- texts in quotes

utf8_cases : (bytes : List ℕ) (good : Bool) → is_utf8 bytes ≡ good → (IsUtf8 bytes → ⊥) → good ≡ false
utf8_cases bytes true e bad = absurd (bad (IsUtf8-from_is_utf8 bytes e))
utf8_cases bytes false e bad = refl

abbrev choice : ℕ → List ℕ → List ℕ → Bool → Option (List ℕ) → Reading Tree
choice quote text piece good behind =
    cond good (option_map_or (λ (rest : List ℕ). Ok (Quoted quote piece, rest)) behind (Err (Left 0))) (Err (Left (length text - utf8_valid_len piece)))

quoted_choice : (quote : ℕ) (text piece : List ℕ) → piece ≡ before_byte quote text
    → read_quoted quote text ≡ choice quote text piece (is_utf8 piece) (behind_byte quote (from_byte quote text))
unfolding read_quoted
quoted_choice quote text piece same = ap (λ (p : List ℕ). choice quote text p (is_utf8 p) (behind_byte quote (from_byte quote text))) (sym same)

pub quoted_bad : (quote : ℕ) (text piece : List ℕ) → piece ≡ before_byte quote text → (IsUtf8 piece → ⊥) → read_quoted quote text ≡ Err (Left (length text - utf8_valid_len piece))
quoted_bad quote text piece same bad =
    quoted_choice quote text piece same
    ∙ ap (λ (good : Bool). choice quote text piece good (behind_byte quote (from_byte quote text))) (utf8_cases piece (is_utf8 piece) refl bad)

quoted_good : (quote : ℕ) (text piece : List ℕ) (behind : Option (List ℕ)) → piece ≡ before_byte quote text → IsUtf8 piece → behind_byte quote (from_byte quote text) ≡ behind
    → read_quoted quote text ≡ choice quote text piece true behind
quoted_good quote text piece behind same good found =
    quoted_choice quote text piece same
    ∙ ap (λ (test : Bool). choice quote text piece test (behind_byte quote (from_byte quote text))) (is_utf8-from_IsUtf8 piece good)
    ∙ ap (choice quote text piece true) found

pub quoted_open : (quote : ℕ) (text piece : List ℕ) → piece ≡ before_byte quote text → IsUtf8 piece → behind_byte quote (from_byte quote text) ≡ None → read_quoted quote text ≡ Err (Left 0)
quoted_open quote text piece same good found = quoted_good quote text piece None same good found

view_text : (quote : ℕ) (word : List ℕ) → tree_of (Text quote word) ≡ Quoted quote word
view_text quote word = search (rules, the_lemmas)

pub quoted_closed : (quote : ℕ) (text piece rest word : List ℕ) → piece ≡ before_byte quote text → IsUtf8 piece → behind_byte quote (from_byte quote text) ≡ Some rest → word ≡ piece
    → read_quoted quote text ≡ Ok (tree_of (Text quote word), rest)
quoted_closed quote text piece rest word same good found is =
    quoted_good quote text piece (Some rest) same good found ∙ ap (λ (w : List ℕ). Ok (Quoted quote w, rest)) (sym is) ∙ ap (λ (tree : Tree). Ok (tree, rest)) (sym (view_text quote word))
