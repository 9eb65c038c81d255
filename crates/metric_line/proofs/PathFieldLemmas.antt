-- How the field of a legal path comes from the front of a line.
use Rattle.std.proofs.Common.{◌≡◌, ℕ, ◌<◌, true, false, List, [], ◌∷◌, length, take, drop, get_or, All, ap, ◌∙◌, subst, arith}
use Rattle.std.specs.List.{position_or_len}
use Rattle.std.proofs.lemmas.Bool.Decides.{nat_tests}
use Rattle.std.proofs.lemmas.List.{get_or-take, length-take-le}
use Rattle.std.proofs.lemmas.List.Sums.{position_or_len_is}
use Rattle.metric_path.specs.Path.{is_bad_byte}
use Rattle.metric_line.specs.LineFields.{fields_of, is_blank}
use Rattle.metric_line.proofs.FieldLemmas.{fields_of-first}

-- no byte of a path is a blank
path_byte_is_no_blank : (b : ℕ) → is_bad_byte b ≡ false → is_blank b ≡ false
unfolding is_blank
path_byte_is_no_blank b good = grind (arith, nat_tests)

-- where a blank follows bytes that are none, they are the first field
pub fields_of-front : (text : List ℕ) (len : ℕ) → 0 < len → len < length text → ((k : ℕ) → k < len → is_blank (get_or text k 0) ≡ false) → is_blank (get_or text len 0) ≡ true
    → fields_of text ≡ take len text ∷ fields_of (drop len text)
fields_of-front text len some within clean blank =
    let at : position_or_len is_blank text ≡ len = position_or_len_is is_blank text len 0 (omega arith) clean (λ inside. blank) in
    subst (λ (n : ℕ). fields_of text ≡ take n text ∷ fields_of (drop n text)) at (fields_of-first text (omega (arith, at)))

-- the same of bytes of paths
pub fields_of-path : (line : List ℕ) (len : ℕ) → 0 < len → len < length line → All (λ b. is_bad_byte b ≡ false) (take len line) → is_blank (get_or line len 0) ≡ true
    → fields_of line ≡ take len line ∷ fields_of (drop len line)
fields_of-path line len some within clean blank =
    fields_of-front line len some within
    (λ k before. path_byte_is_no_blank (get_or line k 0)
    (subst (λ (b : ℕ). is_bad_byte b ≡ false) (get_or-take len line k 0 before) (clean k 0 (omega (arith, length-take-le len line (omega arith))))))
    blank

-- a field and two behind it
pub three_behind : (line path others value time : List ℕ) → fields_of line ≡ path ∷ fields_of others → fields_of others ≡ value ∷ time ∷ [] → fields_of line ≡ path ∷ value ∷ time ∷ []
three_behind line path others value time first two = first ∙ ap (λ (rest : List (List ℕ)). path ∷ rest) two
