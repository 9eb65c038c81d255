-- The fields of a line that has a plain decimal and digits behind its path.
use Rattle.std.proofs.Common.{◌≡◌, ℕ, ◌+◌, ◌<◌, ◌&&◌, ltb, leb, true, false, List, [], ◌∷◌, length, take, drop, get_or, All, Some, None, Ok, Err, ℤ, refl, ap, sym, subst, ◌∙◌, arith, take_all, ltb-true}
use Rattle.std.specs.List.{list_all, position_or_len}
use Rattle.std.specs.Char.{is_ascii_digit}
use Rattle.std.proofs.lemmas.Bool.{and_parts}
use Rattle.std.proofs.lemmas.Bool.Decides.{nat_tests}
use Rattle.std.proofs.lemmas.List.{drop_all, get_or-drop, get_or-take, length-take-le}
use Rattle.std.proofs.lemmas.List.Sums.{position_or_len_is}
use Rattle.fixed_num.specs.Whole.{whole_number}
use Rattle.fixed_num.proofs.DigitLemmas.{digit_byte_at, whole_number_is}
use Rattle.fixed_num.specs.Read.{milli_result}
use Rattle.metric_path.specs.Path.{path_fault}
use Rattle.metric_line.specs.declared.stamp.StampFault.{StampFault}
use Rattle.metric_line.specs.declared.fault.LineFault.TheVariants.{Time}
use Rattle.metric_line.specs.LineDatum.{point_result, where_read}
use Rattle.metric_line.specs.LineFields.{fields_of, is_blank}
use Rattle.metric_line.specs.Stamp.{moment_result}
use Rattle.metric_line.proofs.FieldLemmas.{fields_of-first, fields_of-none}
use Rattle.metric_line.proofs.PathFieldLemmas.{fields_of-front}
use Rattle.metric_line.proofs.StampLemmas.{stamp_of_whole}

-- what stands behind the space is no blank
high_is_no_blank : (b : ℕ) → 32 < b → is_blank b ≡ false
unfolding is_blank
high_is_no_blank b high = grind (arith, nat_tests)

-- bytes that are no blanks are one field
fields_of-alone : (text : List ℕ) → 0 < length text → ((k : ℕ) → k < length text → is_blank (get_or text k 0) ≡ false) → fields_of text ≡ text ∷ []
fields_of-alone text some clean =
    let at : position_or_len is_blank text ≡ length text = position_or_len_is is_blank text (length text) 0 (omega arith) clean (λ past. absurd (omega arith)) in
    fields_of-first text (omega (arith, at))
    ∙ rw (take_all (position_or_len is_blank text) text (omega (arith, at)), drop_all (position_or_len is_blank text) text (omega (arith, at))) (ap (λ (rest : List (List ℕ)). text ∷ rest) (fields_of-none [] (omega arith)))

-- digits are one field
seconds_alone : (text : List ℕ) (seconds : ℕ) → Some seconds ≡ whole_number text → fields_of text ≡ text ∷ []
seconds_alone text seconds read =
    let parts : (ltb 0 (length text) ≡ true) × ((leb (length text) 19 && list_all is_ascii_digit text) ≡ true) = and_parts _ _ (whole_number_is text seconds read).0 in
    let digits : list_all is_ascii_digit text ≡ true = (and_parts (leb (length text) 19) (list_all is_ascii_digit text) parts.1).1 in
    fields_of-alone text (ltb-true 0 (length text) parts.0) (λ k within. high_is_no_blank (get_or text k 0) (omega (arith, digit_byte_at text k digits within)))

-- a field that a blank ends, and digits behind that
pub two_plain : (text others rest time : List ℕ) (len seconds : ℕ) → fields_of text ≡ fields_of others → 0 < len → len < length others → All (λ b. 32 < b) (take len others) → rest ≡ drop len others
    → is_blank (get_or rest 0 0) ≡ true → fields_of rest ≡ fields_of time → Some seconds ≡ whole_number time → fields_of text ≡ take len others ∷ time ∷ []
two_plain text others rest time len seconds first some within clean e blank second read =
    let here : is_blank (get_or others len 0) ≡ true = ap is_blank (sym (ap (λ (l : List ℕ). get_or l 0 0) e ∙ get_or-drop len others 0 0 ∙ ap (λ (k : ℕ). get_or others k 0) (let z : len + 0 ≡ len = omega arith in z))) ∙ blank in
    first
    ∙ fields_of-front others len some within
    (λ k before. high_is_no_blank (get_or others k 0) (subst (λ (b : ℕ). 32 < b) (get_or-take len others k 0 before) (clean k 0 (omega (arith, length-take-le len others (omega arith))))))
    here
    ∙ ap (λ (l : List (List ℕ)). take len others ∷ l) (ap fields_of (sym e) ∙ second ∙ seconds_alone time seconds read)

-- the point of a legal path, a value that was read and whole seconds
at_seconds : (path value time : List ℕ) (now seconds : ℕ) (v : ℤ) → path_fault path ≡ None → milli_result value ≡ Ok v → Some seconds ≡ whole_number time
    → point_result path value time now ≡ where_read (moment_result seconds) (λ fault. Time fault) (λ t. Ok (record { path = path; time = t; value = v }))
unfolding point_result
at_seconds path value time now seconds v legal read whole = rw (legal, read, sym (stamp_of_whole time now seconds whole)) refl

pub plain_point : (path value time : List ℕ) (now seconds t : ℕ) (v : ℤ) → path_fault path ≡ None → milli_result value ≡ Ok v → whole_number time ≡ Some seconds → Ok t ≡ moment_result seconds
    → point_result path value time now ≡ Ok (record { path = path; time = t; value = v })
plain_point path value time now seconds t v legal read whole moment = rw (at_seconds path value time now seconds v legal read (sym whole), sym moment) refl

pub plain_fault : (path value time : List ℕ) (now seconds : ℕ) (v : ℤ) (fault : StampFault) → path_fault path ≡ None → milli_result value ≡ Ok v → whole_number time ≡ Some seconds → Err fault ≡ moment_result seconds
    → point_result path value time now ≡ Err (Time fault)
plain_fault path value time now seconds v fault legal read whole moment = rw (at_seconds path value time now seconds v legal read (sym whole), sym moment) refl
