-- Lemmas on the file names of paths.
use Rattle.std.proofs.Common.{◌≡◌, ℕ, ◌<◌, true, false, List, [], ◌∷◌, ◌++◌, map, All, Option, Some, None, IsAscii, IsUtf8, MatchOption, codes, lit<, subst, sym, ap, ◌∙◌, refl, arith}
use Rattle.std.specs.List.{list_any}
use Rattle.std.proofs.lemmas.Bool.{or_parts}
use Rattle.std.proofs.lemmas.Bool.Decides.{nat_tests}
use Rattle.std.proofs.lemmas.List.{append_cancel_right}
use Rattle.std.proofs.lemmas.List.Elements.{All-from_get_or, All-head, All-tail}
use Rattle.std.proofs.lemmas.Str.{IsAscii-append, IsUtf8-from_ascii}
use Rattle.std.proofs.lemmas.Str.Ascii.{IsAscii-cons, IsAscii-map, IsAscii-nil}
use Rattle.metric_path.specs.Path.{is_bad_byte, is_dot, path_fault}
use Rattle.metric_path.specs.FileName.{HasFileName, dot_for_slash, file_name_of, slash_for_dot}
use Rattle.metric_path.proofs.PathLemmas.{ascii_of_legal, bytes_of_legal}

-- a legal byte comes back from its byte in a file name
back_from_name : (b : ℕ) → is_bad_byte b ≡ false → dot_for_slash (slash_for_dot b) ≡ b
back_from_name b good = grind (arith, nat_tests)

-- no byte of a file name's stem is a dot
never_dot : (b : ℕ) → is_dot (slash_for_dot b) ≡ false
never_dot b = grind (arith, nat_tests)

-- a byte that is no dot comes back from its byte in a path
back_from_path : (b : ℕ) → is_dot b ≡ false → slash_for_dot (dot_for_slash b) ≡ b
back_from_path b none = grind (arith, nat_tests)

texts_back : (text : List ℕ) → All (λ b. is_bad_byte b ≡ false) text → map dot_for_slash (map slash_for_dot text) ≡ text
texts_back [] good = refl
texts_back (b ∷ text) good = cc (back_from_name b (All-head (λ x. is_bad_byte x ≡ false) b text good), texts_back text (All-tail (λ x. is_bad_byte x ≡ false) b text good))

-- the text of a legal path comes back from the stem of its file name
pub text_of_legal_stem : (text : List ℕ) → path_fault text ≡ None → map dot_for_slash (map slash_for_dot text) ≡ text
text_of_legal_stem text legal = texts_back text (All-from_get_or (λ b. is_bad_byte b ≡ false) text 0 (bytes_of_legal text legal))

pub stem_has_no_dot : (text : List ℕ) → list_any is_dot (map slash_for_dot text) ≡ false
stem_has_no_dot [] = refl
stem_has_no_dot (b ∷ text) = rw (never_dot b, stem_has_no_dot text) refl

pub stem_of_text : (stem : List ℕ) → list_any is_dot stem ≡ false → map slash_for_dot (map dot_for_slash stem) ≡ stem
stem_of_text [] none = refl
stem_of_text (b ∷ stem) none =
    let parts = or_parts (is_dot b) (list_any is_dot stem) none in cc (back_from_path b parts.0, stem_of_text stem parts.1)

-- the stems of one file name are one
pub same_stem : (stem other : List ℕ) → stem ++ codes ".ring" ≡ other ++ codes ".ring" → stem ≡ other
same_stem stem other same = append_cancel_right stem other (codes ".ring") same

-- two legal paths with one file name are one path
pub file_names_differ : (text other : List ℕ) → path_fault text ≡ None → path_fault other ≡ None → file_name_of text ≡ file_name_of other → text ≡ other
file_names_differ text other legal legal' same =
    sym (text_of_legal_stem text legal) ∙ ap (map dot_for_slash) (same_stem (map slash_for_dot text) (map slash_for_dot other) same) ∙ text_of_legal_stem other legal'

-- a name that does not end in `.ring`, or has a dot before it, is no path's file name
pub name_ends_in_suffix : (name text : List ℕ) → ((stem : List ℕ) → name ≡ stem ++ codes ".ring" → ⊥) → file_name_of text ≡ name → ⊥
name_ends_in_suffix name text other same = other (map slash_for_dot text) (sym same)

pub name_has_no_dot : (name stem text : List ℕ) → name ≡ stem ++ codes ".ring" → list_any is_dot stem ≡ true → file_name_of text ≡ name → ⊥
name_has_no_dot name stem text ends dot same =
    let alike = same_stem (map slash_for_dot text) stem (same ∙ ends) in
    let none = stem_has_no_dot text in
    let told = ap (list_any is_dot) alike in
    absurd cc

-- the name of the path that a stem gives, and the path that gave a name
pub name_of_stem : (name stem : List ℕ) → name ≡ stem ++ codes ".ring" → list_any is_dot stem ≡ false → file_name_of (map dot_for_slash stem) ≡ name
name_of_stem name stem ends none = ap (λ (l : List ℕ). l ++ codes ".ring") (stem_of_text stem none) ∙ sym ends

pub text_of_name : (name stem text : List ℕ) → name ≡ stem ++ codes ".ring" → path_fault text ≡ None → file_name_of text ≡ name → map dot_for_slash stem ≡ text
text_of_name name stem text ends legal same = ap (map dot_for_slash) (sym (same_stem (map slash_for_dot text) stem (same ∙ ends))) ∙ text_of_legal_stem text legal

-- the bytes of a file name are ASCII
ascii_name : (b : ℕ) → b < 128 → slash_for_dot b < 128
ascii_name b small = grind (arith, nat_tests)

ascii_suffix : IsAscii (codes ".ring")
ascii_suffix = IsAscii-cons 46 (codes "ring") (lit< tt) (IsAscii-cons 114 (codes "ing") (lit< tt) (IsAscii-cons 105 (codes "ng") (lit< tt) (IsAscii-cons 110 (codes "g") (lit< tt) (IsAscii-cons 103 [] (lit< tt) IsAscii-nil))))

pub utf8_of_file_name : (text : List ℕ) → path_fault text ≡ None → IsUtf8 (file_name_of text)
utf8_of_file_name text legal =
    IsUtf8-from_ascii (file_name_of text) (IsAscii-append (map slash_for_dot text) (codes ".ring") (IsAscii-map slash_for_dot text ascii_name (ascii_of_legal text legal)) ascii_suffix)

-- the path that is made of a stem has the name, and is the only legal one that has it
pub HasFileName-from_stem : (path : Option (List ℕ)) (name stem text : List ℕ) → name ≡ stem ++ codes ".ring" → list_any is_dot stem ≡ false → text ≡ map dot_for_slash stem
    → MatchOption path (path_fault text ≡ None → ⊥) (λ it. (path_fault text ≡ None) × (it ≡ text)) → HasFileName path name
HasFileName-from_stem None name stem text ends none is made =
    λ other legal same. made (subst (λ (l : List ℕ). path_fault l ≡ None) (sym (is ∙ text_of_name name stem other ends legal same)) legal)
HasFileName-from_stem (Some it) name stem text ends none is made =
    (subst (λ (l : List ℕ). path_fault l ≡ None) (sym made.1) made.0, ap file_name_of (made.1 ∙ is) ∙ name_of_stem name stem ends none)

pub own_path : (path : Option (List ℕ)) (name : List ℕ) → HasFileName path name → (text : List ℕ) → path_fault text ≡ None → file_name_of text ≡ name → path ≡ Some text
own_path None name named text legal same = absurd (named text legal same)
own_path (Some it) name named text legal same = ap (λ (l : List ℕ). Some l) (file_names_differ it text named.0 legal (named.1 ∙ sym same))
