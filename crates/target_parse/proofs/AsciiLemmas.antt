-- Stretches are ASCII.
use Rattle.std.proofs.Common.{◌≡◌, ℕ, suc, ◌<◌, Bool, true, false, cond, List, [], ◌∷◌, take, IsAscii, IsUtf8, refl, arith}
use Rattle.std.proofs.lemmas.Bool.Decides.{nat_tests}
use Rattle.std.proofs.lemmas.Str.{IsUtf8-from_ascii}
use Rattle.std.proofs.lemmas.Str.Ascii.{IsAscii-cons, IsAscii-nil}
use Rattle.path_glob.specs.Stretch.{is_held, is_in_braces, stretch_len}
use Rattle.target_parse.specs.Bytes.{stretch_of}

held_small : (in_braces : Bool) (b : ℕ) → is_held in_braces b ≡ true → b < 128
held_small true b held = grind (arith, nat_tests)
held_small false b held = grind (arith, nat_tests)

ascii_step : (in_braces : Bool) (b n : ℕ) (rest : List ℕ) (held : Bool) → is_held in_braces b ≡ held → IsAscii (take n rest) → IsAscii (take (cond held (suc n) 0) (b ∷ rest))
ascii_step in_braces b n rest true e ascii = IsAscii-cons b (take n rest) (held_small in_braces b e) ascii
ascii_step in_braces b n rest false e ascii = IsAscii-nil

ascii_stretch : (in_braces : Bool) (text : List ℕ) → IsAscii (take (stretch_len in_braces text) text)
ascii_stretch in_braces [] = IsAscii-nil
ascii_stretch in_braces (b ∷ rest) =
    ascii_step in_braces b (stretch_len (is_in_braces in_braces b) rest) rest (is_held in_braces b) refl (ascii_stretch (is_in_braces in_braces b) rest)

pub stretch_is_ascii : (text : List ℕ) → IsAscii (stretch_of text)
stretch_is_ascii text = ascii_stretch false text

pub ascii_is_utf8 : (text : List ℕ) → IsAscii text → IsUtf8 text
ascii_is_utf8 text ascii = IsUtf8-from_ascii text ascii
