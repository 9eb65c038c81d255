-- Globs without a wildcard.
use Rattle.std.proofs.Common.{◌≡◌, ℕ, ◌≤◌, ◌↔◌, ◌==◌, Bool, true, false, List, [], ◌∷◌, length, All, subst, refl, sym, ◌∙◌, arith}
use Rattle.std.specs.List.{position_or_len}
use Rattle.std.proofs.lemmas.Bool.{eqb-true}
use Rattle.std.proofs.lemmas.List.{length-take, take_all}
use Rattle.std.proofs.lemmas.List.Elements.{All-from_get_or, All-head, All-tail}
use Rattle.std.proofs.lemmas.List.Sums.{fails_before_first}
use Rattle.path_glob.specs.Laws.{DotThen, FirstThen, FitsPath, IsByte, literal_front}
use Rattle.path_glob.specs.Reading.{is_special}

-- what the law of bytes says
record Bytes : Type 0 where
  end : (path : List ℕ) → FitsPath [] path → path ≡ []
  byte : (b : ℕ) (glob path : List ℕ) → is_special b ≡ false → (b == 46) ≡ false → FitsPath (b ∷ glob) path → FirstThen (IsByte b) glob path
  dot : (glob path : List ℕ) → FitsPath (46 ∷ glob) path → DotThen glob path

literal_by : Bytes → (b : ℕ) (glob path : List ℕ) (is_dot : Bool) → (b == 46) ≡ is_dot → is_special b ≡ false → ((rest : List ℕ) → FitsPath glob rest → rest ≡ glob) → FitsPath (b ∷ glob) path → path ≡ b ∷ glob
literal_by bytes b glob path true dot plain others fits =
    let same : b ≡ 46 = eqb-true b 46 dot in
    let first = bytes.dot glob path (subst (λ (x : ℕ). FitsPath (x ∷ glob) path) same fits) in
    let rest = others first.0 first.2 in
    first.1 ∙ cc (same, rest)
literal_by bytes b glob path false dot plain others fits =
    let first = bytes.byte b glob path plain dot fits in
    let rest = others first.1 first.5 in
    first.2 ∙ cc (first.4, rest)

literal_fits : Bytes → (glob path : List ℕ) → All (λ b. is_special b ≡ false) glob → FitsPath glob path → path ≡ glob
literal_fits bytes [] path plain fits = bytes.end path fits
literal_fits bytes (b ∷ glob) path plain fits =
    literal_by bytes b glob path (b == 46) refl (All-head (λ x. is_special x ≡ false) b glob plain)
    (λ rest fit. literal_fits bytes glob rest (All-tail (λ x. is_special x ≡ false) b glob plain) fit) fits

-- where nothing stands behind the literal front, the glob fits the front alone
pub fits_its_text : ((path : List ℕ) → FitsPath [] path ↔ (path ≡ []))
    → ((b : ℕ) (glob path : List ℕ) → is_special b ≡ false → (b == 46) ≡ false → (FitsPath (b ∷ glob) path ↔ FirstThen (IsByte b) glob path))
    → ((glob path : List ℕ) → FitsPath (46 ∷ glob) path ↔ DotThen glob path)
    → (text path : List ℕ) → length (literal_front text) ≡ length text → FitsPath text path → path ≡ literal_front text
fits_its_text end byte dot text path whole fits =
    let at = position_or_len is_special text in
    let far : length text ≤ at = omega (arith, whole, length-take at text) in
    let plain : All (λ b. is_special b ≡ false) text = All-from_get_or (λ b. is_special b ≡ false) text 0 (λ k within. fails_before_first is_special text k 0 (omega (arith, within, far))) in
    let bytes : Bytes = record { end = λ p. (end p).0; byte = λ b g p plain' none. (byte b g p plain' none).0; dot = λ g p. (dot g p).0 } in
    literal_fits bytes text path plain fits ∙ sym (take_all at text far)
