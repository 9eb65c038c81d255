-- Replacements, and the names that they make.
use Rattle.std.proofs.Common.{◌≡◌, ◌≢◌, ℕ, ◌+◌, ◌-◌, ◌*◌, ◌/◌, ◌%◌, ◌<◌, ◌≤◌, ◌==◌, Bool, true, false, cond, List, [], ◌∷◌, ◌++◌, length, map, get_or, slice_range, Option, Some, None, IsSomeAnd, refl, sym, ap, ap₂, ◌∙◌, subst, arith, append_assoc, append-nil, nat_le, ◌&&◌, ⊎_elim, ne_eqb}
use Rattle.std.proofs.lemmas.Bool.{cases_lt, cond-false}
use Rattle.std.proofs.lemmas.Bool.Decides.{nat_tests}
use Rattle.std.proofs.lemmas.Str.{encode_ascii}
use Rattle.regex_hir.proofs.Utf8Lemmas.{encode_two, encode_three, encode_four}
use Rattle.std.specs.Option.{option_map_or}
use Rattle.std.specs.Char.{encode_utf8}
use Rattle.std.specs.Str.{chars}
use Rattle.regex.specs.Patterns.{Match, find_all_str, span, SameCaptures, default_config}
use Rattle.regex.specs.Replace.{IsReplacedBy, group_bytes, bytes_of, replaced_by}
use Rattle.regex.specs.Writes.{both, group_of}
use Rattle.regex.proofs.ForCallers.{find_all_alike, spans}
use Rattle.regex.specs.Strings.{IsCapturesOf, captures_haystack, captures_span}
use Rattle.regex.specs.declared.string.captures.Captures.{Captures}
use Rattle.regex_hir.specs.Re.{Re}
use Rattle.regex_syntax.specs.Grammar.{Names, read}
use Rattle.regex_syntax.specs.Brackets.{Nested}
use Rattle.name_pattern.specs.Patterns.{SearchesFor}
use Rattle.name_pattern.specs.Substitution.{Writes, group_called, opened, substituted, written}

-- ---- what a replacement writes

-- the first nine groups are all that a replacement sees
by_group : (f g : ℕ → List ℕ) → ((n : ℕ) → 1 ≤ n → f n ≡ g n) → (o : Option ℕ) → ((n : ℕ) → o ≡ Some n → 1 ≤ n) → (xs ys us vs : List ℕ) → xs ≡ ys → us ≡ vs
    → option_map_or (λ n. f n ++ xs) o us ≡ option_map_or (λ n. g n ++ ys) o vs
by_group f g alike None few xs ys us vs ex eu = eu
by_group f g alike (Some n) few xs ys us vs ex eu = ap₂ ◌++◌ (alike n (few n refl)) ex

called_within : (b : Bool) (c n : ℕ) → cond b (group_called c) None ≡ Some n → 1 ≤ n
called_within true c n is = by_test (nat_le 49 c && nat_le c 57) refl is
  where
    by_test : (t : Bool) → (nat_le 49 c && nat_le c 57) ≡ t → ◌≡◌ {A = Option ℕ} (cond t (Some (c - 48)) None) (Some n) → 1 ≤ n
    by_test true test is = let same : c - 48 ≡ n = cc in rw (← same) (grind (arith, nat_tests))
    by_test false test is = absurd cc
called_within false c n is = absurd cc

pub written_alike : (f g : ℕ → List ℕ) → ((n : ℕ) → 1 ≤ n → f n ≡ g n) → (text : List ℕ) → written f text ≡ written g text
unfolding written
written_alike f g alike [] = refl
written_alike f g alike (b ∷ []) = refl
written_alike f g alike (b ∷ c ∷ rest) =
    by_group f g alike (cond (b == 92) (group_called c) None) (called_within (b == 92) c) _ _ _ _ (written_alike f g alike rest) (ap (λ (l : List ℕ). b ∷ l) (written_alike f g alike (c ∷ rest)))

-- a byte that is no backslash is itself
plain_byte : (group : ℕ → List ℕ) (b : ℕ) (rest : List ℕ) → (b == 92) ≡ false → written group (b ∷ rest) ≡ b ∷ written group rest
unfolding written
plain_byte group b [] is = refl
plain_byte group b (c ∷ rest) is = rw is refl

-- no byte is a backslash
abbrev pub IsPlain : List ℕ → Type 0
IsPlain [] = Unit {0}
IsPlain (x ∷ xs) = ((x == 92) ≡ false) × IsPlain xs

-- so are bytes that are none
plain_bytes : (group : ℕ → List ℕ) (xs rest : List ℕ) → IsPlain xs → written group (xs ++ rest) ≡ xs ++ written group rest
plain_bytes group [] rest none = refl
plain_bytes group (x ∷ xs) rest none =
    plain_byte group x (xs ++ rest) none.0 ∙ ap (λ (l : List ℕ). x ∷ l) (plain_bytes group xs rest none.1)

-- a character has one byte, or only bytes behind those of ASCII
pub record IsWide (c first : ℕ) (rest : List ℕ) : Type 0 where
  pub spelled : encode_utf8 c ≡ first ∷ rest
  pub far : 128 ≤ first
  pub plain : IsPlain rest

wide_char : (c : ℕ) → 128 ≤ c → (first : ℕ) × (rest : List ℕ) × IsWide c first rest
wide_char c wide =
    ⊎_elim
    (λ two. (192 + c / 64, (128 + c % 64) ∷ [], record { spelled = encode_two c wide two; far = omega arith; plain = (ne_eqb _ _ (omega arith), tt) }))
    (λ more.
    ⊎_elim
    (λ three. (
      224 + c / 4096,
      (128 + (c / 64) % 64) ∷ (128 + c % 64) ∷ [],
      record {
        spelled = encode_three c more three;
        far = omega arith;
        plain = (ne_eqb _ _ (omega arith), (ne_eqb _ _ (omega arith), tt));
      },
    ))
    (λ four. (
      240 + c / 262144,
      (128 + (c / 4096) % 64) ∷ (128 + (c / 64) % 64) ∷ (128 + c % 64) ∷ [],
      record {
        spelled = encode_four c four;
        far = omega arith;
        plain = (ne_eqb _ _ (omega arith), (ne_eqb _ _ (omega arith), (ne_eqb _ _ (omega arith), tt)));
      },
    ))
    (cases_lt c 0x1_0000))
    (cases_lt c 0x800)

plain_char : (c : ℕ) → c ≢ 92 → IsPlain (encode_utf8 c)
plain_char c other =
    ⊎_elim
    (λ ascii. subst IsPlain (sym (encode_ascii c ascii)) (ne_eqb c 92 other, tt))
    (λ wide.
    let w = wide_char c wide in
    let far : 128 ≤ w.0 = w.2.far in
    subst IsPlain (sym w.2.spelled) (ne_eqb w.0 92 (omega (arith, far)), w.2.plain))
    (cases_lt c 128)

far_called : (x : ℕ) → 57 < x → group_called x ≡ None
far_called x far =
    let past : nat_le x 57 ≡ false = grind (arith, nat_tests) in
    by_first (nat_le 49 x) past
  where
    by_first : (t : Bool) → nat_le x 57 ≡ false → ◌≡◌ {A = Option ℕ} (cond (t && nat_le x 57) (Some (x - 48)) None) None
    by_first true past = rw past refl
    by_first false past = refl

called_small : (c n : ℕ) → group_called c ≡ Some n → c < 128
called_small c n is =
    ⊎_elim
    (λ small. small)
    (λ wide. let none : ◌≡◌ {A = Option ℕ} None (Some n) = sym (far_called c (omega (arith, wide))) ∙ is in absurd cc)
    (cases_lt c 128)

-- a backslash is itself where no digit of a group follows
open_byte : (group : ℕ → List ℕ) (x : ℕ) (rest : List ℕ) → group_called x ≡ None → written group (92 ∷ x ∷ rest) ≡ 92 ∷ written group (x ∷ rest)
unfolding written
open_byte group x rest none = rw none refl

open_char : (group : ℕ → List ℕ) (c : ℕ) (rest : List ℕ) → group_called c ≡ None → written group (92 ∷ (encode_utf8 c ++ rest)) ≡ 92 ∷ written group (encode_utf8 c ++ rest)
open_char group c rest none =
    ⊎_elim
    (λ ascii. rw (encode_ascii c ascii) (open_byte group c rest none))
    (λ wide.
    let w = wide_char c wide in
    let far : 128 ≤ w.0 = w.2.far in
    rw w.2.spelled (open_byte group w.0 (w.1 ++ rest) (far_called w.0 (omega (arith, far)))))
    (cases_lt c 128)

called_bytes : (group : ℕ → List ℕ) (x n : ℕ) (rest : List ℕ) → group_called x ≡ Some n → written group (92 ∷ x ∷ rest) ≡ group n ++ written group rest
unfolding written
called_bytes group x n rest is = rw is refl

-- ---- the steps of a replacement

pub writes_backslash : (group : ℕ → List ℕ) (c : ℕ) (before after : List ℕ) → c ≡ 92 → after ≡ before → Writes group false c before after true
writes_backslash group c before after is same =
    ([], same ∙ sym (append-nil before), λ rest. ap (λ (l : List ℕ). written group (l ++ rest)) (ap encode_utf8 is ∙ encode_ascii 92 (omega arith)))

pub writes_plain : (group : ℕ → List ℕ) (c : ℕ) (before after : List ℕ) → c ≢ 92 → after ≡ before ++ encode_utf8 c → Writes group false c before after false
writes_plain group c before after other same = (encode_utf8 c, same, λ rest. plain_bytes group (encode_utf8 c) rest (plain_char c other))

pub writes_group : (group : ℕ → List ℕ) (c n : ℕ) (before after : List ℕ) → group_called c ≡ Some n → after ≡ before ++ group n → Writes group true c before after false
writes_group group c n before after is same =
    (group n, same, λ rest. ap (λ (l : List ℕ). written group (92 ∷ (l ++ rest))) (encode_ascii c (called_small c n is)) ∙ called_bytes group c n rest is)

pub writes_behind : (group : ℕ → List ℕ) (c : ℕ) (before between after : List ℕ) (is_open : Bool) → group_called c ≡ None → between ≡ before ++ encode_utf8 92
    → Writes group false c between after is_open → Writes group true c before after is_open
writes_behind group c before between after is_open none same w = (
  92 ∷ w.0,
  w.1 ∙ ap (λ (l : List ℕ). l ++ w.0) (same ∙ ap (λ (l : List ℕ). before ++ l) (encode_ascii 92 (omega arith))) ∙ append_assoc before (92 ∷ []) w.0,
  λ rest. open_char group c rest none ∙ ap (λ (l : List ℕ). 92 ∷ l) (w.2 rest),
)

pub writes_step : (group : ℕ → List ℕ) (c : ℕ) (before after left rest all : List ℕ) (is_open is_open' : Bool) → left ≡ encode_utf8 c ++ rest → Writes group is_open c before after is_open'
    → before ++ written group (opened is_open ++ left) ≡ all → after ++ written group (opened is_open' ++ rest) ≡ all
writes_step group c before after left rest all is_open is_open' next w done =
    ap (λ (l : List ℕ). l ++ written group (opened is_open' ++ rest)) w.1
    ∙ append_assoc before w.0 (written group (opened is_open' ++ rest))
    ∙ ap (λ (l : List ℕ). before ++ l) (sym (w.2 rest) ∙ ap (λ (l : List ℕ). written group (opened is_open ++ l)) (sym next))
    ∙ done

pub writes_end : (group : ℕ → List ℕ) (is_open : Bool) (left : List ℕ) → length left ≡ 0 → written group (opened is_open ++ left) ≡ opened is_open
unfolding written
writes_end group true [] none = refl
writes_end group false [] none = refl
writes_end group is_open (b ∷ left) none = absurd (omega (arith, none))

-- ---- names

-- what is written in the place of each match is told by its span and its groups
replaced_same : (f g : Match → List ℕ) (name : List ℕ) → ((x y : Match) → spans x ≡ spans y → f x ≡ g y) → (xs ys : List Match) → map spans xs ≡ map spans ys → (at : ℕ)
    → replaced_by f name at xs ≡ replaced_by g name at ys
unfolding replaced_by
replaced_same f g name alike [] [] same at = refl
replaced_same f g name alike [] (y ∷ ys) same at = absurd cc
replaced_same f g name alike (x ∷ xs) [] same at = absurd cc
replaced_same f g name alike (x ∷ xs) (y ∷ ys) same at =
    let head : spans x ≡ spans y = cc in
    let tail : map spans xs ≡ map spans ys = cc in
    ap₂ ◌++◌ (ap₂ (λ (i : ℕ) (l : List ℕ). slice_range name at i ++ l) (ap (λ s. s.0) head) (alike x y head))
    (replaced_same f g name alike xs ys tail x.trace.end ∙ ap (λ (i : ℕ). replaced_by g name i ys) (ap (λ s. s.1) head))

replaced_each : (R : Match → List ℕ → Type 0) (f : Match → List ℕ) (name : List ℕ) → ((m : Match) (w : List ℕ) → R m w → w ≡ f m) → (at : ℕ) (ms : List Match) (out : List ℕ)
    → IsReplacedBy R name at ms out → out ≡ replaced_by f name at ms
unfolding replaced_by
replaced_each R f name each at [] out r = r
replaced_each R f name each at (m ∷ ms) out r =
    r.4 ∙ ap₂ (λ (a b : List ℕ). (slice_range name at m.start ++ a) ++ b) (each m r.0 r.2) (replaced_each R f name each m.trace.end ms r.1 r.3)

groups_alike : (name replacement : List ℕ) (x y : Match) → spans x ≡ spans y → written (group_bytes name x) replacement ≡ written (group_bytes name y) replacement
groups_alike name replacement x y same =
    written_alike (group_bytes name x) (group_bytes name y)
    (λ n first. ap (λ s. bytes_of name (cond (n == 0) (Some (s.0, s.1)) (both (s.2 (2 * n)) (s.2 (2 * n + 1))))) same) replacement

-- what is written by what captures show, and by the match of which they are
pub captures_written : (name replacement text : List ℕ) (m : Match) (c : Captures) → IsCapturesOf name m c
    → text ≡ written (λ n. bytes_of (captures_haystack c) (captures_span c n)) replacement → text ≡ written (group_bytes name m) replacement
captures_written name replacement text m c of is =
    is
    ∙ written_alike (λ n. bytes_of (captures_haystack c) (captures_span c n)) (group_bytes name m)
    (λ n first. ap₂ bytes_of of.0 (of.2 n first ∙ sym (cond-false (n == 0) (Some (span m)) (group_of m n) (ne_eqb n 0 (omega (arith, first)))))) replacement

by_reading : (o : Option (Nested Re × Names)) (re : Re) (replacement name : List ℕ) → IsSomeAnd o (λ (found, _). SameCaptures re found.value)
    → ((k : ℕ) → get_or name k 0 < 256)
    → replaced_by (λ m. written (group_bytes name m) replacement) name 0 (find_all_str re name)
    ≡ option_map_or (λ (found, _). replaced_by (λ m. written (group_bytes name m) replacement) name 0 (find_all_str found.value name)) o name
by_reading None re replacement name reads bytes = absurd reads
by_reading (Some (found, names)) re replacement name reads bytes =
    replaced_same _ _ name (groups_alike name replacement) (find_all_str re name) (find_all_str found.value name) (find_all_alike reads name bytes true) 0

-- what is written in the place of each match of what is searched for makes the name that the pattern's text says
pub substituted_by_text : (R : Match → List ℕ → Type 0) (text : List ℕ) (re : Re) (replacement name out : List ℕ) → SearchesFor text re → ((k : ℕ) → get_or name k 0 < 256)
    → ((m : Match) (w : List ℕ) → R m w → w ≡ written (group_bytes name m) replacement) → IsReplacedBy R name 0 (find_all_str re name) out → out ≡ substituted text replacement name
unfolding substituted
substituted_by_text R text re replacement name out searches bytes each r =
    replaced_each R (λ m. written (group_bytes name m) replacement) name each 0 (find_all_str re name) out r
    ∙ by_reading (read default_config (chars text)) re replacement name searches bytes
