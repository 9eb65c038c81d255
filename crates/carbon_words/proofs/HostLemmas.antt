-- Which texts are addresses.
use Rattle.std.proofs.Common.{◌≡◌, ◌≢◌, ◌++◌, append_assoc, rules, ◌∙◌, ◌<◌, ℕ, true, false, List, [], ◌∷◌, Option, Some, None, decimal, refl, sym, ap, subst, arith, le-leb, leb-true, ne_eqb}
use Rattle.std.specs.List.{All, join_with_byte, slice_split}
use Rattle.std.specs.Prelude.{bytes_eq}
use Rattle.std.specs.Net.Addr.{ipv4_octets}
use Rattle.std.specs.Net.Grammar.{IsDotted, IsIpv4Text}
use Rattle.std.specs.Net.Text.{dotted_text}
use Rattle.std.specs.Char.{digit_value}
use Rattle.std.specs.Str.Parse.{AllDigits, digits_value}
use Rattle.std.specs.declared.net.ipv4_addr.Ipv4Addr.{Ipv4Addr}
use Rattle.std.proofs.NetLemmas.Options.{and_then_some, cond_some, map_some}
use Rattle.std.proofs.lemmas.Bool.{and_parts}
use Rattle.std.proofs.lemmas.Fmt.{decimal_is_IsNumeral}
use Rattle.std.proofs.lemmas.List.Elements.{All-cons, All-nil}
use Rattle.std.proofs.lemmas.List.Splits.{join_with_byte-slice_split, slice_split_at, slice_split_none}
use Rattle.std.proofs.lemmas.Option.{none-some}
use Rattle.std.proofs.lemmas.Slice.Eq.{bytes_eq-Decides}
use Rattle.clap.specs.Walk.{Text}
use Rattle.carbon_words.specs.HostTexts.{address, address_by, address_of, is_dot, octet_of}

-- ---- numbers

same_bytes : (xs : Text) → bytes_eq xs xs ≡ true
same_bytes [] = refl
same_bytes (x ∷ xs) = search (rules, same_bytes xs)

octet_complete : (n : ℕ) → n < 256 → octet_of (decimal n) ≡ Some n
unfolding octet_of
octet_complete n fits =
    let value : digits_value 10 (decimal n) ≡ n = (decimal_is_IsNumeral n (omega arith)).1 in
    rw (value, le-leb n 255 (omega arith), same_bytes (decimal n)) refl

octet_sound : (text : Text) (n : ℕ) → octet_of text ≡ Some n → (n < 256) × (text ≡ decimal n)
unfolding octet_of
octet_sound text n e =
    let (test, value) = cond_some _ (digits_value 10 text) n e in
    let parts = and_parts _ _ test in
    let few = leb-true (digits_value 10 text) 255 parts.0 in
    let spelled : decimal (digits_value 10 text) ≡ text = (bytes_eq-Decides _ _).0 parts.1 in
    (omega (arith, few, value), sym spelled ∙ ap decimal value)

-- ---- an address is read

no_dots : (ds : Text) → AllDigits 10 ds → All (λ x. is_dot x ≡ false) ds
no_dots [] all = All-nil (λ x. is_dot x ≡ false)
no_dots (d ∷ ds) all =
    let other : d ≢ 46 = λ dot. let below : digit_value 46 < 10 = rw dot at all.0 in omega arith in
    All-cons (λ x. is_dot x ≡ false) d ds (ne_eqb d 46 other) (no_dots ds all.1)

undotted : (n : ℕ) → n < 256 → All (λ x. is_dot x ≡ false) (decimal n)
undotted n fits = no_dots (decimal n) (decimal_is_IsNumeral n (omega arith)).0.1

right_dotted : (a b c d : ℕ) → dotted_text a b c d ≡ decimal a ++ (46 ∷ (decimal b ++ (46 ∷ (decimal c ++ (46 ∷ decimal d)))))
right_dotted a b c d = simp append_assoc

split_dotted : (a b c d : ℕ) → (a < 256) × (b < 256) × (c < 256) × (d < 256)
    → slice_split is_dot (dotted_text a b c d) ≡ decimal a ∷ decimal b ∷ decimal c ∷ decimal d ∷ []
split_dotted a b c d fit =
    ap (slice_split is_dot) (right_dotted a b c d)
    ∙ slice_split_at is_dot (decimal a) 46 _ (undotted a fit.0) refl
    ∙ ap (λ (parts : List Text). decimal a ∷ parts) (slice_split_at is_dot (decimal b) 46 _ (undotted b fit.1) refl
    ∙ ap (λ (parts : List Text). decimal b ∷ parts) (slice_split_at is_dot (decimal c) 46 _ (undotted c fit.2) refl
    ∙ ap (λ (parts : List Text). decimal c ∷ parts) (slice_split_none is_dot (decimal d) (undotted d fit.3))))

pub address_complete : (text : Text) (a : Ipv4Addr) → IsIpv4Text text a → address_of text ≡ Some a
unfolding address_of
address_complete text a is =
    let parts : slice_split is_dot text ≡ decimal is.a ∷ decimal is.b ∷ decimal is.c ∷ decimal is.d ∷ [] =
    ap (slice_split is_dot) is.spelled ∙ split_dotted is.a is.b is.c is.d is.fit in
    ap address_by parts
    ∙ rw (octet_complete is.a is.fit.0, octet_complete is.b is.fit.1, octet_complete is.c is.fit.2, octet_complete is.d is.fit.3)
    (ap (λ (octets : List ℕ). Some (address octets)) (sym is.value))

-- ---- what is read is an address

by_sound : (parts : List Text) (a : Ipv4Addr) → address_by parts ≡ Some a → IsDotted (join_with_byte 46 parts) (ipv4_octets a)
by_sound [] a e = absurd (none-some a e)
by_sound (p ∷ []) a e = absurd (none-some a e)
by_sound (p ∷ q ∷ []) a e = absurd (none-some a e)
by_sound (p ∷ q ∷ r ∷ []) a e = absurd (none-some a e)
by_sound (p ∷ q ∷ r ∷ s ∷ []) a e =
    and_then_some _ (octet_of p) a e λ w is_w e₁.
    and_then_some _ (octet_of q) a e₁ λ x is_x e₂.
    and_then_some _ (octet_of r) a e₂ λ y is_y e₃.
    map_some _ (octet_of s) a e₃ λ z is_z made.
    let at_w = octet_sound p w is_w in
    let at_x = octet_sound q x is_x in
    let at_y = octet_sound r y is_y in
    let at_z = octet_sound s z is_z in
    record {
      a = w;
      b = x;
      c = y;
      d = z;
      fit = (at_w.0, at_x.0, at_y.0, at_z.0);
      value = ap ipv4_octets (sym made);
      spelled = rw (at_w.1, at_x.1, at_y.1, at_z.1) (sym (right_dotted w x y z));
    }
by_sound (p ∷ q ∷ r ∷ s ∷ t ∷ more) a e = absurd (none-some a e)

address_sound : (text : Text) (a : Ipv4Addr) → address_of text ≡ Some a → IsIpv4Text text a
unfolding address_of
address_sound text a e =
    subst (λ (t : Text). IsDotted t (ipv4_octets a)) (join_with_byte-slice_split 46 text) (by_sound (slice_split is_dot text) a e)

pub no_address : (text : Text) → ((a : Ipv4Addr) → ¬ (IsIpv4Text text a)) → address_of text ≡ None
no_address text none = go (address_of text) refl
  where
    go : (o : Option Ipv4Addr) → address_of text ≡ o → address_of text ≡ None
    go None e = e
    go (Some a) e = absurd (none a (address_sound text a e))
