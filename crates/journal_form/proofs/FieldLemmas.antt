-- A field that is read is the field that was written, and what was written is read again.
use Rattle.std.proofs.Common.{◌≡◌, ℕ, ℤ, suc, ◌+◌, ◌^◌, ◌<◌, ◌≤◌, Bool, true, false, cond, ltb, List, [], ◌∷◌, ◌++◌, length, get_or, take, drop, Option, Some, None, refl, sym, ap, subst, ◌∙◌, append_assoc, arith, ◌⊎◌, inl, inr, eqb}
use Rattle.std.specs.Prelude.{IfSome, option_map}
use Rattle.std.specs.Option.{is_none}
use Rattle.std.specs.Int.{Width, w16, w32, w64, w128, byte_len, cast_signed, from_be_bytes, to_be_bytes}
use Rattle.std.proofs.lemmas.Bool.{cases_lt, eqb-true, ltb-false, le-ltb}
use Rattle.std.proofs.lemmas.List.{take_at, drop_at, take-append-drop, length-append, length-take, get_or-drop, get_or-take, get_or_past}
use Rattle.std.proofs.lemmas.Nat.{be_bytes_2, be_bytes_4, be_bytes_8, from_be_bytes-to_be_bytes_2, from_be_bytes-to_be_bytes_4, from_be_bytes-to_be_bytes_8}
use Rattle.std.proofs.lemmas.Option.{cond_some}
use Rattle.carbon_history.specs.declared.entry.PutEnd.{PutEnd}
use Rattle.carbon_history.specs.declared.entry.PutEnd.TheVariants.{Stored, Replaced, Full}
use Rattle.fixed_num.specs.Decimal.{fits}
use Rattle.fixed_num.specs.Milli.{IsMilli, milli_bytes, milli_of_bytes, value_of}
use Rattle.fixed_num.proofs.FitLemmas.{fits_is_milli}
use Rattle.fixed_num.proofs.MilliBytes.{milli_is_read, milli_is_written}
use Rattle.metric_path.specs.declared.path.PathFault.{PathFault}
use Rattle.metric_path.specs.Path.{path_fault}
use Rattle.metric_path.proofs.PathLemmas.{length_of_legal}
use Rattle.journal_form.specs.Form.{end_byte, text_bytes}
use Rattle.journal_form.specs.Read.{◌>>=◌, byte_at, end_at, end_of, number_at, path_at, piece_at, text_at, value_at}

abbrev pub IsBytes : List ℕ → Type 0
IsBytes bytes = (i : ℕ) → get_or bytes i 0 < 256

IsBytes-drop : (n : ℕ) (bytes : List ℕ) → IsBytes bytes → IsBytes (drop n bytes)
IsBytes-drop n bytes h i = rw get_or-drop (h (n + i))

IsBytes-take : (n : ℕ) (bytes : List ℕ) → IsBytes bytes → IsBytes (take n bytes)
IsBytes-take n bytes h i =
    elim (cases_lt i n) [
      | inl lt ↦ rw (get_or-take n bytes i 0 lt) (h i)
      | inr le ↦ rw (get_or_past (take n bytes) i 0 (omega (arith, length-take n bytes))) (omega arith)
    ]

IsBytes-rest : (b : ℕ) (bytes : List ℕ) → IsBytes (b ∷ bytes) → IsBytes bytes
IsBytes-rest b bytes h i = h (suc i)

-- ---- steps

-- the value of a step that was made
pub bind_some : {A B : Type 0} (o : Option A) (f : A → Option B) (y : B) → (o >>= f) ≡ Some y → (x : A) × (o ≡ Some x) × (f x ≡ Some y)
bind_some (Some x) f y e = (x, refl, e)
bind_some None f y e = absurd cc

-- a test that was passed
guard_some : {A : Type 0} (b : Bool) (x y : A) → cond b None (Some x) ≡ Some y → (b ≡ false) × (x ≡ y)
guard_some true x y e = absurd cc
guard_some false x y e = (refl, cc)

pub some_is : {A : Type 0} (x y : A) → Some x ≡ Some y → x ≡ y
some_is x y e = cc

-- what a reader took from the front
pub record Takes (bytes text rest : List ℕ) : Type 0 where
  pub parts : bytes ≡ text ++ rest
  pub rest_fits : IsBytes rest

pub Takes-then : (a x b y c : List ℕ) → Takes a x b → Takes b y c → Takes a (x ++ y) c
Takes-then a x b y c p q = record { parts = p.parts ∙ ap (λ (t : List ℕ). x ++ t) q.parts ∙ sym (append_assoc x y c); rest_fits = q.rest_fits }

-- ---- numbers

pub record IsWide (w : Width) (limit : ℕ) : Type 0 where
  pub len : (n : ℕ) → length (to_be_bytes w n) ≡ byte_len w
  pub back : (bytes : List ℕ) → length bytes ≡ byte_len w → IsBytes bytes → to_be_bytes w (from_be_bytes w bytes) ≡ bytes
  pub again : (n : ℕ) → n < limit → from_be_bytes w (to_be_bytes w n) ≡ n
  pub below : (bytes : List ℕ) → IsBytes bytes → from_be_bytes w bytes < limit

pub wide16 : IsWide w16 (2 ^ 16)
wide16 = record {
  len = λ n. refl;
  back = λ bytes len fits. be_bytes_2 bytes _ len fits refl;
  again = λ n lt. from_be_bytes-to_be_bytes_2 n lt;
  below = λ bytes fits. omega (arith, fits 0, fits 1);
}

pub wide32 : IsWide w32 (2 ^ 32)
wide32 = record {
  len = λ n. refl;
  back = λ bytes len fits. be_bytes_4 bytes _ len fits refl;
  again = λ n lt. from_be_bytes-to_be_bytes_4 n lt;
  below = λ bytes fits. omega (arith, fits 0, fits 1, fits 2, fits 3);
}

pub wide64 : IsWide w64 (2 ^ 64)
wide64 = record {
  len = λ n. refl;
  back = λ bytes len fits. be_bytes_8 bytes _ len fits refl;
  again = λ n lt. from_be_bytes-to_be_bytes_8 n lt;
  below = λ bytes fits. omega (arith, fits 0, fits 1, fits 2, fits 3, fits 4, fits 5, fits 6, fits 7);
}

pub number_takes : (w : Width) (limit : ℕ) (wide : IsWide w limit) (bytes : List ℕ) (x : ℕ × List ℕ) → IsBytes bytes → number_at w bytes ≡ Some x → Takes bytes (to_be_bytes w x.0) x.1 × (x.0 < limit)
number_takes w limit wide bytes x fits e =
    let g = guard_some (ltb (length bytes) (byte_len w)) (from_be_bytes w (take (byte_len w) bytes), drop (byte_len w) bytes) x e in
    let long : byte_len w ≤ length bytes = ltb-false _ _ g.0 in
    let front_fits = IsBytes-take (byte_len w) bytes fits in
    let front : to_be_bytes w (from_be_bytes w (take (byte_len w) bytes)) ≡ take (byte_len w) bytes = wide.back (take (byte_len w) bytes) (omega (arith, long, length-take (byte_len w) bytes)) front_fits in
    subst (λ (y : ℕ × List ℕ). Takes bytes (to_be_bytes w y.0) y.1 × (y.0 < limit)) g.1
    (record { parts = rw front (sym (take-append-drop (byte_len w) bytes)); rest_fits = IsBytes-drop (byte_len w) bytes fits }, wide.below (take (byte_len w) bytes) front_fits)

pub number_again : (w : Width) (limit : ℕ) (wide : IsWide w limit) (n : ℕ) (rest : List ℕ) → n < limit → number_at w (to_be_bytes w n ++ rest) ≡ Some (n, rest)
number_again w limit wide n rest lt =
    let len = wide.len n in
    let long : ltb (length (to_be_bytes w n ++ rest)) (byte_len w) ≡ false = le-ltb _ _ (omega (arith, length-append (to_be_bytes w n) rest)) in
    rw (long, take_at (to_be_bytes w n) rest (byte_len w) len, drop_at (to_be_bytes w n) rest (byte_len w) len, wide.again n lt) refl

-- ---- bytes and texts

pub byte_takes : (bytes : List ℕ) (x : ℕ × List ℕ) → IsBytes bytes → byte_at bytes ≡ Some x → Takes bytes (x.0 ∷ []) x.1 × (x.0 < 256)
unfolding byte_at
byte_takes [] x fits e = absurd cc
byte_takes (b ∷ rest) x fits e =
    subst (λ (y : ℕ × List ℕ). Takes (b ∷ rest) (y.0 ∷ []) y.1 × (y.0 < 256)) (some_is (b, rest) x e) (record { parts = refl; rest_fits = IsBytes-rest b rest fits }, fits 0)

piece_takes : (count : ℕ) (bytes : List ℕ) (x : List ℕ × List ℕ) → IsBytes bytes → piece_at count bytes ≡ Some x → Takes bytes x.0 x.1 × (length x.0 ≡ count)
unfolding piece_at
piece_takes count bytes x fits e =
    let g = guard_some (ltb (length bytes) count) (take count bytes, drop count bytes) x e in
    let long : count ≤ length bytes = ltb-false _ _ g.0 in
    subst (λ (y : List ℕ × List ℕ). Takes bytes y.0 y.1 × (length y.0 ≡ count)) g.1
    (record { parts = sym (take-append-drop count bytes); rest_fits = IsBytes-drop count bytes fits }, omega (arith, long, length-take count bytes))

piece_again : (text rest : List ℕ) → piece_at (length text) (text ++ rest) ≡ Some (text, rest)
unfolding piece_at
piece_again text rest =
    let long : ltb (length (text ++ rest)) (length text) ≡ false = le-ltb _ _ (omega (arith, length-append text rest)) in
    rw (long, take_at text rest (length text) refl, drop_at text rest (length text) refl) refl

-- a piece behind its length
long_piece : (w : Width) (bytes : List ℕ) (n : ℕ × List ℕ) (x : List ℕ × List ℕ) → Takes bytes (to_be_bytes w n.0) n.1 → Takes n.1 x.0 x.1 → length x.0 ≡ n.0 → Takes bytes (to_be_bytes w (length x.0) ++ x.0) x.1
long_piece w bytes n x first second long =
    subst (λ (k : ℕ). Takes bytes (to_be_bytes w k ++ x.0) x.1) (sym long) (Takes-then bytes (to_be_bytes w n.0) n.1 x.0 x.1 first second)

pub text_takes : (bytes : List ℕ) (x : List ℕ × List ℕ) → IsBytes bytes → text_at bytes ≡ Some x → Takes bytes (text_bytes x.0) x.1 × (length x.0 < 2 ^ 32)
unfolding text_at
text_takes bytes x fits e =
    let b = bind_some (number_at w32 bytes) (λ n. piece_at n.0 n.1) x e in
    let t = number_takes w32 (2 ^ 32) wide32 bytes b.0 fits b.1 in
    let p = piece_takes b.0.0 b.0.1 x t.0.rest_fits b.2 in
    (long_piece w32 bytes b.0 x t.0 p.0 p.1, omega (arith, t.1, p.1))

pub text_again : (text rest : List ℕ) → length text < 2 ^ 32 → text_at (text_bytes text ++ rest) ≡ Some (text, rest)
unfolding text_at
text_again text rest lt = rw (number_again w32 (2 ^ 32) wide32 (length text) (text ++ rest) lt) (piece_again text rest)

-- ---- paths

no_fault : (o : Option PathFault) → is_none o ≡ true → o ≡ None
no_fault None e = refl
no_fault (Some fault) e = absurd cc

pub path_takes : (bytes : List ℕ) (x : List ℕ × List ℕ) → IsBytes bytes → path_at bytes ≡ Some x → Takes bytes (to_be_bytes w16 (length x.0) ++ x.0) x.1 × (path_fault x.0 ≡ None)
unfolding path_at
path_takes bytes x fits e =
    let b = bind_some (number_at w16 bytes) (λ n. piece_at n.0 n.1 >>= λ path. cond (is_none (path_fault path.0)) (Some path) None) x e in
    let t = number_takes w16 (2 ^ 16) wide16 bytes b.0 fits b.1 in
    let d = bind_some (piece_at b.0.0 b.0.1) (λ path. cond (is_none (path_fault path.0)) (Some path) None) x b.2 in
    let p = piece_takes b.0.0 b.0.1 d.0 t.0.rest_fits d.1 in
    let g = cond_some (is_none (path_fault d.0.0)) d.0 x d.2 in
    subst (λ (y : List ℕ × List ℕ). Takes bytes (to_be_bytes w16 (length y.0) ++ y.0) y.1 × (path_fault y.0 ≡ None)) g.1
    (long_piece w16 bytes b.0 d.0 t.0 p.0 p.1, no_fault (path_fault d.0.0) g.0)

pub path_again : (path rest : List ℕ) → path_fault path ≡ None → path_at (to_be_bytes w16 (length path) ++ (path ++ rest)) ≡ Some (path, rest)
unfolding path_at
path_again path rest legal =
    let short : length path < 2 ^ 16 = omega (arith, length_of_legal path legal) in
    rw (number_again w16 (2 ^ 16) wide16 (length path) (path ++ rest) short, piece_again path rest, legal) refl

-- ---- values

mapped_some : {A C : Type 0} (o : Option A) (r : C) (x : A × C) → option_map (λ a. (a, r)) o ≡ Some x → (o ≡ Some x.0) × (r ≡ x.1)
mapped_some (Some a) r x e = (cc, cc)
mapped_some None r x e = absurd cc

-- a test that was passed, and what came then
guard_then : {A : Type 0} (b : Bool) (o : Option A) (y : A) → cond b None o ≡ Some y → (b ≡ false) × (o ≡ Some y)
guard_then true o y e = absurd cc
guard_then false o y e = (refl, e)

fitting : (number value : ℤ) → value_of number ≡ Some value → IsMilli value
unfolding value_of
fitting number value e =
    let g = cond_some (fits number) number value e in
    subst IsMilli g.1 ((fits_is_milli number).1 g.0)

pub value_takes : (bytes : List ℕ) (x : ℤ × List ℕ) → IsBytes bytes → value_at bytes ≡ Some x → Takes bytes (milli_bytes x.0) x.1 × IsMilli x.0
unfolding value_at
value_takes bytes x small e =
    let g = guard_then (ltb (length bytes) 16) (option_map (λ v. (v, drop 16 bytes)) (milli_of_bytes (take 16 bytes))) x e in
    let long : 16 ≤ length bytes = ltb-false _ _ g.0 in
    let m = mapped_some (milli_of_bytes (take 16 bytes)) (drop 16 bytes) x g.1 in
    let written : IfSome (milli_of_bytes (take 16 bytes)) (λ v. milli_bytes v ≡ take 16 bytes) = milli_is_written (take 16 bytes) (omega (arith, long, length-take 16 bytes)) (IsBytes-take 16 bytes small) in
    let front : milli_bytes x.0 ≡ take 16 bytes = subst (λ (p : Option ℤ). IfSome p (λ v. milli_bytes v ≡ take 16 bytes)) m.0 written in (
      subst (λ (r : List ℕ). Takes bytes (milli_bytes x.0) r) m.1 (record { parts = sym (take-append-drop 16 bytes) ∙ ap (λ (t : List ℕ). t ++ drop 16 bytes) (sym front); rest_fits = IsBytes-drop 16 bytes small }),
      fitting (cast_signed w128 (from_be_bytes w128 (take 16 bytes))) x.0 m.0,
    )

value_read : (text rest : List ℕ) (value : ℤ) → length text ≡ 16 → milli_of_bytes text ≡ Some value → value_at (text ++ rest) ≡ Some (value, rest)
unfolding value_at
value_read text rest value len read =
    let long : ltb (length (text ++ rest)) 16 ≡ false = le-ltb _ _ (omega (arith, len, length-append text rest)) in
    rw (long, take_at text rest 16 len, drop_at text rest 16 len, read) refl

pub value_again : (value : ℤ) (rest : List ℕ) → IsMilli value → value_at (milli_bytes value ++ rest) ≡ Some (value, rest)
value_again value rest few = value_read (milli_bytes value) rest value refl (milli_is_read value few)

-- ---- outcomes

-- which way a test went
pub chosen : {A : Type 0} (b : Bool) (o p : Option A) (y : A) → cond b o p ≡ Some y → ((b ≡ true) × (o ≡ Some y)) ⊎ ((b ≡ false) × (p ≡ Some y))
chosen true o p y e = inl (refl, e)
chosen false o p y e = inr (refl, e)

is_end : (b n : ℕ) (held end : PutEnd) → end_byte held ≡ n → (eqb b n ≡ true) × (Some held ≡ Some end) → end_byte end ≡ b
is_end b n held end byte h = sym (ap end_byte (some_is held end h.1)) ∙ byte ∙ sym (eqb-true _ _ h.0)

last : (b : Bool) (end : PutEnd) → cond b (Some Full) None ≡ Some end → (b ≡ true) × (Some Full ≡ Some end)
last true end e = (refl, e)
last false end e = absurd cc

end_back : (b : ℕ) (end : PutEnd) → end_of b ≡ Some end → end_byte end ≡ b
unfolding end_of
end_back b end e =
    elim (chosen (eqb b 0) (Some Stored) (cond (eqb b 1) (Some Replaced) (cond (eqb b 2) (Some Full) None)) end e) [
      | inl h ↦ is_end b 0 Stored end refl h
      | inr h ↦ elim (chosen (eqb b 1) (Some Replaced) (cond (eqb b 2) (Some Full) None) end h.1) [
        | inl k ↦ is_end b 1 Replaced end refl k
        | inr k ↦ is_end b 2 Full end refl (last (eqb b 2) end k.1)
      ]
    ]

pub end_takes : (bytes : List ℕ) (x : PutEnd × List ℕ) → IsBytes bytes → end_at bytes ≡ Some x → Takes bytes (end_byte x.0 ∷ []) x.1
unfolding end_at
end_takes bytes x fits e =
    let b = bind_some (byte_at bytes) (λ byte. option_map (λ end. (end, byte.1)) (end_of byte.0)) x e in
    let t = byte_takes bytes b.0 fits b.1 in
    let m = mapped_some (end_of b.0.0) b.0.1 x b.2 in
    subst (λ (r : List ℕ). Takes bytes (end_byte x.0 ∷ []) r) m.1 (subst (λ (k : ℕ). Takes bytes (k ∷ []) b.0.1) (sym (end_back b.0.0 x.0 m.0)) t.0)

pub end_again : (end : PutEnd) (rest : List ℕ) → end_at (end_byte end ∷ rest) ≡ Some (end, rest)
unfolding end_at byte_at end_of
end_again Stored rest = refl
end_again Replaced rest = refl
end_again Full rest = refl
