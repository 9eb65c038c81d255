-- Addresses that are read one after the other.
use Rattle.std.proofs.Common.{◌≡◌, ◌∙◌, ◌<◌, ◌+◌, ◌-◌, ℕ, List, [], ◌∷◌, ◌++◌, length, take, drop, Option, Some, None, refl, sym, ap, arith, drop-cons, suc, append_assoc}
use Rattle.std.specs.Prelude.{option_map, option_and_then, replicate}
use Rattle.std.specs.List.{slice_index_or, slice_set}
use Rattle.std.specs.Borrow.{Bor}
use Rattle.std.specs.declared.net.ipv4_addr.Ipv4Addr.{Ipv4Addr}
use Rattle.std.proofs.lemmas.List.{drop-drop, drop-set-lt, length-set}
use Rattle.std.proofs.lemmas.Grind.{take-set_at}
use Rattle.clap.specs.Walk.{Text, texts}
use Rattle.carbon_words.specs.HostTexts.{address_of, addresses_of, unspecified}

-- So many texts are read: those that are left decide, and the places behind are as they were.
pub record IsRead (words : List (Bor Text)) (index : ℕ) (list : List Ipv4Addr) : Type 0 where
  pub rest : addresses_of (texts words) ≡ option_map (λ more. take index list ++ more) (addresses_of (texts (drop index words)))
  pub behind : drop index list ≡ replicate (16 - index) unspecified
  pub whole : length list ≡ 16

-- the next text decides with those behind it
next_text : (words : List (Bor Text)) (index : ℕ) (d : Bor Text) → index < length words
    → addresses_of (texts (drop index words))
    ≡ option_and_then (λ first. option_map (λ more. first ∷ more) (addresses_of (texts (drop (index + 1) words))))
    (address_of (slice_index_or words index d).now)
next_text words index d lt =
    let one : suc index ≡ index + 1 = omega arith in
    let here : drop index words ≡ slice_index_or words index d ∷ drop (index + 1) words =
    drop-cons words index d lt ∙ ap (λ (k : ℕ). slice_index_or words index d ∷ drop k words) one in
    ap (λ (ws : List (Bor Text)). addresses_of (texts ws)) here

one_more : (front : List Ipv4Addr) (a : Ipv4Addr) (o : Option (List Ipv4Addr))
    → option_map (λ more. front ++ more) (option_map (λ more. a ∷ more) o) ≡ option_map (λ more. (front ++ a ∷ []) ++ more) o
one_more front a None = refl
one_more front a (Some more) = ap Some (sym (append_assoc front (a ∷ []) more))

pub read_more : (words : List (Bor Text)) (index : ℕ) (list : List Ipv4Addr) (d : Bor Text) (a : Ipv4Addr) → index < length words
    → index < 16 → Some a ≡ address_of (slice_index_or words index d).now → IsRead words index list
    → IsRead words (index + 1) (slice_set list index a)
read_more words index list d a lt few is h =
    let o = addresses_of (texts (drop (index + 1) words)) in
    let inside : index < length list = omega (arith, h.whole) in
    let left : 16 - index ≡ suc (16 - (index + 1)) = omega arith in
    let next : addresses_of (texts (drop index words)) ≡ option_map (λ more. a ∷ more) o =
    next_text words index d lt ∙ rw (← is) refl in
    record {
      rest = h.rest ∙ ap (λ (p : Option (List Ipv4Addr)). option_map (λ more. take index list ++ more) p) next ∙ one_more (take index list) a o
          ∙ ap (λ (front : List Ipv4Addr). option_map (λ more. front ++ more) o) (sym (take-set_at list index (index + 1) a refl inside));
      behind = drop-set-lt (index + 1) list index a (omega arith) ∙ sym (drop-drop 1 index list) ∙ ap (drop 1) h.behind
          ∙ ap (λ (k : ℕ). drop 1 (replicate k unspecified)) left;
      whole = length-set list index a ∙ h.whole;
    }
