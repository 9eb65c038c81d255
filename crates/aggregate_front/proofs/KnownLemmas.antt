-- The outputs of the paths that are known.
use Rattle.std.proofs.Common.{◌≡◌, ◌∙◌, inl, inr, ◌+◌, ◌-◌, ◌<◌, ℕ, zero, suc, Bool, true, false, cond, if◌then◌else◌, not, List, [], ◌∷◌, ◌++◌, Option, None, Some, drop, get_or, length, nat_le, option_map, position, slice_get, refl, sym, ap, subst, arith}
use Rattle.std.proofs.Math.Seq.{drop-nil}
use Rattle.std.proofs.lemmas.Bool.{leb-false, leb-true}
use Rattle.std.proofs.lemmas.List.Elements.{All-head, All-nil, All-push, All-tail}
use Rattle.std.proofs.lemmas.List.Sums.{sum_by_push}
use Rattle.std.proofs.lemmas.Option.{slice_get_read}
use Rattle.std.proofs.lemmas.Slice.Eq.{bytes_eq-Decides}
use Rattle.std.specs.List.{position_or_len}
use Rattle.std.specs.Map.{keys_of, lookup}
use Rattle.std.specs.Option.{option_map_or, option_to_list}
use Rattle.std.specs.Str.{bytes_eq}
use Rattle.indexmap.specs.IndexMap.{insert_entry}
use Rattle.indexmap.proofs.MapLemmas.{Found-position, absent_from_lookup, insert_entry-absent}
use Rattle.aggregate_rules.specs.RuleTexts.{RuleValue}
use Rattle.aggregate_rules.specs.Readings.{output_path}
use Rattle.aggregate_rules.specs.RulePlaces.{class_of_path, may_fit, places_for, places_from}
use Rattle.aggregate_rules.proofs.ClassLemmas.{no_output}
use Rattle.aggregate_front.specs.Fitting.{HitValue, hit_of, hits_from, hits_of}
use Rattle.aggregate_front.specs.Emitting.{Knows, KnowsFew, MakesRoom, known_size, most_known}

-- the output of the rule at a place, where there is one
abbrev pub hit_at : List RuleValue → List ℕ → ℕ → List HitValue
hit_at rules path place = option_map_or (λ rule. option_to_list (option_map (hit_of place rule) (output_path rule path))) (slice_get rules place) []

-- the outputs of the rules at these places
abbrev pub hits_at : List RuleValue → List ℕ → List ℕ → List HitValue
hits_at rules path [] = []
hits_at rules path (place ∷ places) = hit_at rules path place ++ hits_at rules path places

get_cut : (rules : List RuleValue) (place : ℕ) (rule : RuleValue) (rest : List RuleValue) → drop place rules ≡ rule ∷ rest → (slice_get rules place ≡ Some rule) × (drop (place + 1) rules ≡ rest)
get_cut [] place rule rest cut = let none = drop-nil {A = RuleValue} place in absurd cc
get_cut (r ∷ rs) zero rule rest cut = let same : r ≡ rule = cc in let behind : rs ≡ rest = cc in (rw same refl, behind)
get_cut (r ∷ rs) (suc place) rule rest cut =
    let more = get_cut rs place rule rest cut in
    let next : suc place + 1 ≡ suc (place + 1) = omega arith in
    (more.0, rw next more.1)

-- the outputs of the rules from a place on are those of the ones that may have one
hits_among : (rules : List RuleValue) (path : List ℕ) (place : ℕ) (rest : List RuleValue) → drop place rules ≡ rest
    → hits_from place rest path ≡ hits_at rules path (places_from (may_fit (class_of_path path)) place rest)
unfolding hits_from
hits_among rules path place [] cut = refl
hits_among rules path place (rule ∷ rest) cut =
    let here = get_cut rules place rule rest cut in by (may_fit (class_of_path path) rule) refl here.0 (hits_among rules path (place + 1) rest here.1)
  where
    joined : (o : Option (List ℕ)) (hits : List HitValue) → option_map_or (λ output. hit_of place rule output ∷ hits) o hits ≡ option_to_list (option_map (hit_of place rule) o) ++ hits
    joined None hits = refl
    joined (Some output) hits = refl

    by : (b : Bool) → may_fit (class_of_path path) rule ≡ b → slice_get rules place ≡ Some rule
        → hits_from (place + 1) rest path ≡ hits_at rules path (places_from (may_fit (class_of_path path)) (place + 1) rest)
        → option_map_or (λ output. hit_of place rule output ∷ hits_from (place + 1) rest path) (output_path rule path) (hits_from (place + 1) rest path)
        ≡ hits_at rules path (if b then place ∷ places_from (may_fit (class_of_path path)) (place + 1) rest else places_from (may_fit (class_of_path path)) (place + 1) rest)
    by true fits at more = rw (at, more) (joined (output_path rule path) (hits_at rules path (places_from (may_fit (class_of_path path)) (place + 1) rest)))
    by false not at more = rw (no_output rule path not) more

pub hits_are_at : (rules : List RuleValue) (path : List ℕ) → hits_of rules path ≡ hits_at rules path (places_for rules path)
hits_are_at rules path = hits_among rules path 0 rules refl

-- the output of one place more
pub hits_step : (rules : List RuleValue) (path : List ℕ) (place : ℕ) (places : List ℕ) (rule : RuleValue) → place < length rules → rule ≡ get_or rules place rule
    → hits_at rules path (place ∷ places) ≡ option_to_list (option_map (hit_of place rule) (output_path rule path)) ++ hits_at rules path places
hits_step rules path place places rule lt is = rw (slice_get_read rules (length rules) place rule refl lt is) refl

abbrev Paths : Type 0
Paths = List (List ℕ × List HitValue)

one_plus : (n : ℕ) → 1 + n ≡ suc n
one_plus n = omega arith

known_place : (rules : List RuleValue) (paths : Paths) (path : List ℕ) → Knows rules paths → position_or_len (bytes_eq path) (keys_of paths) < length paths
    → slice_get paths (position_or_len (bytes_eq path) (keys_of paths)) ≡ Some (path, hits_of rules path)
known_place rules [] path knows lt = absurd (omega arith)
known_place rules (e ∷ es) path knows lt = by (bytes_eq path e.0) refl lt (known_place rules es path (All-tail (λ known. known.1 ≡ hits_of rules known.0) e es knows))
  where
    by : (b : Bool) → bytes_eq path e.0 ≡ b → (cond (not b) (1 + position_or_len (bytes_eq path) (keys_of es)) 0) < length (e ∷ es)
        → (position_or_len (bytes_eq path) (keys_of es) < length es → slice_get es (position_or_len (bytes_eq path) (keys_of es)) ≡ Some (path, hits_of rules path))
        → slice_get (e ∷ es) (cond (not b) (1 + position_or_len (bytes_eq path) (keys_of es)) 0) ≡ Some (path, hits_of rules path)
    by true same within rest =
        let key : path ≡ e.0 = (bytes_eq-Decides path e.0).0 same in
        let hits : e.1 ≡ hits_of rules path = All-head (λ known. known.1 ≡ hits_of rules known.0) e es knows ∙ ap (hits_of rules) (sym key) in
        λ n. Some (sym key n, hits n)
    by false other within rest = rw one_plus (rest (omega (arith, within)))

pub known_at : (rules : List RuleValue) (paths : Paths) (path : List ℕ) (i : ℕ) → Knows rules paths → position (bytes_eq path) (keys_of paths) ≡ Some i
    → slice_get paths i ≡ Some (path, hits_of rules path)
known_at rules paths path i knows at =
    let f = Found-position (bytes_eq path) paths i at in
    subst (λ (k : ℕ). slice_get paths k ≡ Some (path, hits_of rules path)) f.or_len (known_place rules paths path knows (omega (arith, f.or_len, f.within)))

pub get_last : {X : Type 0} (xs : List X) (x : X) → slice_get (xs ++ x ∷ []) (length xs) ≡ Some x
get_last [] x = refl
get_last (y ∷ xs) x = get_last xs x

-- a path that is learnt, with so much room behind it
pub record Learns (rules : List RuleValue) (room : Paths) (path : List ℕ) (left : ℕ) : Type 0 where
  pub knows : Knows rules (insert_entry bytes_eq room path (hits_of rules path))
  pub place : slice_get (insert_entry bytes_eq room path (hits_of rules path)) (length room) ≡ Some (path, hits_of rules path)
  pub few : KnowsFew (insert_entry bytes_eq room path (hits_of rules path)) left

learns_in : (rules : List RuleValue) (room : Paths) (path : List ℕ) (left : ℕ) → Knows rules room → lookup (bytes_eq path) room ≡ None
    → KnowsFew (room ++ (path, hits_of rules path) ∷ []) left → Learns rules room path left
learns_in rules room path left knows absent few =
    let last : insert_entry bytes_eq room path (hits_of rules path) ≡ room ++ (path, hits_of rules path) ∷ [] =
    insert_entry-absent bytes_eq path (hits_of rules path) room (absent_from_lookup (bytes_eq path) room absent) in
    record {
      knows = rw last (All-push (λ known. known.1 ≡ hits_of rules known.0) room (path, hits_of rules path) knows (refl {a = hits_of rules path}));
      place = rw last (get_last room (path, hits_of rules path));
      few = rw last few;
    }

size_more : (paths : Paths) (known : List ℕ × List HitValue) → known_size (paths ++ known ∷ []) ≡ known_size paths + (1 + length known.1)
size_more paths known = sum_by_push (λ (known : List ℕ × List HitValue). 1 + length known.1) paths known

few_more : (paths : Paths) (known : List ℕ × List HitValue) (room left : ℕ) → KnowsFew paths room → left + (1 + length known.1) ≡ room → KnowsFew (paths ++ known ∷ []) left
few_more paths known room left (inl few) is = inl (omega (arith, size_more paths known, few, is))
few_more paths known room left (inr one) is = absurd (omega (arith, one.1, is))

few_one : (known : List ℕ × List HitValue) (left : ℕ) → left ≡ most_known - (1 + length known.1) → KnowsFew (known ∷ []) left
few_one known left is = by (nat_le (1 + length known.1) most_known) refl
  where
    by : (b : Bool) → nat_le (1 + length known.1) most_known ≡ b → KnowsFew (known ∷ []) left
    by true fits = inl (omega (arith, size_more [] known, leb-true _ _ fits, is))
    by false large = inr (omega arith, omega (arith, leb-false _ _ large, is))

pub learns : (rules : List RuleValue) (old new : Paths) (path : List ℕ) (room left : ℕ) → Knows rules old → KnowsFew old room → lookup (bytes_eq path) old ≡ None
    → MakesRoom old new (length (hits_of rules path)) room left → Learns rules new path left
learns rules old new path room left knows few absent (inl kept) =
    learns_in rules new path left (rw kept.0 knows) (rw kept.0 absent) (rw kept.0 (few_more old (path, hits_of rules path) room left few kept.1))
learns rules old new path room left knows few absent (inr none) =
    learns_in rules new path left (rw none.0 (All-nil (λ known. known.1 ≡ hits_of rules known.0))) (rw none.0 refl) (rw none.0 (few_one (path, hits_of rules path) left none.1))
