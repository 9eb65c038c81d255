-- The parameters that the pairs of a form give, one after the other.
use Rattle.std.proofs.Common.{◌≡◌, ℕ, ◌==◌, Bool, true, false, cond, ◌&&◌, not, List, [], ◌∷◌, ◌++◌, length, map, Option, Some, None, refl, sym, ap, ◌∙◌, append_assoc}
use Rattle.std.proofs.lemmas.List.{append-nil}
use Rattle.std.specs.Option.{option_map_or, option_or}
use Rattle.form_urlencoded.specs.Form.{raw_pairs}
use Rattle.render_plan.specs.declared.form.Key.{Key}
use Rattle.render_plan.specs.declared.form.Key.TheVariants.{Target, From, Until, Format, Points}
use Rattle.render_plan.specs.declared.form.Parameters.{Parameters}
use Rattle.render_plan.specs.Given.{form_text, key_of, no_parameters, parameters_in, with_key, with_pair, with_pairs}
use Rattle.render_plan.specs.GivenLaws.{AreGiven, gives, is_key, last_text, texts_of}

append_pairs : (given : Parameters) (first second : List (List ℕ × List ℕ)) → with_pairs given (first ++ second) ≡ with_pairs (with_pairs given first) second
append_pairs given [] second = refl
append_pairs given (pair ∷ first) second = append_pairs (with_pair given (form_text pair.0) (form_text pair.1)) first second

-- the texts that a pair and others give
head_by : (gives : Bool) (pair : List ℕ × List ℕ) (pairs : List (List ℕ × List ℕ))
    → map (λ (p : List ℕ × List ℕ). form_text p.1) (cond gives (pair ∷ pairs) pairs) ≡ cond gives (form_text pair.1 ∷ map (λ (p : List ℕ × List ℕ). form_text p.1) pairs) (map (λ (p : List ℕ × List ℕ). form_text p.1) pairs)
head_by true pair pairs = refl
head_by false pair pairs = refl

or_some : (x : Option (List ℕ)) (text : List ℕ) (y : Option (List ℕ)) → option_or x (Some text) ≡ option_or (option_or x (Some text)) y
or_some None text y = refl
or_some (Some t) text y = refl

or_none : (x : Option (List ℕ)) → x ≡ option_or x None
or_none None = refl
or_none (Some t) = refl

-- a further parameter by its key
abbrev put : Parameters → Option Key → Bool → List ℕ → Parameters
put given k empty text = cond empty given (option_map_or (λ key. with_key given key text) k given)

-- ---- targets

targets_put : (given : Parameters) (k : Option Key) (empty : Bool) (text : List ℕ) (rest : List (List ℕ)) → (put given k empty text).targets ++ rest ≡ given.targets ++ cond (is_key Target k && not empty) (text ∷ rest) rest
targets_put given None true text rest = refl
targets_put given None false text rest = refl
targets_put given (Some Target) true text rest = refl
targets_put given (Some Target) false text rest = append_assoc given.targets (text ∷ []) rest
targets_put given (Some From) true text rest = refl
targets_put given (Some From) false text rest = refl
targets_put given (Some Until) true text rest = refl
targets_put given (Some Until) false text rest = refl
targets_put given (Some Format) true text rest = refl
targets_put given (Some Format) false text rest = refl
targets_put given (Some Points) true text rest = refl
targets_put given (Some Points) false text rest = refl

targets_all : (given : Parameters) (pairs : List (List ℕ × List ℕ)) → (with_pairs given pairs).targets ≡ given.targets ++ texts_of Target pairs
unfolding with_pair
targets_all given [] = sym (append-nil given.targets)
targets_all given (pair ∷ pairs) =
    targets_all (with_pair given (form_text pair.0) (form_text pair.1)) pairs
    ∙ targets_put given (key_of (form_text pair.0)) (length (form_text pair.1) == 0) (form_text pair.1) (texts_of Target pairs)
    ∙ ap (λ (l : List (List ℕ)). given.targets ++ l) (sym (head_by (gives Target pair) pair _))

-- ---- from

from_put : (given : Parameters) (k : Option Key) (empty : Bool) (text : List ℕ) (rest : List (List ℕ)) → option_or (last_text rest) (put given k empty text).from ≡ option_or (last_text (cond (is_key From k && not empty) (text ∷ rest) rest)) given.from
from_put given None true text rest = refl
from_put given None false text rest = refl
from_put given (Some Target) true text rest = refl
from_put given (Some Target) false text rest = refl
from_put given (Some From) true text rest = refl
from_put given (Some From) false text rest = or_some (last_text rest) text given.from
from_put given (Some Until) true text rest = refl
from_put given (Some Until) false text rest = refl
from_put given (Some Format) true text rest = refl
from_put given (Some Format) false text rest = refl
from_put given (Some Points) true text rest = refl
from_put given (Some Points) false text rest = refl

from_all : (given : Parameters) (pairs : List (List ℕ × List ℕ)) → (with_pairs given pairs).from ≡ option_or (last_text (texts_of From pairs)) given.from
unfolding with_pair
from_all given [] = refl
from_all given (pair ∷ pairs) =
    from_all (with_pair given (form_text pair.0) (form_text pair.1)) pairs
    ∙ from_put given (key_of (form_text pair.0)) (length (form_text pair.1) == 0) (form_text pair.1) (texts_of From pairs)
    ∙ ap (λ (l : List (List ℕ)). option_or (last_text l) given.from) (sym (head_by (gives From pair) pair _))

-- ---- until

until_put : (given : Parameters) (k : Option Key) (empty : Bool) (text : List ℕ) (rest : List (List ℕ)) → option_or (last_text rest) (put given k empty text).until ≡ option_or (last_text (cond (is_key Until k && not empty) (text ∷ rest) rest)) given.until
until_put given None true text rest = refl
until_put given None false text rest = refl
until_put given (Some Target) true text rest = refl
until_put given (Some Target) false text rest = refl
until_put given (Some From) true text rest = refl
until_put given (Some From) false text rest = refl
until_put given (Some Until) true text rest = refl
until_put given (Some Until) false text rest = or_some (last_text rest) text given.until
until_put given (Some Format) true text rest = refl
until_put given (Some Format) false text rest = refl
until_put given (Some Points) true text rest = refl
until_put given (Some Points) false text rest = refl

until_all : (given : Parameters) (pairs : List (List ℕ × List ℕ)) → (with_pairs given pairs).until ≡ option_or (last_text (texts_of Until pairs)) given.until
unfolding with_pair
until_all given [] = refl
until_all given (pair ∷ pairs) =
    until_all (with_pair given (form_text pair.0) (form_text pair.1)) pairs
    ∙ until_put given (key_of (form_text pair.0)) (length (form_text pair.1) == 0) (form_text pair.1) (texts_of Until pairs)
    ∙ ap (λ (l : List (List ℕ)). option_or (last_text l) given.until) (sym (head_by (gives Until pair) pair _))

-- ---- format

format_put : (given : Parameters) (k : Option Key) (empty : Bool) (text : List ℕ) (rest : List (List ℕ)) → option_or (last_text rest) (put given k empty text).format ≡ option_or (last_text (cond (is_key Format k && not empty) (text ∷ rest) rest)) given.format
format_put given None true text rest = refl
format_put given None false text rest = refl
format_put given (Some Target) true text rest = refl
format_put given (Some Target) false text rest = refl
format_put given (Some From) true text rest = refl
format_put given (Some From) false text rest = refl
format_put given (Some Until) true text rest = refl
format_put given (Some Until) false text rest = refl
format_put given (Some Format) true text rest = refl
format_put given (Some Format) false text rest = or_some (last_text rest) text given.format
format_put given (Some Points) true text rest = refl
format_put given (Some Points) false text rest = refl

format_all : (given : Parameters) (pairs : List (List ℕ × List ℕ)) → (with_pairs given pairs).format ≡ option_or (last_text (texts_of Format pairs)) given.format
unfolding with_pair
format_all given [] = refl
format_all given (pair ∷ pairs) =
    format_all (with_pair given (form_text pair.0) (form_text pair.1)) pairs
    ∙ format_put given (key_of (form_text pair.0)) (length (form_text pair.1) == 0) (form_text pair.1) (texts_of Format pairs)
    ∙ ap (λ (l : List (List ℕ)). option_or (last_text l) given.format) (sym (head_by (gives Format pair) pair _))

-- ---- points

points_put : (given : Parameters) (k : Option Key) (empty : Bool) (text : List ℕ) (rest : List (List ℕ)) → option_or (last_text rest) (put given k empty text).points ≡ option_or (last_text (cond (is_key Points k && not empty) (text ∷ rest) rest)) given.points
points_put given None true text rest = refl
points_put given None false text rest = refl
points_put given (Some Target) true text rest = refl
points_put given (Some Target) false text rest = refl
points_put given (Some From) true text rest = refl
points_put given (Some From) false text rest = refl
points_put given (Some Until) true text rest = refl
points_put given (Some Until) false text rest = refl
points_put given (Some Format) true text rest = refl
points_put given (Some Format) false text rest = refl
points_put given (Some Points) true text rest = refl
points_put given (Some Points) false text rest = or_some (last_text rest) text given.points

points_all : (given : Parameters) (pairs : List (List ℕ × List ℕ)) → (with_pairs given pairs).points ≡ option_or (last_text (texts_of Points pairs)) given.points
unfolding with_pair
points_all given [] = refl
points_all given (pair ∷ pairs) =
    points_all (with_pair given (form_text pair.0) (form_text pair.1)) pairs
    ∙ points_put given (key_of (form_text pair.0)) (length (form_text pair.1) == 0) (form_text pair.1) (texts_of Points pairs)
    ∙ ap (λ (l : List (List ℕ)). option_or (last_text l) given.points) (sym (head_by (gives Points pair) pair _))

-- ---- all

pub are_given : (query body : List ℕ) → AreGiven query body
unfolding parameters_in
are_given query body =
    let same = append_pairs no_parameters (raw_pairs query) (raw_pairs body) in
    record {
      targets = ap (λ (g : Parameters). g.targets) (sym same) ∙ targets_all no_parameters (raw_pairs query ++ raw_pairs body);
      from = ap (λ (g : Parameters). g.from) (sym same) ∙ from_all no_parameters (raw_pairs query ++ raw_pairs body) ∙ sym (or_none (last_text (texts_of From (raw_pairs query ++ raw_pairs body))));
      until = ap (λ (g : Parameters). g.until) (sym same) ∙ until_all no_parameters (raw_pairs query ++ raw_pairs body) ∙ sym (or_none (last_text (texts_of Until (raw_pairs query ++ raw_pairs body))));
      format = ap (λ (g : Parameters). g.format) (sym same) ∙ format_all no_parameters (raw_pairs query ++ raw_pairs body) ∙ sym (or_none (last_text (texts_of Format (raw_pairs query ++ raw_pairs body))));
      points = ap (λ (g : Parameters). g.points) (sym same) ∙ points_all no_parameters (raw_pairs query ++ raw_pairs body) ∙ sym (or_none (last_text (texts_of Points (raw_pairs query ++ raw_pairs body))));
    }
