-- What holds of the parameters of a query.
use Rattle.std.specs.Prelude.{◌≡◌, ℕ, ◌==◌, Bool, true, false, ◌&&◌, not, List, [], ◌∷◌, ◌++◌, length, map, filter, Option, Some, None}
use Rattle.std.specs.Option.{option_or}
use Rattle.form_urlencoded.specs.Form.{raw_pairs}
use Rattle.render_plan.specs.declared.form.Key.{Key}
use Rattle.render_plan.specs.declared.form.Key.TheVariants.{Target, From, Until, Format, Points}
use Rattle.render_plan.specs.Given.{form_text, key_of, parameters_in}

abbrev pub is_key : Key → Option Key → Bool
is_key Target (Some Target) = true
is_key From (Some From) = true
is_key Until (Some Until) = true
is_key Format (Some Format) = true
is_key Points (Some Points) = true
is_key _ _ = false

-- whether a pair of a form gives a parameter a text that is not empty
abbrev pub gives : Key → List ℕ × List ℕ → Bool
gives key pair = is_key key (key_of (form_text pair.0)) && not (length (form_text pair.1) == 0)

-- the texts that pairs give a parameter, in order
abbrev pub texts_of : Key → List (List ℕ × List ℕ) → List (List ℕ)
texts_of key pairs = map (λ pair. form_text pair.1) (filter (gives key) pairs)

-- the last of some texts
abbrev pub last_text : List (List ℕ) → Option (List ℕ)
last_text [] = None
last_text (text ∷ texts) = option_or (last_text texts) (Some text)

-- all pairs of a query, and then those of its body
abbrev pub pairs_in : List ℕ → List ℕ → List (List ℕ × List ℕ)
pairs_in query body = raw_pairs query ++ raw_pairs body

-- All targets that are not empty are read, in order; and of any other parameter the last text that
-- is not empty.
pub record AreGiven (query body : List ℕ) : Type 0 where
  pub targets : (parameters_in query body).targets ≡ texts_of Target (pairs_in query body)
  pub from : (parameters_in query body).from ≡ last_text (texts_of From (pairs_in query body))
  pub until : (parameters_in query body).until ≡ last_text (texts_of Until (pairs_in query body))
  pub format : (parameters_in query body).format ≡ last_text (texts_of Format (pairs_in query body))
  pub points : (parameters_in query body).points ≡ last_text (texts_of Points (pairs_in query body))
