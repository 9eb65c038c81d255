-- What the parameters of a query say.
use Rattle.std.specs.Prelude.{ℕ, ◌==◌, List, [], ◌∷◌, ◌++◌, length, codes, Option, Some, None, if◌then◌else◌}
use Rattle.std.specs.Option.{option_map_or}
use Rattle.std.specs.Str.{bytes_eq}
use Rattle.std.specs.Str.Lossy.{utf8_lossy}
use Rattle.form_urlencoded.specs.Form.{decode, raw_pairs}
use Rattle.render_plan.specs.declared.form.Key.{Key}
use Rattle.render_plan.specs.declared.form.Key.TheVariants.{Target, From, Until, Format, Points}
use Rattle.render_plan.specs.declared.form.Parameters.{Parameters}

-- the text of a name or a value of a form
abbrev pub form_text : List ℕ → List ℕ
form_text raw = utf8_lossy (decode raw)

-- the parameter that has this name; names of others mean nothing
unfoldable pub key_of : List ℕ → Option Key
key_of name =
    if bytes_eq name (codes "target") then Some Target else
    (if bytes_eq name (codes "from") then Some From else
    (if bytes_eq name (codes "until") then Some Until else
    (if bytes_eq name (codes "format") then Some Format else
    (if bytes_eq name (codes "maxDataPoints") then Some Points else None))))

-- A further text of a parameter: a target comes to the others, any other takes the place of the one
-- before.
abbrev pub with_key : Parameters → Key → List ℕ → Parameters
with_key given Target text = record given { targets = given.targets ++ text ∷ [] }
with_key given From text = record given { from = Some text }
with_key given Until text = record given { until = Some text }
with_key given Format text = record given { format = Some text }
with_key given Points text = record given { points = Some text }

-- a further parameter; one that is empty says nothing
unfoldable pub with_pair : Parameters → List ℕ → List ℕ → Parameters
with_pair given name value =
    if length value == 0 then given else
    option_map_or (λ key. with_key given key value) (key_of name) given

-- the further parameters of pairs of a form, from the first to the last
abbrev pub with_pairs : Parameters → List (List ℕ × List ℕ) → Parameters
with_pairs given [] = given
with_pairs given (pair ∷ pairs) =
    with_pairs (with_pair given (form_text pair.0) (form_text pair.1)) pairs

abbrev pub no_parameters : Parameters
no_parameters = record { targets = []; from = None; until = None; format = None; points = None }

-- the parameters of a query: those of its query string, and then those of its body
unfoldable pub parameters_in : List ℕ → List ℕ → Parameters
parameters_in query body = with_pairs (with_pairs no_parameters (raw_pairs query)) (raw_pairs body)
