-- The queries of a request.
use Rattle.std.specs.Prelude.{ℕ, ◌+◌, ◌<◌, ◌≤◌, ◌==◌, Bool, ◌&&◌, not, nat_lt, List, [], ◌∷◌, ◌++◌, length, map, filter, codes, Result, Ok, Err, if◌then◌else◌}
use Rattle.std.specs.Str.{bytes_eq}
use Rattle.std.specs.Str.Lossy.{utf8_lossy}
use Rattle.form_urlencoded.specs.Form.{decode, raw_pairs}
use Rattle.path_glob.specs.Faults.{Said, legal_glob}
use Rattle.path_glob.specs.declared.fault.GlobFault.{GlobFault}
use Rattle.find_api.specs.declared.fault.FindFault.{FindFault}
use Rattle.find_api.specs.declared.fault.FindFault.TheVariants.{NoQuery, TooManyQueries, BadQuery}

-- the most queries of a request
abbrev pub most_queries : ℕ
most_queries = 128

-- how many queries a request may have
abbrev pub IsQueryCount : ℕ → Type 0
IsQueryCount count = (0 < count) × (count ≤ most_queries)

-- the text of a name or a value of a form
abbrev pub form_text : List ℕ → List ℕ
form_text raw = utf8_lossy (decode raw)

unfoldable pub query_key : List ℕ
query_key = codes "query"

-- whether a parameter is a query that is not empty
abbrev pub is_query_text : List ℕ → List ℕ → Bool
is_query_text name value = bytes_eq name query_key && not (length value == 0)

-- the same of a pair of a form
abbrev pub is_query : List ℕ × List ℕ → Bool
is_query pair = is_query_text (form_text pair.0) (form_text pair.1)

-- the queries of pairs of a form, in order
abbrev pub queries_of : List (List ℕ × List ℕ) → List (List ℕ)
queries_of pairs = map (λ pair. form_text pair.1) (filter is_query pairs)

-- the queries of a request: those of its query string, and then those of its body
abbrev pub queries_in : List ℕ → List ℕ → List (List ℕ)
queries_in query body = queries_of (raw_pairs query) ++ queries_of (raw_pairs body)

-- a glob before others, or the number of the text that is none
abbrev pub with_glob : ℕ → Result Said GlobFault → Result (List Said) FindFault → Result (List Said) FindFault
with_glob n (Err fault) others = Err (BadQuery n)
with_glob n (Ok glob) (Err fault) = Err fault
with_glob n (Ok glob) (Ok globs) = Ok (glob ∷ globs)

-- the globs that texts are, numbered from n on, or the number of the first that is none
abbrev pub globs_from : ℕ → List (List ℕ) → Result (List Said) FindFault
globs_from n [] = Ok []
globs_from n (text ∷ texts) = with_glob n (legal_glob text) (globs_from (n + 1) texts)

-- the globs of some queries, or why they are refused: a count first, and then the first that is no glob
abbrev pub globs_or_fault : List (List ℕ) → Result (List Said) FindFault
globs_or_fault texts =
    if length texts == 0 then Err NoQuery else
    (if nat_lt most_queries (length texts) then Err TooManyQueries else globs_from 1 texts)

-- the globs of a request
unfoldable pub read_queries : List ℕ → List ℕ → Result (List Said) FindFault
read_queries query body = globs_or_fault (queries_in query body)
