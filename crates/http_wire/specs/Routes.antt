-- Where a request goes.
use Rattle.std.specs.Prelude.{ℕ, ◌+◌, ◌==◌, Bool, ◌||◌, List, [], take, drop, codes, Result, Ok, Err, Option, Some, None, if◌then◌else◌}
use Rattle.std.specs.List.{position}
use Rattle.std.specs.Option.{option_map_or}
use Rattle.std.specs.Str.{bytes_eq}
use Rattle.http_wire.specs.declared.refusal.Refusal.{Refusal}
use Rattle.http_wire.specs.declared.refusal.Refusal.TheVariants.{NotFound, MethodNotAllowed}
use Rattle.http_wire.specs.declared.routing.Endpoint.{Endpoint}
use Rattle.http_wire.specs.declared.routing.Endpoint.TheVariants.{Render, Find, Expand, Index}

abbrev pub is_question_mark : ℕ → Bool
is_question_mark b = b == 63

-- a target up to its first `?`, or whole
abbrev pub path_of : List ℕ → List ℕ
path_of target = option_map_or (λ at. take at target) (position is_question_mark target) target

-- what follows the first `?` of a target; no bytes where it has none
abbrev pub query_of : List ℕ → List ℕ
query_of target = option_map_or (λ at. drop (at + 1) target) (position is_question_mark target) []

-- what answers at a path
unfoldable pub endpoint_at : List ℕ → Option Endpoint
endpoint_at path =
    if bytes_eq path (codes "/render") || bytes_eq path (codes "/render/") then Some Render else
    (if bytes_eq path (codes "/metrics/find") then Some Find else
    (if bytes_eq path (codes "/metrics/expand") then Some Expand else
    (if bytes_eq path (codes "/metrics/index.json") then Some Index else None)))

unfoldable pub is_get : List ℕ → Bool
is_get method = bytes_eq method (codes "GET")

unfoldable pub is_post : List ℕ → Bool
is_post method = bytes_eq method (codes "POST")

-- an endpoint, for the methods that may ask it
abbrev pub asked_by : List ℕ → Option Endpoint → Result Endpoint Refusal
asked_by method None = Err NotFound
asked_by method (Some endpoint) = if is_get method || is_post method then Ok endpoint else Err MethodNotAllowed

-- Where a request goes: what answers at the path of its target, asked by GET or POST. A path at which
-- nothing answers comes first.
unfoldable pub route : List ℕ → List ℕ → Result Endpoint Refusal
route method target = asked_by method (endpoint_at (path_of target))
