-- The arguments of a call, read by what its function takes.
use Rattle.std.specs.Prelude.{ℕ, ℤ, pos, negsuc, neg_ℤ, ⊤, ◌≤◌, ◌==◌, Bool, true, false, not, ◌&&◌, nat_le, List, [], ◌∷◌, codes, Option, Some, None, option_map, option_and_then, if◌then◌else◌}
use Rattle.std.specs.Result.{result_ok}
use Rattle.std.specs.Str.{bytes_eq}
use Rattle.std.specs.Str.Parse.{digits_value, starts_with_minus, without_leading_sign}
use Rattle.fixed_num.specs.Read.{milli_result, nano_result}
use Rattle.time_range.specs.declared.span.Span.{Span}
use Rattle.time_range.specs.SpanOf.{latest, span_of}
use Rattle.time_range.specs.TimeOf.{is_digits}
use Rattle.series_set.specs.Series.{widest_step}
use Rattle.series_funcs.specs.declared.kinds.Combine.{Combine}
use Rattle.series_funcs.specs.declared.kinds.Combine.TheVariants as together
use Rattle.series_funcs.specs.declared.kinds.Gather.{Gather}
use Rattle.series_funcs.specs.declared.kinds.Gather.TheVariants.{Sum, Average, Max, Min, Last}
use Rattle.series_funcs.specs.Moved.{IsSummaryStep}
use Rattle.target_parse.specs.Tree.{Tree, Call, Path, Number, Flag, Quoted, Trees, End, Then}
use Rattle.render_plan.specs.declared.argument.Argument.{Argument}
use Rattle.render_plan.specs.declared.argument.Argument.TheVariants as argument
use Rattle.render_plan.specs.declared.function.Kind.{Kind}
use Rattle.render_plan.specs.declared.function.Kind.TheVariants as kind
use Rattle.render_plan.specs.declared.function.Takes.{Takes}
use Rattle.render_plan.specs.declared.function.Takes.TheVariants.{One, Maybe, Any}

-- ---- one argument

-- a call or a path
abbrev pub is_series : Tree → Bool
is_series (Call name arguments) = true
is_series (Path glob) = true
is_series (Number text) = false
is_series (Flag flag) = false
is_series (Quoted quote text) = false

abbrev pub is_false : Tree → Bool
is_false (Call name arguments) = false
is_false (Path glob) = false
is_false (Number text) = false
is_false (Flag flag) = not flag
is_false (Quoted quote text) = false

-- the text of a number
abbrev pub number_in : Tree → Option (List ℕ)
number_in (Call name arguments) = None
number_in (Path glob) = None
number_in (Number text) = Some text
number_in (Flag flag) = None
number_in (Quoted quote text) = None

-- what stands between quotes
abbrev pub quoted_in : Tree → Option (List ℕ)
quoted_in (Call name arguments) = None
quoted_in (Path glob) = None
quoted_in (Number text) = None
quoted_in (Flag flag) = None
quoted_in (Quoted quote text) = Some text

abbrev pub most_count : ℕ
most_count = 1000000

abbrev pub most_node : ℕ
most_node = 64

-- the number of digits alone, up to this one
unfoldable pub count_up_to : ℕ → List ℕ → Option ℕ
count_up_to most text =
    if is_digits text && nat_le (digits_value 10 text) most then Some (digits_value 10 text)
    else None

-- the number of a node: digits, and a minus before them or none
unfoldable pub node_of : List ℕ → Option ℤ
node_of text =
    if starts_with_minus text then
    option_map (λ number. neg_ℤ (pos number)) (count_up_to most_node (without_leading_sign text))
    else option_map pos (count_up_to most_node text)

abbrev pub not_below_zero : ℤ → Option ℕ
not_below_zero (pos number) = Some number
not_below_zero (negsuc number) = None

-- the number of a node that is not below 0
unfoldable pub place_of : List ℕ → Option ℕ
place_of text = option_and_then not_below_zero (node_of text)

-- a decimal in thousandths, and one in billionths
unfoldable pub value_of_text : List ℕ → Option ℤ
value_of_text text = result_ok (milli_result text)

unfoldable pub factor_of : List ℕ → Option ℤ
factor_of text = result_ok (nano_result text)

-- a span that is not 0
unfoldable pub span_of_text : List ℕ → Option Span
span_of_text text =
    option_and_then (λ span. if span.seconds == 0 then None else Some span)
    (result_ok (span_of text))

-- the seconds of a span that may be a step, whatever its sign
unfoldable pub step_of : List ℕ → Option ℕ
step_of text =
    option_and_then (λ span. if nat_le span.seconds widest_step then Some span.seconds else None)
    (span_of_text text)

unfoldable pub gather_of : List ℕ → Option Gather
gather_of text =
    if bytes_eq text (codes "sum") then Some Sum else
    (if bytes_eq text (codes "avg") then Some Average else
    (if bytes_eq text (codes "max") then Some Max else
    (if bytes_eq text (codes "min") then Some Min else
    (if bytes_eq text (codes "last") then Some Last else None))))

-- what a group of series has together
unfoldable pub combine_of : List ℕ → Option Combine
combine_of text =
    if bytes_eq text (codes "sum") then Some together.Sum else
    (if bytes_eq text (codes "average") then Some together.Average else
    (if bytes_eq text (codes "avg") then Some together.Average else
    (if bytes_eq text (codes "max") then Some together.Max else
    (if bytes_eq text (codes "min") then Some together.Min else None))))

-- an argument as one of a kind, if it is one
unfoldable pub argument_of : Kind → Tree → Option Argument
argument_of kind.Series tree = if is_series tree then Some argument.Series else None
argument_of kind.Count tree =
    option_and_then (λ text. option_map argument.Count (count_up_to most_count text))
    (number_in tree)
argument_of kind.Value tree =
    option_and_then (λ text. option_map argument.Value (value_of_text text)) (number_in tree)
argument_of kind.Factor tree =
    option_and_then (λ text. option_map argument.Factor (factor_of text)) (number_in tree)
argument_of kind.Span tree =
    option_and_then (λ text. option_map argument.Span (span_of_text text)) (quoted_in tree)
argument_of kind.Step tree =
    option_and_then (λ text. option_map argument.Step (step_of text)) (quoted_in tree)
argument_of kind.Gather tree =
    option_and_then (λ text. option_map argument.Gather (gather_of text)) (quoted_in tree)
argument_of kind.False tree = if is_false tree then Some argument.False else None
argument_of kind.Node tree =
    option_and_then (λ text. option_map argument.Node (node_of text)) (number_in tree)
argument_of kind.Place tree =
    option_and_then (λ text. option_map argument.Place (place_of text)) (number_in tree)
argument_of kind.Combine tree =
    option_and_then (λ text. option_map argument.Combine (combine_of text)) (quoted_in tree)
argument_of kind.Text tree = option_map (λ text. argument.Text) (quoted_in tree)

-- ---- ranges

-- spans are no longer than to the latest moment, and steps are no wider than those of a year
abbrev pub IsInRange : Argument → Type 0
IsInRange (argument.Span span) = span.seconds ≤ latest
IsInRange (argument.Step step) = IsSummaryStep step
IsInRange _ = ⊤

-- ---- all arguments

-- the kind of the next argument, and what is taken after it
abbrev pub next_kind : List Takes → Option (Kind × List Takes)
next_kind [] = None
next_kind (One kind ∷ takes) = Some (kind, takes)
next_kind (Maybe kind ∷ takes) = Some (kind, takes)
next_kind (Any kind ∷ takes) = Some (kind, Any kind ∷ takes)

-- whether no arguments may end here
abbrev pub needs_more : List Takes → Bool
needs_more [] = false
needs_more (One kind ∷ takes) = true
needs_more (Maybe kind ∷ takes) = false
needs_more (Any kind ∷ takes) = false

abbrev pub one_before : Option Argument → Option (List Argument) → Option (List Argument)
one_before first others =
    option_and_then (λ argument. option_map (λ arguments. argument ∷ arguments) others) first

-- The arguments of a call as its function takes them, in order: each is of the kind that stands at
-- its place, and none is missing or too many.
abbrev pub arguments_of : List Takes → Trees → Option (List Argument)
arguments_of takes End = if needs_more takes then None else Some []
arguments_of takes (Then tree trees) =
    option_and_then (λ next. one_before (argument_of next.0 tree) (arguments_of next.1 trees))
    (next_kind takes)
