-- What a target asks to be done: a tree of calls, each with what it makes of the series of its
-- arguments.
use Rattle.std.specs.Prelude.{ℕ, ℤ, pos, List, [], ◌∷◌, filter_map, map, Option, Some, None, option_map, slice_get, if◌then◌else◌}
use Rattle.std.specs.Option.{option_and_then, unwrap_or}
use Rattle.path_glob.specs.Faults.{Said}
use Rattle.name_pattern.specs.Patterns.{is_readable}
use Rattle.time_range.specs.declared.span.Span.{Span}
use Rattle.series_funcs.specs.declared.kinds.Gather.{Gather}
use Rattle.series_funcs.specs.declared.kinds.Gather.TheVariants.{Sum}
use Rattle.series_funcs.specs.declared.kinds.Shape.{Shape}
use Rattle.series_funcs.specs.declared.kinds.Shape.TheVariants as shape
use Rattle.series_funcs.specs.declared.kinds.Regroup.{Regroup}
use Rattle.series_funcs.specs.declared.kinds.Regroup.TheVariants as regroup
use Rattle.series_pick.specs.declared.kinds.Choose.{Choose}
use Rattle.series_pick.specs.declared.kinds.Choose.TheVariants as choose
use Rattle.target_parse.specs.Tree.{Tree, Call, Path, Number, Flag, Quoted, Trees, End, Then, further_texts, text_of}
use Rattle.render_plan.specs.declared.argument.Argument.{Argument}
use Rattle.render_plan.specs.declared.argument.Argument.TheVariants as argument
use Rattle.render_plan.specs.declared.function.Function.{Function}
use Rattle.render_plan.specs.declared.function.Function.TheVariants as function
use Rattle.render_plan.specs.declared.function.Shaping.{Shaping}
use Rattle.render_plan.specs.declared.function.Shaping.TheVariants as shapings
use Rattle.render_plan.specs.declared.function.Choosing.{Choosing}
use Rattle.render_plan.specs.declared.function.Choosing.TheVariants as choices
use Rattle.render_plan.specs.declared.function.Plain.{Plain}
use Rattle.render_plan.specs.declared.function.Plain.TheVariants as plains
use Rattle.render_plan.specs.declared.function.First.{First}
use Rattle.render_plan.specs.declared.function.First.TheVariants as firsts
use Rattle.render_plan.specs.declared.function.Beside.{Beside}
use Rattle.render_plan.specs.declared.function.Beside.TheVariants as sides
use Rattle.render_plan.specs.declared.function.Match.{Match}
use Rattle.render_plan.specs.declared.function.Match.TheVariants as matches
use Rattle.render_plan.specs.declared.function.Regrouping.{Regrouping}
use Rattle.render_plan.specs.declared.function.Regrouping.TheVariants as groupings
use Rattle.render_plan.specs.Arguments.{quoted_in}
use Rattle.render_plan.specs.declared.operation.Operation.{Operation}
use Rattle.render_plan.specs.declared.operation.Operation.TheVariants as operation
use Rattle.render_plan.specs.declared.target.Target.{Target, fold-Target}
use Rattle.render_plan.specs.declared.target.Target.TheOpen.{Target-F}

-- ---- the operation of a call

abbrev pub count_in : Option Argument → Option ℕ
count_in (Some (argument.Count count)) = Some count
count_in _ = None

abbrev pub value_in : Option Argument → Option ℤ
value_in (Some (argument.Value value)) = Some value
value_in _ = None

abbrev pub factor_in : Option Argument → Option ℤ
factor_in (Some (argument.Factor factor)) = Some factor
factor_in _ = None

abbrev pub span_in : Option Argument → Option Span
span_in (Some (argument.Span span)) = Some span
span_in _ = None

abbrev pub step_in : Option Argument → Option ℕ
step_in (Some (argument.Step step)) = Some step
step_in _ = None

abbrev pub gather_in : Option Argument → Option Gather
gather_in (Some (argument.Gather gather)) = Some gather
gather_in _ = None

-- The shape of a call by its second and third argument; what may be left out has its default.
unfoldable pub shape_of : Shaping → Option Argument → Option Argument → Option Shape
shape_of shapings.Absolute second third = Some shape.Absolute
shape_of shapings.OffsetToZero second third = Some shape.OffsetToZero
shape_of shapings.Derivative second third = Some shape.Derivative
shape_of shapings.NonNegativeDerivative second third = Some shape.NonNegativeDerivative
shape_of shapings.PerSecond second third = Some shape.PerSecond
shape_of shapings.Integral second third = Some shape.Integral
shape_of shapings.IsNonNull second third = Some shape.IsNonNull
shape_of shapings.Changed second third = Some shape.Changed
shape_of shapings.Scale second third = option_map shape.Scale (factor_in second)
shape_of shapings.Offset second third = option_map shape.Offset (value_in second)
shape_of shapings.Delay second third = option_map shape.Delay (count_in second)
shape_of shapings.KeepLastValue second third = Some (shape.KeepLastValue (count_in second))
shape_of shapings.TransformNull second third =
    Some (shape.TransformNull (unwrap_or (value_in second) (pos 0)))
shape_of shapings.RemoveAboveValue second third =
    option_map shape.RemoveAboveValue (value_in second)
shape_of shapings.RemoveBelowValue second third =
    option_map shape.RemoveBelowValue (value_in second)
shape_of shapings.ScaleToSeconds second third = option_map shape.ScaleToSeconds (count_in second)
shape_of shapings.Summarize second third =
    option_map (λ step. shape.Summarize step (unwrap_or (gather_in third) Sum)) (step_in second)
shape_of shapings.TimeShift second third =
    option_map (λ span. shape.TimeShift span.past span.seconds) (span_in second)

-- the first of all paths of a tree, from the left
abbrev pub leftmost : Tree → Tree
leftmost (Call name End) = Call name End
leftmost (Call name (Then tree trees)) = leftmost tree
leftmost (Path glob) = Path glob
leftmost (Number text) = Number text
leftmost (Flag flag) = Flag flag
leftmost (Quoted quote text) = Quoted quote text

-- the name of a call's function
abbrev pub name_of : Tree → List ℕ
name_of (Call name arguments) = name
name_of _ = []

-- the texts of the arguments behind the first, with a comma before each
abbrev pub behind_first : Trees → List ℕ
behind_first End = []
behind_first (Then tree trees) = further_texts trees

abbrev pub tail_of : Tree → List ℕ
tail_of (Call name arguments) = behind_first arguments
tail_of _ = []

-- a shape is named after the function and the further arguments
abbrev pub shaped_call : Option Shape → Tree → Option Operation
shaped_call kind call = option_map (λ k. operation.Shape k (name_of call) (tail_of call)) kind

-- ---- choices

-- the text of the first argument, where it is one
abbrev pub first_text : Trees → Option (List ℕ)
first_text End = None
first_text (Then tree trees) = quoted_in tree

abbrev pub text_behind_first : Trees → Option (List ℕ)
text_behind_first End = None
text_behind_first (Then tree trees) = first_text trees

abbrev pub text_behind_second : Trees → Option (List ℕ)
text_behind_second End = None
text_behind_second (Then tree trees) = text_behind_first trees

-- the text that is the second argument of a call, and that which is the third
abbrev pub text_of_second : Tree → Option (List ℕ)
text_of_second (Call name arguments) = text_behind_first arguments
text_of_second (Path glob) = None
text_of_second (Number text) = None
text_of_second (Flag flag) = None
text_of_second (Quoted quote text) = None

abbrev pub text_of_third : Tree → Option (List ℕ)
text_of_third (Call name arguments) = text_behind_second arguments
text_of_third (Path glob) = None
text_of_third (Number text) = None
text_of_third (Flag flag) = None
text_of_third (Quoted quote text) = None

abbrev pub plain : Plain → Choose
plain plains.AliasByMetric = choose.AliasByMetric
plain plains.SortByName = choose.SortByName
plain plains.SortByMaxima = choose.SortByMaxima
plain plains.SortByTotal = choose.SortByTotal
plain plains.SortByMinima = choose.SortByMinima
plain plains.RemoveEmptySeries = choose.RemoveEmptySeries

abbrev pub so_many : First → ℕ → Choose
so_many firsts.Limit most = choose.Limit most
so_many firsts.HighestMax most = choose.HighestMax most
so_many firsts.HighestCurrent most = choose.HighestCurrent most
so_many firsts.HighestAverage most = choose.HighestAverage most
so_many firsts.LowestCurrent most = choose.LowestCurrent most
so_many firsts.LowestAverage most = choose.LowestAverage most

abbrev pub beside : Beside → ℤ → Choose
beside sides.MaximumAbove bound = choose.MaximumAbove bound
beside sides.MinimumAbove bound = choose.MinimumAbove bound
beside sides.CurrentAbove bound = choose.CurrentAbove bound
beside sides.AverageAbove bound = choose.AverageAbove bound
beside sides.MaximumBelow bound = choose.MaximumBelow bound
beside sides.MinimumBelow bound = choose.MinimumBelow bound
beside sides.CurrentBelow bound = choose.CurrentBelow bound
beside sides.AverageBelow bound = choose.AverageBelow bound

abbrev pub matching : Match → List ℕ → Choose
matching matches.Grep pattern = choose.Grep pattern
matching matches.Exclude pattern = choose.Exclude pattern

-- a text that is no pattern is no argument
unfoldable pub matching_choice : Match → List ℕ → Option Choose
matching_choice kind text = if is_readable text then Some (matching kind text) else None

abbrev pub alias_of : List ℕ → Choose
alias_of name = choose.Alias name

unfoldable pub alias_sub : List ℕ → List ℕ → Option Choose
alias_sub pattern replacement =
    if is_readable pattern then Some (choose.AliasSub pattern replacement) else None

abbrev pub node_in : Argument → Option ℤ
node_in (argument.Node node) = Some node
node_in _ = None

-- which series a call leaves
unfoldable pub choose_of : Choosing → Tree → List Argument → Option Choose
choose_of (choices.Plain kind) call arguments = Some (plain kind)
choose_of (choices.First kind) call arguments =
    option_map (so_many kind) (count_in (slice_get arguments 1))
choose_of (choices.Beside kind) call arguments =
    option_map (beside kind) (value_in (slice_get arguments 1))
choose_of (choices.Match kind) call arguments =
    option_and_then (matching_choice kind) (text_of_second call)
choose_of choices.Alias call arguments = option_map alias_of (text_of_second call)
choose_of choices.AliasSub call arguments =
    option_and_then (λ pattern. option_and_then (alias_sub pattern) (text_of_third call))
    (text_of_second call)
choose_of choices.AliasByNode call arguments =
    Some (choose.AliasByNode (filter_map node_in arguments))

-- ---- groups

abbrev pub place_in : Argument → Option ℕ
place_in (argument.Place place) = Some place
place_in _ = None

abbrev pub group_by : Option Argument → Option Argument → Option Regroup
group_by (Some (argument.Node node)) (Some (argument.Combine kind)) =
    Some (regroup.GroupByNode node kind)
group_by _ _ = None

-- how a call groups series
unfoldable pub regroup_of : Regrouping → List Argument → Option Regroup
regroup_of groupings.GroupByNode arguments =
    group_by (slice_get arguments 1) (slice_get arguments 2)
regroup_of groupings.SumSeriesWithWildcards arguments =
    Some (regroup.SumSeriesWithWildcards (filter_map place_in arguments))
regroup_of groupings.AverageSeriesWithWildcards arguments =
    Some (regroup.AverageSeriesWithWildcards (filter_map place_in arguments))

-- ---- all calls

abbrev pub chosen_call : Option Choose → Option Operation
chosen_call = option_map operation.Choose

abbrev pub grouped_call : Option Regroup → Option Operation
grouped_call = option_map operation.Regroup

-- What a call makes of its series. Combined series are named as the call is written, and have the
-- path that stands leftmost in it.
unfoldable pub operation_of : Function → Tree → List Argument → Option Operation
operation_of (function.Combine kind) call arguments =
    Some (operation.Combine kind (text_of call) (text_of (leftmost call)))
operation_of function.Divide call arguments = Some operation.Divide
operation_of function.Group call arguments = Some operation.Group
operation_of function.Fallback call arguments = Some operation.Fallback
operation_of (function.Shape shaping) call arguments =
    shaped_call (shape_of shaping (slice_get arguments 1) (slice_get arguments 2)) call
operation_of (function.Choose choosing) call arguments =
    chosen_call (choose_of choosing call arguments)
operation_of (function.Regroup regrouping) call arguments =
    grouped_call (regroup_of regrouping arguments)

-- ---- the tree

mutual
  pub data Term : Type 0 where
    Fetch : Said → Term
    Apply : Operation → Terms → Term

  -- the arguments of a call that are series, in order
  pub data Terms : Type 0 where
    NoTerms : Terms
    WithTerm : Term → Terms → Terms

abbrev pub all_terms : List Term → Terms
all_terms [] = NoTerms
all_terms (term ∷ terms) = WithTerm term (all_terms terms)

-- one level of a target, with what its arguments ask
abbrev pub term_step : Target-F Term → Term
term_step (Target-F.Path glob) = Fetch glob
term_step (Target-F.Call operation targets) = Apply operation (all_terms targets.items)

-- what a target asks
abbrev pub term_of : Target → Term
term_of = fold-Target Term term_step

-- what several ask
abbrev pub terms_of : List Target → Terms
terms_of targets = all_terms (map term_of targets)
