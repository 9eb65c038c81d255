-- The check of a target's calls: each before its arguments, and those from the left.
use Rattle.std.specs.Prelude.{ℕ, List, [], ◌∷◌, Option, Some, None, Result, Ok, Err, if◌then◌else◌}
use Rattle.std.specs.Option.{option_map_or}
use Rattle.target_parse.specs.Tree.{Tree, Call, Path, Number, Flag, Quoted, Trees, End, Then}
use Rattle.render_plan.specs.declared.check.Refusal.{Refusal}
use Rattle.render_plan.specs.declared.check.Refusal.TheVariants.{UnknownFunction, BadArgument}
use Rattle.render_plan.specs.declared.operation.Operation.{Operation}
use Rattle.render_plan.specs.declared.target.Target.{Target}
use Rattle.render_plan.specs.Arguments.{arguments_of, is_series}
use Rattle.render_plan.specs.Functions.{row_of}
use Rattle.render_plan.specs.Terms.{Term, Terms, Fetch, Apply, NoTerms, WithTerm, operation_of, term_of}

abbrev pub or_bad_argument : {A : Type 0} → Option A → Result A Refusal
or_bad_argument (Some x) = Ok x
or_bad_argument None = Err BadArgument

abbrev pub check_then : {A B : Type 0} → Result A Refusal → (A → Result B Refusal)
    → Result B Refusal
check_then (Ok x) next = next x
check_then (Err refusal) next = Err refusal

-- What a call makes of its series: there has to be a function of its name, which takes its
-- arguments.
unfoldable pub call_operation : Tree → List ℕ → Trees → Result Operation Refusal
call_operation call name arguments =
    option_map_or (λ row.
    check_then (or_bad_argument (arguments_of row.takes arguments)) (λ taken.
    or_bad_argument (operation_of row.function call taken)))
    (row_of name) (Err UnknownFunction)

abbrev pub with_term : Result Term Refusal → Result Terms Refusal → Result Terms Refusal
with_term first others =
    check_then first (λ term. check_then others (λ terms. Ok (WithTerm term terms)))

abbrev mutual
  -- what a target asks to be done, or the first refusal of its calls
  pub checked : Tree → Result Term Refusal
  checked (Call name arguments) =
      check_then (call_operation (Call name arguments) name arguments) (λ operation.
      check_then (checked_all arguments) (λ terms. Ok (Apply operation terms)))
  checked (Path glob) = Ok (Fetch glob)
  checked (Number text) = Err BadArgument
  checked (Flag flag) = Err BadArgument
  checked (Quoted quote text) = Err BadArgument

  -- what the arguments that are series ask
  pub checked_all : Trees → Result Terms Refusal
  checked_all End = Ok NoTerms
  checked_all (Then tree trees) =
      if is_series tree then with_term (checked tree) (checked_all trees) else checked_all trees

-- ---- what the code has of it

abbrev pub onto_terms : List Target → Terms → Terms
onto_terms [] terms = terms
onto_terms (target ∷ targets) terms = WithTerm (term_of target) (onto_terms targets terms)

-- what some targets ask, and then what is left
abbrev pub terms_before : List Target → Result Terms Refusal → Result Terms Refusal
terms_before targets (Ok terms) = Ok (onto_terms targets terms)
terms_before targets (Err refusal) = Err refusal
