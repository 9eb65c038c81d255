-- What a query asks, or why it is refused: the first fault.
use Rattle.std.specs.Prelude.{ℕ, ◌+◌, ◌==◌, nat_lt, List, [], ◌∷◌, length, Option, Result, Ok, Err, if◌then◌else◌}
use Rattle.target_parse.specs.Reading.{read_target}
use Rattle.target_parse.specs.Tree.{Tree}
use Rattle.target_parse.specs.declared.fault.TargetFault.{TargetFault}
use Rattle.target_parse.specs.declared.fault.TargetFault.TheVariants as target
use Rattle.render_plan.specs.declared.check.Refusal.{Refusal}
use Rattle.render_plan.specs.declared.check.Refusal.TheVariants as refusal
use Rattle.render_plan.specs.declared.fault.QueryFault.{QueryFault}
use Rattle.render_plan.specs.declared.fault.QueryFault.TheVariants.{NoTarget, TooManyTargets, Target, UnknownFunction, BadArgument, NoMemory}
use Rattle.render_plan.specs.declared.fault.TargetCause.TheVariants.{At, TooDeep, TooLong}
use Rattle.render_plan.specs.declared.settings.Format.{Format}
use Rattle.render_plan.specs.declared.settings.Settings.{Settings}
use Rattle.render_plan.specs.Checked.{checked}
use Rattle.render_plan.specs.Given.{parameters_in}
use Rattle.render_plan.specs.Settled.{settled, where_good}
use Rattle.render_plan.specs.Terms.{Term}

-- the most targets of a query
abbrev pub most_targets : ℕ
most_targets = 128

-- the fault of the target with a number
abbrev pub parse_fault : ℕ → TargetFault → QueryFault
parse_fault n (target.At place) = Target n (At place)
parse_fault n target.TooDeep = Target n TooDeep
parse_fault n target.TooLong = Target n TooLong
parse_fault n target.NoMemory = NoMemory

abbrev pub refusal_fault : ℕ → Refusal → QueryFault
refusal_fault n refusal.UnknownFunction = UnknownFunction n
refusal_fault n refusal.BadArgument = BadArgument n
refusal_fault n refusal.NoMemory = NoMemory

abbrev pub or_refusal : ℕ → Result Term Refusal → Result Term QueryFault
or_refusal n (Ok term) = Ok term
or_refusal n (Err why) = Err (refusal_fault n why)

abbrev pub or_parse_fault : ℕ → Result Tree TargetFault → Result Term QueryFault
or_parse_fault n (Ok tree) = or_refusal n (checked tree)
or_parse_fault n (Err why) = Err (parse_fault n why)

-- what the target with a number asks: first it is read whole, and then its calls are checked
unfoldable pub target_at : ℕ → List ℕ → Result Term QueryFault
target_at n text = or_parse_fault n (read_target text)

-- what targets ask, which are numbered from n on, or the first fault
abbrev pub targets_from : ℕ → List (List ℕ) → Result (List Term) QueryFault
targets_from n [] = Ok []
targets_from n (text ∷ texts) =
    where_good (target_at n text) (λ term.
    where_good (targets_from (n + 1) texts) (λ terms.
    Ok (term ∷ terms)))

abbrev pub targets_or_fault : List (List ℕ) → Result (List Term) QueryFault
targets_or_fault texts =
    if length texts == 0 then Err NoTarget else
    (if nat_lt most_targets (length texts) then Err TooManyTargets else targets_from 1 texts)

-- What a query asks: what its targets ask, in order, from which moment until which, in which form
-- and with how many values.
pub record Plan : Type 0 where
  pub targets : List Term
  pub from : ℕ
  pub until : ℕ
  pub format : Format
  pub points : Option ℕ

abbrev pub plan_of : List Term → Settings → Plan
plan_of terms settings = record {
  targets = terms;
  from = settings.from;
  until = settings.until;
  format = settings.format;
  points = settings.points;
}

-- what a query asks at a moment, or its first fault: that of a target before any of the others
unfoldable pub read_plan : List ℕ → List ℕ → ℕ → Result Plan QueryFault
read_plan query body now =
    where_good (targets_or_fault (parameters_in query body).targets) (λ terms.
    where_good (settled (parameters_in query body) now) (λ settings.
    Ok (plan_of terms settings)))
