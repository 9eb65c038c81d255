-- The script of a sample.
use Rattle.std.proofs.Common.{◌≡◌, ◌⊎◌, inl, inr, ℕ, Bool, List, Option, Some, None, refl, subst, arith}
use Rattle.outside_io.specs.Faults.{Rose}
use Rattle.outside_io.specs.declared.disk.Disk.{Ghosts}
use Rattle.carbon_model.specs.RingFiles.{Settings}
use Rattle.carbon_words.specs.declared.command.SampleOptions.{SampleOptions}
use Rattle.sample_text.specs.Sample.{question_text, sample_front}
use Rattle.carbon_script.specs.Behind.{EndsBehindWith}
use Rattle.carbon_script.specs.Scripts.{EndsWith}
use Rattle.carbon_script.specs.declared.serve.Scripted.{Scripted as Served}
use Rattle.carbon_model.specs.State.{State}
use Rattle.outside_io.specs.Image.{Image}
use Rattle.carbon_run.specs.Runs.{Answer, EndsOverWith, NoStart, Scripted, Streams}
use Rattle.carbon_run.specs.Samples.{SampleRuns, untouched}

-- the count of a source that never fails does not rise
pub no_rise : Rose 0 0 → ⊥
no_rise rose = omega (arith, rose)

-- a script over its input alone, and one behind a front
pub ends_alone : (told : ℕ → Option Image) (start : State) (served : Served) (left before left' after : Option (List ℕ)) → EndsWith told start served left before left' after
    → EndsOverWith told start served None left before left' after
ends_alone told start served left before left' after ends = record { code = ends.code; pass = ends.pass; ends = ends.ends }

pub ends_behind : (told : ℕ → Option Image) (start : State) (served : Served) (front : List ℕ) (left before left' after : Option (List ℕ)) → EndsBehindWith told start served (Some front) left before left' after
    → EndsOverWith told start served (Some front) left before left' after
ends_behind told start served front left before left' after ends = record { code = ends.code; pass = ends.pass; ends = ends.ends }

-- what is written over a front and some input
abbrev over : (front left rest before after : Option (List ℕ)) → Streams
over front left rest before after = record { front = front; left = left; left' = rest; written = before; written' = after }

-- what a script over the text of a sample comes to is what the run of the sample comes to, whatever stands on the input
pub sample_runs : {D : Type 0} (d : Ghosts D) (settings : Settings) (redo : Bool) (said : SampleOptions) (left front question before after rest : Option (List ℕ)) (given : List D) (answer : Answer D)
    → front ≡ Some (sample_front said.start said.count) → question ≡ Some question_text
    → NoStart d (over front question rest before after) given answer ⊎ Scripted d settings redo (over front question rest before after) given answer
    → SampleRuns d settings redo said (untouched left before after) given answer
sample_runs d settings redo said left front question before after rest given answer text asked (inl none) =
    inl (record { refusal = none.refusal; refuses = none.refuses; tells = none.tells; history = none.history; input = refl })
sample_runs d settings redo said left front question before after rest given answer text asked (inr runs) =
    inr (record {
      input = refl;
      rest = rest;
      runs = subst (λ (q : Option (List ℕ)). Scripted d settings redo (over (Some (sample_front said.start said.count)) q rest before after) given answer) asked
          (subst (λ (f : Option (List ℕ)). Scripted d settings redo (over f question rest before after) given answer) text runs);
    })
