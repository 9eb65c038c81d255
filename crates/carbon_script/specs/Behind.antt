-- What a script comes to of which the replies to the first lines are not written.
use Rattle.std.specs.Prelude.{◌≡◌, ◌⊎◌, ◌<◌, ◌^◌, ℕ, List, Option, None, IfSome, length}
use Rattle.std.specs.Io.KnownBytes.{Consumes}
use Rattle.outside_io.specs.Image.{Image}
use Rattle.line_frame.specs.Lines.{lines}
use Rattle.line_frame.specs.Machine.{Runs}
use Rattle.line_service.specs.declared.ends.Stop.TheVariants as stop
use Rattle.line_service.specs.Service.{RunsOut}
use Rattle.carbon_model.specs.State.{State}
use Rattle.carbon_script.specs.Script.{Machine, Steps, opening}
use Rattle.carbon_script.specs.Sessions.{EndsFrom, ServesAll, SessionValue, StopsAtLine}
use Rattle.carbon_script.specs.declared.serve.ScriptEnd.{ScriptEnd}
use Rattle.carbon_script.specs.declared.serve.ScriptEnd.TheVariants as end
use Rattle.carbon_script.specs.declared.serve.Scripted.{Scripted}

-- The script ended before all lines of the front were served, of which the bytes `taken` were read: at a line, or between two reads.
abbrev pub BreaksOff : (ℕ → Option Image) → State → ScriptEnd → List ℕ → SessionValue → Type 0
BreaksOff told start end.Done taken new = ⊥
BreaksOff told start end.ReadFault taken new = ServesAll told start (opening start) taken None new None × (length taken < 2 ^ 40)
BreaksOff told start end.WriteFault taken new = ⊥
BreaksOff told start (end.DiskFault class) taken new = ⊥
BreaksOff told start end.InputLimit taken new = ServesAll told start (opening start) taken None new None × (length taken ≡ 2 ^ 40)
BreaksOff told start end.Spent taken new = StopsAtLine told start (opening start) stop.Spent (lines taken) None new None
BreaksOff told start end.NoMemory taken new =
    ((first : List ℕ) × (RunsOut first taken × ServesAll told start (opening start) first None new None))
    ⊎ StopsAtLine told start (opening start) stop.NoMemory (lines taken) None new None

-- So it did. Nothing was written, and what stands behind the front was not read.
pub record EndsWithin (told : ℕ → Option Image) (start : State) (reason : ScriptEnd) (front left before left' : Option (List ℕ)) (new : SessionValue) (after : Option (List ℕ)) : Type 0 where
  pub taken : List ℕ
  pub rest : Option (List ℕ)
  pub consumed : Consumes front rest taken
  pub breaks : BreaksOff told start reason taken new
  pub silent : after ≡ before
  pub unread : left' ≡ left

-- All lines of the front were served. What they say, `hidden`, was not written, and the script went on with what stands behind them.
pub record EndsAfter (told : ℕ → Option Image) (start : State) (reason : ScriptEnd) (front left before left' : Option (List ℕ)) (new : SessionValue) (after : Option (List ℕ)) : Type 0 where
  pub served : List ℕ
  pub all : IfSome front (λ bytes. served ≡ bytes)
  pub mid : Machine
  pub hidden : List ℕ
  pub runs : Runs (Steps told) (opening start) (lines served) mid hidden
  pub ends : EndsFrom told start mid reason left before left' new after

-- What a script came to whose front is served without a word.
abbrev pub EndsBehind : (ℕ → Option Image) → State → ScriptEnd → Option (List ℕ) → Option (List ℕ) → Option (List ℕ) → Option (List ℕ) → SessionValue → Option (List ℕ) → Type 0
EndsBehind told start reason front left before left' new after =
    EndsWithin told start reason front left before left' new after ⊎ EndsAfter told start reason front left before left' new after

-- the end that it had, and its pass, with some clock and counts
pub record EndsBehindWith (told : ℕ → Option Image) (start : State) (scripted : Scripted) (front left before left' after : Option (List ℕ)) : Type 0 where
  pub code : SessionValue
  pub pass : code.pass ≡ scripted.pass
  pub ends : EndsBehind told start scripted.end front left before left' code after
