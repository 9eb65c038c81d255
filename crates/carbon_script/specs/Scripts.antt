-- What a script that was served came to.
use Rattle.std.specs.Prelude.{◌≡◌, ℕ, List, Option}
use Rattle.outside_io.specs.Image.{Image}
use Rattle.carbon_model.specs.State.{State}
use Rattle.carbon_script.specs.Sessions.{Ends, SessionValue}
use Rattle.carbon_script.specs.declared.serve.Scripted.{Scripted}

-- the end that it had, and its pass, with some clock and counts
pub record EndsWith (told : ℕ → Option Image) (start : State) (scripted : Scripted) (left before left' after : Option (List ℕ)) : Type 0 where
  pub code : SessionValue
  pub pass : code.pass ≡ scripted.pass
  pub ends : Ends told start scripted.end left before left' code after
