-- Where a service stands in the middle of its input.
use Rattle.std.specs.Prelude.{◌≡◌, ◌≢◌, ℕ, List, [], ◌∷◌, ◌++◌, Option, length}
use Rattle.std.specs.Io.KnownBytes.{Consumes}
use Rattle.line_frame.specs.Lines.{Line, Whole, TooLong, Framing, HandsOut, lines}
use Rattle.line_frame.specs.declared.framer.Framed.{Framed}
use Rattle.line_frame.specs.declared.framer.Framed.TheVariants as framed
use Rattle.line_service.specs.declared.ends.Stop.{Stop}
use Rattle.line_service.specs.declared.serve.PieceFault.{PieceFault}
use Rattle.line_service.specs.declared.serve.PieceFault.TheVariants as piece
use Rattle.line_service.specs.Service.{At, Serves, Stops, StepOf, Chain, StopsAt}

-- where a line was handed out, it can be read
abbrev pub IsHandedOut : Framed → Framing → Type 0
IsHandedOut framed.Line framing = framing.current ≢ []
IsHandedOut framed.TooLong framing = Unit {0}

-- the line that a framer handed out is this one
abbrev pub IsLine : Framed → Framing → Line → Type 0
IsLine framed.Line framing line = (bytes : List ℕ) × ((framing.current ≡ bytes ∷ []) × (line ≡ Whole bytes))
IsLine framed.TooLong framing line = line ≡ TooLong

-- whatever line it is that was handed out, it is served
abbrev pub ServesFramed : {L : Type 0} → Serves L → Framed → Framing → At L → At L → Type 0
ServesFramed serves framed framing from to = (line : Line) → IsLine framed framing line → StepOf serves from line to

-- the same where the server stops
abbrev pub StopsFramed : {L : Type 0} → Stops L → Stop → Framed → Framing → At L → At L → Type 0
StopsFramed stops stop framed framing from to = (line : Line) → IsLine framed framing line → stops from.server line from.written stop to.server to.written

-- of the lines that waited the first were served, and the others still wait
pub record ServesTo {P : Type 0} (step : P → Line → P → Type 0) (old : Framing) (from : P) (new : Framing) (to : P) : Type 0 where
  pub handed : List Line
  pub split : old.waiting ≡ handed ++ new.waiting
  pub chain : Chain step from handed to
  pub open_line : new.open_line ≡ old.open_line

-- A service that has served all lines of the bytes `taken`, and waits for the next.
pub record Served {P : Type 0} (step : P → Line → P → Type 0) (from : P) (taken : List ℕ) (framing : Framing) (to : P) : Type 0 where
  pub hands : HandsOut (lines taken) taken framing
  pub chain : Chain step from (lines taken) to
  pub all : framing.waiting ≡ []

-- whatever was taken before, the lines that a piece ends are served too
abbrev pub TakesPiece : {P : Type 0} → (P → Line → P → Type 0) → Framing → P → List ℕ → Framing → P → Type 0
TakesPiece {P} step framing mid piece framing' to =
    (from : P) (taken : List ℕ) → Served step from taken framing mid → Served step from (taken ++ piece) framing' to

-- there is no memory for a piece, and none of the lines that it ends is served; or the server stops at one of them, whatever was taken before
abbrev pub BreaksOff : {L : Type 0} → Serves L → Stops L → PieceFault → Framing → At L → List ℕ → At L → Type 0
BreaksOff serves stops piece.NoMemory framing mid piece to = to ≡ mid
BreaksOff {L} serves stops (piece.Stopped stop) framing mid piece to =
    (from : At L) (taken : List ℕ) → Served (StepOf serves) from taken framing mid → StopsAt serves stops stop from (lines (taken ++ piece)) to

-- so many bytes were taken of what was left, and all their lines were served
pub record Reached {P : Type 0} (step : P → Line → P → Type 0) (left : Option (List ℕ)) (from : P) (count : ℕ) (left' : Option (List ℕ)) (framing : Framing) (to : P) : Type 0 where
  pub taken : List ℕ
  pub consumed : Consumes left left' taken
  pub counted : length taken ≡ count
  pub served : Served step from taken framing to
