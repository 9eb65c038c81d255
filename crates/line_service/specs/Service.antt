-- What a service of lines made of its input.
use Rattle.std.specs.Prelude.{◌≡◌, ◌≢◌, ◌⊎◌, ◌<◌, ◌^◌, ℕ, List, [], ◌∷◌, ◌++◌, Option, length}
use Rattle.std.specs.Io.KnownBytes.{Consumes, IsAtEnd}
use Rattle.line_frame.specs.Lines.{Line, lines}
use Rattle.outside_io.specs.declared.sink.Sink.{Ghosts}
use Rattle.line_service.specs.declared.ends.Stop.{Stop}
use Rattle.line_service.specs.declared.ends.ServiceEnd.{ServiceEnd}
use Rattle.line_service.specs.declared.ends.ServiceEnd.TheVariants as end

-- where a service stands: its server, and what was written, where the sink tells it
pub record At (L : Type 0) : Type 0 where
  pub server : L
  pub written : Option (List ℕ)

-- where it stands with this server and this sink
abbrev pub standing : {L K : Type 0} → Ghosts K → L → K → At L
standing sink server out = record { server = server; written = sink.written out }

-- what a line may make of a server and of what was written, where the service goes on
abbrev pub Serves : Type 0 → Type 1
Serves L = L → Line → Option (List ℕ) → L → Option (List ℕ) → Type 0

-- the same where the server stops the service at the line
abbrev pub Stops : Type 0 → Type 1
Stops L = L → Line → Option (List ℕ) → Stop → L → Option (List ℕ) → Type 0

-- one line is served
abbrev pub StepOf : {L : Type 0} → Serves L → At L → Line → At L → Type 0
StepOf serves from line to = serves from.server line from.written to.server to.written

-- the lines are served one after the other
abbrev pub Chain : {P : Type 0} → (P → Line → P → Type 0) → P → List Line → P → Type 0
Chain step from [] to = to ≡ from
Chain {P} step from (line ∷ others) to = (next : P) × (step from line next × Chain step next others to)

-- the piece that was taken last, behind bytes that are no whole limit
pub record LastPiece (front taken : List ℕ) : Type 0 where
  pub piece : List ℕ
  pub some : piece ≢ []
  pub split : taken ≡ front ++ piece
  pub short : length front < 2 ^ 40

-- Memory runs out behind these bytes: before any is taken, or for the piece that was taken last.
abbrev pub RunsOut : List ℕ → List ℕ → Type 0
RunsOut front taken = ((front ≡ []) × (taken ≡ [])) ⊎ LastPiece front taken

-- the first of the lines are served, and the server stops at the line that follows them
pub record StopsAt {L : Type 0} (serves : Serves L) (stops : Stops L) (stop : Stop) (from : At L) (all : List Line) (to : At L) : Type 0 where
  pub handed : List Line
  pub line : Line
  pub rest : List Line
  pub mid : At L
  pub split : all ≡ handed ++ line ∷ rest
  pub chain : Chain (StepOf serves) from handed mid
  pub stopped : stops mid.server line mid.written stop to.server to.written

-- what became of the bytes `taken`, where so much is left behind them
abbrev pub EndsAs : {L : Type 0} → Serves L → Stops L → ServiceEnd → At L → List ℕ → Option (List ℕ) → At L → Type 0
EndsAs serves stops end.Closed from taken left to =
    Chain (StepOf serves) from (lines taken) to × (IsAtEnd left × (length taken < 2 ^ 40))
EndsAs serves stops end.ReadFault from taken left to = Chain (StepOf serves) from (lines taken) to × (length taken < 2 ^ 40)
EndsAs serves stops end.Limit from taken left to = Chain (StepOf serves) from (lines taken) to × (length taken ≡ 2 ^ 40)
EndsAs serves stops end.NoMemory from taken left to =
    (front : List ℕ) × (RunsOut front taken × Chain (StepOf serves) from (lines front) to)
EndsAs serves stops (end.Stopped stop) from taken left to = StopsAt serves stops stop from (lines taken) to

-- What a service made of its input, whatever its pieces were: `taken` are the bytes that were read of what was left.
abbrev pub Service : {L : Type 0} → Serves L → Stops L → ServiceEnd → Option (List ℕ) → At L → Option (List ℕ) → At L → Type 0
Service serves stops end left from left' to = (taken : List ℕ) × (Consumes left left' taken × EndsAs serves stops end from taken left' to)
