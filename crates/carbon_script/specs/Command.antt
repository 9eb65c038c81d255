-- What a line of a script says.
use Rattle.std.specs.Str.{bytes_eq}
use Rattle.std.specs.Prelude.{ℕ, Bool, nat_eq, nat_le, List, Option, Some, None, Result, Ok, Err, if◌then◌else◌, length, drop, codes, option_and_then}
use Rattle.std.specs.List.{starts_with}
use Rattle.fixed_num.specs.Whole.{whole_number}
use Rattle.fixed_num.specs.Moment.{legal_moment}
use Rattle.metric_line.specs.declared.fault.LineFault.{LineFault}
use Rattle.metric_line.specs.LineDatum.{datum_of}
use Rattle.metric_line.specs.Point.{Point}
use Rattle.line_frame.specs.Lines.{Line, Whole, TooLong}

-- A line is a metric line, with its point or the reason why it is refused, or too long to be read. Or it is a command: it sets the clock, asks a
-- query, begins a drain, writes a run of one, has all drained, or says nothing known.
pub data Command : Type 0 where
  Metric : Point → Command
  Refused : LineFault → Command
  Long : Command
  Clock : ℕ → Command
  Ask : List ℕ → Command
  Plan : Command
  Write : Command
  DrainAll : Command
  Bad : Command

-- what stands behind a word that begins a text
abbrev pub behind : List ℕ → List ℕ → Option (List ℕ)
behind word text = if starts_with nat_eq text word then Some (drop (length word) text) else None

unfoldable pub clock_word : List ℕ
clock_word = codes "!clock "

unfoldable pub ask_word : List ℕ
ask_word = codes "!ask "

unfoldable pub plan_word : List ℕ
plan_word = codes "!plan"

unfoldable pub write_word : List ℕ
write_word = codes "!write"

unfoldable pub drain_word : List ℕ
drain_word = codes "!drain"

-- one to ten digits that give a legal moment
unfoldable pub clock_moment : List ℕ → Option ℕ
clock_moment text = option_and_then legal_moment (if nat_le (length text) 10 then whole_number text else None)

-- what a line sets the clock to, and what it asks
unfoldable pub set_clock : List ℕ → Option ℕ
set_clock line = option_and_then clock_moment (behind clock_word line)

unfoldable pub asked : List ℕ → Option (List ℕ)
asked line = behind ask_word line

-- the command of a word alone
unfoldable pub word_command : List ℕ → Command
word_command line =
    if bytes_eq line plan_word then Plan else
    (if bytes_eq line write_word then Write else
    (if bytes_eq line drain_word then DrainAll else Bad))

abbrev pub ask_or : Option (List ℕ) → Command → Command
ask_or (Some query) other = Ask query
ask_or None other = other

abbrev pub clock_or : Option ℕ → Command → Command
clock_or (Some t) other = Clock t
clock_or None other = other

-- the command of a line that begins with `!`
unfoldable pub command_in : List ℕ → Command
command_in line = clock_or (set_clock line) (ask_or (asked line) (word_command line))

-- a line that begins with `!` is a command, and any other a metric line
abbrev pub is_command : List ℕ → Bool
is_command line = starts_with nat_eq line (codes "!")

abbrev pub metric_or_refused : Result Point LineFault → Command
metric_or_refused (Ok p) = Metric p
metric_or_refused (Err fault) = Refused fault

-- To read a metric line takes memory: it holds a path. A line that is refused, or a command, is read without any.
abbrev pub TakesMemory : Command → Type 0
TakesMemory (Metric point) = Unit {0}
TakesMemory (Refused fault) = ⊥
TakesMemory Long = ⊥
TakesMemory (Clock moment) = ⊥
TakesMemory (Ask query) = ⊥
TakesMemory Plan = ⊥
TakesMemory Write = ⊥
TakesMemory DrainAll = ⊥
TakesMemory Bad = ⊥

-- what a line says while the clock stands at a moment
abbrev pub command_of : Line → ℕ → Command
command_of (Whole line) now = if is_command line then command_in line else metric_or_refused (datum_of line now)
command_of TooLong now = Long
