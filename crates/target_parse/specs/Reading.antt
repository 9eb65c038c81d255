-- How a target is read from the left, and where no reading goes on.
use Rattle.std.specs.Prelude.{◌≡◌, ℕ, zero, suc, ◌+◌, ◌-◌, ◌==◌, Bool, true, false, nat_le, List, [], ◌∷◌, length, take, drop, Option, Some, None, Result, Ok, Err, if◌then◌else◌}
use Rattle.std.specs.Option.{option_map_or}
use Rattle.std.specs.Str.{is_utf8}
use Rattle.std.specs.Str.Lossy.{utf8_valid_len}
use Rattle.fixed_num.specs.Decimal.{is_number}
use Rattle.path_glob.specs.Faults.{Said, legal_glob}
use Rattle.path_glob.specs.declared.fault.GlobFault.{GlobFault}
use Rattle.path_glob.specs.declared.fault.GlobFault.TheVariants.{TooLong as GlobTooLong, EmptyNode, BadByte, Unclosed, NoMemory as GlobNoMemory}
use Rattle.target_parse.specs.Bytes.{behind_stretch, flag_of, is_blank, is_name, is_quote, most_depth, most_target_bytes, stretch_of}
use Rattle.target_parse.specs.Tree.{Tree, Call, Path, Number, Flag, Quoted, Trees, End, Then, tree_of, trees_of}
use Rattle.target_parse.specs.declared.read.Arguments.{Arguments}
use Rattle.target_parse.specs.declared.read.Next.{Next}
use Rattle.target_parse.specs.declared.read.Taken.{Taken}
use Rattle.target_parse.specs.declared.fault.Stop.{Stop}
use Rattle.target_parse.specs.declared.fault.Stop.TheVariants.{Left, TooDeep as StopTooDeep, NoMemory as StopNoMemory}
use Rattle.target_parse.specs.declared.fault.TargetFault.{TargetFault}
use Rattle.target_parse.specs.declared.fault.TargetFault.TheVariants.{At, TooDeep, TooLong, NoMemory}

-- What is read of the front of a text and what follows it, or why nothing is read.
abbrev pub Reading : Type 0 → Type 0
Reading A = Result (A × List ℕ) Stop

abbrev pub reading_then : {A B : Type 0} → (A → Result B Stop) → Result A Stop → Result B Stop
reading_then next (Ok x) = next x
reading_then next (Err stop) = Err stop

-- a text without the blanks that it begins with
abbrev pub skip_blanks : List ℕ → List ℕ
skip_blanks [] = []
skip_blanks (b ∷ rest) = if is_blank b then skip_blanks rest else b ∷ rest

-- what follows this byte, where the text begins with it
abbrev pub behind_byte : ℕ → List ℕ → Option (List ℕ)
behind_byte mark [] = None
behind_byte mark (b ∷ rest) = if b == mark then Some rest else None

-- no reading goes on at the place of a glob's fault, where the glob and what follows it have so many bytes
abbrev pub glob_stop : ℕ → GlobFault → Stop
glob_stop bytes GlobTooLong = Left bytes
glob_stop bytes (EmptyNode at) = Left (bytes - at)
glob_stop bytes (BadByte at) = Left (bytes - at)
glob_stop bytes (Unclosed at) = Left (bytes - at)
glob_stop bytes GlobNoMemory = StopNoMemory

abbrev pub path_reading : ℕ → List ℕ → Result Said GlobFault → Reading Tree
path_reading bytes rest (Ok glob) = Ok (Path glob, rest)
path_reading bytes rest (Err fault) = Err (glob_stop bytes fault)

-- a stretch as a path
unfoldable pub read_path : List ℕ → List ℕ → Reading Tree
read_path stretch rest = path_reading (length stretch + length rest) rest (legal_glob stretch)

-- a stretch in an argument: a number, a flag or a path
unfoldable pub read_plain : List ℕ → List ℕ → Reading Tree
read_plain stretch rest =
    if is_number stretch then Ok (Number stretch, rest)
    else option_map_or (λ flag. Ok (Flag flag, rest)) (flag_of stretch) (read_path stretch rest)

-- the place of the first such byte, or the text's length
abbrev pub place_of_byte : ℕ → List ℕ → ℕ
place_of_byte mark [] = 0
place_of_byte mark (b ∷ rest) = if b == mark then 0 else suc (place_of_byte mark rest)

-- the bytes before it, or all
abbrev pub before_byte : ℕ → List ℕ → List ℕ
before_byte mark text = take (place_of_byte mark text) text

-- that byte and what follows it
abbrev pub from_byte : ℕ → List ℕ → List ℕ
from_byte mark text = drop (place_of_byte mark text) text

-- A text argument, from behind its first quote on: it runs to the next same byte, and is UTF-8.
unfoldable pub read_quoted : ℕ → List ℕ → Reading Tree
read_quoted quote text =
    if is_utf8 (before_byte quote text)
    then option_map_or (λ rest. Ok (Quoted quote (before_byte quote text), rest)) (behind_byte quote (from_byte quote text)) (Err (Left 0))
    else Err (Left (length text - utf8_valid_len (before_byte quote text)))

-- What stands behind the bracket of a call, where a stretch is the name of one and the bracket follows it directly.
abbrev pub in_call : List ℕ → List ℕ → Option (List ℕ)
in_call stretch rest = if is_name stretch then behind_byte 40 rest else None

-- a call of this name
abbrev pub call_of : List ℕ → Reading Trees → Reading Tree
call_of name arguments = reading_then (λ found. Ok (Call name found.0, found.1)) arguments

-- A call, where the text begins with the name and the bracket of one, or else what `plain` makes of its stretch.
abbrev pub read_stretch : (List ℕ → List ℕ → Reading Tree) → (List ℕ → Reading Trees) → List ℕ → Reading Tree
read_stretch plain arguments text =
    option_map_or (λ inside. call_of (stretch_of text) (arguments inside))
    (in_call (stretch_of text) (behind_stretch text))
    (plain (stretch_of text) (behind_stretch text))

-- the quote that a text begins with, and what follows it
abbrev pub first_quote : List ℕ → Option (ℕ × List ℕ)
first_quote [] = None
first_quote (b ∷ rest) = if is_quote b then Some (b, rest) else None

-- an argument, without blanks before it
abbrev pub read_unpadded : (List ℕ → Reading Trees) → List ℕ → Reading Tree
read_unpadded arguments text =
    option_map_or (λ found. read_quoted found.0 found.1) (first_quote text) (read_stretch read_plain arguments text)

-- The end of an argument, behind the blanks that may follow it: whether it is the last, by a comma or a
-- bracket, and what stands behind that.
abbrev pub end_at : List ℕ → Result (Bool × List ℕ) Stop
end_at [] = Err (Left 0)
end_at (b ∷ rest) =
    if b == 44 then Ok (false, rest) else (if b == 41 then Ok (true, rest) else Err (Left (length rest + 1)))

abbrev pub argument_end : List ℕ → Result (Bool × List ℕ) Stop
argument_end text = end_at (skip_blanks text)

abbrev pub with_first : Tree → Reading Trees → Reading Trees
with_first tree trees = reading_then (λ found. Ok (Then tree found.0, found.1)) trees

-- what an end of an argument makes of it and of the arguments that follow
abbrev pub after_end : (List ℕ → Reading Trees) → Tree → Bool × List ℕ → Reading Trees
after_end others tree end = if end.0 then Ok (Then tree End, end.1) else with_first tree (others end.1)

abbrev pub after_first : (List ℕ → Reading Trees) → Tree × List ℕ → Reading Trees
after_first others first = reading_then (after_end others first.0) (argument_end first.1)

-- The arguments of a call, up to its last bracket, by a reader of one of them. The number bounds how many
-- are read, and one more than the bytes of the text is always enough.
unfoldable pub read_arguments : (List ℕ → Reading Tree) → ℕ → List ℕ → Reading Trees
read_arguments argument zero text = Err (Left (length text))
read_arguments argument (suc most) text = reading_then (after_first (read_arguments argument most)) (argument text)

-- An argument, where calls may still nest this deep.
unfoldable pub read_argument : ℕ → List ℕ → Reading Tree
read_argument zero text = read_unpadded (λ inside. Err StopTooDeep) (skip_blanks text)
read_argument (suc levels) text =
    read_unpadded (λ inside. read_arguments (read_argument levels) (suc (length inside)) inside) (skip_blanks text)

-- What stands behind the bracket of a call: its arguments, or no reading where calls may not nest any more.
unfoldable pub read_inside : ℕ → List ℕ → Reading Trees
read_inside zero inside = Err StopTooDeep
read_inside (suc levels) inside = read_arguments (read_argument levels) (suc (length inside)) inside

-- nothing but blanks may follow
abbrev pub if_nothing : Tree → List ℕ → Result Tree Stop
if_nothing tree [] = Ok tree
if_nothing tree (b ∷ rest) = Err (Left (length rest + 1))

-- the whole target
unfoldable pub read_whole : List ℕ → Result Tree Stop
read_whole text =
    reading_then (λ found. if_nothing found.0 (skip_blanks found.1))
    (read_stretch read_path (read_inside most_depth) (skip_blanks text))

-- the place of the first byte where no reading goes on
abbrev pub fault_in : ℕ → Stop → TargetFault
fault_in bytes (Left left) = At (bytes - left)
fault_in bytes StopTooDeep = TooDeep
fault_in bytes StopNoMemory = NoMemory

abbrev pub or_fault : ℕ → Result Tree Stop → Result Tree TargetFault
or_fault bytes (Ok tree) = Ok tree
or_fault bytes (Err stop) = Err (fault_in bytes stop)

-- What a target says, or its first fault from the left.
unfoldable pub read_target : List ℕ → Result Tree TargetFault
read_target text =
    if nat_le (length text) most_target_bytes then or_fault (length text) (read_whole text) else Err TooLong

-- ---- what the code has of it

-- what is read so far, and what is left
abbrev pub seen : Taken → Tree × List ℕ
seen taken = (tree_of taken.expr, taken.rest.now)

-- The next argument of a call and the end of it: so the arguments are read from here on, whatever bounds their number.
abbrev pub NextIs : ℕ → List ℕ → Next → Type 0
NextIs levels text next =
    (most : ℕ) → read_arguments (read_argument levels) (suc most) text
    ≡ after_end (read_arguments (read_argument levels) most) (tree_of next.expr) (next.is_last, next.rest.now)

abbrev pub NextFails : ℕ → List ℕ → Stop → Type 0
NextFails levels text stop = (most : ℕ) → read_arguments (read_argument levels) (suc most) text ≡ Err stop

abbrev pub all_seen : Arguments → Trees × List ℕ
all_seen found = (trees_of found.items.items, found.rest.now)
