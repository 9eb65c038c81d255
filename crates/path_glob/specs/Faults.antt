-- Which texts are globs, and the first fault of the others.
use Rattle.std.specs.Prelude.{ℕ, ◌+◌, ◌==◌, Bool, ◌&&◌, ◌||◌, not, nat_le, List, [], ◌∷◌, length, Option, Some, None, Result, Ok, Err, if◌then◌else◌}
use Rattle.std.specs.Option.{option_map_or}
use Rattle.metric_path.specs.Path.{is_node_byte}
use Rattle.path_glob.specs.Glob.{Piece}
use Rattle.path_glob.specs.Reading.{globs_of, is_comma}
use Rattle.path_glob.specs.declared.fault.GlobFault.{GlobFault}
use Rattle.path_glob.specs.declared.fault.GlobFault.TheVariants.{TooLong, EmptyNode, BadByte, Unclosed}
use Rattle.path_glob.specs.declared.check.Around.{Around}
use Rattle.path_glob.specs.declared.check.Around.TheVariants.{NodeStart, Node, Braces, ListStart, List as Members}

-- the most bytes of a glob
abbrev pub most_glob_bytes : ℕ
most_glob_bytes = 4096

-- a byte that is a piece by itself
abbrev pub is_simple : ℕ → Bool
is_simple b = b == 42 || (b == 63 || is_node_byte b)

-- what stands around the place behind a list: braces that a list stood in, or the node
abbrev pub around_list : Option ℕ → Around
around_list None = Node
around_list (Some opened) = Braces opened

-- A byte at a place within a node, outside brackets and braces: `at_dot` is what a dot makes of it.
abbrev pub after_in_node : Result Around GlobFault → ℕ → ℕ → Result Around GlobFault
after_in_node at_dot place b =
    if b == 46 then at_dot else
    (if b == 91 then Ok (ListStart place None) else
    (if b == 123 then Ok (Braces place) else
    (if is_simple b then Ok Node else Err (BadByte place))))

-- a byte within braces, outside brackets
abbrev pub after_in_braces : ℕ → ℕ → ℕ → Result Around GlobFault
after_in_braces opened place b =
    if b == 125 then Ok Node else
    (if b == 91 then Ok (ListStart place (Some opened)) else
    (if is_comma b || is_simple b then Ok (Braces opened) else Err (BadByte place)))

-- What stands around the next place, after this byte at this place.
unfoldable pub around_after : Around → ℕ → ℕ → Result Around GlobFault
around_after NodeStart place b = after_in_node (Err (EmptyNode place)) place b
around_after Node place b = after_in_node (Ok NodeStart) place b
around_after (Braces opened) place b = after_in_braces opened place b
around_after (ListStart opened braces) place b =
    if is_node_byte b && not (b == 33) then Ok (Members opened braces) else Err (BadByte place)
around_after (Members opened braces) place b =
    if b == 93 then Ok (around_list braces) else
    (if is_node_byte b then Ok (Members opened braces) else Err (BadByte place))

-- the fault of a text that ends at this place
abbrev pub fault_at_end : Around → ℕ → Option GlobFault
fault_at_end NodeStart place = Some (EmptyNode place)
fault_at_end Node place = None
fault_at_end (Braces opened) place = Some (Unclosed opened)
fault_at_end (ListStart opened braces) place = Some (Unclosed opened)
fault_at_end (Members opened braces) place = Some (Unclosed opened)

-- The first fault of what is left of a text from this place on: the one that was found before, or else the
-- first that a byte or the end makes.
abbrev pub fault_from : Result Around GlobFault → ℕ → List ℕ → Option GlobFault
fault_from (Err fault) place text = Some fault
fault_from (Ok around) place [] = fault_at_end around place
fault_from (Ok around) place (b ∷ rest) = fault_from (around_after around place b) (place + 1) rest

-- The first fault of a text as a glob.
unfoldable pub glob_fault : List ℕ → Option GlobFault
glob_fault text = if nat_le (length text) most_glob_bytes then fault_from (Ok NodeStart) 0 text else Some TooLong

-- A glob: its text, and what its nodes say.
pub record Said : Type 0 where
  pub text : List ℕ
  pub nodes : List (List Piece)

abbrev pub said_by : List ℕ → Said
said_by text = record { text = text; nodes = globs_of text }

-- the glob that a text is, or its first fault
abbrev pub legal_glob : List ℕ → Result Said GlobFault
legal_glob text = option_map_or (λ fault. Err fault) (glob_fault text) (Ok (said_by text))
