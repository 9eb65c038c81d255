-- No text's fault is want of memory.
use Rattle.std.proofs.Common.{◌≡◌, ℕ, ◌+◌, ◌==◌, Bool, true, false, cond, not, ◌&&◌, ◌||◌, leb, List, [], ◌∷◌, length, Option, Some, None, Result, Ok, Err}
use Rattle.metric_path.specs.Path.{is_node_byte}
use Rattle.path_glob.specs.declared.fault.GlobFault.{GlobFault}
use Rattle.path_glob.specs.declared.fault.GlobFault.TheVariants.{EmptyNode, BadByte, NoMemory}
use Rattle.path_glob.specs.declared.check.Around.{Around}
use Rattle.path_glob.specs.declared.check.Around.TheVariants.{NodeStart, Node, Braces, ListStart, List as Members}
use Rattle.path_glob.specs.Reading.{is_comma}
use Rattle.path_glob.specs.Faults.{after_in_node, around_after, around_list, fault_at_end, fault_from, glob_fault, is_simple, most_glob_bytes}

either : (test : Bool) (x y : Result Around GlobFault) → (x ≡ Err NoMemory → ⊥) → (y ≡ Err NoMemory → ⊥) → cond test x y ≡ Err NoMemory → ⊥
either true x y first second = first
either false x y first second = second

goes_on : (around : Around) → ◌≡◌ {A = Result Around GlobFault} (Ok around) (Err NoMemory) → ⊥
goes_on around e = absurd cc

is_bad : (place : ℕ) → ◌≡◌ {A = Result Around GlobFault} (Err (BadByte place)) (Err NoMemory) → ⊥
is_bad place e = absurd cc

in_node : (at_dot : Result Around GlobFault) (place b : ℕ) → (at_dot ≡ Err NoMemory → ⊥) → after_in_node at_dot place b ≡ Err NoMemory → ⊥
in_node at_dot place b dot =
    either (b == 46) _ _ dot (either (b == 91) _ _ (goes_on (ListStart place None)) (either (b == 123) _ _ (goes_on (Braces place)) (either (is_simple b) _ _ (goes_on Node) (is_bad place))))

after_byte : (around : Around) (place b : ℕ) → around_after around place b ≡ Err NoMemory → ⊥
unfolding around_after
after_byte NodeStart place b = in_node (Err (EmptyNode place)) place b (λ e. absurd cc)
after_byte Node place b = in_node (Ok NodeStart) place b (goes_on NodeStart)
after_byte (Braces opened) place b =
    either (b == 125) _ _ (goes_on Node) (either (b == 91) _ _ (goes_on (ListStart place (Some opened))) (either (is_comma b || is_simple b) _ _ (goes_on (Braces opened)) (is_bad place)))
after_byte (ListStart opened braces) place b =
    either (is_node_byte b && not (b == 33)) _ _ (goes_on (Members opened braces)) (is_bad place)
after_byte (Members opened braces) place b =
    either (b == 93) _ _ (goes_on (around_list braces)) (either (is_node_byte b) _ _ (goes_on (Members opened braces)) (is_bad place))

at_end : (around : Around) (place : ℕ) → fault_at_end around place ≡ Some NoMemory → ⊥
at_end NodeStart place e = absurd cc
at_end Node place e = absurd cc
at_end (Braces opened) place e = absurd cc
at_end (ListStart opened braces) place e = absurd cc
at_end (Members opened braces) place e = absurd cc

from_place : (found : Result Around GlobFault) (place : ℕ) (text : List ℕ) → (found ≡ Err NoMemory → ⊥) → fault_from found place text ≡ Some NoMemory → ⊥
from_place (Err fault) place text other e = other cc
from_place (Ok around) place [] other e = at_end around place e
from_place (Ok around) place (b ∷ rest) other e = from_place (around_after around place b) (place + 1) rest (after_byte around place b) e

either_fault : (test : Bool) (x y : Option GlobFault) → (x ≡ Some NoMemory → ⊥) → (y ≡ Some NoMemory → ⊥) → cond test x y ≡ Some NoMemory → ⊥
either_fault true x y first second = first
either_fault false x y first second = second

pub glob_fault_is_no_memory : (text : List ℕ) → glob_fault text ≡ Some NoMemory → ⊥
unfolding glob_fault
glob_fault_is_no_memory text =
    either_fault (leb (length text) most_glob_bytes) _ _ (from_place (Ok NodeStart) 0 text (goes_on NodeStart)) (λ e. absurd cc)
