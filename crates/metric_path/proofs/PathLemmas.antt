-- What the text of a legal path has.
use Rattle.std.proofs.Common.{◌≡◌, ℕ, ◌<◌, ◌≤◌, Bool, true, false, cond, not, ◌&&◌, List, length, get_or, Option, Some, None, refl, arith, eqb, leb, ltb, lt-ltb, leb-true, IsAscii, IsUtf8, option_map, position, ⊎_elim}
use Rattle.std.specs.List.{list_all, list_any, position_or_len}
use Rattle.std.proofs.lemmas.Bool.{and_parts, not-false, cases_lt, cond-true, eqb-false}
use Rattle.std.proofs.lemmas.Bool.Decides.{nat_tests}
use Rattle.std.proofs.lemmas.List.Sums.{fails_before_first}
use Rattle.std.proofs.lemmas.List.{get_or_past}
use Rattle.std.proofs.lemmas.Str.{IsUtf8-from_ascii}
use Rattle.metric_path.specs.declared.path.PathFault.{PathFault}
use Rattle.metric_path.specs.declared.path.PathFault.TheVariants.{BadByte, Empty, EmptyNode, NoMemory, TooLong}
use Rattle.metric_path.specs.Path.{is_bad_byte, most_node_bytes, most_path_bytes, nodes_of, path_fault}

-- whether no node is too long, and whether a node is empty
abbrev nodes_fit : List ℕ → Bool
nodes_fit text = list_all (λ node. leb (length node) most_node_bytes) (nodes_of text)

abbrev has_empty_node : List ℕ → Bool
has_empty_node text = list_any (λ node. eqb (length node) 0) (nodes_of text)

-- where a test tells no fault it fails
passed : (b : Bool) (fault : PathFault) (later : Option PathFault) → cond b (Some fault) later ≡ None → (b ≡ false) × (later ≡ None)
passed true fault later none = absurd cc
passed false fault later none = (refl, none)

none_bad : (o : Option ℕ) → option_map (λ at. BadByte at) o ≡ None → o ≡ None
none_bad None none = refl
none_bad (Some at) none = absurd cc

-- a test that tells another fault tells no want of memory
no_memory_by : (b : Bool) (fault : PathFault) (later : Option PathFault) → (fault ≡ NoMemory → ⊥) → (later ≡ Some NoMemory → ⊥) → cond b (Some fault) later ≡ Some NoMemory → ⊥
no_memory_by true fault later other after told = other cc
no_memory_by false fault later other after told = after told

no_memory_at : (o : Option ℕ) → option_map (λ at. BadByte at) o ≡ Some NoMemory → ⊥
no_memory_at None told = absurd cc
no_memory_at (Some at) told = absurd cc

-- no text's fault is want of memory
pub path_fault_is_no_memory : (text : List ℕ) → path_fault text ≡ Some NoMemory → ⊥
unfolding path_fault
path_fault_is_no_memory text =
    no_memory_by (eqb (length text) 0) Empty _ (λ e. absurd cc)
    (no_memory_by (not (leb (length text) most_path_bytes && nodes_fit text)) TooLong _ (λ e. absurd cc)
    (no_memory_by (has_empty_node text) EmptyNode _ (λ e. absurd cc) (no_memory_at (position is_bad_byte text))))

record Passes (text : List ℕ) : Type 0 where
  some : eqb (length text) 0 ≡ false
  short : not (leb (length text) most_path_bytes && nodes_fit text) ≡ false
  filled : has_empty_node text ≡ false
  clean : position is_bad_byte text ≡ None

passes_all : (text : List ℕ) → path_fault text ≡ None → Passes text
unfolding path_fault
passes_all text legal =
    let some = passed (eqb (length text) 0) Empty _ legal in
    let short = passed (not (leb (length text) most_path_bytes && nodes_fit text)) TooLong _ some.1 in
    let filled = passed (has_empty_node text) EmptyNode _ short.1 in
    record { some = some.0; short = short.0; filled = filled.0; clean = none_bad (position is_bad_byte text) filled.1 }

-- a test that passes nowhere fails at each place
none_passes : (test : ℕ → Bool) (text : List ℕ) → position test text ≡ None → (k : ℕ) → k < length text → test (get_or text k 0) ≡ false
none_passes test text none k within =
    ⊎_elim
    (λ found.
    let first : position test text ≡ Some (position_or_len test text) = cond-true (ltb (position_or_len test text) (length text)) (Some (position_or_len test text)) None (lt-ltb (position_or_len test text) (length text) found) in
    absurd cc)
    (λ far. fails_before_first test text k 0 (omega arith))
    (cases_lt (position_or_len test text) (length text))

pub length_of_legal : (text : List ℕ) → path_fault text ≡ None → (0 < length text) × (length text ≤ most_path_bytes)
length_of_legal text legal =
    let p = passes_all text legal in
    let both = and_parts (leb (length text) most_path_bytes) (nodes_fit text) (not-false _ p.short) in
    let none = eqb-false (length text) 0 p.some in
    (omega (arith, none), leb-true (length text) most_path_bytes both.0)

pub nodes_of_legal : (text : List ℕ) → path_fault text ≡ None → (list_all (λ node. leb (length node) most_node_bytes) (nodes_of text) ≡ true) × (list_any (λ node. eqb (length node) 0) (nodes_of text) ≡ false)
nodes_of_legal text legal =
    let p = passes_all text legal in
    let both = and_parts (leb (length text) most_path_bytes) (nodes_fit text) (not-false _ p.short) in
    (both.1, p.filled)

pub bytes_of_legal : (text : List ℕ) → path_fault text ≡ None → (k : ℕ) → k < length text → is_bad_byte (get_or text k 0) ≡ false
bytes_of_legal text legal = none_passes is_bad_byte text (passes_all text legal).clean

-- a byte that a path may hold is printable ASCII
ascii_byte : (b : ℕ) → is_bad_byte b ≡ false → b < 128
ascii_byte b good = grind (arith, nat_tests)

pub ascii_of_legal : (text : List ℕ) → path_fault text ≡ None → IsAscii text
ascii_of_legal text legal k =
    ⊎_elim (λ within. ascii_byte (get_or text k 0) (bytes_of_legal text legal k within)) (λ past. let e = get_or_past text k 0 past in omega arith) (cases_lt k (length text))

pub utf8_of_legal : (text : List ℕ) → path_fault text ≡ None → IsUtf8 text
utf8_of_legal text legal = IsUtf8-from_ascii text (ascii_of_legal text legal)
