-- Globs are whole stretches.
use Rattle.std.proofs.Common.{◌≡◌, ℕ, suc, ◌+◌, ◌<◌, ◌==◌, Bool, true, false, cond, not, ◌&&◌, ◌||◌, leb, List, [], ◌∷◌, ◌++◌, length, codes, Option, Some, None, Result, Ok, Err, refl, sym, ap, ap₂, ◌∙◌, subst, arith}
use Rattle.std.proofs.lemmas.Bool.{agree_below, agree_below_at}
use Rattle.std.specs.List.{list_any}
use Rattle.metric_path.specs.Path.{is_node_byte}
use Rattle.path_glob.specs.Faults.{after_in_node, around_after, around_list, fault_from, glob_fault, is_simple, most_glob_bytes}
use Rattle.path_glob.specs.Reading.{is_comma}
use Rattle.path_glob.specs.Stretch.{Fills, Stops, is_glob_byte, is_held, is_in_braces, stretch_len}
use Rattle.path_glob.specs.declared.fault.GlobFault.{GlobFault}
use Rattle.path_glob.specs.declared.fault.GlobFault.TheVariants.{BadByte, EmptyNode, TooLong}
use Rattle.path_glob.specs.declared.check.Around.{Around}
use Rattle.path_glob.specs.declared.check.Around.TheVariants.{NodeStart, Node, Braces, ListStart, List as Members}

-- ---- bytes

pub same_byte : (b mark : ℕ) → (b == mark) ≡ true → b ≡ mark
same_byte b mark e = grind arith

apart_by : (f : ℕ → Bool) (mark b : ℕ) (test : Bool) → (b == mark) ≡ test → f mark ≡ false → f b ≡ true → test ≡ false
apart_by f mark b true e never holds = sym holds ∙ ap f (same_byte b mark e) ∙ never
apart_by f mark b false e never holds = refl

-- a byte that passes a test is none that does not
pub apart : (f : ℕ → Bool) (mark b : ℕ) → f mark ≡ false → f b ≡ true → (b == mark) ≡ false
apart f mark b never holds = apart_by f mark b (b == mark) refl never holds

-- a byte that passes one test passes another, as all below 256 do
pub passes : (f g : ℕ → Bool) (b : ℕ) → b < 256 → agree_below (λ k. not (f k) || g k) (λ k. true) 256 ≡ true → f b ≡ true → g b ≡ true
passes f g b small table h = sym (ap (λ (t : Bool). not t || g b) h) ∙ agree_below_at (λ k. not (f k) || g k) (λ k. true) 256 b table small

-- ---- texts that are whole stretches

pub stops_len : (rest : List ℕ) → Stops rest → stretch_len false rest ≡ 0
stops_len [] stops = refl
stops_len (b ∷ rest) stops = ap (λ (t : Bool). cond t (suc (stretch_len (is_in_braces false b) rest)) 0) stops

pub fills_more : (in_braces next : Bool) (b : ℕ) (text : List ℕ) → is_held in_braces b ≡ true → is_in_braces in_braces b ≡ next → Fills next text → Fills in_braces (b ∷ text)
fills_more in_braces next b text held is fills rest stops =
    ap (λ (t : Bool). cond t (suc (stretch_len (is_in_braces in_braces b) (text ++ rest))) 0) held
    ∙ ap (λ (open_now : Bool). suc (stretch_len open_now (text ++ rest))) is ∙ ap (λ (n : ℕ). suc n) (fills rest stops)

held_first : (b : ℕ) (text : List ℕ) (held : Bool) → is_held false b ≡ held → cond held (suc (stretch_len (is_in_braces false b) (text ++ []))) 0 ≡ suc (length text) → held ≡ true
held_first b text true e is = refl
held_first b text false e is = absurd (omega (arith, is))

-- its first byte belongs to it
pub first_is_held : (b : ℕ) (text : List ℕ) → Fills false (b ∷ text) → is_held false b ≡ true
first_is_held b text fills = held_first b text (is_held false b) refl (fills [] tt)

-- ---- paths

-- whether braces are open around a place of a glob
abbrev is_some_place : Option ℕ → Bool
is_some_place None = false
is_some_place (Some place) = true

abbrev braces_at : Around → Bool
braces_at NodeStart = false
braces_at Node = false
braces_at (Braces opened) = true
braces_at (ListStart opened braces) = is_some_place braces
braces_at (Members opened braces) = is_some_place braces

-- a byte of the stretch, and whether braces are open behind it
abbrev pub Goes : Bool → ℕ → Bool → Type 0
Goes in_braces b next = (is_held in_braces b ≡ true) × (is_in_braces in_braces b ≡ next)

goes_at : (in_braces next : Bool) (mark b : ℕ) → (b == mark) ≡ true → Goes in_braces mark next → Goes in_braces b next
goes_at in_braces next mark b e goes = subst (λ x. Goes in_braces x next) (sym (same_byte b mark e)) goes

simple_cases : (b : ℕ) (star any node : Bool) → (b == 42) ≡ star → (b == 63) ≡ any → is_node_byte b ≡ node → (star || (any || node)) ≡ true → is_glob_byte b ≡ true
simple_cases b true any node first second third e = subst (λ x. is_glob_byte x ≡ true) (sym (same_byte b 42 first)) refl
simple_cases b false true node first second third e = subst (λ x. is_glob_byte x ≡ true) (sym (same_byte b 63 second)) refl
simple_cases b false false true first second third e = ap (λ (t : Bool). t || list_any (λ x. x == b) (codes ".*?[]{}")) third
simple_cases b false false false first second third e = absurd cc

simple_held : (in_braces : Bool) (b : ℕ) → is_simple b ≡ true → is_held in_braces b ≡ true
simple_held in_braces b e = ap (λ (t : Bool). t || (in_braces && is_comma b)) (simple_cases b (b == 42) (b == 63) (is_node_byte b) refl refl refl e)

node_held : (in_braces : Bool) (b : ℕ) → is_node_byte b ≡ true → is_held in_braces b ≡ true
node_held in_braces b e = ap (λ (t : Bool). (t || list_any (λ x. x == b) (codes ".*?[]{}")) || (in_braces && is_comma b)) e

stays : (in_braces opens closes : Bool) → opens ≡ false → closes ≡ false → (opens || (in_braces && not closes)) ≡ in_braces
stays true opens closes first second = ap₂ (λ (x : Bool) (y : Bool). x || (true && not y)) first second
stays false opens closes first second = ap₂ (λ (x : Bool) (y : Bool). x || (false && not y)) first second

-- a byte of a list
node_goes : (in_braces : Bool) (b : ℕ) → is_node_byte b ≡ true → Goes in_braces b in_braces
node_goes in_braces b e = (node_held in_braces b e, stays in_braces (b == 123) (b == 125) (apart is_node_byte 123 b refl e) (apart is_node_byte 125 b refl e))

node_cases : (at_dot : Result Around GlobFault) → ((next : Around) → at_dot ≡ Ok next → braces_at next ≡ false) → (place b : ℕ) (next : Around) (dot opens braces simple : Bool)
    → (b == 46) ≡ dot → (b == 91) ≡ opens → (b == 123) ≡ braces → is_simple b ≡ simple
    → cond dot at_dot (cond opens (Ok (ListStart place None)) (cond braces (Ok (Braces place)) (cond simple (Ok Node) (Err (BadByte place))))) ≡ Ok next → Goes false b (braces_at next)
node_cases at_dot dot_is place b next true opens braces simple first second third fourth e = goes_at false (braces_at next) 46 b first (refl, sym (dot_is next e))
node_cases at_dot dot_is place b next false true braces simple first second third fourth e =
    let same : ListStart place None ≡ next = cc in
    goes_at false (braces_at next) 91 b second (refl, ap braces_at same)
node_cases at_dot dot_is place b next false false true simple first second third fourth e =
    let same : Braces place ≡ next = cc in
    goes_at false (braces_at next) 123 b third (refl, ap braces_at same)
node_cases at_dot dot_is place b next false false false true first second third fourth e =
    let same : Node ≡ next = cc in
    (simple_held false b fourth, ap (λ (t : Bool). t || (false && not (b == 125))) third ∙ ap braces_at same)
node_cases at_dot dot_is place b next false false false false first second third fourth e = absurd cc

in_node_goes : (at_dot : Result Around GlobFault) → ((next : Around) → at_dot ≡ Ok next → braces_at next ≡ false) → (place b : ℕ) (next : Around) → after_in_node at_dot place b ≡ Ok next → Goes false b (braces_at next)
in_node_goes at_dot dot_is place b next e = node_cases at_dot dot_is place b next (b == 46) (b == 91) (b == 123) (is_simple b) refl refl refl refl e

comma_held : (b : ℕ) (comma simple : Bool) → is_comma b ≡ comma → is_simple b ≡ simple → (comma || simple) ≡ true → is_held true b ≡ true
comma_held b true simple first second e = subst (λ x. is_held true x ≡ true) (sym (same_byte b 44 first)) refl
comma_held b false true first second e = simple_held true b second
comma_held b false false first second e = absurd cc

or_true : (x : Bool) → (x || true) ≡ true
or_true true = refl
or_true false = refl

braces_cases : (opened place b : ℕ) (next : Around) (closes opens held : Bool) → (b == 125) ≡ closes → (b == 91) ≡ opens → (is_comma b || is_simple b) ≡ held
    → cond closes (Ok Node) (cond opens (Ok (ListStart place (Some opened))) (cond held (Ok (Braces opened)) (Err (BadByte place)))) ≡ Ok next → Goes true b (braces_at next)
braces_cases opened place b next true opens held first second third e =
    let same : Node ≡ next = cc in
    goes_at true (braces_at next) 125 b first (refl, ap braces_at same)
braces_cases opened place b next false true held first second third e =
    let same : ListStart place (Some opened) ≡ next = cc in
    goes_at true (braces_at next) 91 b second (refl, ap braces_at same)
braces_cases opened place b next false false true first second third e =
    let same : Braces opened ≡ next = cc in
    (comma_held b (is_comma b) (is_simple b) refl refl third, ap (λ (t : Bool). (b == 123) || (true && not t)) first ∙ or_true (b == 123) ∙ ap braces_at same)
braces_cases opened place b next false false false first second third e = absurd cc

start_cases : (opened place b : ℕ) (braces : Option ℕ) (next : Around) (node first : Bool) → is_node_byte b ≡ node → (b == 33) ≡ first
    → cond (node && not first) (Ok (Members opened braces)) (Err (BadByte place)) ≡ Ok next → Goes (is_some_place braces) b (braces_at next)
start_cases opened place b braces next true false is_node is_first e =
    let same : Members opened braces ≡ next = cc in
    let goes = node_goes (is_some_place braces) b is_node in
    (goes.0, goes.1 ∙ ap braces_at same)
start_cases opened place b braces next true true is_node is_first e = absurd cc
start_cases opened place b braces next false first is_node is_first e = absurd cc

list_end : (braces : Option ℕ) → Goes (is_some_place braces) 93 (braces_at (around_list braces))
list_end None = (refl, refl)
list_end (Some opened) = (refl, refl)

list_cases : (opened place b : ℕ) (braces : Option ℕ) (next : Around) (closes node : Bool) → (b == 93) ≡ closes → is_node_byte b ≡ node
    → cond closes (Ok (around_list braces)) (cond node (Ok (Members opened braces)) (Err (BadByte place))) ≡ Ok next → Goes (is_some_place braces) b (braces_at next)
list_cases opened place b braces next true node first second e =
    let same : around_list braces ≡ next = cc in
    goes_at (is_some_place braces) (braces_at next) 93 b first (subst (λ around. Goes (is_some_place braces) 93 (braces_at around)) same (list_end braces))
list_cases opened place b braces next false true first second e =
    let same : Members opened braces ≡ next = cc in
    let goes = node_goes (is_some_place braces) b second in
    (goes.0, goes.1 ∙ ap braces_at same)
list_cases opened place b braces next false false first second e = absurd cc

no_dot : (next : Around) (fault : GlobFault) → ◌≡◌ {A = Result Around GlobFault} (Err fault) (Ok next) → braces_at next ≡ false
no_dot next fault e = absurd cc

new_node : (next : Around) → ◌≡◌ {A = Result Around GlobFault} (Ok NodeStart) (Ok next) → braces_at next ≡ false
new_node next e = let same : NodeStart ≡ next = cc in sym (ap braces_at same)

byte_goes : (around : Around) (place b : ℕ) (next : Around) → around_after around place b ≡ Ok next → Goes (braces_at around) b (braces_at next)
unfolding around_after
byte_goes NodeStart place b next e = in_node_goes (Err (EmptyNode place)) (λ after is. no_dot after (EmptyNode place) is) place b next e
byte_goes Node place b next e = in_node_goes (Ok NodeStart) new_node place b next e
byte_goes (Braces opened) place b next e = braces_cases opened place b next (b == 125) (b == 91) (is_comma b || is_simple b) refl refl refl e
byte_goes (ListStart opened braces) place b next e = start_cases opened place b braces next (is_node_byte b) (b == 33) refl refl e
byte_goes (Members opened braces) place b next e = list_cases opened place b braces next (b == 93) (is_node_byte b) refl refl e

rest_fills : (in_braces : Bool) (b : ℕ) (text : List ℕ) (place : ℕ) (r : Result Around GlobFault)
    → ((next : Around) → r ≡ Ok next → Goes in_braces b (braces_at next))
    → ((next : Around) → fault_from (Ok next) place text ≡ None → Fills (braces_at next) text)
    → fault_from r place text ≡ None → Fills in_braces (b ∷ text)
rest_fills in_braces b text place (Err fault) goes fills e = absurd cc
rest_fills in_braces b text place (Ok next) goes fills e =
    let here = goes next refl in
    fills_more in_braces (braces_at next) b text here.0 here.1 (fills next e)

glob_fills : (around : Around) (place : ℕ) (text : List ℕ) → fault_from (Ok around) place text ≡ None → Fills (braces_at around) text
glob_fills NodeStart place [] e = absurd cc
glob_fills Node place [] e = λ rest stops. stops_len rest stops
glob_fills (Braces opened) place [] e = absurd cc
glob_fills (ListStart opened braces) place [] e = absurd cc
glob_fills (Members opened braces) place [] e = absurd cc
glob_fills around place (b ∷ text) e =
    rest_fills (braces_at around) b text (place + 1) (around_after around place b) (byte_goes around place b) (λ next is. glob_fills next (place + 1) text is) e

path_cases : (text : List ℕ) (short : Bool) → cond short (fault_from (Ok NodeStart) 0 text) (Some TooLong) ≡ None → Fills false text
path_cases text true e = glob_fills NodeStart 0 text e
path_cases text false e = absurd cc

pub path_fills : (text : List ℕ) → glob_fault text ≡ None → Fills false text
unfolding glob_fault
path_fills text e = path_cases text (leb (length text) most_glob_bytes) e
