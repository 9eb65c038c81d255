-- How a call is read, argument by argument.
use Rattle.std.proofs.Common.{◌≡◌, ◌≢◌, ℕ, zero, suc, ◌-◌, ◌<◌, ◌≤◌, Bool, true, false, List, [], ◌∷◌, ◌++◌, length, Option, Some, None, Result, Ok, Err, refl, sym, ap, ap₂, ◌∙◌, arith}
use Rattle.std.proofs.lemmas.List.{length-append}
use Rattle.std.proofs.lemmas.Result.{IfOk-at_ok}
use Rattle.std.specs.Option.{option_map_or}
use Rattle.target_parse.specs.declared.expr.Expr.{Expr}
use Rattle.target_parse.specs.declared.fault.Stop.{Stop}
use Rattle.target_parse.specs.declared.fault.Stop.TheVariants.{TooDeep}
use Rattle.target_parse.specs.Bytes.{behind_stretch, stretch_of}
use Rattle.target_parse.specs.Reading.{Reading, after_end, after_first, argument_end, call_of, first_quote, in_call, read_argument, read_arguments, read_inside, read_plain, read_quoted, read_stretch, read_unpadded, reading_then, skip_blanks, with_first}
use Rattle.target_parse.specs.Tree.{Tree, Trees, End, Then, tree_of, trees_of}
use Rattle.target_parse.proofs.SoundLemmas.{Ends, Front, argument_sound, end_sound}

-- ---- one argument

-- an argument at any depth
pub argument_is : (levels : ℕ) (text : List ℕ) → read_argument levels text ≡ read_unpadded (read_inside levels) (skip_blanks text)
unfolding read_argument read_inside
argument_is zero text = refl
argument_is (suc levels) text = refl

quoted_front : (arguments : List ℕ → Reading Trees) (front : List ℕ) (found : Option (ℕ × List ℕ)) → first_quote front ≡ found
    → read_unpadded arguments front ≡ option_map_or (λ (quote : ℕ × List ℕ). read_quoted quote.0 quote.1) found (read_stretch read_plain arguments front)
quoted_front arguments front found is = ap (λ (o : Option (ℕ × List ℕ)). option_map_or (λ (quote : ℕ × List ℕ). read_quoted quote.0 quote.1) o (read_stretch read_plain arguments front)) is

called_front : (plain : List ℕ → List ℕ → Reading Tree) (arguments : List ℕ → Reading Trees) (front : List ℕ) (found : Option (List ℕ)) → in_call (stretch_of front) (behind_stretch front) ≡ found
    → read_stretch plain arguments front ≡ option_map_or (λ (inside : List ℕ). call_of (stretch_of front) (arguments inside)) found (plain (stretch_of front) (behind_stretch front))
called_front plain arguments front found is = ap (λ (o : Option (List ℕ)). option_map_or (λ (inside : List ℕ). call_of (stretch_of front) (arguments inside)) o (plain (stretch_of front) (behind_stretch front))) is

pub argument_quoted : (levels : ℕ) (text front : List ℕ) (quote : ℕ) (rest : List ℕ) (found : Reading Tree) → front ≡ skip_blanks text → first_quote front ≡ Some (quote, rest) → read_quoted quote rest ≡ found
    → read_argument levels text ≡ found
argument_quoted levels text front quote rest found skips is read =
    argument_is levels text ∙ ap (read_unpadded (read_inside levels)) (sym skips) ∙ quoted_front (read_inside levels) front (Some (quote, rest)) is ∙ read

pub argument_call : (levels : ℕ) (text front name behind inside : List ℕ) (found : Reading Tree) → front ≡ skip_blanks text → first_quote front ≡ None → name ≡ stretch_of front → behind ≡ behind_stretch front
    → in_call name behind ≡ Some inside → call_of name (read_inside levels inside) ≡ found → read_argument levels text ≡ found
argument_call levels text front name behind inside found skips none named follows is read =
    argument_is levels text ∙ ap (read_unpadded (read_inside levels)) (sym skips) ∙ quoted_front (read_inside levels) front None none
    ∙ called_front read_plain (read_inside levels) front (Some inside) (ap₂ in_call (sym named) (sym follows) ∙ is) ∙ ap (λ (n : List ℕ). call_of n (read_inside levels inside)) (sym named) ∙ read

pub argument_plain : (levels : ℕ) (text front stretch behind : List ℕ) (found : Reading Tree) → front ≡ skip_blanks text → first_quote front ≡ None → stretch ≡ stretch_of front → behind ≡ behind_stretch front
    → in_call stretch behind ≡ None → read_plain stretch behind ≡ found → read_argument levels text ≡ found
argument_plain levels text front stretch behind found skips none cut follows is read =
    argument_is levels text ∙ ap (read_unpadded (read_inside levels)) (sym skips) ∙ quoted_front (read_inside levels) front None none
    ∙ called_front read_plain (read_inside levels) front None (ap₂ in_call (sym cut) (sym follows) ∙ is) ∙ ap₂ read_plain (sym cut) (sym follows) ∙ read

-- the front of a whole target
pub front_call : (plain : List ℕ → List ℕ → Reading Tree) (arguments : List ℕ → Reading Trees) (front name behind inside : List ℕ) (found : Reading Tree) → name ≡ stretch_of front → behind ≡ behind_stretch front
    → in_call name behind ≡ Some inside → call_of name (arguments inside) ≡ found → read_stretch plain arguments front ≡ found
front_call plain arguments front name behind inside found named follows is read =
    called_front plain arguments front (Some inside) (ap₂ in_call (sym named) (sym follows) ∙ is) ∙ ap (λ (n : List ℕ). call_of n (arguments inside)) (sym named) ∙ read

pub front_plain : (plain : List ℕ → List ℕ → Reading Tree) (arguments : List ℕ → Reading Trees) (front stretch behind : List ℕ) (found : Reading Tree) → stretch ≡ stretch_of front → behind ≡ behind_stretch front
    → in_call stretch behind ≡ None → plain stretch behind ≡ found → read_stretch plain arguments front ≡ found
front_plain plain arguments front stretch behind found cut follows is read =
    called_front plain arguments front None (ap₂ in_call (sym cut) (sym follows) ∙ is) ∙ ap₂ plain (sym cut) (sym follows) ∙ read

-- ---- a call

pub call_too_deep : (levels : ℕ) (name inside : List ℕ) → levels ≡ 0 → call_of name (read_inside levels inside) ≡ Err TooDeep
unfolding read_inside
call_too_deep zero name inside e = refl
call_too_deep (suc levels) name inside e = absurd (omega (arith, e))

pub call_within : (levels : ℕ) (name inside : List ℕ) (found : Reading Trees) → levels ≢ 0 → read_inside (suc (levels - 1)) inside ≡ found → call_of name (read_inside levels inside) ≡ call_of name found
call_within levels name inside found some read =
    let same : levels ≡ suc (levels - 1) = omega (arith, some) in
    ap (λ (n : ℕ). call_of name (read_inside n inside)) same ∙ ap (call_of name) read

-- ---- the next argument

pub argument_fails : (argument : List ℕ → Reading Tree) (most : ℕ) (text : List ℕ) (stop : Stop) → argument text ≡ Err stop → read_arguments argument (suc most) text ≡ Err stop
unfolding read_arguments
argument_fails argument most text stop first = ap (reading_then (after_first (read_arguments argument most))) first

pub argument_ends : (argument : List ℕ → Reading Tree) (most : ℕ) (text : List ℕ) (tree : Tree) (behind : List ℕ) (end : Result (Bool × List ℕ) Stop)
    → argument text ≡ Ok (tree, behind) → argument_end behind ≡ end → read_arguments argument (suc most) text ≡ reading_then (after_end (read_arguments argument most) tree) end
unfolding read_arguments
argument_ends argument most text tree behind end first ended =
    ap (reading_then (after_first (read_arguments argument most))) first ∙ ap (reading_then (after_end (read_arguments argument most) tree)) ended

pub argument_more : (argument : List ℕ → Reading Tree) (most : ℕ) (text : List ℕ) (tree : Tree) (behind : List ℕ) (is_last : Bool) (rest : List ℕ)
    → argument text ≡ Ok (tree, behind) → argument_end behind ≡ Ok (is_last, rest) → read_arguments argument (suc most) text ≡ after_end (read_arguments argument most) tree (is_last, rest)
argument_more argument most text tree behind is_last rest first ended = argument_ends argument most text tree behind (Ok (is_last, rest)) first ended

pub end_fails : (argument : List ℕ → Reading Tree) (most : ℕ) (text : List ℕ) (tree : Tree) (behind : List ℕ) (stop : Stop)
    → argument text ≡ Ok (tree, behind) → argument_end behind ≡ Err stop → read_arguments argument (suc most) text ≡ Err stop
end_fails argument most text tree behind stop first ended = argument_ends argument most text tree behind (Err stop) first ended

argument_shorter : (levels : ℕ) (text : List ℕ) (tree : Tree) (behind : List ℕ) → Front levels text tree behind → length behind ≤ length text
argument_shorter levels text tree behind (before, inner, same, blanks, reads, few) =
    omega (arith, ap length same, length-append before (inner ++ behind), length-append inner behind)

end_shorter : (text : List ℕ) (is_last : Bool) (rest : List ℕ) → Ends text is_last rest → length rest < length text
end_shorter text true rest (after, same, blanks) = omega (arith, ap length same, length-append after (41 ∷ rest))
end_shorter text false rest (after, same, blanks) = omega (arith, ap length same, length-append after (44 ∷ rest))

pub next_shorter : (levels : ℕ) (text : List ℕ) (tree : Tree) (behind : List ℕ) (is_last : Bool) (rest : List ℕ)
    → read_argument levels text ≡ Ok (tree, behind) → argument_end behind ≡ Ok (is_last, rest) → length rest < length text
next_shorter levels text tree behind is_last rest first ended =
    let front : Front levels text tree behind = IfOk-at_ok (λ (found : Tree × List ℕ). Front levels text found.0 found.1) first (argument_sound levels text) in
    let ends : Ends behind is_last rest = IfOk-at_ok (λ (end : Bool × List ℕ). Ends behind end.0 end.1) ended (end_sound behind) in
    omega (arith, argument_shorter levels text tree behind front, end_shorter behind is_last rest ends)

-- ---- the loop over the arguments

-- what these say, before further arguments
abbrev pub trees_before : List Expr → Trees → Trees
trees_before [] trees = trees
trees_before (expr ∷ exprs) trees = Then (tree_of expr) (trees_before exprs trees)

abbrev pub read_before : List Expr → Reading Trees → Reading Trees
read_before exprs trees = reading_then (λ (found : Trees × List ℕ). Ok (trees_before exprs found.0, found.1)) trees

none_before : (r : Reading Trees) → r ≡ read_before [] r
none_before (Ok found) = refl
none_before (Err stop) = refl

push_before : (exprs : List Expr) (expr : Expr) (trees : Trees) → trees_before exprs (Then (tree_of expr) trees) ≡ trees_before (exprs ++ expr ∷ []) trees
push_before [] expr trees = refl
push_before (other ∷ exprs) expr trees = ap (Then (tree_of other)) (push_before exprs expr trees)

one_more : (exprs : List Expr) (expr : Expr) (r : Reading Trees) → read_before exprs (with_first (tree_of expr) r) ≡ read_before (exprs ++ expr ∷ []) r
one_more exprs expr (Ok found) = ap (λ (trees : Trees). Ok (trees, found.1)) (push_before exprs expr found.0)
one_more exprs expr (Err stop) = refl

before_end : (exprs : List Expr) → trees_before exprs End ≡ trees_of exprs
before_end [] = refl
before_end (expr ∷ exprs) = ap (Then (tree_of expr)) (before_end exprs)

last_one : (exprs : List Expr) (expr : Expr) (rest : List ℕ) → read_before exprs (Ok (Then (tree_of expr) End, rest)) ≡ Ok (trees_of (exprs ++ expr ∷ []), rest)
last_one exprs expr rest = ap (λ (trees : Trees). Ok (trees, rest)) (push_before exprs expr End ∙ before_end (exprs ++ expr ∷ []))

-- These were read, and this is left of what stands behind the bracket of a call.
abbrev pub Reached : ℕ → List ℕ → List Expr → List ℕ → Type 0
Reached levels text exprs rest =
    (most : ℕ) × (length rest < most) × (read_inside (suc levels) text ≡ read_before exprs (read_arguments (read_argument levels) most rest))

pub loop_start : (levels : ℕ) (text : List ℕ) → Reached levels text [] text
unfolding read_inside
loop_start levels text = (suc (length text), omega arith, none_before (read_arguments (read_argument levels) (suc (length text)) text))

pub loop_more : (levels : ℕ) (text : List ℕ) (exprs : List Expr) (expr : Expr) (rest next : List ℕ) (is_last : Bool) → Reached levels text exprs rest
    → ((most : ℕ) → read_arguments (read_argument levels) (suc most) rest ≡ after_end (read_arguments (read_argument levels) most) (tree_of expr) (is_last, next))
    → length next < length rest → is_last ≡ false → Reached levels text (exprs ++ expr ∷ []) next
loop_more levels text exprs expr rest next true reached reads shorter goes = absurd cc
loop_more levels text exprs expr rest next false (zero, room, same) reads shorter goes = absurd (omega (arith, room))
loop_more levels text exprs expr rest next false (suc most, room, same) reads shorter goes =
    (most, omega (arith, room, shorter), same ∙ ap (read_before exprs) (reads most) ∙ one_more exprs expr (read_arguments (read_argument levels) most next))

pub loop_last : (levels : ℕ) (text : List ℕ) (exprs : List Expr) (expr : Expr) (rest next : List ℕ) (is_last : Bool) → Reached levels text exprs rest
    → ((most : ℕ) → read_arguments (read_argument levels) (suc most) rest ≡ after_end (read_arguments (read_argument levels) most) (tree_of expr) (is_last, next))
    → is_last ≡ true → read_inside (suc levels) text ≡ Ok (trees_of (exprs ++ expr ∷ []), next)
loop_last levels text exprs expr rest next false reached reads ends = absurd cc
loop_last levels text exprs expr rest next true (zero, room, same) reads ends = absurd (omega (arith, room))
loop_last levels text exprs expr rest next true (suc most, room, same) reads ends = same ∙ ap (read_before exprs) (reads most) ∙ last_one exprs expr next

pub loop_fails : (levels : ℕ) (text : List ℕ) (exprs : List Expr) (rest : List ℕ) (stop : Stop) → Reached levels text exprs rest
    → ((most : ℕ) → read_arguments (read_argument levels) (suc most) rest ≡ Err stop) → read_inside (suc levels) text ≡ Err stop
loop_fails levels text exprs rest stop (zero, room, same) fails = absurd (omega (arith, room))
loop_fails levels text exprs rest stop (suc most, room, same) fails = same ∙ ap (read_before exprs) (fails most)
