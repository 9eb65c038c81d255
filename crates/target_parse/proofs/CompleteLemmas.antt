-- A text of the grammar is read, to the tree that it says.
use Rattle.std.proofs.Common.{◌≡◌, ℕ, zero, suc, ◌+◌, ◌-◌, ◌<◌, ◌≤◌, ◌==◌, Bool, true, false, cond, ◌||◌, leb, IsUtf8, List, [], ◌∷◌, ◌++◌, length, take, drop, Option, Some, None, Result, Ok, Err, refl, sym, ap, ap₂, ◌∙◌, subst, arith}
use Rattle.std.proofs.Math.Nat.{le-max_left, le-max_right}
use Rattle.std.proofs.Math.Seq.{drop-append_seam, take-append_seam}
use Rattle.std.proofs.lemmas.Bool.{le-leb}
use Rattle.std.proofs.lemmas.List.{append_assoc, length-append}
use Rattle.std.proofs.lemmas.Str.{is_utf8-from_IsUtf8}
use Rattle.std.specs.Option.{option_map_or}
use Rattle.std.specs.Str.{is_utf8}
use Rattle.std.specs.Str.Lossy.{utf8_valid_len}
use Rattle.fixed_num.specs.Decimal.{is_number}
use Rattle.path_glob.specs.Faults.{Said, glob_fault, said_by}
use Rattle.path_glob.specs.declared.fault.GlobFault.{GlobFault}
use Rattle.target_parse.specs.declared.fault.Stop.{Stop}
use Rattle.target_parse.specs.declared.fault.Stop.TheVariants.{Left}
use Rattle.target_parse.specs.declared.fault.TargetFault.TheVariants.{TooLong}
use Rattle.target_parse.specs.Bytes.{flag_of, is_blank, is_name, is_quote, most_depth, most_target_bytes}
use Rattle.target_parse.specs.Reading.{Reading, after_end, argument_end, before_byte, behind_byte, call_of, end_at, from_byte, if_nothing, in_call, or_fault, path_reading, place_of_byte, read_argument, read_arguments, read_inside, read_path, read_plain, read_quoted, read_stretch, read_target, read_unpadded, read_whole, reading_then, skip_blanks, with_first}
use Rattle.target_parse.specs.Target.{AreArguments, AreBlanks, IsArgument, IsPath, IsWhole, Lacks, Padded, Reads}
use Rattle.target_parse.specs.Tree.{Tree, Call, Path, Number, Flag, Quoted, Trees, End, Then, depth, flag_text, greatest_depth}
use Rattle.target_parse.proofs.LoopLemmas.{argument_ends, argument_is}
use Rattle.path_glob.specs.Stretch.{Fills, Stops, is_held}
use Rattle.path_glob.proofs.StretchLemmas.{apart, first_is_held, path_fills, same_byte}
use Rattle.target_parse.proofs.WordLemmas.{behind_is_rest, name_fills, number_fills, stretch_is}

-- ---- blanks

skip_over : (before text : List ℕ) → AreBlanks before → skip_blanks (before ++ text) ≡ skip_blanks text
skip_over [] text blanks = refl
skip_over (b ∷ before) text blanks = ap (λ (t : Bool). cond t (skip_blanks (before ++ text)) (b ∷ (before ++ text))) blanks.0 ∙ skip_over before text blanks.1

-- a text that begins with no blank, and with no quote
abbrev Begins : List ℕ → Type 0
Begins [] = Unit {0}
Begins (b ∷ rest) = is_held false b ≡ true

no_blank : (b : ℕ) → is_held false b ≡ true → is_blank b ≡ false
no_blank b e = ap₂ (λ (x : Bool) (y : Bool). x || y) (apart (is_held false) 32 b refl e) (apart (is_held false) 9 b refl e)

no_quote : (b : ℕ) → is_held false b ≡ true → is_quote b ≡ false
no_quote b e = ap₂ (λ (x : Bool) (y : Bool). x || y) (apart (is_held false) 39 b refl e) (apart (is_held false) 34 b refl e)

skips_none : (b : ℕ) (rest : List ℕ) → is_blank b ≡ false → skip_blanks (b ∷ rest) ≡ b ∷ rest
skips_none b rest e = ap (λ (t : Bool). cond t (skip_blanks rest) (b ∷ rest)) e

-- ---- what may follow an argument

abbrev pub Follows : List ℕ → Type 0
Follows [] = Unit {0}
Follows (b ∷ rest) = (is_held false b ≡ false) × ((b == 40) ≡ false)

stops : (rest : List ℕ) → Follows rest → Stops rest
stops [] follows = tt
stops (b ∷ rest) follows = follows.0

blank_follows : (b : ℕ) (rest : List ℕ) (space tab : Bool) → (b == 32) ≡ space → (b == 9) ≡ tab → (space || tab) ≡ true → Follows (b ∷ rest)
blank_follows b rest true tab first second e = subst (λ x. (is_held false x ≡ false) × ((x == 40) ≡ false)) (sym (same_byte b 32 first)) (refl, refl)
blank_follows b rest false true first second e = subst (λ x. (is_held false x ≡ false) × ((x == 40) ≡ false)) (sym (same_byte b 9 second)) (refl, refl)
blank_follows b rest false false first second e = absurd cc

blanks_follow : (after rest : List ℕ) → AreBlanks after → Follows rest → Follows (after ++ rest)
blanks_follow [] rest blanks follows = follows
blanks_follow (b ∷ after) rest blanks follows = blank_follows b (after ++ rest) (b == 32) (b == 9) refl refl blanks.0

-- ---- stretches

call_cases : (text rest : List ℕ) (name : Bool) → is_name text ≡ name → Follows rest → cond name (behind_byte 40 rest) None ≡ None
call_cases text [] true e follows = refl
call_cases text (b ∷ rest) true e follows = ap (λ (t : Bool). cond t (Some rest) None) follows.1
call_cases text rest false e follows = refl

no_call : (text rest : List ℕ) → Follows rest → in_call text rest ≡ None
no_call text rest follows = call_cases text rest (is_name text) refl follows

-- what is read of a text that is a stretch
plain_read : (plain : List ℕ → List ℕ → Reading Tree) (arguments : List ℕ → Reading Trees) (text rest : List ℕ) → Fills false text → Follows rest
    → read_stretch plain arguments (text ++ rest) ≡ plain text rest
plain_read plain arguments text rest fills follows =
    ap₂ (λ (s : List ℕ) (r : List ℕ). option_map_or (λ (inside : List ℕ). call_of s (arguments inside)) (in_call s r) (plain s r)) (stretch_is text rest fills (stops rest follows)) (behind_is_rest text rest fills (stops rest follows))
    ∙ ap (λ (o : Option (List ℕ)). option_map_or (λ (inside : List ℕ). call_of text (arguments inside)) o (plain text rest)) (no_call text rest follows)

call_read : (plain : List ℕ → List ℕ → Reading Tree) (arguments : List ℕ → Reading Trees) (name inside : List ℕ) → is_name name ≡ true
    → read_stretch plain arguments (name ++ 40 ∷ inside) ≡ call_of name (arguments inside)
call_read plain arguments name inside named =
    ap₂ (λ (s : List ℕ) (r : List ℕ). option_map_or (λ (inside : List ℕ). call_of s (arguments inside)) (in_call s r) (plain s r)) (stretch_is name (40 ∷ inside) (name_fills name named) refl) (behind_is_rest name (40 ∷ inside) (name_fills name named) refl)
    ∙ ap (λ (t : Bool). option_map_or (λ (inside : List ℕ). call_of name (arguments inside)) (cond t (behind_byte 40 (40 ∷ inside)) None) (plain name (40 ∷ inside))) named

-- an argument that begins with a byte of a stretch, behind blanks
held_read : (arguments : List ℕ → Reading Trees) (before : List ℕ) (b : ℕ) (rest : List ℕ) → AreBlanks before → is_held false b ≡ true
    → read_unpadded arguments (skip_blanks (before ++ b ∷ rest)) ≡ read_stretch read_plain arguments (b ∷ rest)
held_read arguments before b rest blanks held =
    ap (read_unpadded arguments) (skip_over before (b ∷ rest) blanks ∙ skips_none b rest (no_blank b held))
    ∙ ap (λ (t : Bool). option_map_or (λ (quote : ℕ × List ℕ). read_quoted quote.0 quote.1) (cond t (Some (b, rest)) None) (read_stretch read_plain arguments (b ∷ rest))) (no_quote b held)

-- a text that is no stretch without bytes
abbrev IsSome : List ℕ → Type 0
IsSome [] = ⊥
IsSome (b ∷ rest) = Unit {0}

word_read : (arguments : List ℕ → Reading Trees) (before text rest : List ℕ) (found : Reading Tree) → AreBlanks before → IsSome text → Fills false text → Follows rest → read_plain text rest ≡ found
    → read_unpadded arguments (skip_blanks (before ++ (text ++ rest))) ≡ found
word_read arguments before [] rest found blanks some fills follows is = absurd some
word_read arguments before (b ∷ text) rest found blanks some fills follows is =
    held_read arguments before b (text ++ rest) blanks (first_is_held b text fills) ∙ plain_read read_plain arguments (b ∷ text) rest fills follows ∙ is

-- ---- paths, numbers, flags and texts

path_is_some : (text : List ℕ) → glob_fault text ≡ None → IsSome text
unfolding glob_fault
path_is_some [] e = absurd cc
path_is_some (b ∷ rest) e = tt

number_is_some : (text : List ℕ) → is_number text ≡ true → IsSome text
number_is_some [] e = absurd cc
number_is_some (b ∷ rest) e = tt

path_is : (text rest : List ℕ) (glob : Said) → IsPath text glob → read_path text rest ≡ Ok (Path glob, rest)
unfolding read_path
path_is text rest glob (legal, said) =
    ap (λ (o : Option GlobFault). path_reading (length text + length rest) rest (option_map_or (λ (fault : GlobFault). Err fault) o (Ok (said_by text)))) legal ∙ ap (λ (g : Said). Ok (Path g, rest)) (sym said)

path_argument : (text rest : List ℕ) (glob : Said) → IsPath text glob → is_number text ≡ false → flag_of text ≡ None → read_plain text rest ≡ Ok (Path glob, rest)
unfolding read_plain
path_argument text rest glob is number flag =
    ap (λ (t : Bool). cond t (Ok (Number text, rest)) (option_map_or (λ (flag : Bool). Ok (Flag flag, rest)) (flag_of text) (read_path text rest))) number
    ∙ ap (λ (o : Option Bool). option_map_or (λ (flag : Bool). Ok (Flag flag, rest)) o (read_path text rest)) flag ∙ path_is text rest glob is

number_argument : (text rest : List ℕ) → is_number text ≡ true → read_plain text rest ≡ Ok (Number text, rest)
unfolding read_plain
number_argument text rest number = ap (λ (t : Bool). cond t (Ok (Number text, rest)) (option_map_or (λ (flag : Bool). Ok (Flag flag, rest)) (flag_of text) (read_path text rest))) number

flag_argument : (flag : Bool) (rest : List ℕ) → read_plain (flag_text flag) rest ≡ Ok (Flag flag, rest)
unfolding read_plain flag_of flag_text
flag_argument true rest = refl
flag_argument false rest = refl

flag_is_some : (flag : Bool) → IsSome (flag_text flag)
unfolding flag_text
flag_is_some true = tt
flag_is_some false = tt

flag_fills : (flag : Bool) → Fills false (flag_text flag)
unfolding flag_text
flag_fills true = name_fills (flag_text true) refl
flag_fills false = name_fills (flag_text false) refl

same_test : (b : ℕ) → (b == b) ≡ true
same_test b = grind arith

place_is : (mark : ℕ) (text rest : List ℕ) → Lacks mark text → place_of_byte mark (text ++ mark ∷ rest) ≡ length text
place_is mark [] rest lacks = ap (λ (t : Bool). cond t 0 (suc (place_of_byte mark rest))) (same_test mark)
place_is mark (b ∷ text) rest lacks = ap (λ (t : Bool). cond t 0 (suc (place_of_byte mark (text ++ mark ∷ rest)))) lacks.0 ∙ ap (λ (n : ℕ). suc n) (place_is mark text rest lacks.1)

quoted_read : (quote : ℕ) (inner rest : List ℕ) → Lacks quote inner → IsUtf8 inner → read_quoted quote (inner ++ quote ∷ rest) ≡ Ok (Quoted quote inner, rest)
unfolding read_quoted
quoted_read quote inner rest lacks good =
    let text : List ℕ = inner ++ quote ∷ rest in
    let before : before_byte quote text ≡ inner = ap (λ (n : ℕ). take n text) (place_is quote inner rest lacks) ∙ take-append_seam inner (quote ∷ rest) in
    let behind : from_byte quote text ≡ quote ∷ rest = ap (λ (n : ℕ). drop n text) (place_is quote inner rest lacks) ∙ drop-append_seam inner (quote ∷ rest) in
    ap₂ (λ (x : List ℕ) (y : List ℕ). cond (is_utf8 x) (option_map_or (λ (r : List ℕ). Ok (Quoted quote x, r)) (behind_byte quote y) (Err (Left 0))) (Err (Left (length text - utf8_valid_len x)))) before behind
    ∙ ap (λ (t : Bool). cond t (option_map_or (λ (r : List ℕ). Ok (Quoted quote inner, r)) (behind_byte quote (quote ∷ rest)) (Err (Left 0))) (Err (Left (length text - utf8_valid_len inner)))) (is_utf8-from_IsUtf8 inner good)
    ∙ ap (λ (t : Bool). option_map_or (λ (r : List ℕ). Ok (Quoted quote inner, r)) (cond t (Some rest) None) (Err (Left 0))) (same_test quote)

quote_cases : (b : ℕ) (single double : Bool) → (b == 39) ≡ single → (b == 34) ≡ double → (single || double) ≡ true → is_blank b ≡ false
quote_cases b true double first second e = subst (λ x. is_blank x ≡ false) (sym (same_byte b 39 first)) refl
quote_cases b false true first second e = subst (λ x. is_blank x ≡ false) (sym (same_byte b 34 second)) refl
quote_cases b false false first second e = absurd cc

text_read : (arguments : List ℕ → Reading Trees) (before : List ℕ) (quote : ℕ) (inner rest : List ℕ) → AreBlanks before → is_quote quote ≡ true → Lacks quote inner → IsUtf8 inner
    → read_unpadded arguments (skip_blanks (before ++ quote ∷ (inner ++ quote ∷ rest))) ≡ Ok (Quoted quote inner, rest)
text_read arguments before quote inner rest blanks mark lacks good =
    let text : List ℕ = inner ++ quote ∷ rest in
    ap (read_unpadded arguments) (skip_over before (quote ∷ text) blanks ∙ skips_none quote text (quote_cases quote (quote == 39) (quote == 34) refl refl mark))
    ∙ ap (λ (t : Bool). option_map_or (λ (quote : ℕ × List ℕ). read_quoted quote.0 quote.1) (cond t (Some (quote, text)) None) (read_stretch read_plain arguments (quote ∷ text))) mark
    ∙ quoted_read quote inner rest lacks good

-- ---- calls

-- what stands behind a call's bracket is read
abbrev InsideReads : ℕ → (List ℕ → Reading Trees) → Type 0
InsideReads levels arguments = (trees : Trees) (inner rest : List ℕ) → AreArguments inner trees → suc (greatest_depth trees) ≤ levels → arguments (inner ++ 41 ∷ rest) ≡ Ok (trees, rest)

call_text : (name inner rest : List ℕ) → (name ++ 40 ∷ (inner ++ 41 ∷ [])) ++ rest ≡ name ++ 40 ∷ (inner ++ 41 ∷ rest)
call_text name inner rest = append_assoc name (40 ∷ (inner ++ 41 ∷ [])) rest ∙ ap (λ (xs : List ℕ). name ++ 40 ∷ xs) (append_assoc inner (41 ∷ []) rest)

whole_call : (levels : ℕ) (plain : List ℕ → List ℕ → Reading Tree) (arguments : List ℕ → Reading Trees) (name inner rest : List ℕ) (trees : Trees) → InsideReads levels arguments → is_name name ≡ true → AreArguments inner trees
    → suc (greatest_depth trees) ≤ levels → read_stretch plain arguments (name ++ 40 ∷ (inner ++ 41 ∷ rest)) ≡ Ok (Call name trees, rest)
whole_call levels plain arguments name inner rest trees reads named are few =
    call_read plain arguments name (inner ++ 41 ∷ rest) named ∙ ap (call_of name) (reads trees inner rest are few)

call_argument : (levels : ℕ) (arguments : List ℕ → Reading Trees) (before name inner rest : List ℕ) (trees : Trees) → InsideReads levels arguments → AreBlanks before → is_name name ≡ true → AreArguments inner trees
    → suc (greatest_depth trees) ≤ levels → read_unpadded arguments (skip_blanks (before ++ (name ++ 40 ∷ (inner ++ 41 ∷ rest)))) ≡ Ok (Call name trees, rest)
call_argument levels arguments before [] inner rest trees reads blanks named are few = absurd cc
call_argument levels arguments before (b ∷ name) inner rest trees reads blanks named are few =
    held_read arguments before b (name ++ 40 ∷ (inner ++ 41 ∷ rest)) blanks (first_is_held b name (name_fills (b ∷ name) named)) ∙ whole_call levels read_plain arguments (b ∷ name) inner rest trees reads named are few

abbrev pub ArgumentReads : ℕ → (List ℕ → Reading Tree) → Type 0
ArgumentReads levels argument = (tree : Tree) (inner before rest : List ℕ) → IsArgument inner tree → depth tree ≤ levels → AreBlanks before → Follows rest → argument (before ++ (inner ++ rest)) ≡ Ok (tree, rest)

unpadded_reads : (levels : ℕ) (arguments : List ℕ → Reading Trees) → InsideReads levels arguments → ArgumentReads levels (λ text. read_unpadded arguments (skip_blanks text))
unpadded_reads levels arguments reads (Call name trees) text before rest (inner, same, named, are) few blanks follows =
    ap (λ (xs : List ℕ). read_unpadded arguments (skip_blanks (before ++ xs))) (ap (λ (xs : List ℕ). xs ++ rest) same ∙ call_text name inner rest) ∙ call_argument levels arguments before name inner rest trees reads blanks named are few
unpadded_reads levels arguments reads (Path glob) text before rest (is, number, flag) few blanks follows =
    word_read arguments before text rest (Ok (Path glob, rest)) blanks (path_is_some text is.0) (path_fills text is.0) follows (path_argument text rest glob is number flag)
unpadded_reads levels arguments reads (Number number) text before rest (same, is) few blanks follows =
    ap (λ (xs : List ℕ). read_unpadded arguments (skip_blanks (before ++ (xs ++ rest)))) same
    ∙ word_read arguments before number rest (Ok (Number number, rest)) blanks (number_is_some number is) (number_fills number is) follows (number_argument number rest is)
unpadded_reads levels arguments reads (Flag flag) text before rest same few blanks follows =
    ap (λ (xs : List ℕ). read_unpadded arguments (skip_blanks (before ++ (xs ++ rest)))) same
    ∙ word_read arguments before (flag_text flag) rest (Ok (Flag flag, rest)) blanks (flag_is_some flag) (flag_fills flag) follows (flag_argument flag rest)
unpadded_reads levels arguments reads (Quoted quote inner) text before rest (same, mark, lacks, good) few blanks follows =
    ap (λ (xs : List ℕ). read_unpadded arguments (skip_blanks (before ++ (xs ++ rest)))) same
    ∙ ap (λ (xs : List ℕ). read_unpadded arguments (skip_blanks (before ++ quote ∷ xs))) (append_assoc inner (quote ∷ []) rest)
    ∙ text_read arguments before quote inner rest blanks mark lacks good

-- ---- several arguments

comma_ends : (after rest : List ℕ) → AreBlanks after → argument_end (after ++ 44 ∷ rest) ≡ Ok (false, rest)
comma_ends after rest blanks = ap end_at (skip_over after (44 ∷ rest) blanks)

bracket_ends : (after rest : List ℕ) → AreBlanks after → argument_end (after ++ 41 ∷ rest) ≡ Ok (true, rest)
bracket_ends after rest blanks = ap end_at (skip_over after (41 ∷ rest) blanks)

-- the text of an argument with what follows it
padded_text : (text before inner after tail : List ℕ) → text ≡ before ++ (inner ++ after) → text ++ tail ≡ before ++ (inner ++ (after ++ tail))
padded_text text before inner after tail same =
    ap (λ (xs : List ℕ). xs ++ tail) same ∙ append_assoc before (inner ++ after) tail ∙ ap (λ (xs : List ℕ). before ++ xs) (append_assoc inner after tail)

one_read : (levels : ℕ) (argument : List ℕ → Reading Tree) (most : ℕ) (tree : Tree) (text tail : List ℕ) (end : Result (Bool × List ℕ) Stop) → ArgumentReads levels argument → Padded (λ inner. IsArgument inner tree) text
    → depth tree ≤ levels → Follows tail → ((after : List ℕ) → AreBlanks after → argument_end (after ++ tail) ≡ end)
    → read_arguments argument (suc most) (text ++ tail) ≡ reading_then (after_end (read_arguments argument most) tree) end
one_read levels argument most tree text tail end reads (before, inner, after, same, blanks, blank, is) few follows ends =
    argument_ends argument most (text ++ tail) tree (after ++ tail) end
    (ap argument (padded_text text before inner after tail same) ∙ reads tree inner before (after ++ tail) is few blanks (blanks_follow after tail blank follows)) (ends after blank)

pub arguments_read : (levels : ℕ) (argument : List ℕ → Reading Tree) → ArgumentReads levels argument → (trees : Trees) (most : ℕ) (text rest : List ℕ) → AreArguments text trees → greatest_depth trees ≤ levels → length text < most
    → read_arguments argument most (text ++ 41 ∷ rest) ≡ Ok (trees, rest)
arguments_read levels argument reads trees zero text rest are few short = absurd (omega (arith, short))
arguments_read levels argument reads End (suc most) text rest are few short = absurd are
arguments_read levels argument reads (Then tree End) (suc most) text rest are few short =
    one_read levels argument most tree text (41 ∷ rest) (Ok (true, rest)) reads are (omega (arith, few, le-max_left (depth tree) 0)) (refl, refl) (λ after blank. bracket_ends after rest blank)
arguments_read levels argument reads (Then tree (Then next trees)) (suc most) text rest (first, others, same, is, are) few short =
    let nested : ℕ = greatest_depth (Then next trees) in
    ap (λ (xs : List ℕ). read_arguments argument (suc most) xs) (ap (λ (xs : List ℕ). xs ++ 41 ∷ rest) same ∙ append_assoc first (44 ∷ others) (41 ∷ rest))
    ∙ one_read levels argument most tree first (44 ∷ (others ++ 41 ∷ rest)) (Ok (false, others ++ 41 ∷ rest)) reads is (omega (arith, few, le-max_left (depth tree) nested)) (refl, refl) (λ after blank. comma_ends after (others ++ 41 ∷ rest) blank)
    ∙ ap (with_first tree) (arguments_read levels argument reads (Then next trees) most others rest are (omega (arith, few, le-max_right (depth tree) nested))
    (omega (arith, short, ap length same, length-append first (44 ∷ others))))

inside_long : (inner rest : List ℕ) → length inner < suc (length (inner ++ 41 ∷ rest))
inside_long inner rest = omega (arith, length-append inner (41 ∷ rest))

pub inside_reads : (levels : ℕ) → ((below : ℕ) → levels ≡ suc below → ArgumentReads below (read_argument below)) → InsideReads levels (read_inside levels)
unfolding read_inside
inside_reads zero reads trees inner rest are few = absurd (omega (arith, few))
inside_reads (suc levels) reads trees inner rest are few =
    arguments_read levels (read_argument levels) (reads levels refl) trees (suc (length (inner ++ 41 ∷ rest))) inner rest are (omega (arith, few)) (inside_long inner rest)

below_suc : (levels below : ℕ) → ArgumentReads levels (read_argument levels) → suc levels ≡ suc below → ArgumentReads below (read_argument below)
below_suc levels below reads same = let down : levels ≡ below = omega (arith, same) in subst (λ n. ArgumentReads n (read_argument n)) down reads

pub argument_reads : (levels : ℕ) → ArgumentReads levels (read_argument levels)
argument_reads zero tree inner before rest is few blanks follows =
    argument_is zero (before ++ (inner ++ rest)) ∙ unpadded_reads zero (read_inside zero) (inside_reads zero (λ below same. absurd (omega (arith, same)))) tree inner before rest is few blanks follows
argument_reads (suc levels) tree inner before rest is few blanks follows =
    argument_is (suc levels) (before ++ (inner ++ rest))
    ∙ unpadded_reads (suc levels) (read_inside (suc levels)) (inside_reads (suc levels) (λ below same. below_suc levels below (argument_reads levels) same)) tree inner before rest is few blanks follows

-- ---- the whole target

deepest : InsideReads most_depth (read_inside most_depth)
deepest = inside_reads most_depth (λ below same. argument_reads below)

nothing_left : (tree : Tree) (after : List ℕ) → AreBlanks after → if_nothing tree (skip_blanks after) ≡ Ok tree
nothing_left tree [] blanks = refl
nothing_left tree (b ∷ after) blanks = ap (λ (t : Bool). if_nothing tree (cond t (skip_blanks after) (b ∷ after))) blanks.0 ∙ nothing_left tree after blanks.1

blanks_only : (after : List ℕ) → AreBlanks after → Follows after
blanks_only [] blanks = tt
blanks_only (b ∷ after) blanks = blank_follows b after (b == 32) (b == 9) refl refl blanks.0

-- what begins with a byte of a stretch has no blank to skip
front_is : (before text rest : List ℕ) → AreBlanks before → IsSome text → Fills false text → skip_blanks (before ++ (text ++ rest)) ≡ text ++ rest
front_is before [] rest blanks some fills = absurd some
front_is before (b ∷ text) rest blanks some fills = skip_over before (b ∷ (text ++ rest)) blanks ∙ skips_none b (text ++ rest) (no_blank b (first_is_held b text fills))

name_is_some : (name : List ℕ) → is_name name ≡ true → IsSome name
name_is_some [] e = absurd cc
name_is_some (b ∷ name) e = tt

front_reads : (tree : Tree) (inner before after : List ℕ) → IsWhole inner tree → depth tree ≤ most_depth → AreBlanks before → AreBlanks after
    → read_stretch read_path (read_inside most_depth) (skip_blanks (before ++ (inner ++ after))) ≡ Ok (tree, after)
front_reads (Call name trees) text before after (inner, same, named, are) few blanks blank =
    let front : List ℕ → Reading Tree = read_stretch read_path (read_inside most_depth) in
    ap (λ (xs : List ℕ). front (skip_blanks (before ++ xs))) (ap (λ (xs : List ℕ). xs ++ after) same ∙ call_text name inner after)
    ∙ ap front (front_is before name (40 ∷ (inner ++ 41 ∷ after)) blanks (name_is_some name named) (name_fills name named))
    ∙ whole_call most_depth read_path (read_inside most_depth) name inner after trees deepest named are few
front_reads (Path glob) text before after is few blanks blank =
    ap (read_stretch read_path (read_inside most_depth)) (front_is before text after blanks (path_is_some text is.0) (path_fills text is.0))
    ∙ plain_read read_path (read_inside most_depth) text after (path_fills text is.0) (blanks_only after blank) ∙ path_is text after glob is
front_reads (Number number) text before after is few blanks blank = absurd is
front_reads (Flag flag) text before after is few blanks blank = absurd is
front_reads (Quoted quote inner) text before after is few blanks blank = absurd is

whole_reads : (text : List ℕ) (tree : Tree) → Padded (λ inner. IsWhole inner tree) text → depth tree ≤ most_depth → read_whole text ≡ Ok tree
unfolding read_whole
whole_reads text tree (before, inner, after, same, blanks, blank, is) few =
    let next : Tree × List ℕ → Result Tree Stop = λ (found : Tree × List ℕ). if_nothing found.0 (skip_blanks found.1) in
    ap (λ (xs : List ℕ). reading_then next (read_stretch read_path (read_inside most_depth) (skip_blanks xs))) same
    ∙ ap (reading_then next) (front_reads tree inner before after is few blanks blank) ∙ nothing_left tree after blank

pub target_reads : (text : List ℕ) (tree : Tree) → Reads text tree → depth tree ≤ most_depth → read_target text ≡ Ok tree
unfolding read_target
target_reads text tree (short, is) few =
    let fits : leb (length text) most_target_bytes ≡ true = le-leb (length text) most_target_bytes short in
    ap (λ (t : Bool). cond t (or_fault (length text) (read_whole text)) (Err TooLong)) fits ∙ ap (or_fault (length text)) (whole_reads text tree is few)
