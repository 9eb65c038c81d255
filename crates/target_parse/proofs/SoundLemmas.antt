-- What is read of a text is in the grammar.
use Rattle.std.proofs.Common.{◌≡◌, ℕ, zero, suc, ◌+◌, ◌-◌, ◌≤◌, ◌==◌, Bool, true, false, cond, IsTrue, List, [], ◌∷◌, ◌++◌, length, take, Option, Some, None, Result, Ok, Err, IfOk, IsUtf8, leb, refl, sym, ap, ◌∙◌, subst, arith, max}
use Rattle.std.proofs.Math.Nat.{max-le}
use Rattle.std.proofs.lemmas.Bool.{leb-true}
use Rattle.std.proofs.lemmas.List.{append_assoc, append-nil, take-append-drop}
use Rattle.std.proofs.lemmas.Str.{IsUtf8-from_is_utf8}
use Rattle.std.specs.Option.{option_map_or}
use Rattle.std.specs.Str.{bytes_eq, is_utf8}
use Rattle.std.specs.Str.Lossy.{utf8_valid_len}
use Rattle.std.proofs.lemmas.Slice.Eq.{bytes_eq-Decides}
use Rattle.fixed_num.specs.Decimal.{is_number}
use Rattle.path_glob.specs.Faults.{Said, glob_fault, said_by}
use Rattle.path_glob.specs.Stretch.{stretch_len}
use Rattle.path_glob.specs.declared.fault.GlobFault.{GlobFault}
use Rattle.target_parse.specs.declared.fault.Stop.{Stop}
use Rattle.target_parse.specs.declared.fault.Stop.TheVariants.{Left, TooDeep as StopTooDeep}
use Rattle.target_parse.specs.declared.fault.TargetFault.TheVariants.{TooLong}
use Rattle.target_parse.specs.Bytes.{behind_stretch, flag_of, is_blank, is_name, is_quote, most_depth, most_target_bytes, stretch_of}
use Rattle.target_parse.specs.Reading.{Reading, after_end, after_first, argument_end, before_byte, behind_byte, call_of, end_at, from_byte, if_nothing, in_call, or_fault, path_reading, place_of_byte, read_argument, read_arguments, read_inside, read_path, read_plain, read_quoted, read_stretch, read_target, read_unpadded, read_whole, reading_then, skip_blanks, with_first}
use Rattle.target_parse.specs.Target.{AreArguments, AreBlanks, IsArgument, IsPath, IsWhole, Lacks, Padded, Reads}
use Rattle.target_parse.specs.Tree.{Tree, Call, Path, Number, Flag, Quoted, Trees, End, Then, depth, flag_text, greatest_depth}

-- what follows a reading holds where it holds of each thing that is read
pub then_ok : {A B : Type 0} (P : A → Type 0) (Q : B → Type 0) (next : A → Result B Stop) (r : Result A Stop) → IfOk r P → ((x : A) → P x → IfOk (next x) Q) → IfOk (reading_then next r) Q
then_ok P Q next (Ok x) holds goes = goes x holds
then_ok P Q next (Err stop) holds goes = tt

pub if_option : {A B : Type 0} (Q : Result B Stop → Type 0) (f : A → Result B Stop) (d : Result B Stop) (o found : Option A) → o ≡ found
    → ((x : A) → o ≡ Some x → Q (f x)) → (o ≡ None → Q d) → Q (option_map_or f found d)
if_option Q f d o None e some none = none e
if_option Q f d o (Some x) e some none = some x e

-- blanks before what is left
abbrev pub Skips : List ℕ → List ℕ → Type 0
Skips text rest = (before : List ℕ) × (text ≡ before ++ rest) × AreBlanks before

skip_step : (b : ℕ) (rest : List ℕ) (test : Bool) → is_blank b ≡ test → Skips rest (skip_blanks rest) → Skips (b ∷ rest) (cond test (skip_blanks rest) (b ∷ rest))
skip_step b rest true e (before, same, blanks) = (b ∷ before, ap (λ xs. b ∷ xs) same, (e, blanks))
skip_step b rest false e skips = ([], refl, tt)

pub skipped : (text : List ℕ) → Skips text (skip_blanks text)
skipped [] = ([], refl, tt)
skipped (b ∷ rest) = skip_step b rest (is_blank b) refl (skipped rest)

-- a text is its stretch and what follows it
stretch_whole : (text : List ℕ) → text ≡ stretch_of text ++ behind_stretch text
stretch_whole text = sym (take-append-drop (stretch_len false text) text)

same_byte : (b mark : ℕ) → (b == mark) ≡ true → b ≡ mark
same_byte b mark e = grind arith

behind_step : (b mark : ℕ) (rest : List ℕ) (test : Bool) → (b == mark) ≡ test → (found : List ℕ) → cond test (Some rest) None ≡ Some found → b ∷ rest ≡ mark ∷ found
behind_step b mark rest true e found is = let first : b ≡ mark = same_byte b mark e in cc
behind_step b mark rest false e found is = absurd cc

pub behind_is : (mark : ℕ) (text found : List ℕ) → behind_byte mark text ≡ Some found → text ≡ mark ∷ found
behind_is mark [] found is = absurd cc
behind_is mark (b ∷ rest) found is = behind_step b mark rest (b == mark) refl found is

-- ---- paths, numbers, flags and texts

abbrev pub PathReads : (Tree → Type 0) → List ℕ → Type 0
PathReads P stretch = (glob : Said) → IsPath stretch glob → P (Path glob)

path_cases : (P : Tree → Type 0) (bytes : ℕ) (stretch rest : List ℕ) (o : Option GlobFault) → glob_fault stretch ≡ o → PathReads P stretch
    → IfOk {T = Tree × List ℕ} (path_reading bytes rest (option_map_or (λ fault. Err fault) o (Ok (said_by stretch)))) (λ found. (found.1 ≡ rest) × P found.0)
path_cases P bytes stretch rest None e gives = (refl, gives (said_by stretch) (e, refl))
path_cases P bytes stretch rest (Some fault) e gives = tt

pub path_sound : (P : Tree → Type 0) (stretch rest : List ℕ) → PathReads P stretch → IfOk (read_path stretch rest) (λ found. (found.1 ≡ rest) × P found.0)
unfolding read_path
path_sound P stretch rest gives = path_cases P (length stretch + length rest) stretch rest (glob_fault stretch) refl gives

flag_cases : (text : List ℕ) (first_test second_test : Bool) → bytes_eq text (flag_text true) ≡ first_test → bytes_eq text (flag_text false) ≡ second_test
    → (flag : Bool) → cond first_test (Some true) (cond second_test (Some false) None) ≡ Some flag → text ≡ flag_text flag
flag_cases text true second_test first second flag is =
    let same : true ≡ flag = cc in
    (bytes_eq-Decides text (flag_text true)).0 first ∙ ap flag_text same
flag_cases text false true first second flag is =
    let same : false ≡ flag = cc in
    (bytes_eq-Decides text (flag_text false)).0 second ∙ ap flag_text same
flag_cases text false false first second flag is = absurd cc

pub flag_is : (text : List ℕ) (flag : Bool) → flag_of text ≡ Some flag → text ≡ flag_text flag
unfolding flag_of
flag_is text flag is = flag_cases text (bytes_eq text (flag_text true)) (bytes_eq text (flag_text false)) refl refl flag is

-- what a stretch says in an argument
abbrev pub Plain : ℕ → List ℕ → List ℕ → Tree × List ℕ → Type 0
Plain levels stretch rest found = (found.1 ≡ rest) × (IsArgument stretch found.0 × (depth found.0 ≤ levels))

plain_cases : (levels : ℕ) (stretch rest : List ℕ) (number : Bool) → is_number stretch ≡ number
    → IfOk {T = Tree × List ℕ} (cond number (Ok (Number stretch, rest)) (option_map_or (λ flag. Ok (Flag flag, rest)) (flag_of stretch) (read_path stretch rest))) (Plain levels stretch rest)
plain_cases levels stretch rest true e = (refl, ((refl, e), omega arith))
plain_cases levels stretch rest false e =
    if_option (λ (r : Reading Tree). IfOk r (Plain levels stretch rest)) (λ flag. Ok (Flag flag, rest)) (read_path stretch rest) (flag_of stretch) (flag_of stretch) refl
    (λ flag is. (refl, (flag_is stretch flag is, omega arith)))
    (λ none. path_sound (λ tree. IsArgument stretch tree × (depth tree ≤ levels)) stretch rest (λ glob is. ((is, e, none), omega arith)))

plain_sound : (levels : ℕ) (stretch rest : List ℕ) → IfOk (read_plain stretch rest) (Plain levels stretch rest)
unfolding read_plain
plain_sound levels stretch rest = plain_cases levels stretch rest (is_number stretch) refl

lacks_step : (mark b : ℕ) (rest : List ℕ) (test : Bool) → (b == mark) ≡ test → Lacks mark (before_byte mark rest) → Lacks mark (take (cond test 0 (suc (place_of_byte mark rest))) (b ∷ rest))
lacks_step mark b rest true e lacks = tt
lacks_step mark b rest false e lacks = (e, lacks)

pub lacks_before : (mark : ℕ) (text : List ℕ) → Lacks mark (before_byte mark text)
lacks_before mark [] = tt
lacks_before mark (b ∷ rest) = lacks_step mark b rest (b == mark) refl (lacks_before mark rest)

-- a text argument behind its first quote
abbrev pub QuotedRest : ℕ → List ℕ → Tree → List ℕ → Type 0
QuotedRest quote text tree rest =
    (inner : List ℕ) × (tree ≡ Quoted quote inner) × (text ≡ inner ++ quote ∷ rest) × Lacks quote inner × IsUtf8 inner

quoted_cases : (quote : ℕ) (text : List ℕ) (good : Bool) → is_utf8 (before_byte quote text) ≡ good → (left : Stop)
    → IfOk {T = Tree × List ℕ} (cond good (option_map_or (λ (rest : List ℕ). Ok (Quoted quote (before_byte quote text), rest)) (behind_byte quote (from_byte quote text)) (Err (Left 0))) (Err left))
    (λ found. QuotedRest quote text found.0 found.1)
quoted_cases quote text true e left =
    if_option (λ (r : Reading Tree). IfOk r (λ (found : Tree × List ℕ). QuotedRest quote text found.0 found.1)) (λ (rest : List ℕ). Ok (Quoted quote (before_byte quote text), rest)) (Err (Left 0)) (behind_byte quote (from_byte quote text)) (behind_byte quote (from_byte quote text)) refl
    (λ rest is. (before_byte quote text, refl, sym (take-append-drop (place_of_byte quote text) text) ∙ ap (λ xs. before_byte quote text ++ xs) (behind_is quote (from_byte quote text) rest is), lacks_before quote text, IsUtf8-from_is_utf8 (before_byte quote text) e))
    (λ none. tt)
quoted_cases quote text false e left = tt

quoted_sound : (quote : ℕ) (text : List ℕ) → IfOk (read_quoted quote text) (λ found. QuotedRest quote text found.0 found.1)
unfolding read_quoted
quoted_sound quote text = quoted_cases quote text (is_utf8 (before_byte quote text)) refl (Left (length text - utf8_valid_len (before_byte quote text)))

-- ---- calls

-- What stands behind a call's bracket: its arguments and a last bracket, nested not as deep as the call may.
abbrev pub Inside : ℕ → List ℕ → Trees → List ℕ → Type 0
Inside levels text trees rest =
    (inner : List ℕ) × (text ≡ inner ++ 41 ∷ rest) × AreArguments inner trees × (suc (greatest_depth trees) ≤ levels)

-- An argument at the front of a text, with no blanks before it.
abbrev pub Bare : ℕ → List ℕ → Tree → List ℕ → Type 0
Bare levels text tree rest = (inner : List ℕ) × (text ≡ inner ++ rest) × IsArgument inner tree × (depth tree ≤ levels)

-- the same with blanks before it
abbrev pub Front : ℕ → List ℕ → Tree → List ℕ → Type 0
Front levels text tree rest =
    (before : List ℕ) × (inner : List ℕ) × (text ≡ before ++ (inner ++ rest)) × AreBlanks before × IsArgument inner tree × (depth tree ≤ levels)

abbrev InsideSound : ℕ → (List ℕ → Reading Trees) → Type 0
InsideSound levels arguments = (text : List ℕ) → IfOk (arguments text) (λ (found : Trees × List ℕ). Inside levels text found.0 found.1)

in_call_cases : (stretch rest inside : List ℕ) (test : Bool) → is_name stretch ≡ test → cond test (behind_byte 40 rest) None ≡ Some inside → IsTrue (is_name stretch) × (rest ≡ 40 ∷ inside)
in_call_cases stretch rest inside true e is = (e, behind_is 40 rest inside is)
in_call_cases stretch rest inside false e is = absurd cc

in_call_is : (stretch rest inside : List ℕ) → in_call stretch rest ≡ Some inside → IsTrue (is_name stretch) × (rest ≡ 40 ∷ inside)
in_call_is stretch rest inside is = in_call_cases stretch rest inside (is_name stretch) refl is

-- the text of a call
call_text : (text name behind inside inner rest : List ℕ) → text ≡ name ++ behind → behind ≡ 40 ∷ inside → inside ≡ inner ++ 41 ∷ rest
    → text ≡ (name ++ 40 ∷ (inner ++ 41 ∷ [])) ++ rest
call_text text name behind inside inner rest whole opened closed =
    whole ∙ ap (λ xs. name ++ xs) (opened ∙ ap (λ xs. 40 ∷ xs) (closed ∙ sym (append_assoc inner (41 ∷ []) rest)))
    ∙ sym (append_assoc name (40 ∷ (inner ++ 41 ∷ [])) rest)

weaker : {A : Type 0} {P Q : A → Type 0} (r : Result A Stop) → IfOk r P → ((x : A) → P x → Q x) → IfOk r Q
weaker (Ok x) holds goes = goes x holds
weaker (Err stop) holds goes = tt

stretch_sound : (levels : ℕ) (P : List ℕ → Tree → Type 0) (plain : List ℕ → List ℕ → Reading Tree) (arguments : List ℕ → Reading Trees) (text : List ℕ)
    → ((stretch rest : List ℕ) → IfOk (plain stretch rest) (λ found. (found.1 ≡ rest) × P stretch found.0))
    → ((name : List ℕ) (trees : Trees) (inner : List ℕ) → IsArgument inner (Call name trees) → suc (greatest_depth trees) ≤ levels → P inner (Call name trees))
    → InsideSound levels arguments
    → IfOk (read_stretch plain arguments text) (λ (found : Tree × List ℕ). (inner : List ℕ) × (text ≡ inner ++ found.1) × P inner found.0)
stretch_sound levels P plain arguments text plain_is call_is inside_is =
    let Q = λ (found : Tree × List ℕ). (inner : List ℕ) × (text ≡ inner ++ found.1) × P inner found.0 in
    if_option (λ (r : Reading Tree). IfOk r Q) (λ inside. call_of (stretch_of text) (arguments inside)) (plain (stretch_of text) (behind_stretch text))
    (in_call (stretch_of text) (behind_stretch text)) (in_call (stretch_of text) (behind_stretch text)) refl
    (λ inside is.
    let named = in_call_is (stretch_of text) (behind_stretch text) inside is in
    then_ok (λ (found : Trees × List ℕ). Inside levels inside found.0 found.1) Q (λ (found : Trees × List ℕ). Ok (Call (stretch_of text) found.0, found.1)) (arguments inside) (inside_is inside)
    (λ found (inner, closed, are, few). (
      stretch_of text ++ 40 ∷ (inner ++ 41 ∷ []),
      call_text text (stretch_of text) (behind_stretch text) inside inner found.1 (stretch_whole text) named.1 closed,
      call_is (stretch_of text) found.0 (stretch_of text ++ 40 ∷ (inner ++ 41 ∷ [])) (inner, refl, named.0, are) few,
    )))
    (λ none. weaker (plain (stretch_of text) (behind_stretch text)) (plain_is (stretch_of text) (behind_stretch text)) (λ found (same, reads). (stretch_of text, stretch_whole text ∙ ap (λ xs. stretch_of text ++ xs) (sym same), reads)))

-- what a text argument is, its first quote included
quoted_is : (levels quote : ℕ) (inner text : List ℕ) (tree : Tree) (rest : List ℕ) → IsTrue (is_quote quote) → tree ≡ Quoted quote inner → text ≡ inner ++ quote ∷ rest
    → Lacks quote inner → IsUtf8 inner → Bare levels (quote ∷ text) tree rest
quoted_is levels quote inner text tree rest mark same whole lacks good =
    let reads : IsArgument (quote ∷ (inner ++ quote ∷ [])) tree × (depth tree ≤ levels) =
    subst (λ t. IsArgument (quote ∷ (inner ++ quote ∷ [])) t × (depth t ≤ levels)) (sym same) ((refl, mark, lacks, good), omega arith) in
    (quote ∷ (inner ++ quote ∷ []), ap (λ xs. quote ∷ xs) (whole ∙ sym (append_assoc inner (quote ∷ []) rest)), reads.0, reads.1)

word_sound : (levels : ℕ) (arguments : List ℕ → Reading Trees) (text : List ℕ) → InsideSound levels arguments
    → IfOk (read_stretch read_plain arguments text) (λ found. Bare levels text found.0 found.1)
word_sound levels arguments text inside_is =
    weaker (read_stretch read_plain arguments text)
    (stretch_sound levels (λ inner tree. IsArgument inner tree × (depth tree ≤ levels)) read_plain arguments text
    (plain_sound levels)
    (λ name trees inner reads few. (reads, few)) inside_is)
    (λ found (inner, same, reads). (inner, same, reads.0, reads.1))

unpadded_cases : (levels : ℕ) (arguments : List ℕ → Reading Trees) (b : ℕ) (rest : List ℕ) (test : Bool) → is_quote b ≡ test → InsideSound levels arguments
    → IfOk (option_map_or (λ (quote : ℕ × List ℕ). read_quoted quote.0 quote.1) (cond test (Some (b, rest)) None) (read_stretch read_plain arguments (b ∷ rest))) (λ found. Bare levels (b ∷ rest) found.0 found.1)
unpadded_cases levels arguments b rest true e inside_is =
    weaker (read_quoted b rest) (quoted_sound b rest) (λ found (inner, same, whole, lacks, good). quoted_is levels b inner rest found.0 found.1 e same whole lacks good)
unpadded_cases levels arguments b rest false e inside_is = word_sound levels arguments (b ∷ rest) inside_is

unpadded_sound : (levels : ℕ) (arguments : List ℕ → Reading Trees) (text : List ℕ) → InsideSound levels arguments → IfOk (read_unpadded arguments text) (λ found. Bare levels text found.0 found.1)
unpadded_sound levels arguments [] inside_is = word_sound levels arguments [] inside_is
unpadded_sound levels arguments (b ∷ rest) inside_is = unpadded_cases levels arguments b rest (is_quote b) refl inside_is

padded_sound : (levels : ℕ) (arguments : List ℕ → Reading Trees) (text : List ℕ) → InsideSound levels arguments → IfOk (read_unpadded arguments (skip_blanks text)) (λ found. Front levels text found.0 found.1)
padded_sound levels arguments text inside_is =
    let (before, whole, blanks) = skipped text in
    weaker (read_unpadded arguments (skip_blanks text)) (unpadded_sound levels arguments (skip_blanks text) inside_is)
    (λ found (inner, same, reads, few). (before, inner, whole ∙ ap (λ xs. before ++ xs) same, blanks, reads, few))

-- the mark behind an argument
abbrev mark_of : Bool → ℕ
mark_of is_last = cond is_last 41 44

abbrev pub Ends : List ℕ → Bool → List ℕ → Type 0
Ends text is_last rest = (after : List ℕ) × (text ≡ after ++ mark_of is_last ∷ rest) × AreBlanks after

end_cases : (b : ℕ) (rest : List ℕ) (comma last : Bool) → (b == 44) ≡ comma → (b == 41) ≡ last → (left : Stop)
    → IfOk {T = Bool × List ℕ} (cond comma (Ok (false, rest)) (cond last (Ok (true, rest)) (Err left))) (λ end. b ∷ rest ≡ mark_of end.0 ∷ end.1)
end_cases b rest true last comma_is last_is left = let same : b ≡ 44 = same_byte b 44 comma_is in ap (λ x. x ∷ rest) same
end_cases b rest false true comma_is last_is left = let same : b ≡ 41 = same_byte b 41 last_is in ap (λ x. x ∷ rest) same
end_cases b rest false false comma_is last_is left = tt

end_at_sound : (text : List ℕ) → IfOk (end_at text) (λ end. text ≡ mark_of end.0 ∷ end.1)
end_at_sound [] = tt
end_at_sound (b ∷ rest) = end_cases b rest (b == 44) (b == 41) refl refl (Left (length rest + 1))

pub end_sound : (text : List ℕ) → IfOk (argument_end text) (λ end. Ends text end.0 end.1)
end_sound text =
    let (after, whole, blanks) = skipped text in
    weaker (argument_end text) (end_at_sound (skip_blanks text)) (λ end same. (after, whole ∙ ap (λ xs. after ++ xs) same, blanks))

-- an argument, the blanks round it and the mark behind them
argument_text : (text before inner behind after rest : List ℕ) (mark : ℕ) → text ≡ before ++ (inner ++ behind) → behind ≡ after ++ mark ∷ rest
    → text ≡ (before ++ (inner ++ after)) ++ mark ∷ rest
argument_text text before inner behind after rest mark whole ended =
    whole ∙ ap (λ xs. before ++ (inner ++ xs)) ended ∙ ap (λ xs. before ++ xs) (sym (append_assoc inner after (mark ∷ rest))) ∙ sym (append_assoc before (inner ++ after) (mark ∷ rest))

-- an argument before others
more_arguments : (tree : Tree) (trees : Trees) (first others text rest : List ℕ) → text ≡ first ++ 44 ∷ (others ++ 41 ∷ rest) → Padded (λ inner. IsArgument inner tree) first → AreArguments others trees
    → (inner : List ℕ) × (text ≡ inner ++ 41 ∷ rest) × AreArguments inner (Then tree trees)
more_arguments tree End first others text rest whole reads are = absurd are
more_arguments tree (Then next trees) first others text rest whole reads are =
    (first ++ 44 ∷ others, whole ∙ sym (append_assoc first (44 ∷ others) (41 ∷ rest)), (first, others, refl, reads, are))

abbrev ArgumentSound : ℕ → (List ℕ → Reading Tree) → Type 0
ArgumentSound levels argument = (text : List ℕ) → IfOk (argument text) (λ found. Front levels text found.0 found.1)

by_last : (levels : ℕ) (argument : List ℕ → Reading Tree) (most : ℕ) (text : List ℕ) (tree : Tree) (behind : List ℕ) (is_last : Bool) (rest : List ℕ)
    → Front levels text tree behind → Ends behind is_last rest
    → IfOk (read_arguments argument most rest) (λ (found : Trees × List ℕ). Inside (suc levels) rest found.0 found.1)
    → IfOk {T = Trees × List ℕ} (cond is_last (Ok (Then tree End, rest)) (with_first tree (read_arguments argument most rest))) (λ (found : Trees × List ℕ). Inside (suc levels) text found.0 found.1)
by_last levels argument most text tree behind true rest (before, inner, whole, blanks, reads, few) (after, ended, blank) others =
    let none : 0 ≤ levels = omega arith in
    let nest : max (depth tree) 0 ≤ levels = max-le few none in
    (before ++ (inner ++ after), argument_text text before inner behind after rest 41 whole ended, (before, inner, after, refl, blanks, blank, reads), omega (arith, nest))
by_last levels argument most text tree behind false rest (before, inner, whole, blanks, reads, few) (after, ended, blank) others =
    then_ok (λ (found : Trees × List ℕ). Inside (suc levels) rest found.0 found.1) (λ (found : Trees × List ℕ). Inside (suc levels) text found.0 found.1) (λ (found : Trees × List ℕ). Ok (Then tree found.0, found.1)) (read_arguments argument most rest) others
    (λ found (further, closed, are, nest).
    let (all, same, read) = more_arguments tree found.0 (before ++ (inner ++ after)) further text found.1
    (argument_text text before inner behind after rest 44 whole ended ∙ ap (λ xs. (before ++ (inner ++ after)) ++ 44 ∷ xs) closed) (before, inner, after, refl, blanks, blank, reads) are in
    let others_nest : greatest_depth found.0 ≤ levels = omega (arith, nest) in
    let nests : max (depth tree) (greatest_depth found.0) ≤ levels = max-le few others_nest in
    (all, same, read, omega (arith, nests)))

pub arguments_sound : (levels : ℕ) (argument : List ℕ → Reading Tree) → ArgumentSound levels argument → (most : ℕ) (text : List ℕ) → IfOk (read_arguments argument most text) (λ (found : Trees × List ℕ). Inside (suc levels) text found.0 found.1)
unfolding read_arguments
arguments_sound levels argument sound zero text = tt
arguments_sound levels argument sound (suc most) text =
    then_ok (λ (found : Tree × List ℕ). Front levels text found.0 found.1) (λ (found : Trees × List ℕ). Inside (suc levels) text found.0 found.1) (after_first (read_arguments argument most)) (argument text) (sound text)
    (λ first front.
    then_ok (λ (end : Bool × List ℕ). Ends first.1 end.0 end.1) (λ (found : Trees × List ℕ). Inside (suc levels) text found.0 found.1) (after_end (read_arguments argument most) first.0) (argument_end first.1) (end_sound first.1)
    (λ end ended. by_last levels argument most text first.0 first.1 end.0 end.1 front ended (arguments_sound levels argument sound most end.1)))

pub argument_sound : (levels : ℕ) → ArgumentSound levels (read_argument levels)
unfolding read_argument
argument_sound zero text = padded_sound zero (λ inside. Err StopTooDeep) text (λ inside. tt)
argument_sound (suc levels) text =
    padded_sound (suc levels) (λ inside. read_arguments (read_argument levels) (suc (length inside)) inside) text
    (λ inside. arguments_sound levels (read_argument levels) (argument_sound levels) (suc (length inside)) inside)

pub inside_sound : (levels : ℕ) → InsideSound levels (read_inside levels)
unfolding read_inside
inside_sound zero text = tt
inside_sound (suc levels) text = arguments_sound levels (read_argument levels) (argument_sound levels) (suc (length text)) text

-- ---- the whole target

abbrev pub Whole : List ℕ → Tree → Type 0
Whole text tree = Padded (λ inner. IsWhole inner tree) text × (depth tree ≤ most_depth)

nothing_sound : (text before inner : List ℕ) (tree : Tree) (behind left : List ℕ) → text ≡ before ++ (inner ++ behind) → AreBlanks before → IsWhole inner tree → depth tree ≤ most_depth → Skips behind left
    → IfOk (if_nothing tree left) (λ read. Whole text read)
nothing_sound text before inner tree behind [] whole blanks reads few (after, same, blank) =
    ((before, inner, after, whole ∙ ap (λ xs. before ++ (inner ++ xs)) (same ∙ append-nil after), blanks, blank, reads), few)
nothing_sound text before inner tree behind (b ∷ rest) whole blanks reads few skips = tt

whole_sound : (text : List ℕ) → IfOk (read_whole text) (λ tree. Whole text tree)
unfolding read_whole
whole_sound text =
    let (before, whole, blanks) = skipped text in
    let reads = λ (inner : List ℕ) (tree : Tree). IsWhole inner tree × (depth tree ≤ most_depth) in
    then_ok (λ (found : Tree × List ℕ). (inner : List ℕ) × (skip_blanks text ≡ inner ++ found.1) × reads inner found.0) (λ tree. Whole text tree) (λ (found : Tree × List ℕ). if_nothing found.0 (skip_blanks found.1))
    (read_stretch read_path (read_inside most_depth) (skip_blanks text))
    (stretch_sound most_depth reads read_path (read_inside most_depth) (skip_blanks text)
    (λ stretch rest. path_sound (λ tree. reads stretch tree) stretch rest (λ glob is. (is, omega arith)))
    (λ name trees inner is few. (is, few)) (inside_sound most_depth))
    (λ found (inner, same, is). nothing_sound text before inner found.0 found.1 (skip_blanks found.1) (whole ∙ ap (λ xs. before ++ xs) same) blanks is.0 is.1 (skipped found.1))

or_fault_sound : (text : List ℕ) (bytes : ℕ) (r : Result Tree Stop) → length text ≤ most_target_bytes → IfOk r (λ tree. Whole text tree) → IfOk (or_fault bytes r) (λ tree. Reads text tree × (depth tree ≤ most_depth))
or_fault_sound text bytes (Ok tree) short (is, few) = ((short, is), few)
or_fault_sound text bytes (Err stop) short holds = tt

target_cases : (text : List ℕ) (short : Bool) → leb (length text) most_target_bytes ≡ short
    → IfOk (cond short (or_fault (length text) (read_whole text)) (Err TooLong)) (λ tree. Reads text tree × (depth tree ≤ most_depth))
target_cases text true e = or_fault_sound text (length text) (read_whole text) (leb-true (length text) most_target_bytes e) (whole_sound text)
target_cases text false e = tt

pub target_sound : (text : List ℕ) → IfOk (read_target text) (λ tree. Reads text tree × (depth tree ≤ most_depth))
unfolding read_target
target_sound text = target_cases text (leb (length text) most_target_bytes) refl
