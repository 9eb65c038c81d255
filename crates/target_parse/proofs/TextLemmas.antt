-- The text of a tree that was read says that tree again.
use Rattle.std.proofs.Common.{◌≡◌, ℕ, ◌≤◌, ◌==◌, Bool, true, false, ◌||◌, List, [], ◌∷◌, ◌++◌, length, Ok, refl, sym, ap, ◌∙◌, subst, arith}
use Rattle.std.proofs.lemmas.List.{append-nil, length-append}
use Rattle.std.proofs.lemmas.Result.{IfOk-at_ok}
use Rattle.path_glob.specs.Faults.{Said}
use Rattle.path_glob.proofs.StretchLemmas.{same_byte}
use Rattle.target_parse.specs.Bytes.{is_quote, most_depth}
use Rattle.target_parse.specs.Reading.{read_target}
use Rattle.target_parse.specs.Target.{AreArguments, IsArgument, IsWhole, Padded, Reads}
use Rattle.target_parse.specs.Tree.{Tree, Call, Path, Number, Flag, Quoted, Trees, End, Then, depth, flag_text, shown_quote, text_of, texts_of}
use Rattle.target_parse.proofs.CompleteLemmas.{target_reads}
use Rattle.target_parse.proofs.SoundLemmas.{target_sound}

shown_cases : (quote : ℕ) (single double : Bool) → (quote == 39) ≡ single → (quote == 34) ≡ double → (single || double) ≡ true → shown_quote quote ≡ quote
shown_cases quote true double first second e = subst (λ (q : ℕ). shown_quote q ≡ q) (sym (same_byte quote 39 first)) refl
shown_cases quote false true first second e = subst (λ (q : ℕ). shown_quote q ≡ q) (sym (same_byte quote 34 second)) refl
shown_cases quote false false first second e = absurd cc

shown_is : (quote : ℕ) → is_quote quote ≡ true → shown_quote quote ≡ quote
shown_is quote e = shown_cases quote (quote == 39) (quote == 34) refl refl e

-- such a text says what another one does, and is no longer
abbrev Same : (List ℕ → Type 0) → List ℕ → List ℕ → Type 0
Same reads short text = reads short × (length short ≤ length text)

same_text : (reads : List ℕ → Type 0) (short text : List ℕ) → short ≡ text → reads text → Same reads short text
same_text reads short text same is = (subst reads (sym same) is, omega (arith, ap length same))

same_longer : (reads : List ℕ → Type 0) (short longer text : List ℕ) → longer ≡ short → Same reads short text → Same reads longer text
same_longer reads short longer text same mine = (subst reads (sym same) mine.0, omega (arith, mine.1, ap length same))

alone : (reads : List ℕ → Type 0) (text : List ℕ) → reads text → Padded reads text
alone reads text is = ([], text, [], sym (append-nil text), tt, tt, is)

-- an argument with nothing round it
without_blanks : (tree : Tree) (text : List ℕ) → ((inner : List ℕ) → IsArgument inner tree → Same (λ (short : List ℕ). IsArgument short tree) (text_of tree) inner)
    → Padded (λ (inner : List ℕ). IsArgument inner tree) text → Same (Padded (λ (inner : List ℕ). IsArgument inner tree)) (text_of tree) text
without_blanks tree text own (before, inner, after, same, blanks, blank, is) =
    let mine = own inner is in (
      alone (λ (short : List ℕ). IsArgument short tree) (text_of tree) mine.0,
      omega (arith, mine.1, ap length same, length-append before (inner ++ after), length-append inner after),
    )

mutual
  own_text : (tree : Tree) (text : List ℕ) → IsArgument text tree → Same (λ (short : List ℕ). IsArgument short tree) (text_of tree) text
  own_text (Call name trees) text (inner, same, named, are) =
      let mine = own_texts trees inner are in (
        (texts_of trees, refl, named, mine.0),
        omega (arith, mine.1, ap length same, length-append name (40 ∷ (inner ++ 41 ∷ [])), length-append inner (41 ∷ []), length-append name (40 ∷ (texts_of trees ++ 41 ∷ [])), length-append (texts_of trees) (41 ∷ [])),
      )
  own_text (Path glob) text ((legal, said), number, flag) =
      same_text (λ (short : List ℕ). IsArgument short (Path glob)) glob.text text (ap (λ (g : Said). g.text) said) ((legal, said), number, flag)
  own_text (Number number) text (same, is) = same_text (λ (short : List ℕ). IsArgument short (Number number)) number text (sym same) (same, is)
  own_text (Flag flag) text same = same_text (λ (short : List ℕ). IsArgument short (Flag flag)) (flag_text flag) text (sym same) same
  own_text (Quoted quote inner) text (same, mark, lacks, good) =
      same_text (λ (short : List ℕ). IsArgument short (Quoted quote inner)) (text_of (Quoted quote inner)) text (ap (λ (q : ℕ). q ∷ (inner ++ q ∷ [])) (shown_is quote mark) ∙ sym same) (same, mark, lacks, good)

  own_texts : (trees : Trees) (text : List ℕ) → AreArguments text trees → Same (λ (short : List ℕ). AreArguments short trees) (texts_of trees) text
  own_texts End text are = absurd are
  own_texts (Then tree End) text are =
      let mine = without_blanks tree text (own_text tree) are in
      same_longer (λ (short : List ℕ). AreArguments short (Then tree End)) (text_of tree) (text_of tree ++ []) text (append-nil (text_of tree)) mine
  own_texts (Then tree (Then next trees)) text (first, others, same, is, are) =
      let mine = without_blanks tree first (own_text tree) is in
      let further = own_texts (Then next trees) others are in (
        (text_of tree, texts_of (Then next trees), refl, mine.0, further.0),
        omega (arith, mine.1, further.1, ap length same, length-append first (44 ∷ others), length-append (text_of tree) (44 ∷ texts_of (Then next trees))),
      )

whole_text : (tree : Tree) (text : List ℕ) → IsWhole text tree → Same (λ (short : List ℕ). IsWhole short tree) (text_of tree) text
whole_text (Call name trees) text is = own_text (Call name trees) text is
whole_text (Path glob) text (legal, said) = same_text (λ (short : List ℕ). IsWhole short (Path glob)) glob.text text (ap (λ (g : Said). g.text) said) (legal, said)
whole_text (Number number) text is = absurd is
whole_text (Flag flag) text is = absurd is
whole_text (Quoted quote inner) text is = absurd is

own_target : (tree : Tree) (text : List ℕ) → Reads text tree → Reads (text_of tree) tree
own_target tree text (short, (before, inner, after, same, blanks, blank, is)) =
    let mine = whole_text tree inner is in
    (omega (arith, mine.1, short, ap length same, length-append before (inner ++ after), length-append inner after), alone (λ (shown : List ℕ). IsWhole shown tree) (text_of tree) mine.0)

pub text_reads : (text : List ℕ) (tree : Tree) → read_target text ≡ Ok tree → read_target (text_of tree) ≡ Ok tree
text_reads text tree read =
    let sound : Reads text tree × (depth tree ≤ most_depth) = IfOk-at_ok (λ (said : Tree). Reads text said × (depth said ≤ most_depth)) read (target_sound text) in
    target_reads (text_of tree) tree (own_target tree text sound.0) sound.1
