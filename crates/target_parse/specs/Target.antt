-- The grammar of targets: which text says which tree.
use Rattle.std.specs.Prelude.{◌≡◌, ◌≤◌, ◌==◌, ℕ, true, false, IsTrue, List, [], ◌∷◌, ◌++◌, length, None, IsUtf8}
use Rattle.fixed_num.specs.Decimal.{is_number}
use Rattle.path_glob.specs.Faults.{Said, glob_fault, said_by}
use Rattle.target_parse.specs.Bytes.{flag_of, is_blank, is_name, is_quote, most_depth, most_target_bytes}
use Rattle.target_parse.specs.Tree.{Tree, Call, Path, Number, Flag, Quoted, Trees, End, Then, depth, flag_text}

-- spaces and tabs, or nothing
abbrev pub AreBlanks : List ℕ → Type 0
AreBlanks [] = Unit {0}
AreBlanks (b ∷ rest) = (is_blank b ≡ true) × AreBlanks rest

-- no byte of the text is the mark
abbrev pub Lacks : ℕ → List ℕ → Type 0
Lacks mark [] = Unit {0}
Lacks mark (b ∷ rest) = ((b == mark) ≡ false) × Lacks mark rest

-- A text, with blanks or none before and after it.
abbrev pub Padded : (List ℕ → Type 0) → List ℕ → Type 0
Padded reads text =
    (before : List ℕ) × (inner : List ℕ) × (after : List ℕ)
    × (text ≡ before ++ (inner ++ after)) × AreBlanks before × AreBlanks after × reads inner

-- a path: its text is a glob
abbrev pub IsPath : List ℕ → Said → Type 0
IsPath text glob = (glob_fault text ≡ None) × (glob ≡ said_by text)

-- A call: its name, and directly behind it the arguments in brackets.
abbrev pub IsCall : (List ℕ → Type 0) → List ℕ → List ℕ → Type 0
IsCall arguments text name =
    (inner : List ℕ) × (text ≡ name ++ 40 ∷ (inner ++ 41 ∷ [])) × IsTrue (is_name name) × arguments inner

-- A text between quotes: it runs to the next same byte, and nothing in it stands for another byte.
abbrev pub IsQuoted : List ℕ → ℕ → List ℕ → Type 0
IsQuoted text quote inner =
    (text ≡ quote ∷ (inner ++ quote ∷ [])) × IsTrue (is_quote quote) × Lacks quote inner × IsUtf8 inner

-- Arguments are calls, numbers, flags, texts in quotes, and else paths.
abbrev mutual
  pub IsArgument : List ℕ → Tree → Type 0
  IsArgument text (Call name arguments) = IsCall (λ inner. AreArguments inner arguments) text name
  IsArgument text (Path glob) = IsPath text glob × (is_number text ≡ false) × (flag_of text ≡ None)
  IsArgument text (Number number) = (text ≡ number) × IsTrue (is_number number)
  IsArgument text (Flag flag) = text ≡ flag_text flag
  IsArgument text (Quoted quote inner) = IsQuoted text quote inner

  -- One or more arguments with commas between them, and blanks or none round each.
  pub AreArguments : List ℕ → Trees → Type 0
  AreArguments text End = ⊥
  AreArguments text (Then tree End) = Padded (λ inner. IsArgument inner tree) text
  AreArguments text (Then tree (Then next trees)) =
      (first : List ℕ) × (others : List ℕ) × (text ≡ first ++ 44 ∷ others)
      × Padded (λ inner. IsArgument inner tree) first × AreArguments others (Then next trees)

-- The whole target is a call or a path: what would be a number or a flag as an argument is a path here.
abbrev pub IsWhole : List ℕ → Tree → Type 0
IsWhole text (Call name arguments) = IsArgument text (Call name arguments)
IsWhole text (Path glob) = IsPath text glob
IsWhole text (Number number) = ⊥
IsWhole text (Flag flag) = ⊥
IsWhole text (Quoted quote inner) = ⊥

-- The text is a target that says this tree.
abbrev pub Reads : List ℕ → Tree → Type 0
Reads text tree = (length text ≤ most_target_bytes) × Padded (λ inner. IsWhole inner tree) text

-- The text says no tree whose calls nest at most 32 deep.
abbrev pub SaysNone : List ℕ → Type 0
SaysNone text = (tree : Tree) → Reads text tree → depth tree ≤ most_depth → ⊥
