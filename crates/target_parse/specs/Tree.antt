-- What a target says: calls with their arguments, and paths, numbers, flags and texts.
use Rattle.std.specs.Prelude.{ℕ, suc, ◌==◌, max, Bool, List, [], ◌∷◌, ◌++◌, map, codes, if◌then◌else◌}
use Rattle.path_glob.specs.Faults.{Said}
use Rattle.target_parse.specs.declared.expr.Expr.{Expr, fold-Expr}
use Rattle.target_parse.specs.declared.expr.Expr.TheOpen.{Expr-F}

mutual
  pub data Tree : Type 0 where
    Call : List ℕ → Trees → Tree
    Path : Said → Tree
    Number : List ℕ → Tree
    Flag : Bool → Tree
    Quoted : ℕ → List ℕ → Tree

  -- the arguments of a call, in order
  pub data Trees : Type 0 where
    End : Trees
    Then : Tree → Trees → Trees

-- How deep calls nest.
abbrev mutual
  pub depth : Tree → ℕ
  depth (Call name arguments) = suc (greatest_depth arguments)
  depth (Path glob) = 0
  depth (Number text) = 0
  depth (Flag flag) = 0
  depth (Quoted quote text) = 0

  pub greatest_depth : Trees → ℕ
  greatest_depth End = 0
  greatest_depth (Then tree trees) = max (depth tree) (greatest_depth trees)

-- the text of a flag
unfoldable pub flag_text : Bool → List ℕ
flag_text flag = if flag then codes "true" else codes "false"

-- the quotes of a text: `"` where they were that, and else `'`
abbrev pub shown_quote : ℕ → ℕ
shown_quote quote = if quote == 34 then 34 else 39

-- The text of a tree, without blanks outside quoted texts.
abbrev mutual
  pub text_of : Tree → List ℕ
  text_of (Call name arguments) = name ++ 40 ∷ (texts_of arguments ++ 41 ∷ [])
  text_of (Path glob) = glob.text
  text_of (Number text) = text
  text_of (Flag flag) = flag_text flag
  text_of (Quoted quote text) = shown_quote quote ∷ (text ++ shown_quote quote ∷ [])

  -- the first argument, and the others with a comma before each
  pub texts_of : Trees → List ℕ
  texts_of End = []
  texts_of (Then tree trees) = text_of tree ++ further_texts trees

  pub further_texts : Trees → List ℕ
  further_texts End = []
  further_texts (Then tree trees) = 44 ∷ (text_of tree ++ further_texts trees)

abbrev pub all_of : List Tree → Trees
all_of [] = End
all_of (tree ∷ trees) = Then tree (all_of trees)

-- One level of an expression, with what its arguments say.
abbrev pub tree_step : Expr-F Tree → Tree
tree_step (Expr-F.Call name arguments) = Call name (all_of arguments.items)
tree_step (Expr-F.Path glob) = Path glob
tree_step (Expr-F.Number text) = Number text
tree_step (Expr-F.Flag flag) = Flag flag
tree_step (Expr-F.Text quote text) = Quoted quote text

-- what an expression says
abbrev pub tree_of : Expr → Tree
tree_of = fold-Expr Tree tree_step

-- what several say
abbrev pub trees_of : List Expr → Trees
trees_of exprs = all_of (map tree_of exprs)
