-- Which points a link brings, put one after the other.
use Rattle.std.proofs.Common.{◌≡◌, ℕ, List, [], ◌∷◌, ◌++◌, Result, Ok, Err, refl, sym, ap, ◌∙◌, subst, append_assoc, append-nil}
use Rattle.line_frame.specs.Lines.{Line, Whole, TooLong}
use Rattle.metric_line.specs.declared.fault.LineFault.{LineFault}
use Rattle.metric_line.specs.LineDatum.{datum_of}
use Rattle.metric_line.specs.Point.{Point}
use Rattle.aggregate_front.specs.Emitting.{AggregatorValue}
use Rattle.carbon_history.specs.declared.entry.Entry.{Entry}
use Rattle.carbon_history.specs.declared.entry.PutEnd.{PutEnd}
use Rattle.carbon_model.specs.State.{State}
use Rattle.shared_history.specs.Parts.{PassValue, own_entries}
use Rattle.shared_store.specs.Passes.{Enters}
use Rattle.line_front.specs.Points.{ArePuts, LinesBring, PutsEach, ReadBrings, emitted_for, gathered_after, gathered_with, points_put, put_entry}

-- ---- which points

-- points after others
pub gathered_append : (a : AggregatorValue) (xs ys : List Point) → gathered_after a (xs ++ ys) ≡ gathered_after (gathered_after a xs) ys
unfolding gathered_after
gathered_append a [] ys = refl
gathered_append a (x ∷ xs) ys = gathered_append (gathered_with a x) xs ys

pub put_append : (a : AggregatorValue) (xs ys : List Point) → points_put a (xs ++ ys) ≡ points_put a xs ++ points_put (gathered_after a xs) ys
unfolding gathered_after points_put
put_append a [] ys = refl
put_append a (x ∷ xs) ys =
    ap (λ (l : List Point). x ∷ (emitted_for a x ++ l)) (put_append (gathered_with a x) xs ys)
    ∙ ap (λ (l : List Point). x ∷ l) (sym (append_assoc (emitted_for a x) (points_put (gathered_with a x) xs) (points_put (gathered_after (gathered_with a x) xs) ys)))

-- no point
pub gathered_nil : (a : AggregatorValue) → gathered_after a [] ≡ a
unfolding gathered_after
gathered_nil a = refl

pub put_nil : (a : AggregatorValue) → points_put a [] ≡ []
unfolding points_put
put_nil a = refl

-- one point
pub gathered_one : (a : AggregatorValue) (point : Point) → gathered_after a (point ∷ []) ≡ gathered_with a point
unfolding gathered_after
gathered_one a point = refl

pub put_one : (a : AggregatorValue) (point : Point) → points_put a (point ∷ []) ≡ point ∷ emitted_for a point
unfolding points_put
put_one a point = ap (λ (l : List Point). point ∷ l) (append-nil (emitted_for a point))

-- ---- how lines are read

brings_more : (read : Result Point LineFault) (points others more : List Point) → ReadBrings read points others → ReadBrings read (points ++ more) (others ++ more)
brings_more (Ok point) points others more brings = ap (λ (l : List Point). l ++ more) brings
brings_more (Err fault) points others more brings = ap (λ (l : List Point). l ++ more) brings

module _ (moments : ℕ → Type 0) where
  pub bring_append : (first second : List Line) (now later : List ℕ) (points more : List Point) → LinesBring moments now first points → LinesBring moments later second more
      → LinesBring moments (now ++ later) (first ++ second) (points ++ more)
  bring_append [] second now later points more none brings =
      subst (λ (r : List ℕ). LinesBring moments (r ++ later) second (points ++ more)) (sym none.0)
      (subst (λ (l : List Point). LinesBring moments later second (l ++ more)) (sym none.1) brings)
  bring_append (Whole line ∷ others) second now later points more read brings = (
    read.0,
    read.1 ++ later,
    read.2 ++ more,
    (
      ap (λ (r : List ℕ). r ++ later) read.3.0,
      (
        read.3.1.0,
        (brings_more (datum_of line read.0) points read.2 more read.3.1.1.0, bring_append others second read.1 later read.2 more read.3.1.1.1 brings),
      ),
    ),
  )
  bring_append (TooLong ∷ others) second now later points more read brings = bring_append others second now later points more read brings

-- ---- the entries of puts

pub puts_append : (pass : ℕ) (xs ys : List Point) (es fs : List Entry) → ArePuts pass xs es → ArePuts pass ys fs → ArePuts pass (xs ++ ys) (es ++ fs)
puts_append pass [] ys [] fs made more = more
puts_append pass [] ys (e ∷ es) fs made more = absurd made
puts_append pass (x ∷ xs) ys [] fs made more = absurd made
puts_append pass (x ∷ xs) ys (e ∷ es) fs made more = (made.0, puts_append pass xs ys es fs made.1 more)

-- a pass made the puts of these points, and no other entry
pub record Makes (points : List Point) (old new : PassValue) : Type 0 where
  pub entries : List Entry
  pub made : ArePuts old.number points entries
  pub once : own_entries new ≡ own_entries old ++ entries
  pub number : new.number ≡ old.number
  pub table : new.table ≡ old.table

pub makes_none : (old new : PassValue) → new ≡ old → Makes [] old new
makes_none old new same = record {
  entries = [];
  made = tt;
  once = ap (λ (pass : PassValue). own_entries pass) same ∙ sym (append-nil (own_entries old));
  number = ap (λ (pass : PassValue). pass.number) same;
  table = ap (λ (pass : PassValue). pass.table) same;
}

pub makes_point : (start : State) (passes : ℕ) (point : Point) (end : PutEnd) (old new : PassValue) → Enters start passes (put_entry old.number point end ∷ []) old new
    → Makes (point ∷ []) old new
makes_point start passes point end old new enters = record {
  entries = put_entry old.number point end ∷ [];
  made = ((end, refl), tt);
  once = enters.once;
  number = enters.number;
  table = enters.table;
}

pub makes_append : (xs ys : List Point) (old mid new : PassValue) → Makes xs old mid → Makes ys mid new → Makes (xs ++ ys) old new
makes_append xs ys old mid new first more = record {
  entries = first.entries ++ more.entries;
  made = puts_append old.number xs ys first.entries more.entries first.made (subst (λ (pass : ℕ). ArePuts pass ys more.entries) first.number more.made);
  once = more.once ∙ (ap (λ (own : List Entry). own ++ more.entries) first.once ∙ append_assoc (own_entries old) first.entries more.entries);
  number = more.number ∙ first.number;
  table = more.table ∙ first.table;
}

pub makes_each : (start : State) (passes : ℕ) (points : List Point) (old new : PassValue) → PutsEach start passes points old new → Makes points old new
makes_each start passes [] old new same = makes_none old new same
makes_each start passes (point ∷ points) old new puts =
    makes_append (point ∷ []) points old puts.0 new (makes_point start passes point puts.1.0.end old puts.0 puts.1.0.enters) (makes_each start passes points puts.0 new puts.1.1)
