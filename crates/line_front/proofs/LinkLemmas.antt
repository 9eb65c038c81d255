-- Lines that are handled one after the other, and the entries that they make.
use Rattle.std.proofs.Common.{◌≡◌, ℕ, List, [], ◌∷◌, ◌++◌, Result, Ok, Err, refl, sym, ap, ◌∙◌, subst, append_assoc, append-nil}
use Rattle.line_frame.specs.Lines.{Line, Whole, TooLong}
use Rattle.metric_line.specs.declared.fault.LineFault.{LineFault}
use Rattle.metric_line.specs.LineDatum.{datum_of}
use Rattle.metric_line.specs.Point.{Point}
use Rattle.aggregate_front.specs.Emitting.{AggregatorValue}
use Rattle.carbon_history.specs.declared.entry.Entry.{Entry}
use Rattle.carbon_model.specs.State.{State}
use Rattle.shared_history.specs.Parts.{own_entries}
use Rattle.line_front.specs.Points.{ArePuts, LinesBring, ReadBrings, emitted_for, gathered_after, points_put}
use Rattle.line_front.specs.Links.{Brings, HandlesAll, HandlesLines, HandlesRead, HandlesThen, SessionValue, Timed}
use Rattle.line_front.proofs.PointLemmas.{Makes, bring_append, gathered_append, gathered_nil, gathered_one, makes_append, makes_each, makes_none, makes_point, put_append, put_nil, put_one, puts_append}

-- ---- one line

-- what is read so brings these points, of which the pass made the puts
record OfRead (read : Result Point LineFault) (old new : SessionValue) : Type 0 where
  points : List Point
  brings : ReadBrings read points []
  gathered : new.gathered ≡ gathered_after old.gathered points
  makes : Makes (points_put old.gathered points) old.pass new.pass

-- a line was read as these points, at these readings of the clock, and the pass made the puts of the points
record OfLine (moments : ℕ → Type 0) (line : Line) (old new : Timed) : Type 0 where
  readings : List ℕ
  clock : new.told ≡ old.told ++ readings
  points : List Point
  read : LinesBring moments readings (line ∷ []) points
  gathered : new.session.gathered ≡ gathered_after old.session.gathered points
  makes : Makes (points_put old.session.gathered points) old.session.pass new.session.pass

-- no point was read
none_gathers : (old new : SessionValue) → new.gathered ≡ old.gathered → new.gathered ≡ gathered_after old.gathered []
none_gathers old new same = same ∙ sym (gathered_nil old.gathered)

none_makes : (old new : SessionValue) → new.pass ≡ old.pass → Makes (points_put old.gathered []) old.pass new.pass
none_makes old new same = subst (λ (points : List Point). Makes points old.pass new.pass) (sym (put_nil old.gathered)) (makes_none old.pass new.pass same)

brings_makes : (start : State) (passes : ℕ) (point : Point) (old new : SessionValue) → Brings start passes point old new → Makes (point ∷ emitted_for old.gathered point) old.pass new.pass
brings_makes start passes point old new b =
    makes_append (point ∷ []) (emitted_for old.gathered point) old.pass b.put.pass new.pass (makes_point start passes point b.puts.end old.pass b.put.pass b.puts.enters)
    (makes_each start passes (emitted_for old.gathered point) b.put.pass new.pass b.emits)

of_read : (start : State) (passes : ℕ) (read : Result Point LineFault) (old new : SessionValue) → HandlesRead start passes read old new → OfRead read old new
of_read start passes (Ok point) old new b = record {
  points = point ∷ [];
  brings = refl;
  gathered = b.gathered ∙ sym (gathered_one old.gathered point);
  makes = subst (λ (points : List Point). Makes points old.pass new.pass) (sym (put_one old.gathered point)) (brings_makes start passes point old new b);
}
of_read start passes (Err fault) old new refuses = record {
  points = [];
  brings = refl;
  gathered = none_gathers old new (ap (λ (s : SessionValue). s.gathered) refuses.1);
  makes = none_makes old new (ap (λ (s : SessionValue). s.pass) refuses.1);
}

of_line : (moments : ℕ → Type 0) (start : State) (passes : ℕ) (line : Line) (old new : Timed) → HandlesThen moments start passes line old new → OfLine moments line old new
of_line moments start passes (Whole line) old new handled =
    let at = handled.handles.handles in
    let one = of_read start passes (datum_of line at.0) old.session new.session at.1.1 in record {
      readings = at.0 ∷ [];
      clock = at.1.0.1;
      points = one.points;
      read = (at.0, [], [], (refl, (at.1.0.0, (one.brings, (refl, refl)))));
      gathered = one.gathered;
      makes = one.makes;
    }
of_line moments start passes TooLong old new handled =
    let long = handled.handles.handles in record {
      readings = [];
      clock = handled.none ∙ sym (append-nil old.told);
      points = [];
      read = (refl, refl);
      gathered = none_gathers old.session new.session (ap (λ (s : SessionValue). s.gathered) long);
      makes = none_makes old.session new.session (ap (λ (s : SessionValue). s.pass) long);
    }

-- ---- lines one after the other

pub all_append : (moments : ℕ → Type 0) (start : State) (passes : ℕ) (first : List Line) (second : List Line) (old mid new : Timed)
    → HandlesAll moments start passes old first mid → HandlesAll moments start passes mid second new → HandlesAll moments start passes old (first ++ second) new
all_append moments start passes [] second old mid new handled more =
    subst (λ (t : Timed). HandlesAll moments start passes t second new) handled more
all_append moments start passes (line ∷ others) second old mid new handled more =
    (handled.0, (handled.1.0, all_append moments start passes others second handled.0 mid new handled.1.1 more))

-- lines are handled by one pass
pub record SamePass (old new : SessionValue) : Type 0 where
  pub number : new.pass.number ≡ old.pass.number
  pub table : new.pass.table ≡ old.pass.table

pub same_pass : (moments : ℕ → Type 0) (start : State) (passes : ℕ) (all : List Line) (old new : Timed) → HandlesAll moments start passes old all new → SamePass old.session new.session
same_pass moments start passes [] old new handled =
    record { number = ap (λ (t : Timed). t.session.pass.number) handled; table = ap (λ (t : Timed). t.session.pass.table) handled }
same_pass moments start passes (line ∷ others) old new handled =
    let one = of_line moments start passes line old handled.0 handled.1.0 in
    let more = same_pass moments start passes others handled.0 new handled.1.1 in
    record { number = more.number ∙ one.makes.number; table = more.table ∙ one.makes.table }

-- no line
pub handles_none : (moments : ℕ → Type 0) (start : State) (passes : ℕ) (old new : Timed) → new ≡ old → HandlesLines moments start passes [] old new
handles_none moments start passes old new same =
    let none = none_makes old.session new.session (ap (λ (t : Timed). t.session.pass) same) in record {
      each = same;
      readings = [];
      clock = ap (λ (t : Timed). t.told) same ∙ sym (append-nil old.told);
      points = [];
      read = (refl, refl);
      gathered = none_gathers old.session new.session (ap (λ (t : Timed). t.session.gathered) same);
      entries = none.entries;
      made = none.made;
      once = none.once;
    }

-- one line
pub handles_one : (moments : ℕ → Type 0) (start : State) (passes : ℕ) (line : Line) (old new : Timed) → HandlesThen moments start passes line old new
    → HandlesLines moments start passes (line ∷ []) old new
handles_one moments start passes line old new handles =
    let one = of_line moments start passes line old new handles in record {
      each = (new, (handles, refl));
      readings = one.readings;
      clock = one.clock;
      points = one.points;
      read = one.read;
      gathered = one.gathered;
      entries = one.makes.entries;
      made = one.makes.made;
      once = one.makes.once;
    }

-- the puts of points after others
made_append : (pass pass' : ℕ) (a b : AggregatorValue) (xs ys : List Point) (es fs : List Entry) → pass' ≡ pass → b ≡ gathered_after a xs
    → ArePuts pass (points_put a xs) es → ArePuts pass' (points_put b ys) fs → ArePuts pass (points_put a (xs ++ ys)) (es ++ fs)
made_append pass pass' a b xs ys es fs number gathered made more =
    subst (λ (points : List Point). ArePuts pass points (es ++ fs)) (sym (put_append a xs ys))
    (puts_append pass (points_put a xs) (points_put (gathered_after a xs) ys) es fs made
    (subst (λ (c : AggregatorValue). ArePuts pass (points_put c ys) fs) gathered (subst (λ (p : ℕ). ArePuts p (points_put b ys) fs) number more)))

-- Lines that are handled, and then others, are handled as one list.
pub handles_append : (moments : ℕ → Type 0) (start : State) (passes : ℕ) (first second : List Line) (old mid new : Timed)
    → HandlesLines moments start passes first old mid → HandlesLines moments start passes second mid new → HandlesLines moments start passes (first ++ second) old new
handles_append moments start passes first second old mid new handled more =
    let same = same_pass moments start passes first old mid handled.each in record {
      each = all_append moments start passes first second old mid new handled.each more.each;
      readings = handled.readings ++ more.readings;
      clock = more.clock ∙ (ap (λ (told : List ℕ). told ++ more.readings) handled.clock ∙ append_assoc old.told handled.readings more.readings);
      points = handled.points ++ more.points;
      read = bring_append moments first second handled.readings more.readings handled.points more.points handled.read more.read;
      gathered = more.gathered
          ∙ (ap (λ (a : AggregatorValue). gathered_after a more.points) handled.gathered ∙ sym (gathered_append old.session.gathered handled.points more.points));
      entries = handled.entries ++ more.entries;
      made = made_append old.session.pass.number mid.session.pass.number old.session.gathered mid.session.gathered handled.points more.points handled.entries more.entries
          same.number handled.gathered handled.made more.made;
      once = more.once ∙ (ap (λ (own : List Entry). own ++ more.entries) handled.once ∙ append_assoc (own_entries old.session.pass) handled.entries more.entries);
    }
