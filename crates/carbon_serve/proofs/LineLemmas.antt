-- What a link of metric lines makes of a pass.
use Rattle.std.proofs.Common.{◌≡◌, ◌⊎◌, inl, inr, ℕ, List, [], ◌∷◌, Option, Result, Ok, Err, sym, subst}
use Rattle.line_frame.specs.Lines.{Line, Whole, TooLong, lines}
use Rattle.metric_line.specs.declared.fault.LineFault.{LineFault}
use Rattle.metric_line.specs.LineDatum.{datum_of}
use Rattle.metric_line.specs.Point.{Point}
use Rattle.carbon_model.specs.State.{State}
use Rattle.shared_history.specs.Parts.{PassValue}
use Rattle.aggregate_rules.specs.RuleTexts.{RuleValue}
use Rattle.line_front.specs.Links.{BringsFront, Ends, EndsAs, Handles, HandlesAll, HandlesFront, HandlesRead, HasPoint, Idles, IsRead, IsSpent, LacksMemory, LacksRoom, Puts, PutsFront, ReadsOnce, ReadsThen, SessionValue, Timed, new_session, timed}
use Rattle.line_front.specs.Points.{PutsEach, PutsPoint, emitted_at_end, emitted_for, put_entry}
use Rattle.line_front.specs.declared.counts.Counts.{Counts}
use Rattle.line_front.specs.declared.ends.LineCause.{LineCause}
use Rattle.line_front.specs.declared.ends.LineCause.TheVariants as cause
use Rattle.carbon_serve.specs.Workers.{Works}
use Rattle.carbon_serve.proofs.WorkLemmas.{enters_works, one_told, sees_works, works_same, works_then}

same_session : (moments : ℕ → Type 0) (start : State) (old new : SessionValue) → new.pass ≡ old.pass → Works moments start old.pass new.pass
same_session moments start old new same = subst (λ (pass : PassValue). Works moments start old.pass pass) (sym same) (works_same moments start old.pass)

-- points that are put one after the other
each_works : (moments : ℕ → Type 0) (start : State) (passes : ℕ) (points : List Point) (old new : PassValue) → PutsEach start passes points old new → Works moments start old new
each_works moments start passes [] old new same = subst (λ (pass : PassValue). Works moments start old pass) (sym same) (works_same moments start old)
each_works moments start passes (point ∷ points) old new puts =
    let one : PutsPoint start passes point old puts.0 = puts.1.0 in
    works_then moments start old puts.0 new
    (enters_works moments start passes (put_entry old.number point one.end ∷ []) old puts.0 one.enters (one_told moments (put_entry old.number point one.end) tt))
    (each_works moments start passes points puts.0 new puts.1.1)

-- the point of a line
put_works : (moments : ℕ → Type 0) (start : State) (passes : ℕ) (point : Point) (old new : SessionValue) → Puts start passes point old new → Works moments start old.pass new.pass
put_works moments start passes point old new puts =
    enters_works moments start passes (put_entry old.pass.number point puts.end ∷ []) old.pass new.pass puts.enters (one_told moments (put_entry old.pass.number point puts.end) tt)

read_works : (moments : ℕ → Type 0) (start : State) (passes : ℕ) (read : Result Point LineFault) (old new : SessionValue) → HandlesRead start passes read old new → Works moments start old.pass new.pass
read_works moments start passes (Ok point) old new brings =
    works_then moments start old.pass brings.put.pass new.pass (put_works moments start passes point old brings.put brings.puts)
    (each_works moments start passes (emitted_for old.gathered point) brings.put.pass new.pass brings.emits)
read_works moments start passes (Err fault) old new refused = same_session moments start old new (cc refused.1)

-- at a moment of the clock that fits its readings
line_works : (moments fits : ℕ → Type 0) (start : State) (passes : ℕ) (line : Line) (old new : SessionValue) → Handles fits start passes line old new → Works moments start old.pass new.pass
line_works moments fits start passes (Whole line) old new handles =
    read_works moments start passes (datum_of line handles.handles.0) old new handles.handles.1.1
line_works moments fits start passes TooLong old new handles = same_session moments start old new (cc handles.handles)

lines_work : (moments : ℕ → Type 0) (start : State) (passes : ℕ) (handled : List Line) (old new : Timed) → HandlesAll moments start passes old handled new
    → Works moments start old.session.pass new.session.pass
lines_work moments start passes [] old new same = same_session moments start old.session new.session (cc same)
lines_work moments start passes (line ∷ others) old new all =
    works_then moments start old.session.pass all.0.session.pass new.session.pass
    (line_works moments (ReadsOnce moments old.told all.0.told) start passes line old.session all.0.session all.1.0.handles) (lines_work moments start passes others all.0 new all.1.1)

idle_works : (moments : ℕ → Type 0) (start : State) (passes : ℕ) (old new : SessionValue) → Idles start passes old new → Works moments start old.pass new.pass
idle_works moments start passes old new (inl same) = same_session moments start old new (cc same)
idle_works moments start passes old new (inr sees) = sees_works moments start passes old.pass new.pass sees.enters

front_works : (moments : ℕ → Type 0) (start : State) (passes : ℕ) (bytes : List ℕ) (old new : Timed) → HandlesFront moments start passes bytes old new
    → Works moments start old.session.pass new.session.pass
front_works moments start passes bytes old new front = lines_work moments start passes front.handled old new front.front.each

-- the first of some points
some_works : (moments : ℕ → Type 0) (start : State) (passes : ℕ) (points : List Point) (old new : SessionValue) → PutsFront start passes points old new → Works moments start old.pass new.pass
some_works moments start passes points old new some = each_works moments start passes some.first old.pass new.pass some.emits

brings_works : (moments fits : ℕ → Type 0) (start : State) (passes : ℕ) (line : Line) (old new : SessionValue) → BringsFront fits start passes line old new → Works moments start old.pass new.pass
brings_works moments fits start passes line old new brings =
    works_then moments start old.pass brings.put.pass new.pass (put_works moments start passes brings.point old brings.put brings.puts)
    (some_works moments start passes (emitted_for old.gathered brings.point) brings.put new brings.emits)

-- a line for which there was no memory, or no room
short_works : (moments fits : ℕ → Type 0) (start : State) (passes : ℕ) (line : Line) (old new : SessionValue) → LacksMemory fits start passes line old new → Works moments start old.pass new.pass
short_works moments fits start passes line old new lacks = works_then moments start old.pass lacks.mid.pass new.pass (by lacks.begun) (idle_works moments start passes lacks.mid new lacks.idles)
  where
    by : (HasPoint fits line × (lacks.mid ≡ old)) ⊎ BringsFront fits start passes line old lacks.mid → Works moments start old.pass lacks.mid.pass
    by (inl none) = same_session moments start old lacks.mid (cc none.1)
    by (inr brings) = brings_works moments fits start passes line old lacks.mid brings

full_works : (moments fits : ℕ → Type 0) (start : State) (passes : ℕ) (line : Line) (old new : SessionValue) → (new ≡ old) ⊎ LacksRoom fits start passes line old new → Works moments start old.pass new.pass
full_works moments fits start passes line old new (inl same) = same_session moments start old new (cc same)
full_works moments fits start passes line old new (inr lacks) = brings_works moments fits start passes line old new lacks.brings

module _ (moments : ℕ → Type 0) (start : State) (passes : ℕ) (taken : List ℕ) (left : Option (List ℕ)) (old new : Timed) where
  read_end : (mid : SessionValue) → IsRead moments start passes taken left old (timed new.told mid) → Works moments start mid.pass new.session.pass
      → Works moments start old.session.pass new.session.pass
  read_end mid read goes =
      works_then moments start old.session.pass mid.pass new.session.pass (lines_work moments start passes (lines taken) old (timed new.told mid) read.handles.each) goes

  ends_work : (reason : LineCause) → EndsAs moments start passes reason taken left old new → Works moments start old.session.pass new.session.pass
  ends_work cause.Closed ends = read_end ends.mid ends.read (each_works moments start passes (emitted_at_end ends.mid.gathered) ends.mid.pass new.session.pass ends.emits)
  ends_work cause.ReadFault ends = lines_work moments start passes (lines taken) old new ends.0.each
  ends_work cause.LinkLimit ends = lines_work moments start passes (lines taken) old new ends.0.each
  ends_work cause.Spent (inl none, spent) = same_session moments start old.session new.session (cc none.same)
  ends_work cause.Spent (inr (inl full), spent) =
      works_then moments start old.session.pass full.mid.session.pass new.session.pass (front_works moments start passes taken old full.mid full.handles)
      (full_works moments (ReadsThen moments full.mid.told new.told) start passes full.handles.line full.mid.session new.session full.lacks)
  ends_work cause.Spent (inr (inr late), spent) =
      read_end late.mid late.read (some_works moments start passes (emitted_at_end late.mid.gathered) late.mid new.session late.emits)
  ends_work cause.NoMemory (inl whole) = lines_work moments start passes (lines whole.0) old new whole.1.1.each
  ends_work cause.NoMemory (inr (inl short)) =
      works_then moments start old.session.pass short.mid.session.pass new.session.pass (front_works moments start passes taken old short.mid short.handles)
      (short_works moments (ReadsThen moments short.mid.told new.told) start passes short.handles.line short.mid.session new.session short.lacks)
  ends_work cause.NoMemory (inr (inr late)) =
      read_end late.mid late.read
      (works_then moments start late.mid.pass late.put.pass new.session.pass (some_works moments start passes (emitted_at_end late.mid.gathered) late.mid late.put late.emits)
      (idle_works moments start passes late.put new.session late.idles))

pub link_works : (moments : ℕ → Type 0) (start : State) (passes : ℕ) (rules : List RuleValue) (reason : LineCause) (left left' : Option (List ℕ)) (told told' : List ℕ) (old new : PassValue) (counts : Counts)
    → Ends moments start passes reason left left' (timed told (new_session rules old)) told' new counts → Works moments start old new
link_works moments start passes rules reason left left' told told' old new counts ends =
    ends_work moments start passes ends.taken left' (timed told (new_session rules old)) (timed told' (record { pass = new; counts = counts; gathered = ends.gathered })) reason ends.ends

-- a link that ends for a spent pass leaves it so
pub link_spent : (moments : ℕ → Type 0) (start : State) (passes : ℕ) (reason : LineCause) (left left' : Option (List ℕ)) (old : Timed) (told' : List ℕ) (pass : PassValue) (counts : Counts)
    → Ends moments start passes reason left left' old told' pass counts → reason ≡ cause.Spent → IsSpent pass
link_spent moments start passes reason left left' old told' pass counts ends is =
    (subst (λ (why : LineCause). EndsAs moments start passes why ends.taken left' old (timed told' (record { pass = pass; counts = counts; gathered = ends.gathered }))) is ends.ends).1
