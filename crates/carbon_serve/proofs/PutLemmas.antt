-- What a receiver's links put is what the history has of its pass.
use Rattle.std.proofs.Common.{◌≡◌, ◌∙◌, ◌⊎◌, inl, inr, ℕ, List, [], ◌∷◌, ◌++◌, Option, refl, sym, ap, subst, append-nil, append_assoc}
use mathlib.Core.List.{IsPrefix}
use Rattle.carbon_history.specs.declared.entry.Entry.{Entry}
use Rattle.carbon_model.specs.State.{State}
use Rattle.shared_history.specs.Parts.{PassValue, own_entries}
use Rattle.shared_history.proofs.ListLemmas.{prefix_nil}
use Rattle.line_frame.specs.Lines.{Line, Whole, TooLong, lines}
use Rattle.metric_line.specs.Point.{Point}
use Rattle.metric_line.specs.declared.fault.LineFault.{LineFault}
use Rattle.std.specs.Prelude.{Result}
use Rattle.aggregate_rules.specs.RuleTexts.{RuleValue}
use Rattle.aggregate_front.specs.Emitting.{AggregatorValue}
use Rattle.line_front.specs.Points.{ArePuts, LinesBring, ReadBrings, emitted_at_end, emitted_for, gathered_after, none_gathered, points_of_link, points_put}
use Rattle.line_front.specs.Links.{BringsFront, EndsAs, HandlesFront, HandlesLines, HasPoint, Idles, IsPointOf, IsRead, LacksMemory, LacksRoom, PutsFront, ReadsThen, SessionValue, Timed, new_session, timed}
use Rattle.line_front.specs.declared.ends.LineCause.{LineCause}
use Rattle.line_front.specs.declared.ends.LineCause.TheVariants as cause
use Rattle.line_front.proofs.LinkLemmas.{same_pass}
use Rattle.line_front.proofs.PointLemmas.{Makes, bring_append, makes_append, makes_each, makes_none, makes_point, put_append, put_one}
use Rattle.http_front.specs.Origin.{Caller, Origin}
use Rattle.carbon_serve.specs.Deeds.{InTurn, LineLink, ServesLineLink, Telling}
use Rattle.carbon_serve.specs.OneHistory.{AreFirst, AreHandled, ArePut, PutsOf, PutsOfAll}
use Rattle.carbon_serve.specs.Workers.{Works}
use Rattle.carbon_serve.proofs.LineLemmas.{link_works}

-- ---- what was put

-- lines that were handled, from where a pass stood to where it stands
lines_make : (moments : ℕ → Type 0) (start : State) (passes : ℕ) (handled : List Line) (old new : Timed) → (h : HandlesLines moments start passes handled old new)
    → Makes (points_put old.session.gathered h.points) old.session.pass new.session.pass
lines_make moments start passes handled old new h =
    let same = same_pass moments start passes handled old new h.each in
    record { entries = h.entries; made = h.made; once = h.once; number = same.number; table = same.table }

-- a pass that only saw more made nothing
idle_makes : (start : State) (passes : ℕ) (points : List Point) (before : PassValue) (old new : SessionValue) → Makes points before old.pass → Idles start passes old new
    → Makes points before new.pass
idle_makes start passes points before old new makes (inl same) = subst (λ (session : SessionValue). Makes points before session.pass) (sym same) makes
idle_makes start passes points before old new makes (inr sees) = record {
  entries = makes.entries;
  made = makes.made;
  once = sees.enters.once ∙ (append-nil (own_entries old.pass) ∙ makes.once);
  number = sees.enters.number ∙ makes.number;
  table = sees.enters.table ∙ makes.table;
}

-- the point of a line, and the first of those that the rules emit for it
brings_make : (moments : ℕ → Type 0) (start : State) (passes : ℕ) (line : Line) (old new : SessionValue) → (b : BringsFront moments start passes line old new)
    → Makes (b.point ∷ b.emits.first) old.pass new.pass
brings_make moments start passes line old new b =
    makes_append (b.point ∷ []) b.emits.first old.pass b.put.pass new.pass (makes_point start passes b.point b.puts.end old.pass b.put.pass b.puts.enters)
    (makes_each start passes b.emits.first b.put.pass new.pass b.emits.emits)

-- ---- which lines

line_brings : (moments : ℕ → Type 0) (told told' : List ℕ) (line : Line) (point : Point) → IsPointOf (ReadsThen moments told told') line point
    → (readings : List ℕ) × LinesBring moments readings (line ∷ []) (point ∷ [])
line_brings moments told told' (Whole line) point is = (
  is.0 ∷ [],
  (is.0, [], [], (refl, (is.1.0.0, (subst (λ (read : Result Point LineFault). ReadBrings read (point ∷ []) []) (sym is.1.1) refl, (refl, refl))))),
)
line_brings moments told told' TooLong point is = absurd is

-- the lines that were handled of a link, the points of theirs that were put, and how
record Handled (moments : ℕ → Type 0) (rules : List RuleValue) (reason : LineCause) (taken : List ℕ) (left : Option (List ℕ)) (old new : PassValue) : Type 0 where
  handled : List Line
  are : AreHandled reason taken handled
  readings : List ℕ
  points : List Point
  read : LinesBring moments readings handled points
  put : List Point
  all : ArePut reason rules taken left handled points put
  makes : Makes put old new

-- the first lines of a link, and the first points that are put of it
record Begun (moments : ℕ → Type 0) (rules : List RuleValue) (taken : List ℕ) (left : Option (List ℕ)) (old new : PassValue) : Type 0 where
  handled : List Line
  are : IsPrefix handled (lines taken)
  readings : List ℕ
  points : List Point
  read : LinesBring moments readings handled points
  put : List Point
  all : AreFirst rules taken left handled points put
  makes : Makes put old new

-- so many of them, where the rules emit more
more_put : (rules : List RuleValue) (points : List Point) (point : Point) (first others : List Point) → emitted_for (gathered_after (none_gathered rules) points) point ≡ first ++ others
    → IsPrefix (points_put (none_gathered rules) points ++ point ∷ first) (points_put (none_gathered rules) (points ++ point ∷ []))
more_put rules points point first others split =
    let g : AggregatorValue = none_gathered rules in
    let now : AggregatorValue = gathered_after g points in
    let one : points_put now (point ∷ []) ≡ point ∷ (first ++ others) = put_one now point ∙ ap (λ (l : List Point). point ∷ l) split in
    let whole : points_put g (points ++ point ∷ []) ≡ points_put g points ++ (point ∷ (first ++ others)) =
    put_append g points (point ∷ []) ∙ ap (λ (l : List Point). points_put g points ++ l) one in
    (others, append_assoc (points_put g points) (point ∷ first) others ∙ sym whole)

module _ (moments : ℕ → Type 0) (start : State) (passes : ℕ) (rules : List RuleValue) (taken : List ℕ) (left : Option (List ℕ)) (told : List ℕ) (old : PassValue) where
  -- where the link began
  abbrev begun_at : Timed
  begun_at = timed told (new_session rules old)

  -- no line
  none_begun : (new : PassValue) → new ≡ old → Begun moments rules taken left old new
  none_begun new same = record {
    handled = [];
    are = prefix_nil (lines taken);
    readings = [];
    points = [];
    read = (refl, refl);
    put = [];
    all = inl (prefix_nil (points_put (none_gathered rules) []));
    makes = makes_none old new same;
  }

  -- some lines
  front_begun : (new : Timed) → HandlesFront moments start passes taken begun_at new → Begun moments rules taken left old new.session.pass
  front_begun new front =
      let h = front.front in record {
        handled = front.handled;
        are = (front.line ∷ front.others, sym front.split);
        readings = h.readings;
        points = h.points;
        read = h.read;
        put = points_put (none_gathered rules) h.points;
        all = inl ([], append-nil (points_put (none_gathered rules) h.points));
        makes = lines_make moments start passes front.handled begun_at new h;
      }

  -- and of the next one the point, and the first of those that the rules emit for it
  line_begun : (mid : Timed) (told' : List ℕ) (new : SessionValue) (front : HandlesFront moments start passes taken begun_at mid)
      → BringsFront (ReadsThen moments mid.told told') start passes front.line mid.session new → Begun moments rules taken left old new.pass
  line_begun mid told' new front b =
      let h = front.front in
      let one = line_brings moments mid.told told' front.line b.point b.is in record {
        handled = front.handled ++ front.line ∷ [];
        are = (front.others, append_assoc front.handled (front.line ∷ []) front.others ∙ sym front.split);
        readings = h.readings ++ one.0;
        points = h.points ++ b.point ∷ [];
        read = bring_append moments front.handled (front.line ∷ []) h.readings one.0 h.points (b.point ∷ []) h.read one.1;
        put = points_put (none_gathered rules) h.points ++ b.point ∷ b.emits.first;
        all = inl (more_put rules h.points b.point b.emits.first b.emits.others (ap (λ (a : AggregatorValue). emitted_for a b.point) (sym h.gathered) ∙ b.emits.split));
        makes = makes_append (points_put (none_gathered rules) h.points) (b.point ∷ b.emits.first) old mid.session.pass new.pass
            (lines_make moments start passes front.handled begun_at mid h) (brings_make (ReadsThen moments mid.told told') start passes front.line mid.session new b);
      }

  -- all lines, and the first points that the rules have open
  open_begun : (told' : List ℕ) (mid new : SessionValue) → IsRead moments start passes taken left begun_at (timed told' mid)
      → PutsFront start passes (emitted_at_end mid.gathered) mid new → Begun moments rules taken left old new.pass
  open_begun told' mid new read some =
      let h = read.handles in
      let g : AggregatorValue = none_gathered rules in
      let split : some.first ++ some.others ≡ emitted_at_end (gathered_after g h.points) = sym some.split ∙ ap (λ (a : AggregatorValue). emitted_at_end a) h.gathered in record {
        handled = lines taken;
        are = ([], append-nil (lines taken));
        readings = h.readings;
        points = h.points;
        read = h.read;
        put = points_put g h.points ++ some.first;
        all = inr (read.at_end, (refl, (some.others, append_assoc (points_put g h.points) some.first some.others ∙ ap (λ (l : List Point). points_put g h.points ++ l) split)));
        makes = makes_append (points_put g h.points) some.first old mid.pass new.pass (lines_make moments start passes (lines taken) begun_at (timed told' mid) h)
            (makes_each start passes some.first mid.pass new.pass some.emits);
      }

  begun_idle : (mid new : SessionValue) → Begun moments rules taken left old mid.pass → Idles start passes mid new → Begun moments rules taken left old new.pass
  begun_idle mid new begun idles = record {
    handled = begun.handled;
    are = begun.are;
    readings = begun.readings;
    points = begun.points;
    read = begun.read;
    put = begun.put;
    all = begun.all;
    makes = idle_makes start passes begun.put old mid new begun.makes idles;
  }

  full_begun : (mid new : Timed) (front : HandlesFront moments start passes taken begun_at mid)
      → (new.session ≡ mid.session) ⊎ LacksRoom (ReadsThen moments mid.told new.told) start passes front.line mid.session new.session
      → Begun moments rules taken left old new.session.pass
  full_begun mid new front (inl same) = subst (λ (session : SessionValue). Begun moments rules taken left old session.pass) (sym same) (front_begun mid front)
  full_begun mid new front (inr lacks) = line_begun mid new.told new.session front lacks.brings

  short_begun : (mid new : Timed) (front : HandlesFront moments start passes taken begun_at mid)
      → LacksMemory (ReadsThen moments mid.told new.told) start passes front.line mid.session new.session → Begun moments rules taken left old new.session.pass
  short_begun mid new front lacks = begun_idle lacks.mid new.session (by lacks.begun) lacks.idles
    where
      by : (HasPoint (ReadsThen moments mid.told new.told) front.line × (lacks.mid ≡ mid.session))
          ⊎ BringsFront (ReadsThen moments mid.told new.told) start passes front.line mid.session lacks.mid → Begun moments rules taken left old lacks.mid.pass
      by (inl none) = subst (λ (session : SessionValue). Begun moments rules taken left old session.pass) (sym none.1) (front_begun mid front)
      by (inr brings) = line_begun mid new.told lacks.mid front brings

  spent_handled : (new : PassValue) → Begun moments rules taken left old new → Handled moments rules cause.Spent taken left old new
  spent_handled new begun = record {
    handled = begun.handled;
    are = begun.are;
    readings = begun.readings;
    points = begun.points;
    read = begun.read;
    put = begun.put;
    all = begun.all;
    makes = begun.makes;
  }

  short_handled : (new : PassValue) → Begun moments rules taken left old new → Handled moments rules cause.NoMemory taken left old new
  short_handled new begun = record {
    handled = begun.handled;
    are = inr begun.are;
    readings = begun.readings;
    points = begun.points;
    read = begun.read;
    put = begun.put;
    all = begun.all;
    makes = begun.makes;
  }

  ends_handled : (new : Timed) (reason : LineCause) → EndsAs moments start passes reason taken left begun_at new → Handled moments rules reason taken left old new.session.pass
  ends_handled new cause.Closed ends =
      let h = ends.read.handles in
      let mid : SessionValue = ends.mid in
      let put : List Point = points_put (none_gathered rules) h.points in record {
        handled = lines taken;
        are = refl;
        readings = h.readings;
        points = h.points;
        read = h.read;
        put = points_of_link rules h.points;
        all = (ends.read.at_end, refl);
        makes = subst (λ (a : AggregatorValue). Makes (put ++ emitted_at_end a) old new.session.pass) h.gathered
            (makes_append put (emitted_at_end mid.gathered) old mid.pass new.session.pass (lines_make moments start passes (lines taken) begun_at (timed new.told mid) h)
            (makes_each start passes (emitted_at_end mid.gathered) mid.pass new.session.pass ends.emits));
      }
  ends_handled new cause.ReadFault ends =
      let h = ends.0 in record {
        handled = lines taken;
        are = refl;
        readings = h.readings;
        points = h.points;
        read = h.read;
        put = points_put (none_gathered rules) h.points;
        all = refl;
        makes = lines_make moments start passes (lines taken) begun_at new h;
      }
  ends_handled new cause.LinkLimit ends =
      let h = ends.0 in record {
        handled = lines taken;
        are = refl;
        readings = h.readings;
        points = h.points;
        read = h.read;
        put = points_put (none_gathered rules) h.points;
        all = refl;
        makes = lines_make moments start passes (lines taken) begun_at new h;
      }
  ends_handled new cause.Spent (inl none, spent) =
      spent_handled new.session.pass (none_begun new.session.pass (ap (λ (at : Timed). at.session.pass) none.same))
  ends_handled new cause.Spent (inr (inl full), spent) = spent_handled new.session.pass (full_begun full.mid new full.handles full.lacks)
  ends_handled new cause.Spent (inr (inr late), spent) = spent_handled new.session.pass (open_begun new.told late.mid new.session late.read late.emits)
  ends_handled new cause.NoMemory (inl whole) =
      let h = whole.1.1 in record {
        handled = lines whole.0;
        are = inl (whole.0, (whole.1.0, refl));
        readings = h.readings;
        points = h.points;
        read = h.read;
        put = points_put (none_gathered rules) h.points;
        all = inl ([], append-nil (points_put (none_gathered rules) h.points));
        makes = lines_make moments start passes (lines whole.0) begun_at new h;
      }
  ends_handled new cause.NoMemory (inr (inl short)) = short_handled new.session.pass (short_begun short.mid new short.handles short.lacks)
  ends_handled new cause.NoMemory (inr (inr late)) =
      short_handled new.session.pass (begun_idle late.put new.session (open_begun new.told late.mid late.put late.read late.emits) late.idles)

-- ---- links one after the other

-- the entries of a list of links
record Put {L : Type 0} (links : Telling L) (w : Origin) (number : ℕ) (served : List (LineLink L)) (old new : PassValue) : Type 0 where
  pub entries : List Entry
  pub all : PutsOfAll links w number served entries
  pub once : own_entries new ≡ own_entries old ++ entries

turn_puts : {L : Type 0} (links : Telling L) (w : Origin) (number : ℕ) (served : List (LineLink L)) (a c : Caller) → a.pass.number ≡ number → InTurn (ServesLineLink links w) served a c
    → Put links w number served a.pass c.pass
turn_puts links w number [] a c same turns =
    record { entries = []; all = refl; once = ap (λ (at : Caller). own_entries at.pass) turns ∙ sym (append-nil (own_entries a.pass)) }
turn_puts links w number (link ∷ served) a c same turns =
    let mid : Caller = turns.0 in
    let ends = turns.1.0.ends in
    let one : Handled w.moments links.rules link.cause ends.taken (links.left link.after) a.pass mid.pass =
    ends_handled w.moments w.start w.passes links.rules ends.taken (links.left link.after) a.told a.pass
    (timed mid.told (record { pass = mid.pass; counts = link.counts; gathered = ends.gathered })) link.cause ends.ends in
    let works : Works w.moments w.start a.pass mid.pass =
    link_works w.moments w.start w.passes links.rules link.cause (links.left link.before) (links.left link.after) a.told mid.told a.pass mid.pass link.counts ends in
    let rest : Put links w number served mid.pass c.pass = turn_puts links w number served mid c (works.number ∙ same) turns.1.1 in
    let entries : List Entry = one.makes.entries in
    let puts : PutsOf links w number link entries = record {
      taken = ends.taken;
      consumed = ends.consumed;
      handled = one.handled;
      are = one.are;
      readings = one.readings;
      points = one.points;
      read = one.read;
      put = one.put;
      all = one.all;
      made = subst (λ (n : ℕ). ArePuts n one.put entries) same one.makes.made;
    } in record {
      entries = entries ++ rest.entries;
      all = (entries, rest.entries, (puts, (rest.all, refl)));
      once = rest.once ∙ (ap (λ (es : List Entry). es ++ rest.entries) one.makes.once ∙ append_assoc (own_entries a.pass) entries rest.entries);
    }

-- a pass that had made nothing
pub all_puts : {L : Type 0} (links : Telling L) (w : Origin) (number : ℕ) (served : List (LineLink L)) (a c : Caller) (own : List Entry) → a.pass.number ≡ number → own_entries a.pass ≡ [] → own_entries c.pass ≡ own
    → InTurn (ServesLineLink links w) served a c → PutsOfAll links w number served own
all_puts links w number served a c own same none is turns =
    let put : Put links w number served a.pass c.pass = turn_puts links w number served a c same turns in
    subst (λ (es : List Entry). PutsOfAll links w number served es) (sym (put.once ∙ ap (λ (es : List Entry). es ++ put.entries) none) ∙ is) put.all
