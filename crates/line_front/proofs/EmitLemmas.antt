-- Points that rules emit, and the point that they are emitted for.
use Rattle.std.proofs.Common.{◌≡◌, ◌==◌, true, ◌<◌, ◌≤◌, ◌+◌, inl, inr, ℕ, List, [], ◌∷◌, ◌++◌, length, map, take, drop, get_or, Option, Some, None, Result, Ok, Err, refl, sym, ap, ◌∙◌, subst, arith, append_assoc, length-append, take-add, take-append-drop, take_all}
use Rattle.std.proofs.lemmas.List.{map-append, length-map, nil_from_length}
use Rattle.std.specs.Prelude.{IfErr, IsOk, OnOk, option_map}
use Rattle.std.proofs.lemmas.Bool.Decides.{nat_tests}
use Rattle.line_frame.specs.Lines.{Line, Whole, TooLong}
use Rattle.line_service.specs.declared.ends.Stop.{Stop}
use Rattle.line_service.specs.declared.ends.Stop.TheVariants as stop
use Rattle.metric_line.specs.declared.datum.Datum.{Datum}
use Rattle.metric_line.specs.declared.fault.LineFault.{LineFault}
use Rattle.metric_line.specs.LineDatum.{datum_of}
use Rattle.metric_line.specs.Point.{Point}
use Rattle.metric_line.specs.Seen.{seen}
use Rattle.aggregate_rules.specs.RuleTexts.{RuleValue}
use Rattle.aggregate_front.specs.Emitting.{AggregatorValue, Fed, Feeds, after_point}
use Rattle.aggregate_front.specs.Fitting.{hits_from}
use Rattle.carbon_history.specs.Entries.{listed}
use Rattle.carbon_history.specs.declared.entry.Entry.{Entry}
use Rattle.carbon_history.specs.declared.entry.PutEnd.{PutEnd}
use Rattle.point_cache.specs.declared.put.Put.{Put}
use Rattle.carbon_model.specs.State.{State}
use Rattle.shared_history.specs.Parts.{PassValue}
use Rattle.shared_store.specs.Passes.{Enters, HasRoom}
use Rattle.shared_store.specs.Steps.{put_entry as entry_told}
use Rattle.line_front.specs.Batches.{HasNoRules}
use Rattle.line_front.specs.Emits.{BringsFew, Gathers, GathersFew, PutsFew, PutsPart, StopsBring, StopsPut}
use Rattle.line_front.specs.Ends.{end_of}
use Rattle.line_front.specs.Links.{Brings, BringsFront, HasPoint, Idles, IsPointOf, Puts, ReadsThen, SessionValue}
use Rattle.line_front.specs.Points.{PutsEach, PutsPoint, emitted_for, gathered_with, put_entry}
use Rattle.line_front.specs.Sessions.{LinkValue, StopsBy, StopsLink, with_reading}
use Rattle.line_front.proofs.SessionLemmas.{entries_of, reads_ahead, reads_then, same_clock}

-- ---- without rules

emits_none : (a : AggregatorValue) (point : Point) → a.rules ≡ [] → emitted_for a point ≡ []
unfolding hits_from
emits_none a point none = ap (λ (rules : List RuleValue). (after_point rules a.limits a.outputs point).emitted) none

gathers_same : (a : AggregatorValue) (point : Point) → a.rules ≡ [] → gathered_with a point ≡ a
unfolding hits_from
gathers_same a point none = ap (λ (rules : List RuleValue). record a { outputs = (after_point rules a.limits a.outputs point).outputs }) none

-- ---- what rules emit

pub emitted_is : (a b : AggregatorValue) (point : Point) (emitted : List Point) → Feeds a b point emitted → emitted ≡ emitted_for a point
emitted_is a b point emitted feeds = ap (λ (f : Fed). f.emitted) feeds.fed

pub gathered_is : (a b : AggregatorValue) (point : Point) (emitted : List Point) → Feeds a b point emitted → b ≡ gathered_with a point
gathered_is a b point emitted feeds = λ i. record { rules = feeds.rules i; limits = feeds.limits i; outputs = (feeds.fed i).outputs }

-- there are none
pub none_left : {X : Type 0} (rules' rules : List X) → rules' ≡ rules → (length rules == 0) ≡ true → rules' ≡ []
none_left rules' rules same none = same ∙ nil_from_length rules (grind (arith, nat_tests, none))

module _ (start : State) (passes : ℕ) where
  -- a point that is put is all that is done
  pub brings_plain : (point : Point) (old new : SessionValue) → HasNoRules old → Puts start passes point old new → Brings start passes point old new
  brings_plain point old new plain puts = record {
    put = new;
    puts = puts;
    emits = subst (λ (points : List Point). PutsEach start passes points new.pass new.pass) (sym (emits_none old.gathered point plain)) refl;
    counts = refl;
    gathered = puts.gathered ∙ sym (gathers_same old.gathered point plain);
  }

  pub gathers_none : (point : Point) (session : SessionValue) → HasNoRules session → Gathers start passes point session session
  gathers_none point session plain = record {
    emits = subst (λ (points : List Point). PutsEach start passes points session.pass session.pass) (sym (emits_none session.gathered point plain)) refl;
    counts = refl;
    gathered = sym (gathers_same session.gathered point plain);
  }

  -- ---- one point

  -- a put that ended so was entered
  pub puts_told : (told : Put) (found : Option PutEnd) (end : PutEnd) (point : Point) (old new : PassValue) → HasRoom old → found ≡ end_of told → found ≡ Some end
      → Enters start passes (listed (entry_told old.number point.path point.time point.value told)) old new → PutsPoint start passes point old new
  puts_told told found end point old new room tells is enters = record {
    room = room;
    end = end;
    enters = subst (λ (entries : List Entry). Enters start passes entries old new)
        (entries_of told old.number point.path point.time point.value
        ∙ ap (λ (e : Option PutEnd). listed (option_map (λ (end : PutEnd). put_entry old.number point end) e)) (sym tells ∙ is)) enters;
  }

  -- there was no memory for it
  pub stops_told : (told : Put) (found : Option PutEnd) (point : Point) (old new : PassValue) → found ≡ end_of told → found ≡ None
      → Enters start passes (listed (entry_told old.number point.path point.time point.value told)) old new → StopsPut start passes stop.NoMemory old new
  stops_told told found point old new tells is enters =
      inr (subst (λ (entries : List Entry). Enters start passes entries old new)
      (entries_of told old.number point.path point.time point.value
      ∙ ap (λ (e : Option PutEnd). listed (option_map (λ (end : PutEnd). put_entry old.number point end) e)) (sym tells ∙ is)) enters)

  -- ---- one after the other

  puts_append : (xs ys : List Point) (old mid new : PassValue) → PutsEach start passes xs old mid → PutsEach start passes ys mid new → PutsEach start passes (xs ++ ys) old new
  puts_append [] ys old mid new same more = subst (λ (p : PassValue). PutsEach start passes ys p new) same more
  puts_append (x ∷ xs) ys old mid new puts more = (puts.0, (puts.1.0, puts_append xs ys puts.0 mid new puts.1.1 more))

  module _ (at : ℕ) (points : List Datum) (old mid : PassValue) (puts : PutsEach start passes (map seen (take at points)) old mid) where
    -- more are put
    pub emits_more : (count : ℕ) (new : PassValue) → PutsPart start passes (drop at points) count mid new → PutsEach start passes (map seen (take (at + count) points)) old new
    emits_more count new part =
        subst (λ (all : List Datum). PutsEach start passes (map seen all) old new) (sym (take-add at count points))
        (subst (λ (all : List Point). PutsEach start passes all old new) (sym (map-append seen (take at points) (take count (drop at points))))
        (puts_append (map seen (take at points)) (map seen (take count (drop at points))) old mid new puts part.puts))

    -- or some of them
    pub emits_few : (reason : Stop) (new : PassValue) → PutsFew start passes (map seen (drop at points)) reason mid new → PutsFew start passes (map seen points) reason old new
    emits_few reason new few = record {
      first = map seen (take at points) ++ few.first;
      others = few.others;
      split = ap (map seen) (sym (take-append-drop at points))
          ∙ (map-append seen (take at points) (drop at points)
          ∙ (ap (λ (l : List Point). map seen (take at points) ++ l) few.split ∙ sym (append_assoc (map seen (take at points)) few.first few.others)));
      mid = few.mid;
      emits = puts_append (map seen (take at points)) few.first old mid few.mid puts few.emits;
      some = few.some;
      stops = few.stops;
    }

    -- all are
    pub emits_all : length points ≤ at → PutsEach start passes (map seen points) old mid
    emits_all all = subst (λ (ps : List Datum). PutsEach start passes (map seen ps) old mid) (take_all at points all) puts

  -- ---- some at the front

  none_left_of : (xs ys : List Point) → xs ++ ys ≡ [] → xs ≡ []
  none_left_of xs ys none = nil_from_length xs (omega (arith, ap length none, length-append xs ys))

  -- not all of a piece were put
  pub few_of_part : (count : ℕ) (points : List Datum) (reason : Stop) (old new : PassValue) → PutsFew start passes (map seen (take count points)) reason old new
      → PutsFew start passes (map seen points) reason old new
  few_of_part count points reason old new few = record {
    first = few.first;
    others = few.others ++ map seen (drop count points);
    split = ap (map seen) (sym (take-append-drop count points))
        ∙ (map-append seen (take count points) (drop count points)
        ∙ (ap (λ (l : List Point). l ++ map seen (drop count points)) few.split ∙ append_assoc few.first few.others (map seen (drop count points))));
    mid = few.mid;
    emits = few.emits;
    some = λ spent none. few.some spent (none_left_of few.others (map seen (drop count points)) none);
    stops = few.stops;
  }

  -- the first point was put
  pub first_put : (points : List Datum) (datum : Datum) (old new : PassValue) → 0 < length points → get_or points 0 datum ≡ datum → PutsPoint start passes (seen datum) old new
      → PutsPart start passes points 1 old new
  first_put [] datum old new some here one = absurd (omega (arith, some))
  first_put (d ∷ points) datum old new some here one = record {
    some = omega arith;
    few = omega arith;
    puts = (new, (subst (λ (e : Datum). PutsPoint start passes (seen e) old new) (sym here) one, refl));
  }

  -- or not
  pub first_few : (points : List Datum) (reason : Stop) (old new : PassValue) → 0 < length points → StopsPut start passes reason old new
      → PutsFew start passes (map seen points) reason old new
  first_few points reason old new some stops = record {
    first = [];
    others = map seen points;
    split = refl;
    mid = old;
    emits = refl;
    some = λ spent none. absurd (omega (arith, ap length none, length-map points seen, some));
    stops = stops;
  }

  -- there was no memory for any
  pub few_none : (points : List Point) (pass : PassValue) → PutsFew start passes points stop.NoMemory pass pass
  few_none points pass = record {
    first = [];
    others = points;
    split = refl;
    mid = pass;
    emits = refl;
    some = λ spent none. absurd (cc spent);
    stops = inl refl;
  }

  -- ---- what rules emit for a point

  module _ (point : Point) (old new : SessionValue) (emitted : List Point) (feeds : Feeds old.gathered new.gathered point emitted) (counts : new.counts ≡ old.counts) where
    pub gathers_fed : PutsEach start passes emitted old.pass new.pass → Gathers start passes point old new
    gathers_fed puts = record {
      emits = subst (λ (points : List Point). PutsEach start passes points old.pass new.pass) (emitted_is old.gathered new.gathered point emitted feeds) puts;
      counts = counts;
      gathered = gathered_is old.gathered new.gathered point emitted feeds;
    }

    pub few_fed : (reason : Stop) → PutsFew start passes emitted reason old.pass new.pass → GathersFew start passes point reason old new
    few_fed reason few = record {
      few = subst (λ (points : List Point). PutsFew start passes points reason old.pass new.pass) (emitted_is old.gathered new.gathered point emitted feeds) few;
      counts = counts;
    }

    pub gather_ok : {T : Type 0} (result : Result T Stop) → OnOk result (PutsEach start passes emitted old.pass new.pass) → OnOk result (Gathers start passes point old new)
    gather_ok (Ok u) puts = gathers_fed puts
    gather_ok (Err reason) puts = tt

    pub gather_err : {T : Type 0} (result : Result T Stop) → IfErr result (λ reason. PutsFew start passes emitted reason old.pass new.pass)
        → IfErr result (λ reason. GathersFew start passes point reason old new)
    gather_err (Ok u) few = tt
    gather_err (Err reason) few = few_fed reason few

  -- there was no memory for the rules
  pub few_unfed : (point : Point) (session : SessionValue) → GathersFew start passes point stop.NoMemory session session
  few_unfed point session = record { few = few_none (emitted_for session.gathered point) session.pass; counts = refl }

  -- the same points
  module _ {T : Type 0} (result : Result T Stop) (xs ys : List Point) (old new : PassValue) (same : xs ≡ ys) where
    pub puts_same : OnOk result (PutsEach start passes xs old new) → OnOk result (PutsEach start passes ys old new)
    puts_same puts = subst (λ (points : List Point). OnOk result (PutsEach start passes points old new)) same puts

    pub few_same : IfErr result (λ reason. PutsFew start passes xs reason old new) → IfErr result (λ reason. PutsFew start passes ys reason old new)
    few_same few = subst (λ (points : List Point). IfErr result (λ reason. PutsFew start passes points reason old new)) same few

  -- ---- a point and what is emitted for it

  module _ (point : Point) (old put new : SessionValue) (puts : Puts start passes point old put) where
    brings_all : Gathers start passes point put new → Brings start passes point old new
    brings_all gathers = record {
      put = put;
      puts = puts;
      emits = subst (λ (a : AggregatorValue). PutsEach start passes (emitted_for a point) put.pass new.pass) puts.gathered gathers.emits;
      counts = gathers.counts;
      gathered = gathers.gathered ∙ ap (λ (a : AggregatorValue). gathered_with a point) puts.gathered;
    }

    pub bring_ok : {T : Type 0} (result : Result T Stop) → OnOk result (Gathers start passes point put new) → OnOk result (Brings start passes point old new)
    bring_ok (Ok u) gathers = brings_all gathers
    bring_ok (Err reason) gathers = tt

    pub bring_err : {T : Type 0} (result : Result T Stop) → IfErr result (λ reason. GathersFew start passes point reason put new)
        → IfErr result (λ reason. StopsBring start passes point reason old new)
    bring_err (Ok u) few = tt
    bring_err (Err reason) few = inr (record { put = put; puts = puts; gathers = few })

  -- no memory was left then
  pub idles_few : (old new : SessionValue) → new.counts ≡ old.counts → (mid : PassValue) → StopsPut start passes stop.NoMemory mid new.pass
      → Idles start passes (record { pass = mid; counts = old.counts; gathered = new.gathered }) new
  idles_few old new counts mid (inl same) = inl (λ i. record { pass = same i; counts = counts i; gathered = new.gathered })
  idles_few old new counts mid (inr enters) = inr (record { enters = enters; counts = counts })

  module _ (moments : ℕ → Type 0) (line : Line) (point : Point) (is : IsPointOf moments line point) where
    pub has_point : HasPoint moments line
    has_point = by line is
      where
        by : (l : Line) → IsPointOf moments l point → HasPoint moments l
        by (Whole bytes) read = (read.0, (read.1.0, subst (λ (r : Result Point LineFault). IsOk r) (sym read.1.1) refl))
        by TooLong read = absurd read

    brings_front : (reason : Stop) (old new now : SessionValue) (few : BringsFew start passes point reason old new) → now.pass ≡ few.gathers.few.mid → now.counts ≡ few.put.counts
        → BringsFront moments start passes line old now
    brings_front reason old new now few same counts =
        let f = few.gathers.few in record {
          point = point;
          is = is;
          put = few.put;
          puts = few.puts;
          emits = record {
            first = f.first;
            others = f.others;
            split = ap (λ (a : AggregatorValue). emitted_for a point) (sym few.puts.gathered) ∙ f.split;
            emits = subst (λ (p : PassValue). PutsEach start passes f.first few.put.pass p) (sym same) f.emits;
            counts = counts;
          };
        }

    few_stops : (reason : Stop) (old new : SessionValue) → BringsFew start passes point reason old new → StopsBy moments start passes line reason old new
    unfolding brings_front
    few_stops stop.WriteFault old new few = few.gathers.few.stops
    few_stops (stop.DiskFault class) old new few = few.gathers.few.stops
    few_stops stop.Spent old new few =
        let f = few.gathers.few in
        (inr (record { brings = brings_front stop.Spent old new new few f.stops.0 few.gathers.counts; some = f.some refl }), f.stops.1)
    few_stops stop.NoMemory old new few =
        let f = few.gathers.few in record {
          mid = record { pass = f.mid; counts = few.put.counts; gathered = new.gathered };
          begun = inr (brings_front stop.NoMemory old new (record { pass = f.mid; counts = few.put.counts; gathered = new.gathered }) few refl refl);
          idles = idles_few few.put new few.gathers.counts f.mid f.stops;
        }

    -- a point that was not put, or not all that the rules emit for it
    pub bring_stops : (reason : Stop) (old new : SessionValue) → StopsBring start passes point reason old new → StopsBy moments start passes line reason old new
    bring_stops reason old new (inr few) = few_stops reason old new few
    bring_stops reason old new (inl none) = subst (λ (r : Stop). StopsBy moments start passes line r old new) (sym none.0) (record {
      mid = old;
      begun = inl (has_point, refl);
      idles = inr none.1;
    })

-- ---- a line of a link

module _ {C : Type 0} (moments : C → ℕ → Type 0) (start : State) (passes : ℕ) (old mid : LinkValue C) (line : List ℕ) (now : ℕ) (reads : mid ≡ with_reading old now) (told : moments old.watch.clock now) where
  pub stops_bring : {T : Type 0} (result : Result T Stop) (new : LinkValue C) (point : Point) (before after : Option (List ℕ)) → datum_of line now ≡ Ok point
      → IfErr result (λ reason. StopsBring start passes point reason mid.session new.session) → new.watch ≡ mid.watch
      → IfErr result (λ reason. StopsLink moments start passes old (Whole line) before reason new after)
  stops_bring (Ok u) new point before after read stops watch = tt
  stops_bring (Err reason) new point before after read stops watch = record {
    clock = same_clock moments start passes old mid line now reads told new watch;
    stops = record {
      ahead = reads_ahead moments start passes old mid line now reads told new watch;
      stops = bring_stops start passes (ReadsThen (moments old.watch.clock) old.watch.told new.watch.told) (Whole line) point
          (now, (reads_then moments start passes old mid line now reads told new watch, read)) reason old.session new.session
          (subst (λ (s : SessionValue). StopsBring start passes point reason s new.session) (ap (λ (v : LinkValue C). v.session) reads) stops);
    };
  }
