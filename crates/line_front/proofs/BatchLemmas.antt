-- The lines of a batch, from its points to what became of each.
use Rattle.std.proofs.Common.{◌≡◌, ◌<◌, inl, inr, ℕ, suc, Bool, true, List, [], ◌∷◌, ◌++◌, length, Some, Result, Ok, Err, refl, sym, ap, ◌∙◌, subst, arith, length-append, append_assoc, append-nil}
use mathlib.Core.List.{IsPrefix}
use Rattle.std.specs.Prelude.{IfErr, IfOk, IsOk}
use Rattle.line_frame.specs.Lines.{Framing, Line, Whole, TooLong}
use Rattle.line_frame.specs.Calls.{HandsNext}
use Rattle.line_frame.specs.declared.framer.Framed.TheVariants as framed
use Rattle.line_service.specs.declared.ends.Stop.{Stop}
use Rattle.carbon_model.specs.State.{State}
use Rattle.metric_line.specs.declared.datum.Datum.{Datum}
use Rattle.metric_line.specs.declared.fault.LineFault.{LineFault}
use Rattle.metric_line.specs.LineDatum.{datum_of}
use Rattle.metric_line.specs.Point.{Point}
use Rattle.metric_line.specs.Seen.{seen}
use Rattle.shared_history.proofs.ListLemmas.{prefix_self}
use Rattle.line_front.specs.Batches.{AddsPoint, AreRead, BatchServes, BatchStops, EndsBatch, EndsRefused, IsReadAs, IsRefusedAs, LeavesFewer, LeavesWaiting, Reading, ReadsFirst, ReadsNext, ReadsPoint, ReadsPoints, StaysSpent, reading}
use Rattle.line_front.specs.Bringing.{BringsAll, BringsFewer, BringsOne}
use Rattle.line_front.specs.Links.{HandlesAll, HandlesRead, HandlesThen, IsPointOf, IsSpent, ReadsOnce, ReadsThen, SessionValue, Timed, timed}
use Rattle.line_front.specs.Sessions.{LinkValue, StopsBy, StopsThen, Watched, timed_of}
use Rattle.line_front.specs.declared.batch.NoPoint.{NoPoint}
use Rattle.line_front.specs.declared.batch.NoPoint.TheVariants as none
use Rattle.line_front.proofs.BringLemmas.{point_stops}
use Rattle.line_front.proofs.LinkLemmas.{all_append}

-- what was told stands in front of what was told later
ahead_more : (first second third : List ℕ) → IsPrefix first second → IsPrefix second third → IsPrefix first third
ahead_more first second third a b =
    (a.0 ++ b.0, sym (append_assoc first a.0 b.0) ∙ (ap (λ (l : List ℕ). l ++ b.0) a.1 ∙ b.1))

module _ (moments : ℕ → Type 0) where
  -- ---- reading

  -- one line more is read
  pub read_more : (told mid told' : List ℕ) (handed : List Line) (points : List Datum) (line : Line) (datum : Datum) → AreRead moments told handed points mid
      → IsReadAs (ReadsOnce moments mid told') line datum → AreRead moments told (handed ++ line ∷ []) (points ++ datum ∷ []) told'
  read_more told mid told' [] [] line datum read one = (told', (subst (λ (t : List ℕ). IsReadAs (ReadsOnce moments t told') line datum) read one, refl))
  read_more told mid told' [] (first ∷ points) line datum read one = absurd read
  read_more told mid told' (first ∷ handed) [] line datum read one = absurd read
  read_more told mid told' (first ∷ handed) (point ∷ points) line datum read one =
      (read.0, (read.1.0, read_more read.0 mid told' handed points line datum read.1.1 one))

  pub read_length : (told told' : List ℕ) (handed : List Line) (points : List Datum) → AreRead moments told handed points told' → length handed ≡ length points
  read_length told told' [] [] read = refl
  read_length told told' [] (datum ∷ points) read = absurd read
  read_length told told' (line ∷ handed) [] read = absurd read
  read_length told told' (line ∷ handed) (datum ∷ points) read = ap suc (read_length read.0 told' handed points read.1.1)

  -- what was told before stands in front
  once_ahead : (told told' : List ℕ) (line : Line) (datum : Datum) → IsReadAs (ReadsOnce moments told told') line datum → IsPrefix told told'
  once_ahead told told' (Whole line) datum read = (read.0 ∷ [], sym read.1.0.1)
  once_ahead told told' TooLong datum read = absurd read

  read_ahead : (told told' : List ℕ) (handed : List Line) (points : List Datum) → AreRead moments told handed points told' → IsPrefix told told'
  read_ahead told told' [] [] read = subst (λ (t : List ℕ). IsPrefix told t) (sym read) (prefix_self told)
  read_ahead told told' [] (datum ∷ points) read = absurd read
  read_ahead told told' (line ∷ handed) [] read = absurd read
  read_ahead told told' (line ∷ handed) (datum ∷ points) read =
      ahead_more told read.0 told' (once_ahead told read.0 line datum read.1.0) (read_ahead read.0 told' handed points read.1.1)

  leaves_ahead : {T : Type 0} (result : Result T NoPoint) (told told' : List ℕ) (points : List Datum) (waiting others : List Line)
      → LeavesWaiting moments told result points waiting others told' → IsPrefix told told'
  leaves_ahead (Ok u) told told' points waiting others leaves = subst (λ (t : List ℕ). IsPrefix told t) (sym leaves.0) (prefix_self told)
  leaves_ahead (Err none.NoLine) told told' points waiting others leaves = subst (λ (t : List ℕ). IsPrefix told t) (sym leaves.0) (prefix_self told)
  leaves_ahead (Err (none.Refused fault)) told told' points waiting others leaves = (leaves.1.0.now ∷ [], sym leaves.1.0.told.1)
  leaves_ahead (Err none.Long) told told' points waiting others leaves = subst (λ (t : List ℕ). IsPrefix told t) (sym leaves.0) (prefix_self told)

  -- a point is put behind the others, or there is no memory for it
  pub read_added : {T : Type 0} (result : Result T NoPoint) (line : List ℕ) (now : ℕ) (datum : Datum) (old new : List Datum) → moments now
      → datum_of line now ≡ Ok (seen datum) → AddsPoint datum result old new → ReadsPoint moments line result old new
  read_added (Ok u) line now datum old new told read adds = (datum, ((now, (told, read)), adds))
  read_added {T} (Err reason) line now datum old new told read adds =
      subst (λ (r : NoPoint). ReadsPoint {T = T} moments line (Err r) old new) (sym adds.0) (
        record {
          now = now;
          told = told;
          reason = λ other. absurd (other refl);
          memory = λ none. subst (λ (r : Result Point LineFault). IsOk r) (sym read) refl;
        },
        adds.1,
      )

  -- the line that a framer handed out is read
  pub read_handed : {T : Type 0} (result : Result T NoPoint) (line : List ℕ) (told told' : List ℕ) (f f1 : Framing) (old new : List Datum) → HandsNext (Some framed.Line) f f1 → f1.current ≡ line ∷ []
      → ReadsPoint (ReadsOnce moments told told') line result old new → ReadsNext moments result (reading told f) (reading told' f1) old new
  read_handed result line told told' f f1 old new hands current reads = by result reads
    where
      waits : f.waiting ≡ Whole line ∷ f1.waiting
      waits =
          let same : hands.0 ≡ line = cc (sym hands.2 ∙ current) in
          hands.1 ∙ ap (λ (b : List ℕ). Whole b ∷ f1.waiting) same

      by : {T : Type 0} (result : Result T NoPoint) → ReadsPoint (ReadsOnce moments told told') line result old new → ReadsNext moments result (reading told f) (reading told' f1) old new
      by (Ok u) reads = (Whole line, reads.0, (reads.1.0, (waits, reads.1.1)))
      by (Err none.NoLine) reads = absurd reads
      by (Err (none.Refused fault)) reads = ((line, (reads.0, waits)), reads.1)
      by (Err none.Long) reads = absurd reads

  -- ---- a batch that is read

  pub reads_none : (told : List ℕ) (framing : Framing) (points : List Datum) → points ≡ [] → ReadsFirst moments (reading told framing) (reading told framing) points
  reads_none told framing points none =
      record { handed = []; read = subst (λ (l : List Datum). AreRead moments told [] l told) (sym none) refl; split = refl; open_line = refl }

  module _ {T : Type 0} (r r1 r2 : Reading) (points points' : List Datum) (first : ReadsFirst moments r r1 points) where
    pub reads_more : (u : T) → ReadsNext moments (Ok u) r1 r2 points points' → r2.framing.open_line ≡ r1.framing.open_line → ReadsFirst moments r r2 points'
    reads_more u next same = record {
      handed = first.handed ++ next.0 ∷ [];
      read = subst (λ (l : List Datum). AreRead moments r.told (first.handed ++ next.0 ∷ []) l r2.told) (sym next.2.1.1)
          (read_more r.told r1.told r2.told first.handed points next.0 next.1 first.read next.2.0);
      split = first.split ∙ (ap (λ (l : List Line). first.handed ++ l) next.2.1.0 ∙ sym (append_assoc first.handed (next.0 ∷ []) r2.framing.waiting));
      open_line = same ∙ first.open_line;
    }

    pub reads_end : (reason : NoPoint) → ReadsNext {T = T} moments (Err reason) r1 r2 points points' → r2.framing.open_line ≡ r1.framing.open_line
        → ReadsPoints {T = T} moments (Err reason) r r2 points'
    reads_end reason next same = record {
      handed = first.handed;
      behind = r1.framing.waiting;
      mid = r1.told;
      read = subst (λ (l : List Datum). AreRead moments r.told first.handed l r1.told) (sym next.1) first.read;
      split = first.split;
      leaves = next.0;
      open_line = same ∙ first.open_line;
    }

    pub reads_full : (u : T) → 0 < length points → ReadsPoints moments (Ok u) r r1 points
    reads_full u some = record {
      handed = first.handed;
      behind = r1.framing.waiting;
      mid = r1.told;
      read = first.read;
      split = first.split;
      leaves = (refl, (some, refl));
      open_line = first.open_line;
    }

  -- the line of a point, among the others, and what was told when it was read
  record LineOf (told : List ℕ) (handed : List Line) (first : List Datum) (datum : Datum) (told' : List ℕ) : Type 0 where
    front : List Line
    line : Line
    others : List Line
    split : handed ≡ front ++ line ∷ others
    from : List ℕ
    to : List ℕ
    before : AreRead moments told front first from
    here : IsReadAs (ReadsOnce moments from to) line datum
    ahead : IsPrefix to told'

  line_of : (told told' : List ℕ) (handed : List Line) (first : List Datum) (datum : Datum) (others : List Datum) → AreRead moments told handed (first ++ datum ∷ others) told'
      → LineOf told handed first datum told'
  line_of told told' [] [] datum others read = absurd read
  line_of told told' [] (point ∷ first) datum others read = absurd read
  line_of told told' (line ∷ handed) [] datum others read = record {
    front = [];
    line = line;
    others = handed;
    split = refl;
    from = told;
    to = read.0;
    before = refl;
    here = read.1.0;
    ahead = read_ahead read.0 told' handed others read.1.1;
  }
  line_of told told' (line ∷ handed) (point ∷ first) datum others read =
      let more = line_of read.0 told' handed first datum others read.1.1 in record {
        front = line ∷ more.front;
        line = more.line;
        others = more.others;
        split = ap (λ (l : List Line). line ∷ l) more.split;
        from = more.from;
        to = more.to;
        before = (read.0, (read.1.0, more.before));
        here = more.here;
        ahead = more.ahead;
      }

  point_of : (from to told' : List ℕ) (line : Line) (datum : Datum) → IsReadAs (ReadsOnce moments from to) line datum → IsPrefix to told'
      → IsPointOf (ReadsThen moments from told') line (seen datum)
  point_of from to told' (Whole line) datum read ahead = (read.0, ((read.1.0.0, subst (λ (t : List ℕ). IsPrefix t told') read.1.0.1 ahead), read.1.1))
  point_of from to told' TooLong datum read ahead = absurd read

  -- ---- handling

  module _ (start : State) (passes : ℕ) where
    handles_point : (told told' : List ℕ) (line : Line) (datum : Datum) (old new : SessionValue) → IsReadAs (ReadsOnce moments told told') line datum → BringsOne start passes datum old new
        → HandlesThen moments start passes line (timed told old) (timed told' new)
    handles_point told told' (Whole line) datum old new read one = record {
      handles = record {
        room = one.room;
        handles = (read.0, (read.1.0, subst (λ (r : Result Point LineFault). HandlesRead start passes r old new) (sym read.1.1) one.brings));
      };
      none = tt;
    }
    handles_point told told' TooLong datum old new read one = absurd read

    handles_points : (told told' : List ℕ) (handed : List Line) (points : List Datum) (old new : SessionValue) → AreRead moments told handed points told' → BringsAll start passes points old new
        → HandlesAll moments start passes (timed told old) handed (timed told' new)
    handles_points told told' [] [] old new read brings = λ i. timed (read i) (brings i)
    handles_points told told' [] (datum ∷ points) old new read brings = absurd read
    handles_points told told' (line ∷ handed) [] old new read brings = absurd read
    handles_points told told' (line ∷ handed) (datum ∷ points) old new read brings = (
      timed read.0 brings.0,
      (handles_point told read.0 line datum old brings.0 read.1.0 brings.1.0, handles_points read.0 told' handed points brings.0 new read.1.1 brings.1.1),
    )

    one_more : (handed : List Line) (line : Line) (old mid new : Timed) → HandlesAll moments start passes old handed mid → HandlesThen moments start passes line mid new
        → HandlesAll moments start passes old (handed ++ line ∷ []) new
    one_more handed line old mid new all one = all_append moments start passes handed (line ∷ []) old mid new all (new, (one, refl))

    fewer_lines : (handed others all : List Line) → all ≡ handed ++ others → 0 < length handed → length others < length all
    fewer_lines handed others all split some = omega (arith, ap length split, length-append handed others, some)

    some_lines : (handed : List Line) (line : Line) → 0 < length (handed ++ line ∷ [])
    some_lines handed line = omega (arith, length-append handed (line ∷ []))

    -- a batch whose last line has none
    ends_with : (framing framing' : Framing) (handed behind : List Line) (line : Line) (old mid new : Timed) → framing.waiting ≡ handed ++ behind → behind ≡ line ∷ framing'.waiting
        → framing'.open_line ≡ framing.open_line → HandlesAll moments start passes old handed mid → HandlesThen moments start passes line mid new → (more : Bool) → more ≡ true
        → BatchServes moments start passes more framing old framing' new
    ends_with framing framing' handed behind line old mid new split is same all one more goes_on =
        let whole : framing.waiting ≡ (handed ++ line ∷ []) ++ framing'.waiting =
        split ∙ (ap (λ (l : List Line). handed ++ l) is ∙ sym (append_assoc handed (line ∷ []) framing'.waiting)) in record {
          handed = handed ++ line ∷ [];
          split = whole;
          handles = one_more handed line old mid new all one;
          open_line = same;
          fewer = subst (λ (b : Bool). LeavesFewer b framing.waiting framing'.waiting) (sym goes_on)
              (fewer_lines (handed ++ line ∷ []) framing'.waiting framing.waiting whole (some_lines handed line));
        }

    -- the pass has no room for a line
    stays_spent : {C : Type 0} (line : Line) (told : List ℕ) (reason : Stop) (mid new : LinkValue C) → IsPrefix told mid.watch.told → StaysSpent reason mid new
        → StopsThen moments start passes line reason (timed told mid.session) (timed_of new)
    stays_spent {C} line told reason mid new ahead stays = record {
      ahead = subst (λ (v : LinkValue C). IsPrefix told v.watch.told) (sym stays.1.0) ahead;
      stops = subst (λ (r : Stop). StopsBy (ReadsThen moments told new.watch.told) start passes line r mid.session new.session) (sym stays.0)
          (inl (ap (λ (v : LinkValue C). v.session) stays.1.0), subst (λ (v : LinkValue C). IsSpent v.session.pass) (sym stays.1.0) stays.1.1);
    }

    module _ {C : Type 0} (told : List ℕ) (old : SessionValue) (mid new : LinkValue C) where
      same_end : (from : List ℕ) (handed : List Line) → mid.watch.told ≡ from → new ≡ mid → HandlesAll moments start passes (timed told old) handed (timed from mid.session)
          → HandlesAll moments start passes (timed told old) handed (timed_of new)
      same_end from handed stays same all =
          subst (λ (t : Timed). HandlesAll moments start passes (timed told old) handed t)
          ((λ i. timed (sym stays i) mid.session) ∙ ap (λ (v : LinkValue C). timed_of v) (sym same)) all

      pub batch_serves : {T : Type 0} (framing framing' : Framing) (points : List Datum) (read : Result T NoPoint) (more : Bool)
          → ReadsPoints moments read (reading told framing) (reading mid.watch.told framing') points → BringsAll start passes points old mid.session
          → EndsBatch read (Ok more) mid new → BatchServes moments start passes more framing (timed told old) framing' (timed_of new)
      batch_serves framing framing' points (Ok u) more reads puts ends =
          let whole : framing.waiting ≡ reads.handed ++ framing'.waiting = reads.split ∙ ap (λ (l : List Line). reads.handed ++ l) reads.leaves.1.1 in record {
            handed = reads.handed;
            split = whole;
            handles = same_end reads.mid reads.handed reads.leaves.0 ends.1 (handles_points told reads.mid reads.handed points old mid.session reads.read puts);
            open_line = reads.open_line;
            fewer = subst (λ (b : Bool). LeavesFewer b framing.waiting framing'.waiting) (sym ends.0)
                (fewer_lines reads.handed framing'.waiting framing.waiting whole
                (subst (λ (n : ℕ). 0 < n) (sym (read_length told reads.mid reads.handed points reads.read)) reads.leaves.1.0));
          }
      batch_serves framing framing' points (Err none.NoLine) more reads puts ends = record {
        handed = reads.handed;
        split = reads.split ∙ ap (λ (l : List Line). reads.handed ++ l) (reads.leaves.1.0 ∙ sym reads.leaves.1.1);
        handles = same_end reads.mid reads.handed reads.leaves.0 ends.1 (handles_points told reads.mid reads.handed points old mid.session reads.read puts);
        open_line = reads.open_line;
        fewer = subst (λ (b : Bool). LeavesFewer b framing.waiting framing'.waiting) (sym ends.0) reads.leaves.1.1;
      }
      batch_serves framing framing' points (Err (none.Refused fault)) more reads puts ends =
          let refused : IsRefusedAs (ReadsOnce moments reads.mid mid.watch.told) reads.leaves.0 fault = reads.leaves.1.0 in
          ends_with framing framing' reads.handed reads.behind (Whole reads.leaves.0) (timed told old) (timed reads.mid mid.session) (timed_of new) reads.split reads.leaves.1.1 reads.open_line
          (handles_points told reads.mid reads.handed points old mid.session reads.read puts)
          (record {
            handles = record {
              room = ends.1.0;
              handles = (
                refused.now,
                (
                  (refused.told.0, ap (λ (v : LinkValue C). v.watch.told) ends.1.1.1 ∙ refused.told.1),
                  subst (λ (r : Result Point LineFault). HandlesRead start passes r mid.session new.session) (sym (refused.reason ends.1.1.0))
                      (ends.1.1.0, ap (λ (v : LinkValue C). v.session) ends.1.1.1),
                ),
              );
            };
            none = tt;
          }) more ends.0
      batch_serves framing framing' points (Err none.Long) more reads puts ends =
          ends_with framing framing' reads.handed reads.behind TooLong (timed told old) (timed reads.mid mid.session) (timed_of new) reads.split reads.leaves.1 reads.open_line
          (handles_points told reads.mid reads.handed points old mid.session reads.read puts)
          (record {
            handles = record { room = ends.1.0; handles = ap (λ (v : LinkValue C). v.session) ends.1.1 };
            none = ap (λ (v : LinkValue C). v.watch.told) ends.1.1 ∙ reads.leaves.0;
          }) more ends.0

      refused_stops : (from line : List ℕ) (fault : LineFault) → IsRefusedAs (ReadsOnce moments from mid.watch.told) line fault → (reason : Stop) → EndsRefused fault (Err reason) mid new
          → StopsThen moments start passes (Whole line) reason (timed from mid.session) (timed_of new)
      refused_stops from line fault refused reason (inl stays) = stays_spent (Whole line) from reason mid new (refused.now ∷ [], sym refused.told.1) stays
      refused_stops from line fault refused reason (inr ends) =
          let here : new.watch.told ≡ from ++ refused.now ∷ [] = ap (λ (v : LinkValue C). v.watch.told) ends.1.1 ∙ refused.told.1 in record {
            ahead = (refused.now ∷ [], sym here);
            stops = subst (λ (r : Stop). StopsBy (ReadsThen moments from new.watch.told) start passes (Whole line) r mid.session new.session) (sym ends.1.0) (record {
              mid = mid.session;
              begun = inl ((refused.now, ((refused.told.0, ([], append-nil (from ++ refused.now ∷ []) ∙ sym here)), refused.memory ends.0)), refl);
              idles = inl (ap (λ (v : LinkValue C). v.session) ends.1.1);
            });
          }

      -- there was no memory for the line behind the points, or no room
      pub batch_ends : {T : Type 0} (framing framing' : Framing) (points : List Datum) (read : Result T NoPoint) (reason : Stop)
          → ReadsPoints moments read (reading told framing) (reading mid.watch.told framing') points → BringsAll start passes points old mid.session
          → EndsBatch read (Err reason) mid new → BatchStops moments start passes reason framing.waiting (timed told old) (timed_of new)
      batch_ends framing framing' points (Ok u) reason reads puts ends = absurd ends
      batch_ends framing framing' points (Err none.NoLine) reason reads puts ends = absurd ends
      batch_ends framing framing' points (Err (none.Refused fault)) reason reads puts ends = record {
        handed = reads.handed;
        line = Whole reads.leaves.0;
        others = framing'.waiting;
        split = reads.split ∙ ap (λ (l : List Line). reads.handed ++ l) reads.leaves.1.1;
        mid = timed reads.mid mid.session;
        handles = handles_points told reads.mid reads.handed points old mid.session reads.read puts;
        stops = refused_stops reads.mid reads.leaves.0 fault reads.leaves.1.0 reason ends;
      }
      batch_ends framing framing' points (Err none.Long) reason reads puts ends = record {
        handed = reads.handed;
        line = TooLong;
        others = framing'.waiting;
        split = reads.split ∙ ap (λ (l : List Line). reads.handed ++ l) reads.leaves.1;
        mid = timed reads.mid mid.session;
        handles = handles_points told reads.mid reads.handed points old mid.session reads.read puts;
        stops = stays_spent TooLong reads.mid reason mid new (subst (λ (t : List ℕ). IsPrefix reads.mid t) (sym reads.leaves.0) (prefix_self reads.mid)) ends;
      }

    -- or for one of the points
    pub batch_stops : {T : Type 0} (read : Result T NoPoint) (framing framing' : Framing) (points : List Datum) (reason : Stop) (told told' : List ℕ) (old new : SessionValue)
        → ReadsPoints moments read (reading told framing) (reading told' framing') points → BringsFewer start passes reason points old new
        → BatchStops moments start passes reason framing.waiting (timed told old) (timed told' new)
    batch_stops read framing framing' points reason told told' old new reads fewer =
        let one = line_of told reads.mid reads.handed fewer.first fewer.datum fewer.others (subst (λ (l : List Datum). AreRead moments told reads.handed l reads.mid) fewer.split reads.read) in
        let behind : IsPrefix one.to told' =
        ahead_more one.to reads.mid told' one.ahead (leaves_ahead read reads.mid told' points reads.behind framing'.waiting reads.leaves) in record {
          handed = one.front;
          line = one.line;
          others = one.others ++ reads.behind;
          split = reads.split ∙ (ap (λ (l : List Line). l ++ reads.behind) one.split ∙ append_assoc one.front (one.line ∷ one.others) reads.behind);
          mid = timed one.from fewer.mid;
          handles = handles_points told one.from one.front fewer.first old fewer.mid one.before fewer.brings;
          stops = record {
            ahead = ahead_more one.from one.to told' (once_ahead one.from one.to one.line fewer.datum one.here) behind;
            stops = point_stops (ReadsThen moments one.from told') start passes one.line (seen fewer.datum)
                (point_of one.from one.to told' one.line fewer.datum one.here behind) reason fewer.mid new fewer.stops;
          };
        }

-- ---- by a session of which this is seen

module _ {C T : Type 0} (moments : C → ℕ → Type 0) (start : State) (passes : ℕ) (read : Result T NoPoint) (framing framing' : Framing) (points slice : List Datum) (old ready : LinkValue C) (session : ready.session ≡ old.session) (all : slice ≡ points) (reads : ReadsPoints (moments old.watch.clock) read (reading old.watch.told framing) (reading ready.watch.told framing') points) where
  reads_by : (mid : LinkValue C) → mid.watch ≡ ready.watch → ReadsPoints (moments old.watch.clock) read (reading old.watch.told framing) (reading mid.watch.told framing') slice
  reads_by mid watch = subst (λ (w : Watched C). ReadsPoints (moments old.watch.clock) read (reading old.watch.told framing) (reading w.told framing') slice) (sym watch)
      (subst (λ (l : List Datum). ReadsPoints (moments old.watch.clock) read (reading old.watch.told framing) (reading ready.watch.told framing') l) (sym all) reads)

  pub serves_points : (result : Result Bool Stop) (mid new : LinkValue C) → mid.watch ≡ ready.watch → BringsAll start passes slice ready.session mid.session
      → EndsBatch read result mid new → IfOk result (λ more. BatchServes (moments old.watch.clock) start passes more framing (timed_of old) framing' (timed_of new))
  serves_points (Err reason) mid new watch brings ends = tt
  serves_points (Ok more) mid new watch brings ends =
      batch_serves (moments old.watch.clock) start passes old.watch.told old.session mid new framing framing' slice read more (reads_by mid watch)
      (subst (λ (s : SessionValue). BringsAll start passes slice s mid.session) session brings) ends

  pub ends_points : (result : Result Bool Stop) (mid new : LinkValue C) → mid.watch ≡ ready.watch → BringsAll start passes slice ready.session mid.session
      → EndsBatch read result mid new → IfErr result (λ reason. BatchStops (moments old.watch.clock) start passes reason framing.waiting (timed_of old) (timed_of new))
  ends_points (Ok more) mid new watch brings ends = tt
  ends_points (Err reason) mid new watch brings ends =
      batch_ends (moments old.watch.clock) start passes old.watch.told old.session mid new framing framing' slice read reason (reads_by mid watch)
      (subst (λ (s : SessionValue). BringsAll start passes slice s mid.session) session brings) ends

  pub stops_points : (reason : Stop) (new : LinkValue C) → new.watch ≡ ready.watch → BringsFewer start passes reason slice ready.session new.session
      → BatchStops (moments old.watch.clock) start passes reason framing.waiting (timed_of old) (timed_of new)
  stops_points reason new watch fewer =
      batch_stops (moments old.watch.clock) start passes read framing framing' slice reason old.watch.told new.watch.told old.session new.session (reads_by new watch)
      (subst (λ (s : SessionValue). BringsFewer start passes reason slice s new.session) session fewer)
