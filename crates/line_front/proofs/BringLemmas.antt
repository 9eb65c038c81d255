-- The points of a batch, brought part by part.
use Rattle.std.proofs.Common.{◌≡◌, ◌≤◌, ◌<◌, ◌+◌, inl, inr, ℕ, zero, suc, List, [], ◌∷◌, ◌++◌, length, map, take, drop, get_or, Result, Ok, Err, refl, sym, ap, ◌∙◌, subst, arith, append_assoc, length-append, take_all, take-add, take-append-drop}
use Rattle.std.specs.Prelude.{IfErr, OnOk}
use Rattle.std.proofs.lemmas.List.{length-take-le, map_more, nil_from_length, take_more}
use Rattle.line_frame.specs.Lines.{Line}
use Rattle.line_service.specs.declared.ends.Stop.{Stop}
use Rattle.metric_line.specs.declared.datum.Datum.{Datum}
use Rattle.metric_line.specs.Point.{Point}
use Rattle.metric_line.specs.Seen.{seen}
use Rattle.aggregate_front.specs.Emitting.{AggregatorValue, Feeds}
use Rattle.carbon_model.specs.State.{State}
use Rattle.shared_store.specs.Passes.{HasRoom}
use Rattle.line_front.specs.Batches.{HasNoRules, PutsAll, PutsFewer, PutsOne}
use Rattle.line_front.specs.Bringing.{BringsAll, BringsFewer, BringsPart, FeedsBatch, FeedsFront, FeedsQuiet, FewBehind, PutsBehind, StopsPoint}
use Rattle.line_front.specs.Emits.{PutsFew, StopsBring}
use Rattle.line_front.specs.Links.{Brings, IsPointOf, IsSpent, Puts, SessionValue}
use Rattle.line_front.specs.Points.{PutsEach, emitted_for, gathered_with}
use Rattle.line_front.specs.Sessions.{StopsBy}
use Rattle.line_front.proofs.EmitLemmas.{bring_stops, brings_plain, emitted_is, gathered_is, has_point}

-- ---- lists

-- one of a list, with what is before it and behind it
record Cut {X : Type 0} (xs : List X) (count : ℕ) (x : X) : Type 0 where
  rest : List X
  split : xs ≡ take count xs ++ x ∷ rest

cut_at : {X : Type 0} (xs : List X) (count : ℕ) (x : X) → count < length xs → get_or xs count x ≡ x → Cut xs count x
cut_at [] count x less here = absurd (omega (arith, less))
cut_at {X} (y ∷ ys) zero x less here = record { rest = ys; split = ap (λ (z : X). z ∷ ys) here }
cut_at {X} (y ∷ ys) (suc count) x less here =
    let more = cut_at ys count x (omega (arith, less)) here in record { rest = more.rest; split = ap (λ (l : List X). y ∷ l) more.split }

take_next : {X : Type 0} (xs : List X) (count : ℕ) (x : X) → count < length xs → get_or xs count x ≡ x → take (count + 1) xs ≡ take count xs ++ x ∷ []
take_next {X} xs count x less here = take_more xs count x less ∙ ap (λ (y : X). take count xs ++ y ∷ []) here

-- ---- what the rules are given

quiet_more : (points : List Point) (point : Point) (a m b : AggregatorValue) → FeedsQuiet points a m → emitted_for m point ≡ [] → b ≡ gathered_with m point
    → FeedsQuiet (points ++ point ∷ []) a b
quiet_more [] point a m b same none is = (subst (λ (g : AggregatorValue). emitted_for g point ≡ []) same none, is ∙ ap (λ (g : AggregatorValue). gathered_with g point) same)
quiet_more (first ∷ points) point a m b quiet none is = (quiet.0, quiet_more points point (gathered_with a first) m b quiet.1 none is)

-- where the rules stood behind the first of the points
record QuietTo (points : List Point) (a : AggregatorValue) : Type 0 where
  mid : AggregatorValue
  quiet : FeedsQuiet points a mid

-- fewer of them
quiet_front : (first : List Datum) (last : Datum) (xs : List Datum) (x : Datum) (ys : List Datum) (a m : AggregatorValue) → first ++ last ∷ [] ≡ xs ++ x ∷ ys → FeedsQuiet (map seen first) a m
    → QuietTo (map seen xs) a
quiet_front first last [] x ys a m same quiet = record { mid = a; quiet = refl }
quiet_front [] last (y ∷ xs) x ys a m same quiet = absurd (omega (arith, ap length same, length-append xs (x ∷ ys)))
quiet_front (d ∷ first) last (y ∷ xs) x ys a m same quiet =
    let head : d ≡ y = ap (λ (l : List Datum). get_or l 0 d) same in
    let more = quiet_front first last xs x ys (gathered_with a (seen d)) m (ap (λ (l : List Datum). drop 1 l) same) quiet.1 in record {
      mid = more.mid;
      quiet = subst (λ (e : Datum). FeedsQuiet (map seen (e ∷ xs)) a more.mid) head (quiet.0, more.quiet);
    }

-- the last of points for which they emit nothing
record LastQuiet (points : List Datum) (a b : AggregatorValue) : Type 0 where
  first : List Datum
  last : Datum
  split : points ≡ first ++ last ∷ []
  mid : AggregatorValue
  quiet : FeedsQuiet (map seen first) a mid
  none : emitted_for mid (seen last) ≡ []
  gathered : b ≡ gathered_with mid (seen last)

quiet_last : (points : List Datum) (a b : AggregatorValue) → 0 < length points → FeedsQuiet (map seen points) a b → LastQuiet points a b
quiet_last [] a b some quiet = absurd (omega (arith, some))
quiet_last (datum ∷ []) a b some quiet = record { first = []; last = datum; split = refl; mid = a; quiet = refl; none = quiet.0; gathered = quiet.1 }
quiet_last (datum ∷ next ∷ points) a b some quiet =
    let more = quiet_last (next ∷ points) (gathered_with a (seen datum)) b (omega arith) quiet.1 in record {
      first = datum ∷ more.first;
      last = more.last;
      split = ap (λ (l : List Datum). datum ∷ l) more.split;
      mid = more.mid;
      quiet = (quiet.0, more.quiet);
      none = more.none;
      gathered = more.gathered;
    }

module _ (points : List Datum) (count : ℕ) (a m : AggregatorValue) (quiet : FeedsQuiet (map seen (take count points)) a m) where
  -- one point more, for which they emit nothing
  pub feeds_more : (datum : Datum) (b : AggregatorValue) (emitted : List Datum) → count < length points → get_or points count datum ≡ datum
      → Feeds m b (seen datum) (map seen emitted) → length emitted ≡ 0 → FeedsQuiet (map seen (take (count + 1) points)) a b
  feeds_more datum b emitted less here feeds none =
      subst (λ (l : List Point). FeedsQuiet l a b)
      (sym (map_more seen points count datum less ∙ ap (λ (d : Datum). map seen (take count points) ++ seen d ∷ []) here))
      (quiet_more (map seen (take count points)) (seen datum) a m b quiet
      (sym (emitted_is m b (seen datum) (map seen emitted) feeds) ∙ ap (λ (l : List Datum). map seen l) (nil_from_length emitted none))
      (gathered_is m b (seen datum) (map seen emitted) feeds))

  -- or for which they emit some
  pub feeds_next : (datum : Datum) (b : AggregatorValue) (emitted : List Datum) → m.rules ≡ a.rules → count < length points → get_or points count datum ≡ datum
      → Feeds m b (seen datum) (map seen emitted) → FeedsFront points (count + 1) (map seen emitted) a b
  feeds_next datum b emitted rules less here feeds = record {
    few = omega (arith, less);
    first = take count points;
    last = datum;
    split = take_next points count datum less here;
    mid = m;
    quiet = quiet;
    emits = emitted_is m b (seen datum) (map seen emitted) feeds;
    gathered = gathered_is m b (seen datum) (map seen emitted) feeds;
    rules = feeds.rules ∙ rules;
  }

  -- or no other
  pub feeds_end : (emitted : List Datum) → m.rules ≡ a.rules → count ≤ length points → 0 < count → emitted ≡ [] → FeedsFront points count (map seen emitted) a m
  feeds_end emitted rules few some none =
      let l = quiet_last (take count points) a m (omega (arith, length-take-le count points few, some)) quiet in record {
        few = few;
        first = l.first;
        last = l.last;
        split = l.split;
        mid = l.mid;
        quiet = l.quiet;
        emits = ap (λ (ps : List Datum). map seen ps) none ∙ sym l.none;
        gathered = l.gathered;
        rules = rules;
      }

-- ---- points that are brought

-- a session for which the rules have gathered this
abbrev with_gathered : AggregatorValue → SessionValue → SessionValue
with_gathered g session = record session { gathered = g }

module _ (start : State) (passes : ℕ) where
  pub brings_append : (xs ys : List Datum) (old mid new : SessionValue) → BringsAll start passes xs old mid → BringsAll start passes ys mid new
      → BringsAll start passes (xs ++ ys) old new
  brings_append [] ys old mid new same more = subst (λ (s : SessionValue). BringsAll start passes ys s new) same more
  brings_append (x ∷ xs) ys old mid new brings more = (brings.0, (brings.1.0, brings_append xs ys brings.0 mid new brings.1.1 more))

  pub fewer_append : (xs ys : List Datum) (reason : Stop) (old mid new : SessionValue) → BringsAll start passes xs old mid → BringsFewer start passes reason ys mid new
      → BringsFewer start passes reason (xs ++ ys) old new
  fewer_append xs ys reason old mid new brings fewer = record {
    first = xs ++ fewer.first;
    datum = fewer.datum;
    others = fewer.others;
    split = ap (λ (l : List Datum). xs ++ l) fewer.split ∙ sym (append_assoc xs fewer.first (fewer.datum ∷ fewer.others));
    mid = fewer.mid;
    brings = brings_append xs fewer.first old mid fewer.mid brings fewer.brings;
    stops = fewer.stops;
  }

  -- ---- without rules

  plain_all : (points : List Datum) (old new : SessionValue) → HasNoRules old → PutsAll start passes points old new → BringsAll start passes points old new
  plain_all [] old new plain same = same
  plain_all (datum ∷ points) old new plain puts =
      let one : PutsOne start passes datum old puts.0 = puts.1.0 in (
        puts.0,
        (
          record { room = one.room; brings = brings_plain start passes (seen datum) old puts.0 plain one.puts },
          plain_all points puts.0 new (ap (λ (a : AggregatorValue). a.rules) one.puts.gathered ∙ plain) puts.1.1,
        ),
      )

  module _ {T : Type 0} (result : Result T Stop) (points : List Datum) (old new : SessionValue) (plain : HasNoRules old) where
    pub plain_ok : OnOk result (PutsAll start passes points old new) → OnOk result (BringsAll start passes points old new)
    plain_ok puts = by result puts
      where
        by : (r : Result T Stop) → OnOk r (PutsAll start passes points old new) → OnOk r (BringsAll start passes points old new)
        by (Ok u) puts = plain_all points old new plain puts
        by (Err reason) puts = tt

    plain_fewer : (reason : Stop) → PutsFewer start passes reason points old new → BringsFewer start passes reason points old new
    plain_fewer reason fewer = record {
      first = fewer.first;
      datum = fewer.datum;
      others = fewer.others;
      split = fewer.split;
      mid = fewer.mid;
      brings = plain_all fewer.first old fewer.mid plain fewer.puts;
      stops = inr (inl (fewer.is, inr fewer.sees));
    }

    pub plain_err : IfErr result (λ reason. PutsFewer start passes reason points old new) → IfErr result (λ reason. BringsFewer start passes reason points old new)
    plain_err fewer = by result fewer
      where
        by : (r : Result T Stop) → IfErr r (λ reason. PutsFewer start passes reason points old new) → IfErr r (λ reason. BringsFewer start passes reason points old new)
        by (Ok u) fewer = tt
        by (Err reason) fewer = plain_fewer reason fewer

  -- ---- the first of some points

  pub at_first : (points : List Datum) (reason : Stop) (old new : SessionValue) → 0 < length points → ((point : Point) → StopsPoint start passes point reason old new)
      → BringsFewer start passes reason points old new
  at_first [] reason old new some stops = absurd (omega (arith, some))
  at_first (datum ∷ others) reason old new some stops =
      record { first = []; datum = datum; others = others; split = refl; mid = old; brings = refl; stops = stops (seen datum) }

  module _ (points : List Datum) (datum : Datum) (some : 0 < length points) (here : get_or points 0 datum ≡ datum) (old new : SessionValue) where
    first_is : Cut points 0 datum
    first_is = cut_at points 0 datum some here

    pub first_brings : HasRoom old.pass → Brings start passes (seen datum) old new → BringsPart start passes points 1 old new
    first_brings room brings = record {
      some = omega arith;
      few = omega (arith, some);
      brings = subst (λ (l : List Datum). BringsAll start passes (take 1 l) old new) (sym first_is.split) (new, (record { room = room; brings = brings }, refl));
    }

    -- or not
    pub first_fewer : (reason : Stop) → StopsBring start passes (seen datum) reason old new → BringsFewer start passes reason points old new
    first_fewer reason stops = record {
      first = [];
      datum = datum;
      others = first_is.rest;
      split = first_is.split;
      mid = old;
      brings = refl;
      stops = by stops;
    }
      where
        by : StopsBring start passes (seen datum) reason old new → StopsPoint start passes (seen datum) reason old new
        by (inl none) = inr (inl (none.0, inr none.1))
        by (inr few) = inr (inr few)

  -- ---- the points for which the rules emit nothing

  quiet_all : (points : List Datum) (a b : AggregatorValue) (old new : SessionValue) → FeedsQuiet (map seen points) a b → PutsAll start passes points old new
      → BringsAll start passes points (with_gathered a old) (with_gathered b new)
  quiet_all [] a b old new quiet same = λ i. with_gathered (quiet i) (same i)
  quiet_all (datum ∷ points) a b old new quiet puts =
      let mid : SessionValue = puts.0 in
      let one : PutsOne start passes datum old mid = puts.1.0 in (
        with_gathered (gathered_with a (seen datum)) mid,
        (
          record {
            room = one.room;
            brings = record {
              put = with_gathered a mid;
              puts = record { end = one.puts.end; enters = one.puts.enters; counts = one.puts.counts; gathered = refl };
              emits = subst (λ (emitted : List Point). PutsEach start passes emitted mid.pass mid.pass) (sym quiet.0) refl;
              counts = refl;
              gathered = refl;
            };
          },
          quiet_all points (gathered_with a (seen datum)) b mid new quiet.1 puts.1.1,
        ),
      )

  -- what was gathered is as it was
  pub puts_gathered : (points : List Datum) (old new : SessionValue) → PutsAll start passes points old new → new.gathered ≡ old.gathered
  puts_gathered [] old new same = ap (λ (s : SessionValue). s.gathered) same
  puts_gathered (datum ∷ points) old new puts = puts_gathered points puts.0 new puts.1.1 ∙ puts.1.0.puts.gathered

  -- ---- a part of a batch

  -- points that were put, and others behind them
  record PutsParts (xs ys : List Datum) (old new : SessionValue) : Type 0 where
    mid : SessionValue
    first : PutsAll start passes xs old mid
    behind : PutsAll start passes ys mid new

  puts_parts : (xs ys : List Datum) (old new : SessionValue) → PutsAll start passes (xs ++ ys) old new → PutsParts xs ys old new
  puts_parts [] ys old new puts = record { mid = old; first = refl; behind = puts }
  puts_parts (x ∷ xs) ys old new puts =
      let more = puts_parts xs ys puts.0 new puts.1.1 in record { mid = more.mid; first = (puts.0, (puts.1.0, more.first)); behind = more.behind }

  module _ (points : List Datum) (count : ℕ) (emitted : List Datum) (old fed : SessionValue) (f : FeedsBatch points count emitted old fed) where
    -- the session as it was, by what it is then
    was : with_gathered old.gathered fed ≡ old
    was = λ i. record { pass = f.pass i; counts = f.counts i; gathered = old.gathered }

    few_points : length (take count points) ≡ count
    few_points = length-take-le count points f.feeds.few

    -- one of them was not put
    pub part_fewer : (reason : Stop) (new : SessionValue) → PutsFewer start passes reason (take count points) fed new → BringsFewer start passes reason points old new
    part_fewer reason new fewer =
        let to = quiet_front f.feeds.first f.feeds.last fewer.first fewer.datum fewer.others old.gathered f.feeds.mid (sym f.feeds.split ∙ fewer.split) f.feeds.quiet in
        let all : points ≡ fewer.first ++ fewer.datum ∷ (fewer.others ++ drop count points) =
        sym (take-append-drop count points) ∙ (ap (λ (l : List Datum). l ++ drop count points) fewer.split ∙ append_assoc fewer.first (fewer.datum ∷ fewer.others) (drop count points)) in record {
          first = fewer.first;
          datum = fewer.datum;
          others = fewer.others ++ drop count points;
          split = all;
          mid = with_gathered to.mid fewer.mid;
          brings = subst (λ (s : SessionValue). BringsAll start passes fewer.first s (with_gathered to.mid fewer.mid)) was
              (quiet_all fewer.first old.gathered to.mid fed fewer.mid to.quiet fewer.puts);
          stops = inr (inl (fewer.is, inr (record { enters = fewer.sees.enters; counts = fewer.sees.counts })));
        }

    module _ (put : SessionValue) (puts : PutsAll start passes (take count points) fed put) where
      parts : PutsParts f.feeds.first (f.feeds.last ∷ []) fed put
      parts = puts_parts f.feeds.first (f.feeds.last ∷ []) fed put (subst (λ (l : List Datum). PutsAll start passes l fed put) f.feeds.split puts)

      -- those for which they emit nothing were put
      quiet_part : BringsAll start passes f.feeds.first old (with_gathered f.feeds.mid parts.mid)
      quiet_part = subst (λ (s : SessionValue). BringsAll start passes f.feeds.first s (with_gathered f.feeds.mid parts.mid)) was
          (quiet_all f.feeds.first old.gathered f.feeds.mid fed parts.mid f.feeds.quiet parts.first)

      -- and the last
      last_one : PutsOne start passes f.feeds.last parts.mid put
      last_one = subst (λ (s : SessionValue). PutsOne start passes f.feeds.last parts.mid s) (sym parts.behind.1.1) parts.behind.1.0

      last_put : Puts start passes (seen f.feeds.last) (with_gathered f.feeds.mid parts.mid) (with_gathered f.feeds.mid put)
      last_put = record { end = last_one.puts.end; enters = last_one.puts.enters; counts = last_one.puts.counts; gathered = refl }

      -- but not all that they emit for it
      pub part_few : (reason : Stop) (new : SessionValue) → FewBehind start passes (map seen emitted) reason put new → BringsFewer start passes reason points old new
      part_few reason new behind = record {
        first = f.feeds.first;
        datum = f.feeds.last;
        others = drop count points;
        split = sym (take-append-drop count points)
            ∙ (ap (λ (l : List Datum). l ++ drop count points) f.feeds.split ∙ append_assoc f.feeds.first (f.feeds.last ∷ []) (drop count points));
        mid = with_gathered f.feeds.mid parts.mid;
        brings = quiet_part;
        stops = inr (inr (record {
          put = with_gathered f.feeds.mid put;
          puts = last_put;
          gathers = record {
            few = subst (λ (l : List Point). PutsFew start passes l reason put.pass new.pass) f.feeds.emits behind.few;
            counts = behind.counts;
          };
        }));
      }

      many_points : 0 < count
      many_points = omega (arith, few_points, ap length f.feeds.split, length-append f.feeds.first (f.feeds.last ∷ []))

      -- or all
      pub part_brings : (new : SessionValue) → PutsBehind start passes (map seen emitted) put new → BringsPart start passes points count old new
      part_brings new behind = record {
        some = many_points;
        few = f.feeds.few;
        brings = subst (λ (l : List Datum). BringsAll start passes l old new) (sym f.feeds.split)
            (brings_append f.feeds.first (f.feeds.last ∷ []) old (with_gathered f.feeds.mid parts.mid) new quiet_part (
              new,
              (
                record {
                  room = last_one.room;
                  brings = record {
                    put = with_gathered f.feeds.mid put;
                    puts = last_put;
                    emits = subst (λ (l : List Point). PutsEach start passes l put.pass new.pass) f.feeds.emits behind.puts;
                    counts = behind.counts;
                    gathered = behind.gathered ∙ (puts_gathered (take count points) fed put puts ∙ f.feeds.gathered);
                  };
                },
                refl,
              ),
            ));
      }

  -- points that rules emit
  module _ {T : Type 0} (result : Result T Stop) (points : List Point) (old new : SessionValue) (counts : new.counts ≡ old.counts) where
    pub behind_ok : new.gathered ≡ old.gathered → OnOk result (PutsEach start passes points old.pass new.pass) → OnOk result (PutsBehind start passes points old new)
    behind_ok gathered puts = by result puts
      where
        by : (r : Result T Stop) → OnOk r (PutsEach start passes points old.pass new.pass) → OnOk r (PutsBehind start passes points old new)
        by (Ok u) puts = record { puts = puts; counts = counts; gathered = gathered }
        by (Err reason) puts = tt

    pub behind_err : IfErr result (λ reason. PutsFew start passes points reason old.pass new.pass) → IfErr result (λ reason. FewBehind start passes points reason old new)
    behind_err few = by result few
      where
        by : (r : Result T Stop) → IfErr r (λ reason. PutsFew start passes points reason old.pass new.pass) → IfErr r (λ reason. FewBehind start passes points reason old new)
        by (Ok u) few = tt
        by (Err reason) few = record { few = few; counts = counts }

  -- ---- part by part

  module _ (points : List Datum) (at : ℕ) (old mid : SessionValue) (brought : BringsAll start passes (take at points) old mid) where
    pub parts_more : (count : ℕ) (new : SessionValue) → BringsPart start passes (drop at points) count mid new → BringsAll start passes (take (at + count) points) old new
    parts_more count new part =
        subst (λ (l : List Datum). BringsAll start passes l old new) (sym (take-add at count points))
        (brings_append (take at points) (take count (drop at points)) old mid new brought part.brings)

    pub parts_fewer : (reason : Stop) (new : SessionValue) → BringsFewer start passes reason (drop at points) mid new → BringsFewer start passes reason points old new
    parts_fewer reason new fewer =
        subst (λ (l : List Datum). BringsFewer start passes reason l old new) (take-append-drop at points)
        (fewer_append (take at points) (drop at points) reason old mid new brought fewer)

    pub parts_all : length points ≤ at → BringsAll start passes points old mid
    parts_all all = subst (λ (l : List Datum). BringsAll start passes l old mid) (take_all at points all) brought

-- ---- a point of a line that was not brought

module _ (moments : ℕ → Type 0) (start : State) (passes : ℕ) (line : Line) (point : Point) (is : IsPointOf moments line point) where
  pub point_stops : (reason : Stop) (old new : SessionValue) → StopsPoint start passes point reason old new → StopsBy moments start passes line reason old new
  point_stops reason old new (inl spent) =
      subst (λ (r : Stop). StopsBy moments start passes line r old new) (sym spent.0)
      (inl spent.1.0, subst (λ (s : SessionValue). IsSpent s.pass) (sym spent.1.0) spent.1.1)
  point_stops reason old new (inr (inl short)) = subst (λ (r : Stop). StopsBy moments start passes line r old new) (sym short.0) (record {
    mid = old;
    begun = inl (has_point start passes moments line point is, refl);
    idles = short.1;
  })
  point_stops reason old new (inr (inr few)) = bring_stops start passes moments line point is reason old new (inr few)
