-- The points of a batch, put one after the other.
use Rattle.std.proofs.Common.{◌≡◌, ◌⊎◌, ◌≤◌, ◌<◌, ◌+◌, ◌-◌, ◌^◌, inl, inr, ℕ, suc, List, [], ◌∷◌, ◌++◌, length, map, take, refl, sym, ap, ◌∙◌, subst, arith, length-append, append_assoc, append-nil}
use Rattle.std.specs.Prelude.{min, slice_index_or}
use Rattle.std.proofs.lemmas.List.{length-take-le}
use Rattle.line_service.specs.declared.ends.Stop.{Stop}
use Rattle.line_service.specs.declared.ends.Stop.TheVariants as stop
use Rattle.carbon_history.specs.declared.entry.Entry.{Entry}
use Rattle.carbon_history.specs.declared.entry.PutEnd.{PutEnd}
use Rattle.carbon_model.specs.State.{State}
use Rattle.metric_line.specs.declared.datum.Datum.{Datum}
use Rattle.metric_line.specs.Point.{Point}
use Rattle.metric_line.specs.Seen.{seen}
use Rattle.shared_history.specs.Parts.{PassValue, own_entries}
use Rattle.shared_history.proofs.ListLemmas.{prefix_self}
use Rattle.shared_store.specs.Passes.{Enters, HasRoom}
use Rattle.shared_store.specs.Pieces.{HasRoomFor, PutsFirst, PutsNone, counts_of, put_by, puts_of}
use Rattle.shared_store.specs.declared.put_counts.PutCounts.{PutCounts}
use Rattle.line_front.specs.Batches.{HasBatchRoom, PutsAll, PutsFewer, PutsOne}
use Rattle.line_front.specs.Counts.{counted, counted_puts}
use Rattle.line_front.specs.Emits.{HasCallRoom, PutsFew}
use Rattle.line_front.specs.Links.{SeesMore, SessionValue}
use Rattle.line_front.specs.Points.{PutsEach}
use Rattle.line_front.specs.Sessions.{LinkValue}
use Rattle.line_front.specs.declared.counts.Counts.{Counts}
use Rattle.line_front.proofs.CountLemmas.{counted_each, puts_each}
use Rattle.line_front.proofs.SplitLemmas.{split_enters}

-- ---- room

-- the pass has room for the entries of a batch
pub has_batch_room : (left : ℕ) (pass : PassValue) → left + length (own_entries pass) ≡ 2 ^ 48 → 260 ≤ left → HasBatchRoom pass
has_batch_room left pass all enough = omega (arith, all, enough)

pub room_for_points : (points : List Datum) (pass : PassValue) → HasBatchRoom pass → length points ≤ 256 → HasRoomFor points pass
room_for_points points pass room few = omega (arith, room, few)

-- as many points as a call may put are within the room of the pass
pub call_room : (left count : ℕ) (pass : PassValue) → left + length (own_entries pass) ≡ 2 ^ 48 → count ≡ min (left - 4) 256 → 0 < count → HasCallRoom count pass
call_room left count pass all is some = omega (arith, all, is, some)

pub room_piece : (points : List Datum) (count most : ℕ) (pass : PassValue) → count ≡ min (length points) most → 16 ≤ count → (0 < most → HasCallRoom most pass)
    → HasRoomFor (take count points) pass
room_piece points count most pass is many room = omega (arith, length-take-le count points (omega (arith, is)), room (omega (arith, is, many)), is)

-- ---- lists

-- what follows the first ones
pub record Next {X : Type 0} (others : List X) (x : X) : Type 0 where
  rest : List X
  is : others ≡ x ∷ rest

pub next_of : {X : Type 0} (first others : List X) (x : X) → 0 < length others → slice_index_or (first ++ others) (length first) x ≡ x → Next others x
next_of [] [] x some here = absurd (omega (arith, some))
next_of {X} [] (y ∷ others) x some here = record { rest = others; is = ap (λ (z : X). z ∷ others) here }
next_of (z ∷ first) others x some here = next_of first others x some here

-- ---- puts

module _ (start : State) (passes : ℕ) where
  own_more : (xs own : List Entry) (entry : Entry) → own ≡ xs ++ entry ∷ [] → length own ≡ length xs + 1
  own_more xs own entry is = ap length is ∙ length-append xs (entry ∷ [])

  sum_of : (own mid new n : ℕ) → mid ≡ own + 1 → new ≡ mid + n → new ≡ own + suc n
  sum_of own mid new n one more = omega (arith, one, more)

  none_of : (own new : ℕ) → new ≡ own → new ≡ own + 0
  none_of own new same = omega (arith, same)

  pub puts_length : (points : List Datum) (old new : SessionValue) → PutsAll start passes points old new
      → length (own_entries new.pass) ≡ length (own_entries old.pass) + length points
  puts_length [] old new same = none_of (length (own_entries old.pass)) (length (own_entries new.pass)) (ap (λ (s : SessionValue). length (own_entries s.pass)) same)
  puts_length (datum ∷ points) old new puts =
      let mid : SessionValue = puts.0 in
      sum_of (length (own_entries old.pass)) (length (own_entries mid.pass)) (length (own_entries new.pass)) (length points)
      (own_more (own_entries old.pass) (own_entries mid.pass) _ puts.1.0.puts.enters.once) (puts_length points mid new puts.1.1)

  room_of : (own own' n all : ℕ) → own' ≡ own + n → n < all → own + (all + 4) ≤ 2 ^ 48 → own' + 4 ≤ 2 ^ 48
  room_of own own' n all is less room = omega (arith, is, less, room)

  -- there is room for the next point
  pub room_next : (points first : List Datum) (old mid : SessionValue) → HasRoomFor points old.pass → PutsAll start passes first old mid → length first < length points → HasRoom mid.pass
  room_next points first old mid room puts less =
      room_of (length (own_entries old.pass)) (length (own_entries mid.pass)) (length first) (length points) (puts_length first old mid puts) less room

  -- ---- one by one

  pub puts_more : (points : List Datum) (datum : Datum) (old mid new : SessionValue) → PutsAll start passes points old mid → PutsOne start passes datum mid new
      → PutsAll start passes (points ++ datum ∷ []) old new
  puts_more [] datum old mid new same one = (new, (subst (λ (s : SessionValue). PutsOne start passes datum s new) same one, refl))
  puts_more (first ∷ points) datum old mid new puts one = (puts.0, (puts.1.0, puts_more points datum puts.0 mid new puts.1.1 one))

  -- so many of the points were put, and these others were not
  pub record PutsSome (count : ℕ) (points : List Datum) (old new : SessionValue) : Type 0 where
    pub first : List Datum
    pub others : List Datum
    pub split : points ≡ first ++ others
    pub many : length first ≡ count
    pub puts : PutsAll start passes first old new

  pub some_none : (points : List Datum) (session : SessionValue) → PutsSome 0 points session session
  some_none points session = record { first = []; others = points; split = refl; many = refl; puts = refl }

  module _ (count : ℕ) (points : List Datum) (old mid : SessionValue) (some : PutsSome count points old mid) (less : count < length points) where
    pub room_some : HasRoomFor points old.pass → HasRoom mid.pass
    room_some room = room_next points some.first old mid room some.puts (subst (λ (n : ℕ). n < length points) (sym some.many) less)

    more_left : 0 < length some.others
    more_left = omega (arith, ap length some.split, length-append some.first some.others, some.many, less)

    next_some : (datum : Datum) → slice_index_or points count datum ≡ datum → Next some.others datum
    next_some datum here =
        next_of some.first some.others datum more_left
        (ap (λ (n : ℕ). slice_index_or (some.first ++ some.others) n datum) some.many ∙ (ap (λ (l : List Datum). slice_index_or l count datum) (sym some.split) ∙ here))

    -- one more is put
    pub some_more : (datum : Datum) (new : SessionValue) → slice_index_or points count datum ≡ datum → PutsOne start passes datum mid new → PutsSome (count + 1) points old new
    some_more datum new here one =
        let next = next_some datum here in record {
          first = some.first ++ datum ∷ [];
          others = next.rest;
          split = some.split ∙ (ap (λ (l : List Datum). some.first ++ l) next.is ∙ sym (append_assoc some.first (datum ∷ []) next.rest));
          many = length-append some.first (datum ∷ []) ∙ ap (λ (n : ℕ). n + 1) some.many;
          puts = puts_more some.first datum old mid new some.puts one;
        }

    -- there is no memory for it
    pub some_fewer : (datum : Datum) (reason : Stop) (new : SessionValue) → slice_index_or points count datum ≡ datum → (reason ≡ stop.NoMemory) × SeesMore start passes mid new
        → PutsFewer start passes reason points old new
    some_fewer datum reason new here none =
        let next = next_some datum here in record {
          first = some.first;
          datum = datum;
          others = next.rest;
          split = some.split ∙ ap (λ (l : List Datum). some.first ++ l) next.is;
          mid = mid;
          puts = some.puts;
          is = none.0;
          sees = none.1;
        }

  -- ---- together

  one_put : (datum : Datum) (ended : PutEnd) (old new : SessionValue) → HasRoom old.pass → Enters start passes (put_by old.pass.number datum ended ∷ []) old.pass new.pass
      → new.counts ≡ counted old.counts ended → new.gathered ≡ old.gathered → PutsOne start passes datum old new
  one_put datum ended old new room enters counts gathered =
      record { room = room; puts = record { end = ended; enters = enters; counts = counts; gathered = gathered } }

  room_now : (own all : ℕ) → own + (suc all + 4) ≤ 2 ^ 48 → own + 4 ≤ 2 ^ 48
  room_now own all room = omega (arith, room)

  room_then : (own own' all : ℕ) → own' ≡ own + 1 → own + (suc all + 4) ≤ 2 ^ 48 → own' + (all + 4) ≤ 2 ^ 48
  room_then own own' all is room = omega (arith, is, room)

  pub puts_some : (points : List Datum) (ended : PutEnd) (ends : List PutEnd) (old new : SessionValue) → HasRoomFor points old.pass
      → length (ended ∷ ends) ≤ length points → Enters start passes (puts_of old.pass.number points (ended ∷ ends)) old.pass new.pass
      → new.counts ≡ counted_each old.counts (ended ∷ ends) → new.gathered ≡ old.gathered → PutsSome (length (ended ∷ ends)) points old new
  puts_some [] ended ends old new room few enters counts gathered = absurd (omega (arith, few))
  puts_some (datum ∷ points) ended [] old new room few enters counts gathered = record {
    first = datum ∷ [];
    others = points;
    split = refl;
    many = refl;
    puts = (new, (one_put datum ended old new (room_now (length (own_entries old.pass)) (length points) room) enters counts gathered, refl));
  }
  puts_some (datum ∷ points) ended (next ∷ ends) old new room few enters counts gathered =
      let entry : Entry = put_by old.pass.number datum ended in
      let parts = split_enters start passes (entry ∷ []) (puts_of old.pass.number points (next ∷ ends)) old.pass new.pass enters in
      let mid : SessionValue = record { pass = parts.mid; counts = counted old.counts ended; gathered = old.gathered } in
      let own : length (own_entries parts.mid) ≡ length (own_entries old.pass) + 1 = own_more (own_entries old.pass) (own_entries parts.mid) entry parts.begins.once in
      let more = puts_some points next ends mid new (room_then (length (own_entries old.pass)) (length (own_entries parts.mid)) (length points) own room) (omega (arith, few))
      (subst (λ (n : ℕ). Enters start passes (puts_of n points (next ∷ ends)) parts.mid new.pass) (sym parts.begins.number) parts.goes_on) counts gathered in
      record {
        first = datum ∷ more.first;
        others = more.others;
        split = ap (λ (l : List Datum). datum ∷ l) more.split;
        many = ap suc more.many;
        puts = (mid, (one_put datum ended old mid (room_now (length (own_entries old.pass)) (length points) room) parts.begins refl refl, more.puts));
      }

  -- all of them are put
  pub all_put : (points : List Datum) (count : ℕ) (old new : SessionValue) → PutsSome count points old new → count ≡ length points → PutsAll start passes points old new
  all_put points count old new some all = by some.others some.split
    where
      by : (others : List Datum) → points ≡ some.first ++ others → PutsAll start passes points old new
      by [] split = subst (λ (l : List Datum). PutsAll start passes l old new) (sym (split ∙ append-nil some.first)) some.puts
      by (datum ∷ others) split = absurd (omega (arith, ap length split, length-append some.first (datum ∷ others), some.many, all))

  -- a pass that entered something may enter nothing more
  enters_none : (entries : List Entry) (old new : PassValue) → Enters start passes entries old new → Enters start passes [] new new
  enters_none entries old new enters = record {
    table = refl;
    number = refl;
    begins = prefix_self new.seen;
    legal = enters.legal;
    made = enters.made;
    once = sym (append-nil (own_entries new));
  }

  -- or fewer
  fewer_put : (points : List Datum) (count : ℕ) (old new : SessionValue) → PutsSome count points old new → Enters start passes [] new.pass new.pass → count < length points
      → PutsFewer start passes stop.NoMemory points old new
  fewer_put points count old new some none less = by some.others some.split
    where
      by : (others : List Datum) → points ≡ some.first ++ others → PutsFewer start passes stop.NoMemory points old new
      by [] split = absurd (omega (arith, ap length split, length-append some.first [], some.many, less))
      by (datum ∷ others) split = record {
        first = some.first;
        datum = datum;
        others = others;
        split = split;
        mid = new;
        puts = some.puts;
        is = refl;
        sees = record { enters = none; counts = refl };
      }

  none_put : (points : List Datum) (old new : SessionValue) → 0 < length points → Enters start passes [] old.pass new.pass → new.counts ≡ old.counts
      → PutsFewer start passes stop.NoMemory points old new
  none_put [] old new some enters counts = absurd (omega (arith, some))
  none_put (datum ∷ others) old new some enters counts = record {
    first = [];
    datum = datum;
    others = others;
    split = refl;
    mid = old;
    puts = refl;
    is = refl;
    sees = record { enters = enters; counts = counts };
  }

  counts_as : (c new : Counts) (counts : PutCounts) (ends : List PutEnd) → new ≡ counted_puts c counts → counts ≡ counts_of ends → new ≡ counted_each c ends
  counts_as c new counts ends is counted = is ∙ (ap (λ (p : PutCounts). counted_puts c p) counted ∙ puts_each c ends)

  module _ (points : List Datum) (counts : PutCounts) (old new : SessionValue) (some : 0 < length points) (room : HasRoomFor points old.pass) (gathered : new.gathered ≡ old.gathered) (is : new.counts ≡ counted_puts old.counts counts) where
    done_of : (ends : List PutEnd) → counts ≡ counts_of ends → length ends ≡ counts.done
    done_of ends counted = sym (ap (λ (p : PutCounts). p.done) counted)

    -- a call of the store put all
    pub puts_whole : length points ≤ counts.done → PutsFirst start passes points counts old.pass new.pass ⊎ PutsNone start passes counts old.pass new.pass → PutsAll start passes points old new
    puts_whole all (inl first) = by first.ends first.few first.enters first.counted
      where
        by : (ends : List PutEnd) → length ends ≤ length points → Enters start passes (puts_of old.pass.number points ends) old.pass new.pass → counts ≡ counts_of ends → PutsAll start passes points old new
        by [] few enters counted = absurd (omega (arith, done_of [] counted, all, some))
        by (ended ∷ ends) few enters counted =
            all_put points (length (ended ∷ ends)) old new (puts_some points ended ends old new room few enters (counts_as old.counts new.counts counts (ended ∷ ends) is counted) gathered)
            (omega (arith, done_of (ended ∷ ends) counted, few, all))
    puts_whole all (inr none) = absurd (omega (arith, done_of [] none.counted, all, some))

    -- or had no memory for one
    pub puts_fewer : counts.done < length points → PutsFirst start passes points counts old.pass new.pass ⊎ PutsNone start passes counts old.pass new.pass
        → PutsFewer start passes stop.NoMemory points old new
    puts_fewer less (inl first) = by first.ends first.few first.enters first.counted
      where
        by : (ends : List PutEnd) → length ends ≤ length points → Enters start passes (puts_of old.pass.number points ends) old.pass new.pass → counts ≡ counts_of ends
            → PutsFewer start passes stop.NoMemory points old new
        by [] few enters counted = none_put points old new some enters (counts_as old.counts new.counts counts [] is counted)
        by (ended ∷ ends) few enters counted =
            fewer_put points (length (ended ∷ ends)) old new (puts_some points ended ends old new room few enters (counts_as old.counts new.counts counts (ended ∷ ends) is counted) gathered)
            (enters_none (puts_of old.pass.number points (ended ∷ ends)) old.pass new.pass enters)
            (subst (λ (n : ℕ). n < length points) (sym (done_of (ended ∷ ends) counted)) less)
    puts_fewer less (inr none) = none_put points old new some none.enters (counts_as old.counts new.counts counts [] is none.counted)

  -- ---- points that rules emit, together

  each_put : (points : List Datum) (ended : PutEnd) (ends : List PutEnd) (old new : PassValue) → HasRoomFor points old → length points ≡ length (ended ∷ ends)
      → Enters start passes (puts_of old.number points (ended ∷ ends)) old new → PutsEach start passes (map seen points) old new
  each_put [] ended ends old new room many enters = absurd (omega (arith, many))
  each_put (datum ∷ []) ended [] old new room many enters = (new, (record { room = room_now (length (own_entries old)) 0 room; end = ended; enters = enters }, refl))
  each_put (datum ∷ other ∷ points) ended [] old new room many enters = absurd (omega (arith, many))
  each_put (datum ∷ points) ended (next ∷ ends) old new room many enters =
      let entry : Entry = put_by old.number datum ended in
      let parts = split_enters start passes (entry ∷ []) (puts_of old.number points (next ∷ ends)) old new enters in
      let own : length (own_entries parts.mid) ≡ length (own_entries old) + 1 = own_more (own_entries old) (own_entries parts.mid) entry parts.begins.once in (
        parts.mid,
        (
          record { room = room_now (length (own_entries old)) (length points) room; end = ended; enters = parts.begins },
          each_put points next ends parts.mid new (room_then (length (own_entries old)) (length (own_entries parts.mid)) (length points) own room) (omega (arith, many))
              (subst (λ (n : ℕ). Enters start passes (puts_of n points (next ∷ ends)) parts.mid new) (sym parts.begins.number) parts.goes_on),
        ),
      )

  each_few : (points : List Datum) (ended : PutEnd) (ends : List PutEnd) (old new : PassValue) → HasRoomFor points old → length (ended ∷ ends) < length points
      → Enters start passes (puts_of old.number points (ended ∷ ends)) old new → PutsFew start passes (map seen points) stop.NoMemory old new
  each_few [] ended ends old new room less enters = absurd (omega (arith, less))
  each_few (datum ∷ points) ended [] old new room less enters = record {
    first = seen datum ∷ [];
    others = map seen points;
    split = refl;
    mid = new;
    emits = (new, (record { room = room_now (length (own_entries old)) (length points) room; end = ended; enters = enters }, refl));
    some = λ spent none. absurd (cc spent);
    stops = inl refl;
  }
  each_few (datum ∷ points) ended (next ∷ ends) old new room less enters =
      let entry : Entry = put_by old.number datum ended in
      let parts = split_enters start passes (entry ∷ []) (puts_of old.number points (next ∷ ends)) old new enters in
      let own : length (own_entries parts.mid) ≡ length (own_entries old) + 1 = own_more (own_entries old) (own_entries parts.mid) entry parts.begins.once in
      let more = each_few points next ends parts.mid new (room_then (length (own_entries old)) (length (own_entries parts.mid)) (length points) own room) (omega (arith, less))
      (subst (λ (n : ℕ). Enters start passes (puts_of n points (next ∷ ends)) parts.mid new) (sym parts.begins.number) parts.goes_on) in
      record {
        first = seen datum ∷ more.first;
        others = more.others;
        split = ap (λ (l : List Point). seen datum ∷ l) more.split;
        mid = more.mid;
        emits = (parts.mid, (record { room = room_now (length (own_entries old)) (length points) room; end = ended; enters = parts.begins }, more.emits));
        some = λ spent none. absurd (cc spent);
        stops = more.stops;
      }

  -- none of them was put
  few_entered : (points : List Point) (old new : PassValue) → Enters start passes [] old new → PutsFew start passes points stop.NoMemory old new
  few_entered points old new enters = record {
    first = [];
    others = points;
    split = refl;
    mid = old;
    emits = refl;
    some = λ spent none. absurd (cc spent);
    stops = inr enters;
  }

  module _ (points : List Datum) (counts : PutCounts) (old new : PassValue) (some : 0 < length points) (room : HasRoomFor points old) where
    many_of : (ends : List PutEnd) → counts ≡ counts_of ends → length ends ≡ counts.done
    many_of ends counted = sym (ap (λ (p : PutCounts). p.done) counted)

    -- a call of the store put all
    pub many_put : length points ≤ counts.done → PutsFirst start passes points counts old new ⊎ PutsNone start passes counts old new → PutsEach start passes (map seen points) old new
    many_put all (inl first) = by first.ends first.few first.enters first.counted
      where
        by : (ends : List PutEnd) → length ends ≤ length points → Enters start passes (puts_of old.number points ends) old new → counts ≡ counts_of ends → PutsEach start passes (map seen points) old new
        by [] few enters counted = absurd (omega (arith, many_of [] counted, all, some))
        by (ended ∷ ends) few enters counted = each_put points ended ends old new room (omega (arith, many_of (ended ∷ ends) counted, few, all)) enters
    many_put all (inr none) = absurd (omega (arith, many_of [] none.counted, all, some))

    -- or had no memory for one
    pub many_few : counts.done < length points → PutsFirst start passes points counts old new ⊎ PutsNone start passes counts old new
        → PutsFew start passes (map seen points) stop.NoMemory old new
    many_few less (inl first) = by first.ends first.enters first.counted
      where
        by : (ends : List PutEnd) → Enters start passes (puts_of old.number points ends) old new → counts ≡ counts_of ends → PutsFew start passes (map seen points) stop.NoMemory old new
        by [] enters counted = few_entered (map seen points) old new enters
        by (ended ∷ ends) enters counted =
            each_few points ended ends old new room (subst (λ (n : ℕ). n < length points) (sym (many_of (ended ∷ ends) counted)) less) enters
    many_few less (inr none) = few_entered (map seen points) old new none.enters

  -- by a session of which this is seen
  module _ {C : Type 0} (points : List Datum) (counts : PutCounts) (inside old : LinkValue C) (new : SessionValue) (same : inside ≡ old) (some : 0 < length points) (room : HasRoomFor points old.session.pass) (gathered : new.gathered ≡ inside.session.gathered) (is : new.counts ≡ counted_puts inside.session.counts counts) where
    room_inside : HasRoomFor points inside.session.pass
    room_inside = subst (λ (v : LinkValue C). HasRoomFor points v.session.pass) (sym same) room

    pub puts_together : length points ≤ counts.done → PutsFirst start passes points counts inside.session.pass new.pass ⊎ PutsNone start passes counts inside.session.pass new.pass
        → PutsAll start passes points old.session new
    puts_together all puts = subst (λ (v : LinkValue C). PutsAll start passes points v.session new) same (puts_whole points counts inside.session new some room_inside gathered is all puts)

    pub stops_together : counts.done < length points → PutsFirst start passes points counts inside.session.pass new.pass ⊎ PutsNone start passes counts inside.session.pass new.pass
        → PutsFewer start passes stop.NoMemory points old.session new
    stops_together less puts =
        subst (λ (v : LinkValue C). PutsFewer start passes stop.NoMemory points v.session new) same (puts_fewer points counts inside.session new some room_inside gathered is less puts)
