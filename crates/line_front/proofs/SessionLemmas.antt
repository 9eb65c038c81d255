-- What one line makes of a session.
use Rattle.std.proofs.Common.{◌≡◌, ◌≢◌, ◌≤◌, ◌<◌, ◌+◌, ◌^◌, inl, ℕ, ℤ, List, [], ◌∷◌, ◌++◌, length, Option, Some, None, Result, Ok, Err, refl, sym, ap, ◌∙◌, subst, arith, append-nil}
use mathlib.Core.List.{IsPrefix}
use Rattle.std.specs.Prelude.{option_map, IsOk, OnOk, IfErr}
use Rattle.line_frame.specs.Lines.{Line, Whole}
use Rattle.line_service.specs.declared.ends.Stop.{Stop}
use Rattle.line_service.specs.declared.ends.Stop.TheVariants as stop
use Rattle.metric_line.specs.declared.fault.LineFault.{LineFault}
use Rattle.metric_line.specs.declared.fault.LineFault.TheVariants.{NoMemory}
use Rattle.metric_line.specs.LineDatum.{datum_of}
use Rattle.metric_line.specs.Point.{Point}
use Rattle.carbon_history.specs.Entries.{listed}
use Rattle.carbon_history.specs.declared.entry.Entry.{Entry}
use Rattle.carbon_history.specs.declared.entry.Entry.TheVariants as entry
use Rattle.carbon_history.specs.declared.entry.PutEnd.{PutEnd}
use Rattle.point_cache.specs.declared.put.Put.{Put}
use Rattle.point_cache.specs.declared.put.Put.TheVariants as put
use Rattle.carbon_model.specs.State.{State}
use Rattle.shared_history.specs.Parts.{PassValue, own_entries}
use Rattle.shared_history.proofs.ListLemmas.{prefix_self}
use Rattle.shared_store.specs.Passes.{Enters, HasRoom}
use Rattle.shared_store.specs.Steps.{put_entry}
use Rattle.line_front.specs.Counts.{counted, refused}
use Rattle.line_front.specs.Ends.{end_of}
use Rattle.line_front.specs.Links.{Brings, HandlesRead, IsSpent, Puts, ReadsOnce, ReadsThen, SessionValue}
use Rattle.line_front.specs.Sessions.{LinkValue, PutsNone, Refuses, ServesLink, StopsLink, Watched, with_reading}

-- the pass has room for the entries of a call
pub has_room : (left : ℕ) (pass : PassValue) → left + length (own_entries pass) ≡ 2 ^ 48 → 4 ≤ left → HasRoom pass
has_room left pass all enough = omega (arith, all, enough)

-- or has not
pub has_none : (left : ℕ) (pass : PassValue) → left + length (own_entries pass) ≡ 2 ^ 48 → left < 4 → IsSpent pass
has_none left pass all few = omega (arith, all, few)

-- ---- a put

-- the entries of a put that ended so
pub entries_of : (told : Put) (pass : ℕ) (path : List ℕ) (time : ℕ) (value : ℤ)
    → listed (put_entry pass path time value told) ≡ listed (option_map (λ (end : PutEnd). entry.Put pass path time value end) (end_of told))
entries_of put.Stored pass path time value = refl
entries_of put.Replaced pass path time value = refl
entries_of put.Full pass path time value = refl
entries_of put.NoMemory pass path time value = refl

-- a put that ended so was entered
pub puts_point : (start : State) (passes : ℕ) (told : Put) (found : Option PutEnd) (end : PutEnd) (point : Point) (old new : SessionValue)
    → found ≡ end_of told → found ≡ Some end → Enters start passes (listed (put_entry old.pass.number point.path point.time point.value told)) old.pass new.pass
    → new.counts ≡ counted old.counts end → new.gathered ≡ old.gathered → Puts start passes point old new
puts_point start passes told found end point old new tells is enters counts gathered = record {
  end = end;
  enters = subst (λ (entries : List Entry). Enters start passes entries old.pass new.pass)
      (entries_of told old.pass.number point.path point.time point.value
      ∙ ap (λ (e : Option PutEnd). listed (option_map (λ (end : PutEnd). entry.Put old.pass.number point.path point.time point.value end) e)) (sym tells ∙ is)) enters;
  counts = counts;
  gathered = gathered;
}

-- there was no memory for it, and no entry was made
pub puts_none : (start : State) (passes : ℕ) (told : Put) (found : Option PutEnd) (point : Point) (old new : SessionValue)
    → found ≡ end_of told → found ≡ None → Enters start passes (listed (put_entry old.pass.number point.path point.time point.value told)) old.pass new.pass
    → new.counts ≡ old.counts → PutsNone start passes stop.NoMemory old new
puts_none start passes told found point old new tells is enters counts = (
  refl,
  record {
    enters = subst (λ (entries : List Entry). Enters start passes entries old.pass new.pass)
        (entries_of told old.pass.number point.path point.time point.value
        ∙ ap (λ (e : Option PutEnd). listed (option_map (λ (end : PutEnd). entry.Put old.pass.number point.path point.time point.value end) e)) (sym tells ∙ is)) enters;
    counts = counts;
  },
)

-- ---- a line

-- the line has a point, which was put, with those that the rules emit for it
module _ {C : Type 0} (moments : C → ℕ → Type 0) (start : State) (passes : ℕ) (old mid : LinkValue C) (line : List ℕ) (now : ℕ) (reads : mid ≡ with_reading old now) (told : moments old.watch.clock now) where
  -- by the same clock, which was read once
  pub same_clock : (new : LinkValue C) → new.watch ≡ mid.watch → new.watch.clock ≡ old.watch.clock
  same_clock new watch = ap (λ (w : Watched C). w.clock) watch ∙ ap (λ (v : LinkValue C). v.watch.clock) reads

  told_once : (new : LinkValue C) → new.watch ≡ mid.watch → new.watch.told ≡ old.watch.told ++ now ∷ []
  told_once new watch = ap (λ (w : Watched C). w.told) watch ∙ ap (λ (v : LinkValue C). v.watch.told) reads

  reads_once : (new : LinkValue C) → new.watch ≡ mid.watch → ReadsOnce (moments old.watch.clock) old.watch.told new.watch.told now
  reads_once new watch = (told, told_once new watch)

  -- and perhaps for lines behind it
  pub reads_then : (new : LinkValue C) → new.watch ≡ mid.watch → ReadsThen (moments old.watch.clock) old.watch.told new.watch.told now
  reads_then new watch = (told, ([], append-nil (old.watch.told ++ now ∷ []) ∙ sym (told_once new watch)))

  pub reads_ahead : (new : LinkValue C) → new.watch ≡ mid.watch → IsPrefix old.watch.told new.watch.told
  reads_ahead new watch = (now ∷ [], sym (told_once new watch))

  session_is : mid.session ≡ old.session
  session_is = ap (λ (v : LinkValue C). v.session) reads

  serves_point : (new : LinkValue C) (point : Point) (before after : Option (List ℕ)) → HasRoom old.session.pass → datum_of line now ≡ Ok point → Brings start passes point mid.session new.session
      → new.watch ≡ mid.watch → ServesLink moments start passes old (Whole line) before new after
  serves_point new point before after room read brings watch = record {
    clock = same_clock new watch;
    handles = record {
      handles = record {
        room = room;
        handles = (
          now,
          (
            reads_once new watch,
            subst (λ (r : Result Point LineFault). HandlesRead start passes r old.session new.session) (sym read)
                (subst (λ (s : SessionValue). Brings start passes point s new.session) session_is brings),
          ),
        );
      };
      none = tt;
    };
  }

  pub serves_bring : {T : Type 0} (result : Result T Stop) (new : LinkValue C) (point : Point) (before after : Option (List ℕ)) → HasRoom old.session.pass → datum_of line now ≡ Ok point
      → OnOk result (Brings start passes point mid.session new.session) → new.watch ≡ mid.watch → OnOk result (ServesLink moments start passes old (Whole line) before new after)
  serves_bring (Ok u) new point before after room read brings watch = serves_point new point before after room read brings watch
  serves_bring (Err reason) new point before after room read brings watch = tt

  -- the line is refused, and counted
  refuses_as : (new : LinkValue C) (fault : LineFault) → new ≡ record mid { session = record mid.session { counts = refused mid.session.counts fault } }
      → new.session ≡ record old.session { counts = refused old.session.counts fault }
  refuses_as new fault same = ap (λ (v : LinkValue C). v.session) same ∙ ap (λ (s : SessionValue). record s { counts = refused s.counts fault }) session_is

  serves_fault : (new : LinkValue C) (fault : LineFault) (before after : Option (List ℕ)) → HasRoom old.session.pass → (fault ≢ NoMemory → datum_of line now ≡ Err fault) → fault ≢ NoMemory
      → new ≡ record mid { session = record mid.session { counts = refused mid.session.counts fault } } → ServesLink moments start passes old (Whole line) before new after
  serves_fault new fault before after room read other same =
      let watch : new.watch ≡ mid.watch = ap (λ (v : LinkValue C). v.watch) same in record {
        clock = same_clock new watch;
        handles = record {
          handles = record {
            room = room;
            handles = (
              now,
              (
                reads_once new watch,
                subst (λ (r : Result Point LineFault). HandlesRead start passes r old.session new.session) (sym (read other)) (other, refuses_as new fault same),
              ),
            );
          };
          none = tt;
        };
      }

  pub serves_refused : {T : Type 0} (result : Result T Stop) (new : LinkValue C) (fault : LineFault) (before after : Option (List ℕ)) → HasRoom old.session.pass
      → (fault ≢ NoMemory → datum_of line now ≡ Err fault) → Refuses fault result mid new → OnOk result (ServesLink moments start passes old (Whole line) before new after)
  serves_refused (Ok u) new fault before after room read refuses = serves_fault new fault before after room read refuses.0 refuses.1
  serves_refused (Err reason) new fault before after room read refuses = tt

  -- there was no memory to read it
  pub stops_refused : {T : Type 0} (result : Result T Stop) (new : LinkValue C) (fault : LineFault) (before after : Option (List ℕ)) → (fault ≡ NoMemory → IsOk (datum_of line now))
      → Refuses fault result mid new → IfErr result (λ reason. StopsLink moments start passes old (Whole line) before reason new after)
  stops_refused (Ok u) new fault before after read refuses = tt
  stops_refused (Err reason) new fault before after read refuses =
      let watch : new.watch ≡ mid.watch = ap (λ (v : LinkValue C). v.watch) refuses.1.1 in
      subst (λ (r : Stop). StopsLink moments start passes old (Whole line) before r new after) (sym refuses.1.0) (record {
        clock = same_clock new watch;
        stops = record {
          ahead = reads_ahead new watch;
          stops = record {
            mid = old.session;
            begun = inl ((now, (reads_then new watch, read refuses.0)), refl);
            idles = inl (ap (λ (v : LinkValue C). v.session) refuses.1.1 ∙ session_is);
          };
        };
      })

-- the pass has no room for it
pub stops_spent : {C : Type 0} (moments : C → ℕ → Type 0) (start : State) (passes : ℕ) (reason : Stop) (old : LinkValue C) (line : Line) (before after : Option (List ℕ))
    → (reason ≡ stop.Spent) × IsSpent old.session.pass → StopsLink moments start passes old line before reason old after
stops_spent moments start passes reason old line before after spent =
    subst (λ (r : Stop). StopsLink moments start passes old line before r old after) (sym spent.0)
    (record { clock = refl; stops = record { ahead = prefix_self old.watch.told; stops = (inl refl, spent.1) } })
