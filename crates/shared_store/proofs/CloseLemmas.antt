-- What the end of a store tells.
use Rattle.std.proofs.Common.{◌≡◌, ◌∙◌, ℕ, ◌<◌, ◌≤◌, ◌+◌, List, [], ◌∷◌, ◌++◌, length, take, drop, get_or, set, false, Option, Some, None, IfSome, refl, sym, ap, subst, arith, length-append, below_more}
use Rattle.std.specs.Prelude.{count_by, slice_get}
use Rattle.std.proofs.lemmas.List.{length-set, get_or-set_other, get_or-set_same, get_or_append_left}
use Rattle.std.proofs.Math.Seq.{get_or-append_seam}
use Rattle.std.proofs.lemmas.Option.{get_or_from_slice_get, slice_get-get_or, slice_get_within}
use mathlib.Core.List.{IsPrefix}
use Rattle.atomic_table.specs.Seated.{TableId}
use Rattle.outside_io.specs.Image.{Image, WhereKnown}
use Rattle.outside_io.specs.declared.disk.Disk.{Ghosts}
use Rattle.ring_format.specs.Patch.{PatchValue}
use Rattle.write_shelf.specs.Shelf.{DrainValue}
use Rattle.carbon_history.specs.declared.entry.Entry.{Entry}
use Rattle.carbon_history.specs.Entries.{NamesPasses, about_class, drains, of_pass}
use Rattle.carbon_model.specs.RingFiles.{IsOfClass, SameKept, StandsUnder, kept_under}
use Rattle.carbon_model.specs.State.{Kept, SamePart, State}
use Rattle.carbon_model.specs.Replay.{IsLegalHistory, replay}
use Rattle.carbon_model.proofs.PartLemmas.{replay_alike, same_part}
use Rattle.redo_log.specs.Recovery.{is_open}
use Rattle.redo_log.specs.Steps.{gate_name}
use Rattle.shard_core.specs.Shard.{patch_on}
use Rattle.shared_history.specs.declared.view.Look.{Look}
use Rattle.shared_history.specs.Parts.{AllAgree, AllSeen, IsNoMore, OrderValue, PassValue, PassesOfTable, TailValue, TailsOfTable, look_now, pass_looking}
use Rattle.shared_history.specs.Views.{look_at}
use Rattle.shared_store.specs.Closes.{AllLook, Closes, EndsAs, EndsBelow, EndsClass, LookedBelow, LooksOnce}
use Rattle.shared_store.specs.Desks.{LastDrains}
use Rattle.shared_store.specs.Passes.{settled_in}
use Rattle.shared_store.specs.Orders.{KeepsOrder}
use Rattle.shared_store.specs.Tallies.{capped, is_fault, tally_of}
use Rattle.shared_store.specs.declared.close.Closed.{Closed}
use Rattle.shared_store.proofs.LookLemmas.{looked}

-- what is written back to a list of the same length is the whole of it
pub taken_back : {A : Type 0} (xs ys : List A) → length xs ≡ length ys → take (length ys) (xs ++ drop (length xs) ys) ≡ xs
taken_back [] [] same = refl
taken_back [] (y ∷ ys) same = absurd (omega (arith, same))
taken_back (x ∷ xs) [] same = absurd (omega (arith, same))
taken_back (x ∷ xs) (y ∷ ys) same = ap (λ l. x ∷ l) (taken_back xs ys (omega (arith, same)))

-- ---- the passes look at one class

pub looks_once : (tail : TailValue) (old new : PassValue) → new ≡ pass_looking old (look_now tail old) → IsNoMore (look_at tail.class old.looks) tail → LooksOnce tail old new
looks_once tail old new is more =
    let look = looked tail old new is in
    record { table = look.table; number = look.number; seen = look.seen; others = look.others; behind = more.settled }

-- so many of the passes looked, and the others are what they were
pub record LooksBefore (count : ℕ) (tail : TailValue) (old new : List PassValue) : Type 0 where
  pub same : length new ≡ length old
  pub done : (k : ℕ) → k < count → (d : PassValue) → LooksOnce tail (get_or old k d) (get_or new k d)
  pub rest : (k : ℕ) → count ≤ k → (d : PassValue) → get_or new k d ≡ get_or old k d

pub looks_none : (tail : TailValue) (old : List PassValue) → LooksBefore 0 tail old old
looks_none tail old = record { same = refl; done = λ k below d. absurd (omega (arith, below)); rest = λ k from d. refl }

pub looks_more : (count : ℕ) (tail : TailValue) (old now : List PassValue) (pass : PassValue) → count < length old → LooksBefore count tail old now
    → ((d : PassValue) → LooksOnce tail (get_or now count d) pass) → LooksBefore (count + 1) tail old (set now count pass)
looks_more count tail old now pass within before here = record {
  same = length-set now count pass ∙ before.same;
  done = below_more (λ (k : ℕ). (d : PassValue) → LooksOnce tail (get_or old k d) (get_or (set now count pass) k d)) count
      (λ k less d. subst (λ (p : PassValue). LooksOnce tail (get_or old k d) p)
      (sym (get_or-set_other now count k pass d (λ e. absurd (omega (arith, e, less))))) (before.done k less d))
      (λ d. subst (λ (p : PassValue). LooksOnce tail (get_or old count d) p) (sym (get_or-set_same now count pass d (omega (arith, within, before.same))))
      (subst (λ (p : PassValue). LooksOnce tail p pass) (before.rest count (omega arith) d) (here d)));
  rest = λ k from d. get_or-set_other now count k pass d (λ e. absurd (omega (arith, e, from))) ∙ before.rest k (omega (arith, from)) d;
}

pub looks_all : (count : ℕ) (tail : TailValue) (old now : List PassValue) → length old ≤ count → LooksBefore count tail old now → AllLook tail old now
looks_all count tail old now all looks = record { count = looks.same; each = λ k below d. looks.done k (omega (arith, all, below)) d }

-- ---- one class more

passed : (count : ℕ) (tail : TailValue) (old now new : PassValue) → tail.class ≡ count → LookedBelow count old now → LooksOnce tail now new → LookedBelow (count + 1) old new
passed count tail old now new is before look = record {
  table = look.table ∙ before.table;
  number = look.number ∙ before.number;
  seen = look.seen ∙ before.seen;
  others = λ other from. look.others other (λ e. absurd (omega (arith, e, is, from))) ∙ before.others other (omega (arith, from));
}

was_behind : (count : ℕ) (tail : TailValue) (old now new : PassValue) → tail.class ≡ count → LookedBelow count old now → LooksOnce tail now new
    → settled_in count old ≤ tail.settled
was_behind count tail old now new is before look =
    subst (λ (l : Look). l.settled ≤ tail.settled) (before.others count (omega arith))
    (subst (λ (k : ℕ). settled_in k now ≤ tail.settled) is look.behind)

module _ {D : Type 0} (d : Ghosts D) (table : TableId) (told : ℕ → Option Image) (start : State) (earlier : ℕ → ℕ) where
  pub ends_none : (disks : List D) (tails : List TailValue) (old : List PassValue) → length disks ≡ 0 → length tails ≡ 0
      → EndsBelow d table told start earlier 0 disks tails old old
  ends_none disks tails old no_disk no_tail = record {
    disk_count = no_disk;
    tail_count = no_tail;
    pass_count = refl;
    classes = λ k below disk tail. absurd (omega (arith, below));
    behind = λ k below i within tail pass. absurd (omega (arith, below));
    passes = λ i within pass. record { table = refl; number = refl; seen = refl; others = λ other from. refl };
  }

  some_of : {A : Type 0} (xs : List A) (k : ℕ) → k < length xs → A
  some_of [] k within = absurd (omega (arith, within))
  some_of (x ∷ xs) k within = x

  at_end : {A : Type 0} (xs : List A) (x : A) (count : ℕ) (y : A) → length xs ≡ count → get_or (xs ++ x ∷ []) count y ≡ x
  at_end xs x count y is = ap (λ (n : ℕ). get_or (xs ++ x ∷ []) n y) (sym is) ∙ get_or-append_seam xs x [] y

  in_front : {A : Type 0} (xs : List A) (x : A) (count k : ℕ) (y : A) → length xs ≡ count → k < count → get_or (xs ++ x ∷ []) k y ≡ get_or xs k y
  in_front xs x count k y is below = get_or_append_left xs (x ∷ []) y k (omega (arith, is, below))

  one_longer : {A : Type 0} (xs : List A) (x : A) (count : ℕ) → length xs ≡ count → length (xs ++ x ∷ []) ≡ count + 1
  one_longer xs x count is = omega (arith, is, length-append xs (x ∷ []))

  ends_with : (count : ℕ) (disks : List D) (tails : List TailValue) (old now new : List PassValue) (disk : D) (tail : TailValue)
      → EndsBelow d table told start earlier count disks tails old now → EndsClass d table told start earlier count disk tail → tail.class ≡ count → AllLook tail now new
      → EndsBelow d table told start earlier (count + 1) (disks ++ disk ∷ []) (tails ++ tail ∷ []) old new
  ends_with count disks tails old now new disk tail before end is look =
      let looks_at : (i : ℕ) → i < length old → (p : PassValue) → LooksOnce tail (get_or now i p) (get_or new i p) =
      λ i within p. look.each i (omega (arith, within, before.pass_count)) p in
      record {
        disk_count = one_longer disks disk count before.disk_count;
        tail_count = one_longer tails tail count before.tail_count;
        pass_count = look.count ∙ before.pass_count;
        classes = below_more (λ (k : ℕ). (x : D) (t : TailValue) → EndsClass d table told start earlier k (get_or (disks ++ disk ∷ []) k x) (get_or (tails ++ tail ∷ []) k t)) count
            (λ k less x t. subst (λ (y : D). EndsClass d table told start earlier k y (get_or (tails ++ tail ∷ []) k t)) (sym (in_front disks disk count k x before.disk_count less))
            (subst (λ (u : TailValue). EndsClass d table told start earlier k (get_or disks k x) u) (sym (in_front tails tail count k t before.tail_count less)) (before.classes k less x t)))
            (λ x t. subst (λ (y : D). EndsClass d table told start earlier count y (get_or (tails ++ tail ∷ []) count t)) (sym (at_end disks disk count x before.disk_count))
            (subst (λ (u : TailValue). EndsClass d table told start earlier count disk u) (sym (at_end tails tail count t before.tail_count)) end));
        behind = below_more (λ (k : ℕ). (i : ℕ) → i < length old → (t : TailValue) (p : PassValue) → settled_in k (get_or old i p) ≤ (get_or (tails ++ tail ∷ []) k t).settled) count
            (λ k less i within t p. subst (λ (u : TailValue). settled_in k (get_or old i p) ≤ u.settled) (sym (in_front tails tail count k t before.tail_count less)) (before.behind k less i within t p))
            (λ i within t p. subst (λ (u : TailValue). settled_in count (get_or old i p) ≤ u.settled) (sym (at_end tails tail count t before.tail_count))
            (was_behind count tail (get_or old i p) (get_or now i p) (get_or new i p) is (before.passes i within p) (looks_at i within p)));
        passes = λ i within p. passed count tail (get_or old i p) (get_or now i p) (get_or new i p) is (before.passes i within p) (looks_at i within p);
      }

  pub ends_more : (count : ℕ) (disks disks' : List D) (tails tails' : List TailValue) (old now new : List PassValue) (disk : D) (tail : TailValue)
      → EndsBelow d table told start earlier count disks tails old now → EndsClass d table told start earlier count disk tail → AllLook tail now new
      → disks' ≡ disks ++ disk ∷ [] → tails' ≡ tails ++ tail ∷ [] → EndsBelow d table told start earlier (count + 1) disks' tails' old new
  ends_more count disks disks' tails tails' old now new disk tail before end look disks_are tails_are =
      subst (λ (xs : List D). EndsBelow d table told start earlier (count + 1) xs tails' old new) (sym disks_are)
      (subst (λ (ts : List TailValue). EndsBelow d table told start earlier (count + 1) (disks ++ disk ∷ []) ts old new) (sym tails_are)
      (ends_with count disks tails old now new disk tail before end (end.keeps.class ∙ end.here) look))

  -- the passes are still of the table
  pub still_of_table : (count : ℕ) (disks : List D) (tails : List TailValue) (old now : List PassValue) → EndsBelow d table told start earlier count disks tails old now
      → PassesOfTable table old → PassesOfTable table now
  still_of_table count disks tails old now ends all i pass there =
      let within : i < length old = omega (arith, ends.pass_count, slice_get_within now i pass there) in
      sym (ap (λ (p : PassValue). p.table) (get_or_from_slice_get now i pass pass there)) ∙ ((ends.passes i within pass).table
      ∙ all i (get_or old i pass) (slice_get-get_or old i pass within))

  pub tails_of_table : (count : ℕ) (disks : List D) (tails : List TailValue) (old now : List PassValue) → EndsBelow d table told start earlier count disks tails old now
      → TailsOfTable table tails
  tails_of_table count disks tails old now ends k tail there =
      let below : k < count = omega (arith, ends.tail_count, slice_get_within tails k tail there) in
      let x : D = some_of disks k (omega (arith, below, ends.disk_count)) in
      sym (ap (λ (t : TailValue). t.table) (get_or_from_slice_get tails k tail tail there)) ∙ (ends.classes k below x tail).keeps.same

  -- ---- the end of all

  pub all_seen : (count : ℕ) (disks : List D) (tails : List TailValue) (old now : List PassValue) (history : List Entry) → EndsBelow d table told start earlier count disks tails old now
      → AllSeen history now → AllSeen history old
  all_seen count disks tails old now history ends all i pass there =
      let within : i < length old = slice_get_within old i pass there in
      let here : get_or old i pass ≡ pass = get_or_from_slice_get old i pass pass there in
      let is = ends.passes i within pass in
      let last = all i (get_or now i pass) (slice_get-get_or now i pass (omega (arith, within, ends.pass_count))) in
      let number : (get_or now i pass).number ≡ pass.number = is.number ∙ ap (λ (p : PassValue). p.number) here in
      let seen : (get_or now i pass).seen ≡ pass.seen = is.seen ∙ ap (λ (p : PassValue). p.seen) here in record {
        begins = subst (λ (l : List Entry). IsPrefix l history) seen last.begins;
        own = ap (λ (n : ℕ). of_pass n history) (sym number) ∙ (last.own ∙ (λ j. of_pass (number j) (seen j)));
      }

  stands_alike : (opening now : Image) (patch : Option PatchValue) (kept kept' : List ℕ → Option Kept) (class : ℕ)
      → ((path : List ℕ) → IsOfClass class path → kept path ≡ kept' path) → StandsUnder opening now patch kept class → StandsUnder opening now patch kept' class
  stands_alike opening now patch kept kept' class same stands = record {
    rings = λ path one. subst (λ (k : Option Kept). SameKept (kept_under patch now path) k) (same path one) (stands.rings path one);
    sound = stands.sound;
    patched = stands.patched;
    others = stands.others;
  }

  where_alike : (told known : Option Image) (patch : Option PatchValue) (kept kept' : List ℕ → Option Kept) (class : ℕ)
      → ((path : List ℕ) → IsOfClass class path → kept path ≡ kept' path)
      → WhereKnown told known (λ opening now. StandsUnder opening now patch kept class) → WhereKnown told known (λ opening now. StandsUnder opening now patch kept' class)
  where_alike None None patch kept kept' class same stands = stands
  where_alike None (Some now) patch kept kept' class same stands = stands
  where_alike (Some opening) None patch kept kept' class same stands = stands
  where_alike (Some opening) (Some now) patch kept kept' class same stands = stands_alike opening now patch kept kept' class same stands

  class_ends : (class : ℕ) (disk : D) (tail : TailValue) (history : List Entry) (passes : List PassValue) → EndsClass d table told start earlier class disk tail
      → tail.list ≡ about_class tail.class history → ((i : ℕ) → i < length passes → (p : PassValue) → settled_in class (get_or passes i p) ≤ tail.settled)
      → EndsAs d told start earlier passes history class disk
  class_ends class disk tail history passes end agree behind =
      let shard = end.shard in
      let is : tail.class ≡ class = end.keeps.class ∙ end.here in
      let list : tail.list ≡ about_class class history = agree ∙ ap (λ (k : ℕ). about_class k history) is in
      let alike : SamePart class (replay start history) (replay start tail.list) =
      subst (λ (l : List Entry). SamePart class (replay start history) (replay start l)) (sym list) (replay_alike class start start history (same_part class start)) in
      record {
        patch = patch_on shard.shelf;
        stands = where_alike (told class) (d.image disk) (patch_on shard.shelf) (replay start tail.list).kept (replay start history).kept class (λ path one. sym (alike.kept path one.here))
            (subst (λ (known : Option Image). WhereKnown (told class) known (λ opening now. StandsUnder opening now (patch_on shard.shelf) (replay start tail.list).kept class)) end.known
            (subst (λ (k : ℕ). WhereKnown (told k) shard.known (λ opening now. StandsUnder opening now (patch_on shard.shelf) (replay start tail.list).kept k)) end.here end.keeps.holds.kept.files));
        last = on_patch shard.shelf (subst (λ (l : List Entry). IfSome shard.shelf (λ drain. LastDrains drain.patch.path l)) list end.keeps.last);
        whole = λ settled.
            let there : get_or passes settled.place settled.pass ≡ settled.pass = get_or_from_slice_get passes settled.place settled.pass settled.pass settled.there in
            let here : settled_in class settled.pass ≤ tail.settled = subst (λ (p : PassValue). settled_in class p ≤ tail.settled) there
            (behind settled.place (slice_get_within passes settled.place settled.pass settled.there) settled.pass) in
            ap patch_on (end.keeps.settled.1 (even (drains tail.list) (drains (about_class class history)) (settled_in class settled.pass) tail.settled
            (ap drains list) settled.all here end.keeps.owed.low));
        shut = λ none. subst (λ (known : Option Image). IfSome known (λ now. is_open (now gate_name) ≡ false)) end.known (end.shut (no_patch shard.shelf none));
        faults = subst (λ (l : List Entry). capped (earlier class + count_by is_fault l) ≤ d.faults disk) list
            (subst (λ (k : ℕ). capped (earlier k + count_by is_fault tail.list) ≤ d.faults disk) end.here end.keeps.faults);
      }
    where
      on_patch : (shelf : Option DrainValue) → IfSome shelf (λ drain. LastDrains drain.patch.path (about_class class history))
          → IfSome (patch_on shelf) (λ p. LastDrains p.path (about_class class history))
      on_patch None last = tt
      on_patch (Some drain) last = last

      no_patch : (shelf : Option DrainValue) → patch_on shelf ≡ None → shelf ≡ None
      no_patch None none = refl
      no_patch (Some drain) none = absurd cc

      even : (all of_class seen settled : ℕ) → all ≡ of_class → of_class ≤ seen → seen ≤ settled → settled ≤ all → all ≡ settled
      even all of_class seen settled is few less low = omega (arith, is, few, less, low)

  pub all_end : (disks : List D) (tails : List TailValue) (old now : List PassValue) (history : List Entry) → EndsBelow d table told start earlier 16 disks tails old now
      → AllAgree history tails → (k : ℕ) (disk : D) → slice_get disks k ≡ Some disk → EndsAs d told start earlier old history k disk
  all_end disks tails old now history ends agree k disk there =
      let below : k < 16 = omega (arith, ends.disk_count, slice_get_within disks k disk there) in
      let x : TailValue = record { table = table; class = 0; list = []; settled = 0; runs = 0 } in
      let tail : TailValue = get_or tails k x in
      let end : EndsClass d table told start earlier k disk tail =
      subst (λ (y : D). EndsClass d table told start earlier k y tail) (get_or_from_slice_get disks k disk disk there) (ends.classes k below disk x) in
      class_ends k disk tail history old end (agree k tail (slice_get-get_or tails k x (omega (arith, below, ends.tail_count)))) (λ i within p. ends.behind k below i within x p)

  pub closes : (passes : ℕ) (old now : List PassValue) (order : OrderValue) (tails : List TailValue) (closed : Closed D)
      → KeepsOrder table passes start order closed.tally → EndsBelow d table told start earlier 16 closed.disks.items tails old now
      → closed.history ≡ order.list → AllSeen closed.history now → AllAgree closed.history tails → NamesPasses order.passes closed.history
      → Closes d passes told start earlier old closed
  closes passes old now order tails closed keeps ends is seen agree made = record {
    legal = subst (IsLegalHistory start) (sym is) keeps.legal;
    names = subst (λ (n : ℕ). NamesPasses n closed.history) keeps.count made;
    seen = all_seen 16 closed.disks.items tails old now closed.history ends seen;
    counted = keeps.counts ∙ ap tally_of (sym is);
    sixteen = ends.disk_count;
    disks = all_end closed.disks.items tails old now closed.history ends agree;
  }
