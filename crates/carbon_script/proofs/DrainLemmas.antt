-- The drain of all that is pending, by the only pass of a store.
use Rattle.std.proofs.Common.{◌≡◌, ◌≢◌, ◌⊎◌, ◌∙◌, inl, inr, ℕ, zero, suc, ◌<◌, ◌≤◌, ◌+◌, ◌^◌, Bool, true, false, List, [], ◌∷◌, ◌++◌, Option, length, refl, sym, ap, subst, arith, append_assoc, append-nil}
use Rattle.std.specs.Prelude.{Result, Ok, Err}
use Rattle.outside_io.specs.Image.{Image}
use Rattle.carbon_history.specs.declared.entry.Entry.{Entry}
use Rattle.carbon_history.specs.declared.entry.Entry.TheVariants as entry
use Rattle.carbon_history.specs.Entries.{about_class, drains}
use Rattle.carbon_model.specs.State.{State}
use Rattle.carbon_model.specs.Replay.{DrainsAll, DrainsClasses, DrainsSome, DrainsUpTo, IsDrainOf, after, replay}
use Rattle.carbon_model.proofs.HistoryLemmas.{replay-append}
use Rattle.shared_history.specs.Parts.{PassValue, own_entries}
use Rattle.shared_store.specs.Drains.{DrainsPartly, DrainsTo, DrainsToFault, DrainsWhole, EndsUnwritten, FailedRun, HasPlanned, IsOwed}
use Rattle.shared_store.specs.Passes.{LooksOn, planned_in, settled_in}
use Rattle.shared_store.specs.Steps.{FailedPlan}
use Rattle.shared_store.specs.declared.drain_end.DrainEnd.{DrainEnd}
use Rattle.shared_store.specs.declared.drain_end.DrainEnd.TheVariants as drain
use Rattle.atomic_table.specs.Seated.{TableId}
use Rattle.carbon_script.specs.Alone.{Adds, IsOnly, debts}
use Rattle.carbon_script.specs.Command.{DrainAll}
use Rattle.carbon_script.specs.Replies.{DrainsAlone, Replies, SaysDrained}
use Rattle.carbon_script.specs.Script.{DrainsFault, DrainsOut, DrainsPart, FailsIn, Machine, fault_entry}
use Rattle.carbon_script.specs.Sessions.{Means, SessionValue}
use Rattle.carbon_script.specs.Texts.{drain_fault_text, drained_text}
use Rattle.carbon_script.specs.declared.reply.Shortage.{Shortage}
use Rattle.carbon_script.specs.declared.reply.Shortage.TheVariants as short
use Rattle.carbon_script.proofs.AloneLemmas.{adds_on, drains_both, is_debt, no_debt, only_enters}
use Rattle.carbon_script.proofs.MachineLemmas.{HasNone, at_most, front_is, is_spent, known_with, lacks_memory, means_known, none_both, none_fault, none_other, told_or_short, was_owed}

-- ---- classes of which nothing was drained

none_drain : (class now k : ℕ) (e : Entry) → IsDrainOf 0 class now e → k ≢ class → HasNone k (e ∷ [])
none_drain class now k (entry.Drain by path at) is apart =
    subst (λ (n : ℕ). HasNone k (entry.Drain n path at ∷ [])) (sym is.0) (none_other path at k (λ same. apart (same ∙ is.1.0)))
none_drain class now k (entry.Put by path time value end) is apart = absurd is
none_drain class now k (entry.Ask by number try at) is apart = absurd is
none_drain class now k (entry.Fault by of_class) is apart = absurd is

none_some : (s : State) (class now k : ℕ) (made : List Entry) → DrainsSome s 0 class now made → k ≢ class → HasNone k made
none_some s class now k [] made apart = refl
none_some s class now k (e ∷ es) made apart = none_both k (e ∷ []) es (none_drain class now k e made.0 apart) (none_some (after s e) class now k es made.1.1 apart)

not_equal : (k class : ℕ) → class < k → k ≢ class
not_equal k class more same = omega (arith, more, same)

none_classes : (s : State) (count now k : ℕ) (made : List Entry) → DrainsClasses s 0 count now made → count ≤ k → HasNone k made
none_classes s zero now k made drains late = subst (HasNone k) (sym drains) refl
none_classes s (suc class) now k made drains late =
    subst (HasNone k) (sym drains.2.0)
    (none_both k drains.0 drains.1 (none_classes s class now k drains.0 drains.2.1.0 (omega (arith, late)))
    (none_some (replay s drains.0) class now k drains.1 drains.2.1.1.drains (not_equal k class (omega (arith, late)))))

none_up_to : (s : State) (class now k : ℕ) (made : List Entry) → DrainsUpTo s 0 class now made → class < k → HasNone k made
none_up_to s class now k made drains late =
    subst (HasNone k) (sym drains.2.0)
    (none_both k drains.0 drains.1 (none_classes s class now k drains.0 drains.2.1.0 (omega (arith, late)))
    (none_some (replay s drains.0) class now k drains.1 drains.2.1.1 (not_equal k class late)))

more_than : (planned all settled : ℕ) → planned ≡ all → planned ≡ settled + 1 → settled < all
more_than planned all settled are under = omega (arith, are, under)

no_more : (settled all seen : ℕ) → all ≤ settled → settled < seen → seen ≡ all → ⊥
no_more settled all seen few more are = omega (arith, few, more, are)

-- ---- what the machine does

module _ (start : State) (passes : ℕ) (alone : passes ≡ 1) (old new : SessionValue) (m : Machine) (means : Means start old m) (on : LooksOn old.pass new.pass) where
  -- the drains were made in the machine's state, at its clock
  there : (P : State → ℕ → ℕ → Type 0) → P (replay start old.pass.seen) old.pass.number old.clock → P m.state 0 m.clock
  there P holds =
      subst (λ (now : ℕ). P m.state 0 now) means.clock
      (subst (λ (n : ℕ). P m.state n old.clock) means.number
      (subst (λ (s : State). P s old.pass.number old.clock) (ap (replay start) means.seen ∙ sym means.state) holds))

  drains_out : (count : ℕ) → DrainsWhole start passes old.clock count old.pass new.pass → (made : List Entry) × (Adds start made old.pass new.pass × DrainsOut m count (known_with m made new.pass))
  drains_out count whole =
      let adds : Adds start whole.made old.pass new.pass = adds_on start passes whole.made old.pass new.pass alone means.number whole.enters on in (
        whole.made,
        (
          adds,
          record {
            made = whole.made;
            all = there (λ s pass now. DrainsAll s pass now whole.made) (whole.alone adds.seen);
            counted = whole.counted;
            none = λ class few.
                let written = whole.written adds.seen class few in
                no_debt new.pass class (at_most (planned_in class new.pass) (drains (about_class class new.pass.seen)) (settled_in class new.pass) written.all written.settled);
            becomes = refl;
          },
        ),
      )

  -- in a plan or in a run
  fails_in : (class : ℕ) (made : List Entry) → Adds start (made ++ fault_entry class ∷ []) old.pass new.pass → HasPlanned class new.pass
      → FailedPlan start class new.pass ⊎ FailedRun start class made old.pass new.pass → FailsIn m class made (debts new.pass class)
  fails_in class made adds planned (inl failed) =
      let front : failed.before ≡ old.pass.seen ++ made =
      front_is failed.before (old.pass.seen ++ made) (entry.Fault new.pass.number class) (fault_entry class)
      (sym failed.last ∙ (adds.seen ∙ sym (append_assoc old.pass.seen made (fault_entry class ∷ [])))) in
      let there : replay m.state made ≡ replay start failed.before =
      ap (λ (s : State). replay s made) (means.state ∙ ap (replay start) (sym means.seen))
      ∙ (sym (replay-append start old.pass.seen made) ∙ ap (replay start) (sym front)) in
      subst (FailsIn m class made)
      (sym (no_debt new.pass class (at_most (planned_in class new.pass) (drains (about_class class new.pass.seen)) (settled_in class new.pass) planned failed.settled)))
      (λ none. failed.some (sym (ap (λ (s : State). s.pending class) there) ∙ none))
  fails_in class made adds planned (inr run) =
      subst (FailsIn m class made)
      (sym (is_debt new.pass class (more_than (planned_in class new.pass) (drains (about_class class new.pass.seen)) (settled_in class new.pass) planned run.under)))
      (elim (run.whose (adds.seen ∙ (λ i. old.pass.seen ++ (made ++ entry.Fault (sym means.number i) class ∷ [])))) [
        | inl owed ↦ inl (by (m.owes class) refl owed.0, owed.1)
        | inr ends ↦ inr (subst (λ (s : State). EndsUnwritten s class made) (ap (replay start) means.seen ∙ sym means.state) ends)
      ])
    where
      by : (b : Bool) → m.owes class ≡ b → IsOwed class old.pass → m.owes class ≡ true
      by true is owed = is
      by false is owed =
          absurd (no_more (settled_in class old.pass) (drains (about_class class m.entries)) (drains (about_class class old.pass.seen)) (means.settled class is) owed
          (ap (λ (es : List Entry). drains (about_class class es)) means.seen))

  drains_fault : (class : ℕ) → DrainsToFault start passes old.clock class old.pass new.pass
      → (made : List Entry) × (Adds start made old.pass new.pass × DrainsFault m class (known_with m made new.pass))
  drains_fault class failed =
      let entries = failed.made ++ fault_entry class ∷ [] in
      let adds : Adds start entries old.pass new.pass =
      subst (λ (n : ℕ). Adds start (failed.made ++ entry.Fault n class ∷ []) old.pass new.pass) means.number
      (adds_on start passes (failed.made ++ entry.Fault old.pass.number class ∷ []) old.pass new.pass alone means.number failed.enters on) in
      let stood = adds.seen ∙ (λ i. old.pass.seen ++ (failed.made ++ entry.Fault (sym means.number i) class ∷ [])) in
      let up_to = there (λ s pass now. DrainsUpTo s pass class now failed.made) (failed.alone stood) in (
        entries,
        (
          adds,
          record {
            within = failed.within;
            made = failed.made;
            up_to = up_to;
            none = λ k less.
                let written = failed.written stood k less in
                no_debt new.pass k (at_most (planned_in k new.pass) (drains (about_class k new.pass.seen)) (settled_in k new.pass) written.all written.settled);
            later = λ k more owes.
                was_owed start old new m entries k means adds
                (none_both k failed.made (fault_entry class ∷ []) (none_up_to m.state class m.clock k failed.made up_to more) (none_fault class k)) owes;
            stops = fails_in class failed.made adds failed.planned failed.either;
            becomes = refl;
          },
        ),
      )

  drains_part : DrainsPartly start passes old.clock old.pass new.pass → (made : List Entry) × (Adds start made old.pass new.pass × DrainsPart m (known_with m made new.pass))
  drains_part part =
      let adds : Adds start part.made old.pass new.pass = adds_on start passes part.made old.pass new.pass alone means.number part.enters on in
      let up_to = there (λ s pass now. DrainsUpTo s pass part.class now part.made) (part.alone adds.seen) in (
        part.made,
        (
          adds,
          record {
            class = part.class;
            within = part.within;
            made = part.made;
            up_to = up_to;
            owed = λ k more owes. was_owed start old new m part.made k means adds (none_up_to m.state part.class m.clock k part.made up_to more) owes;
            becomes = refl;
          },
        ),
      )

pub drains_alone : (start : State) (passes : ℕ) (end : DrainEnd) (old new : SessionValue) → passes ≡ 1 → DrainsTo start passes old.clock end old.pass new.pass → LooksOn old.pass new.pass
    → new.clock ≡ old.clock → new.counts ≡ old.counts → DrainsAlone start end old new
drains_alone start passes (drain.Done count) old new alone drains on clock counts = (
  drains.1,
  λ m means.
      let out = drains_out start passes alone old new m means on count drains.0 in
      (known_with m out.0 new.pass, (out.1.1, means_known start old new m out.0 means out.1.0 clock counts)),
)
drains_alone start passes (drain.DiskFault class) old new alone drains on clock counts = λ m means.
    let out = drains_fault start passes alone old new m means on class drains in
    (known_with m out.0 new.pass, (out.1.1, means_known start old new m out.0 means out.1.0 clock counts))
drains_alone start passes drain.Spent old new alone drains on clock counts = λ m means.
    let out = drains_part start passes alone old new m means on drains.0 in
    let after = means_known start old new m out.0 means out.1.0 clock counts in
    (known_with m out.0 new.pass, (out.1.1, (is_spent start new (known_with m out.0 new.pass) after drains.1, after)))
drains_alone start passes drain.NoMemory old new alone drains on clock counts = λ m means.
    let out = drains_part start passes alone old new m means on drains.0 in
    (known_with m out.0 new.pass, (out.1.1, means_known start old new m out.0 means out.1.0 clock counts))

-- nothing was drained, for the pass has no room
pub drains_not : (start : State) (code : SessionValue) → 2 ^ 48 < length (own_entries code.pass) + 4 → DrainsAlone start drain.Spent code code
drains_not start code spent m means = (
  m,
  (
    record {
      class = 0;
      within = omega arith;
      made = [];
      up_to = ([], [], (refl, (refl, tt)));
      owed = λ k more owes. owes;
      becomes = ap (λ (es : List Entry). record m { entries = es }) (sym (append-nil m.entries));
    },
    (is_spent start code m means spent, means),
  ),
)

-- ---- the reply

pub replies_drain : (told : ℕ → Option Image) (start : State) (end : DrainEnd) (reply : Result (List ℕ) Shortage) (old new : SessionValue) → DrainsAlone start end old new
    → SaysDrained end reply → Replies told start DrainAll reply old new
replies_drain told start (drain.Done count) reply old new drains says =
    told_or_short told start DrainAll old new (drained_text count) reply (λ m next done. inr done) says (λ m means.
    let out = drains.1 m means in (out.0, (inl (count, (out.1.0, refl)), out.1.1)))
replies_drain told start (drain.DiskFault class) reply old new drains says =
    told_or_short told start DrainAll old new (drain_fault_text class) reply (λ m next done. inr done) says (λ m means.
    let out = drains m means in (out.0, (inr (class, (out.1.0, refl)), out.1.1)))
replies_drain told start drain.Spent (Ok text) old new drains says = absurd says
replies_drain told start drain.Spent (Err short.Room) old new drains says = drains
replies_drain told start drain.Spent (Err short.Memory) old new drains says = absurd says
replies_drain told start drain.NoMemory reply old new drains says =
    lacks_memory told start DrainAll old new reply says (λ m means. let out = drains m means in (out.0, (inl out.1.0, out.1.1)))

-- the pass is still the one of its store
pub only_drains : (own : TableId) (start : State) (passes now : ℕ) (end : DrainEnd) (old new : PassValue) → passes ≡ 1 → IsOnly own start old → DrainsTo start passes now end old new → IsOnly own start new
only_drains own start passes now (drain.Done count) old new alone only drains = only_enters own start passes drains.0.made old new alone only drains.0.enters
only_drains own start passes now (drain.DiskFault class) old new alone only drains =
    only_enters own start passes (drains.made ++ entry.Fault old.number class ∷ []) old new alone only drains.enters
only_drains own start passes now drain.Spent old new alone only drains = only_enters own start passes drains.0.made old new alone only drains.0.enters
only_drains own start passes now drain.NoMemory old new alone only drains = only_enters own start passes drains.0.made old new alone only drains.0.enters
