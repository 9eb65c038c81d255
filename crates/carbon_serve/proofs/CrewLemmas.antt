-- What the passes of a crew meet that calls of a store need.
use Rattle.std.proofs.Common.{◌≡◌, ◌⊎◌, inl, inr, ◌∙◌, ℕ, zero, suc, List, [], ◌∷◌, ◌++◌, length, Some, sym, ap, subst, arith}
use Rattle.std.specs.Prelude.{All, get_or, slice_get}
use Rattle.std.proofs.lemmas.Option.{none-some, slice_get-get_or}
use Rattle.atomic_table.specs.Seated.{TableId}
use Rattle.carbon_history.specs.declared.entry.Entry.{Entry}
use Rattle.carbon_history.specs.Entries.{of_pass}
use Rattle.outside_io.specs.declared.disk.Disk.{Ghosts}
use Rattle.shared_history.specs.Parts.{AreNewPasses, IsNewPass, PassValue, PassesOfTable, own_entries}
use Rattle.shared_store.specs.Closes.{Closes}
use Rattle.shared_store.specs.Passes.{HasRoom}
use Rattle.shared_store.specs.declared.close.Closed.{Closed}
use Rattle.shared_store.specs.declared.drain_end.DrainEnd.{DrainEnd}
use Rattle.http_front.specs.Origin.{Origin}
use Rattle.carbon_serve.specs.Crews.{AllDid, AllWent, CrewValue, Finishes, IsNewCrew, IsServedCrew, MusterValue, Musters}
use Rattle.carbon_serve.specs.Deeds.{Telling}
use Rattle.carbon_serve.specs.Serves.{Serves}
use Rattle.carbon_serve.specs.declared.crew.Duties.{Duties}
use Rattle.carbon_serve.proofs.EndLemmas.{finished, serves}
use Rattle.carbon_serve.proofs.PassLemmas.{Returned, returned, slice_front, slice_last}

abbrev OfTable : TableId → PassValue → Type 0
OfTable table pass = pass.table ≡ table

at_either : (xs : List PassValue) (y : PassValue) (k : ℕ) (p : PassValue) → slice_get (xs ++ y ∷ []) k ≡ Some p → ((j : ℕ) × (slice_get xs j ≡ Some p)) ⊎ (y ≡ p)
at_either [] y zero p at = inr (cc at)
at_either [] y (suc k) p at = absurd (none-some p at)
at_either (x ∷ xs) y zero p at = inl (0, at)
at_either (x ∷ xs) y (suc k) p at = elim (at_either xs y k p at) [
  | inl found ↦ inl (suc found.0, found.1)
  | inr last ↦ inr last
]

-- a new crew's passes are of their table
pub new_ready : (table : TableId) (passes : ℕ) (crew : CrewValue) → IsNewCrew table passes crew → All (OfTable table) crew.served
new_ready table passes crew is k d few =
    let p : PassValue = get_or crew.served k d in
    (is.new k p (slice_front crew.served (crew.own ∷ []) k p (slice_get-get_or crew.served k d few))).same

-- a new crew that worked
pub served_crew : {L : Type 0} (table : TableId) (links : Telling L) (w : Origin) (old new : CrewValue) → IsNewCrew table w.passes old → AllWent w.moments w.start old.served new.served
    → AllDid links w old.duties old.served new.served → new.own ≡ old.own → new.duties ≡ old.duties → IsServedCrew table links w new
served_crew table links w old new is went did own same = record {
  before = old.served;
  new = subst (λ (p : PassValue). AreNewPasses table (old.served ++ p ∷ [])) (sym own) is.new;
  all = subst (λ (p : PassValue). length (old.served ++ p ∷ []) ≡ w.passes) (sym own) is.all;
  went = went;
  did = subst (λ (duties : Duties). AllDid links w duties old.served new.served) (sym same) did;
}

-- ---- the end

module _ {L : Type 0} (table : TableId) (links : Telling L) (w : Origin) (crew : CrewValue) (is : IsServedCrew table links w crew) where
  back : (k : ℕ) (p : PassValue) → slice_get crew.served k ≡ Some p → Returned table w.moments k p
  back = returned table w.moments w.start is.before (crew.own ∷ []) crew.served is.new is.went

  fresh : IsNewPass table (length is.before) crew.own
  fresh = is.new (length is.before) crew.own (slice_last is.before crew.own)

  -- the passes that come back are of the table
  pub served_ready : All (OfTable table) crew.served
  served_ready k d few = let p : PassValue = get_or crew.served k d in (back k p (slice_get-get_or crew.served k d few)).same

  pub own_ready : crew.own.table ≡ table
  own_ready = fresh.same

  pub mustered_ready : (muster : MusterValue) → Musters crew.served crew.own muster → muster.own.table ≡ table
  mustered_ready muster all = all.own.table ∙ own_ready

  -- the crew's own pass has room, since it has made nothing
  pub mustered_room : (muster : MusterValue) → Musters crew.served crew.own muster → HasRoom muster.own
  mustered_room muster all =
      let none : own_entries muster.own ≡ [] = all.own.none ∙ ap (λ (es : List Entry). of_pass crew.own.number es) fresh.seen in
      let count : length (own_entries muster.own) ≡ 0 = ap (λ (es : List Entry). length es) none in
      omega (arith, count)

  -- all passes that end the store are of its table
  pub closing_ready : (muster after : MusterValue) (end : DrainEnd) (closing : List PassValue) → Musters crew.served crew.own muster → Finishes w.moments w.start w.passes muster.is_spent end muster.own after.own
      → after.served ≡ muster.served → closing ≡ after.served ++ after.own ∷ [] → PassesOfTable table closing
  closing_ready muster after end closing all finishes same whole k p at =
      let done = finished w.moments w.start w.passes muster.is_spent end muster.own after.own finishes in
      let served : after.served ≡ crew.served = same ∙ all.served in
      let list : closing ≡ crew.served ++ after.own ∷ [] = whole ∙ ap (λ (ps : List PassValue). ps ++ after.own ∷ []) served in
      elim (at_either crew.served after.own k p (ap (λ (ps : List PassValue). slice_get ps k) (sym list) ∙ at)) [
        | inl found ↦ (back found.0 p found.1).same
        | inr last ↦ ap (λ (q : PassValue). q.table) (sym last) ∙ (done.table ∙ mustered_ready muster all)
      ]

  -- what the service comes to once the store is closed
  pub service_ends : {D : Type 0} (d : Ghosts D) (earlier : ℕ → ℕ) (muster after : MusterValue) (end : DrainEnd) (closing : List PassValue) (closed : Closed D)
      → Musters crew.served crew.own muster → Finishes w.moments w.start w.passes muster.is_spent end muster.own after.own → after.served ≡ muster.served → closing ≡ after.served ++ after.own ∷ []
      → Closes d w.passes w.told w.start earlier closing closed
      → Serves d (record { moments = w.moments; links = links; duties = crew.duties; passes = w.passes }) w.told w.start earlier end closed.history closed.disks.items
  service_ends d earlier muster after end closing closed all finishes same whole closes =
      serves d table links w crew.duties earlier is.before crew.served crew.own muster.own after.own muster.is_spent end closing closed is.new is.all is.went is.did all.own
      all.learned all.spent finishes (whole ∙ ap (λ (ps : List PassValue). ps ++ after.own ∷ []) (same ∙ all.served)) closes
