-- What a start finds on a disk, and what it makes of it.
use Rattle.std.proofs.Common.{◌≡◌, ◌==◌, ◌∙◌, inl, inr, ⊎_elim, ℕ, Bool, true, false, List, [], ◌∷◌, length, Option, None, Some, IfSome, refl, sym, ap, subst, arith, lt-ltb}
use Rattle.std.specs.Prelude.{option_and_then}
use Rattle.std.proofs.lemmas.Bool.{true≢false, eqb-true}
use Rattle.outside_io.specs.Image.{Image, SameImage, WhereKnown}
use Rattle.outside_io.specs.declared.disk.Disk.{Ghosts}
use Rattle.ring_format.specs.Patch.{PatchValue}
use Rattle.redo_log.specs.Arm.{Arms, IsShut, LeavesNothing, MakesNothing, has_byte}
use Rattle.redo_log.specs.Frame.{LooksOnly}
use Rattle.redo_log.specs.Recovery.{IsDamaged as IsDamagedLog, Lays, OpensAs, Recovers, StandsWithin, is_open}
use Rattle.redo_log.specs.Rows.{KeepsRings}
use Rattle.redo_log.specs.Steps.{IsClosed, IsOpen, RedoValue, gate_name, log_name}
use Rattle.carbon_model.specs.RingFiles.{StandsUnder, kept_in}
use Rattle.shard_core.specs.Opened.{IsOpening, MakesLog, Opens, StillOpens}
use Rattle.shard_core.specs.Opening.{IsLogRefused, OpensDisk, RefusesDisk}
use Rattle.shard_core.specs.Shard.{HasFiles}
use Rattle.shard_core.specs.StartFaults.{IsDamagedFile, IsDamagedRing}
use Rattle.shard_core.specs.Starting.{OnDamaged}
use Rattle.shard_core.specs.Table.{Table}
use Rattle.shard_core.specs.Work.{HoldsLog, HoldsRedo, no_work}
use Rattle.shard_core.specs.declared.fault.StartFault.{StartFault}
use Rattle.shard_core.specs.declared.fault.StartFault.TheVariants.{Damaged, DiskFault, NoMemory}
use Rattle.shard_core.proofs.LogLemmas.{files_keep, ring_same, rings_stand}

-- ---- the gate behind a recovery

pub closed_is_shut : (held : Option (List ℕ)) → IsClosed held → IsShut held
closed_is_shut None closed = tt
closed_is_shut (Some []) closed = tt
closed_is_shut (Some (byte ∷ file)) closed = closed

pub shut_unopened : (held : Option (List ℕ)) → IsShut held → is_open held ≡ false
shut_unopened None shut = refl
shut_unopened (Some []) shut = refl
shut_unopened (Some (byte ∷ file)) shut = by (byte == 1) refl
  where
    by : (b : Bool) → (byte == 1) ≡ b → (byte == 1) ≡ false
    by true is = absurd (shut (eqb-true byte 1 is))
    by false is = is

pub shut_known : (known : Option Image) → IfSome known (λ image. IsShut (image gate_name)) → IfSome known (λ image. is_open (image gate_name) ≡ false)
shut_known None shut = tt
shut_known (Some image) shut = shut_unopened (image gate_name) shut

unopened_is_shut : (held : Option (List ℕ)) → is_open held ≡ false → IsShut held
unopened_is_shut None other = tt
unopened_is_shut (Some []) other = tt
unopened_is_shut (Some (byte ∷ file)) other = λ is. absurd (true≢false (sym (subst (λ (n : ℕ). is_open (Some (n ∷ file)) ≡ true) (sym is) refl) ∙ other))

shut_behind : (before after : Image) → Recovers before after → IsShut (after gate_name)
shut_behind before after recovers = ⊎_elim
    (λ none. subst IsShut (sym (none.1 gate_name)) (unopened_is_shut (before gate_name) none.0))
    (λ laid. closed_is_shut (after gate_name) laid.closed) recovers

pub recovered_shut : (a m b : Option Image) → WhereKnown a m Recovers → b ≡ m → IfSome b (λ image. IsShut (image gate_name))
recovered_shut a m b recovers same = subst (λ (o : Option Image). IfSome o (λ image. IsShut (image gate_name))) (sym same) (by a m recovers)
  where
    by : (a m : Option Image) → WhereKnown a m Recovers → IfSome m (λ image. IsShut (image gate_name))
    by None None recovers = tt
    by None (Some after) recovers = absurd recovers
    by (Some before) None recovers = absurd recovers
    by (Some before) (Some after) recovers = shut_behind before after recovers

-- ---- whether there is a gate

some_has : (byte : ℕ) (file : List ℕ) → has_byte (Some (byte ∷ file)) ≡ true
some_has byte file = lt-ltb 0 (length (byte ∷ file)) (omega arith)

open_has : (held : Option (List ℕ)) → IsOpen held → has_byte held ≡ true
open_has None is = absurd is
open_has (Some []) is = absurd cc
open_has (Some (byte ∷ file)) is = some_has byte file

closed_has : (held : Option (List ℕ)) → IsClosed held → has_byte held ≡ true
closed_has None is = absurd is
closed_has (Some []) is = absurd is
closed_has (Some (byte ∷ file)) is = some_has byte file

-- where there is no gate a recovery changes nothing
pub bare_same : (x y : Image) → Recovers x y → has_byte (x gate_name) ≡ false → SameImage x y
bare_same x y recovers none = ⊎_elim (λ same. same.1) (λ laid. absurd (true≢false (sym (open_has (x gate_name) laid.gate) ∙ none))) recovers

pub bare_before : (x y : Image) → Recovers x y → has_byte (y gate_name) ≡ false → has_byte (x gate_name) ≡ false
bare_before x y recovers none =
    ⊎_elim (λ same. ap has_byte (sym (same.1 gate_name)) ∙ none) (λ laid. absurd (true≢false (sym (closed_has (y gate_name) laid.closed) ∙ none))) recovers

pub bare_opens : (x left : Image) → has_byte (x gate_name) ≡ false → OpensAs x left → SameImage x left
bare_opens x left none opens = ⊎_elim (λ same. same) (λ stops. absurd (true≢false (sym (open_has (x gate_name) stops.gate) ∙ none))) opens

-- ---- it opens as it did

stands_laid : (patch : Option PatchValue) (before after : Image) → Lays patch before after → IsClosed (after gate_name) → StandsWithin patch before after
stands_laid None before after rings closed = record { rings = rings; gate = inl closed }
stands_laid (Some patch) before after rings closed = inr (record { rings = rings; gate = inl closed })

opens_laid : (before after : Image) → Recovers before after → OpensAs before after
opens_laid before after recovers = ⊎_elim
    (λ none. inl none.1)
    (λ laid. inr (record { gate = laid.gate; patch = laid.patch; holds = laid.holds; stands = stands_laid laid.patch before after laid.rings laid.closed })) recovers

made_opens : (redo has : Bool) (image opening : Image) → has_byte (image gate_name) ≡ has → IsOpening image opening → MakesLog redo image opening → StillOpens image opening
made_opens false has image opening is whole makes = inl (opens_laid image opening (makes.bare refl))
made_opens true true image opening is whole makes = inl (opens_laid image opening (makes.kept is))
made_opens true false image opening is whole makes = inr (whole.laid, (whole.recovers, record { nothing = inr (makes.made refl is).0; rings = whole.rings }))

-- what a shard was started over
pub started_opens : (redo : Bool) (image opening : Image) → IsOpening image opening → MakesLog redo image opening → StillOpens image opening
started_opens redo image opening whole makes = made_opens redo (has_byte (image gate_name)) image opening refl whole makes

-- behind the recovery
laid_known : (a m : Option Image) → WhereKnown a m Recovers → WhereKnown a m StillOpens
laid_known None None recovers = tt
laid_known None (Some m) recovers = recovers
laid_known (Some a) None recovers = recovers
laid_known (Some a) (Some m) recovers = inl (opens_laid a m recovers)

-- and where the log could not be made
nothing_known : (a m b : Option Image) → WhereKnown a m Recovers → WhereKnown m b LeavesNothing → WhereKnown a b StillOpens
nothing_known None None None recovers left = tt
nothing_known None None (Some b) recovers left = left
nothing_known None (Some m) b recovers left = absurd recovers
nothing_known (Some a) None b recovers left = absurd recovers
nothing_known (Some a) (Some m) None recovers left = left
nothing_known (Some a) (Some m) (Some b) recovers left = inr (m, (recovers, left))

pub as_known : (a b : Option Image) → WhereKnown a b OpensAs → WhereKnown a b StillOpens
as_known None None opens = tt
as_known None (Some b) opens = opens
as_known (Some a) None opens = opens
as_known (Some a) (Some b) opens = inl opens

pub opening_known : (a m b : Option Image) → WhereKnown a m Recovers → WhereKnown m b KeepsRings → WhereKnown a b IsOpening
opening_known None None None recovers keeps = tt
opening_known None None (Some b) recovers keeps = keeps
opening_known None (Some m) b recovers keeps = absurd recovers
opening_known (Some a) None b recovers keeps = absurd recovers
opening_known (Some a) (Some m) None recovers keeps = keeps
opening_known (Some a) (Some m) (Some b) recovers keeps = record { laid = m; recovers = recovers; rings = keeps }

-- the log is made
pub armed_keeps : (a b : Option Image) → WhereKnown a b Arms → WhereKnown a b KeepsRings
armed_keeps None None arms = tt
armed_keeps None (Some b) arms = arms
armed_keeps (Some a) None arms = arms
armed_keeps (Some a) (Some b) arms = arms.rings

-- ---- the table

opens_on : (class : ℕ) (table : Table) (m b : Image) → KeepsRings m b → Opens class (Some m) table → Opens class (Some b) table
opens_on class table m b keeps opens = record {
  kept = opens.kept;
  shown = λ path one. opens.shown path one ∙ ap (λ (held : Option (List ℕ)). option_and_then kept_in held) (sym (ring_same m b path keeps));
  holds = record {
    layouts = opens.holds.layouts;
    files = from_itself b (rings_stand m m b None opens.kept class keeps opens.holds.files);
  };
}
  where
    -- all else is as it is now
    from_itself : (opening : Image) → StandsUnder m b None opens.kept class → StandsUnder b b None opens.kept class
    from_itself opening stands = record { rings = stands.rings; sound = stands.sound; patched = tt; others = λ name no_log no_gate far. refl }

pub opens_known : (class : ℕ) (table : Table) (m b : Option Image) → WhereKnown m b KeepsRings → Opens class m table → Opens class b table
opens_known class table None None keeps opens = opens
opens_known class table None (Some b) keeps opens = absurd keeps
opens_known class table (Some m) None keeps opens = absurd keeps
opens_known class table (Some m) (Some b) keeps opens = opens_on class table m b keeps opens

pub files_known : (class : ℕ) (table : Table) (m b : Option Image) → WhereKnown m b KeepsRings → HasFiles class table None m → HasFiles class table None b
files_known class table None None keeps files = tt
files_known class table None (Some b) keeps files = absurd keeps
files_known class table (Some m) None keeps files = tt
files_known class table (Some m) (Some b) keeps files = files_keep class table None m b keeps files

-- ---- what is damaged

pub ring_damaged : (fault : StartFault) (a m : Option Image) (class : ℕ) → WhereKnown a m Recovers → IsDamagedRing fault m class → IsDamagedFile fault a class
ring_damaged (Damaged name) None m class recovers damaged = tt
ring_damaged (Damaged name) (Some a) None class recovers damaged = absurd recovers
ring_damaged (Damaged name) (Some a) (Some m) class recovers damaged = inr (m, (recovers, damaged))
ring_damaged DiskFault a m class recovers damaged = tt
ring_damaged NoMemory a m class recovers damaged = tt

log_known : (fault : StartFault) (a : Option Image) (class : ℕ) → OnDamaged fault (λ name. (name ≡ log_name) × IfSome a IsDamagedLog) → IsDamagedFile fault a class
log_known (Damaged name) None class damaged = tt
log_known (Damaged name) (Some a) class damaged = inl (damaged.0, damaged.1)
log_known DiskFault a class damaged = tt
log_known NoMemory a class damaged = tt

pub log_refuses : (fault : StartFault) (a b : Option Image) (class : ℕ) → IsLogRefused fault a b → RefusesDisk fault class a b
log_refuses fault a b class refused = record { opens = as_known a b refused.opens; damaged = log_known fault a class refused.damaged }

-- ---- what is made besides

pub still_has : (x y : Image) → Recovers x y → has_byte (x gate_name) ≡ true → has_byte (y gate_name) ≡ true
still_has x y recovers is = ⊎_elim (λ same. ap has_byte (same.1 gate_name) ∙ is) (λ laid. closed_has (y gate_name) laid.closed) recovers

still_none : (x y : Image) → Recovers x y → has_byte (x gate_name) ≡ false → has_byte (y gate_name) ≡ false
still_none x y recovers none = ap has_byte (bare_same x y recovers none gate_name) ∙ none

recovers_to : (x y z : Image) → Recovers x y → Some z ≡ Some y → Recovers x z
recovers_to x y z recovers same = subst (λ (o : Option Image). IfSome o (λ image. Recovers x image)) (sym same) recovers

makes_by : (is_logged : Bool) (a m b : Option Image) → WhereKnown a m Recovers → WhereKnown m b KeepsRings → (is_logged ≡ false → b ≡ m) → IfSome m (λ image. has_byte (image gate_name) ≡ true → b ≡ m)
    → (is_logged ≡ true → WhereKnown m b MakesNothing) → WhereKnown a b (MakesLog is_logged)
makes_by is_logged None None None recovers keeps bare kept made = tt
makes_by is_logged None None (Some z) recovers keeps bare kept made = keeps
makes_by is_logged None (Some y) b recovers keeps bare kept made = absurd recovers
makes_by is_logged (Some x) None b recovers keeps bare kept made = absurd recovers
makes_by is_logged (Some x) (Some y) None recovers keeps bare kept made = keeps
makes_by is_logged (Some x) (Some y) (Some z) recovers keeps bare kept made = record {
  bare = λ none. recovers_to x y z recovers (bare none);
  kept = λ is. recovers_to x y z recovers (kept (still_has x y recovers is));
  made = λ logged none. made logged (still_none x y recovers none);
}

-- behind the read of the heads
pub makes_known : (is_logged : Bool) (a m t b : Option Image) → WhereKnown a m Recovers → t ≡ m → WhereKnown t b KeepsRings → (is_logged ≡ false → b ≡ t) → IfSome t (λ image. has_byte (image gate_name) ≡ true → b ≡ t)
    → (is_logged ≡ true → WhereKnown t b MakesNothing) → WhereKnown a b (MakesLog is_logged)
makes_known is_logged a m t b recovers same =
    subst (λ (o : Option Image). WhereKnown o b KeepsRings → (is_logged ≡ false → b ≡ o) → IfSome o (λ image. has_byte (image gate_name) ≡ true → b ≡ o) → (is_logged ≡ true → WhereKnown o b MakesNothing) → WhereKnown a b (MakesLog is_logged))
    (sym same) (makes_by is_logged a m b recovers)

-- nothing is made
pub same_kept : (a b : Option Image) → b ≡ a → IfSome a (λ image. has_byte (image gate_name) ≡ true → b ≡ a)
same_kept None b same = tt
same_kept (Some x) b same = λ is. same

-- or the log is made by a call that only looks where there is a gate
by_looks : {D : Type 0} (d : Ghosts D) (known : Option Image) (disk new : D) (failed : Type 0) → IfSome known (λ image. has_byte (image gate_name) ≡ true → LooksOnly d disk new failed) → IfSome known (λ image. has_byte (image gate_name) ≡ true → d.image new ≡ d.image disk)
by_looks d None disk new failed looks = tt
by_looks d (Some x) disk new failed looks = λ is. (looks is).kept

pub looked_kept : {D : Type 0} (d : Ghosts D) (disk new : D) (failed : Type 0) → IfSome (d.image disk) (λ image. has_byte (image gate_name) ≡ true → LooksOnly d disk new failed)
    → IfSome (d.image disk) (λ image. has_byte (image gate_name) ≡ true → d.image new ≡ d.image disk)
looked_kept d disk new failed looks = by_looks d (d.image disk) disk new failed looks

-- ---- the whole opening

keeps_behind : (m t b : Option Image) → t ≡ m → WhereKnown t b KeepsRings → WhereKnown m b KeepsRings
keeps_behind m t b same keeps = subst (λ (o : Option Image). WhereKnown o b KeepsRings) same keeps

-- before it, behind the recovery, behind the read of the heads, and behind the making of the log
pub all_opened : (class : ℕ) (is_logged : Bool) (table : Table) (a m t b : Option Image) → WhereKnown a m Recovers → t ≡ m → WhereKnown t b KeepsRings → Opens class m table → HasFiles class table None m → HoldsLog (no_work is_logged).log b
    → WhereKnown a b (MakesLog is_logged) → OpensDisk class is_logged a b table
all_opened class is_logged table a m t b recovers same keeps opens files log makes = record {
  opening = opening_known a m b recovers (keeps_behind m t b same keeps);
  makes = makes;
  opens = opens_known class table m b (keeps_behind m t b same keeps) opens;
  files = files_known class table m b (keeps_behind m t b same keeps) files;
  log = log;
}

pub heads_refused : (fault : StartFault) (class : ℕ) (a m t : Option Image) → WhereKnown a m Recovers → t ≡ m → IsDamagedRing fault m class → RefusesDisk fault class a t
heads_refused fault class a m t recovers same damaged = record {
  opens = subst (λ (o : Option Image). WhereKnown a o StillOpens) (sym same) (laid_known a m recovers);
  damaged = ring_damaged fault a m class recovers damaged;
}

pub log_refused : (class : ℕ) (a m t b : Option Image) → WhereKnown a m Recovers → t ≡ m → WhereKnown t b LeavesNothing → RefusesDisk DiskFault class a b
log_refused class a m t b recovers same left =
    record { opens = nothing_known a m b recovers (subst (λ (o : Option Image). WhereKnown o b LeavesNothing) same left); damaged = tt }

-- ---- where nothing is being written

pub gate_shut : (log : Option (Option RedoValue)) (known : Option Image) → IfSome log (λ redo. redo ≡ None) → HoldsLog log known → IfSome known (λ image. is_open (image gate_name) ≡ false)
gate_shut None known empty holds = holds
gate_shut (Some redo) None empty holds = tt
gate_shut (Some redo) (Some image) empty holds =
    let closed : IsClosed (image gate_name) = subst (λ (r : Option RedoValue). HoldsRedo r image) empty holds in shut_unopened (image gate_name) (closed_is_shut (image gate_name) closed)
