-- What a crash leaves of a start.
use Rattle.std.proofs.Common.{◌≡◌, ◌⊎◌, ◌∙◌, inl, inr, ⊎_elim, ℕ, Bool, true, false, List, Option, None, Some, IfSome, refl, sym, ap, subst, arith}
use Rattle.std.proofs.lemmas.Bool.{true≢false}
use Rattle.outside_io.specs.Crash.{LeavesOnly}
use Rattle.outside_io.specs.Frames.{ReadsOnly}
use Rattle.outside_io.specs.Image.{Image, SameImage, WhereKnown}
use Rattle.outside_io.specs.declared.disk.Disk.{Ghosts}
use Rattle.outside_io.proofs.FrameLemmas.{reads_only_crashes, reads_only_leaves}
use Rattle.redo_log.specs.Arm.{IsShut, LeavesBare, LeavesGate, LeavesWithin, MayArm, has_byte}
use Rattle.redo_log.specs.Recovery.{RecoverCrashes, RecoverLeaves, Recovers}
use Rattle.redo_log.specs.Rows.{InRow, LeavesClosed}
use Rattle.redo_log.specs.Steps.{gate_name}
use Rattle.redo_log.proofs.MomentLemmas.{leaves_both, leaves_more}
use Rattle.shard_core.specs.StartCrashes.{HadGate, StartMayLeave}
use Rattle.shard_core.proofs.OpenLemmas.{bare_before, bare_opens, bare_same, closed_is_shut, still_has}

-- ---- behind the recovery

-- what a crash leaves there it might have left at a moment of it
leaves_behind : {D : Type 0} (d : Ghosts D) (a m : D) {ended : Type 0} → RecoverCrashes d a m ended → (left : Image) → d.may_leave m left → RecoverLeaves (d.image a) (d.may_leave a) left
leaves_behind d a m crash left may = crash.leaves.each left (d.counts_now m (d.moment a) left crash.leaves.later may)

gate_known : (a m : Option Image) (after : Image → Type 0) → WhereKnown a m Recovers → (IfSome a (λ x. has_byte (x gate_name) ≡ true) → InRow None m after) → LeavesGate m after
gate_known None None after recovers behind = tt
gate_known None (Some y) after recovers behind = absurd recovers
gate_known (Some x) None after recovers behind = tt
gate_known (Some x) (Some y) after recovers behind = λ byte left may. closed (has_byte (x gate_name)) refl byte left may
  where
    closed : (b : Bool) → has_byte (x gate_name) ≡ b → has_byte (y gate_name) ≡ true → (left : Image) → after left → LeavesClosed y left
    closed true is byte left may = behind is left may
    closed false is byte left may = absurd (true≢false (sym byte ∙ ap has_byte (bare_same x y recovers is gate_name) ∙ is))

bare_known : (a m : Option Image) (before after : Image → Type 0) → LeavesBare a before → WhereKnown a m Recovers → ((left : Image) → after left → RecoverLeaves a before left) → LeavesBare m after
bare_known None None before after bare recovers leaves = tt
bare_known None (Some y) before after bare recovers leaves = absurd recovers
bare_known (Some x) None before after bare recovers leaves = tt
bare_known (Some x) (Some y) before after bare recovers leaves = λ none left may.
    let first : has_byte (x gate_name) ≡ false = bare_before x y recovers none in
    let same : SameImage x y = bare_same x y recovers first in
    ⊎_elim (λ stay. (λ (name : List ℕ). stay.2 name ∙ bare first stay.0 stay.1 name ∙ sym (same name)))
    (λ opens. (λ (name : List ℕ). bare_opens x left first opens name ∙ sym (same name))) (leaves left may)

-- whatever was on the device
pub leaves_gate : {D : Type 0} (d : Ghosts D) (a m : D) {ended : Type 0} → WhereKnown (d.image a) (d.image m) Recovers → ended → RecoverCrashes d a m ended → LeavesGate (d.image m) (d.may_leave m)
leaves_gate d a m recovers ended crash = gate_known (d.image a) (d.image m) (d.may_leave m) recovers (crash.behind ended)

pub may_arm : {D : Type 0} (d : Ghosts D) (a m : D) {ended : Type 0} → LeavesBare (d.image a) (d.may_leave a) → WhereKnown (d.image a) (d.image m) Recovers → ended → RecoverCrashes d a m ended → MayArm (d.image m) (d.may_leave m)
may_arm d a m bare recovers ended crash = record {
  armed = leaves_gate d a m recovers ended crash;
  bare = bare_known (d.image a) (d.image m) (d.may_leave a) (d.may_leave m) bare recovers (leaves_behind d a m crash);
}

fewer_gate : (known : Option Image) (may_leave may_leave' : Image → Type 0) → ((left : Image) → may_leave' left → may_leave left) → LeavesGate known may_leave → LeavesGate known may_leave'
fewer_gate None may_leave may_leave' back gate = tt
fewer_gate (Some image) may_leave may_leave' back gate = λ byte left now. gate byte left (back left now)

fewer_bare : (known : Option Image) (may_leave may_leave' : Image → Type 0) → ((left : Image) → may_leave' left → may_leave left) → LeavesBare known may_leave → LeavesBare known may_leave'
fewer_bare None may_leave may_leave' back bare = tt
fewer_bare (Some image) may_leave may_leave' back bare = λ none left now. bare none left (back left now)

-- and behind the read of the heads
pub gate_read : {D : Type 0} (d : Ghosts D) (m t : D) {failed : Type 0} → ReadsOnly d m t failed → LeavesGate (d.image m) (d.may_leave m) → LeavesGate (d.image t) (d.may_leave t)
gate_read d m t reads gate =
    subst (λ (known : Option Image). LeavesGate known (d.may_leave t)) (sym reads.kept) (fewer_gate (d.image m) (d.may_leave m) (d.may_leave t) (reads_only_crashes m t reads).leaves gate)

bare_read : {D : Type 0} (d : Ghosts D) (m t : D) {failed : Type 0} → ReadsOnly d m t failed → LeavesBare (d.image m) (d.may_leave m) → LeavesBare (d.image t) (d.may_leave t)
bare_read d m t reads bare =
    subst (λ (known : Option Image). LeavesBare known (d.may_leave t)) (sym reads.kept) (fewer_bare (d.image m) (d.may_leave m) (d.may_leave t) (reads_only_crashes m t reads).leaves bare)

may_arm_read : {D : Type 0} (d : Ghosts D) (m t : D) {failed : Type 0} → ReadsOnly d m t failed → MayArm (d.image m) (d.may_leave m) → MayArm (d.image t) (d.may_leave t)
may_arm_read d m t reads arm = record { armed = gate_read d m t reads arm.armed; bare = bare_read d m t reads arm.bare }

-- ---- the making of the log

idle_within : (known : Option Image) (may_leave : Image → Type 0) → IfSome known (λ image. IsShut (image gate_name)) → MayArm known may_leave → (left : Image) → may_leave left → LeavesWithin known left
idle_within None may_leave shut arm left may = tt
idle_within (Some image) may_leave shut arm left may = by (has_byte (image gate_name)) refl
  where
    by : (b : Bool) → has_byte (image gate_name) ≡ b → LeavesWithin (Some image) left
    by true is = let row = arm.armed is left may in record { nothing = inl (closed_is_shut (left gate_name) row.gate); rings = row.rings }
    by false is =
        let same : SameImage image left = arm.bare is left may in
        record { nothing = inl (subst IsShut (sym (same gate_name)) shut); rings = λ name no_log no_gate. same name }

-- where drains do not go through it
pub makes_none : {D : Type 0} (d : Ghosts D) (disk : D) → IfSome (d.image disk) (λ image. IsShut (image gate_name)) → MayArm (d.image disk) (d.may_leave disk) → LeavesOnly d.moment d.left_since disk disk (LeavesWithin (d.image disk))
makes_none d disk shut arm = record {
  later = omega arith;
  each = λ left since. idle_within (d.image disk) (d.may_leave disk) shut arm left (d.only_now disk left since);
  before = λ t left le since. inl since;
}

-- ---- the whole start

recover_starts : (known : Option Image) (may_leave : Image → Type 0) (left : Image) → RecoverLeaves known may_leave left → StartMayLeave known may_leave left
recover_starts None may_leave left leaves = ⊎_elim (λ stay. inl stay) (λ opens. inr tt) leaves
recover_starts (Some x) may_leave left leaves = ⊎_elim (λ stay. inl stay) (λ opens. inr (inl opens)) leaves

log_starts : (a t : Option Image) (may_leave : Image → Type 0) (left : Image) → WhereKnown a t Recovers → LeavesWithin t left → StartMayLeave a may_leave left
log_starts None t may_leave left recovers within = inr tt
log_starts (Some x) None may_leave left recovers within = absurd recovers
log_starts (Some x) (Some y) may_leave left recovers within = inr (inr (y, (recovers, within)))

-- nothing was called
pub none_starts : {D : Type 0} (d : Ghosts D) (disk : D) → LeavesBare (d.image disk) (d.may_leave disk) → LeavesOnly d.moment d.left_since disk disk (StartMayLeave (d.image disk) (d.may_leave disk))
none_starts d disk bare = record {
  later = omega arith;
  each = λ left since. inl (left, d.only_now disk left since, λ name. refl);
  before = λ t left le since. inl since;
}

-- as far as the recovery
pub recovery_starts : {D : Type 0} (d : Ghosts D) (a m : D) {ended : Type 0} → RecoverCrashes d a m ended → LeavesOnly d.moment d.left_since a m (StartMayLeave (d.image a) (d.may_leave a))
recovery_starts d a m crash =
    leaves_more d.moment d.left_since a m (RecoverLeaves (d.image a) (d.may_leave a)) (StartMayLeave (d.image a) (d.may_leave a)) (recover_starts (d.image a) (d.may_leave a)) crash.leaves

-- as far as the read of the heads
pub reading_starts : {D : Type 0} (d : Ghosts D) (a m t : D) {ended failed : Type 0} → RecoverCrashes d a m ended → ReadsOnly d m t failed → LeavesOnly d.moment d.left_since a t (StartMayLeave (d.image a) (d.may_leave a))
reading_starts d a m t crash reads =
    leaves_both d.moment d.left_since a m t (StartMayLeave (d.image a) (d.may_leave a)) (recovery_starts d a m crash)
    (reads_only_leaves d m t (StartMayLeave (d.image a) (d.may_leave a)) reads (λ left may. recover_starts (d.image a) (d.may_leave a) left (leaves_behind d a m crash left may)))

-- to its end
pub all_starts : {D : Type 0} (d : Ghosts D) (a m t b : D) {ended failed : Type 0} → RecoverCrashes d a m ended → ReadsOnly d m t failed → WhereKnown (d.image a) (d.image m) Recovers → ended
    → (MayArm (d.image t) (d.may_leave t) → LeavesOnly d.moment d.left_since t b (LeavesWithin (d.image t))) → LeavesBare (d.image a) (d.may_leave a) → LeavesOnly d.moment d.left_since a b (StartMayLeave (d.image a) (d.may_leave a))
all_starts d a m t b crash reads recovers ended makes bare =
    leaves_both d.moment d.left_since a t b (StartMayLeave (d.image a) (d.may_leave a)) (reading_starts d a m t crash reads)
    (leaves_more d.moment d.left_since t b (LeavesWithin (d.image t)) (StartMayLeave (d.image a) (d.may_leave a))
    (λ left. log_starts (d.image a) (d.image t) (d.may_leave a) left (subst (λ (known : Option Image). WhereKnown (d.image a) known Recovers) (sym reads.kept) recovers))
    (makes (may_arm_read d m t reads (may_arm d a m bare recovers ended crash))))

-- a gate is there behind the recovery and the read of the heads
gate_there : (a m t : Option Image) → WhereKnown a m Recovers → t ≡ m → HadGate a → HadGate t
gate_there None None t recovers same had = subst HadGate (sym same) tt
gate_there None (Some m) t recovers same had = absurd recovers
gate_there (Some a) None t recovers same had = absurd recovers
gate_there (Some a) (Some m) t recovers same had = subst HadGate (sym same) (still_has a m recovers had)

pub given_there : {P : Type 0} (a m t : Option Image) → WhereKnown a m Recovers → t ≡ m → P ⊎ HadGate a → P ⊎ HadGate t
given_there a m t recovers same (inl is) = inl is
given_there a m t recovers same (inr had) = inr (gate_there a m t recovers same had)

-- where nothing is made
pub gate_row : (known : Option Image) (may_leave : Image → Type 0) → HadGate known → LeavesGate known may_leave → InRow None known may_leave
gate_row None may_leave had gate = tt
gate_row (Some image) may_leave had gate = gate had

-- behind it, where drains go through the log or there was a gate
pub start_behind : {D : Type 0} (d : Ghosts D) (a m t : D) (b : Option Image) (may_leave : Image → Type 0) {ended failed : Type 0} → RecoverCrashes d a m ended → ReadsOnly d m t failed → WhereKnown (d.image a) (d.image m) Recovers → ended
    → (LeavesGate (d.image t) (d.may_leave t) → InRow None b may_leave) → InRow None b may_leave
start_behind d a m t b may_leave crash reads recovers ended makes = makes (gate_read d m t reads (leaves_gate d a m recovers ended crash))
