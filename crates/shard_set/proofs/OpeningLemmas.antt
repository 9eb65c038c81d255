-- What the starts of single shards make of the disks of all classes.
use Rattle.std.proofs.Common.{◌≡◌, inl, inr, ◌∙◌, ℕ, zero, suc, Bool, ◌+◌, ◌<◌, ◌≤◌, List, [], ◌∷◌, ◌++◌, length, map, Option, Some, None, Result, Ok, Err, IfErr, IfOk, IfSome, IsSomeAnd, refl, sym, ap, subst, arith}
use Rattle.std.specs.Option.{option_map_or}
use Rattle.std.specs.Prelude.{drop, option_and_then, slice_get}
use Rattle.std.proofs.lemmas.Bool.Decides.{eqb_tells}
use Rattle.std.proofs.lemmas.Option.{none-some}
use Rattle.outside_io.specs.Image.{Image, WhereKnown}
use Rattle.outside_io.specs.declared.disk.Disk.{Ghosts}
use Rattle.carbon_model.specs.RingFiles.{Settings}
use Rattle.shard_core.specs.Opened.{IsOpening, IsSoundDisk, MakesLog, Opens, StillOpens}
use Rattle.shard_core.specs.StartFaults.{IsDamagedFile, NotStarted}
use Rattle.shard_core.specs.Started.{StartedFrom}
use Rattle.shard_core.specs.Table.{Table}
use Rattle.shard_core.specs.declared.fault.StartFault.{StartFault}
use Rattle.shard_core.specs.declared.fault.StartFault.TheVariants.{NoMemory}
use Rattle.shard_core.specs.declared.shard.Shard.{Shard}
use Rattle.shard_core.proofs.CrashLemmas.{none_starts}
use Rattle.shard_core.proofs.OpenLemmas.{started_opens}
use Rattle.shard_set.specs.Disks.{told_at, told_of}
use Rattle.shard_set.specs.Opening.{AreStarted, HandsBack, RefusesAll, RefusesNext, StartsAll, StartsNext}
use Rattle.shard_set.specs.declared.refused.Refusal.{Refusal}
use Rattle.shard_set.proofs.ListLemmas.{first_left, length_pushed, none_together, pushed_here, pushed_other}

-- ---- shard after shard

pushed_starts : {D : Type 0} {d : Ghosts D} (settings : Settings) (redo : Bool) (disks : List D) (shards : List (Shard D d)) (disk : D) (shard : Shard D d) → slice_get disks (length shards) ≡ Some disk → StartedFrom (length shards) settings redo disk shard
    → AreStarted settings redo disks shards → AreStarted settings redo disks (shards ++ shard ∷ [])
pushed_starts settings redo disks shards disk shard there from started k = elim (eqb_tells k (length shards)) [
  | inl same ↦ subst (λ (i : ℕ). IfSome (slice_get (shards ++ shard ∷ []) i) (λ s. IsSomeAnd (slice_get disks i) (λ x. StartedFrom i settings redo x s))) (sym same.1) (rw (pushed_here shards shard, there) from)
  | inr other ↦ rw (pushed_other shards shard k other.1) (started k)
]

pub started_more : {D : Type 0} {d : Ghosts D} (settings : Settings) (redo : Bool) (disks left left' : List D) (shards shards' : List (Shard D d)) → left ≡ drop (length shards) disks → StartsNext settings redo left shards shards' left' → AreStarted settings redo disks shards
    → AreStarted settings redo disks shards' × (left' ≡ drop (length shards') disks)
started_more settings redo disks left left' shards shards' rest next started =
    let first = first_left (length shards) disks left' next.disk (sym next.taken ∙ rest) in (
      subst (λ xs. AreStarted settings redo disks xs) (sym next.more) (pushed_starts settings redo disks shards next.disk next.shard first.0 next.started started),
      first.1 ∙ ap (λ (n : ℕ). drop n disks) (sym (length_pushed shards next.shard)) ∙ ap (λ xs. drop (length xs) disks) (sym next.more),
    )

-- how many there are after a start
pub next_counts : {D : Type 0} {d : Ghosts D} (settings : Settings) (redo : Bool) (left left' : List D) (shards shards' : List (Shard D d)) → StartsNext settings redo left shards shards' left' → (length shards' ≡ length shards + 1) × (length left' + 1 ≡ length left)
next_counts settings redo left left' shards shards' next = (
  ap (λ xs. length xs) next.more ∙ length_pushed shards next.shard ∙ omega arith,
  let e : length (next.disk ∷ left') ≡ length left' + 1 = omega arith in sym e ∙ ap (λ xs. length xs) (sym next.taken),
)

-- ---- what a start leaves

still_itself : (image : Image) → StillOpens image image
still_itself image = inl (inl (λ name. refl))

pub itself_known : (known : Option Image) → WhereKnown known known StillOpens
itself_known None = tt
itself_known (Some image) = still_itself image

opens_known : (redo : Bool) (a b : Option Image) → WhereKnown a b IsOpening → WhereKnown a b (MakesLog redo) → WhereKnown a b StillOpens
opens_known redo None None opening makes = tt
opens_known redo None (Some b) opening makes = opening
opens_known redo (Some a) None opening makes = opening
opens_known redo (Some a) (Some b) opening makes = started_opens redo a b opening makes

-- a disk over which a shard started is sound
sound_image : (class : ℕ) (told : Option Image) (table : Table) → Opens class told table → IfSome told (IsSoundDisk class)
sound_image class None table opens = tt
sound_image class (Some image) table opens = λ path one. opens.holds.files.sound path one refl

sound_at : {D : Type 0} {d : Ghosts D} (settings : Settings) (redo : Bool) (k : ℕ) (o : Option (Shard D d)) (p : Option D) → IfSome o (λ s. IsSomeAnd p (λ disk. StartedFrom k settings redo disk s))
    → IfSome (option_and_then (λ s. d.image s.files.disk) o) (IsSoundDisk k)
sound_at settings redo k None p started = tt
sound_at settings redo k (Some s) None started = absurd started
sound_at {d = d} settings redo k (Some s) (Some disk) started = sound_image k (d.image s.files.disk) s.desk.table started.opens

-- ---- a refusal

-- the disk of a shard that started opens as it did
opens_there : {D : Type 0} {d : Ghosts D} (settings : Settings) (redo : Bool) (k : ℕ) (o : Option (Shard D d)) (p : Option D) → IfSome o (λ s. IsSomeAnd p (λ disk. StartedFrom k settings redo disk s))
    → IfSome o (λ s. IsSomeAnd p (λ disk. WhereKnown (d.image disk) (d.image s.files.disk) StillOpens))
opens_there settings redo k None p started = tt
opens_there settings redo k (Some s) None started = absurd started
opens_there {d = d} settings redo k (Some s) (Some disk) started = opens_known redo (d.image disk) (d.image s.files.disk) started.opening started.makes

opens_back : {D : Type 0} {d : Ghosts D} (disks given : List D) (shards : List (Shard D d)) → ((k : ℕ) → IfSome (slice_get shards k) (λ s. IsSomeAnd (slice_get disks k) (λ disk. WhereKnown (d.image disk) (d.image s.files.disk) StillOpens)))
    → ((k : ℕ) → WhereKnown (told_of d.image (drop (length shards) disks) k) (told_of d.image given k) StillOpens) → (k : ℕ) → WhereKnown (told_of d.image disks k) (told_of d.image (map (λ s. s.files.disk) shards ++ given) k) StillOpens
opens_back disks given [] opens rest k = rest k
opens_back [] given (s ∷ shards) opens rest k = absurd (opens 0)
opens_back (x ∷ disks) given (s ∷ shards) opens rest zero = opens 0
opens_back (x ∷ disks) given (s ∷ shards) opens rest (suc k) = opens_back disks given shards (λ j. opens (suc j)) rest k

length_back : {D : Type 0} {d : Ghosts D} (disks given : List D) (shards : List (Shard D d)) → ((k : ℕ) → IfSome (slice_get shards k) (λ s. IsSomeAnd (slice_get disks k) (λ disk. WhereKnown (d.image disk) (d.image s.files.disk) StillOpens)))
    → length given ≡ length (drop (length shards) disks) → length (map (λ s. s.files.disk) shards ++ given) ≡ length disks
length_back disks given [] opens same = same
length_back [] given (s ∷ shards) opens same = absurd (opens 0)
length_back (x ∷ disks) given (s ∷ shards) opens same = ap suc (length_back disks given shards (λ k. opens (suc k)) same)

-- the first of the disks is another, which opens as it did
opens_first : {D : Type 0} (image : D → Option Image) (disk back : D) (rest : List D) → WhereKnown (image disk) (image back) StillOpens → (k : ℕ) → WhereKnown (told_of image (disk ∷ rest) k) (told_of image (back ∷ rest) k) StillOpens
opens_first image disk back rest opens zero = opens
opens_first image disk back rest opens (suc k) = itself_known (told_of image rest k)

told_front : {D : Type 0} {d : Ghosts D} (shards : List (Shard D d)) (given : List D) (k : ℕ) → k < length shards → told_of d.image (map (λ s. s.files.disk) shards ++ given) k ≡ told_at shards k
told_front [] given k less = absurd (omega (arith, less))
told_front (s ∷ shards) given zero less = refl
told_front (s ∷ shards) given (suc k) less = told_front shards given k (omega (arith, less))

behind_disks : {D : Type 0} {d : Ghosts D} (shards : List (Shard D d)) (disk : D) (rest : List D) → slice_get (map (λ s. s.files.disk) shards ++ disk ∷ rest) (length shards) ≡ Some disk
behind_disks [] disk rest = refl
behind_disks (s ∷ shards) disk rest = behind_disks shards disk rest

refused_at : {D : Type 0} {d : Ghosts D} (settings : Settings) (redo : Bool) (refusal : Refusal) (disks left left' : List D) (shards shards' : List (Shard D d)) → AreStarted settings redo disks shards → left ≡ drop (length shards) disks
    → RefusesNext refusal.fault left shards shards' left' → length shards ≡ refusal.class → HandsBack d disks (map (λ s. s.files.disk) shards ++ left') refusal
refused_at {d = d} settings redo refusal disks left left' shards shards' started rest next count =
    let first = first_left (length shards) disks next.rest next.disk (sym next.taken ∙ rest) in
    let there = λ (k : ℕ). opens_there settings redo k (slice_get shards k) (slice_get disks k) (started k) in
    record {
      all = length_back disks left' shards there (ap (λ xs. length xs) next.given ∙ ap (λ xs. length xs) (sym next.taken ∙ rest));
      opens = opens_back disks left' shards there (λ k. subst (λ xs. WhereKnown (told_of d.image xs k) (told_of d.image left' k) StillOpens) (sym next.taken ∙ rest)
          (subst (λ xs. WhereKnown (told_of d.image (next.disk ∷ next.rest) k) (told_of d.image xs k) StillOpens) (sym next.given) (opens_first d.image next.disk next.back next.rest next.opens k)));
      damaged = subst (λ (n : ℕ). IsSomeAnd (slice_get disks n) (λ disk. IsDamagedFile refusal.fault (d.image disk) n)) count (rw first.0 next.damaged);
      below = λ k before. subst (λ (o : Option Image). IfSome o (IsSoundDisk k)) (sym (told_front shards left' k (omega (arith, before, count))))
          (sound_at settings redo k (slice_get shards k) (slice_get disks k) (started k));
      cause = λ fault. rw (sym count, first.0, next.given, behind_disks shards next.back next.rest) (next.cause fault);
    }

pub handed_back : {D : Type 0} {d : Ghosts D} (settings : Settings) (redo : Bool) (refusal : Refusal) (disks left left' back : List D) (shards shards' : List (Shard D d)) → AreStarted settings redo disks shards → left ≡ drop (length shards) disks
    → RefusesNext refusal.fault left shards shards' left' → back ≡ map (λ s. s.files.disk) shards' ++ left' → length shards ≡ refusal.class → HandsBack d disks back refusal
handed_back {d = d} settings redo refusal disks left left' back shards shards' started rest next given count =
    subst (λ xs. HandsBack d disks xs refusal) (sym (given ∙ ap (λ xs. map (λ s. s.files.disk) xs ++ left') next.none))
    (refused_at settings redo refusal disks left left' shards shards' started rest next count)

damaged_at : {D : Type 0} (image : D → Option Image) (o : Option D) (fault : StartFault) (class : ℕ) → IsSomeAnd o (λ disk. IsDamagedFile fault (image disk) class) → IsDamagedFile fault (option_and_then image o) class
damaged_at image None fault class damaged = absurd damaged
damaged_at image (Some disk) fault class damaged = damaged

pub refuses_all : {D : Type 0} {d : Ghosts D} (disks back : List D) (refusal : Refusal) → length disks ≡ 16 → refusal.class < 16 → HandsBack d disks back refusal → RefusesAll d disks back refusal
refuses_all {d = d} disks back refusal all few hands = record {
  class = few;
  all = hands.all ∙ all;
  opens = hands.opens;
  damaged = damaged_at d.image (slice_get disks refusal.class) refusal.fault refusal.class hands.damaged;
  below = hands.below;
  cause = hands.cause;
}

-- memory ran out before anything was done
pub not_started : {D : Type 0} (d : Ghosts D) (class : ℕ) (disk : D) → NotStarted d class disk disk NoMemory
not_started d class disk = record { opens = itself_known (d.image disk); damaged = tt; later = omega arith; cause = λ is. absurd is; crash = none_starts d disk }

pub none_started : {D : Type 0} (d : Ghosts D) (disks : List D) → length disks ≡ 16 → RefusesAll d disks disks (record { class = 0; fault = NoMemory })
none_started d disks all = record {
  class = omega arith;
  all = all;
  opens = λ k. itself_known (told_of d.image disks k);
  damaged = tt;
  below = λ k before. absurd (omega (arith, before));
  cause = λ is. absurd is;
}

-- ---- all shards

fewer : {D : Type 0} {d : Ghosts D} (settings : Settings) (redo : Bool) (k : ℕ) (o : Option (Shard D d)) (p : Option D) → (o ≡ None → p ≡ None) → IfSome o (λ s. IsSomeAnd p (λ disk. StartedFrom k settings redo disk s))
    → option_map_or d.faults p 0 ≤ option_map_or (λ s. d.faults s.files.disk) o 0
fewer settings redo k None None none started = omega arith
fewer settings redo k None (Some disk) none started = absurd (none-some disk (sym (none refl)))
fewer settings redo k (Some s) None none started = absurd started
fewer settings redo k (Some s) (Some disk) none started = started.later

opening_at : {D : Type 0} {d : Ghosts D} (settings : Settings) (redo : Bool) (k : ℕ) (o : Option (Shard D d)) (p : Option D) → (o ≡ None → p ≡ None) → IfSome o (λ s. IsSomeAnd p (λ disk. StartedFrom k settings redo disk s))
    → WhereKnown (option_and_then d.image p) (option_and_then (λ s. d.image s.files.disk) o) IsOpening
opening_at settings redo k None None none started = tt
opening_at settings redo k None (Some disk) none started = absurd (none-some disk (sym (none refl)))
opening_at settings redo k (Some s) None none started = absurd started
opening_at settings redo k (Some s) (Some disk) none started = started.opening

none_opens : (a : Option Image) → WhereKnown a None IsOpening → WhereKnown a None StillOpens
none_opens None opening = tt
none_opens (Some image) opening = opening

still_at : {D : Type 0} {d : Ghosts D} (settings : Settings) (redo : Bool) (k : ℕ) (o : Option (Shard D d)) (p : Option D) → IfSome o (λ s. IsSomeAnd p (λ disk. StartedFrom k settings redo disk s))
    → WhereKnown (option_and_then d.image p) (option_and_then (λ s. d.image s.files.disk) o) IsOpening
    → WhereKnown (option_and_then d.image p) (option_and_then (λ s. d.image s.files.disk) o) StillOpens
still_at settings redo k None None started opening = tt
still_at {d = d} settings redo k None (Some disk) started opening = none_opens (d.image disk) opening
still_at settings redo k (Some s) None started opening = absurd started
still_at {d = d} settings redo k (Some s) (Some disk) started opening = opens_known redo (d.image disk) (d.image s.files.disk) started.opening started.makes

-- what shards were started over opens as it did
pub still_all : {D : Type 0} {d : Ghosts D} (settings : Settings) (redo : Bool) (disks : List D) (shards : List (Shard D d)) → StartsAll settings redo disks shards → (k : ℕ) → WhereKnown (told_of d.image disks k) (told_at shards k) StillOpens
still_all settings redo disks shards starts k = still_at settings redo k (slice_get shards k) (slice_get disks k) (starts.each k) (starts.opening k)

pub starts_all : {D : Type 0} {d : Ghosts D} (settings : Settings) (redo : Bool) (disks : List D) (shards : List (Shard D d)) → length disks ≡ 16 → length shards ≡ 16 → AreStarted settings redo disks shards → StartsAll settings redo disks shards
starts_all {d = d} settings redo disks shards sixteen all started = record {
  all = all;
  each = started;
  sound = λ k few. sound_at settings redo k (slice_get shards k) (slice_get disks k) (started k);
  opening = λ k. opening_at settings redo k (slice_get shards k) (slice_get disks k) (none_together shards disks k (all ∙ sym sixteen)) (started k);
  later = λ k. fewer settings redo k (slice_get shards k) (slice_get disks k) (none_together shards disks k (all ∙ sym sixteen)) (started k);
}

pub if_ok_more : {X E : Type 0} (r : Result X E) (P Q : X → Type 0) → IfOk r P → ((x : X) → P x → Q x) → IfOk r Q
if_ok_more (Ok x) P Q holds more = more x holds
if_ok_more (Err e) P Q holds more = tt

pub if_err_both : {X E : Type 0} (r : Result X E) (P Q R : E → Type 0) → IfErr r P → IfErr r Q → ((e : E) → P e → Q e → R e) → IfErr r R
if_err_both (Ok x) P Q R one other more = tt
if_err_both (Err e) P Q R one other more = more e one other
