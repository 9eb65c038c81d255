-- Lemmas on how the moment of reading bears on a line.
use Rattle.std.proofs.Common.{◌≡◌, ◌≢◌, ℕ, ℤ, Bool, true, false, List, [], ◌∷◌, Option, Some, None, Result, Ok, Err, refl, sym, ap, ◌∙◌, cond, codes, option_map}
use Rattle.std.specs.Bool.{Decides}
use Rattle.std.specs.List.{slice_get}
use Rattle.std.specs.Option.{option_map_or}
use Rattle.std.specs.Str.Parse.{digits_value}
use Rattle.std.proofs.lemmas.Slice.Eq.{bytes_eq-Decides}
use Rattle.fixed_num.specs.declared.NumFault.{NumFault}
use Rattle.fixed_num.specs.Read.{milli_result}
use Rattle.metric_path.specs.declared.path.PathFault.{PathFault}
use Rattle.metric_path.specs.declared.path.PathFault.TheVariants.{NoMemory as PathNoMemory, Empty, TooLong, EmptyNode, BadByte}
use Rattle.metric_path.specs.Path.{legal_path, path_fault}
use Rattle.metric_line.specs.declared.fault.LineFault.{LineFault}
use Rattle.metric_line.specs.declared.fault.LineFault.TheVariants.{Path, Value, Time, NoMemory}
use Rattle.metric_line.specs.declared.stamp.StampFault.{StampFault}
use Rattle.metric_line.specs.declared.stamp.StampFault.TheVariants.{NotNumber}
use Rattle.metric_line.specs.LineDatum.{point_of_fields, point_result, where_read}
use Rattle.metric_line.specs.LineFields.{fields_of}
use Rattle.metric_line.specs.LineLaws.{IsNoWantOfMemory, IsReadAlike, IsRefusedAlways, IsStampedNow}
use Rattle.metric_line.specs.Point.{Point}
use Rattle.metric_line.specs.Stamp.{is_now, moment_result, stamp_of, whole_digits}

-- the point of three parts, each of which is read or not
abbrev joined : Result (List ℕ) PathFault → Result ℤ NumFault → Result ℕ StampFault → Result Point LineFault
joined path value time =
    where_read path (λ fault. Path fault) (λ p.
    where_read value (λ fault. Value fault) (λ v.
    where_read time (λ fault. Time fault) (λ t.
    Ok (record { path = p; time = t; value = v }))))

-- the time by whether it is `-1`
abbrev stamp_where : Bool → Option (List ℕ) → ℕ → Result ℕ StampFault
stamp_where stamped digits now = cond stamped (Ok now) (option_map_or (λ ds. moment_result (digits_value 10 ds)) digits (Err NotNumber))

stamp_is : (text : List ℕ) (now : ℕ) → stamp_of text now ≡ stamp_where (is_now text) (whole_digits text) now
unfolding stamp_of
stamp_is text now = refl

refused_stamp : (stamped : Bool) (digits : Option (List ℕ)) (now later : ℕ) (fault : StampFault) → stamp_where stamped digits now ≡ Err fault → stamp_where stamped digits later ≡ Err fault
refused_stamp true digits now later fault e = absurd cc
refused_stamp false digits now later fault e = e

stamp_refused : (text : List ℕ) (now later : ℕ) (fault : StampFault) → stamp_of text now ≡ Err fault → stamp_of text later ≡ Err fault
stamp_refused text now later fault e = stamp_is text later ∙ refused_stamp (is_now text) (whole_digits text) now later fault (sym (stamp_is text now) ∙ e)

refused_joined : (path : Result (List ℕ) PathFault) (value : Result ℤ NumFault) (time other : Result ℕ StampFault) (fault : LineFault)
    → ((f : StampFault) → time ≡ Err f → other ≡ Err f) → joined path value time ≡ Err fault → joined path value other ≡ Err fault
refused_joined (Err e) value time other fault alike h = h
refused_joined (Ok p) (Err e) time other fault alike h = h
refused_joined (Ok p) (Ok v) (Ok t) other fault alike h = absurd cc
refused_joined (Ok p) (Ok v) (Err f) other fault alike h = rw (alike f refl) h

refused_point : (path value time : List ℕ) (now later : ℕ) (fault : LineFault) → point_result path value time now ≡ Err fault → point_result path value time later ≡ Err fault
unfolding point_result
refused_point path value time now later fault h =
    refused_joined (legal_path path) (milli_result value) (stamp_of time now) (stamp_of time later) fault (stamp_refused time now later) h

refused_fields : (fields : List (List ℕ)) (now later : ℕ) (fault : LineFault) → point_of_fields fields now ≡ Err fault → point_of_fields fields later ≡ Err fault
unfolding point_of_fields
refused_fields [] now later fault h = h
refused_fields (a ∷ []) now later fault h = h
refused_fields (a ∷ b ∷ []) now later fault h = h
refused_fields (a ∷ b ∷ c ∷ []) now later fault h = refused_point a b c now later fault h
refused_fields (a ∷ b ∷ c ∷ d ∷ more) now later fault h = h

pub refused_always : IsRefusedAlways
refused_always line now later fault h = refused_fields (fields_of line) now later fault h

-- ---- the time `-1`

alike_stamp : (stamped : Bool) (digits : Option (List ℕ)) (now later : ℕ) → stamped ≡ false → stamp_where stamped digits now ≡ stamp_where stamped digits later
alike_stamp true digits now later e = absurd cc
alike_stamp false digits now later e = refl

decided_false : (b : Bool) (P : Type 0) → Decides b P → (P → ⊥) → b ≡ false
decided_false true P decides other = absurd (other (decides.0 refl))
decided_false false P decides other = refl

pub not_now : (text : List ℕ) → (Some text ≡ Some (codes "-1") → ⊥) → is_now text ≡ false
not_now text other = decided_false (is_now text) (text ≡ codes "-1") (bytes_eq-Decides text (codes "-1")) (λ e. other (ap (λ (t : List ℕ). Some t) e))

stamp_alike : (text : List ℕ) (now later : ℕ) → (Some text ≡ Some (codes "-1") → ⊥) → stamp_of text now ≡ stamp_of text later
stamp_alike text now later other =
    stamp_is text now ∙ alike_stamp (is_now text) (whole_digits text) now later (not_now text other) ∙ sym (stamp_is text later)

alike_point : (path value time : List ℕ) (now later : ℕ) → stamp_of time now ≡ stamp_of time later → point_result path value time now ≡ point_result path value time later
unfolding point_result
alike_point path value time now later e = ap (λ (t : Result ℕ StampFault). joined (legal_path path) (milli_result value) t) e

alike_fields : (fields : List (List ℕ)) (now later : ℕ) → (slice_get fields 2 ≡ Some (codes "-1") → ⊥) → point_of_fields fields now ≡ point_of_fields fields later
unfolding point_of_fields
alike_fields [] now later other = refl
alike_fields (a ∷ []) now later other = refl
alike_fields (a ∷ b ∷ []) now later other = refl
alike_fields (a ∷ b ∷ c ∷ []) now later other = alike_point a b c now later (stamp_alike c now later other)
alike_fields (a ∷ b ∷ c ∷ d ∷ more) now later other = refl

pub read_alike : IsReadAlike
read_alike line now later other = alike_fields (fields_of line) now later other

some_same : (a b : List ℕ) → Some a ≡ Some b → a ≡ b
some_same a b e = cc

stamp_now : (text : List ℕ) (now : ℕ) → Some text ≡ Some (codes "-1") → stamp_of text now ≡ Ok now
stamp_now text now e = stamp_is text now ∙ ap (λ (stamped : Bool). stamp_where stamped (whole_digits text) now) ((bytes_eq-Decides text (codes "-1")).1 (some_same text (codes "-1") e))

joined_time : (path : Result (List ℕ) PathFault) (value : Result ℤ NumFault) (now : ℕ) (point : Point) → joined path value (Ok now) ≡ Ok point → point.time ≡ now
joined_time (Err e) value now point h = absurd cc
joined_time (Ok p) (Err e) now point h = absurd cc
joined_time (Ok p) (Ok v) now point h = cc

stamped_point : (path value time : List ℕ) (now : ℕ) (point : Point) → stamp_of time now ≡ Ok now → point_result path value time now ≡ Ok point → point.time ≡ now
unfolding point_result
stamped_point path value time now point e h =
    joined_time (legal_path path) (milli_result value) now point (ap (λ (t : Result ℕ StampFault). joined (legal_path path) (milli_result value) t) (sym e) ∙ h)

stamped_fields : (fields : List (List ℕ)) (now : ℕ) (point : Point) → slice_get fields 2 ≡ Some (codes "-1") → point_of_fields fields now ≡ Ok point → point.time ≡ now
unfolding point_of_fields
stamped_fields [] now point e h = absurd cc
stamped_fields (a ∷ []) now point e h = absurd cc
stamped_fields (a ∷ b ∷ []) now point e h = absurd cc
stamped_fields (a ∷ b ∷ c ∷ []) now point e h = stamped_point a b c now point (stamp_now c now e) h
stamped_fields (a ∷ b ∷ c ∷ d ∷ more) now point e h = absurd cc

pub stamped_now : IsStampedNow
stamped_now line now point e h = stamped_fields (fields_of line) now point e h

-- ---- want of memory

first_of_four : (a b c : Bool) (at : Option ℕ) → cond a (Some Empty) (cond b (Some TooLong) (cond c (Some EmptyNode) (option_map (λ k. BadByte k) at))) ≢ Some PathNoMemory
first_of_four true b c at e = cc
first_of_four false true c at e = cc
first_of_four false false true at e = cc
first_of_four false false false None e = cc
first_of_four false false false (Some k) e = cc

path_fault_is : (text : List ℕ) → path_fault text ≢ Some PathNoMemory
unfolding path_fault
path_fault_is text e = first_of_four _ _ _ _ e

err_same : (a b : PathFault) → (let left : Result (List ℕ) PathFault = Err a in left ≡ Err b) → Some a ≡ Some b
err_same a b e = cc

memory_path : (fault : Option PathFault) (text : List ℕ) → (fault ≡ Some PathNoMemory → ⊥) → option_map_or (λ f. Err f) fault (Ok text) ≢ Err PathNoMemory
memory_path None text other e = cc
memory_path (Some f) text other e = other (err_same f PathNoMemory e)

memory_joined : (path : Result (List ℕ) PathFault) (value : Result ℤ NumFault) (time : Result ℕ StampFault) → (path ≡ Err PathNoMemory → ⊥)
    → (joined path value time ≢ Err NoMemory) × (joined path value time ≢ Err (Path PathNoMemory))
memory_joined (Err e) value time other = ((λ h. cc), (λ h. other cc))
memory_joined (Ok p) (Err e) time other = ((λ h. cc), (λ h. cc))
memory_joined (Ok p) (Ok v) (Err e) other = ((λ h. cc), (λ h. cc))
memory_joined (Ok p) (Ok v) (Ok t) other = ((λ h. cc), (λ h. cc))

memory_point : (path value time : List ℕ) (now : ℕ) → (point_result path value time now ≢ Err NoMemory) × (point_result path value time now ≢ Err (Path PathNoMemory))
unfolding point_result
memory_point path value time now =
    memory_joined (legal_path path) (milli_result value) (stamp_of time now) (memory_path (path_fault path) path (path_fault_is path))

memory_fields : (fields : List (List ℕ)) (now : ℕ) → (point_of_fields fields now ≢ Err NoMemory) × (point_of_fields fields now ≢ Err (Path PathNoMemory))
unfolding point_of_fields
memory_fields [] now = ((λ h. cc), (λ h. cc))
memory_fields (a ∷ []) now = ((λ h. cc), (λ h. cc))
memory_fields (a ∷ b ∷ []) now = ((λ h. cc), (λ h. cc))
memory_fields (a ∷ b ∷ c ∷ []) now = memory_point a b c now
memory_fields (a ∷ b ∷ c ∷ d ∷ more) now = ((λ h. cc), (λ h. cc))

pub no_want_of_memory : IsNoWantOfMemory
no_want_of_memory line now = memory_fields (fields_of line) now
