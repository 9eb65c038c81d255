-- A head that is read as a layout is the layout's own, in a file of the layout's size.
use Rattle.std.proofs.Common.{◌≡◌, ℕ, zero, suc, ◌+◌, ◌-◌, ◌*◌, ◌<◌, ◌≤◌, Bool, true, false, not, ◌&&◌, ◌||◌, cond, eqb, leb, ltb, List, ◌++◌, length, get_or, take, drop, min, Option, Some, None, option_map, Result, Ok, Err, ◌⊎◌, inl, inr, refl, sym, ap, subst, ◌∙◌, arith, length-append, take_all}
use Rattle.std.specs.Prelude.{IfOk}
use Rattle.std.specs.List.{list_all}
use Rattle.std.specs.Option.{option_map_or}
use Rattle.std.proofs.Math.Seq.{take-add}
use Rattle.std.proofs.lemmas.Bool.{eqb-true, ltb-true}
use Rattle.std.proofs.lemmas.Bool.Decides.{nat_tests}
use Rattle.std.proofs.lemmas.List.FromFn.{get_or-map-range_with_len, length-map-range_with_len}
use Rattle.ring_format.specs.declared.archive.Archive.{Archive}
use Rattle.ring_format.specs.declared.archive.Method.{Method}
use Rattle.ring_format.specs.declared.archive.Method.TheVariants.{Average, Sum, Last, Max, Min, AvgZero, AbsMax, AbsMin}
use Rattle.ring_format.specs.declared.fault.LayoutFault.{LayoutFault}
use Rattle.ring_format.specs.declared.fault.HeadFault.{HeadFault}
use Rattle.ring_format.specs.declared.fault.HeadFault.TheVariants as faults
use Rattle.ring_format.specs.Layout.{LayoutValue, layout_fault, layout_result}
use Rattle.ring_format.specs.LayoutFile.{file_size_in, offset_in, row_size}
use Rattle.ring_format.specs.Cell.{IsVersion}
use Rattle.ring_format.specs.Head.{archive_at, archives_in, archives_result, count_in, first_word, front_bytes, head_bytes_in, head_result, is_short, is_zero, last_retention, method_number, method_of, misplaced_archive, number_at, number_bytes, or_layout_fault, placed_result, row_bytes, rows_bytes, rows_of, told_by}
use Rattle.ring_format.proofs.FoundPlaces.{fails_everywhere}
use Rattle.ring_format.proofs.NumberLemmas.{IsBytes, number_bytes-read, three_numbers}
use Rattle.ring_format.proofs.RowLemmas.{length-rows_of, written_more, written_none}
use Rattle.ring_format.proofs.WrittenHeads.{length-front_bytes, length-rows_bytes}

abbrev blank : Archive
blank = record { step = 0; points = 0 }

-- ---- a test that did not fail

guarded : {Y : Type 0} (b : Bool) (fault : HeadFault) (r : Result Y HeadFault) (y : Y) → cond b (Err fault) r ≡ Ok y → (b ≡ false) × (r ≡ Ok y)
guarded true fault r y e = absurd cc
guarded false fault r y e = (refl, e)

chosen : {X Y : Type 0} (f : X → Result Y HeadFault) (o : Option X) (fault : HeadFault) (y : Y) → option_map_or f o (Err fault) ≡ Ok y → (x : X) × (o ≡ Some x) × (f x ≡ Ok y)
chosen f None fault y e = absurd cc
chosen f (Some x) fault y e = (x, refl, e)

nowhere : {Y : Type 0} (o : Option ℕ) (r : Result Y HeadFault) (y : Y) → option_map_or (λ i. Err (faults.Offset i)) o r ≡ Ok y → (o ≡ None) × (r ≡ Ok y)
nowhere None r y e = (refl, e)
nowhere (Some i) r y e = absurd cc

sound : (o : Option LayoutFault) (made : LayoutValue) (version : ℕ) (told : LayoutValue × ℕ) → or_layout_fault version (option_map_or (λ fault. Err fault) o (Ok made)) ≡ Ok told → (o ≡ None) × ((made, version) ≡ told)
sound None made version told e = (refl, cc)
sound (Some fault) made version told e = absurd cc

not_false : (b : Bool) → not b ≡ false → b ≡ true
not_false true e = refl
not_false false e = absurd cc

-- ---- the number of a method

picked : (b : Bool) (method : Method) (others : Option Method) (m : Method) → cond b (Some method) others ≡ Some m → ((b ≡ true) × (method ≡ m)) ⊎ (others ≡ Some m)
picked true method others m e = inl (refl, cc)
picked false method others m e = inr e

is_number : (n k : ℕ) (method m : Method) → eqb n k ≡ true → method ≡ m → method_number method ≡ k → n ≡ method_number m
is_number n k method m same e number = eqb-true n k same ∙ sym number ∙ ap method_number e

method_number_back : (n : ℕ) (m : Method) → method_of n ≡ Some m → n ≡ method_number m
unfolding method_of
method_number_back n m e =
    elim (picked (eqb n 1) Average _ m e) [
      | inl p ↦ is_number n 1 Average m p.0 p.1 refl
      | inr e2 ↦
          elim (picked (eqb n 2) Sum _ m e2) [
            | inl p ↦ is_number n 2 Sum m p.0 p.1 refl
            | inr e3 ↦
                elim (picked (eqb n 3) Last _ m e3) [
                  | inl p ↦ is_number n 3 Last m p.0 p.1 refl
                  | inr e4 ↦
                      elim (picked (eqb n 4) Max _ m e4) [
                        | inl p ↦ is_number n 4 Max m p.0 p.1 refl
                        | inr e5 ↦
                            elim (picked (eqb n 5) Min _ m e5) [
                              | inl p ↦ is_number n 5 Min m p.0 p.1 refl
                              | inr e6 ↦
                                  elim (picked (eqb n 6) AvgZero _ m e6) [
                                    | inl p ↦ is_number n 6 AvgZero m p.0 p.1 refl
                                    | inr e7 ↦
                                        elim (picked (eqb n 7) AbsMax _ m e7) [
                                          | inl p ↦ is_number n 7 AbsMax m p.0 p.1 refl
                                          | inr e8 ↦
                                              elim (picked (eqb n 8) AbsMin None m e8) [ inl p ↦ is_number n 8 AbsMin m p.0 p.1 refl | inr e9 ↦ absurd cc ]
                                        ]
                                  ]
                            ]
                      ]
                ]
          ]
    ]

mapped : {X Y : Type 0} (f : X → Y) (o : Option X) (y : Y) → option_map f o ≡ Some y → (x : X) × (o ≡ Some x) × (f x ≡ y)
mapped f None y e = absurd cc
mapped f (Some x) y e = (x, refl, cc)

-- the first word that tells a method and a version is theirs
told_back : (word : ℕ) (told : Method × ℕ) → told_by word ≡ Some told → IsVersion told.1 × (word ≡ first_word told.1 told.0)
unfolding told_by
told_back word told e = by (ltb 512 word) refl e
  where
    by : (b : Bool) → ltb 512 word ≡ b → cond b (option_map (λ (m : Method). (m, 2)) (method_of (word - 512))) (option_map (λ (m : Method). (m, 1)) (method_of word)) ≡ Some told
        → IsVersion told.1 × (word ≡ first_word told.1 told.0)
    by true great e =
        let m = mapped (λ (m : Method). (m, 2)) (method_of (word - 512)) told e in
        let number = method_number_back (word - 512) m.0 m.1 in
        let above : 512 < word = ltb-true 512 word great in
        subst (λ (t : Method × ℕ). IsVersion t.1 × (word ≡ first_word t.1 t.0)) m.2 (inr refl, omega (arith, number, above))
    by false small e =
        let m = mapped (λ (m : Method). (m, 1)) (method_of word) told e in
        subst (λ (t : Method × ℕ). IsVersion t.1 × (word ≡ first_word t.1 t.0)) m.2 (inl refl, method_number_back word m.0 m.1)

-- ---- what an accepted head holds

record Accepted (bytes : List ℕ) (size : ℕ) (version : ℕ) (layout : LayoutValue) : Type 0 where
  pub known : IsVersion version
  pub short : is_short bytes size ≡ false
  pub word : number_at 0 bytes ≡ first_word version layout.method
  pub few : count_in bytes ≤ 25
  pub placed : misplaced_archive version bytes layout.archives ≡ None
  pub retention : number_at 4 bytes ≡ last_retention layout.archives
  pub long : size ≡ file_size_in version layout.archives
  pub archives : layout.archives ≡ archives_in bytes
  pub factor : number_at 8 bytes ≡ layout.factor
  pub lawful : layout_fault layout.archives layout.factor ≡ None

-- the parts of an accepted head, with its own archives
accepted_parts : (bytes : List ℕ) (size : ℕ) (told : Method × ℕ) (read : LayoutValue × ℕ) → is_short bytes size ≡ false → IsVersion told.1 → number_at 0 bytes ≡ first_word told.1 told.0 → count_in bytes ≤ 25
    → archives_result told bytes size ≡ Ok read → Accepted bytes size read.1 read.0
unfolding archives_result placed_result
accepted_parts bytes size told read short known number few e =
    let a = nowhere (misplaced_archive told.1 bytes (archives_in bytes)) (placed_result told (archives_in bytes) bytes size) read e in
    let b = guarded (not (eqb (number_at 4 bytes) (last_retention (archives_in bytes)))) faults.Retention
    (cond (not (eqb size (file_size_in told.1 (archives_in bytes)))) (Err faults.Length) (or_layout_fault told.1 (layout_result (archives_in bytes) told.0 (number_at 8 bytes)))) read a.1 in
    let c = guarded (not (eqb size (file_size_in told.1 (archives_in bytes)))) faults.Length (or_layout_fault told.1 (layout_result (archives_in bytes) told.0 (number_at 8 bytes))) read b.1 in
    let made : LayoutValue = record { archives = archives_in bytes; method = told.0; factor = number_at 8 bytes } in
    let d = sound (layout_fault (archives_in bytes) (number_at 8 bytes)) made told.1 read c.1 in
    subst (λ (t : LayoutValue × ℕ). Accepted bytes size t.1 t.0) d.1 (record {
      known = known;
      short = short;
      word = number;
      few = few;
      placed = a.0;
      retention = eqb-true (number_at 4 bytes) (last_retention (archives_in bytes)) (not_false _ b.0);
      long = eqb-true size (file_size_in told.1 (archives_in bytes)) (not_false _ c.0);
      archives = refl;
      factor = refl;
      lawful = d.0;
    })

good_count : (count : ℕ) → not (leb 1 count && leb count 25) ≡ false → count ≤ 25
good_count count e = grind (arith, nat_tests)

accepted : (bytes : List ℕ) (size : ℕ) (read : LayoutValue × ℕ) → head_result bytes size ≡ Ok read → Accepted bytes size read.1 read.0
unfolding head_result
accepted bytes size read e =
    let counted : Method × ℕ → Result (LayoutValue × ℕ) HeadFault = λ told. cond (not (leb 1 (count_in bytes) && leb (count_in bytes) 25)) (Err faults.Count) (archives_result told bytes size) in
    let choice : Result (LayoutValue × ℕ) HeadFault = option_map_or counted (told_by (number_at 0 bytes)) (Err faults.Method) in
    let a = guarded (list_all is_zero (take 16 bytes)) faults.Zero (cond (is_short bytes size) (Err faults.Short) choice) read e in
    let b = guarded (is_short bytes size) faults.Short choice read a.1 in
    let c = chosen counted (told_by (number_at 0 bytes)) faults.Method read b.1 in
    let d = guarded (not (leb 1 (count_in bytes) && leb (count_in bytes) 25)) faults.Count (archives_result c.0 bytes size) read c.2 in
    let back = told_back (number_at 0 bytes) c.0 c.1 in
    accepted_parts bytes size c.0 read b.0 back.0 back.1 (good_count (count_in bytes) d.0) d.1

-- ---- its bytes

room_of : (count size len : ℕ) → (ltb size 16 || (leb count 25 && ltb size (16 + row_size * count))) ≡ false → count ≤ 25 → len ≡ min 316 size → 16 + row_size * count ≤ len
room_of count size len short few long = grind (arith, nat_tests)

front_stands : (bytes : List ℕ) (size version : ℕ) (layout : LayoutValue) → Accepted bytes size version layout → IsBytes bytes → 16 ≤ length bytes → take 16 bytes ≡ front_bytes version layout
unfolding front_bytes
front_stands bytes size version layout read fits room =
    let count : number_at 12 bytes ≡ length layout.archives = sym (ap length read.archives ∙ length-map-range_with_len (archive_at bytes) 0 (count_in bytes)) in
    let m = ap number_bytes (sym read.word) ∙ number_bytes-read bytes 0 fits (omega arith) in
    let r = ap number_bytes (sym read.retention) ∙ number_bytes-read bytes 4 fits (omega arith) in
    let f = ap number_bytes (sym read.factor) ∙ number_bytes-read bytes 8 fits (omega arith) in
    let n = ap number_bytes (sym count) ∙ number_bytes-read bytes 12 fits (omega arith) in
    take-add 4 12 bytes ∙ ap (λ (xs : List ℕ). take 4 bytes ++ xs) (three_numbers bytes 4) ∙ rw (m, r, f, n) refl

row_stands : (bytes : List ℕ) (size version : ℕ) (layout : LayoutValue) → Accepted bytes size version layout → IsBytes bytes → 16 + row_size * length layout.archives ≤ length bytes → (i : ℕ) → i < length layout.archives
    → take row_size (drop (16 + row_size * i) bytes) ≡ row_bytes (offset_in version layout.archives i, get_or layout.archives i blank)
row_stands bytes size version layout read fits room i within =
    let count : count_in bytes ≡ length layout.archives = sym (ap length read.archives ∙ length-map-range_with_len (archive_at bytes) 0 (count_in bytes)) in
    let offset : number_at (16 + row_size * i) bytes ≡ offset_in version layout.archives i =
    eqb-true _ _ (not_false _ (fails_everywhere (λ k. not (eqb (number_at (16 + row_size * k) bytes) (offset_in version layout.archives k))) 0 (length layout.archives) read.placed i (omega arith) (omega arith))) in
    let archive : get_or layout.archives i blank ≡ archive_at bytes i = ap (λ (xs : List Archive). get_or xs i blank) read.archives ∙ get_or-map-range_with_len (archive_at bytes) 0 (count_in bytes) i i blank (omega arith) (omega arith) in
    let o : number_bytes (offset_in version layout.archives i) ≡ take 4 (drop (16 + row_size * i) bytes) = ap number_bytes (sym offset) ∙ number_bytes-read bytes (16 + row_size * i) fits (omega arith) in
    let s : number_bytes (get_or layout.archives i blank).step ≡ take 4 (drop ((16 + row_size * i) + 4) bytes) =
    ap (λ (a : Archive). number_bytes a.step) archive ∙ number_bytes-read bytes (20 + row_size * i) fits (omega arith) ∙ ap (λ (n : ℕ). take 4 (drop n bytes)) (omega arith) in
    let p : number_bytes (get_or layout.archives i blank).points ≡ take 4 (drop ((16 + row_size * i) + 8) bytes) =
    ap (λ (a : Archive). number_bytes a.points) archive ∙ number_bytes-read bytes (24 + row_size * i) fits (omega arith) ∙ ap (λ (n : ℕ). take 4 (drop n bytes)) (omega arith) in
    three_numbers bytes (16 + row_size * i) ∙ rw (o, s, p) refl

rows_stand : (bytes : List ℕ) (size version : ℕ) (layout : LayoutValue) → Accepted bytes size version layout → IsBytes bytes → 16 + row_size * length layout.archives ≤ length bytes → (i : ℕ) → i ≤ length layout.archives
    → take (16 + row_size * i) bytes ≡ front_bytes version layout ++ rows_bytes (take i (rows_of version layout.archives))
rows_stand bytes size version layout read fits room zero within = front_stands bytes size version layout read fits (omega arith) ∙ written_none (front_bytes version layout)
rows_stand bytes size version layout read fits room (suc i) within =
    let before = rows_stand bytes size version layout read fits room i (omega arith) in
    let more : take (16 + row_size * (i + 1)) bytes ≡ take (16 + row_size * i) bytes ++ row_bytes (offset_in version layout.archives i, get_or layout.archives i blank) =
    ap (λ (n : ℕ). take n bytes) (let sum : 16 + row_size * (i + 1) ≡ (16 + row_size * i) + row_size = omega arith in sum) ∙ take-add (16 + row_size * i) row_size bytes
    ∙ ap (λ (xs : List ℕ). take (16 + row_size * i) bytes ++ xs) (row_stands bytes size version layout read fits room i (omega arith)) in
    subst (λ (n : ℕ). take (16 + row_size * n) bytes ≡ front_bytes version layout ++ rows_bytes (take n (rows_of version layout.archives))) (let next : i + 1 ≡ suc i = omega arith in next)
    (written_more version (front_bytes version layout) layout.archives i blank (take (16 + row_size * i) bytes) (take (16 + row_size * (i + 1)) bytes) (omega arith) before more)

length-head_bytes : (version : ℕ) (layout : LayoutValue) → length (head_bytes_in version layout) ≡ 16 + row_size * length layout.archives
length-head_bytes version layout =
    omega (arith, length-append (front_bytes version layout) (rows_bytes (rows_of version layout.archives)), length-front_bytes version layout, length-rows_bytes (rows_of version layout.archives), length-rows_of version layout.archives)

-- a head that is accepted
abbrev pub IsHeadOf : List ℕ → ℕ → LayoutValue × ℕ → Type 0
IsHeadOf bytes size told = IsVersion told.1
    × (take (length (head_bytes_in told.1 told.0)) bytes ≡ head_bytes_in told.1 told.0)
    × (size ≡ file_size_in told.1 told.0.archives)
    × (layout_fault told.0.archives told.0.factor ≡ None)

pub read_head_is_written : (bytes : List ℕ) (size version : ℕ) (layout : LayoutValue) → IsBytes bytes → length bytes ≡ min 316 size → head_result bytes size ≡ Ok (layout, version) → IsHeadOf bytes size (layout, version)
read_head_is_written bytes size version layout fits long e =
    let read = accepted bytes size (layout, version) e in
    let count : count_in bytes ≡ length layout.archives = sym (ap length read.archives ∙ length-map-range_with_len (archive_at bytes) 0 (count_in bytes)) in
    let room = room_of (count_in bytes) size (length bytes) read.short read.few long in
    let whole = rows_stand bytes size version layout read fits (omega (arith, room, count)) (length layout.archives) (omega arith) in (
      read.known,
      ap (λ (n : ℕ). take n bytes) (length-head_bytes version layout) ∙ whole
          ∙ ap (λ (rows : List (ℕ × Archive)). front_bytes version layout ++ rows_bytes rows) (take_all (length layout.archives) (rows_of version layout.archives) (omega (arith, length-rows_of version layout.archives))),
      read.long,
      read.lawful,
    )

pub ok_is_written : (bytes : List ℕ) (size : ℕ) (r : Result (LayoutValue × ℕ) HeadFault) → IsBytes bytes → length bytes ≡ min 316 size → r ≡ head_result bytes size → IfOk r (IsHeadOf bytes size)
ok_is_written bytes size (Ok told) fits long e = read_head_is_written bytes size told.1 told.0 fits long (sym e)
ok_is_written bytes size (Err fault) fits long e = tt
