-- The layout of a body is told by its head, and no other is.
use Rattle.std.proofs.Common.{◌≡◌, ◌∙◌, ℕ, zero, suc, ◌+◌, ◌-◌, ◌*◌, ◌<◌, ◌≤◌, ◌^◌, Bool, true, false, cond, not, ◌&&◌, eqb, leb, ltb, min, List, [], ◌∷◌, ◌++◌, length, take, drop, get_or, Option, None, Some, Result, Ok, Err, inr, refl, sym, ap, ap₂, subst, arith, append_assoc, length-append, length-take, length-drop, take_all}
use Rattle.std.specs.Prelude.{replicate}
use Rattle.std.proofs.lemmas.Bool.{and_parts, cond-true, cond-false, eqb-true, le-leb, leb-true}
use Rattle.std.proofs.lemmas.Bool.Decides.{nat_tests}
use Rattle.std.proofs.lemmas.List.{take_at, take-take, take-append-le, length-replicate}
use Rattle.ring_format.specs.declared.archive.Archive.{Archive}
use Rattle.ring_format.specs.declared.fault.HeadFault.{HeadFault}
use Rattle.ring_format.specs.Head.{count_in, first_word, front_bytes, head_bytes, head_result, last_retention, number_at, number_bytes, row_bytes, rows_bytes, rows_of}
use Rattle.ring_format.specs.Layout.{LayoutValue, layout_fault, point_count}
use Rattle.ring_format.specs.LayoutFile.{file_size_of, head_size, offset_of, row_size}
use Rattle.ring_format.proofs.LawfulLayouts.{archive_bounds, lawful_count, points_within}
use Rattle.ring_format.proofs.NumberLemmas.{IsBytes, length-number_bytes, number_at-written}
use Rattle.ring_format.proofs.ReadHeads.{read_head_is_written}
use Rattle.ring_format.proofs.RowLemmas.{length-rows_of, offset_in-more, rows_more}
use Rattle.ring_format.proofs.WrittenHeads.{length-front_bytes, length-rows_bytes, written_head}
use Rattle.redo_log.specs.Told.{file_end, head_room, layout_told, new_layout}
use Rattle.redo_log.proofs.BodyLemmas.{length-head}
use Rattle.redo_log.proofs.EntryLaws.{bytes_front}

blank : Archive
blank = record { step = 0; points = 0 }

-- ---- the numbers of a head that are read here

front_parts : (layout : LayoutValue) (rest : List ℕ) → front_bytes 2 layout ++ rest
    ≡ (number_bytes (first_word 2 layout.method) ++ (number_bytes (last_retention layout.archives) ++ number_bytes layout.factor)) ++ (number_bytes (length layout.archives) ++ rest)
unfolding front_bytes
front_parts layout rest = simp append_assoc

count_is : (layout : LayoutValue) (rest : List ℕ) → length layout.archives ≤ 25 → count_in (head_bytes layout ++ rest) ≡ length layout.archives
count_is layout rest few =
    let rows : List ℕ = rows_bytes (rows_of 2 layout.archives) in
    let a : List ℕ = number_bytes (first_word 2 layout.method) in
    let b : List ℕ = number_bytes (last_retention layout.archives) in
    let c : List ℕ = number_bytes layout.factor in
    let before : List ℕ = a ++ (b ++ c) in
    let long : length before ≡ 12 =
    omega (arith, length-append a (b ++ c), length-append b c, length-number_bytes (first_word 2 layout.method), length-number_bytes (last_retention layout.archives), length-number_bytes layout.factor) in
    ap (number_at 12) (append_assoc (front_bytes 2 layout) rows rest ∙ front_parts layout (rows ++ rest)) ∙ number_at-written before (length layout.archives) (rows ++ rest) 12 long (omega (arith, few))

-- the bytes around the last row
last_row : (layout : LayoutValue) (i : ℕ) → length layout.archives ≡ i + 1
    → head_bytes layout ≡ (front_bytes 2 layout ++ rows_bytes (take i (rows_of 2 layout.archives))) ++ row_bytes (offset_of layout.archives i, get_or layout.archives i blank)
last_row layout i long =
    let rows = rows_of 2 layout.archives in
    let all : rows_bytes (take (i + 1) rows) ≡ rows_bytes rows = ap rows_bytes (take_all (i + 1) rows (omega (arith, length-rows_of 2 layout.archives))) in
    ap (λ (xs : List ℕ). front_bytes 2 layout ++ xs) (sym all ∙ rows_more 2 layout.archives i blank (omega arith))
    ∙ sym (append_assoc (front_bytes 2 layout) (rows_bytes (take i rows)) (row_bytes (offset_of layout.archives i, get_or layout.archives i blank)))

-- the file ends where its last archive does
end_of_last : (layout : LayoutValue) (i : ℕ) → length layout.archives ≡ i + 1 → offset_of layout.archives i + 20 * (get_or layout.archives i blank).points ≡ file_size_of layout.archives
end_of_last layout i long =
    sym (offset_in-more 2 layout.archives i blank (omega arith))
    ∙ ap (λ (xs : List Archive). head_size (length layout.archives) + 20 * point_count xs) (take_all (i + 1) layout.archives (omega arith))

end_by : (bytes : List ℕ) (i : ℕ) → count_in bytes - 1 ≡ i → file_end bytes ≡ number_at (16 + row_size * i) bytes + 20 * number_at (24 + row_size * i) bytes
unfolding file_end
end_by bytes i is = ap (λ (n : ℕ). number_at (16 + row_size * n) bytes + 20 * number_at (24 + row_size * n) bytes) is

file_end_is : (layout : LayoutValue) (rest : List ℕ) → layout_fault layout.archives layout.factor ≡ None → file_end (head_bytes layout ++ rest) ≡ file_size_of layout.archives
file_end_is layout rest lawful =
    let counts = lawful_count layout.archives layout.factor lawful in
    let i : ℕ = length layout.archives - 1 in
    let long : length layout.archives ≡ i + 1 = omega (arith, counts.0) in
    let rows = rows_of 2 layout.archives in
    let archive : Archive = get_or layout.archives i blank in
    let offset : ℕ = offset_of layout.archives i in
    let before : List ℕ = front_bytes 2 layout ++ rows_bytes (take i rows) in
    let o : List ℕ = number_bytes offset in
    let s : List ℕ = number_bytes archive.step in
    let p : List ℕ = number_bytes archive.points in
    let bounds = archive_bounds layout.archives layout.factor i blank lawful (omega arith) in
    let low : offset < 2 ^ 32 = omega (arith, points_within layout.archives i blank (omega arith), counts.1, counts.2) in
    let first : length before ≡ 16 + row_size * i = omega (arith, length-append (front_bytes 2 layout) (rows_bytes (take i rows)), length-front_bytes 2 layout, length-rows_bytes (take i rows), length-take i rows, length-rows_of 2 layout.archives) in
    let third : length (before ++ (o ++ s)) ≡ 24 + row_size * i = omega (arith, first, length-append before (o ++ s), length-append o s, length-number_bytes offset, length-number_bytes archive.step) in
    let split : head_bytes layout ++ rest ≡ before ++ (o ++ (s ++ (p ++ rest))) = ap (λ (xs : List ℕ). xs ++ rest) (last_row layout i long) ∙ simp append_assoc in
    let split' : head_bytes layout ++ rest ≡ (before ++ (o ++ s)) ++ (p ++ rest) = split ∙ simp append_assoc in
    let offset_is : number_at (16 + row_size * i) (head_bytes layout ++ rest) ≡ offset = ap (number_at (16 + row_size * i)) split ∙ number_at-written before offset (s ++ (p ++ rest)) (16 + row_size * i) first low in
    let points_is : number_at (24 + row_size * i) (head_bytes layout ++ rest) ≡ archive.points = ap (number_at (24 + row_size * i)) split' ∙ number_at-written (before ++ (o ++ s)) archive.points rest (24 + row_size * i) third (omega (arith, bounds.3)) in
    let at : count_in (head_bytes layout ++ rest) - 1 ≡ i = ap (λ (n : ℕ). n - 1) (count_is layout rest counts.1) in
    end_by (head_bytes layout ++ rest) i at ∙ ap₂ (λ (m n : ℕ). m + 20 * n) offset_is points_is ∙ end_of_last layout i long

-- ---- the room for a head

room_by : (bytes : List ℕ) → head_room bytes ≡ take (min (length bytes) 316) bytes ++ drop (min (length bytes) 316) (replicate 316 0)
unfolding head_room
room_by bytes = refl

pub length-room : (bytes : List ℕ) → length (head_room bytes) ≡ 316
length-room bytes =
    let n : ℕ = min (length bytes) 316 in
    let zeros : List ℕ = replicate 316 0 in
    let long : length zeros ≡ 316 = length-replicate 316 (let z : ℕ = 0 in z) in
    omega (arith, ap length (room_by bytes), length-append (take n bytes) (drop n zeros), length-take n bytes, length-drop n zeros, long)

room_front : (n : ℕ) (bytes : List ℕ) → n ≤ length bytes → n ≤ 316 → take n (head_room bytes) ≡ take n bytes
room_front n bytes within few =
    let m : ℕ = min (length bytes) 316 in
    ap (take n) (room_by bytes) ∙ take-append-le n (take m bytes) (drop m (replicate 316 0)) (omega (arith, length-take m bytes)) ∙ take-take n m bytes (omega arith)

zeros_are_bytes : (n i : ℕ) → get_or (replicate n 0) i 0 < 256
zeros_are_bytes zero i = omega arith
zeros_are_bytes (suc n) zero = omega arith
zeros_are_bytes (suc n) (suc i) = zeros_are_bytes n i

both_are_bytes : (xs ys : List ℕ) → IsBytes xs → IsBytes ys → IsBytes (xs ++ ys)
both_are_bytes [] ys a b i = b i
both_are_bytes (x ∷ xs) ys a b zero = a 0
both_are_bytes (x ∷ xs) ys a b (suc i) = both_are_bytes xs ys (λ j. a (suc j)) b i

behind_are_bytes : (n : ℕ) (xs : List ℕ) → IsBytes xs → IsBytes (drop n xs)
behind_are_bytes zero xs a = a
behind_are_bytes (suc n) [] a = a
behind_are_bytes (suc n) (x ∷ xs) a = behind_are_bytes n xs (λ j. a (suc j))

room_is_bytes : (bytes : List ℕ) → IsBytes bytes → IsBytes (head_room bytes)
room_is_bytes bytes fits =
    let n : ℕ = min (length bytes) 316 in
    subst IsBytes (sym (room_by bytes)) (both_are_bytes (take n bytes) (drop n (replicate 316 0)) (bytes_front n bytes fits) (behind_are_bytes n (replicate 316 0) (zeros_are_bytes 316)))

-- ---- a layout is told

told_by_tests : (bytes : List ℕ) → ltb (length bytes) 16 ≡ false → not (leb 1 (count_in bytes) && leb (count_in bytes) 25) ≡ false → ltb (length bytes) (head_size (count_in bytes)) ≡ false
    → layout_told bytes ≡ new_layout (length bytes) (head_result (take (min 316 (file_end bytes)) (head_room bytes)) (file_end bytes))
unfolding layout_told
told_by_tests bytes a b c = cond-false _ _ _ a ∙ cond-false _ _ _ b ∙ cond-false _ _ _ c

not_short : (m n : ℕ) → n ≤ m → ltb m n ≡ false
not_short m n le = grind (arith, nat_tests)

good_count : (n : ℕ) → 1 ≤ n → n ≤ 25 → not (leb 1 n && leb n 25) ≡ false
good_count n some few = grind (arith, nat_tests)

pub layout_is_told : (layout : LayoutValue) (rest : List ℕ) → layout_fault layout.archives layout.factor ≡ None → layout_told (head_bytes layout ++ rest) ≡ Some layout
layout_is_told layout rest lawful =
    let bytes : List ℕ = head_bytes layout ++ rest in
    let counts = lawful_count layout.archives layout.factor lawful in
    let count : count_in bytes ≡ length layout.archives = count_is layout rest counts.1 in
    let head : length (head_bytes layout) ≡ head_size (length layout.archives) = length-head layout in
    let long : length bytes ≡ length (head_bytes layout) + length rest = length-append (head_bytes layout) rest in
    let size : file_end bytes ≡ file_size_of layout.archives = file_end_is layout rest lawful in
    let whole : take (length (head_bytes layout)) bytes ≡ head_bytes layout = take_at (head_bytes layout) rest (length (head_bytes layout)) refl in
    let begins : take (length (head_bytes layout)) (take (min 316 (file_end bytes)) (head_room bytes)) ≡ head_bytes layout =
    take-take (length (head_bytes layout)) (min 316 (file_end bytes)) (head_room bytes) (omega (arith, size, head, counts.1)) ∙ room_front (length (head_bytes layout)) bytes (omega (arith, long)) (omega (arith, head, counts.1)) ∙ whole in
    let result : head_result (take (min 316 (file_end bytes)) (head_room bytes)) (file_end bytes) ≡ Ok (layout, 2) =
    written_head 2 layout (take (min 316 (file_end bytes)) (head_room bytes)) (file_end bytes) (inr refl) lawful begins size in
    told_by_tests bytes (not_short (length bytes) 16 (omega (arith, long, head))) (good_count (count_in bytes) (omega (arith, count, counts.0)) (omega (arith, count, counts.1)))
    (not_short (length bytes) (head_size (count_in bytes)) (omega (arith, count, long, head)))
    ∙ ap (new_layout (length bytes)) result ∙ cond-true _ _ _ (le-leb (head_size (length layout.archives)) (length bytes) (omega (arith, long, head)))

-- ---- what is told

pub record TellsLayout (bytes : List ℕ) (layout : LayoutValue) : Type 0 where
  pub lawful : layout_fault layout.archives layout.factor ≡ None
  pub room : length (head_bytes layout) ≤ length bytes
  pub begins : take (length (head_bytes layout)) bytes ≡ head_bytes layout

passed : {X : Type 0} (b : Bool) (o : Option X) (x : X) → cond b None o ≡ Some x → o ≡ Some x
passed true o x e = absurd cc
passed false o x e = e

new_by : (b : Bool) (made layout : LayoutValue) → cond b (Some made) None ≡ Some layout → (b ≡ true) × (made ≡ layout)
new_by true made layout e = (refl, cc)
new_by false made layout e = absurd cc

new_told : (room : ℕ) (r : Result (LayoutValue × ℕ) HeadFault) (layout : LayoutValue) → new_layout room r ≡ Some layout → (r ≡ Ok (layout, 2)) × (head_size (length layout.archives) ≤ room)
new_told room (Err fault) layout e = absurd cc
new_told room (Ok told) layout e =
    let parts = new_by (eqb told.1 2 && leb (head_size (length told.0.archives)) room) told.0 layout e in
    let both = and_parts (eqb told.1 2) (leb (head_size (length told.0.archives)) room) parts.0 in
    let version : told.1 ≡ 2 = eqb-true told.1 2 both.0 in
    let within : head_size (length told.0.archives) ≤ room = leb-true (head_size (length told.0.archives)) room both.1 in
    (ap₂ (λ (l : LayoutValue) (v : ℕ). Ok (l, v)) parts.1 version, subst (λ (l : LayoutValue). head_size (length l.archives) ≤ room) parts.1 within)

told_result : (bytes : List ℕ) (layout : LayoutValue) → layout_told bytes ≡ Some layout
    → new_layout (length bytes) (head_result (take (min 316 (file_end bytes)) (head_room bytes)) (file_end bytes)) ≡ Some layout
unfolding layout_told
told_result bytes layout e =
    let last : Option LayoutValue = new_layout (length bytes) (head_result (take (min 316 (file_end bytes)) (head_room bytes)) (file_end bytes)) in
    let third : Option LayoutValue = cond (ltb (length bytes) (head_size (count_in bytes))) None last in
    let second : Option LayoutValue = cond (not (leb 1 (count_in bytes) && leb (count_in bytes) 25)) None third in
    passed (ltb (length bytes) (head_size (count_in bytes))) last layout
    (passed (not (leb 1 (count_in bytes) && leb (count_in bytes) 25)) third layout (passed (ltb (length bytes) 16) second layout e))

pub told_is_layout : (bytes : List ℕ) (layout : LayoutValue) → IsBytes bytes → layout_told bytes ≡ Some layout → TellsLayout bytes layout
told_is_layout bytes layout fits e =
    let size : ℕ = file_end bytes in
    let front : List ℕ = take (min 316 size) (head_room bytes) in
    let new = new_told (length bytes) (head_result front size) layout (told_result bytes layout e) in
    let long : length front ≡ min 316 size = omega (arith, length-take (min 316 size) (head_room bytes), length-room bytes) in
    let is = read_head_is_written front size 2 layout (bytes_front (min 316 size) (head_room bytes) (room_is_bytes bytes fits)) long new.0 in
    let counts = lawful_count layout.archives layout.factor is.3 in
    let head : length (head_bytes layout) ≡ head_size (length layout.archives) = length-head layout in
    let within : length (head_bytes layout) ≤ min 316 size = omega (arith, head, counts.1, is.2) in
    record {
      lawful = is.3;
      room = omega (arith, head, new.1);
      begins = sym (take-take (length (head_bytes layout)) (min 316 size) (head_room bytes) within ∙ room_front (length (head_bytes layout)) bytes (omega (arith, head, new.1)) (omega (arith, within))) ∙ is.1;
    }
