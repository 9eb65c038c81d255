-- What is written as a head is read as the layout.
use Rattle.std.proofs.Common.{◌≡◌, ℕ, ◌+◌, ◌-◌, ◌*◌, ◌<◌, ◌≤◌, ◌^◌, false, not, ◌&&◌, ◌||◌, leb, ltb, List, [], ◌∷◌, ◌++◌, length, get_or, take, drop, map, Option, Some, None, Ok, Err, inl, inr, refl, sym, ap, subst, ◌∙◌, arith, append_assoc, length-append, length-take, take-append-drop, eq-eqb}
use Rattle.std.specs.Prelude.{if◌then◌else◌, is_some}
use Rattle.std.specs.List.{list_all, range_with_len}
use Rattle.std.proofs.lemmas.Bool.Decides.{nat_tests}
use Rattle.std.proofs.lemmas.Grind.{flat_map-append}
use Rattle.std.proofs.lemmas.List.{drop_more}
use Rattle.std.proofs.lemmas.List.Concat.{flat_map-cons}
use Rattle.std.proofs.lemmas.List.FromFn.{fill_by_all}
use Rattle.std.proofs.lemmas.List.Sums.{sum_by-take-le}
use Rattle.std.proofs.lemmas.Option.{slice_get-get_or}
use Rattle.ring_format.specs.declared.archive.Archive.{Archive}
use Rattle.std.specs.Option.{option_map_or}
use Rattle.ring_format.specs.declared.archive.Method.{Method}
use Rattle.ring_format.specs.declared.archive.Method.TheVariants.{Average, Sum, Last, Max, Min, AvgZero, AbsMax, AbsMin}
use Rattle.ring_format.specs.declared.fault.HeadFault.TheVariants as faults
use Rattle.ring_format.specs.Layout.{LayoutValue, layout_fault, point_count, retention_of}
use Rattle.ring_format.specs.LayoutFile.{file_size_in, offset_in, row_size}
use Rattle.ring_format.specs.Cell.{IsVersion}
use Rattle.ring_format.specs.Head.{archive_at, archives_in, archives_result, first_word, front_bytes, head_bytes_in, head_result, is_short, is_zero, last_retention, method_number, method_of, misplaced_archive, number_at, number_bytes, placed_result, row_bytes, rows_bytes, rows_of, told_by, version_of}
use Rattle.ring_format.proofs.HeadLemmas.{placed_everywhere}
use Rattle.ring_format.proofs.LawfulLayouts.{archive_bounds, lawful_count}
use Rattle.ring_format.proofs.NumberLemmas.{length-number_bytes, number_at-written}
use Rattle.ring_format.proofs.RowLemmas.{get_or-rows_of, length-rows_of}

abbrev blank : Archive
blank = record { step = 0; points = 0 }

-- ---- one row among the rows

rows_bytes-cons : (row : ℕ × Archive) (rows : List (ℕ × Archive)) → rows_bytes (row ∷ rows) ≡ row_bytes row ++ rows_bytes rows
unfolding rows_bytes
rows_bytes-cons row rows = flat_map-cons row_bytes row rows

rows_bytes-append : (rows more : List (ℕ × Archive)) → rows_bytes (rows ++ more) ≡ rows_bytes rows ++ rows_bytes more
unfolding rows_bytes
rows_bytes-append rows more = flat_map-append row_bytes rows more

length-row_bytes : (row : ℕ × Archive) → length (row_bytes row) ≡ row_size
length-row_bytes row =
    omega (
      arith,
      length-append (number_bytes row.0) (number_bytes row.1.step ++ number_bytes row.1.points),
      length-append (number_bytes row.1.step) (number_bytes row.1.points),
      length-number_bytes row.0,
      length-number_bytes row.1.step,
      length-number_bytes row.1.points,
    )

pub length-rows_bytes : (rows : List (ℕ × Archive)) → length (rows_bytes rows) ≡ row_size * length rows
unfolding rows_bytes
length-rows_bytes [] = refl
length-rows_bytes (row ∷ rows) = omega (arith, ap length (rows_bytes-cons row rows), length-append (row_bytes row) (rows_bytes rows), length-row_bytes row, length-rows_bytes rows)

-- a file's bytes, split before row `i`
row_split : (front : List ℕ) (rows : List (ℕ × Archive)) (rest : List ℕ) (i : ℕ) (row d : ℕ × Archive) → i < length rows → get_or rows i d ≡ row
    → front ++ (rows_bytes rows ++ rest) ≡ (front ++ rows_bytes (take i rows)) ++ (number_bytes row.0 ++ (number_bytes row.1.step ++ (number_bytes row.1.points ++ (rows_bytes (drop (i + 1) rows) ++ rest))))
row_split front rows rest i row d within here =
    let parts : rows_bytes rows ≡ rows_bytes (take i rows) ++ (row_bytes row ++ rows_bytes (drop (i + 1) rows)) =
    ap rows_bytes (sym (take-append-drop i rows) ∙ ap (λ (xs : List (ℕ × Archive)). take i rows ++ xs) (drop_more rows i d within ∙ ap (λ (x : ℕ × Archive). x ∷ drop (i + 1) rows) here))
    ∙ rows_bytes-append (take i rows) (row ∷ drop (i + 1) rows) ∙ ap (λ (xs : List ℕ). rows_bytes (take i rows) ++ xs) (rows_bytes-cons row (drop (i + 1) rows)) in
    ap (λ (xs : List ℕ). front ++ (xs ++ rest)) parts ∙ simp append_assoc

-- the numbers of row `i`
record RowIsRead (bytes : List ℕ) (i : ℕ) (row : ℕ × Archive) : Type 0 where
  pub offset : number_at (16 + row_size * i) bytes ≡ row.0
  pub step : number_at (20 + row_size * i) bytes ≡ row.1.step
  pub points : number_at (24 + row_size * i) bytes ≡ row.1.points

row_is_read : (front : List ℕ) (rows : List (ℕ × Archive)) (rest : List ℕ) (i : ℕ) (row d : ℕ × Archive) → length front ≡ 16 → i < length rows → get_or rows i d ≡ row
    → row.0 < 2 ^ 32 → row.1.step < 2 ^ 32 → row.1.points < 2 ^ 32 → RowIsRead (front ++ (rows_bytes rows ++ rest)) i row
row_is_read front rows rest i row d sixteen within here low short few =
    let before : List ℕ = front ++ rows_bytes (take i rows) in
    let after : List ℕ = rows_bytes (drop (i + 1) rows) ++ rest in
    let offset : List ℕ = number_bytes row.0 in
    let step : List ℕ = number_bytes row.1.step in
    let points : List ℕ = number_bytes row.1.points in
    let split : front ++ (rows_bytes rows ++ rest) ≡ before ++ (offset ++ (step ++ (points ++ after))) = row_split front rows rest i row d within here in
    let first : length before ≡ 16 + row_size * i = omega (arith, length-append front (rows_bytes (take i rows)), length-rows_bytes (take i rows), length-take i rows) in
    let second : length (before ++ offset) ≡ 20 + row_size * i = omega (arith, length-append before offset, length-number_bytes row.0) in
    let third : length ((before ++ offset) ++ step) ≡ 24 + row_size * i = omega (arith, length-append (before ++ offset) step, length-number_bytes row.1.step) in
    let split' : front ++ (rows_bytes rows ++ rest) ≡ (before ++ offset) ++ (step ++ (points ++ after)) = split ∙ sym (append_assoc before offset (step ++ (points ++ after))) in
    let split'' : front ++ (rows_bytes rows ++ rest) ≡ ((before ++ offset) ++ step) ++ (points ++ after) = split' ∙ sym (append_assoc (before ++ offset) step (points ++ after)) in
    record {
      offset = ap (number_at (16 + row_size * i)) split ∙ number_at-written before row.0 (step ++ (points ++ after)) (16 + row_size * i) first low;
      step = ap (number_at (20 + row_size * i)) split' ∙ number_at-written (before ++ offset) row.1.step (points ++ after) (20 + row_size * i) second short;
      points = ap (number_at (24 + row_size * i)) split'' ∙ number_at-written ((before ++ offset) ++ step) row.1.points after (24 + row_size * i) third few;
    }

-- ---- the numbers of a lawful layout fit

offset_fits : (version : ℕ) (archives : List Archive) (i : ℕ) → IsVersion version → length archives ≤ 25 → point_count archives ≤ 4000000 → offset_in version archives i < 2 ^ 32
offset_fits version archives i (inl old) few points = rw old (omega (arith, sum_by-take-le (λ (archive : Archive). archive.points) archives i))
offset_fits version archives i (inr new) few points = rw new (omega (arith, sum_by-take-le (λ (archive : Archive). archive.points) archives i))

pub last_retention_is : (archives : List Archive) → 1 ≤ length archives → last_retention archives ≡ retention_of (get_or archives (length archives - 1) blank)
last_retention_is archives some = rw (slice_get-get_or archives (length archives - 1) blank (omega arith)) refl

last_fits : (archives : List Archive) (factor : ℕ) → layout_fault archives factor ≡ None → last_retention archives < 2 ^ 32
last_fits archives factor lawful =
    let counts = lawful_count archives factor lawful in
    omega (arith, last_retention_is archives counts.0, (archive_bounds archives factor (length archives - 1) blank lawful (omega (arith, counts.0))).4)

-- ---- the four numbers of the front

-- what a file holds that begins with a layout's head in a version
record HeadIsRead (version : ℕ) (layout : LayoutValue) (bytes : List ℕ) : Type 0 where
  pub word : number_at 0 bytes ≡ first_word version layout.method
  pub retention : number_at 4 bytes ≡ last_retention layout.archives
  pub factor : number_at 8 bytes ≡ layout.factor
  pub count : number_at 12 bytes ≡ length layout.archives

old_word_fits : (method : Method) → first_word 1 method < 2 ^ 32
old_word_fits Average = omega arith
old_word_fits Sum = omega arith
old_word_fits Last = omega arith
old_word_fits Max = omega arith
old_word_fits Min = omega arith
old_word_fits AvgZero = omega arith
old_word_fits AbsMax = omega arith
old_word_fits AbsMin = omega arith

new_word_fits : (method : Method) → first_word 2 method < 2 ^ 32
new_word_fits Average = omega arith
new_word_fits Sum = omega arith
new_word_fits Last = omega arith
new_word_fits Max = omega arith
new_word_fits Min = omega arith
new_word_fits AvgZero = omega arith
new_word_fits AbsMax = omega arith
new_word_fits AbsMin = omega arith

word_fits : (version : ℕ) (method : Method) → IsVersion version → first_word version method < 2 ^ 32
word_fits version method (inl old) = rw old (old_word_fits method)
word_fits version method (inr new) = rw new (new_word_fits method)

old_word_told : (method : Method) → told_by (first_word 1 method) ≡ Some (method, 1)
unfolding told_by method_of
old_word_told Average = refl
old_word_told Sum = refl
old_word_told Last = refl
old_word_told Max = refl
old_word_told Min = refl
old_word_told AvgZero = refl
old_word_told AbsMax = refl
old_word_told AbsMin = refl

new_word_told : (method : Method) → told_by (first_word 2 method) ≡ Some (method, 2)
unfolding told_by method_of
new_word_told Average = refl
new_word_told Sum = refl
new_word_told Last = refl
new_word_told Max = refl
new_word_told Min = refl
new_word_told AvgZero = refl
new_word_told AbsMax = refl
new_word_told AbsMin = refl

word_told : (version : ℕ) (method : Method) → IsVersion version → told_by (first_word version method) ≡ Some (method, version)
word_told version method (inl old) = rw old (old_word_told method)
word_told version method (inr new) = rw new (new_word_told method)

old_some_byte : (method : Method) (rest : List ℕ) → list_all is_zero (take 16 (number_bytes (first_word 1 method) ++ rest)) ≡ false
unfolding number_bytes
old_some_byte Average rest = refl
old_some_byte Sum rest = refl
old_some_byte Last rest = refl
old_some_byte Max rest = refl
old_some_byte Min rest = refl
old_some_byte AvgZero rest = refl
old_some_byte AbsMax rest = refl
old_some_byte AbsMin rest = refl

new_some_byte : (method : Method) (rest : List ℕ) → list_all is_zero (take 16 (number_bytes (first_word 2 method) ++ rest)) ≡ false
unfolding number_bytes
new_some_byte Average rest = refl
new_some_byte Sum rest = refl
new_some_byte Last rest = refl
new_some_byte Max rest = refl
new_some_byte Min rest = refl
new_some_byte AvgZero rest = refl
new_some_byte AbsMax rest = refl
new_some_byte AbsMin rest = refl

some_byte : (version : ℕ) (method : Method) (rest : List ℕ) → IsVersion version → list_all is_zero (take 16 (number_bytes (first_word version method) ++ rest)) ≡ false
some_byte version method rest (inl old) = rw old (old_some_byte method rest)
some_byte version method rest (inr new) = rw new (new_some_byte method rest)

pub length-front_bytes : (version : ℕ) (layout : LayoutValue) → length (front_bytes version layout) ≡ 16
unfolding front_bytes
length-front_bytes version layout =
    let m = number_bytes (first_word version layout.method) in
    let r = number_bytes (last_retention layout.archives) in
    let f = number_bytes layout.factor in
    let n = number_bytes (length layout.archives) in
    omega (
      arith,
      length-append m (r ++ (f ++ n)),
      length-append r (f ++ n),
      length-append f n,
      length-number_bytes (first_word version layout.method),
      length-number_bytes (last_retention layout.archives),
      length-number_bytes layout.factor,
      length-number_bytes (length layout.archives),
    )

front_split : (version : ℕ) (layout : LayoutValue) (rest : List ℕ) → front_bytes version layout ++ rest
    ≡ number_bytes (first_word version layout.method) ++ (number_bytes (last_retention layout.archives) ++ (number_bytes layout.factor ++ (number_bytes (length layout.archives) ++ rest)))
unfolding front_bytes
front_split version layout rest = simp append_assoc

head_is_read : (version : ℕ) (layout : LayoutValue) (rest : List ℕ) → IsVersion version → layout_fault layout.archives layout.factor ≡ None → HeadIsRead version layout (front_bytes version layout ++ rest)
head_is_read version layout rest known lawful =
    let counts = lawful_count layout.archives layout.factor lawful in
    let m : List ℕ = number_bytes (first_word version layout.method) in
    let r : List ℕ = number_bytes (last_retention layout.archives) in
    let f : List ℕ = number_bytes layout.factor in
    let n : List ℕ = number_bytes (length layout.archives) in
    let split : front_bytes version layout ++ rest ≡ m ++ (r ++ (f ++ (n ++ rest))) = front_split version layout rest in
    let split' : front_bytes version layout ++ rest ≡ (m ++ r) ++ (f ++ (n ++ rest)) = split ∙ sym (append_assoc m r (f ++ (n ++ rest))) in
    let split'' : front_bytes version layout ++ rest ≡ ((m ++ r) ++ f) ++ (n ++ rest) = split' ∙ sym (append_assoc (m ++ r) f (n ++ rest)) in
    let second : length m ≡ 4 = length-number_bytes (first_word version layout.method) in
    let third : length (m ++ r) ≡ 8 = omega (arith, length-append m r, length-number_bytes (last_retention layout.archives)) in
    let fourth : length ((m ++ r) ++ f) ≡ 12 = omega (arith, length-append (m ++ r) f, length-number_bytes layout.factor) in
    record {
      word = ap (number_at 0) split ∙ number_at-written [] (first_word version layout.method) (r ++ (f ++ (n ++ rest))) 0 refl (word_fits version layout.method known);
      retention = ap (number_at 4) split ∙ number_at-written m (last_retention layout.archives) (f ++ (n ++ rest)) 4 second (last_fits layout.archives layout.factor lawful);
      factor = ap (number_at 8) split' ∙ number_at-written (m ++ r) layout.factor (n ++ rest) 8 third (omega (arith, counts.3));
      count = ap (number_at 12) split'' ∙ number_at-written ((m ++ r) ++ f) (length layout.archives) rest 12 fourth (omega (arith, counts.1));
    }

-- ---- the whole

rows_are_read : (version : ℕ) (layout : LayoutValue) (rest : List ℕ) → IsVersion version → layout_fault layout.archives layout.factor ≡ None → (i : ℕ) → i < length layout.archives
    → RowIsRead (front_bytes version layout ++ (rows_bytes (rows_of version layout.archives) ++ rest)) i (offset_in version layout.archives i, get_or layout.archives i blank)
rows_are_read version layout rest known lawful i within =
    let counts = lawful_count layout.archives layout.factor lawful in
    let bounds = archive_bounds layout.archives layout.factor i blank lawful within in
    let row : ℕ × Archive = (offset_in version layout.archives i, get_or layout.archives i blank) in
    row_is_read (front_bytes version layout) (rows_of version layout.archives) rest i row (0, blank) (length-front_bytes version layout) (omega (arith, length-rows_of version layout.archives)) (get_or-rows_of version layout.archives i blank within)
    (offset_fits version layout.archives i known counts.1 counts.2) (omega (arith, bounds.1)) (omega (arith, bounds.3))

-- the archives of a file whose rows are those of the layout
archives_are_read : (version : ℕ) (layout : LayoutValue) (bytes : List ℕ) → HeadIsRead version layout bytes → ((i : ℕ) → i < length layout.archives → RowIsRead bytes i (offset_in version layout.archives i, get_or layout.archives i blank))
    → archives_in bytes ≡ layout.archives
archives_are_read version layout bytes front rows =
    ap (λ (n : ℕ). map (archive_at bytes) (range_with_len 0 n)) front.count
    ∙ sym (fill_by_all (archive_at bytes) layout.archives (length layout.archives) blank refl (λ k within. rw ((rows k within).step, (rows k within).points) refl))

not_short : (count size : ℕ) → 16 + row_size * count ≤ size → (ltb size 16 || (leb count 25 && ltb size (16 + row_size * count))) ≡ false
not_short count size long = grind (arith, nat_tests)

count_is_good : (count : ℕ) → 1 ≤ count → count ≤ 25 → not (leb 1 count && leb count 25) ≡ false
count_is_good count some few = grind (arith, nat_tests)

placed_again : (version : ℕ) (layout : LayoutValue) (bytes : List ℕ) (size : ℕ) → HeadIsRead version layout bytes → size ≡ file_size_in version layout.archives → layout_fault layout.archives layout.factor ≡ None
    → placed_result (layout.method, version) layout.archives bytes size ≡ Ok (layout, version)
unfolding placed_result
placed_again version layout bytes size front long lawful =
    rw (eq-eqb (number_at 4 bytes) (last_retention layout.archives) front.retention, eq-eqb size (file_size_in version layout.archives) long, front.factor, lawful) refl

archives_again : (version : ℕ) (layout : LayoutValue) (bytes : List ℕ) (size : ℕ) → HeadIsRead version layout bytes → archives_in bytes ≡ layout.archives → misplaced_archive version bytes layout.archives ≡ None
    → size ≡ file_size_in version layout.archives → layout_fault layout.archives layout.factor ≡ None → archives_result (layout.method, version) bytes size ≡ Ok (layout, version)
unfolding archives_result
archives_again version layout bytes size front read placed long lawful =
    ap (λ (xs : List Archive). option_map_or (λ i. Err (faults.Offset i)) (misplaced_archive version bytes xs) (placed_result (layout.method, version) xs bytes size)) read
    ∙ ap (λ (o : Option ℕ). option_map_or (λ i. Err (faults.Offset i)) o (placed_result (layout.method, version) layout.archives bytes size)) placed
    ∙ placed_again version layout bytes size front long lawful

head_again : (version : ℕ) (layout : LayoutValue) (bytes : List ℕ) (size : ℕ) → IsVersion version → list_all is_zero (take 16 bytes) ≡ false → HeadIsRead version layout bytes → archives_in bytes ≡ layout.archives → misplaced_archive version bytes layout.archives ≡ None
    → size ≡ file_size_in version layout.archives → layout_fault layout.archives layout.factor ≡ None → head_result bytes size ≡ Ok (layout, version)
unfolding head_result
head_again version layout bytes size known some front read placed long lawful =
    let counts = lawful_count layout.archives layout.factor lawful in
    let short : is_short bytes size ≡ false = not_short (number_at 12 bytes) size (omega (arith, front.count, long)) in
    let told : told_by (number_at 0 bytes) ≡ Some (layout.method, version) = ap told_by front.word ∙ word_told version layout.method known in
    let good : not (leb 1 (number_at 12 bytes) && leb (number_at 12 bytes) 25) ≡ false = count_is_good (number_at 12 bytes) (omega (arith, front.count, counts.0)) (omega (arith, front.count, counts.1)) in
    rw (some, short, told, good) (archives_again version layout bytes size front read placed long lawful)

-- bytes that begin with a lawful layout's head in a version, in a file of its size
pub written_head : (version : ℕ) (layout : LayoutValue) (bytes : List ℕ) (size : ℕ) → IsVersion version → layout_fault layout.archives layout.factor ≡ None → take (length (head_bytes_in version layout)) bytes ≡ head_bytes_in version layout
    → size ≡ file_size_in version layout.archives → head_result bytes size ≡ Ok (layout, version)
written_head version layout bytes size known lawful begins long =
    let rest : List ℕ = drop (length (head_bytes_in version layout)) bytes in
    let split : bytes ≡ front_bytes version layout ++ (rows_bytes (rows_of version layout.archives) ++ rest) =
    sym (take-append-drop (length (head_bytes_in version layout)) bytes) ∙ ap (λ (xs : List ℕ). xs ++ rest) begins ∙ append_assoc (front_bytes version layout) (rows_bytes (rows_of version layout.archives)) rest in
    let front : HeadIsRead version layout bytes = subst (HeadIsRead version layout) (sym split) (head_is_read version layout (rows_bytes (rows_of version layout.archives) ++ rest) known lawful) in
    let rows : (i : ℕ) → i < length layout.archives → RowIsRead bytes i (offset_in version layout.archives i, get_or layout.archives i blank) =
    λ i within. subst (λ (xs : List ℕ). RowIsRead xs i (offset_in version layout.archives i, get_or layout.archives i blank)) (sym split) (rows_are_read version layout rest known lawful i within) in
    let some : list_all is_zero (take 16 bytes) ≡ false = ap (λ (xs : List ℕ). list_all is_zero (take 16 xs)) (split ∙ front_split version layout (rows_bytes (rows_of version layout.archives) ++ rest)) ∙ some_byte version layout.method _ known in
    head_again version layout bytes size known some front (archives_are_read version layout bytes front rows) (placed_everywhere version bytes layout.archives (length layout.archives) (omega arith) (λ k within. (rows k within).offset)) long lawful

-- ---- the version of a file that begins with a head

abbrev version_by : ℕ → ℕ
version_by word = if is_some (method_of word) then 1 else 2

old_version : (method : Method) → version_by (first_word 1 method) ≡ 1
unfolding method_of
old_version Average = refl
old_version Sum = refl
old_version Last = refl
old_version Max = refl
old_version Min = refl
old_version AvgZero = refl
old_version AbsMax = refl
old_version AbsMin = refl

new_version : (method : Method) → version_by (first_word 2 method) ≡ 2
unfolding method_of
new_version Average = refl
new_version Sum = refl
new_version Last = refl
new_version Max = refl
new_version Min = refl
new_version AvgZero = refl
new_version AbsMax = refl
new_version AbsMin = refl

word_version : (version : ℕ) (method : Method) → IsVersion version → version_by (first_word version method) ≡ version
word_version version method (inl old) = rw old (old_version method)
word_version version method (inr new) = rw new (new_version method)

pub version_is : (version : ℕ) (layout : LayoutValue) (bytes : List ℕ) → IsVersion version → take (length (head_bytes_in version layout)) bytes ≡ head_bytes_in version layout → version_of bytes ≡ version
unfolding version_of
version_is version layout bytes known begins =
    let rest : List ℕ = drop (length (head_bytes_in version layout)) bytes in
    let split : bytes ≡ front_bytes version layout ++ (rows_bytes (rows_of version layout.archives) ++ rest) =
    sym (take-append-drop (length (head_bytes_in version layout)) bytes) ∙ ap (λ (xs : List ℕ). xs ++ rest) begins ∙ append_assoc (front_bytes version layout) (rows_bytes (rows_of version layout.archives)) rest in
    let word : number_at 0 bytes ≡ first_word version layout.method =
    ap (number_at 0) (split ∙ front_split version layout (rows_bytes (rows_of version layout.archives) ++ rest)) ∙ number_at-written [] (first_word version layout.method) _ 0 refl (word_fits version layout.method known) in
    ap version_by word ∙ word_version version layout.method known
