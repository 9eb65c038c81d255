-- Every body is told by its bytes, and bytes that are no body tell none.
use Rattle.std.proofs.Common.{◌≡◌, ◌∙◌, ℕ, ◌+◌, ◌*◌, ◌/◌, ◌%◌, ◌<◌, ◌≤◌, ◌^◌, Bool, true, false, cond, ◌&&◌, ◌==◌, eqb, ltb, List, [], ◌∷◌, ◌++◌, length, take, drop, get_or, slice_get, Option, None, Some, option_map, refl, sym, ap, ap₂, subst, arith, append_assoc, length-append, length-take, length-drop, take-append-drop}
use Rattle.std.specs.Prelude.{option_and_then, replicate, is_some, if◌then◌else◌}
use Rattle.std.specs.Int.{w64, to_be_bytes, from_be_bytes}
use Rattle.std.specs.List.{list_all}
use Rattle.std.proofs.Math.Seq.{take-add}
use Rattle.std.proofs.lemmas.Bool.{and_parts, cond-true, cond-false, eq-eqb, eqb-true, ltb-false, ne_eqb}
use Rattle.std.proofs.lemmas.Bool.Decides.{nat_tests}
use Rattle.std.proofs.lemmas.List.{drop-drop, drop_at, take_at}
use Rattle.std.proofs.lemmas.Nat.{be_bytes_8, from_be_bytes-to_be_bytes_8}
use Rattle.std.proofs.lemmas.Option.{slice_get-get_or}
use Rattle.metric_path.specs.declared.path.PathFault.{PathFault}
use Rattle.metric_path.specs.Path.{path_fault}
use Rattle.metric_path.proofs.PathLemmas.{length_of_legal}
use Rattle.ring_format.specs.declared.archive.Archive.{Archive}
use Rattle.ring_format.specs.Head.{head_bytes, is_zero, number_at, number_bytes}
use Rattle.ring_format.specs.Layout.{LayoutValue, layout_fault}
use Rattle.ring_format.specs.LayoutFile.{head_size}
use Rattle.ring_format.specs.Patch.{Cells as Laid, PatchValue}
use Rattle.ring_format.proofs.CellOrder.{no_cells as none_stand}
use Rattle.ring_format.proofs.LawfulLayouts.{archive_bounds, lawful_count}
use Rattle.ring_format.proofs.NumberLemmas.{IsBytes, length-number_bytes, number_at-written, number_bytes-read}
use Rattle.redo_log.specs.Body.{AreCells, IsBody, IsSound, body_bytes, count_bytes, entries_bytes, entry_size, leading_bytes, numbers_bytes, numbers_size}
use Rattle.redo_log.specs.Told.{body_told, cells_told, count_at, entries_told, fresh_told, is_nothing, layout_told, numbers_told, parts_told, patch_told, path_told}
use Rattle.redo_log.specs.declared.numbers.Numbers.{Numbers}
use Rattle.redo_log.proofs.BodyLemmas.{length-body, length-entries, length-head, length-leading, length-numbers}
use Rattle.redo_log.proofs.CellLemmas.{cells_few}
use Rattle.redo_log.proofs.EntryLaws.{IsLow, bytes_behind, bytes_front, cells_are_told, told_are_cells}
use Rattle.redo_log.proofs.LayoutLaws.{layout_is_told, told_is_layout}

blank : Archive
blank = record { step = 0; points = 0 }

lawful_low : (layout : LayoutValue) → layout_fault layout.archives layout.factor ≡ None → IsLow layout
lawful_low layout lawful place is =
    let counts = lawful_count layout.archives layout.factor lawful in
    let ring : slice_get layout.archives place.0 ≡ Some (get_or layout.archives place.0 blank) = slice_get-get_or layout.archives place.0 blank is.0 in
    let below : place.1 < (get_or layout.archives place.0 blank).points = rw ring at is.1 in
    let within : place.0 < length layout.archives = is.0 in
    (omega (arith, within, counts.1), omega (arith, below, (archive_bounds layout.archives layout.factor place.0 blank lawful within).3))

-- ---- the parts of a body

number_of : Bool → ℕ
number_of fresh = if fresh then 1 else 0

leading_parts : (patch : PatchValue) (rest : List ℕ) → leading_bytes patch ++ rest ≡ numbers_bytes patch ++ (patch.path ++ (head_bytes patch.layout ++ rest))
unfolding leading_bytes
leading_parts patch rest = simp append_assoc

numbers_parts : (patch : PatchValue) (rest : List ℕ) → numbers_bytes patch ++ rest ≡ number_bytes (length patch.path) ++ (number_bytes (number_of patch.fresh) ++ (count_bytes (length patch.cells) ++ rest))
unfolding numbers_bytes number_of
numbers_parts patch rest = simp append_assoc

number_small : (fresh : Bool) → number_of fresh < 2 ^ 32
unfolding number_of
number_small true = omega arith
number_small false = omega arith

fresh_again : (fresh : Bool) → fresh_told (number_of fresh) ≡ Some fresh
unfolding fresh_told number_of
fresh_again true = refl
fresh_again false = refl

count_again : (before : List ℕ) (n : ℕ) (after : List ℕ) → length before ≡ 8 → n < 2 ^ 64 → count_at 8 (before ++ (count_bytes n ++ after)) ≡ n
unfolding count_at count_bytes
count_again before n after here fits =
    ap (λ (xs : List ℕ). from_be_bytes w64 (take 8 xs)) (drop_at before (to_be_bytes w64 n ++ after) 8 here) ∙ ap (from_be_bytes w64) (take_at (to_be_bytes w64 n) after 8 refl) ∙ from_be_bytes-to_be_bytes_8 n fits

numbers_by : (bytes : List ℕ) (path_len cell_count : ℕ) (fresh : Bool) → ltb (length bytes) numbers_size ≡ false → ltb (length bytes) (numbers_size + number_at 0 bytes) ≡ false → number_at 0 bytes ≡ path_len
    → fresh_told (number_at 4 bytes) ≡ Some fresh → count_at 8 bytes ≡ cell_count → numbers_told bytes ≡ Some (record { path_len = path_len; is_fresh = fresh; cell_count = cell_count })
unfolding numbers_told
numbers_by bytes path_len cell_count fresh long within len is count =
    cond-false _ _ _ long ∙ cond-false _ _ _ within ∙ ap (option_map (λ (f : Bool). record { path_len = number_at 0 bytes; is_fresh = f; cell_count = count_at 8 bytes })) is
    ∙ ap₂ (λ (m n : ℕ). Some (record { path_len = m; is_fresh = fresh; cell_count = n })) len count

numbers_of : PatchValue → Numbers
numbers_of patch = record { path_len = length patch.path; is_fresh = patch.fresh; cell_count = length patch.cells }

not_short : (m n : ℕ) → n ≤ m → ltb m n ≡ false
not_short m n le = grind (arith, nat_tests)

numbers_are_told : (patch : PatchValue) (rest : List ℕ) → length patch.path ≤ 1024 → length patch.cells < 2 ^ 31 → length patch.path ≤ length rest → numbers_told (numbers_bytes patch ++ rest) ≡ Some (numbers_of patch)
unfolding numbers_of
numbers_are_told patch rest short few room =
    let bytes : List ℕ = numbers_bytes patch ++ rest in
    let a : List ℕ = number_bytes (length patch.path) in
    let b : List ℕ = number_bytes (number_of patch.fresh) in
    let c : List ℕ = count_bytes (length patch.cells) in
    let split : bytes ≡ a ++ (b ++ (c ++ rest)) = numbers_parts patch rest in
    let eight : length (a ++ b) ≡ 8 = omega (arith, length-append a b, length-number_bytes (length patch.path), length-number_bytes (number_of patch.fresh)) in
    let first : number_at 0 bytes ≡ length patch.path = ap (number_at 0) split ∙ number_at-written [] (length patch.path) (b ++ (c ++ rest)) 0 refl (omega (arith, short)) in
    let second : number_at 4 bytes ≡ number_of patch.fresh = ap (number_at 4) split ∙ number_at-written a (number_of patch.fresh) (c ++ rest) 4 (length-number_bytes (length patch.path)) (number_small patch.fresh) in
    let third : count_at 8 bytes ≡ length patch.cells = ap (count_at 8) (split ∙ sym (append_assoc a b (c ++ rest))) ∙ count_again (a ++ b) (length patch.cells) rest eight (omega (arith, few)) in
    let long : length bytes ≡ 16 + length rest = length-append (numbers_bytes patch) rest ∙ ap (λ (n : ℕ). n + length rest) (length-numbers patch) in
    numbers_by bytes (length patch.path) (length patch.cells) patch.fresh (not_short (length bytes) 16 (omega (arith, long))) (not_short (length bytes) (16 + number_at 0 bytes) (omega (arith, long, first, room))) first
    (ap fresh_told second ∙ fresh_again patch.fresh) third

whole_number : (n : ℕ) → ((entry_size * n) / 28 == n && (entry_size * n) % 28 == 0) ≡ true
whole_number n =
    let quotient : (entry_size * n) / 28 ≡ n = omega arith in
    let remainder : (entry_size * n) % 28 ≡ 0 = omega arith in
    ap₂ (λ (a b : Bool). a && b) (eq-eqb ((entry_size * n) / 28) n quotient) (eq-eqb ((entry_size * n) % 28) 0 remainder)

entries_are_told : (layout : LayoutValue) (cells : Laid) → IsLow layout → AreCells layout cells → entries_told layout (length cells) (entries_bytes cells) ≡ Some cells
unfolding entries_told
entries_are_told layout cells low are =
    let test : (length (entries_bytes cells) / 28 == length cells && length (entries_bytes cells) % 28 == 0) ≡ true = ap (λ (n : ℕ). n / 28 == length cells && n % 28 == 0) (length-entries cells) ∙ whole_number (length cells) in
    cond-true _ _ _ test ∙ cells_are_told layout [] cells low are

legal_told : (path : List ℕ) → path_fault path ≡ None → path_told path ≡ Some path
legal_told path legal = ap (λ (o : Option PathFault). cond (is_some o) None (Some path)) legal

parts_by : (numbers : Numbers) (bytes path : List ℕ) (layout : LayoutValue) (cells : Laid) → layout_told (drop numbers.path_len bytes) ≡ Some layout → path_told (take numbers.path_len bytes) ≡ Some path
    → entries_told layout numbers.cell_count (drop (head_size (length layout.archives)) (drop numbers.path_len bytes)) ≡ Some cells
    → parts_told numbers bytes ≡ Some (record { path = path; layout = layout; fresh = numbers.is_fresh; cells = cells })
unfolding parts_told
parts_by numbers bytes path layout cells a b c = rw (a, b, c) refl

parts_are_told : (patch : PatchValue) → IsSound patch → parts_told (numbers_of patch) (patch.path ++ (head_bytes patch.layout ++ entries_bytes patch.cells)) ≡ Some patch
unfolding numbers_of
parts_are_told patch is =
    let rest : List ℕ = head_bytes patch.layout ++ entries_bytes patch.cells in
    let back : drop (length patch.path) (patch.path ++ rest) ≡ rest = drop_at patch.path rest (length patch.path) refl in
    let front : take (length patch.path) (patch.path ++ rest) ≡ patch.path = take_at patch.path rest (length patch.path) refl in
    let cells : drop (head_size (length patch.layout.archives)) rest ≡ entries_bytes patch.cells = drop_at (head_bytes patch.layout) (entries_bytes patch.cells) (head_size (length patch.layout.archives)) (length-head patch.layout) in
    parts_by (record { path_len = length patch.path; is_fresh = patch.fresh; cell_count = length patch.cells }) (patch.path ++ rest) patch.path patch.layout patch.cells (ap layout_told back ∙ layout_is_told patch.layout (entries_bytes patch.cells) is.lawful)
    (ap path_told front ∙ legal_told patch.path is.legal)
    (ap (entries_told patch.layout (length patch.cells)) (ap (drop (head_size (length patch.layout.archives))) back ∙ cells) ∙ entries_are_told patch.layout patch.cells (lawful_low patch.layout is.lawful) is.cells)

patch_is_told : (patch : PatchValue) → IsSound patch → patch_told (body_bytes patch) ≡ Some patch
unfolding patch_told
patch_is_told patch is =
    let rest : List ℕ = patch.path ++ (head_bytes patch.layout ++ entries_bytes patch.cells) in
    let split : body_bytes patch ≡ numbers_bytes patch ++ rest = leading_parts patch (entries_bytes patch.cells) in
    let counts = lawful_count patch.layout.archives patch.layout.factor is.lawful in
    let few = cells_few patch is.cells.rise is.cells.placed counts.2 in
    let numbers : numbers_told (body_bytes patch) ≡ Some (numbers_of patch) =
    ap numbers_told split ∙ numbers_are_told patch rest (length_of_legal patch.path is.legal).1 few (omega (arith, length-append patch.path (head_bytes patch.layout ++ entries_bytes patch.cells))) in
    let back : drop 16 (body_bytes patch) ≡ rest = ap (drop 16) split ∙ drop_at (numbers_bytes patch) rest 16 (length-numbers patch) in
    ap (option_and_then (λ n. parts_told n (drop 16 (body_bytes patch)))) numbers ∙ ap (parts_told (numbers_of patch)) back ∙ parts_are_told patch is

nothing_by : (bytes : List ℕ) → is_nothing bytes ≡ true → body_told bytes ≡ Some None
unfolding body_told
nothing_by bytes is = cond-true _ _ _ is

something_by : (bytes : List ℕ) (patch : PatchValue) → is_nothing bytes ≡ false → patch_told bytes ≡ Some patch → body_told bytes ≡ Some (Some patch)
unfolding body_told
something_by bytes patch other is = cond-false _ _ _ other ∙ ap (option_map (λ (p : PatchValue). Some p)) is

and_not : (a b : Bool) → a ≡ false → (a && b) ≡ false
and_not true b e = absurd cc
and_not false b e = refl

not_nothing : (patch : PatchValue) → is_nothing (body_bytes patch) ≡ false
not_nothing patch =
    and_not (length (body_bytes patch) == 16) (list_all is_zero (body_bytes patch)) (ne_eqb (length (body_bytes patch)) 16 (λ same. absurd (omega (arith, same, length-body patch, length-leading patch))))

-- every body is told
pub body_is_told : (bytes : List ℕ) (patch : Option PatchValue) → IsBody bytes patch → body_told bytes ≡ Some patch
body_is_told bytes None is = ap body_told is ∙ nothing_by (replicate 16 0) refl
body_is_told bytes (Some patch) is = ap body_told is.1 ∙ something_by (body_bytes patch) patch (not_nothing patch) (patch_is_told patch is.0)

-- ---- what is told

all_zero : (bytes : List ℕ) → list_all is_zero bytes ≡ true → bytes ≡ replicate (length bytes) 0
all_zero [] e = refl
all_zero (b ∷ bytes) e =
    let both = and_parts (is_zero b) (list_all is_zero bytes) e in
    ap₂ (λ (x : ℕ) (xs : List ℕ). x ∷ xs) (eqb-true b 0 both.0) (all_zero bytes both.1)

passed : {X : Type 0} (b : Bool) (o : Option X) (x : X) → cond b None o ≡ Some x → (b ≡ false) × (o ≡ Some x)
passed true o x e = absurd cc
passed false o x e = (refl, e)

hit : {X : Type 0} (b : Bool) (o : Option X) (x : X) → cond b o None ≡ Some x → (b ≡ true) × (o ≡ Some x)
hit true o x e = (refl, e)
hit false o x e = absurd cc

mapped : {X Y : Type 0} (f : X → Y) (o : Option X) (y : Y) → option_map f o ≡ Some y → (x : X) × (o ≡ Some x) × (f x ≡ y)
mapped f None y e = absurd cc
mapped f (Some x) y e = (x, refl, cc)

chosen : {X Y : Type 0} (f : X → Option Y) (o : Option X) (y : Y) → option_and_then f o ≡ Some y → (x : X) × (o ≡ Some x) × (f x ≡ Some y)
chosen f None y e = absurd cc
chosen f (Some x) y e = (x, refl, e)

record TellsNumbers (bytes : List ℕ) (numbers : Numbers) : Type 0 where
  pub long : 16 ≤ length bytes
  pub within : 16 + numbers.path_len ≤ length bytes
  pub path : number_at 0 bytes ≡ numbers.path_len
  pub fresh : fresh_told (number_at 4 bytes) ≡ Some numbers.is_fresh
  pub count : count_at 8 bytes ≡ numbers.cell_count

numbers_from : (bytes : List ℕ) (numbers : Numbers) → numbers_told bytes ≡ Some numbers → TellsNumbers bytes numbers
unfolding numbers_told
numbers_from bytes numbers e =
    let last : Option Numbers = option_map (λ (f : Bool). record { path_len = number_at 0 bytes; is_fresh = f; cell_count = count_at 8 bytes }) (fresh_told (number_at 4 bytes)) in
    let a = passed (ltb (length bytes) 16) (cond (ltb (length bytes) (16 + number_at 0 bytes)) None last) numbers e in
    let b = passed (ltb (length bytes) (16 + number_at 0 bytes)) last numbers a.1 in
    let c = mapped (λ (f : Bool). record { path_len = number_at 0 bytes; is_fresh = f; cell_count = count_at 8 bytes }) (fresh_told (number_at 4 bytes)) numbers b.1 in
    let long : 16 ≤ length bytes = ltb-false (length bytes) 16 a.0 in
    let within : 16 + number_at 0 bytes ≤ length bytes = ltb-false (length bytes) (16 + number_at 0 bytes) b.0 in
    subst (TellsNumbers bytes) c.2 (record { long = long; within = within; path = refl; fresh = c.1; count = refl })

fresh_by : (a b : Bool) (n : ℕ) (fresh : Bool) → eqb n 0 ≡ a → eqb n 1 ≡ b → cond a (Some false) (cond b (Some true) None) ≡ Some fresh → n ≡ number_of fresh
unfolding number_of
fresh_by true b n fresh zero_is one_is e =
    let is : false ≡ fresh = cc in
    eqb-true n 0 zero_is ∙ ap (λ (f : Bool). cond f 1 0) is
fresh_by false true n fresh zero_is one_is e =
    let is : true ≡ fresh = cc in
    eqb-true n 1 one_is ∙ ap (λ (f : Bool). cond f 1 0) is
fresh_by false false n fresh zero_is one_is e = absurd cc

fresh_back : (n : ℕ) (fresh : Bool) → fresh_told n ≡ Some fresh → n ≡ number_of fresh
unfolding fresh_told
fresh_back n fresh e = fresh_by (eqb n 0) (eqb n 1) n fresh refl refl e

count_back : (bytes : List ℕ) → IsBytes bytes → 16 ≤ length bytes → count_bytes (count_at 8 bytes) ≡ take 8 (drop 8 bytes)
unfolding count_bytes count_at
count_back bytes fits room =
    be_bytes_8 (take 8 (drop 8 bytes)) (from_be_bytes w64 (take 8 (drop 8 bytes))) (omega (arith, length-take 8 (drop 8 bytes), length-drop 8 bytes)) (bytes_front 8 (drop 8 bytes) (bytes_behind 8 bytes fits)) refl

numbers_alone : (patch : PatchValue) → numbers_bytes patch ≡ number_bytes (length patch.path) ++ (number_bytes (number_of patch.fresh) ++ count_bytes (length patch.cells))
unfolding numbers_bytes number_of
numbers_alone patch = refl

-- the numbers of a patch are the first sixteen bytes
numbers_back : (bytes : List ℕ) (patch : PatchValue) (numbers : Numbers) → IsBytes bytes → TellsNumbers bytes numbers → length patch.path ≡ numbers.path_len → patch.fresh ≡ numbers.is_fresh → length patch.cells ≡ numbers.cell_count
    → numbers_bytes patch ≡ take 16 bytes
numbers_back bytes patch numbers fits told path fresh count =
    let first : number_bytes (length patch.path) ≡ take 4 bytes = ap number_bytes (path ∙ sym told.path) ∙ number_bytes-read bytes 0 fits (omega (arith, told.long)) in
    let flag : number_of patch.fresh ≡ number_at 4 bytes = ap number_of fresh ∙ sym (fresh_back (number_at 4 bytes) numbers.is_fresh told.fresh) in
    let second : number_bytes (number_of patch.fresh) ≡ take 4 (drop 4 bytes) = ap number_bytes flag ∙ number_bytes-read bytes 4 fits (omega (arith, told.long)) in
    let third : count_bytes (length patch.cells) ≡ take 8 (drop 8 bytes) = ap count_bytes (count ∙ sym told.count) ∙ count_back bytes fits told.long in
    let split : take 16 bytes ≡ take 4 bytes ++ (take 4 (drop 4 bytes) ++ take 8 (drop 8 bytes)) = take-add 4 12 bytes
    ∙ ap (λ (xs : List ℕ). take 4 bytes ++ xs) (take-add 4 8 (drop 4 bytes) ∙ ap (λ (xs : List ℕ). take 4 (drop 4 bytes) ++ take 8 xs) (drop-drop 4 4 bytes)) in
    numbers_alone patch ∙ ap₂ (λ (xs ys : List ℕ). xs ++ ys) first (ap₂ (λ (xs ys : List ℕ). xs ++ ys) second third) ∙ sym split

path_by : (o : Option PathFault) (text path : List ℕ) → cond (is_some o) None (Some text) ≡ Some path → (o ≡ None) × (text ≡ path)
path_by None text path e = (refl, cc)
path_by (Some fault) text path e = absurd cc

entries_from : (layout : LayoutValue) (count : ℕ) (bytes : List ℕ) (cells : Laid) → entries_told layout count bytes ≡ Some cells → (length bytes ≡ entry_size * count) × (cells_told layout [] count bytes ≡ Some cells)
unfolding entries_told
entries_from layout count bytes cells e =
    let parts = hit (length bytes / 28 == count && length bytes % 28 == 0) (cells_told layout [] count bytes) cells e in
    let both = and_parts (length bytes / 28 == count) (length bytes % 28 == 0) parts.0 in
    let quotient : length bytes / 28 ≡ count = eqb-true (length bytes / 28) count both.0 in
    let remainder : length bytes % 28 ≡ 0 = eqb-true (length bytes % 28) 0 both.1 in
    (omega (arith, quotient, remainder), parts.1)

no_cells : (layout : LayoutValue) → AreCells layout []
no_cells layout =
    let none = none_stand layout [] refl in
    record { rise = none.0; placed = none.1; fit = λ k d below. absurd (omega arith) }

record TellsParts (numbers : Numbers) (bytes : List ℕ) (patch : PatchValue) : Type 0 where
  pub sound : IsSound patch
  pub path : length patch.path ≡ numbers.path_len
  pub fresh : patch.fresh ≡ numbers.is_fresh
  pub count : length patch.cells ≡ numbers.cell_count
  pub parts : patch.path ++ (head_bytes patch.layout ++ entries_bytes patch.cells) ≡ bytes

parts_from : (numbers : Numbers) (bytes : List ℕ) (patch : PatchValue) → IsBytes bytes → numbers.path_len ≤ length bytes → parts_told numbers bytes ≡ Some patch → TellsParts numbers bytes patch
unfolding parts_told
parts_from numbers bytes patch fits room e =
    let rest : List ℕ = drop numbers.path_len bytes in
    let text : List ℕ = take numbers.path_len bytes in
    let a = chosen (λ (layout : LayoutValue). option_and_then (λ path. option_map (λ (cells : Laid). record { path = path; layout = layout; fresh = numbers.is_fresh; cells = cells })
    (entries_told layout numbers.cell_count (drop (head_size (length layout.archives)) rest))) (path_told text)) (layout_told rest) patch e in
    let layout : LayoutValue = a.0 in
    let entries : List ℕ = drop (head_size (length layout.archives)) rest in
    let b = chosen (λ (path : List ℕ). option_map (λ (cells : Laid). record { path = path; layout = layout; fresh = numbers.is_fresh; cells = cells }) (entries_told layout numbers.cell_count entries)) (path_told text) patch a.2 in
    let legal = path_by (path_fault text) text b.0 b.1 in
    let c = mapped (λ (cells : Laid). record { path = b.0; layout = layout; fresh = numbers.is_fresh; cells = cells }) (entries_told layout numbers.cell_count entries) patch b.2 in
    let rest_fits : IsBytes rest = bytes_behind numbers.path_len bytes fits in
    let told = told_is_layout rest layout rest_fits a.1 in
    let d = entries_from layout numbers.cell_count entries c.0 c.1 in
    let cells = told_are_cells layout [] numbers.cell_count entries c.0 d.0 (bytes_behind (head_size (length layout.archives)) rest rest_fits) (no_cells layout) d.1 in
    let laid : entries_bytes c.0 ≡ entries = ap entries_bytes cells.is ∙ cells.bytes_are in
    let head : head_bytes layout ≡ take (head_size (length layout.archives)) rest = sym (sym (ap (λ (n : ℕ). take n rest) (length-head layout)) ∙ told.begins) in
    subst (TellsParts numbers bytes) c.2 (record {
      sound = record { legal = subst (λ (t : List ℕ). path_fault t ≡ None) legal.1 legal.0; lawful = told.lawful; cells = cells.are };
      path = ap length (sym legal.1) ∙ (omega (arith, length-take numbers.path_len bytes));
      fresh = refl;
      count = omega (arith, ap length laid, length-entries c.0, d.0);
      parts = ap₂ (λ (xs ys : List ℕ). xs ++ ys) (sym legal.1) (ap₂ (λ (xs ys : List ℕ). xs ++ ys) head laid ∙ take-append-drop (head_size (length layout.archives)) rest) ∙ take-append-drop numbers.path_len bytes;
    })

patch_from : (bytes : List ℕ) (patch : PatchValue) → IsBytes bytes → patch_told bytes ≡ Some patch → IsSound patch × (bytes ≡ body_bytes patch)
unfolding patch_told
patch_from bytes patch fits e =
    let a = chosen (λ numbers. parts_told numbers (drop 16 bytes)) (numbers_told bytes) patch e in
    let told = numbers_from bytes a.0 a.1 in
    let parts = parts_from a.0 (drop 16 bytes) patch (bytes_behind 16 bytes fits) (omega (arith, told.within, length-drop 16 bytes)) a.2 in
    let front = numbers_back bytes patch a.0 fits told parts.path parts.fresh parts.count in
    (parts.sound, sym (leading_parts patch (entries_bytes patch.cells) ∙ ap₂ (λ (xs ys : List ℕ). xs ++ ys) front parts.parts ∙ take-append-drop 16 bytes))

-- what is told has these bytes as its body
pub told_is_body : (bytes : List ℕ) (patch : Option PatchValue) → IsBytes bytes → body_told bytes ≡ Some patch → IsBody bytes patch
unfolding body_told
told_is_body bytes patch fits e = by (is_nothing bytes) refl e
  where
    by : (b : Bool) → is_nothing bytes ≡ b → cond b (Some None) (option_map (λ (p : PatchValue). Some p) (patch_told bytes)) ≡ Some patch → IsBody bytes patch
    by true is f =
        let none : None ≡ patch = cc in
        let both = and_parts (length bytes == 16) (list_all is_zero bytes) is in
        subst (IsBody bytes) none (all_zero bytes both.1 ∙ ap (λ (n : ℕ). replicate n 0) (eqb-true (length bytes) 16 both.0))
    by false other f =
        let m = mapped (λ (p : PatchValue). Some p) (patch_told bytes) patch f in
        subst (IsBody bytes) m.2 (patch_from bytes m.0 fits m.1)

pub one_patch : (bytes : List ℕ) (p q : Option PatchValue) → IsBody bytes p → IsBody bytes q → p ≡ q
one_patch bytes p q a b =
    let same : Some p ≡ Some q = sym (body_is_told bytes p a) ∙ body_is_told bytes q b in
    cc
