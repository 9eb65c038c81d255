-- Lemmas on the rows of a head, each of 12 bytes.
use Rattle.std.proofs.Common.{◌≡◌, ℕ, ◌+◌, ◌-◌, ◌*◌, ◌<◌, ◌≤◌, List, [], ◌∷◌, ◌++◌, length, get_or, take, drop, map, refl, sym, ap, ◌∙◌, arith, append_assoc, take_all}
use Rattle.std.specs.List.{flat_map, range_with_len}
use Rattle.std.proofs.lemmas.Grind.{flat_map-append, take_at_read}
use Rattle.std.proofs.lemmas.List.{append-nil, drop-drop}
use Rattle.std.proofs.lemmas.List.Concat.{flat_map-cons}
use Rattle.std.proofs.lemmas.List.FromFn.{get_or-map-range_with_len, length-map-range_with_len, map-range_with_len_more}
use Rattle.std.proofs.lemmas.List.Sums.{sum_by_push}
use Rattle.std.proofs.lemmas.Slice.Zip.{get_or-zip, length-zip}
use Rattle.ring_format.specs.declared.archive.Archive.{Archive}
use Rattle.ring_format.specs.Layout.{point_count}
use Rattle.ring_format.specs.LayoutFile.{head_size, offset_in}
use Rattle.ring_format.specs.Head.{archive_at, row_bytes, rows_bytes, rows_of}
use Rattle.ring_format.specs.Cell.{cell_size_in}

pub drop_later : (xs ys : List ℕ) (m n : ℕ) → drop m xs ≡ drop m ys → m ≤ n → drop n xs ≡ drop n ys
drop_later xs ys m n e h =
    let split : m + (n - m) ≡ n = omega arith in
    ap (λ k. drop k xs) (sym split) ∙ (sym (drop-drop (n - m) m xs) ∙ (ap (drop (n - m)) e ∙ (drop-drop (n - m) m ys ∙ ap (λ k. drop k ys) split)))

-- one row more is read
pub archives_more : (bytes : List ℕ) (i : ℕ) (archives later : List Archive) → archives ≡ map (archive_at bytes) (range_with_len 0 i) → later ≡ archives ++ archive_at bytes i ∷ []
    → later ≡ map (archive_at bytes) (range_with_len 0 (i + 1))
archives_more bytes i archives later e f =
    f ∙ ap (λ (xs : List Archive). xs ++ archive_at bytes i ∷ []) e ∙ sym (map-range_with_len_more (archive_at bytes) 0 i i (omega arith))

pub length-rows_of : (version : ℕ) (archives : List Archive) → length (rows_of version archives) ≡ length archives
length-rows_of version archives =
    omega (arith, length-zip (map (offset_in version archives) (range_with_len 0 (length archives))) archives, length-map-range_with_len (offset_in version archives) 0 (length archives))

pub get_or-rows_of : (version : ℕ) (archives : List Archive) (i : ℕ) (d : Archive) → i < length archives → get_or (rows_of version archives) i (0, d) ≡ (offset_in version archives i, get_or archives i d)
get_or-rows_of version archives i d within =
    get_or-zip (map (offset_in version archives) (range_with_len 0 (length archives))) archives i (0, d) (omega (arith, length-map-range_with_len (offset_in version archives) 0 (length archives))) within
    ∙ rw (get_or-map-range_with_len (offset_in version archives) 0 (length archives) i i 0 within (omega arith)) refl

spread : (head size before more : ℕ) → head + size * (before + more) ≡ head + size * before + size * more
spread head size before more = omega arith

pub offset_in-more : (version : ℕ) (archives : List Archive) (i : ℕ) (d : Archive) → i < length archives
    → offset_in version archives (i + 1) ≡ offset_in version archives i + cell_size_in version * (get_or archives i d).points
offset_in-more version archives i d within =
    let more : take (i + 1) archives ≡ take i archives ++ get_or archives i d ∷ [] = (take_at_read archives i d within).1 in
    let points : point_count (take (i + 1) archives) ≡ point_count (take i archives) + (get_or archives i d).points = ap point_count more ∙ sum_by_push (λ (archive : Archive). archive.points) (take i archives) (get_or archives i d) in
    ap (λ (n : ℕ). head_size (length archives) + cell_size_in version * n) points ∙ spread (head_size (length archives)) (cell_size_in version) (point_count (take i archives)) (get_or archives i d).points

pub rows_bytes-push : (rows : List (ℕ × Archive)) (row : ℕ × Archive) → rows_bytes (rows ++ row ∷ []) ≡ rows_bytes rows ++ row_bytes row
unfolding rows_bytes
rows_bytes-push rows row =
    flat_map-append row_bytes rows (row ∷ []) ∙ ap (λ (xs : List ℕ). flat_map row_bytes rows ++ xs) (flat_map-cons row_bytes row [] ∙ append-nil (row_bytes row))

pub rows_bytes-none : rows_bytes [] ≡ []
unfolding rows_bytes
rows_bytes-none = refl

-- at the start no row is written
pub written_none : (front : List ℕ) → front ≡ front ++ rows_bytes []
written_none front = sym (ap (λ (xs : List ℕ). front ++ xs) rows_bytes-none ∙ append-nil front)

-- four texts, each behind the one before it
pub four_in_row : (a b c d first second third fourth : List ℕ) → second ≡ first ++ b → third ≡ second ++ c → fourth ≡ third ++ d → first ≡ a → fourth ≡ a ++ (b ++ (c ++ d))
four_in_row a b c d first second third fourth p q r e =
    rw (r, q, p, e) (append_assoc (a ++ b) c d ∙ append_assoc a b (c ++ d))

-- one row more is written
pub rows_more : (version : ℕ) (archives : List Archive) (i : ℕ) (d : Archive) → i < length archives
    → rows_bytes (take (i + 1) (rows_of version archives)) ≡ rows_bytes (take i (rows_of version archives)) ++ row_bytes (offset_in version archives i, get_or archives i d)
rows_more version archives i d within =
    ap rows_bytes (take_at_read (rows_of version archives) i (0, d) (omega (arith, length-rows_of version archives))).1
    ∙ rows_bytes-push (take i (rows_of version archives)) (get_or (rows_of version archives) i (0, d))
    ∙ ap (λ (row : ℕ × Archive). rows_bytes (take i (rows_of version archives)) ++ row_bytes row) (get_or-rows_of version archives i d within)

-- what stands at the front after a row was written
pub written_more : (version : ℕ) (front : List ℕ) (archives : List Archive) (i : ℕ) (d : Archive) (before after : List ℕ) → i < length archives → before ≡ front ++ rows_bytes (take i (rows_of version archives))
    → after ≡ before ++ row_bytes (offset_in version archives i, get_or archives i d) → after ≡ front ++ rows_bytes (take (i + 1) (rows_of version archives))
written_more version front archives i d before after within e f =
    f ∙ ap (λ (xs : List ℕ). xs ++ row_bytes (offset_in version archives i, get_or archives i d)) e
    ∙ append_assoc front (rows_bytes (take i (rows_of version archives))) (row_bytes (offset_in version archives i, get_or archives i d))
    ∙ ap (λ (xs : List ℕ). front ++ xs) (sym (rows_more version archives i d within))

pub written_all : (version : ℕ) (front : List ℕ) (archives : List Archive) (i : ℕ) (text : List ℕ) → length archives ≤ i → text ≡ front ++ rows_bytes (take i (rows_of version archives)) → text ≡ front ++ rows_bytes (rows_of version archives)
written_all version front archives i text all e =
    e ∙ ap (λ (rows : List (ℕ × Archive)). front ++ rows_bytes rows) (take_all i (rows_of version archives) (omega (arith, length-rows_of version archives)))
