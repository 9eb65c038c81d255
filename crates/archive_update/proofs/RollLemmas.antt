-- What coarser archives get from finer ones.
use Rattle.std.proofs.Common.{◌≡◌, ◌≢◌, ℕ, ℤ, zero, suc, ◌+◌, ◌-◌, ◌*◌, ◌/◌, ◌<◌, ◌≤◌, ◌==◌, true, false, List, [], ◌∷◌, ◌++◌, length, get_or, take, drop, map, All, Option, Some, None, refl, sym, ap, subst, ◌∙◌, arith}
use Rattle.std.specs.Prelude.{slice_get, option_map}
use Rattle.std.specs.List.{filter_map, range_with_len}
use Rattle.std.specs.Option.{option_map_or}
use Rattle.std.proofs.lemmas.Bool.Decides.{nat_tests}
use Rattle.std.proofs.lemmas.List.{ext_get_or, get_or-drop, get_or-take, length-drop, length-take, take_more}
use Rattle.std.proofs.lemmas.List.Elements.{All-append, All-nil, All-push, filter_map-append}
use Rattle.std.proofs.lemmas.List.FromFn.{get_or-map-range_with_len, length-map-range_with_len}
use Rattle.ring_format.specs.declared.archive.Archive.{Archive}
use Rattle.ring_format.specs.Layout.{LayoutValue}
use Rattle.ring_format.specs.Patch.{PatchValue}
use Rattle.ring_archive.specs.Ring.{ReadsAs, Rings, value_of, values_from}
use Rattle.archive_update.specs.Batch.{itself, known_in, level_writes, rolled_from, rolled_up, step_of, value_from_finer, with_writes}
use Rattle.archive_update.specs.Buckets.{IsShown}
use Rattle.archive_update.specs.Laid.{Writes}
use Rattle.archive_update.specs.Rolled.{Level, RollsTo, RollsUp, rolled_write, known_from, next_writes}

-- ---- values that were read

-- so many from a place on
part_of : (f : ℕ → Option ℤ) (count at places : ℕ) → at + places ≤ count → take places (drop at (map f (range_with_len 0 count))) ≡ map (λ k. f (at + k)) (range_with_len 0 places)
part_of f count at places fits =
    let whole : List (Option ℤ) = map f (range_with_len 0 count) in
    let long = length-map-range_with_len f 0 count in
    let part : length (take places (drop at (map f (range_with_len 0 count)))) ≡ places = omega (arith, length-take places (drop at (map f (range_with_len 0 count))), length-drop at (map f (range_with_len 0 count))) in
    ext_get_or None (take places (drop at (map f (range_with_len 0 count)))) (map (λ (k : ℕ). f (at + k)) (range_with_len 0 places)) (part ∙ sym (length-map-range_with_len (λ (k : ℕ). f (at + k)) 0 places))
    (λ i lt.
    let small : i < places = omega arith in
    get_or-take places (drop at (map f (range_with_len 0 count))) i None small ∙ get_or-drop at (map f (range_with_len 0 count)) i None
    ∙ get_or-map-range_with_len f 0 count (at + i) (at + i) None (omega arith) (omega arith) ∙ sym (get_or-map-range_with_len (λ (k : ℕ). f (at + k)) 0 places i i None small (omega arith)))

values_are : (patch : PatchValue) (file : List ℕ) (i first count : ℕ) (archive : Archive) (rings : Rings) → slice_get patch.layout.archives i ≡ Some archive → ReadsAs patch file rings
    → values_from patch file i first count ≡ map (λ k. rings i (first + k * archive.step)) (range_with_len 0 count)
unfolding values_from
values_are patch file i first count archive rings found reads = rw found (λ j. map (λ k. reads i (first + k * archive.step) j) (range_with_len 0 count))

same_known : (finer other : ℕ → Option ℤ) (places : ℕ) → ((k : ℕ) → finer k ≡ other k) → filter_map itself (map finer (range_with_len 0 places)) ≡ filter_map itself (map other (range_with_len 0 places))
same_known finer other places same = λ j. filter_map itself (map (λ k. same k j) (range_with_len 0 places))

-- the known in a bucket, of the values from another one on
pub read_known : (patch : PatchValue) (layout : LayoutValue) (file : List ℕ) (i first count at places bucket : ℕ) (archive : Archive) (rings : Rings) (values : List (Option ℤ)) → patch.layout ≡ layout → slice_get layout.archives i ≡ Some archive
    → ReadsAs patch file rings → values ≡ values_from patch file i first count → at + places ≤ count → bucket ≡ first + at * archive.step → known_from values at places ≡ known_in (rings i) archive.step places bucket
unfolding known_from known_in
read_known patch layout file i first count at places bucket archive rings values same found reads here fits place =
    let there : slice_get patch.layout.archives i ≡ Some archive = rw same found in
    let listed = here ∙ values_are patch file i first count archive rings there reads in
    ap (λ (values : List (Option ℤ)). filter_map itself (take places (drop at values))) listed ∙ ap (filter_map itself) (part_of (λ (k : ℕ). rings i (first + k * archive.step)) count at places fits)
    ∙ same_known (λ (k : ℕ). rings i (first + (at + k) * archive.step)) (λ (k : ℕ). rings i (bucket + k * archive.step)) places (λ k. ap (rings i) (omega (arith, place)))

pub step_of_found : (archives : List Archive) (i : ℕ) (archive : Archive) → slice_get archives i ≡ Some archive → step_of archives i ≡ archive.step
step_of_found archives i archive found = rw found refl

pub given_value : (layout : LayoutValue) (rings : Rings) (i bucket places : ℕ) (archive : Archive) (known : List ℤ) → slice_get layout.archives i ≡ Some archive → places ≡ step_of layout.archives (i + 1) / step_of layout.archives i
    → known ≡ known_in (rings i) archive.step places bucket → rolled_from layout known places ≡ value_from_finer layout rings i bucket
unfolding value_from_finer
given_value layout rings i bucket places archive known found count here =
    ap (λ (known : List ℤ). rolled_from layout known places) (here ∙ ap (λ (step : ℕ). known_in (rings i) step places bucket) (sym (step_of_found layout.archives i archive found)))
    ∙ ap (λ (places : ℕ). rolled_from layout (known_in (rings i) (step_of layout.archives i) places bucket) places) count

-- ---- one bucket after another

listed_more : (f : ℕ → Option (ℕ × ℤ)) (buckets : List ℕ) (k : ℕ) → k < length buckets → filter_map f (take (k + 1) buckets) ≡ filter_map f (take k buckets) ++ filter_map f (get_or buckets k 0 ∷ [])
listed_more f buckets k lt = ap (filter_map f) (take_more buckets k 0 lt) ∙ filter_map-append f (take k buckets) (get_or buckets k 0 ∷ [])

write_listed : (f : ℕ → Option ℤ) (bucket : ℕ) (value : Option ℤ) → f bucket ≡ value → filter_map (λ bucket. option_map (λ value. (bucket, value)) (f bucket)) (bucket ∷ []) ≡ rolled_write bucket value
write_listed f bucket None e = rw e refl
write_listed f bucket (Some value) e = rw e refl

pub level_start : (layout : LayoutValue) (rings : Rings) (i : ℕ) → [] ≡ level_writes layout rings i []
unfolding level_writes
level_start layout rings i = refl

pub level_more : (layout : LayoutValue) (rings : Rings) (i : ℕ) (buckets : List ℕ) (k : ℕ) (value : Option ℤ) (writes later : List (ℕ × ℤ)) → k < length buckets → writes ≡ level_writes layout rings i (take k buckets)
    → value ≡ value_from_finer layout rings i (get_or buckets k 0) → later ≡ writes ++ rolled_write (get_or buckets k 0) value → later ≡ level_writes layout rings i (take (k + 1) buckets)
unfolding level_writes
level_more layout rings i buckets k value writes later lt before here after =
    let gives : ℕ → Option (ℕ × ℤ) = λ bucket. option_map (λ value. (bucket, value)) (value_from_finer layout rings i bucket) in
    after ∙ ap (λ ys. ys ++ rolled_write (get_or buckets k 0) value) before
    ∙ sym (listed_more gives buckets k lt ∙ ap (λ ys. filter_map gives (take k buckets) ++ ys) (write_listed (value_from_finer layout rings i) (get_or buckets k 0) value (sym here)))

pub write_shown : (step bucket : ℕ) (value : Option ℤ) (writes : List (ℕ × ℤ)) → All (λ write. IsShown step write.0) writes → IsShown step bucket → All (λ write. IsShown step write.0) (writes ++ rolled_write bucket value)
write_shown step bucket None writes all here = All-append (λ write. IsShown step write.0) writes [] all (All-nil (λ write. IsShown step write.0))
write_shown step bucket (Some value) writes all here = All-push (λ write. IsShown step write.0) writes (bucket, value) all here

-- ---- one archive after another

some_length : (n : ℕ) → n ≢ 0 → (n == 0) ≡ false
some_length n some = grind (arith, nat_tests)

pub level_given : (layout : LayoutValue) (own : List (ℕ × ℤ)) (old new : PatchValue) (i : ℕ) (writes : List (ℕ × ℤ)) (file : List ℕ) → ((rings : Rings) → ReadsAs old file rings → writes ≡ next_writes layout own rings i)
    → length writes ≢ 0 → Writes layout.archives old new (i + 1) writes file → Level layout own old new i true file
level_given layout own old new i writes file are some laid = λ rings reads.
    let same = are rings reads in
    (ap (λ (ws : List (ℕ × ℤ)). length ws == 0) (sym same) ∙ some_length (length writes) some, subst (λ (ws : List (ℕ × ℤ)). ReadsAs new file (with_writes layout.archives rings (i + 1) ws)) same (laid rings reads))

pub level_empty : (layout : LayoutValue) (own : List (ℕ × ℤ)) (old : PatchValue) (i : ℕ) (writes : List (ℕ × ℤ)) (file : List ℕ) → ((rings : Rings) → ReadsAs old file rings → writes ≡ next_writes layout own rings i)
    → length writes ≡ 0 → Level layout own old old i false file
level_empty layout own old i writes file are none = λ rings reads. (ap (λ (ws : List (ℕ × ℤ)). length ws == 0) (sym (are rings reads)) ∙ rw none refl, reads)

pub rolls_start : (layout : LayoutValue) (own : List (ℕ × ℤ)) (patch : PatchValue) (i : ℕ) (file : List ℕ) → RollsTo layout own patch patch i i file
rolls_start layout own patch i file = λ rings reads. record { middle = rings; reads = reads; same = refl }

abbrev left_from : LayoutValue → ℕ → ℕ
left_from layout k = length layout.archives - (k + 1)

pub rolls_more : (layout : LayoutValue) (own : List (ℕ × ℤ)) (a b c : PatchValue) (i k : ℕ) (file : List ℕ) → k + 1 < length layout.archives → RollsTo layout own a b i k file → Level layout own b c k true file → RollsTo layout own a c i (k + 1) file
rolls_more layout own a b c i k file lt before level = λ rings reads.
    let at = before rings reads in
    let given = level at.middle at.reads in
    let left : length layout.archives - (k + 1) ≡ suc (length layout.archives - (k + 1 + 1)) = omega arith in
    record {
      middle = with_writes layout.archives at.middle (k + 1) (next_writes layout own at.middle k);
      reads = given.1;
      same = at.same ∙ ap (λ (n : ℕ). rolled_up layout own at.middle k n) left ∙ rw given.0 refl;
    }

pub rolls_stop : (layout : LayoutValue) (own : List (ℕ × ℤ)) (a b c : PatchValue) (i k : ℕ) (file : List ℕ) → k + 1 < length layout.archives → RollsTo layout own a b i k file → Level layout own b c k false file → RollsUp layout own a c i file
rolls_stop layout own a b c i k file lt before level = λ rings reads.
    let at = before rings reads in
    let given = level at.middle at.reads in
    let left : length layout.archives - (k + 1) ≡ suc (length layout.archives - (k + 1 + 1)) = omega arith in
    let same : rolled_up layout own rings i (length layout.archives - (i + 1)) ≡ at.middle = at.same ∙ ap (λ (n : ℕ). rolled_up layout own at.middle k n) left ∙ rw given.0 refl in
    subst (λ (rings : Rings). ReadsAs c file rings) (sym same) given.1

pub rolls_all : (layout : LayoutValue) (own : List (ℕ × ℤ)) (a b : PatchValue) (i k : ℕ) (file : List ℕ) → length layout.archives ≤ k + 1 → RollsTo layout own a b i k file → RollsUp layout own a b i file
rolls_all layout own a b i k file ge before = λ rings reads.
    let at = before rings reads in
    let left : length layout.archives - (k + 1) ≡ 0 = omega arith in
    let same : rolled_up layout own rings i (length layout.archives - (i + 1)) ≡ at.middle = at.same ∙ ap (λ (n : ℕ). rolled_up layout own at.middle k n) left in
    subst (λ (rings : Rings). ReadsAs b file rings) (sym same) at.reads

pub some_archive_at : (archives : List Archive) (i : ℕ) → i < length archives → (archive : Archive) × (slice_get archives i ≡ Some archive)
some_archive_at [] i lt = absurd (omega arith)
some_archive_at (archive ∷ archives) zero lt = (archive, refl)
some_archive_at (archive ∷ archives) (suc i) lt = some_archive_at archives i (omega arith)

-- a window of no values
pub nothing_held : (patch : PatchValue) (file : List ℕ) (i first n : ℕ) → [] ≡ values_from patch file i first (0 * n)
unfolding values_from
nothing_held patch file i first n =
    let none : 0 * n ≡ 0 = omega arith in
    rw none (by (slice_get patch.layout.archives i))
  where
    by : (found : Option Archive) → [] ≡ option_map_or (λ archive. map (λ k. value_of patch file i (first + k * archive.step)) (range_with_len 0 0)) found []
    by None = refl
    by (Some archive) = refl
