-- What a start notes of the files of a disk.
use Rattle.std.proofs.Common.{◌≡◌, inl, inr, ◌∙◌, ℕ, ◌+◌, ◌==◌, ◌<◌, ◌≤◌, true, false, List, [], get_or, length, map, take, Option, Some, None, Result, Ok, Err, OnOk, IfSome, IsSomeAnd, String, string_bytes, refl, sym, ap, subst, arith, option_map, if◌then◌else◌}
use Rattle.std.specs.Prelude.{IsSome, drop, min, option_and_then, slice_get, string_cmp, unwrap_or}
use Rattle.std.specs.List.Sorted.{IsPermutation, IsSorted}
use Rattle.std.specs.String.{string_cmp_total}
use Rattle.std.specs.Ordering.{is_le, is_lt, nat_cmp, ordering_reverse}
use Rattle.std.specs.Cmp.Lexicographic.{slice_cmp}
use Rattle.std.specs.declared.cmp.Ordering.{Ordering}
use Rattle.std.specs.declared.cmp.Ordering.TheVariants.{Less, Equal, Greater}
use Rattle.std.proofs.lemmas.List.{length-map, take-take, take_min}
use Rattle.std.proofs.lemmas.List.MinMax.{ranks_by}
use Rattle.std.proofs.lemmas.List.Sorted.{Contains-permutation, IsPermutation-map, sorted_far}
use Rattle.std.proofs.lemmas.Bool.{cases_lt}
use Rattle.std.proofs.lemmas.Bool.Decides.{eqb_tells}
use Rattle.std.proofs.lemmas.Option.{get_or_from_slice_get, none-some, slice_get-get_or, slice_get-map, slice_get_read, slice_get_within}
use Rattle.outside_io.specs.Image.{Image, LengthIs, ListsNames, ReadsFile}
use Rattle.metric_path.specs.Class.{class_of}
use Rattle.metric_path.specs.FileName.{file_name_of}
use Rattle.metric_path.proofs.FileNameLemmas.{file_names_differ}
use Rattle.ring_format.specs.Cell.{IsVersion}
use Rattle.ring_format.specs.Head.{head_bytes_in, head_result}
use Rattle.ring_format.specs.Layout.{LayoutValue}
use Rattle.ring_format.specs.declared.fault.HeadFault.{HeadFault}
use Rattle.ring_format.specs.declared.fault.HeadFault.TheVariants as faults
use Rattle.ring_format.proofs.ReadHeads.{IsHeadOf}
use Rattle.carbon_model.specs.State.{Kept, form_of, no_rings}
use Rattle.carbon_model.specs.RingFiles.{IsOfClass, SameKept, head_of, is_sound, is_sound_head, kept_in, kept_on, kept_with}
use Rattle.metric_index.specs.Index.{entry_of}
use Rattle.shard_core.specs.Shard.{HasFiles, IsLawfulRing}
use Rattle.shard_core.specs.Table.{Table, kept_form, form_kept}
use Rattle.shard_core.specs.Opened.{FirstDamaged, IsOpened, Opens}
use Rattle.shard_core.specs.StartFaults.{IsDamagedRing}
use Rattle.shard_core.specs.Starting.{FirstAmong, IsDamagedName, IsNoted, Noted, Notes, NotesHead, OnDamaged, TellsHead}
use Rattle.shard_core.specs.declared.fault.StartFault.{StartFault}
use Rattle.shard_core.specs.declared.fault.StartFault.TheVariants.{Damaged, DiskFault, NoMemory}
use Rattle.shard_core.specs.declared.starting.FileHead.{FileHead}
use Rattle.shard_core.specs.declared.starting.FileHead.TheVariants as heads
use Rattle.shard_core.proofs.FileLemmas.{head_is_read, head_is_short, ring_is_kept, ring_is_sound, same_text}
use Rattle.shard_core.proofs.KeptLemmas.{form_version}

-- ---- heads

-- the bytes that are read are the first of the file
bytes_of_file : (bytes file : List ℕ) (size : ℕ) (r : Result (LayoutValue × ℕ) HeadFault) → bytes ≡ take 316 file → size ≡ length file → r ≡ head_result bytes size → head_of file ≡ r
unfolding head_of
bytes_of_file bytes file size r front long read = sym (read ∙ ap (λ (xs : List ℕ). head_result xs size) front ∙ ap (head_result (take 316 file)) long)

pub tells_ring : (told : LayoutValue × ℕ) (bytes file : List ℕ) (size : ℕ) → bytes ≡ take 316 file → size ≡ length file → IsHeadOf bytes size told
    → IsVersion told.1 × IsLawfulRing told.1 told.0 file
tells_ring told bytes file size front long read = (
  read.0,
  (
    read.3,
    (
      sym (take-take (length (head_bytes_in told.1 told.0)) 316 file (head_is_short told.1 told.0 read.3))
          ∙ ap (take (length (head_bytes_in told.1 told.0))) (sym front) ∙ read.1,
      sym long ∙ read.2,
    ),
  ),
)

-- a fault that tells of a head of zero
zero_fault : (fault : HeadFault) → is_sound_head (Err fault) ≡ true → fault ≡ faults.Zero
zero_fault faults.Zero sound = refl
zero_fault faults.Short sound = absurd cc
zero_fault faults.Method sound = absurd cc
zero_fault faults.Count sound = absurd cc
zero_fault (faults.Offset i) sound = absurd cc
zero_fault faults.Retention sound = absurd cc
zero_fault faults.Length sound = absurd cc
zero_fault (faults.Layout fault) sound = absurd cc

pub tells_zero : (fault : HeadFault) (bytes file : List ℕ) (size : ℕ) → bytes ≡ take 316 file → size ≡ length file → Err fault ≡ head_result bytes size → true ≡ is_sound_head (Err fault) → head_of file ≡ Err faults.Zero
tells_zero fault bytes file size front long read sound =
    bytes_of_file bytes file size (Err fault) front long read ∙ ap (λ (f : HeadFault). Err f) (zero_fault fault (sym sound))

-- a fault of another kind
pub tells_faulty : (fault : HeadFault) (bytes file : List ℕ) (size : ℕ) → bytes ≡ take 316 file → size ≡ length file → Err fault ≡ head_result bytes size → false ≡ is_sound_head (Err fault) → is_sound file ≡ false
tells_faulty fault bytes file size front long read faulty = ap is_sound_head (bytes_of_file bytes file size (Err fault) front long read) ∙ sym faulty

-- ---- a file that is read

first_bytes : (bytes file : List ℕ) → length bytes ≡ min 316 (length file) → bytes ≡ take (length bytes) file → bytes ≡ take 316 file
first_bytes bytes file long read = read ∙ ap (λ (n : ℕ). take n file) long ∙ take_min 316 file

same_size : (a b : ℕ) → Some a ≡ Some b → a ≡ b
same_size a b e = ap (λ (o : Option ℕ). unwrap_or o a) e

head_held : (held : Option (List ℕ)) (bytes : List ℕ) (size : ℕ) (head : FileHead) → Some size ≡ option_map length held → length bytes ≡ min 316 size
    → IsSomeAnd held (λ file. bytes ≡ take (length bytes) (drop 0 file)) → ((file : List ℕ) → bytes ≡ take 316 file → size ≡ length file → TellsHead (Some file) head) → TellsHead held head
head_held None bytes size head long count read told = absurd read
head_held (Some file) bytes size head long count read told =
    let same = same_size size (length file) long in
    told file (first_bytes bytes file (count ∙ ap (λ (n : ℕ). min 316 n) same) read) same

pub head_on_disk : (known now : Option Image) (name bytes : List ℕ) (size : ℕ) (head : FileHead) → now ≡ known → LengthIs known name (Some size) → length bytes ≡ min 316 size → ReadsFile now name 0 bytes
    → ((file : List ℕ) → bytes ≡ take 316 file → size ≡ length file → TellsHead (Some file) head) → IfSome known (λ image. TellsHead (image name) head)
head_on_disk None now name bytes size head same long count read told = tt
head_on_disk (Some image) now name bytes size head same long count read told =
    head_held (image name) bytes size head long count (subst (λ (known : Option Image). ReadsFile known name 0 bytes) same read) told

-- ---- one name

-- what is found of a path, and what its file keeps
abbrev KeepsForm : Option (List ℕ) → Option (ℕ × LayoutValue) → Type 0
KeepsForm held found = (found ≡ option_map form_of (option_and_then kept_in held)) × IfSome held (λ file. is_sound file ≡ true)

abbrev IsRingOf : Option (List ℕ) → ℕ × LayoutValue → Type 0
IsRingOf held form = IsSomeAnd held (IsLawfulRing form.0 form.1)

ring_held : (held : Option (List ℕ)) (form : ℕ × LayoutValue) → IsVersion form.0 → IsRingOf held form → KeepsForm held (Some form)
ring_held None form is ring = absurd ring
ring_held (Some file) form is ring =
    (sym (ap (option_map form_of) (ring_is_kept form.0 form.1 file is ring.0 ring.1)), ring_is_sound form.0 form.1 file is ring.0 ring.1)

ok_is_no_err : (told : LayoutValue × ℕ) (r : Result (LayoutValue × ℕ) HeadFault) → r ≡ Ok told → r ≡ Err faults.Zero → ⊥
ok_is_no_err told r ok err = absurd cc

zero_held : (held : Option (List ℕ)) (found : Option (ℕ × LayoutValue)) → IfSome found (λ form. IsVersion form.0) → IfSome held (λ file. head_of file ≡ Err faults.Zero) → IfSome found (IsRingOf held)
    → KeepsForm held found
zero_held None None is zeros rings = (refl, tt)
zero_held None (Some form) is zeros rings = absurd rings
zero_held (Some file) None is zeros rings = (sym (ap (λ r. option_map form_of (kept_with file r)) zeros), ap is_sound_head zeros)
zero_held (Some file) (Some form) is zeros rings =
    absurd (ok_is_no_err (form.1, form.0) (head_of file) (head_is_read form.0 form.1 file is rings.0 rings.1) zeros)

-- the path of a file name is the only one that has it
the_path : (class : ℕ) (image : Image) (name path p : List ℕ) (layouts : Table) → IsOfClass class path → file_name_of path ≡ name → IsOfClass class p → file_name_of p ≡ name
    → IsNoted image layouts path → IsNoted image layouts p
the_path class image name path p layouts one named other same noted =
    subst (λ (q : List ℕ). IsNoted image layouts q) (sym (file_names_differ p path other.legal one.legal (same ∙ sym named))) noted

-- the version and the layout of a metric that is noted, and of every other
noted_version : (version : ℕ) → IsVersion version → (if version == 1 then 1 else 2) ≡ version
noted_version version (inl one) = rw one refl
noted_version version (inr two) = rw two refl

noted_here : (path : List ℕ) (layout : LayoutValue) (version : ℕ) (old new : Table) → IsVersion version → NotesHead path (heads.Ring layout version) old new → kept_form new path ≡ Some (version, layout)
noted_here path layout version old new is notes = ap form_kept notes.here ∙ ap (λ (v : ℕ). Some (v, layout)) (noted_version version is)

noted_else : (path : List ℕ) (layout : LayoutValue) (version : ℕ) (old new : Table) (p : List ℕ) → (p ≡ path → ⊥) → NotesHead path (heads.Ring layout version) old new → kept_form new p ≡ kept_form old p
noted_else path layout version old new p other notes = ap form_kept (notes.others p other)

ring_files : (class : ℕ) (image : Image) (path : List ℕ) (layout : LayoutValue) (version : ℕ) (old new : Table) → IsVersion version → IsRingOf (image (file_name_of path)) (version, layout)
    → NotesHead path (heads.Ring layout version) old new
    → HasFiles class old None (Some image) → HasFiles class new None (Some image)
ring_files class image path layout version old new is ring notes files p legal here apart = elim (same_text p path) [
  | inl same ↦ subst (λ (q : List ℕ). IfSome (kept_form new q) (IsRingOf (image (file_name_of q)))) (sym same.1) (rw (noted_here path layout version old new is notes) ring)
  | inr other ↦ rw (noted_else path layout version old new p other.1 notes) (files p legal here refl)
]

notes_here : (class : ℕ) (image : Image) (path : List ℕ) (head : FileHead) (old new : Table) → IsOfClass class path → TellsHead (image (file_name_of path)) head → NotesHead path head old new
    → HasFiles class old None (Some image) → Notes class image (file_name_of path) old new
notes_here class image path (heads.Ring layout version) old new one tells notes files = record {
  files = ring_files class image path layout version old new tells.0 tells.1 notes files;
  here = λ p other named. the_path class image (file_name_of path) path p new one refl other named (rw (noted_here path layout version old new tells.0 notes) (ring_held (image (file_name_of path)) (version, layout) tells.0 tells.1));
  same = λ p other differs. noted_else path layout version old new p (λ e. differs (ap file_name_of e)) notes;
}
notes_here class image path heads.Zero old new one tells notes files = record {
  files = subst (λ (layouts : Table). HasFiles class layouts None (Some image)) (sym notes) files;
  here = λ p other named. the_path class image (file_name_of path) path p new one refl other named
      (subst (λ (layouts : Table). IsNoted image layouts path) (sym notes) (zero_held (image (file_name_of path)) (kept_form old path) (form_version (entry_of old path)) tells (files path one.legal one.here refl)));
  same = λ p other differs. ap (λ (t : Table). kept_form t p) notes;
}
notes_here class image path heads.Faulty old new one tells notes files = absurd notes

-- the head of a file of the class is noted
pub notes_known : (class : ℕ) (known : Option Image) (name path : List ℕ) (head : FileHead) (old new : Table) → IsOfClass class path → file_name_of path ≡ name
    → IfSome known (λ image. TellsHead (image name) head) → NotesHead path head old new → IfSome known (λ image. HasFiles class old None (Some image) → Notes class image name old new)
notes_known class None name path head old new one named tells notes = tt
notes_known class (Some image) name path head old new one named tells notes = λ files.
    subst (λ (n : List ℕ). Notes class image n old new) named
    (notes_here class image path head old new one (subst (λ (n : List ℕ). TellsHead (image n) head) (sym named) tells) notes files)

-- ---- name after name

pub noted_none : (class : ℕ) (image : Image) (names : List (List ℕ)) → Noted class image names 0 []
noted_none class image names = record {
  files = λ path legal here apart. tt;
  named = λ k within. absurd (omega (arith, within));
}

same_name : (a b : List ℕ) → Some a ≡ Some b → a ≡ b
same_name a b e = ap (λ (o : Option (List ℕ)). unwrap_or o a) e

earlier : (k count : ℕ) → k < count + 1 → (k ≡ count → ⊥) → k < count
earlier k count within other = elim (cases_lt k count) [
  | inl less ↦ less
  | inr more ↦ absurd (other (omega (arith, within, more)))
]

pub noted_more : (class : ℕ) (image : Image) (names : List (List ℕ)) (count : ℕ) (name : List ℕ) (old new : Table) → slice_get names count ≡ Some name
    → (HasFiles class old None (Some image) → Notes class image name old new) → Noted class image names count old → Noted class image names (count + 1) new
noted_more class image names count name old new there notes noted =
    let now = notes noted.files in record {
      files = now.files;
      named = λ k within path one listed. elim (same_text (file_name_of path) name) [
        | inl same ↦ now.here path one same.1
        | inr other ↦ elim (eqb_tells k count) [
          | inl last ↦ absurd (other.1 (same_name (file_name_of path) name (sym listed ∙ ap (slice_get names) last.1 ∙ there)))
          | inr before ↦
              let was = noted.named k (earlier k count within before.1) path one listed in (now.same path one other.1 ∙ was.0, was.1)
        ]
      ];
    }

-- ---- the order of names

reversed : (r : Ordering) → is_lt (ordering_reverse r) ≡ false → is_le r ≡ true
reversed Less e = refl
reversed Equal e = refl
reversed Greater e = absurd cc

text_named : {A : Type 0} (held : Option (String A)) (name : List ℕ) → option_map string_bytes held ≡ Some name → (text : String A) × (held ≡ Some text) × (string_bytes text ≡ name)
text_named None name e = absurd (none-some name e)
text_named (Some text) name e = (text, refl, same_name (string_bytes text) name e)

pub names_rise : {A : Type 0} (names : List (String A)) → IsSorted string_cmp names → (i j : ℕ) (a b : List ℕ) → i ≤ j → slice_get (map string_bytes names) i ≡ Some a → slice_get (map string_bytes names) j ≡ Some b
    → is_le (slice_cmp nat_cmp a b) ≡ true
names_rise {A} names sorted i j a b order first second =
    let s = text_named (slice_get names i) a (sym (slice_get-map string_bytes names i) ∙ first) in
    let t = text_named (slice_get names j) b (sym (slice_get-map string_bytes names j) ∙ second) in
    let within : j < length names = slice_get_within names j t.0 t.1 in
    let far = sorted_far (λ (x y : String A). is_lt (string_cmp x y)) (ranks_by string_cmp_total (λ (x : String A). x)) names sorted i j s.0 order within in
    let at_i : get_or names i s.0 ≡ s.0 = get_or_from_slice_get names i s.0 s.0 s.1 in
    let at_j : get_or names j s.0 ≡ t.0 = get_or_from_slice_get names j t.0 s.0 t.1 in
    let not_less : is_lt (string_cmp t.0 s.0) ≡ false = sym (ap (λ (x : String A). is_lt (string_cmp x s.0)) at_j) ∙ sym (ap (λ (x : String A). is_lt (string_cmp (get_or names j s.0) x)) at_i) ∙ far in
    let le : is_le (string_cmp s.0 t.0) ≡ true = reversed (string_cmp s.0 t.0) (sym (ap is_lt (string_cmp_total.antisymm t.0 s.0)) ∙ not_less) in
    sym (ap (λ (x : List ℕ). is_le (slice_cmp nat_cmp x b)) s.2) ∙ sym (ap (λ (x : List ℕ). is_le (slice_cmp nat_cmp (string_bytes s.0) x)) t.2) ∙ le

-- ---- the first damaged file

sound_or_not : (held : Option (List ℕ)) → IfSome held (λ file. is_sound file ≡ true) → IsSomeAnd held (λ file. is_sound file ≡ false) → ⊥
sound_or_not None sound damaged = damaged
sound_or_not (Some file) sound damaged = absurd cc

pub first_among : {A : Type 0} (class : ℕ) (image : Image) (names : List (String A)) (count : ℕ) (name : List ℕ) (layouts : Table) → IsSorted string_cmp names → slice_get (map string_bytes names) count ≡ Some name
    → Noted class image (map string_bytes names) count layouts → IsDamagedName class image name → FirstAmong class image (map string_bytes names) name
first_among class image names count name layouts sorted there noted here = record {
  here = here;
  first = λ k other one damaged listed. elim (cases_lt k count) [
    | inl before ↦ absurd (sound_or_not (image (file_name_of other)) (noted.named k before other one listed).1 damaged)
    | inr behind ↦ names_rise names sorted count k name (file_name_of other) behind there listed
  ];
}

-- ---- one turn of the loop

pub name_at : {A : Type 0} (names : List (String A)) (count : ℕ) (text : String A) (name : List ℕ) → count < length names → text ≡ get_or names count text → name ≡ string_bytes text
    → slice_get (map string_bytes names) count ≡ Some name
name_at {A} names count text name within there named =
    slice_get-map string_bytes names count ∙ ap (λ (o : Option (String A)). option_map string_bytes o) (slice_get_read names (length names) count text refl within there) ∙ ap (λ (n : List ℕ). Some n) (sym named)

pub noted_known : (class : ℕ) (known now : Option Image) (names : List (List ℕ)) (count : ℕ) (name : List ℕ) (old new : Table) → now ≡ known → slice_get names count ≡ Some name
    → IfSome now (λ image. HasFiles class old None (Some image) → Notes class image name old new) → IfSome known (λ image. Noted class image names count old) → IfSome known (λ image. Noted class image names (count + 1) new)
noted_known class None now names count name old new same there notes noted = tt
noted_known class (Some image) now names count name old new same there notes noted =
    noted_more class image names count name old new there (subst (λ (known : Option Image). IfSome known (λ image. HasFiles class old None (Some image) → Notes class image name old new)) same notes) noted

on_first : {A : Type 0} (fault : StartFault) (class : ℕ) (image : Image) (names : List (String A)) (count : ℕ) (name : List ℕ) (layouts : Table) → IsSorted string_cmp names → slice_get (map string_bytes names) count ≡ Some name
    → Noted class image (map string_bytes names) count layouts → OnDamaged fault (λ told. (told ≡ name) × IsDamagedName class image name) → OnDamaged fault (FirstAmong class image (map string_bytes names))
on_first (Damaged told) class image names count name layouts sorted there noted here =
    subst (λ (n : List ℕ). FirstAmong class image (map string_bytes names) n) (sym here.0) (first_among class image names count name layouts sorted there noted here.1)
on_first DiskFault class image names count name layouts sorted there noted here = tt
on_first NoMemory class image names count name layouts sorted there noted here = tt

pub first_known : {A : Type 0} (fault : StartFault) (class : ℕ) (known now : Option Image) (names : List (String A)) (count : ℕ) (name : List ℕ) (layouts : Table) → now ≡ known → IsSorted string_cmp names
    → slice_get (map string_bytes names) count ≡ Some name → IfSome known (λ image. Noted class image (map string_bytes names) count layouts)
    → IfSome now (λ image. OnDamaged fault (λ told. (told ≡ name) × IsDamagedName class image name)) → IfSome known (λ image. OnDamaged fault (FirstAmong class image (map string_bytes names)))
first_known fault class None now names count name layouts same sorted there noted here = tt
first_known fault class (Some image) now names count name layouts same sorted there noted here =
    on_first fault class image names count name layouts sorted there noted (subst (λ (known : Option Image). IfSome known (λ image. OnDamaged fault (λ told. (told ≡ name) × IsDamagedName class image name))) same here)

-- ---- all names

names_count : {A : Type 0} (names : List (String A)) → length (map string_bytes names) ≡ length names
names_count names = length-map names string_bytes

-- the place of a file's name among the sorted names
listed_at : {A : Type 0} (image : Image) (old new : List (String A)) (name : List ℕ) → ListsNames image (map string_bytes old) → IsPermutation old new → IsSome (image name)
    → (k : ℕ) × (k < length new) × (slice_get (map string_bytes new) k ≡ Some name)
listed_at image old new name lists sorted there =
    let at = Contains-permutation (map string_bytes old) (map string_bytes new) name (IsPermutation-map string_bytes old new sorted) ((lists.held name).1 there) in
    (at.0, subst (λ (n : ℕ). at.0 < n) (names_count new) at.1, slice_get-get_or (map string_bytes new) at.0 name at.1 ∙ ap (λ (n : List ℕ). Some n) at.2)

all_noted : {A : Type 0} (held : Option (List ℕ)) (class : ℕ) (image : Image) (old new : List (String A)) (layouts : Table) (path : List ℕ) → image (file_name_of path) ≡ held → IsOfClass class path
    → ListsNames image (map string_bytes old) → IsPermutation old new → Noted class image (map string_bytes new) (length new) layouts → IsNoted image layouts path
all_noted None class image old new layouts path is one lists sorted noted =
    let found = kept_form layouts path in
    let rings = subst (λ (held : Option (List ℕ)). IfSome found (IsRingOf held)) is (noted.files path one.legal one.here refl) in
    subst (λ (held : Option (List ℕ)). KeepsForm held found) (sym is) (zero_held None found (form_version (entry_of layouts path)) tt rings)
all_noted (Some file) class image old new layouts path is one lists sorted noted =
    let at = listed_at image old new (file_name_of path) lists sorted (subst (λ (held : Option (List ℕ)). IsSome held) (sym is) refl) in
    noted.named at.0 at.1 path one at.2

same_itself : (kept : Option Kept) → SameKept kept kept
same_itself None = tt
same_itself (Some k) = (refl, refl, λ i bucket. refl)

opened : {A : Type 0} (class : ℕ) (image : Image) (old new : List (String A)) (layouts : Table) → ListsNames image (map string_bytes old) → IsPermutation old new → Noted class image (map string_bytes new) (length new) layouts
    → Opens class (Some image) layouts
opened class image old new layouts lists sorted noted =
    let here : (path : List ℕ) → IsOfClass class path → IsNoted image layouts path = λ path one. all_noted (image (file_name_of path)) class image old new layouts path refl one lists sorted noted in record {
      kept = kept_on image;
      shown = λ path one. refl;
      holds = record {
        layouts = λ path one. (here path one).0;
        files = record {
          rings = λ path one. same_itself (kept_on image path);
          sound = λ path one _. (here path one).1;
          patched = tt;
          others = λ name no_log no_gate far. refl;
        };
      };
    }

-- what is kept on a disk of which nothing but the layouts is known
abbrev with_layouts : Table → List ℕ → Option Kept
with_layouts layouts path = option_map (λ form. record { version = form.0; layout = form.1; rings = no_rings }) (kept_form layouts path)

its_form : (o : Option (ℕ × LayoutValue)) → o ≡ option_map form_of (option_map (λ (form : ℕ × LayoutValue). record { version = form.0; layout = form.1; rings = no_rings }) o)
its_form None = refl
its_form (Some form) = refl

pub opened_known : {A : Type 0} (class : ℕ) (known now : Option Image) (old new : List (String A)) (layouts : Table) → now ≡ known → IfSome known (λ image. ListsNames image (map string_bytes old)) → IsPermutation old new
    → IfSome now (λ image. Noted class image (map string_bytes new) (length new) layouts) → Opens class known layouts
opened_known class None now old new layouts same lists sorted noted = record {
  kept = with_layouts layouts;
  shown = tt;
  holds = record {
    layouts = λ path one. its_form (kept_form layouts path);
    files = tt;
  };
}
opened_known class (Some image) now old new layouts same lists sorted noted =
    opened class image old new layouts lists sorted (subst (λ (known : Option Image). IfSome known (λ image. Noted class image (map string_bytes new) (length new) layouts)) same noted)

is_there : (held : Option (List ℕ)) → IsSomeAnd held (λ file. is_sound file ≡ false) → IsSome held
is_there None damaged = absurd damaged
is_there (Some file) damaged = refl

first_damaged : {A : Type 0} (class : ℕ) (image : Image) (old new : List (String A)) (name : List ℕ) → ListsNames image (map string_bytes old) → IsPermutation old new → FirstAmong class image (map string_bytes new) name
    → FirstDamaged class image name
first_damaged class image old new name lists sorted first = record {
  path = first.here.path;
  one = first.here.one;
  named = first.here.named;
  damaged = first.here.damaged;
  first = λ other one damaged.
      let at = listed_at image old new (file_name_of other) lists sorted (is_there (image (file_name_of other)) damaged) in
      first.first at.0 other one damaged at.2;
}

pub damaged_known : {A : Type 0} (fault : StartFault) (class : ℕ) (known now : Option Image) (old new : List (String A)) → now ≡ known → IfSome known (λ image. ListsNames image (map string_bytes old)) → IsPermutation old new
    → IfSome now (λ image. OnDamaged fault (FirstAmong class image (map string_bytes new))) → IsDamagedRing fault known class
damaged_known (Damaged name) class None now old new same lists sorted first = tt
damaged_known (Damaged name) class (Some image) now old new same lists sorted first =
    first_damaged class image old new (string_bytes name) lists sorted (subst (λ (known : Option Image). IfSome known (λ image. FirstAmong class image (map string_bytes new) (string_bytes name))) same first)
damaged_known DiskFault class known now old new same lists sorted first = tt
damaged_known NoMemory class known now old new same lists sorted first = tt

-- ---- what is known at the start

noted_opened : (class : ℕ) (path : List ℕ) (head : FileHead) (old new : Table) → class_of path ≡ class → NotesHead path head old new → IsOpened class old → IsOpened class new
noted_opened class path (heads.Ring layout version) old new one notes opened = λ p. elim (same_text p path) [
  | inl same ↦ subst (λ (q : List ℕ). IfSome (entry_of new q) (λ known. (class_of q ≡ class) × ((known.is_kept ≡ true) × (known.drains ≡ 0)))) (sym same.1)
      (rw notes.here (one, (refl, refl)))
  | inr other ↦ rw (notes.others p other.1) (opened p)
]
noted_opened class path heads.Zero old new one notes opened = subst (λ (t : Table). IsOpened class t) (sym notes) opened
noted_opened class path heads.Faulty old new one notes opened = absurd notes

pub head_opened : {X E : Type 0} (r : Result X E) (class : ℕ) (path : List ℕ) (head : FileHead) (old new : Table) → class_of path ≡ class → OnOk r (NotesHead path head old new)
    → OnOk r (IsOpened class old → IsOpened class new)
head_opened (Ok x) class path head old new one notes = noted_opened class path head old new one notes
head_opened (Err e) class path head old new one notes = tt
