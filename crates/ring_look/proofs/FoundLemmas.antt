-- What is found of a file on a disk.
use Rattle.std.proofs.Common.{◌≡◌, ◌∙◌, ℕ, ◌≤◌, List, Option, Some, None, length, take, IfSome, IsSomeAnd, arith, sym, ap, subst, option_map}
use Rattle.std.specs.Prelude.{drop, min, unwrap_or}
use Rattle.std.proofs.lemmas.List.{length-append, take-take, take_min}
use Rattle.outside_io.specs.Image.{Image, LengthIs, ReadsFile}
use Rattle.ring_format.specs.Head.{head_bytes_in, head_result, front_bytes, rows_bytes, rows_of}
use Rattle.ring_format.specs.Layout.{LayoutValue, layout_fault}
use Rattle.ring_format.proofs.LawfulLayouts.{lawful_count}
use Rattle.ring_format.proofs.RowLemmas.{length-rows_of}
use Rattle.ring_format.proofs.WrittenHeads.{length-front_bytes, length-rows_bytes, version_is}
use Rattle.ring_archive.specs.Ring.{HasRoom}
use Rattle.ring_look.specs.Found.{BeginsAs, IsReadable, found_by, found_in, head_in}
use Rattle.ring_look.specs.declared.found.FileFound.{FileFound}
use Rattle.ring_look.specs.declared.found.FileFound.TheVariants.{Absent, Ring, Faulty}

-- ---- the bytes that are read are the first of the file

first_bytes : (bytes file : List ℕ) → length bytes ≡ min 316 (length file) → bytes ≡ take (length bytes) file → bytes ≡ take 316 file
first_bytes bytes file long read = read ∙ ap (λ (n : ℕ). take n file) long ∙ take_min 316 file

same_size : (a b : ℕ) → Some a ≡ Some b → a ≡ b
same_size a b e = ap (λ (o : Option ℕ). unwrap_or o a) e

-- a fact on the file of which so many bytes were read
of_file : (P : Option (List ℕ) → Type 0) (held : Option (List ℕ)) (bytes : List ℕ) (size : ℕ) → Some size ≡ option_map length held → length bytes ≡ min 316 size
    → IsSomeAnd held (λ file. bytes ≡ take (length bytes) (drop 0 file)) → ((file : List ℕ) → bytes ≡ take 316 file → size ≡ length file → P (Some file)) → P held
of_file P None bytes size long count read told = absurd read
of_file P (Some file) bytes size long count read told =
    let same = same_size size (length file) long in
    told file (first_bytes bytes file (count ∙ ap (λ (n : ℕ). min 316 n) same) read) same

-- the same of the file of a name
of_disk : (P : Option (List ℕ) → Type 0) (known now : Option Image) (name bytes : List ℕ) (size : ℕ) → now ≡ known → LengthIs known name (Some size) → length bytes ≡ min 316 size → ReadsFile now name 0 bytes
    → ((file : List ℕ) → bytes ≡ take 316 file → size ≡ length file → P (Some file)) → IfSome known (λ image. P (image name))
of_disk P None now name bytes size same long count read told = tt
of_disk P (Some image) now name bytes size same long count read told =
    of_file P (image name) bytes size long count (subst (λ (known : Option Image). ReadsFile known name 0 bytes) same read) told

-- ---- what the file is

head_of_file : (bytes file : List ℕ) (size : ℕ) → bytes ≡ take 316 file → size ≡ length file → head_result bytes size ≡ head_in file
unfolding head_in
head_of_file bytes file size front long = ap (λ (xs : List ℕ). head_result xs size) front ∙ ap (head_result (take 316 file)) long

pub found_on_disk : (known now : Option Image) (name bytes : List ℕ) (size : ℕ) (found : FileFound) → now ≡ known → LengthIs known name (Some size) → length bytes ≡ min 316 size → ReadsFile now name 0 bytes
    → found ≡ found_by (head_result bytes size) → IfSome known (λ image. found ≡ found_in (image name))
found_on_disk known now name bytes size found same long count read told =
    of_disk (λ held. found ≡ found_in held) known now name bytes size same long count read (λ file front size_is. told ∙ ap found_by (head_of_file bytes file size front size_is))

-- ---- that it can be read

-- a head has at most 316 bytes
head_is_short : (version : ℕ) (layout : LayoutValue) → layout_fault layout.archives layout.factor ≡ None → length (head_bytes_in version layout) ≤ 316
head_is_short version layout lawful =
    omega (arith, length-append (front_bytes version layout) (rows_bytes (rows_of version layout.archives)), length-front_bytes version layout, length-rows_bytes (rows_of version layout.archives), length-rows_of version layout.archives, lawful_count layout.archives layout.factor lawful)

has_room : (version : ℕ) (layout : LayoutValue) (bytes file : List ℕ) (size : ℕ) → BeginsAs (Ring layout version) bytes size → bytes ≡ take 316 file → size ≡ length file → HasRoom version layout.archives file
has_room version layout bytes file size begins front long =
    let head : take (length (head_bytes_in version layout)) file ≡ head_bytes_in version layout =
    sym (take-take (length (head_bytes_in version layout)) 316 file (head_is_short version layout begins.3)) ∙ ap (take (length (head_bytes_in version layout))) (sym front) ∙ begins.1 in
    (version_is version layout file begins.0 head, omega (arith, long, begins.2))

pub readable_on_disk : (known now : Option Image) (name bytes : List ℕ) (size : ℕ) (found : FileFound) → now ≡ known → LengthIs known name (Some size) → length bytes ≡ min 316 size → ReadsFile now name 0 bytes
    → BeginsAs found bytes size → IsReadable found known name
readable_on_disk known now name bytes size Absent same long count read begins = tt
readable_on_disk known now name bytes size (Ring layout version) same long count read begins =
    (begins.0, of_disk (λ held. IsSomeAnd held (HasRoom version layout.archives)) known now name bytes size same long count read (λ file front size_is. has_room version layout bytes file size begins front size_is))
readable_on_disk known now name bytes size (Faulty fault) same long count read begins = tt
