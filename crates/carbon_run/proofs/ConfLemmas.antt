-- Rule files that are read by their fronts.
use Rattle.std.proofs.Common.{◌≡◌, ◌⊎◌, inl, inr, ◌∙◌, ℕ, ◌+◌, ◌<◌, ◌≤◌, nat_lt, true, List, [], length, take, Option, Some, None, Result, Err, IfSome, IsSomeAnd, option_map, refl, sym, ap, subst, arith}
use Rattle.std.specs.Prelude.{drop, min}
use Rattle.std.specs.Option.{unwrap_or}
use Rattle.std.proofs.lemmas.List.{length-take-le, take_all, take_min}
use Rattle.std.proofs.lemmas.Bool.{cases_lt, lt-ltb}
use Rattle.std.proofs.lemmas.Option.{none-some}
use Rattle.outside_io.specs.Image.{Image, LengthIs, ReadsFile}
use Rattle.schema_rules.specs.declared.fault.RuleFault.{RuleFault}
use Rattle.schema_rules.specs.declared.fault.RuleFault.TheVariants.{Fault}
use Rattle.schema_rules.specs.RulesOf.{RulesValue, aggregations_result, file_sections, most_file_bytes, rules_result, schemas_result}
use Rattle.aggregate_rules.specs.RuleTexts.{RuleValue, file_rules}
use Rattle.aggregate_rules.specs.declared.fault.AggCause.{AggCause}
use Rattle.carbon_run.specs.Conf.{Answers, AnswersAgg, IsRefused, IsRefusedAgg, ReadsFront, agg_rules_in, agg_rules_name, aggregations_name, bytes_of, front_of, rules_in, schemas_name}
use Rattle.carbon_run.specs.declared.conf.ConfFault.{ConfFault}
use Rattle.carbon_run.specs.declared.conf.ConfFault.TheVariants.{DiskFault, Refused, RefusedAgg, NoMemory}

-- ---- the rules of fronts

long_front : (most : ℕ) (file : List ℕ) → most < length file → nat_lt most (length (take (most + 1) file)) ≡ true
long_front most file long = lt-ltb most _ (rw (length-take-le (most + 1) file (omega (arith, long))) (omega arith))

front_has : (file : List ℕ) → (most_file_bytes < length file) ⊎ (length file ≤ most_file_bytes) → file_sections (front_of file) ≡ file_sections file
unfolding file_sections front_of
front_has file (inl long) = rw (lt-ltb most_file_bytes (length file) long) (rw (long_front most_file_bytes file long) refl)
front_has file (inr fits) = ap file_sections (take_all (most_file_bytes + 1) file (omega (arith, fits)))

-- the sections of a file's front are those of the file, and one is too long where the other is
front_sections : (file : List ℕ) → file_sections (front_of file) ≡ file_sections file
front_sections file = front_has file (cases_lt most_file_bytes (length file))

-- the rules of two fronts are those of the files
pub rules_of_fronts : (schemas aggregations : List ℕ) → rules_result (front_of schemas) (front_of aggregations) ≡ rules_result schemas aggregations
unfolding rules_result schemas_result aggregations_result
rules_of_fronts schemas aggregations = rw (front_sections schemas) (rw (front_sections aggregations) refl)

agg_front_has : (file : List ℕ) → (most_file_bytes < length file) ⊎ (length file ≤ most_file_bytes) → file_rules (front_of file) ≡ file_rules file
unfolding file_rules front_of
agg_front_has file (inl long) = rw (lt-ltb most_file_bytes (length file) long) (rw (long_front most_file_bytes file long) refl)
agg_front_has file (inr fits) = ap file_rules (take_all (most_file_bytes + 1) file (omega (arith, fits)))

-- the aggregation rules of a file's front are those of the file
pub agg_rules_of_front : (file : List ℕ) → file_rules (front_of file) ≡ file_rules file
agg_rules_of_front file = agg_front_has file (cases_lt most_file_bytes (length file))

-- ---- the rules of a folder

-- a file that was read by its name
pub front_named : (known : Option Image) (name wanted bytes : List ℕ) → name ≡ wanted → ReadsFront known name bytes → ReadsFront known wanted bytes
front_named known name wanted bytes same front = subst (λ (n : List ℕ). ReadsFront known n bytes) same front

pub rules_known : (known now : Option Image) (schemas aggregations : List ℕ) (answer : Result RulesValue RuleFault) → now ≡ known → ReadsFront known schemas_name schemas
    → ReadsFront now aggregations_name aggregations → rules_result schemas aggregations ≡ answer → IfSome known (λ image. rules_in image ≡ answer)
rules_known None now schemas aggregations answer same first second read = tt
rules_known (Some image) now schemas aggregations answer same first second read =
    let other : aggregations ≡ front_of (bytes_of image aggregations_name) = subst (λ (known : Option Image). ReadsFront known aggregations_name aggregations) same second in
    sym (rules_of_fronts (bytes_of image schemas_name) (bytes_of image aggregations_name)) ∙ rw (sym first) (rw (sym other) read)

-- what is told of a folder whose files were read
pub refused_known : (fault : ConfFault) (known now : Option Image) (schemas aggregations : List ℕ) → now ≡ known → ReadsFront known schemas_name schemas
    → ReadsFront now aggregations_name aggregations → Answers (rules_result schemas aggregations) fault → IfSome known (IsRefused fault)
refused_known (Refused file cause) known now schemas aggregations same first second told = rules_known known now schemas aggregations (Err (Fault file cause)) same first second told
refused_known (RefusedAgg cause) known now schemas aggregations same first second told = absurd told
refused_known DiskFault known now schemas aggregations same first second told = absurd told
refused_known NoMemory None now schemas aggregations same first second told = tt
refused_known NoMemory (Some image) now schemas aggregations same first second told = tt

-- ---- the aggregation rules of a folder

pub agg_rules_known : (known : Option Image) (text : List ℕ) (answer : Result (List RuleValue) AggCause) → ReadsFront known agg_rules_name text
    → file_rules text ≡ answer → IfSome known (λ image. agg_rules_in image ≡ answer)
agg_rules_known None text answer front read = tt
agg_rules_known (Some image) text answer front read = sym (agg_rules_of_front (bytes_of image agg_rules_name)) ∙ rw (sym front) read

pub agg_refused_known : (fault : ConfFault) (known : Option Image) (text : List ℕ) → ReadsFront known agg_rules_name text → AnswersAgg (file_rules text) fault
    → IfSome known (IsRefusedAgg fault)
agg_refused_known (Refused file cause) known text front told = absurd told
agg_refused_known (RefusedAgg cause) known text front told = agg_rules_known known text (Err cause) front told
agg_refused_known DiskFault known text front told = absurd told
agg_refused_known NoMemory None text front told = tt
agg_refused_known NoMemory (Some image) text front told = tt

-- ---- the front of a file

none_held : (held : Option (List ℕ)) (bytes : List ℕ) → None ≡ option_map length held → bytes ≡ [] → bytes ≡ front_of (unwrap_or held [])
unfolding front_of
none_held None bytes gone none = none
none_held (Some file) bytes gone none = absurd (none-some (length file) gone)

-- a file that is not there has an empty front
pub absent_front : (known : Option Image) (name bytes : List ℕ) → LengthIs known name None → bytes ≡ [] → ReadsFront known name bytes
absent_front None name bytes gone none = tt
absent_front (Some image) name bytes gone none = none_held (image name) bytes gone none

same_size : (a b : ℕ) → Some a ≡ Some b → a ≡ b
same_size a b e = ap (λ (o : Option ℕ). unwrap_or o a) e

first_bytes : (n : ℕ) (bytes file : List ℕ) → length bytes ≡ min n (length file) → bytes ≡ take (length bytes) file → bytes ≡ take n file
first_bytes n bytes file count read = read ∙ ap (λ (k : ℕ). take k file) count ∙ take_min n file

some_held : (held : Option (List ℕ)) (bytes : List ℕ) (size : ℕ) → Some size ≡ option_map length held → length bytes ≡ min (most_file_bytes + 1) size
    → IsSomeAnd held (λ file. bytes ≡ take (length bytes) (drop 0 file)) → bytes ≡ front_of (unwrap_or held [])
unfolding front_of
some_held None bytes size long count read = absurd read
some_held (Some file) bytes size long count read =
    first_bytes (most_file_bytes + 1) bytes file (count ∙ ap (λ (n : ℕ). min (most_file_bytes + 1) n) (same_size size (length file) long)) read

-- the bytes that were read are the front of a file
pub read_front : (known now : Option Image) (name bytes : List ℕ) (size : ℕ) → now ≡ known → LengthIs known name (Some size) → length bytes ≡ min (most_file_bytes + 1) size → ReadsFile now name 0 bytes
    → ReadsFront known name bytes
read_front None now name bytes size same long count read = tt
read_front (Some image) now name bytes size same long count read =
    some_held (image name) bytes size long count (subst (λ (known : Option Image). ReadsFile known name 0 bytes) same read)

empty_held : (held : Option (List ℕ)) (bytes : List ℕ) (size : ℕ) → Some size ≡ option_map length held → size ≡ 0 → bytes ≡ [] → bytes ≡ front_of (unwrap_or held [])
unfolding front_of
empty_held None bytes size long empty none = none
empty_held (Some file) bytes size long empty none =
    none ∙ first_bytes (most_file_bytes + 1) [] file (sym (ap (λ (n : ℕ). min (most_file_bytes + 1) n) (sym (same_size size (length file) long) ∙ empty))) refl

-- an empty file has an empty front
pub empty_front : (known : Option Image) (name bytes : List ℕ) (size : ℕ) → LengthIs known name (Some size) → size ≡ 0 → bytes ≡ [] → ReadsFront known name bytes
empty_front None name bytes size long empty none = tt
empty_front (Some image) name bytes size long empty none = empty_held (image name) bytes size long empty none
