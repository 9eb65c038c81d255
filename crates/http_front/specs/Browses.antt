-- What comes of a request for names.
use Rattle.std.specs.Prelude.{◌≡◌, ◌⊎◌, ℕ, List, [], ◌++◌, Result, Ok, Err, codes, decimal}
use Rattle.shared_store.specs.Naming.{Names, NamesPartly}
use Rattle.path_glob.specs.Faults.{Said}
use Rattle.find_api.specs.Queries.{read_queries}
use Rattle.find_api.specs.Texts.{IsExpandText, IsFindText, names_text}
use Rattle.find_api.specs.declared.fault.FindFault.{FindFault}
use Rattle.find_api.specs.declared.fault.FindFault.TheVariants as fault
use Rattle.http_wire.specs.declared.reply.MediaType.TheVariants as media
use Rattle.http_front.specs.Origin.{Caller, Origin, ReadsOnce}
use Rattle.http_front.specs.declared.listing.Listing.{Listing}
use Rattle.http_front.specs.declared.listing.Listing.TheVariants as listing
use Rattle.http_front.specs.declared.outcome.Outcome.{Outcome}
use Rattle.http_front.specs.declared.outcome.Outcome.TheVariants.{Found, Unanswerable}

-- ---- texts

-- what is told of the names that some globs find
abbrev pub lists : Listing → List Said → List (List ℕ) → List ℕ → Type 0
lists listing.Nodes = IsFindText
lists listing.Paths = IsExpandText

-- or of all names
abbrev pub IsIndexText : List (List ℕ) → List ℕ → Type 0
IsIndexText names text = text ≡ names_text names

unfoldable pub query_word : List ℕ
query_word = codes "query "

unfoldable pub query_end : List ℕ
query_end = codes ": unreadable"

unfoldable pub fault_word : FindFault → List ℕ
fault_word fault.NoQuery = codes "no query"
fault_word fault.TooManyQueries = codes "too many queries"
fault_word (fault.BadQuery n) = []
fault_word fault.NoMemory = codes "no memory"

-- why queries are refused
abbrev pub fault_text : FindFault → List ℕ
fault_text fault.NoQuery = fault_word fault.NoQuery
fault_text fault.TooManyQueries = fault_word fault.TooManyQueries
fault_text (fault.BadQuery n) = query_word ++ (decimal n ++ query_end)
fault_text fault.NoMemory = fault_word fault.NoMemory

-- ---- the question

-- The names of all metrics were asked for, at a moment for which the clock was read.
pub record AsksNames (w : Origin) (names : List (List ℕ)) (old new : Caller) : Type 0 where
  pub now : ℕ
  pub reads : ReadsOnce w now old new
  pub asks : Names w.start w.passes now names old.pass new.pass

-- That question was given up.
pub record GivesUpNames (w : Origin) (old new : Caller) : Type 0 where
  pub now : ℕ
  pub reads : ReadsOnce w now old new
  pub asks : NamesPartly w.start w.passes now old.pass new.pass

-- What came of the question is a text of the names at its entry.
pub record HasNames (w : Origin) (tells : List (List ℕ) → List ℕ → Type 0) (outcome : Outcome) (old new : Caller) : Type 0 where
  pub names : List (List ℕ)
  pub asks : AsksNames w names old new
  pub text : List ℕ
  pub is : outcome ≡ Found media.Json text
  pub so : tells names text

-- ---- queries

-- what is told of the names for globs
abbrev pub Tells : Type 1
Tells = List Said → List (List ℕ) → List ℕ → Type 0

-- what comes of queries that were read so; those that are refused enter nothing, and have no moment
abbrev pub ComesOfGlobs : Origin → Tells → Result (List Said) FindFault → Outcome → Caller → Caller → Type 0
ComesOfGlobs w tells (Ok globs) outcome old new = HasNames w (tells globs) outcome old new
ComesOfGlobs w tells (Err why) outcome old new = (outcome ≡ Unanswerable (fault_text why)) × (new ≡ old)

-- What comes of the queries of a query string and a form.
abbrev pub ComesOfQueries : Origin → Tells → List ℕ → List ℕ → Outcome → Caller → Caller → Type 0
ComesOfQueries w tells query form outcome old new =
    ComesOfGlobs w tells (read_queries query form) outcome old new

-- Memory ran out in the question of queries that can be read.
pub record GivesUpQueries (w : Origin) (query form : List ℕ) (old new : Caller) : Type 0 where
  pub globs : List Said
  pub read : read_queries query form ≡ Ok globs
  pub asks : GivesUpNames w old new

-- or before it
abbrev pub ShortOfQueries : Origin → List ℕ → List ℕ → Caller → Caller → Type 0
ShortOfQueries w query form old new = (new ≡ old) ⊎ GivesUpQueries w query form old new
