-- What the workers of a server do, link by link.
use Rattle.std.specs.Prelude.{◌≡◌, ◌≢◌, ◌<◌, ℕ, All, List, [], ◌∷◌, ◌++◌, length, get_or, Option, Some, None}
use Rattle.outside_io.specs.Faults.{Rose}
use Rattle.outside_io.specs.declared.source.Source.{Ghosts as SourceGhosts}
use Rattle.outside_io.specs.declared.sink.Sink.{Ghosts as SinkGhosts}
use Rattle.aggregate_rules.specs.RuleTexts.{RuleValue}
use Rattle.carbon_history.specs.declared.entry.Entry.{Entry}
use Rattle.carbon_history.specs.declared.entry.Entry.TheVariants.{Drain, Fault}
use Rattle.shared_history.specs.Parts.{PassValue, own_entries}
use Rattle.shared_store.specs.Passes.{HasRoom}
use Rattle.line_front.specs.Links.{Ends, new_session, timed}
use Rattle.line_front.specs.declared.counts.Counts.{Counts}
use Rattle.line_front.specs.declared.ends.LineCause.{LineCause}
use Rattle.line_front.specs.declared.ends.LineCause.TheVariants as cause
use Rattle.http_front.specs.Entries.{MakesAsks}
use Rattle.http_front.specs.Links.{ServesLink}
use Rattle.http_front.specs.Prompt.{AnswersInTime}
use Rattle.read_trace.specs.declared.reads.ReadNote.{ReadNote}
use Rattle.http_front.specs.Origin.{Caller, Origin, caller_of}
use Rattle.http_front.specs.declared.ends.HttpEnd.{HttpEnd}
use Rattle.http_front.specs.declared.ends.HttpEnd.TheVariants as end
use Rattle.carbon_serve.specs.declared.workers.Role.{Role}
use Rattle.carbon_serve.specs.declared.workers.Role.TheVariants as role
use Rattle.carbon_serve.specs.declared.workers.Worker.{Worker}

-- ---- links

-- What links tell of themselves: which bytes are left of one, and which were written to it, each where it tells them; and how many of its reads and
-- writes failed. And the rules that gather the points which one brings.
pub record Telling (L : Type 0) : Type 0 where
  pub left : L → Option (List ℕ)
  pub written : L → Option (List ℕ)
  pub failed_reads : L → ℕ
  pub failed_writes : L → ℕ
  pub rules : List RuleValue

abbrev pub telling : {L : Type 0} → SourceGhosts L → SinkGhosts L → List RuleValue → Telling L
telling source sink rules = record {
  left = source.left;
  written = sink.written;
  failed_reads = source.read_faults;
  failed_writes = sink.write_faults;
  rules = rules;
}

-- A link of metric lines that was served: as it came, as it was left, why its service ended, and its lines by what became of them.
pub record LineLink (L : Type 0) : Type 0 where
  pub before : L
  pub after : L
  pub cause : LineCause
  pub counts : Counts

-- A link of requests that was served.
pub record HttpLink (L : Type 0) : Type 0 where
  pub before : L
  pub after : L
  pub end : HttpEnd

-- It was served by a pass, from where that stood to where it stands: its lines were handled, by the rules, each at a moment for which the clock was read, and
-- nothing was written to it. The count of failed reads rose where that ended it.
pub record ServesLineLink {L : Type 0} (links : Telling L) (w : Origin) (link : LineLink L) (old new : Caller) : Type 0 where
  pub ends : Ends w.moments w.start w.passes link.cause (links.left link.before) (links.left link.after) (timed old.told (new_session links.rules old.pass)) new.told new.pass link.counts
  pub silent : links.written link.after ≡ links.written link.before
  pub reads : link.cause ≡ cause.ReadFault → Rose (links.failed_reads link.before) (links.failed_reads link.after)

-- Its requests were answered, each query and each question for names at a moment for which the clock was read, and what the pass entered are tries of
-- questions and faults. Whenever the link was read, all requests that had come whole had their replies. The counts of failed reads and writes rose where such a call ended it.
pub record ServesHttpLink {L : Type 0} (links : Telling L) (w : Origin) (link : HttpLink L) (old new : Caller) : Type 0 where
  pub serves : ServesLink w (Rose (links.failed_writes link.before) (links.failed_writes link.after)) link.end (links.left link.before) (links.left link.after)
      (record { caller = old; written = links.written link.before }) (record { caller = new; written = links.written link.after })
  pub makes : MakesAsks w old.pass new.pass
  pub reads_noted : List (ReadNote L)
  pub prompt : AnswersInTime links.left links.written w (links.left link.before) (links.left link.after) (record { caller = old; written = links.written link.before }) [] reads_noted
  pub room : link.end ≢ end.Spent → HasRoom old.pass
  pub reads : link.end ≡ end.ReadFault → Rose (links.failed_reads link.before) (links.failed_reads link.after)
  pub writes : link.end ≡ end.WriteFault → Rose (links.failed_writes link.before) (links.failed_writes link.after)

-- the link was served that came so
abbrev pub ServesLineOf : {L : Type 0} → Telling L → Origin → L → Caller → Caller → Type 0
ServesLineOf {L} links w before old new = (link : LineLink L) × ((link.before ≡ before) × ServesLineLink links w link old new)

abbrev pub ServesHttpOf : {L : Type 0} → Telling L → Origin → L → Caller → Caller → Type 0
ServesHttpOf {L} links w before old new = (link : HttpLink L) × ((link.before ≡ before) × ServesHttpLink links w link old new)

-- ---- what a worker did

-- Each of these was served, one after the other, from where one stood to where the next begins: nothing is done between them.
abbrev pub InTurn : {X S : Type 0} → (X → S → S → Type 0) → List X → S → S → Type 0
InTurn serves [] old new = new ≡ old
InTurn {X} {S} serves (x ∷ xs) old new = (mid : S) × (serves x old mid × InTurn serves xs mid new)

-- links of metric lines, and nothing else
abbrev pub ReceivesFrom : {L : Type 0} → Telling L → Origin → Caller → Caller → Type 0
ReceivesFrom {L} links w old new = (served : List (LineLink L)) × InTurn (ServesLineLink links w) served old new

-- links of requests, and nothing else
abbrev pub RendersFrom : {L : Type 0} → Telling L → Origin → Caller → Caller → Type 0
RendersFrom {L} links w old new = (served : List (HttpLink L)) × InTurn (ServesHttpLink links w) served old new

-- the same by a watch of its own, which had told nothing: these are all its moments
abbrev pub Receives : {L : Type 0} → Telling L → Origin → PassValue → PassValue → Type 0
Receives links w old new = (told : List ℕ) × ReceivesFrom links w (caller_of old []) (caller_of new told)

abbrev pub Renders : {L : Type 0} → Telling L → Origin → PassValue → PassValue → Type 0
Renders links w old new = (told : List ℕ) × RendersFrom links w (caller_of old []) (caller_of new told)

-- an entry of a pass that drains: of a metric, at a moment of the clock, or the fault of a disk
abbrev pub IsOfDrainer : (ℕ → Type 0) → ℕ → Entry → Type 0
IsOfDrainer moments number (Drain pass path now) = (pass ≡ number) × moments now
IsOfDrainer moments number (Fault pass class) = pass ≡ number
IsOfDrainer moments number entry = ⊥

-- Each drain is at a moment for which the clock was read, each at one of its own, in order. Other readings may stand between.
abbrev pub DrawsOn : List Entry → List ℕ → Type 0
DrawsOn [] readings = Unit {0}
DrawsOn (Drain pass path now ∷ entries) readings =
    (skipped : List ℕ) × (others : List ℕ) × ((readings ≡ skipped ++ now ∷ others) × DrawsOn entries others)
DrawsOn (entry ∷ entries) readings = DrawsOn entries readings

-- The pass made entries of this kind, and no other, while the clock was read so.
pub record DrainsOnly (moments : ℕ → Type 0) (old new : Caller) : Type 0 where
  pub number : new.pass.number ≡ old.pass.number
  pub entries : List Entry
  pub once : own_entries new.pass ≡ own_entries old.pass ++ entries
  pub each : All (IsOfDrainer moments old.pass.number) entries
  pub readings : List ℕ
  pub told : new.told ≡ old.told ++ readings
  pub draws : DrawsOn entries readings

-- the same by a watch of its own, which had told nothing
abbrev pub Drains : (ℕ → Type 0) → PassValue → PassValue → Type 0
Drains moments old new = (told : List ℕ) × DrainsOnly moments (caller_of old []) (caller_of new told)

-- What a worker of a role did by its pass.
abbrev pub Did : {L : Type 0} → Telling L → Origin → Role → PassValue → PassValue → Type 0
Did links w role.Receiver old new = Receives links w old new
Did links w (role.Renderer answer_bytes) old new = Renders links w old new
Did links w (role.Drainer pace) old new = Drains w.moments old new

-- ---- workers

-- a worker did that by its pass, which is there again
abbrev pub DidBy : {L : Type 0} → Telling L → Origin → Role → Option PassValue → Option PassValue → Type 0
DidBy links w does None new = new ≡ None
DidBy links w does (Some old) None = ⊥
DidBy links w does (Some old) (Some new) = Did links w does old new

-- it did what its role says, and has it still
pub record DoesRole {L : Type 0} (links : Telling L) (w : Origin) (old new : Worker) : Type 0 where
  pub same : new.role ≡ old.role
  pub did : DidBy links w old.role old.pass new.pass

-- all these workers did
pub record AllDo {L : Type 0} (links : Telling L) (w : Origin) (old new : List Worker) : Type 0 where
  pub count : length new ≡ length old
  pub each : (k : ℕ) → k < length old → (d : Worker) → DoesRole links w (get_or old k d) (get_or new k d)
