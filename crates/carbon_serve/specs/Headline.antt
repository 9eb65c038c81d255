-- The headline: what the one history of a server is of all that its links were told.
use Rattle.std.specs.Prelude.{◌≡◌, ◌<◌, ◌+◌, ℕ, zero, suc, All, List, [], ◌∷◌, ◌++◌, Option, Some, slice_get, slice_set}
use Rattle.outside_io.specs.Image.{Image}
use Rattle.carbon_history.specs.declared.entry.Entry.{Entry}
use Rattle.carbon_history.specs.Entries.{NamesPasses, of_pass}
use Rattle.carbon_model.specs.State.{State}
use Rattle.carbon_model.specs.Replay.{IsLegalHistory}
use Rattle.http_front.specs.Origin.{Origin}
use Rattle.carbon_serve.specs.Courses.{Staff, origin_by}
use Rattle.carbon_serve.specs.Crews.{role_of}
use Rattle.carbon_serve.specs.Deeds.{HttpLink, IsOfDrainer, LineLink, Telling}
use Rattle.carbon_serve.specs.OneHistory.{Passage, PutsOfAll, RepliesOfAll}
use Rattle.carbon_serve.specs.declared.workers.Role.{Role}
use Rattle.carbon_serve.specs.declared.workers.Role.TheVariants as role

-- ---- one order

-- A list is woven of these: its first element is the first one of one of them, the others are woven of what is left then, and nothing is left at the end.
abbrev pub IsWovenOf : {X : Type 0} → List (List X) → List X → Type 0
IsWovenOf parts [] = All (λ part. part ≡ []) parts
IsWovenOf {X} parts (x ∷ xs) =
    (place : ℕ) × (rest : List X) × ((slice_get parts place ≡ Some (x ∷ rest)) × IsWovenOf (slice_set parts place rest) xs)

-- what a history has of each of the first passes, so many, in order of their numbers
abbrev pub parts_of : ℕ → List Entry → List (List Entry)
parts_of zero history = []
parts_of (suc count) history = parts_of count history ++ of_pass count history ∷ []

-- ---- what each pass made of it

-- a pass that had seen nothing made these entries, and has seen this
abbrev pub from_nothing : List Entry → List Entry → Passage
from_nothing own after = record { before = []; own = own; after = after }

-- What the history has of a worker of a role, by the number of its pass, and nothing else. A receiver: the puts of the links that it served, one link behind
-- the other. A renderer: the questions of its links, each of which stands behind all that the worker had seen, and by the states at which the replies were
-- made. One that drains: drains at moments of the clock, and faults of disks.
abbrev pub IsOfWorker : {L : Type 0} → Telling L → Origin → Role → ℕ → List Entry → Type 0
IsOfWorker {L} links w role.Receiver number history = (served : List (LineLink L)) × PutsOfAll links w number served (of_pass number history)
IsOfWorker {L} links w (role.Renderer answer_bytes) number history =
    (served : List (HttpLink L)) × (after : List Entry) × RepliesOfAll links w number history served (from_nothing (of_pass number history) after)
IsOfWorker {L} links w (role.Drainer pace) number history = All (IsOfDrainer w.moments number) (of_pass number history)

-- What the last pass entered, the crew's own, stands behind all else: the drain at the end.
pub record IsOfLast (moments : ℕ → Type 0) (passes : ℕ) (history : List Entry) : Type 0 where
  pub number : ℕ
  pub is : number + 1 ≡ passes
  pub front : List Entry
  pub alone : history ≡ front ++ of_pass number history
  pub kinds : All (IsOfDrainer moments number) (of_pass number history)

-- All puts, drains and questions stand in one order, which is legal, and is woven of what each pass entered. That is just what its links or its drains made,
-- in their order: each accepted line stands there once, and every reply is the one that carbon gives where one thread does all that stands before the
-- question one after the other.
pub record IsOneHistory {L : Type 0} (staff : Staff L) (told : ℕ → Option Image) (start : State) (history : List Entry) : Type 0 where
  pub legal : IsLegalHistory start history
  pub names : NamesPasses staff.passes history
  pub woven : IsWovenOf (parts_of staff.passes history) history
  pub workers : (number : ℕ) → number + 1 < staff.passes → IsOfWorker staff.links (origin_by staff told start) (role_of number staff.duties) number history
  pub last : IsOfLast staff.moments staff.passes history
