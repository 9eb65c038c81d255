use Rattle.std.proofs.Common.{rules, ◌≡◌, ◌∙◌, ℕ, ◌<◌, List, Option, None, length, sym, ap, subst}
use Rattle.std.specs.Prelude.{slice_index_or, slice_set}
use Rattle.std.specs.declared.sync.MutexGuard.{MutexGuard}
use Rattle.metric_path.specs.Class.{class_of}
use Rattle.carbon_history.specs.declared.entry.Entry.{Entry}
use Rattle.shared_store.specs.Held.{IsPlaceOf, KeepsFilesHeld}
use Rattle.shared_store.specs.Locks.{FilesValue}
use Rattle.shared_store.proofs.AskReadLemmas.{keeps_place}
use Rattle.shared_store.proofs.FindLemmas.{if_ok}
use Rattle.shared_store.proofs.store.Store.read_held.Goals as goal

pub read_place-requires-clause-place : goal.read_place-requires-clause-place
read_place-requires-clause-place g c =
    let held : List (Option (MutexGuard FilesValue)) = c.args.held.now.items in
    let i : ℕ = c.class.result in
    let seen : List Entry = c.args.pass.now.seen in
    let here : i ≡ class_of c.args.looked.now.path = search rules in
    let within : i < length held = search rules in
    subst (λ (k : ℕ). IsPlaceOf k seen c.index_mut-place.result.now) here
    (subst (IsPlaceOf i seen) (sym c.index_mut-place.ensures.value) (c.requires.held i c.index_mut-place.result.now within))

pub read_place-requires-clause-bare : goal.read_place-requires-clause-bare
read_place-requires-clause-bare g c = λ none.
    let held : List (Option (MutexGuard FilesValue)) = c.args.held.now.items in
    let here : c.class.result ≡ class_of c.args.looked.now.path = search rules in
    let within : class_of c.args.looked.now.path < length held = search rules in
    c.requires.covered c.index_mut-place.result.now within
    (ap (λ (k : ℕ). slice_index_or held k c.index_mut-place.result.now) (sym here) ∙ (sym c.index_mut-place.ensures.value ∙ none))

pub returns-clause-held : goal.returns-clause-held
returns-clause-held g c =
    let held : List (Option (MutexGuard FilesValue)) = c.args.held.now.items in
    let i : ℕ = c.class.result in
    let seen : List Entry = c.args.pass.now.seen in
    let here : i ≡ class_of c.args.looked.now.path = search rules in
    let within : i < length held = search rules in
    if_ok c.read_place.result _ _ c.read_place.ensures.place (λ values is.
    keeps_place seen held i c.index_mut-place.result.now c.read_place.new.place within c.index_mut-place.ensures.value c.requires.held
    (subst (λ (k : ℕ). IsPlaceOf k seen c.read_place.new.place) (sym here) is) c.read_place.ensures.none)
