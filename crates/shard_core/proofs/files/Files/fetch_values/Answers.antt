use Rattle.std.proofs.Common.{◌≡◌, ◌∙◌, None, ℕ, List, ap, rules, subst}
use Rattle.std.specs.Option.{is_none}
use Rattle.metric_path.specs.Path.{path_fault}
use Rattle.ring_format.specs.Patch.{PatchValue}
use Rattle.metric_index.specs.Index.{entry_of}
use Rattle.shard_core.specs.Halves.{both, files_of}
use Rattle.shard_core.proofs.ReadLemmas.{fetched_beside, fetched_through, shelved_is_kept, unkept_is_fresh}
use Rattle.shard_core.proofs.ReadingLemmas.{if_ok_both, no_cells}
use Rattle.shard_core.proofs.files.Files.fetch_values.Goals as goal

pub returns-in-Some-clause-shows : goal.returns-in-Some-clause-shows
returns-in-Some-clause-shows g c =
    let legal = subst (λ (text : List ℕ). path_fault text ≡ None) c.text.ensures.value c.text.ensures.legal in
    if_ok_both c.fetch_under.result _ _ _ c.fetch_under.ensures.pending c.fetch_under.ensures.told (λ values pending told desk may.
    fetched_through (both desk (files_of c.args.self.now)) c.in-Some.patch.now c.args.looked.now values.items c.in-Some.ensures (record { legal = legal; here = may.may.here }) may.halves.writing pending told)

pub returns-in_ok-path-in-None-clause-shows : goal.returns-in_ok-path-in-None-clause-shows
returns-in_ok-path-in-None-clause-shows g c =
    let legal = subst (λ (text : List ℕ). path_fault text ≡ None) c.text.ensures.value c.text.ensures.legal in
    let none : c.is_none.result ≡ is_none c.args.kept = search rules in
    if_ok_both c.fetch_under-in-None.result _ _ _ c.fetch_under-in-None.ensures.pending c.fetch_under-in-None.ensures.told (λ values pending told desk may.
    fetched_beside (both desk (files_of c.args.self.now)) c.args.looked.now values.items c.args.kept _ c.in-None.ensures (record { legal = legal; here = may.may.here }) may.may may.kept
    (c.new-patch.ensures ∙ ap (λ (path : List ℕ). no_cells path c.args.looked.now.layout c.is_none.result) c.in_ok-path-in-None.ensures ∙ ap (no_cells c.args.looked.now.path c.args.looked.now.layout) none) pending told)

pub returns-in-Some-clause-unread : goal.returns-in-Some-clause-unread
returns-in-Some-clause-unread g c = λ desk may none.
    absurd (shelved_is_kept (both desk (files_of c.args.self.now)) c.args.looked.now c.in-Some.patch.now c.in-Some.ensures may.halves.writing none)

pub returns-in_ok-path-in-None-clause-unread : goal.returns-in_ok-path-in-None-clause-unread
returns-in_ok-path-in-None-clause-unread g c =
    let fresh : c.is_none.result ≡ is_none c.args.kept = search rules in
    λ desk may none. c.fetch_under-in-None.ensures.unread
    (ap (λ (patch : PatchValue). patch.fresh) c.new-patch.ensures ∙ fresh ∙ unkept_is_fresh (entry_of desk.table c.args.looked.now.path) c.args.kept may.kept none)
