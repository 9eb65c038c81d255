-- Names of a class that are learnt piece by piece.
use Rattle.std.proofs.Common.{◌≡◌, ◌≢◌, ◌∙◌, Ordering, Less, Equal, Greater, ℕ, List, [], ◌∷◌, ◌++◌, refl, sym, ap, subst}
use Rattle.std.specs.Prelude.{All, None}
use Rattle.std.specs.BTreeMap.Comparable.{le_lt_trans}
use Rattle.std.specs.Cmp.Lexicographic.{slice_cmp}
use Rattle.std.specs.List.{AllByRecursion}
use Rattle.std.specs.List.Sorted.{IsStrictlySortedBy}
use Rattle.std.specs.Ordering.{is_le, nat_cmp, ordering_reverse}
use Rattle.std.proofs.lemmas.Cmp.{nat_list_cmp_total}
use Rattle.std.proofs.lemmas.List.Elements.{All-append, All-cons, All-head, All-nil, All-tail}
use Rattle.std.proofs.lemmas.Map.Lookups.{exact_bytes}
use Rattle.metric_path.specs.Path.{path_fault}
use Rattle.carbon_history.specs.declared.entry.Entry.{Entry}
use Rattle.carbon_model.specs.Replay.{replay}
use Rattle.carbon_model.specs.State.{State}
use Rattle.shard_core.specs.Halves.{DeskInside, both}
use Rattle.shard_core.specs.Looks.{NamesFrom}
use Rattle.shared_history.specs.declared.view.Look.{Look}
use Rattle.shared_history.specs.Parts.{PassValue}
use Rattle.shared_history.specs.Views.{look_at}
use Rattle.shared_store.specs.Known.{IsInOrder, IsKnownAfter, IsPieceOf, KnowsOf, LooksAlone}
use Rattle.shared_store.specs.Locks.{HoldsDesk}
use Rattle.shared_store.specs.Passes.{LooksOn}
use Rattle.shared_store.proofs.AskPassLemmas.{only_both, only_itself}
use Rattle.shared_store.proofs.DeskPutLemmas.{untold, with_untold}
use Rattle.shared_store.proofs.KnownLemmas.{known_on}

abbrev order : List ℕ → List ℕ → Ordering
order = slice_cmp nat_cmp

-- ---- looks at one class

pub alone_itself : (class : ℕ) (pass : PassValue) → LooksAlone class pass pass
alone_itself class pass = record { only = only_itself pass; others = λ other apart. refl }

pub alone_both : (class : ℕ) (old mid new : PassValue) → LooksAlone class old mid → LooksAlone class mid new → LooksAlone class old new
alone_both class old mid new p q = record {
  only = only_both old mid new p.only q.only;
  others = λ other apart. q.others other apart ∙ p.others other apart;
}

-- ---- what stands behind a path

below_by : (x last y : List ℕ) (o : Ordering) → order y last ≡ o → o ≢ Less → order x last ≡ Less → order x y ≡ Less
below_by x last y Less is above below = absurd (above refl)
below_by x last y Equal is above below = subst (λ (l : List ℕ). order x l ≡ Less) (sym (exact_bytes y last is)) below
below_by x last y Greater is above below =
    le_lt_trans nat_list_cmp_total x last y (ap is_le below) (nat_list_cmp_total.antisymm last y ∙ ap ordering_reverse is)

below_all : (x last : List ℕ) (ys : List (List ℕ)) → order x last ≡ Less → All (λ y. order y last ≢ Less) ys → AllByRecursion (λ y. order x y ≡ Less) ys
below_all x last [] below above = tt
below_all x last (y ∷ ys) below above = (
  below_by x last y (order y last) refl (All-head (λ (z : List ℕ). order z last ≢ Less) y ys above) below,
  below_all x last ys below (All-tail (λ (z : List ℕ). order z last ≢ Less) y ys above),
)

below_joined : (x last : List ℕ) (xs ys : List (List ℕ)) → AllByRecursion (λ y. order x y ≡ Less) (xs ++ last ∷ []) → All (λ y. order y last ≢ Less) ys → AllByRecursion (λ y. order x y ≡ Less) (xs ++ ys)
below_joined x last [] ys all above = below_all x last ys all.0 above
below_joined x last (z ∷ xs) ys all above = (all.0, below_joined x last xs ys all.1 above)

rising_joined : (xs ys : List (List ℕ)) (last : List ℕ) → IsInOrder (xs ++ last ∷ []) → IsInOrder ys → All (λ y. order y last ≢ Less) ys → IsInOrder (xs ++ ys)
unfolding IsStrictlySortedBy
rising_joined [] ys last rising more above = more
rising_joined (x ∷ xs) ys last rising more above = (below_joined x last xs ys rising.0 above, rising_joined xs ys last rising.1 more above)

all_front : (P : List ℕ → Type 0) (xs rest : List (List ℕ)) → All P (xs ++ rest) → All P xs
all_front P [] rest all = All-nil P
all_front P (x ∷ xs) rest all = All-cons P x xs (All-head P x (xs ++ rest) all) (all_front P xs rest (All-tail P x (xs ++ rest) all))

-- ---- pieces

-- a text of one byte that is a path
pub least_legal : path_fault (33 ∷ []) ≡ None
unfolding path_fault
least_legal = refl

pub desk_piece : (start : State) (desk : DeskInside) (list : List Entry) (least : List ℕ) (names : List (List ℕ)) → HoldsDesk desk (replay start list) → NamesFrom (both desk (untold desk.class)) least names
    → IsPieceOf start desk.class list least names
desk_piece start desk list least names holds are = record {
  known = λ k d less. let one = are.known None (replay start list) (with_untold desk (replay start list) holds) k d less in record { here = one.0; known = one.1 };
  order = are.rising;
  behind = are.behind;
}

-- nothing is learnt yet
pub knows_nothing : (start : State) (looks : List Look) (class : ℕ) (names : List (List ℕ)) → names ≡ [] → KnowsOf start looks class names
unfolding IsStrictlySortedBy
knows_nothing start looks class names none =
    subst (KnowsOf start looks class) (sym none) (record { known = All-nil (IsKnownAfter start class (look_at class looks).list); order = tt })

-- the first piece
pub knows_first : (start : State) (looks : List Look) (class : ℕ) (least : List ℕ) (names : List (List ℕ)) → IsPieceOf start class (look_at class looks).list least names → KnowsOf start looks class names
knows_first start looks class least names piece = record { known = piece.known; order = piece.order }

-- the names before the last one, and a piece from that one on
pub knows_joined : (start : State) (class : ℕ) (old new : PassValue) (names before more all : List (List ℕ)) (last : List ℕ) → LooksOn old new → KnowsOf start old.looks class names → names ≡ before ++ last ∷ []
    → IsPieceOf start class (look_at class new.looks).list last more → all ≡ before ++ more → KnowsOf start new.looks class all
knows_joined start class old new names before more all last on knows cut piece is =
    let P = IsKnownAfter start class (look_at class new.looks).list in
    let known : All P (before ++ last ∷ []) =
    subst (All P) cut (known_on start class (look_at class old.looks).list (look_at class new.looks).list names (on.classes class).list knows.known) in
    subst (KnowsOf start new.looks class) (sym is) (record {
      known = All-append P before more (all_front P before (last ∷ []) known) piece.known;
      order = rising_joined before more last (subst IsInOrder cut knows.order) piece.order piece.behind;
    })
