-- The classes of a history are independent of each other.
use Rattle.std.proofs.Common.{◌≡◌, inl, inr, ◌∙◌, ℕ, ℤ, suc, ◌<◌, ◌≤◌, ◌==◌, Bool, true, false, List, [], ◌∷◌, Option, Some, refl, sym, ap, subst, if◌then◌else◌}
use Rattle.std.specs.Str.{bytes_eq}
use Rattle.std.specs.Map.{remove_entry}
use Rattle.std.proofs.lemmas.Bool.{false≢true}
use Rattle.std.proofs.lemmas.Bool.Decides.{eqb_tells, Decides-eqb}
use Rattle.std.proofs.lemmas.Slice.Eq.{bytes_eq-Decides}
use Rattle.metric_path.specs.Class.{class_of}
use Rattle.point_cache.specs.Points.{has_time}
use Rattle.point_cache.specs.Pending.{points_count, points_of, with_put}
use Rattle.drain_order.specs.Pick.{pick, queue_after}
use Rattle.drain_order.specs.declared.strategy.Strategy.{Strategy}
use Rattle.ring_format.specs.Layout.{LayoutValue}
use Rattle.carbon_history.specs.declared.entry.Entry.{Entry}
use Rattle.carbon_history.specs.declared.entry.Entry.TheVariants.{Put, Drain, Ask, Fault}
use Rattle.carbon_history.specs.declared.entry.PutEnd.TheVariants.{Stored, Replaced, Full}
use Rattle.carbon_model.specs.State.{Kept, Metrics, SamePart, State, picked, points_in}
use Rattle.carbon_history.specs.Entries.{about_class, is_about}
use Rattle.carbon_model.specs.Replay.{IsLegal, IsLegalHistory, after, kept_after, replay}

pub same_part : (class : ℕ) (s : State) → SamePart class s s
same_part class s = record {
  pending = refl;
  queue = refl;
  kept = λ path one. refl;
  drains = λ path one. refl;
  rules = λ path one. refl;
  limit = refl;
  strategy = refl;
}

pub same_sym : (class : ℕ) (s t : State) → SamePart class s t → SamePart class t s
same_sym class s t same = record {
  pending = sym same.pending;
  queue = sym same.queue;
  kept = λ path one. sym (same.kept path one);
  drains = λ path one. sym (same.drains path one);
  rules = λ path one. sym (same.rules path one);
  limit = sym same.limit;
  strategy = sym same.strategy;
}

pub same_both : (class : ℕ) (s t u : State) → SamePart class s t → SamePart class t u → SamePart class s u
same_both class s t u first second = record {
  pending = first.pending ∙ second.pending;
  queue = first.queue ∙ second.queue;
  kept = λ path one. first.kept path one ∙ second.kept path one;
  drains = λ path one. first.drains path one ∙ second.drains path one;
  rules = λ path one. first.rules path one ∙ second.rules path one;
  limit = first.limit ∙ second.limit;
  strategy = first.strategy ∙ second.strategy;
}

-- numbers that are told equal
equal_numbers : (a b : ℕ) → (a == b) ≡ true → a ≡ b
equal_numbers a b e = (Decides-eqb a b).0 e

-- and those that are told to differ, the other way round
differ_back : (a b : ℕ) → (a == b) ≡ false → (b == a) ≡ false
differ_back a b e = elim (eqb_tells b a) [
  | inl same ↦ absurd (false≢true (sym e ∙ (Decides-eqb a b).1 (sym same.1)))
  | inr other ↦ other.0
]

-- what two states that agree in a class have pending of a path of it
pending_alike : (class : ℕ) (s t : State) (path : List ℕ) → SamePart class s t → class_of path ≡ class → s.pending (class_of path) ≡ t.pending (class_of path)
pending_alike class s t path same one = ap s.pending one ∙ same.pending ∙ ap t.pending (sym one)

pick_alike : (class : ℕ) (s t : State) → SamePart class s t → picked s class ≡ picked t class
pick_alike class s t same =
    ap (λ (strategy : Strategy). pick strategy (s.queue class) (s.pending class)) same.strategy
    ∙ ap (λ (queue : List (List ℕ)). pick t.strategy queue (s.pending class)) same.queue
    ∙ ap (λ (metrics : Metrics). pick t.strategy (t.queue class) metrics) same.pending

-- an entry about the class is legal in both
pub legal_alike : (class : ℕ) (s t : State) (e : Entry) → SamePart class s t → is_about class e ≡ true → IsLegal s e → IsLegal t e
legal_alike class s t (Put pass path time value Stored) same about legal =
    let there = pending_alike class s t path same (equal_numbers (class_of path) class about) in
    (legal.0, (subst (λ (ms : Metrics). has_time (points_of ms path) time ≡ false) there legal.1.0, subst (λ (n : ℕ). points_count (t.pending (class_of path)) < n) same.limit (subst (λ (ms : Metrics). points_count ms < s.limit) there legal.1.1)))
legal_alike class s t (Put pass path time value Replaced) same about legal =
    (legal.0, subst (λ (ms : Metrics). has_time (points_of ms path) time ≡ true) (pending_alike class s t path same (equal_numbers (class_of path) class about)) legal.1)
legal_alike class s t (Put pass path time value Full) same about legal =
    let there = pending_alike class s t path same (equal_numbers (class_of path) class about) in
    (legal.0, (subst (λ (ms : Metrics). has_time (points_of ms path) time ≡ false) there legal.1.0, subst (λ (n : ℕ). n ≤ points_count (t.pending (class_of path))) same.limit (subst (λ (ms : Metrics). s.limit ≤ points_count ms) there legal.1.1)))
legal_alike class s t (Drain pass path now) same about legal =
    let one = equal_numbers (class_of path) class about in
    sym (pick_alike (class_of path) s t (subst (λ (k : ℕ). SamePart k s t) (sym one) same)) ∙ legal
legal_alike class s t (Ask pass number try now) same about legal = tt
legal_alike class s t (Fault pass of_class) same about legal = tt

-- a put changes the class alike
put_alike : (class : ℕ) (s t : State) (path : List ℕ) (time : ℕ) (value : ℤ) → SamePart class s t → class_of path ≡ class
    → SamePart class (record s { pending = λ k. if k == class_of path then with_put (s.pending (class_of path)) path time value else s.pending k })
    (record t { pending = λ k. if k == class_of path then with_put (t.pending (class_of path)) path time value else t.pending k })
put_alike class s t path time value same one = record {
  pending = ap (λ (ms : Metrics). if class == class_of path then with_put ms path time value else s.pending class) (pending_alike class s t path same one)
      ∙ ap (λ (ms : Metrics). if class == class_of path then with_put (t.pending (class_of path)) path time value else ms) same.pending;
  queue = same.queue;
  kept = same.kept;
  drains = same.drains;
  rules = same.rules;
  limit = same.limit;
  strategy = same.strategy;
}

drained_kept : (class : ℕ) (s t : State) (path : List ℕ) (now : ℕ) → SamePart class s t → class_of path ≡ class
    → kept_after (s.rules path) (s.kept path) now (points_in s path) ≡ kept_after (t.rules path) (t.kept path) now (points_in t path)
drained_kept class s t path now same one =
    ap (λ (given : LayoutValue). kept_after given (s.kept path) now (points_in s path)) (same.rules path one)
    ∙ ap (λ (kept : Option Kept). kept_after (t.rules path) kept now (points_in s path)) (same.kept path one)
    ∙ ap (λ (ms : Metrics). kept_after (t.rules path) (t.kept path) now (points_of ms path)) (pending_alike class s t path same one)

-- an entry about the class changes it alike
pub after_alike : (class : ℕ) (s t : State) (e : Entry) → SamePart class s t → is_about class e ≡ true → SamePart class (after s e) (after t e)
after_alike class s t (Put pass path time value Stored) same about = put_alike class s t path time value same (equal_numbers (class_of path) class about)
after_alike class s t (Put pass path time value Replaced) same about = put_alike class s t path time value same (equal_numbers (class_of path) class about)
after_alike class s t (Put pass path time value Full) same about = same
after_alike class s t (Drain pass path now) same about =
    let one = equal_numbers (class_of path) class about in record {
      pending = ap (λ (ms : Metrics). if class == class_of path then remove_entry (bytes_eq path) ms else ms) same.pending;
      queue = ap (λ (strategy : Strategy). if class == class_of path then queue_after strategy (s.queue class) (s.pending class) else s.queue class) same.strategy
          ∙ ap (λ (queue : List (List ℕ)). if class == class_of path then queue_after t.strategy queue (s.pending class) else queue) same.queue
          ∙ ap (λ (ms : Metrics). if class == class_of path then queue_after t.strategy (t.queue class) ms else t.queue class) same.pending;
      kept = λ p here. ap (λ (kept : Kept). if bytes_eq p path then Some kept else s.kept p) (drained_kept class s t path now same one)
          ∙ ap (λ (kept : Option Kept). if bytes_eq p path then Some (kept_after (t.rules path) (t.kept path) now (points_in t path)) else kept) (same.kept p here);
      drains = λ p here. ap (λ (n : ℕ). if bytes_eq p path then suc n else n) (same.drains p here);
      rules = same.rules;
      limit = same.limit;
      strategy = same.strategy;
    }
after_alike class s t (Ask pass number try now) same about = same
after_alike class s t (Fault pass of_class) same about = same

-- two paths of different classes differ
paths_differ : (class : ℕ) (p path : List ℕ) → class_of p ≡ class → (class_of path == class) ≡ false → bytes_eq p path ≡ false
paths_differ class p path here other = by (bytes_eq p path) refl
  where
    by : (b : Bool) → bytes_eq p path ≡ b → bytes_eq p path ≡ false
    by false e = e
    by true e = absurd (false≢true (sym other ∙ (Decides-eqb (class_of path) class).1 (sym (ap class_of ((bytes_eq-Decides p path).0 e)) ∙ here)))

put_apart : (class : ℕ) (s : State) (path : List ℕ) (metrics : Metrics) → (class_of path == class) ≡ false → SamePart class (record s { pending = λ k. if k == class_of path then metrics else s.pending k }) s
put_apart class s path metrics other = record {
  pending = rw (differ_back (class_of path) class other) refl;
  queue = refl;
  kept = λ p one. refl;
  drains = λ p one. refl;
  rules = λ p one. refl;
  limit = refl;
  strategy = refl;
}

-- an entry that is not about the class leaves it
pub after_apart : (class : ℕ) (s : State) (e : Entry) → is_about class e ≡ false → SamePart class (after s e) s
after_apart class s (Put pass path time value Stored) other = put_apart class s path (with_put (s.pending (class_of path)) path time value) other
after_apart class s (Put pass path time value Replaced) other = put_apart class s path (with_put (s.pending (class_of path)) path time value) other
after_apart class s (Put pass path time value Full) other = same_part class s
after_apart class s (Drain pass path now) other = record {
  pending = rw (differ_back (class_of path) class other) refl;
  queue = rw (differ_back (class_of path) class other) refl;
  kept = λ p here. rw (paths_differ class p path here other) refl;
  drains = λ p here. rw (paths_differ class p path here other) refl;
  rules = λ p one. refl;
  limit = refl;
  strategy = refl;
}
after_apart class s (Ask pass number try now) other = same_part class s
after_apart class s (Fault pass of_class) other = same_part class s

-- ---- whole histories

-- one entry of a history, and of the part of it that is about the class
abbrev after_if : Bool → State → Entry → State
after_if true s e = after s e
after_if false s e = s

step_alike : (class : ℕ) (s t : State) (e : Entry) (b : Bool) → is_about class e ≡ b → SamePart class s t → SamePart class (after s e) (after_if b t e)
step_alike class s t e true about same = after_alike class s t e same about
step_alike class s t e false about same = same_both class (after s e) s t (after_apart class s e about) same

part_replayed : (class : ℕ) (t : State) (e : Entry) (others : List Entry) (b : Bool) → is_about class e ≡ b → replay t (about_class class (e ∷ others)) ≡ replay (after_if b t e) (about_class class others)
part_replayed class t e others true about = rw about refl
part_replayed class t e others false about = rw about refl

pub replay_alike : (class : ℕ) (s t : State) (h : List Entry) → SamePart class s t → SamePart class (replay s h) (replay t (about_class class h))
replay_alike class s t [] same = same
replay_alike class s t (e ∷ others) same =
    subst (λ (u : State). SamePart class (replay (after s e) others) u) (sym (part_replayed class t e others (is_about class e) refl))
    (replay_alike class (after s e) (after_if (is_about class e) t e) others (step_alike class s t e (is_about class e) refl same))

legal_step : (class : ℕ) (s t : State) (e : Entry) (others : List Entry) (b : Bool) → is_about class e ≡ b → SamePart class s t → IsLegal s e
    → IsLegalHistory (after_if b t e) (about_class class others) → IsLegalHistory t (about_class class (e ∷ others))
legal_step class s t e others true about same legal rest = rw about (legal_alike class s t e same about legal, rest)
legal_step class s t e others false about same legal rest = rw about rest

-- the part of a legal history that is about a class is legal
pub part_legal : (class : ℕ) (s t : State) (h : List Entry) → SamePart class s t → IsLegalHistory s h → IsLegalHistory t (about_class class h)
part_legal class s t [] same legal = tt
part_legal class s t (e ∷ others) same legal =
    legal_step class s t e others (is_about class e) refl same legal.0
    (part_legal class (after s e) (after_if (is_about class e) t e) others (step_alike class s t e (is_about class e) refl same) legal.1)

-- the first entry, and the others, of a part that is legal
first_legal : (class : ℕ) (t : State) (e : Entry) (others : List Entry) → is_about class e ≡ true → IsLegalHistory t (about_class class (e ∷ others)) → IsLegal t e
first_legal class t e others about legal = (subst (λ (es : List Entry). IsLegalHistory t es) (filtered about) legal).0
  where
    filtered : is_about class e ≡ true → about_class class (e ∷ others) ≡ e ∷ about_class class others
    filtered is = rw is refl

others_legal : (class : ℕ) (t : State) (e : Entry) (others : List Entry) (b : Bool) → is_about class e ≡ b → IsLegalHistory t (about_class class (e ∷ others)) → IsLegalHistory (after_if b t e) (about_class class others)
others_legal class t e others true about legal = (subst (λ (es : List Entry). IsLegalHistory t es) (filtered about) legal).1
  where
    filtered : is_about class e ≡ true → about_class class (e ∷ others) ≡ e ∷ about_class class others
    filtered is = rw is refl
others_legal class t e others false about legal = subst (λ (es : List Entry). IsLegalHistory t es) (filtered about) legal
  where
    filtered : is_about class e ≡ false → about_class class (e ∷ others) ≡ about_class class others
    filtered is = rw is refl

-- an entry is legal where it is in the part of its class
entry_legal : (s : State) (t : ℕ → State) (e : Entry) (others : List Entry) → ((class : ℕ) → SamePart class s (t class)) → ((class : ℕ) → IsLegalHistory (t class) (about_class class (e ∷ others))) → IsLegal s e
entry_legal s t (Put pass path time value end) others same legal =
    let k = class_of path in
    let about = (Decides-eqb k k).1 refl in
    legal_alike k (t k) s (Put pass path time value end) (same_sym k s (t k) (same k)) about (first_legal k (t k) (Put pass path time value end) others about (legal k))
entry_legal s t (Drain pass path now) others same legal =
    let k = class_of path in
    let about = (Decides-eqb k k).1 refl in
    legal_alike k (t k) s (Drain pass path now) (same_sym k s (t k) (same k)) about (first_legal k (t k) (Drain pass path now) others about (legal k))
entry_legal s t (Ask pass number try now) others same legal = tt
entry_legal s t (Fault pass of_class) others same legal = tt

-- a history is legal where the part of each class is
pub parts_legal : (s : State) (t : ℕ → State) (h : List Entry) → ((class : ℕ) → SamePart class s (t class)) → ((class : ℕ) → IsLegalHistory (t class) (about_class class h)) → IsLegalHistory s h
parts_legal s t [] same legal = tt
parts_legal s t (e ∷ others) same legal = (
  entry_legal s t e others same legal,
  parts_legal (after s e) (λ class. after_if (is_about class e) (t class) e) others
      (λ class. step_alike class s (t class) e (is_about class e) refl (same class))
      (λ class. others_legal class (t class) e others (is_about class e) refl (legal class)),
)
