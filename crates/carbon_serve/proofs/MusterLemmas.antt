-- Passes that come back, one after the other.
use Rattle.std.proofs.Common.{◌≡◌, ◌⊎◌, inl, inr, ◌∙◌, ◌||◌, ◌≤◌, ◌+◌, Bool, true, false, List, [], ◌∷◌, ◌++◌, refl, sym, ap, subst, arith, append-nil, append_assoc, length-append}
use Rattle.std.specs.Prelude.{reverse}
use Rattle.std.specs.List.{list_any}
use Rattle.std.proofs.lemmas.List.Elements.{All-append, All-cons, All-nil, All-weaker}
use Rattle.std.proofs.lemmas.List.Folds.{list_any-append}
use mathlib.Core.List.{IsPrefix}
use Rattle.carbon_history.specs.declared.entry.Entry.{Entry}
use Rattle.shared_history.specs.Parts.{PassValue, own_entries, pass_seeing}
use Rattle.shared_history.proofs.ListLemmas.{prefix_self}
use Rattle.carbon_serve.specs.Crews.{Adds, HasLearned, MusterValue, Musters, OnlySaw, lacks_room, pass_list, passes_of}
use Rattle.carbon_serve.specs.declared.workers.Worker.{Worker}
use Rattle.carbon_serve.proofs.PassLemmas.{prefix_on}
use Rattle.carbon_serve.proofs.OrderLemmas.{last_first}

-- ---- the crew's own pass

-- a pass that has seen the longer of what it had seen and of what it was told
pub only_learned : (list : List Entry) (old new : PassValue) → (new ≡ old) ⊎ (new ≡ pass_seeing old list) → IsPrefix old.seen new.seen → own_entries new ≡ own_entries old → OnlySaw old new
only_learned list old new (inl same) begins own =
    record { table = ap (λ (pass : PassValue). pass.table) same; number = ap (λ (pass : PassValue). pass.number) same; begins = begins; none = own }
only_learned list old new (inr told) begins own =
    record { table = ap (λ (pass : PassValue). pass.table) told; number = ap (λ (pass : PassValue). pass.number) told; begins = begins; none = own }

saw_none : (pass : PassValue) → OnlySaw pass pass
saw_none pass = record { table = refl; number = refl; begins = prefix_self pass.seen; none = refl }

saw_then : (a b c : PassValue) → OnlySaw a b → OnlySaw b c → OnlySaw a c
saw_then a b c first next = record {
  table = next.table ∙ first.table;
  number = next.number ∙ first.number;
  begins = prefix_on a.seen b.seen c.seen first.begins next.begins;
  none = next.none ∙ first.none;
}

-- what it has learned stays
still_learned : (a b : PassValue) (passes : List PassValue) → OnlySaw a b → HasLearned a passes → HasLearned b passes
still_learned a b passes saw =
    All-weaker (λ (pass : PassValue). IsPrefix pass.seen a.seen) (λ (pass : PassValue). IsPrefix pass.seen b.seen)
    (λ pass begins. prefix_on pass.seen a.seen b.seen begins saw.begins) passes

-- ---- passes that came to those that were there

or_none : (b : Bool) → b ≡ (b || false)
or_none true = refl
or_none false = refl

or_assoc : (a b c : Bool) → ((a || b) || c) ≡ (a || (b || c))
or_assoc true b c = refl
or_assoc false b c = refl

pub adds_none : (muster : MusterValue) → Adds [] muster muster
adds_none muster = record {
  served = sym (append-nil muster.served);
  learned = All-nil (λ (pass : PassValue). IsPrefix pass.seen muster.own.seen);
  own = saw_none muster.own;
  spent = or_none muster.is_spent;
  places = omega arith;
}

pub adds_one : (pass : PassValue) (old new : MusterValue) → new.served ≡ old.served ++ pass ∷ [] → IsPrefix pass.seen new.own.seen → OnlySaw old.own new.own
    → new.is_spent ≡ (old.is_spent || lacks_room pass) → old.places ≤ new.places + 1 → Adds (pass ∷ []) old new
adds_one pass old new served learned own spent places = record {
  served = served;
  learned = All-cons (λ (p : PassValue). IsPrefix p.seen new.own.seen) pass [] learned (All-nil (λ (p : PassValue). IsPrefix p.seen new.own.seen));
  own = own;
  spent = spent ∙ ap (λ (b : Bool). old.is_spent || b) (or_none (lacks_room pass));
  places = places;
}

pub adds_then : (xs ys : List PassValue) (a b c : MusterValue) → Adds xs a b → Adds ys b c → Adds (xs ++ ys) a c
adds_then xs ys a b c first next = record {
  served = next.served ∙ (ap (λ (ps : List PassValue). ps ++ ys) first.served ∙ append_assoc a.served xs ys);
  learned = All-append (λ (pass : PassValue). IsPrefix pass.seen c.own.seen) xs ys (still_learned b.own c.own xs next.own first.learned) next.learned;
  own = saw_then a.own b.own c.own first.own next.own;
  spent = next.spent ∙ (ap (λ (s : Bool). s || list_any lacks_room ys) first.spent
      ∙ (or_assoc a.is_spent (list_any lacks_room xs) (list_any lacks_room ys) ∙ ap (λ (s : Bool). a.is_spent || s) (sym (list_any-append lacks_room xs ys))));
  places = omega (arith, first.places, next.places, length-append xs ys);
}

-- ---- the passes of workers, the last one's first

-- those behind these workers were added, of all that there were
pub record AddsBehind (workers all : List Worker) (old new : MusterValue) : Type 0 where
  pub added : List PassValue
  pub split : added ++ reverse (passes_of workers) ≡ reverse (passes_of all)
  pub adds : Adds added old new

pub behind_none : (workers : List Worker) (muster : MusterValue) → AddsBehind workers workers muster muster
behind_none workers muster = record { added = []; split = refl; adds = adds_none muster }

pub behind_more : (whole workers all : List Worker) (worker : Worker) (old mid new : MusterValue) → whole ≡ workers ++ worker ∷ [] → AddsBehind whole all old mid → Adds (pass_list worker.pass) mid new
    → AddsBehind workers all old new
behind_more whole workers all worker old mid new is behind adds = record {
  added = behind.added ++ pass_list worker.pass;
  split = append_assoc behind.added (pass_list worker.pass) (reverse (passes_of workers))
      ∙ (ap (λ (ps : List PassValue). behind.added ++ ps) (sym (last_first workers worker))
      ∙ (ap (λ (ws : List Worker). behind.added ++ reverse (passes_of ws)) (sym is) ∙ behind.split));
  adds = adds_then behind.added (pass_list worker.pass) old mid new behind.adds adds;
}

pub behind_all : (workers all : List Worker) (old new : MusterValue) → workers ≡ [] → AddsBehind workers all old new → Adds (reverse (passes_of all)) old new
behind_all workers all old new none behind =
    subst (λ (ps : List PassValue). Adds ps old new)
    (sym (append-nil behind.added) ∙ (ap (λ (ws : List Worker). behind.added ++ reverse (passes_of ws)) (sym none) ∙ behind.split)) behind.adds

-- a crew that mustered
pub mustered : (passes : List PassValue) (own : PassValue) (first new : MusterValue) → first.served ≡ [] → first.own ≡ own → first.is_spent ≡ false → Adds passes first new → Musters passes own new
mustered passes own first new none same unspent all = record {
  served = all.served ∙ ap (λ (ps : List PassValue). ps ++ passes) none;
  learned = all.learned;
  own = subst (λ (pass : PassValue). OnlySaw pass new.own) same all.own;
  spent = all.spent ∙ ap (λ (b : Bool). b || list_any lacks_room passes) unspent;
}
