-- What the lock of a desk keeps stays so with a put more.
use Rattle.std.proofs.Common.{◌≡◌, ◌∙◌, ◌<◌, ℕ, ℤ, cond, false, List, [], ◌∷◌, ◌++◌, Option, None, IfSome, refl, sym, ap, subst, arith, append_assoc}
use Rattle.std.specs.Prelude.{filter}
use Rattle.std.proofs.lemmas.List.Elements.{filter-append}
use Rattle.std.proofs.lemmas.Bool.{eq-eqb, false≢true}
use Rattle.atomic_table.specs.Seated.{TableId}
use Rattle.outside_io.specs.Image.{Image}
use Rattle.metric_path.specs.Class.{class_of}
use Rattle.point_cache.specs.declared.put.Put.{Put}
use Rattle.point_cache.specs.declared.put.Put.TheVariants as put
use Rattle.carbon_history.specs.declared.entry.Entry.{Entry}
use Rattle.carbon_history.specs.declared.entry.Entry.TheVariants as entry
use Rattle.carbon_history.specs.declared.entry.PutEnd.TheVariants as end
use Rattle.carbon_model.specs.State.{SamePart, State}
use Rattle.carbon_model.specs.Replay.{after, replay}
use Rattle.carbon_model.proofs.PartLemmas.{legal_alike, replay_alike, same_part, same_sym}
use Rattle.shard_core.specs.Halves.{DeskInside, FilesInside, both}
use Rattle.shard_core.specs.Puts.{DeskTakes}
use Rattle.shard_core.specs.Shard.{Holds}
use Rattle.shared_history.specs.Parts.{PassValue, TailValue, tail_with}
use Rattle.class_halves.specs.Parts.{HalfValue}
use Rattle.shared_store.specs.Locks.{HoldsDesk, KeepsDesk, OnlyPuts, is_late}
use Rattle.shared_store.specs.Passes.{HasRoom}
use Rattle.shared_store.specs.Steps.{AfterPut, put_entry}
use Rattle.shared_store.specs.Tails.{MayTell, Tells, tail_told}
use Rattle.shared_store.proofs.ClassLemmas.{replay_with}

-- files that tell nothing
abbrev pub untold : ℕ → FilesInside
untold class = record { class = class; shelf = None; steps = 0; log = None; known = None }

-- with such files a desk is a shard that stands for the state
pub with_untold : (desk : DeskInside) (s : State) → HoldsDesk desk s → Holds None (both desk (untold desk.class)) s
with_untold desk s h = record {
  pending = h.pending;
  queue = h.queue;
  kept = record { layouts = h.layouts; files = tt };
  drains = h.drains;
  rules = h.rules;
  limit = h.limit;
  strategy = h.strategy;
}

pub desk_part : (told : Option Image) (desk : DeskInside) (files : FilesInside) (s : State) → Holds told (both desk files) s → HoldsDesk desk s
desk_part told desk files s h = record {
  pending = h.pending;
  queue = h.queue;
  layouts = h.kept.layouts;
  drains = h.drains;
  rules = h.rules;
  limit = h.limit;
  strategy = h.strategy;
}

pub only_one : (then now : List Entry) (e : Entry) → is_late e ≡ false → OnlyPuts then now → OnlyPuts then (now ++ e ∷ [])
only_one then now e is o = record {
  more = o.more ++ e ∷ [];
  list = ap (λ (l : List Entry). l ++ e ∷ []) o.list ∙ append_assoc then o.more (e ∷ []);
  puts = filter-append is_late o.more (e ∷ []) ∙ (ap (λ (l : List Entry). l ++ filter is_late (e ∷ [])) o.puts ∙ ap (λ b. cond b (e ∷ []) []) is);
}

module _ (table : TableId) (half_of : ℕ → TableId) (start : State) (desk new : DeskInside) (half : HalfValue) (tail : TailValue)
    (path : List ℕ) (time : ℕ) (value : ℤ) (keeps : KeepsDesk table half_of start desk half tail) where
  holds : Holds None (both desk (untold desk.class)) (replay start tail.list)
  holds = with_untold desk (replay start tail.list) keeps.holds

  keeps_by : (e : Entry) → is_late e ≡ false → new.class ≡ desk.class → Holds None (both new (untold desk.class)) (after (replay start tail.list) e)
      → KeepsDesk table half_of start new half (tail_with tail e)
  keeps_by e early class h = record {
    same = keeps.same;
    class = keeps.class ∙ sym class;
    within = subst (λ (k : ℕ). k < 16) (sym class) keeps.within;
    tied = keeps.tied ∙ ap half_of (sym class);
    holds = subst (HoldsDesk new) (sym (replay_with start tail.list e)) (desk_part None new (untold desk.class) (after (replay start tail.list) e) h);
    since = only_one half.stand.list tail.list e early keeps.since;
    settled = keeps.settled;
    runs = keeps.runs;
  }

  pub keeps_put : (pass : ℕ) (put : Put) → DeskTakes desk new path time value put → new.class ≡ desk.class
      → KeepsDesk table half_of start new half (tail_told tail (put_entry pass path time value put))
  keeps_put pass put.Stored takes class =
      keeps_by (entry.Put pass path time value end.Stored) refl class (takes (untold desk.class) None (replay start tail.list) holds pass).1
  keeps_put pass put.Replaced takes class =
      keeps_by (entry.Put pass path time value end.Replaced) refl class (takes (untold desk.class) None (replay start tail.list) holds pass).1
  keeps_put pass put.Full takes class =
      keeps_by (entry.Put pass path time value end.Full) refl class (takes (untold desk.class) None (replay start tail.list) holds pass).1
  keeps_put pass put.NoMemory takes class = record {
    same = keeps.same;
    class = keeps.class ∙ sym class;
    within = subst (λ (k : ℕ). k < 16) (sym class) keeps.within;
    tied = keeps.tied ∙ ap half_of (sym class);
    holds = desk_part None new (untold desk.class) (replay start tail.list) (takes (untold desk.class) None (replay start tail.list) holds pass).1;
    since = keeps.since;
    settled = keeps.settled;
    runs = keeps.runs;
  }

  pub put_may : (pass : PassValue) (put : Put) → HasRoom pass → class_of path ≡ tail.class → DeskTakes desk new path time value put
      → IfSome (put_entry pass.number path time value put) (MayTell start pass tail)
  put_may pass put.Stored room here takes = record {
    may = record { about = eq-eqb (class_of path) tail.class here; room = omega (arith, room); settled = λ is. absurd (false≢true is) };
    legal = (takes (untold desk.class) None (replay start tail.list) holds pass.number).0;
  }
  put_may pass put.Replaced room here takes = record {
    may = record { about = eq-eqb (class_of path) tail.class here; room = omega (arith, room); settled = λ is. absurd (false≢true is) };
    legal = (takes (untold desk.class) None (replay start tail.list) holds pass.number).0;
  }
  put_may pass put.Full room here takes = record {
    may = record { about = eq-eqb (class_of path) tail.class here; room = omega (arith, room); settled = λ is. absurd (false≢true is) };
    legal = (takes (untold desk.class) None (replay start tail.list) holds pass.number).0;
  }
  put_may pass put.NoMemory room here takes = tt

  pub after_put : (passes : ℕ) (put : Put) (old now : PassValue) → class_of path ≡ tail.class → DeskTakes desk new path time value put
      → Tells start passes tail (put_entry old.number path time value put) old now → AfterPut start path time value put now
  after_put passes put.Stored old now here takes tells = tt
  after_put passes put.Replaced old now here takes tells = tt
  after_put passes put.Full old now here takes tells = tt
  after_put passes put.NoMemory old now here takes tells =
      let alike : SamePart tail.class (replay start now.seen) (replay start tail.list) =
      subst (λ (l : List Entry). SamePart tail.class (replay start now.seen) (replay start l)) tells.class
      (replay_alike tail.class start start now.seen (same_part tail.class start)) in
      legal_alike tail.class (replay start tail.list) (replay start now.seen) (entry.Put now.number path time value end.Stored)
      (same_sym tail.class (replay start now.seen) (replay start tail.list) alike) (eq-eqb (class_of path) tail.class here)
      (takes (untold desk.class) None (replay start tail.list) holds now.number).0
