-- The passes of workers, in order of their numbers.
use Rattle.std.proofs.Common.{◌≡◌, ◌∙◌, ℕ, suc, ◌<◌, ◌≤◌, List, [], ◌∷◌, ◌++◌, length, take, drop, Option, Some, None, IfSome, refl, sym, ap, subst, arith, append-nil, append_assoc, length-append}
use Rattle.std.specs.Prelude.{All, get_or, reverse}
use Rattle.std.specs.List.{AllZip}
use Rattle.std.proofs.lemmas.List.{length-reverse, reverse-append}
use Rattle.std.proofs.lemmas.List.Elements.{All-cons, All-head, All-nil, All-tail, AllZip-push}
use Rattle.atomic_table.specs.Seated.{TableId}
use Rattle.carbon_model.specs.State.{State}
use Rattle.shared_history.specs.Parts.{PassValue}
use Rattle.http_front.specs.Origin.{Origin}
use Rattle.carbon_serve.specs.Workers.{AllWork, IsReady, Works, WorksBy}
use Rattle.carbon_serve.specs.Crews.{AllDid, AllWent, HasRole, in_order, pass_list, passes_of, role_of}
use Rattle.carbon_serve.specs.Deeds.{AllDo, Did, DidBy, Telling}
use Rattle.carbon_serve.specs.declared.crew.Duties.{Duties}
use Rattle.carbon_serve.specs.declared.workers.Role.{Role}
use Rattle.carbon_serve.specs.declared.workers.Worker.{Worker}

-- ---- a worker more

passes_more : (workers : List Worker) (worker : Worker) → passes_of (workers ++ worker ∷ []) ≡ passes_of workers ++ pass_list worker.pass
passes_more [] worker = append-nil (pass_list worker.pass)
passes_more (first ∷ workers) worker =
    ap (λ (ps : List PassValue). pass_list first.pass ++ ps) (passes_more workers worker)
    ∙ sym (append_assoc (pass_list first.pass) (passes_of workers) (pass_list worker.pass))

one_reversed : (pass : Option PassValue) → reverse (pass_list pass) ≡ pass_list pass
one_reversed None = refl
one_reversed (Some pass) = refl

-- the last worker's pass comes first
pub last_first : (workers : List Worker) (worker : Worker) → reverse (passes_of (workers ++ worker ∷ [])) ≡ pass_list worker.pass ++ reverse (passes_of workers)
last_first workers worker =
    ap reverse (passes_more workers worker)
    ∙ (reverse-append (passes_of workers) (pass_list worker.pass) ∙ ap (λ (ps : List PassValue). ps ++ reverse (passes_of workers)) (one_reversed worker.pass))

pub one_at_most : (pass : Option PassValue) → length (pass_list pass) ≤ 1
one_at_most None = omega arith
one_at_most (Some pass) = omega arith

passes_few : (workers : List Worker) → length (passes_of workers) ≤ length workers
passes_few [] = omega arith
passes_few (worker ∷ workers) =
    omega (arith, one_at_most worker.pass, passes_few workers, length-append (pass_list worker.pass) (passes_of workers))

-- there are no more passes than workers
pub reversed_few : (workers : List Worker) → length (reverse (passes_of workers)) ≤ length workers
reversed_few workers = omega (arith, passes_few workers, length-reverse (passes_of workers))

pub none_there : {X : Type 0} (xs : List X) → length xs ≡ 0 → xs ≡ []
none_there [] none = refl
none_there (x ∷ xs) none = absurd (omega (arith, none))

-- what is written back to a list of the same length is the whole of it
pub taken_back : {X : Type 0} (xs ys : List X) → length xs ≡ length ys → take (length ys) (xs ++ drop (length xs) ys) ≡ xs
taken_back [] [] same = refl
taken_back [] (y ∷ ys) same = absurd (omega (arith, same))
taken_back (x ∷ xs) [] same = absurd (omega (arith, same))
taken_back (x ∷ xs) (y ∷ ys) same = ap (λ l. x ∷ l) (taken_back xs ys (omega (arith, same)))

-- a pass that makes a worker more
pub worker_more : (whole rest all : List PassValue) (pass : PassValue) (workers : List Worker) (worker : Worker) → whole ≡ rest ++ pass ∷ [] → worker.pass ≡ Some pass
    → whole ++ reverse (passes_of workers) ≡ all → rest ++ reverse (passes_of (workers ++ worker ∷ [])) ≡ all
worker_more whole rest all pass workers worker is has before =
    ap (λ (ps : List PassValue). rest ++ ps) (last_first workers worker)
    ∙ (ap (λ (o : Option PassValue). rest ++ (pass_list o ++ reverse (passes_of workers))) has
    ∙ (sym (append_assoc rest (pass ∷ []) (reverse (passes_of workers))) ∙ (ap (λ (ps : List PassValue). ps ++ reverse (passes_of workers)) (sym is) ∙ before)))

-- ---- what holds of all

pub all_front : {X : Type 0} (P : X → Type 0) (xs ys : List X) → All P (xs ++ ys) → All P xs
all_front P [] ys all = All-nil P
all_front P (x ∷ xs) ys all = All-cons P x xs (All-head P x (xs ++ ys) all) (all_front P xs ys (All-tail P x (xs ++ ys) all))

pub all_behind : {X : Type 0} (P : X → Type 0) (xs ys : List X) → All P (xs ++ ys) → All P ys
all_behind P [] ys all = all
all_behind P (x ∷ xs) ys all = all_behind P xs ys (All-tail P x (xs ++ ys) all)

all_reversed : {X : Type 0} (P : X → Type 0) (xs : List X) → All P (reverse xs) → All P xs
all_reversed P [] all = All-nil P
all_reversed {X} P (x ∷ xs) all =
    let apart : All P (reverse xs ++ x ∷ []) = subst (λ (ys : List X). All P ys) (reverse-append (x ∷ []) xs) all in
    All-cons P x xs (All-head P x [] (all_behind P (reverse xs) (x ∷ []) apart)) (all_reversed P xs (all_front P (reverse xs) (x ∷ []) apart))

abbrev OfTable : TableId → PassValue → Type 0
OfTable table pass = pass.table ≡ table

one_ready : (table : TableId) (pass : Option PassValue) (others : List PassValue) → All (OfTable table) (pass_list pass ++ others) → IfSome pass (OfTable table)
one_ready table None others all = tt
one_ready table (Some pass) others all = All-head (OfTable table) pass others all

each_ready : (table : TableId) (workers : List Worker) → All (OfTable table) (passes_of workers) → All (IsReady table) workers
each_ready table [] all = All-nil (IsReady table)
each_ready table (worker ∷ workers) all =
    All-cons (IsReady table) worker workers (one_ready table worker.pass (passes_of workers) all)
    (each_ready table workers (all_behind (OfTable table) (pass_list worker.pass) (passes_of workers) all))

-- all workers are ready whose passes are of the table
pub all_ready : (table : TableId) (workers : List Worker) → All (OfTable table) (in_order workers) → All (IsReady table) workers
all_ready table workers all = each_ready table workers (all_reversed (OfTable table) (passes_of workers) all)

-- ---- work

zip_reversed : {X : Type 0} (R : X → X → Type 0) (xs ys : List X) → AllZip R xs ys → AllZip R (reverse xs) (reverse ys)
zip_reversed R [] [] zip = tt
zip_reversed R [] (y ∷ ys) zip = absurd zip
zip_reversed R (x ∷ xs) [] zip = absurd zip
zip_reversed {X} R (x ∷ xs) (y ∷ ys) zip =
    subst (λ (zs : List X). AllZip R zs (reverse (y ∷ ys))) (sym (reverse-append (x ∷ []) xs))
    (subst (λ (zs : List X). AllZip R (reverse xs ++ x ∷ []) zs) (sym (reverse-append (y ∷ []) ys))
    (AllZip-push R (reverse xs) (reverse ys) x y (zip_reversed R xs ys zip.1) zip.0))

zip_front : (moments : ℕ → Type 0) (start : State) (old new : Option PassValue) (xs ys : List PassValue) → WorksBy moments start old new → AllWent moments start xs ys
    → AllWent moments start (pass_list old ++ xs) (pass_list new ++ ys)
zip_front moments start None None xs ys works zip = zip
zip_front moments start None (Some new) xs ys works zip = absurd cc
zip_front moments start (Some old) None xs ys works zip = absurd works
zip_front moments start (Some old) (Some new) xs ys works zip = (works, zip)

passes_went : (moments : ℕ → Type 0) (start : State) (old new : List Worker) → AllWork moments start old new → AllWent moments start (passes_of old) (passes_of new)
passes_went moments start [] [] all = tt
passes_went moments start [] (worker ∷ workers) all = absurd (omega (arith, all.count))
passes_went moments start (worker ∷ workers) [] all = absurd (omega (arith, all.count))
passes_went moments start (worker ∷ workers) (worker' ∷ workers') all =
    zip_front moments start worker.pass worker'.pass (passes_of workers) (passes_of workers') (all.each 0 (omega arith) worker)
    (passes_went moments start workers workers' (record {
      count = omega (arith, all.count);
      each = λ k few d. all.each (suc k) (omega (arith, few)) d;
    }))

-- all passes went on where those of the workers did
pub all_went : (moments : ℕ → Type 0) (start : State) (old new : List Worker) → AllWork moments start old new → AllWent moments start (in_order old) (in_order new)
all_went moments start old new all = zip_reversed (Works moments start) (passes_of old) (passes_of new) (passes_went moments start old new all)

-- ---- roles

-- what a worker does by its pass is what its number says
did_front : {L : Type 0} (links : Telling L) (w : Origin) (duties : Duties) (does : Role) (old new : Option PassValue) (xs ys : List PassValue) → IfSome old (λ pass. does ≡ role_of pass.number duties)
    → DidBy links w does old new → AllDid links w duties xs ys → AllDid links w duties (pass_list old ++ xs) (pass_list new ++ ys)
did_front links w duties does None None xs ys has did zip = zip
did_front links w duties does None (Some new) xs ys has did zip = absurd cc
did_front links w duties does (Some old) None xs ys has did zip = absurd did
did_front links w duties does (Some old) (Some new) xs ys has did zip = (subst (λ (r : Role). Did links w r old new) has did, zip)

passes_did : {L : Type 0} (links : Telling L) (w : Origin) (duties : Duties) (old new : List Worker) → All (HasRole duties) old → AllDo links w old new
    → AllDid links w duties (passes_of old) (passes_of new)
passes_did links w duties [] [] roles all = tt
passes_did links w duties [] (worker ∷ workers) roles all = absurd (omega (arith, all.count))
passes_did links w duties (worker ∷ workers) [] roles all = absurd (omega (arith, all.count))
passes_did links w duties (worker ∷ workers) (worker' ∷ workers') roles all =
    did_front links w duties worker.role worker.pass worker'.pass (passes_of workers) (passes_of workers') (All-head (HasRole duties) worker workers roles)
    (all.each 0 (omega arith) worker).did
    (passes_did links w duties workers workers' (All-tail (HasRole duties) worker workers roles) (record {
      count = omega (arith, all.count);
      each = λ k few d. all.each (suc k) (omega (arith, few)) d;
    }))

-- each pass did what its number says, where each worker did what its role says and has the role of that number
pub all_did : {L : Type 0} (links : Telling L) (w : Origin) (duties : Duties) (old new : List Worker) → All (HasRole duties) old → AllDo links w old new → AllDid links w duties (in_order old) (in_order new)
all_did links w duties old new roles all =
    zip_reversed (λ before after. Did links w (role_of before.number duties) before after) (passes_of old) (passes_of new) (passes_did links w duties old new roles all)

role_stays : (moments : ℕ → Type 0) (start : State) (duties : Duties) (does does' : Role) (old new : Option PassValue) → IfSome old (λ pass. does ≡ role_of pass.number duties) → does' ≡ does
    → WorksBy moments start old new → IfSome new (λ pass. does' ≡ role_of pass.number duties)
role_stays moments start duties does does' None new has same works =
    subst (λ (o : Option PassValue). IfSome o (λ pass. does' ≡ role_of pass.number duties)) (sym works) tt
role_stays moments start duties does does' (Some old) None has same works = absurd works
role_stays moments start duties does does' (Some old) (Some new) has same works =
    same ∙ (has ∙ ap (λ (number : ℕ). role_of number duties) (sym works.number))

-- a worker that worked has the role of its number still
pub roles_stay : {L : Type 0} (links : Telling L) (w : Origin) (moments : ℕ → Type 0) (start : State) (duties : Duties) (old new : List Worker) → All (HasRole duties) old → AllDo links w old new
    → AllWork moments start old new → All (HasRole duties) new
roles_stay links w moments start duties old new roles all work k d few =
    let less : k < length old = omega (arith, few, all.count) in
    role_stays moments start duties (get_or old k d).role (get_or new k d).role (get_or old k d).pass (get_or new k d).pass (roles k d less) (all.each k less d).same (work.each k less d)
