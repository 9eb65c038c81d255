-- What each pass that comes back did, as a part of the whole history.
use Rattle.std.proofs.Common.{◌≡◌, ◌∙◌, ℕ, ◌<◌, ◌+◌, List, [], ◌∷◌, ◌++◌, length, Some, sym, ap, subst, arith}
use Rattle.std.specs.Prelude.{get_or, slice_get}
use Rattle.std.proofs.lemmas.Option.{slice_get-get_or}
use Rattle.atomic_table.specs.Seated.{TableId}
use Rattle.carbon_history.specs.declared.entry.Entry.{Entry}
use Rattle.carbon_history.specs.Entries.{of_pass}
use Rattle.shared_history.specs.Parts.{AllSeen, AreNewPasses, HasSeen, IsNewPass, PassValue}
use Rattle.http_front.specs.Origin.{Origin}
use Rattle.carbon_serve.specs.Courses.{CourseOf}
use Rattle.carbon_serve.specs.Crews.{AllDid, AllWent, role_of}
use Rattle.carbon_serve.specs.Deeds.{Did, Telling}
use Rattle.carbon_serve.specs.declared.crew.Duties.{Duties}
use Rattle.carbon_serve.proofs.PassLemmas.{Returned, returned, slice_front, went_at}

pub courses : {L : Type 0} (links : Telling L) (w : Origin) (duties : Duties) (table : TableId) (before served : List PassValue) (own0 own2 : PassValue) (history : List Entry)
    → AreNewPasses table (before ++ own0 ∷ []) → AllWent w.moments w.start before served → AllDid links w duties before served → AllSeen history (served ++ own2 ∷ [])
    → length served + 1 ≡ w.passes → (number : ℕ) → number + 1 < w.passes → CourseOf links w duties number history
courses links w duties table before served own0 own2 history new went did seen all number few =
    let within : number < length served = omega (arith, few, all) in
    let p : PassValue = get_or served number own2 in
    let at : slice_get served number ≡ Some p = slice_get-get_or served number own2 within in
    let found = went_at (λ before after. Did links w (role_of before.number duties) before after) before served did number p at in
    let b : PassValue = found.0 in
    let fresh : IsNewPass table number b = new number b (slice_front before (own0 ∷ []) number b found.1.0) in
    let back : Returned table w.moments number p = returned table w.moments w.start before (own0 ∷ []) served new went number p at in
    let same : HasSeen history p = seen number p (slice_front served (own2 ∷ []) number p at) in record {
      table = table;
      fresh = b;
      pass = p;
      new = fresh;
      same = back.place;
      begins = same.begins;
      own = sym same.own ∙ ap (λ (n : ℕ). of_pass n history) back.place;
      did = subst (λ (n : ℕ). Did links w (role_of n duties) b p) fresh.place found.1.1;
    }
