-- Deeds that are taken back.
use Rattle.std.proofs.Common.{◌≡◌, ◌++◌, List, [], ◌∷◌, refl, sym, subst}
use Rattle.aggregate_front.specs.declared.deed.Deed.{Deed}
use Rattle.aggregate_front.specs.Emitting.{Did, DidAll, Held}

pub did_push : (old mid new : Held) (deeds : List Deed) (deed : Deed) → DidAll old mid deeds → Did mid new deed → DidAll old new (deeds ++ deed ∷ [])
did_push old mid new [] deed all one = (new, subst (λ h. Did h new deed) all one, refl)
did_push old mid new (d ∷ deeds) deed all one = (all.0, all.1, did_push all.0 mid new deeds deed all.2 one)

pub did_split : (old new : Held) (deeds : List Deed) (deed : Deed) → DidAll old new (deeds ++ deed ∷ []) → (mid : Held) × DidAll old mid deeds × Did mid new deed
did_split old new [] deed all = (old, refl, subst (λ h. Did old h deed) (sym all.2) all.1)
did_split old new (d ∷ deeds) deed all =
    let rest = did_split all.0 new deeds deed all.2 in
    (rest.0, (all.0, all.1, rest.1), rest.2)

-- the last deed of all, where it is taken back first
pub did_last : (old new : Held) (deeds rest : List Deed) (deed : Deed) → deeds ≡ rest ++ deed ∷ [] → DidAll old new deeds → (mid : Held) × DidAll old mid rest × Did mid new deed
did_last old new deeds rest deed same all = did_split old new rest deed (subst (DidAll old new) same all)

pub did_same : (old new mid : Held) (deeds rest : List Deed) (deed : Deed) → deeds ≡ rest ++ deed ∷ [] → ((before : Held) → Did before new deed → mid ≡ before)
    → DidAll old new deeds → DidAll old mid rest
did_same old new mid deeds rest deed same undone all =
    let last = did_last old new deeds rest deed same all in
    subst (λ (h : Held). DidAll old h rest) (sym (undone last.0 last.2)) last.1
