-- Legal histories and their fronts.
use Rattle.std.proofs.Common.{◌≡◌, List, [], ◌∷◌, ◌++◌, refl}
use Rattle.carbon_history.specs.declared.entry.Entry.{Entry}
use Rattle.carbon_model.specs.State.{State}
use Rattle.carbon_model.specs.Replay.{IsLegal, IsLegalHistory, after, replay}

pub legal_parts : (s : State) (front rest : List Entry) → IsLegalHistory s (front ++ rest) → IsLegalHistory s front × IsLegalHistory (replay s front) rest
legal_parts s [] rest legal = (tt, legal)
legal_parts s (entry ∷ others) rest legal =
    let parts = legal_parts (after s entry) others rest legal.1 in
    ((legal.0, parts.0), parts.1)

pub replay-append : (s : State) (front rest : List Entry) → replay s (front ++ rest) ≡ replay (replay s front) rest
replay-append s [] rest = refl
replay-append s (entry ∷ others) rest = replay-append (after s entry) others rest

-- a history with one more legal entry
pub legal_more : (s : State) (entries : List Entry) (entry : Entry) → IsLegalHistory s entries → IsLegal (replay s entries) entry → IsLegalHistory s (entries ++ entry ∷ [])
legal_more s [] entry legal here = (here, tt)
legal_more s (first ∷ others) entry legal here = (legal.0, legal_more (after s first) others entry legal.1 here)
