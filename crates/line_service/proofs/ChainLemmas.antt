-- Lines that are served one after the other.
use Rattle.std.proofs.Common.{List, [], ◌∷◌, ◌++◌, refl, sym, subst}
use Rattle.line_frame.specs.Lines.{Line}
use Rattle.line_service.specs.Service.{Chain}

-- no line
pub chain_none : {P : Type 0} (step : P → Line → P → Type 0) (now : P) → Chain step now [] now
chain_none step now = refl

-- some lines, and then others
pub chain_append : {P : Type 0} (step : P → Line → P → Type 0) (from : P) (first : List Line) (mid : P) (second : List Line) (to : P)
    → Chain step from first mid → Chain step mid second to → Chain step from (first ++ second) to
chain_append {P} step from [] mid second to served more = subst (λ (p : P). Chain step p second to) served more
chain_append step from (line ∷ others) mid second to served more =
    (served.0, (served.1.0, chain_append step served.0 others mid second to served.1.1 more))

-- one more line
pub chain_more : {P : Type 0} (step : P → Line → P → Type 0) (from : P) (done : List Line) (now : P) (line : Line) (next : P)
    → Chain step from done now → step now line next → Chain step from (done ++ line ∷ []) next
chain_more step from done now line next served does = chain_append step from done now (line ∷ []) next served (next, (does, refl))

-- What holds between two machines before each line, and again behind it, holds behind all of them; so the second has a chain too.
pub chain_fold : {P X : Type 0} (step : P → Line → P → Type 0) (other : X → Line → X → Type 0) (R : P → X → Type 0)
    → ((p : P) (line : Line) (q : P) (x : X) → step p line q → R p x → (y : X) × (other x line y × R q y))
    → (from : P) (all : List Line) (to : P) (x : X) → Chain step from all to → R from x → (y : X) × (Chain other x all y × R to y)
chain_fold {P} step other R carried from [] to x served related = (x, (refl, subst (λ (p : P). R p x) (sym served) related))
chain_fold step other R carried from (line ∷ others) to x served related =
    let one = carried from line served.0 x served.1.0 related in
    let more = chain_fold step other R carried served.0 others to one.0 served.1.1 one.1.1 in
    (more.0, ((one.0, (one.1.0, more.1.0)), more.1.1))
