-- Fronts of texts that are written in pieces.
use Rattle.std.proofs.Common.{ℕ, ◌+◌, List, ◌++◌, length, Option, Result, Ok, Err, subst, sym, take, arith, length-append}
use Rattle.std.specs.Prelude.{OnErr}
use Rattle.std.proofs.Math.Seq.{take-append-add}
use Rattle.std.proofs.lemmas.List.{take-append-le}
use Rattle.std.specs.Io.KnownBytes.{Appends}
use Rattle.outside_io.specs.Sink.{AppendsFront}
use Rattle.outside_io.proofs.Known.{Appends-more}

-- a front of the first piece
pub front_first : (a b : Option (List ℕ)) (x y : List ℕ) → AppendsFront a b x → AppendsFront a b (x ++ y)
front_first a b x y front = (front.0, omega (arith, front.1, length-append x y), subst (λ (t : List ℕ). Appends a b t) (sym (take-append-le front.0 x y front.1)) front.2)

-- the first piece, and a front of what stands behind it
pub front_next : (a b c : Option (List ℕ)) (x y : List ℕ) → Appends a b x → AppendsFront b c y → AppendsFront a c (x ++ y)
front_next a b c x y first front = (
  length x + front.0,
  omega (arith, front.1, length-append x y),
  subst (λ (t : List ℕ). Appends a c t) (sym (take-append-add x y front.0)) (Appends-more a b c x (take front.0 y) first front.2),
)

-- what holds anyhow holds where there is an error
pub on_err_anyhow : {T E : Type 0} (r : Result T E) (P : Type 0) → P → OnErr r P
on_err_anyhow (Ok x) P holds = tt
on_err_anyhow (Err e) P holds = holds

-- what follows from what holds where there is an error
pub on_err_more : {T E : Type 0} (r : Result T E) {P Q : Type 0} → (P → Q) → OnErr r P → OnErr r Q
on_err_more (Ok x) more holds = tt
on_err_more (Err e) more holds = more holds
