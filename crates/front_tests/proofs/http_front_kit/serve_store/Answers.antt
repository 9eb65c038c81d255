use Rattle.std.proofs.Common.{◌≡◌, List, [], ◌∷◌, ◌++◌, length, refl, ap, ◌∙◌, arith, length-append}
use Rattle.std.specs.Prelude.{slice_get}
use Rattle.shared_history.specs.Parts.{PassValue}
use Rattle.front_tests.proofs.http_front_kit.serve_store.Goals as goal

none_left : (xs rest : List PassValue) (x : PassValue) → length xs ≡ 1 → xs ≡ rest ++ x ∷ [] → rest ≡ []
none_left xs [] x one same = refl
none_left xs (y ∷ rest) x one same = absurd (omega (arith, one, ap (λ (ys : List PassValue). length ys) same, length-append rest (x ∷ [])))

pub new-pass-requires : goal.new-pass-requires
new-pass-requires g c =
    let none : c.pop.new.self.items ≡ [] = none_left c.args.passes.items c.pop.new.self.items c.in-Some.pass (omega (arith, c.args.passes.ok.0, c.requires.one)) c.in-Some.ensures.items in
    let one : c.args.passes.items ≡ c.in-Some.pass ∷ [] = c.in-Some.ensures.items ∙ ap (λ (ps : List PassValue). ps ++ c.in-Some.pass ∷ []) none in
    (c.requires.new 0 c.in-Some.pass (ap (λ (ps : List PassValue). slice_get ps 0) one)).same
