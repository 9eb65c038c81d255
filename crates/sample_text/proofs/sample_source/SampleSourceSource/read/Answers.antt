use Rattle.std.proofs.Common.{◌≡◌, ◌≤◌, ◌∙◌, [], length, rules, refl, sym, ap}
use Rattle.std.proofs.lemmas.List.{drop_all}
use Rattle.sample_text.specs.Sources.{SampleState, left_of}
use Rattle.sample_text.proofs.SampleLemmas.{none_left}
use Rattle.sample_text.proofs.sample_source.SampleSourceSource.read.Goals as goal

pub returns-then-self-eq0-clause-bytes : goal.returns-then-self-eq0-clause-bytes
returns-then-self-eq0-clause-bytes c =
    let whole : length c.self.inside.lines ≤ c.self.inside.at = search rules in
    let given : c.args.self.now.rest ≡ [] =
    ap (λ (s : SampleState). s.rest) (sym c.self.view_is) ∙ drop_all c.self.inside.at c.self.inside.lines whole in
    let made : c.args.self.now.todo ≡ 0 = search rules in
    let none : left_of c.args.self.now ≡ [] = none_left c.args.self.now.rest c.args.self.now.seed c.args.self.now.number c.args.self.now.todo given made in
    (none, refl, none)
