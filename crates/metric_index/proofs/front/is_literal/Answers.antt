use Rattle.std.proofs.Common.{◌≡◌, List, length, subst, sym, ap, ◌∙◌}
use Rattle.std.proofs.lemmas.Bool.{eqb-true}
use Rattle.metric_path.specs.Path.{nodes_of}
use Rattle.path_glob.specs.Faults.{Said}
use Rattle.path_glob.specs.Glob.{Fits, Piece}
use Rattle.path_glob.specs.Reading.{globs_of}
use Rattle.metric_index.proofs.LiteralLemmas.{fits_its_text}
use Rattle.metric_index.proofs.front.is_literal.Goals as goal

pub returns : goal.returns
returns c = λ whole path fits.
    let law = c.bytes_stand_for_themselves.ensures in
    let same : length c.literal_front.result.now ≡ length c.text.result.now = eqb-true _ _ whole in
    let nodes : c.args.glob.now.nodes ≡ globs_of c.args.glob.now.text = ap (λ (s : Said). s.nodes) c.text.ensures.said ∙ ap globs_of c.text.ensures.value in
    fits_its_text law.end law.byte law.dot c.args.glob.now.text path
    (ap length (sym c.literal_front.ensures.value) ∙ same ∙ ap length c.text.ensures.value)
    (subst (λ (n : List (List Piece)). Fits n (nodes_of path)) nodes fits)
