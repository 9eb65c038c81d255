-- What is put for a link, told apart.
use Rattle.std.proofs.Common.{◌≡◌, ◌∙◌, inl, inr, ◌++◌, List, [], ◌∷◌, append_assoc, refl, sym, ap, subst}
use Rattle.std.proofs.lemmas.List.{append-nil}
use Rattle.metric_line.specs.Point.{Point}
use Rattle.aggregate_front.specs.Emitting.{AggregatorValue, Fed, after_points, at_end, emitted, link_limits}
use Rattle.line_front.specs.Points.{emitted_for, gathered_after, gathered_with, none_gathered, points_of_link, points_put}
use Rattle.line_front.specs.PointLaws.{AreBoth, PutsWhatIsEmitted}

-- what is emitted as the points come
abbrev emitted_by : AggregatorValue → List Point → List Point
emitted_by a [] = []
emitted_by a (point ∷ points) = emitted_for a point ++ emitted_by (gathered_with a point) points

both_second : (es : List Point) → AreBoth [] es es
both_second [] = (refl, refl)
both_second (e ∷ es) = inr (es, refl, both_second es)

both_front : (es firsts seconds all : List Point) → AreBoth firsts seconds all → AreBoth firsts (es ++ seconds) (es ++ all)
both_front [] firsts seconds all both = both
both_front (e ∷ es) firsts seconds all both = inr (es ++ seconds, refl, both_front es firsts seconds all both)

both_end : (es firsts seconds all : List Point) → AreBoth firsts seconds all → AreBoth firsts (seconds ++ es) (all ++ es)
both_end es firsts seconds [] (none, nothing) = rw (none, nothing) (both_second es)
both_end es firsts seconds (point ∷ all) (inl (more, e, both)) = inl (more, e, both_end es more seconds all both)
both_end es firsts seconds (point ∷ all) (inr (more, e, both)) = inr (more ++ es, ap (λ l. l ++ es) e, both_end es firsts more all both)

put_both : (a : AggregatorValue) (points : List Point) → AreBoth points (emitted_by a points) (points_put a points)
unfolding points_put
put_both a [] = (refl, refl)
put_both a (point ∷ points) = inl (points, refl, both_front (emitted_for a point) points (emitted_by (gathered_with a point) points) (points_put (gathered_with a point) points) (put_both (gathered_with a point) points))

fed_is : (a : AggregatorValue) (before points : List Point)
    → after_points a.rules a.limits (record { outputs = a.outputs; emitted = before }) points ≡ record { outputs = (gathered_after a points).outputs; emitted = before ++ emitted_by a points }
unfolding after_points gathered_after
fed_is a before [] = ap (λ (l : List Point). record { outputs = a.outputs; emitted = l }) (sym (append-nil before))
fed_is a before (point ∷ points) =
    fed_is (gathered_with a point) (before ++ emitted_for a point) points
    ∙ ap (λ (l : List Point). record { outputs = (gathered_after (gathered_with a point) points).outputs; emitted = l }) (append_assoc before (emitted_for a point) (emitted_by (gathered_with a point) points))

pub puts_what_is_emitted : PutsWhatIsEmitted
puts_what_is_emitted rules points =
    let a = none_gathered rules in
    let rest = at_end (gathered_after a points).outputs in
    let same : emitted rules link_limits points ≡ emitted_by a points ++ rest = ap (λ (fed : Fed). fed.emitted ++ at_end fed.outputs) (fed_is a [] points) in
    subst (λ (l : List Point). AreBoth points l (points_of_link rules points)) (sym same) (both_end rest points (emitted_by a points) (points_put a points) (put_both a points))
