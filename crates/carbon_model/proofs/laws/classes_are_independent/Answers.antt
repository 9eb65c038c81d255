use Rattle.carbon_model.proofs.PartLemmas.{part_legal, parts_legal, replay_alike, same_part}
use Rattle.carbon_model.proofs.laws.classes_are_independent.Goals as goal

pub returns-clause-legal : goal.returns-clause-legal
returns-clause-legal c s h =
    (λ legal class. part_legal class s s h (same_part class s) legal, λ legal. parts_legal s (λ class. s) h (λ class. same_part class s) legal)

pub returns-clause-part : goal.returns-clause-part
returns-clause-part c s h class = replay_alike class s s h (same_part class s)
