use Rattle.std.proofs.Common.{◌≡◌, ◌∙◌, rules, ℕ, List, None, subst}
use Rattle.metric_path.specs.Path.{path_fault}
use Rattle.redo_log.proofs.calling.is_sound.Goals as goal

pub returns : goal.returns
returns c = record {
  legal = subst (λ (text : List ℕ). path_fault text ≡ None) (c.text.ensures.value ∙ c.path.ensures) c.text.ensures.legal;
  lawful = search rules;
  cells = record { rise = c.cells.ensures.rise; placed = c.cells.ensures.placed; fit = c.requires };
}
