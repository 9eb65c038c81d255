use Rattle.std.proofs.Common.{◌≡◌, ◌∙◌, ◌+◌, ◌<◌, ℕ, suc, List, [], ◌∷◌, ◌++◌, get_or, length, drop, map, slice_index_or, sym, ap, add-one, append_assoc, drop-cons}
use Rattle.std.proofs.lemmas.List.{append-nil, drop_all}
use Rattle.aggregate_rules.specs.declared.output.OutputPart.{OutputPart}
use Rattle.aggregate_rules.specs.Readings.{filled, parts_text}
use Rattle.aggregate_rules.proofs.reading.filled.Goals as goal

-- one part more
parts_push : (rows : List (List ℕ)) (parts : List OutputPart) (i : ℕ) (part : OutputPart) (text : List ℕ) → i < length parts → part ≡ get_or parts i part
    → text ++ parts_text rows (drop i parts) ≡ ((text ++ slice_index_or rows part.name []) ++ part.text) ++ parts_text rows (drop (i + 1) parts)
unfolding parts_text
parts_push rows parts i part text lt is =
    let cut : drop i parts ≡ part ∷ drop (i + 1) parts = rw (add-one, drop-cons parts i part) (ap (λ p. p ∷ drop (suc i) parts) (sym is)) in
    rw cut (simp append_assoc)

pub loop-part-preserved : goal.loop-part-preserved
loop-part-preserved c =
    let lt = rw c.as_slice-part-items.ensures at c.loop-part-test.true in
    let is = rw c.as_slice-part-items.ensures at c.part-item.is in
    record {
      same = rw (c.in_ok-extend_from_slice-2.ensures.items, c.as_slice-in-loop-part.ensures, c.in_ok-extend_from_slice.ensures.items, c.row_at.ensures)
          (c.loop-part.invariant.same ∙ parts_push _ c.args.output.now.parts c.loop-part.part-index c.part-item.result c.loop-part.text.items lt is);
    }

pub returns : goal.returns
unfolding filled parts_text
returns c =
    let le = rw c.as_slice-part-items.ensures at c.loop-part-test.false in
    sym (c.loop-part.invariant.same ∙ ap (λ ps. c.loop-part.text.items ++ parts_text (map (λ row. row.now) c.args.rows.now) ps) (drop_all c.loop-part.part-index c.args.output.now.parts le) ∙ append-nil c.loop-part.text.items)
