use Rattle.std.proofs.Common.{◌≡◌, ◌+◌, ◌-◌, ◌++◌, List, ℕ, length, drop, ap, ◌∙◌, arith}
use Rattle.std.proofs.lemmas.Slice.{drop-put_mid}
use Rattle.render_json.proofs.BackwardLemmas.{put_behind}
use Rattle.render_json.proofs.backward.put.Goals as goal

pub returns-clause-written : goal.returns-clause-written
returns-clause-written c =
    let end = c.args.end in
    let start = end - length c.args.piece.now in
    let e : start + (end - start) ≡ end = omega (arith, c.requires.room) in
    put_behind start (end - start) end c.args.text.now c.copy_from_slice.new.self (omega (arith, c.requires.room, c.requires.within)) e
    ∙ ap (λ (l : List ℕ). l ++ drop end c.args.text.now) c.copy_from_slice.ensures.after

pub returns-clause-behind : goal.returns-clause-behind
returns-clause-behind c =
    let end = c.args.end in
    let start = end - length c.args.piece.now in
    let piece = c.copy_from_slice.new.self in
    let long : length piece ≡ length c.args.piece.now = ap (λ (l : List ℕ). length l) c.copy_from_slice.ensures.after in
    drop-put_mid start (end - start) c.args.text.now piece end (omega (arith, c.requires.room)) (omega (arith, c.requires.room, c.requires.within)) (omega (arith, long, c.requires.room))
