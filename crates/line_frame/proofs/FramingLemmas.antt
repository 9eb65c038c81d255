-- Lemmas on what a framer hands out, for its callers.
use Rattle.std.proofs.Common.{◌≡◌, ℕ, List, [], ◌∷◌, ◌++◌, refl, sym, ap, ◌∙◌, append_assoc, append-nil}
use Rattle.line_frame.specs.Lines.{Framing, HandsOut, Line, Whole, line_of, lines, open_text}
use Rattle.line_frame.specs.Held.{HasNoLf}
use Rattle.line_frame.specs.Calls.{Feeds}
use Rattle.line_frame.proofs.LineLemmas.{lines-append, lines-open_line, open_text-append, open_text-clean, open_text-open_line}

-- a new framer has handed out the lines of no bytes
pub HandsOut-none : HandsOut [] [] (record { waiting = []; open_line = Whole []; current = [] })
HandsOut-none = record { in_order = refl; open_part = refl }

-- where no line waits, all lines of the stream were handed out
pub HandsOut-all : (handed : List Line) (taken : List ℕ) (framing : Framing) → HandsOut handed taken framing → framing.waiting ≡ [] → lines taken ≡ handed
HandsOut-all handed taken framing hands none = hands.in_order ∙ ap (λ (l : List Line). handed ++ l) none ∙ append-nil handed

-- the first waiting line is handed out
pub HandsOut-more : (handed : List Line) (taken : List ℕ) (old new : Framing) (line : Line)
    → HandsOut handed taken old → old.waiting ≡ line ∷ new.waiting → new.open_line ≡ old.open_line → HandsOut (handed ++ line ∷ []) taken new
HandsOut-more handed taken old new line hands first same = record {
  in_order = hands.in_order ∙ ap (λ (l : List Line). handed ++ l) first ∙ sym (append_assoc handed (line ∷ []) new.waiting);
  open_part = hands.open_part ∙ sym same;
}

-- The stream goes on: the open line and the piece have their own lines, and of the open line nothing counts
-- but what a reader gets of it.
pub Feeds-from_open : (old new : Framing) (text piece : List ℕ) → HasNoLf text → old.open_line ≡ line_of text
    → new.waiting ≡ old.waiting ++ lines (text ++ piece) → new.open_line ≡ line_of (open_text (text ++ piece)) → Feeds old piece new
Feeds-from_open old new text piece clean was waits ends handed taken hands =
    let same : line_of (open_text taken) ≡ line_of text = hands.open_part ∙ was in
    record {
      in_order = lines-append piece taken ∙ ap (λ (l : List Line). l ++ lines (open_text taken ++ piece)) hands.in_order
          ∙ ap (λ (l : List Line). handed ++ old.waiting ++ l) (lines-open_line (open_text taken) text (open_text-clean taken) clean same piece)
          ∙ append_assoc handed old.waiting (lines (text ++ piece)) ∙ sym (ap (λ (l : List Line). handed ++ l) waits);
      open_part = ap line_of (open_text-append piece taken) ∙ open_text-open_line (open_text taken) text (open_text-clean taken) clean same piece ∙ sym ends;
    }
