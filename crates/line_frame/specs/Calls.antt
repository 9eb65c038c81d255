-- What the calls of a framer do.
use Rattle.std.specs.Prelude.{◌≡◌, ℕ, List, [], ◌∷◌, ◌++◌, Option, Some, None}
use Rattle.line_frame.specs.Lines.{Framing, HandsOut, Line, Whole, TooLong}
use Rattle.line_frame.specs.declared.framer.Framed.{Framed}
use Rattle.line_frame.specs.declared.framer.Framed.TheVariants.{Line as FramedLine, TooLong as FramedTooLong}

-- The piece follows what was fed: whatever stream the framer stood for, it stands for that stream
-- and the piece now, and the same lines are handed out.
abbrev pub Feeds : Framing → List ℕ → Framing → Type 0
Feeds old piece new =
    (handed : List Line) (taken : List ℕ)
    → HandsOut handed taken old → HandsOut handed (taken ++ piece) new

-- The first waiting line is handed out, and can be read where it is no longer than a line may be.
-- None is handed out where none waits.
abbrev pub HandsNext : Option Framed → Framing → Framing → Type 0
HandsNext None old new = (old.waiting ≡ []) × (new.waiting ≡ []) × (new.current ≡ [])
HandsNext (Some FramedLine) old new =
    (bytes : List ℕ) × (old.waiting ≡ Whole bytes ∷ new.waiting) × (new.current ≡ bytes ∷ [])
HandsNext (Some FramedTooLong) old new = (old.waiting ≡ TooLong ∷ new.waiting) × (new.current ≡ [])
