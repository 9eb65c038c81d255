-- How a service gets on, line by line and piece by piece.
use Rattle.std.proofs.Common.{◌≡◌, inl, inr, ℕ, ◌+◌, ◌<◌, ◌^◌, List, [], ◌∷◌, ◌++◌, Option, Some, length, refl, sym, ap, ◌∙◌, subst, append_assoc, append-nil, arith, length-append}
use Rattle.std.specs.Io.KnownBytes.{Consumes, Keeps, IsAtEnd}
use Rattle.line_frame.specs.Lines.{Line, Whole, TooLong, Framing, lines}
use Rattle.line_frame.specs.Calls.{Feeds, HandsNext}
use Rattle.line_frame.specs.declared.framer.Framed.{Framed}
use Rattle.line_frame.specs.declared.framer.Framed.TheVariants as framed
use Rattle.outside_io.proofs.Known.{Consumes-none, Consumes-more, Consumes-kept}
use Rattle.line_service.specs.declared.ends.Stop.{Stop}
use Rattle.line_service.specs.declared.ends.ServiceEnd.TheVariants as end
use Rattle.line_service.specs.declared.serve.PieceFault.TheVariants as piece
use Rattle.line_service.specs.Service.{At, Serves, Stops, StepOf, Chain, LastPiece, StopsAt, Service}
use Rattle.line_service.specs.Standing.{ServesFramed, StopsFramed, ServesTo, TakesPiece, BreaksOff, Reached}
use Rattle.line_service.proofs.ChainLemmas.{chain_append, chain_more}

-- ---- the lines that wait

-- one more line is served
serves_to_line : {P : Type 0} (step : P → Line → P → Type 0) (f f1 f2 : Framing) (p p1 p2 : P) (line : Line)
    → ServesTo step f p f1 p1 → f1.waiting ≡ line ∷ f2.waiting → f2.open_line ≡ f1.open_line → step p1 line p2 → ServesTo step f p f2 p2
serves_to_line step f f1 f2 p p1 p2 line s first same does = record {
  handed = s.handed ++ line ∷ [];
  split = s.split ∙ ap (λ (ls : List Line). s.handed ++ ls) first ∙ sym (append_assoc s.handed (line ∷ []) f2.waiting);
  chain = chain_more step p s.handed p1 line p2 s.chain does;
  open_line = same ∙ s.open_line;
}

-- the line that was handed out is served
pub serves_to_framed : {L : Type 0} (serves : Serves L) (handed : Framed) (f f1 f2 : Framing) (p p1 p2 : At L)
    → ServesTo (StepOf serves) f p f1 p1 → HandsNext (Some handed) f1 f2 → f2.open_line ≡ f1.open_line → ServesFramed serves handed f2 p1 p2 → ServesTo (StepOf serves) f p f2 p2
serves_to_framed serves framed.Line f f1 f2 p p1 p2 s hands same does =
    serves_to_line (StepOf serves) f f1 f2 p p1 p2 (Whole hands.0) s hands.1 same (does (Whole hands.0) (hands.0, (hands.2, refl)))
serves_to_framed serves framed.TooLong f f1 f2 p p1 p2 s hands same does =
    serves_to_line (StepOf serves) f f1 f2 p p1 p2 TooLong s hands.0 same (does TooLong refl)

-- the server stops at the line that was handed out
pub stops_framed : {L : Type 0} (serves : Serves L) (stops : Stops L) (stop : Stop) (handed : Framed) (f f1 f2 : Framing) (p p1 p2 : At L)
    → ServesTo (StepOf serves) f p f1 p1 → HandsNext (Some handed) f1 f2 → StopsFramed stops stop handed f2 p1 p2 → StopsAt serves stops stop p f.waiting p2
stops_framed serves stops stop framed.Line f f1 f2 p p1 p2 s hands stopped = record {
  handed = s.handed;
  line = Whole hands.0;
  rest = f2.waiting;
  mid = p1;
  split = s.split ∙ ap (λ (ls : List Line). s.handed ++ ls) hands.1;
  chain = s.chain;
  stopped = stopped (Whole hands.0) (hands.0, (hands.2, refl));
}
stops_framed serves stops stop framed.TooLong f f1 f2 p p1 p2 s hands stopped = record {
  handed = s.handed;
  line = TooLong;
  rest = f2.waiting;
  mid = p1;
  split = s.split ∙ ap (λ (ls : List Line). s.handed ++ ls) hands.0;
  chain = s.chain;
  stopped = stopped TooLong refl;
}

-- ---- pieces

-- the lines that a piece ends are served
pub takes_piece : {P : Type 0} (step : P → Line → P → Type 0) (f f1 f2 : Framing) (p p2 : P) (bytes : List ℕ)
    → Feeds f bytes f1 → ServesTo step f1 p f2 p2 → f2.waiting ≡ [] → TakesPiece step f p bytes f2 p2
takes_piece step f f1 f2 p p2 bytes feeds s none from taken served =
    let fed = feeds (lines taken) taken served.hands in
    let split : lines (taken ++ bytes) ≡ lines taken ++ s.handed =
    fed.in_order ∙ ap (λ (ls : List Line). lines taken ++ ls) (s.split ∙ ap (λ (ls : List Line). s.handed ++ ls) none ∙ append-nil s.handed) in
    record {
      hands = record {
        in_order = sym (append-nil (lines (taken ++ bytes))) ∙ ap (λ (ls : List Line). lines (taken ++ bytes) ++ ls) (sym none);
        open_part = fed.open_part ∙ sym s.open_line;
      };
      chain = subst (λ (ls : List Line). Chain step from ls p2) (sym split) (chain_append step from (lines taken) p s.handed p2 served.chain s.chain);
      all = none;
    }

-- the server stops at a line that a piece ends
pub breaks_stop : {L : Type 0} (serves : Serves L) (stops : Stops L) (stop : Stop) (f f1 : Framing) (p p2 : At L) (bytes : List ℕ)
    → Feeds f bytes f1 → StopsAt serves stops stop p f1.waiting p2 → BreaksOff serves stops (piece.Stopped stop) f p bytes p2
breaks_stop serves stops stop f f1 p p2 bytes feeds s from taken served =
    let fed = feeds (lines taken) taken served.hands in
    record {
      handed = lines taken ++ s.handed;
      line = s.line;
      rest = s.rest;
      mid = s.mid;
      split = fed.in_order ∙ ap (λ (ls : List Line). lines taken ++ ls) s.split ∙ sym (append_assoc (lines taken) s.handed (s.line ∷ s.rest));
      chain = chain_append (StepOf serves) from (lines taken) p s.handed s.mid served.chain s.chain;
      stopped = s.stopped;
    }

-- ---- the input

-- one more piece was read, and its lines were served
pub reached_more : {P : Type 0} (step : P → Line → P → Type 0) (left left1 left2 : Option (List ℕ)) (p p1 p2 : P) (f1 f2 : Framing) (count n : ℕ) (bytes : List ℕ)
    → Reached step left p count left1 f1 p1 → Consumes left1 left2 bytes → length bytes ≡ n → TakesPiece step f1 p1 bytes f2 p2
    → Reached step left p (count + n) left2 f2 p2
reached_more step left left1 left2 p p1 p2 f1 f2 count n bytes r consumes long takes = record {
  taken = r.taken ++ bytes;
  consumed = Consumes-more left left1 left2 r.taken bytes r.consumed consumes;
  counted = omega (arith, length-append r.taken bytes, r.counted, long);
  served = takes p r.taken r.served;
}

-- no memory for the room that reads need
pub ends_at_once : {L : Type 0} (serves : Serves L) (stops : Stops L) (left : Option (List ℕ)) (p : At L) → Service serves stops end.NoMemory left p left p
ends_at_once serves stops left p = ([], (Consumes-none left, ([], (inl (refl, refl), refl))))

-- the input came to its end
pub ends_closed : {L : Type 0} (serves : Serves L) (stops : Stops L) (left left1 left2 : Option (List ℕ)) (p p1 : At L) (f1 : Framing) (count : ℕ)
    → Reached (StepOf serves) left p count left1 f1 p1 → count < 2 ^ 40 → Keeps left1 left2 → IsAtEnd left2 → Service serves stops end.Closed left p left2 p1
ends_closed serves stops left left1 left2 p p1 f1 count r short keeps none =
    (r.taken, (Consumes-kept left left1 left2 r.taken r.consumed keeps, (r.served.chain, (none, omega (arith, r.counted, short)))))

-- a read failed
pub ends_failed : {L : Type 0} (serves : Serves L) (stops : Stops L) (left left1 left2 : Option (List ℕ)) (p p1 : At L) (f1 : Framing) (count : ℕ)
    → Reached (StepOf serves) left p count left1 f1 p1 → count < 2 ^ 40 → Keeps left1 left2 → Service serves stops end.ReadFault left p left2 p1
ends_failed serves stops left left1 left2 p p1 f1 count r short keeps =
    (r.taken, (Consumes-kept left left1 left2 r.taken r.consumed keeps, (r.served.chain, omega (arith, r.counted, short))))

-- no memory for a piece
pub ends_memory : {L : Type 0} (serves : Serves L) (stops : Stops L) (left left1 left2 : Option (List ℕ)) (p p1 p2 : At L) (f1 : Framing) (count : ℕ) (bytes : List ℕ)
    → Reached (StepOf serves) left p count left1 f1 p1 → count < 2 ^ 40 → Consumes left1 left2 bytes → 0 < length bytes → p2 ≡ p1
    → Service serves stops end.NoMemory left p left2 p2
ends_memory serves stops left left1 left2 p p1 p2 f1 count bytes r few consumes some same =
    let lost : LastPiece r.taken (r.taken ++ bytes) = record {
      piece = bytes;
      some = λ none. absurd (omega (arith, ap (λ (xs : List ℕ). length xs) none, some));
      split = refl;
      short = omega (arith, r.counted, few);
    } in
    (r.taken ++ bytes, (Consumes-more left left1 left2 r.taken bytes r.consumed consumes, (r.taken, (inr lost, subst (λ q. Chain (StepOf serves) p (lines r.taken) q) (sym same) r.served.chain))))

-- the server stopped at a line of a piece
pub ends_stopped : {L : Type 0} (serves : Serves L) (stops : Stops L) (stop : Stop) (left left1 left2 : Option (List ℕ)) (p p1 p2 : At L) (f1 : Framing) (count : ℕ) (bytes : List ℕ)
    → Reached (StepOf serves) left p count left1 f1 p1 → Consumes left1 left2 bytes → BreaksOff serves stops (piece.Stopped stop) f1 p1 bytes p2
    → Service serves stops (end.Stopped stop) left p left2 p2
ends_stopped serves stops stop left left1 left2 p p1 p2 f1 count bytes r consumes breaks =
    (r.taken ++ bytes, (Consumes-more left left1 left2 r.taken bytes r.consumed consumes, breaks p r.taken r.served))
