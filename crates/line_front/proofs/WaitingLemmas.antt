-- The lines that wait, served batch by batch.
use Rattle.std.proofs.Common.{◌≡◌, ℕ, List, [], ◌∷◌, ◌++◌, Option, Bool, Result, Ok, Err, refl, sym, ap, ◌∙◌, subst, append_assoc}
use Rattle.std.specs.Prelude.{IfErr, OnOk}
use Rattle.line_frame.specs.Lines.{Framing, Line}
use Rattle.line_service.specs.declared.ends.Stop.{Stop}
use Rattle.line_service.specs.Service.{At, Chain, StepOf, StopsAt}
use Rattle.line_service.specs.Standing.{ServesTo}
use Rattle.line_service.proofs.ChainLemmas.{chain_append}
use Rattle.carbon_model.specs.State.{State}
use Rattle.line_front.specs.Batches.{BatchServes, BatchStops}
use Rattle.line_front.specs.Links.{HandlesAll, Timed}
use Rattle.line_front.specs.Sessions.{LinkValue, ServesLink, StopsLink, timed_of}

module _ {C : Type 0} (moments : C → ℕ → Type 0) (start : State) (passes : ℕ) where
  -- where a service stands by this clock
  abbrev at : C → Timed → Option (List ℕ) → At (LinkValue C)
  at clock here written = record { server = record { watch = record { clock = clock; told = here.told }; session = here.session }; written = written }

  chain_of : (clock : C) (written : Option (List ℕ)) (handed : List Line) (old new : Timed) → HandlesAll (moments clock) start passes old handed new
      → Chain (StepOf (ServesLink moments start passes)) (at clock old written) handed (at clock new written)
  chain_of clock written [] old new same = ap (λ (t : Timed). at clock t written) same
  chain_of clock written (line ∷ others) old new handles =
      (at clock handles.0 written, (record { clock = refl; handles = handles.1.0 }, chain_of clock written others handles.0 new handles.1.1))

  same_at : (p q : At (LinkValue C)) → q.server.watch.clock ≡ p.server.watch.clock → q.written ≡ p.written → at p.server.watch.clock (timed_of q.server) p.written ≡ q
  same_at p q clock written = λ i. at (sym clock i) (timed_of q.server) (sym written i)

  -- nothing was served yet
  pub serves_none : (f : Framing) (p : At (LinkValue C)) → ServesTo (StepOf (ServesLink moments start passes)) f p f p
  serves_none f p = record { handed = []; split = refl; chain = refl; open_line = refl }

  -- some lines, and then others
  pub serves_both : (f f1 f2 : Framing) (p p1 p2 : At (LinkValue C)) → ServesTo (StepOf (ServesLink moments start passes)) f p f1 p1
      → ServesTo (StepOf (ServesLink moments start passes)) f1 p1 f2 p2 → ServesTo (StepOf (ServesLink moments start passes)) f p f2 p2
  serves_both f f1 f2 p p1 p2 s t = record {
    handed = s.handed ++ t.handed;
    split = s.split ∙ (ap (λ (l : List Line). s.handed ++ l) t.split ∙ sym (append_assoc s.handed t.handed f2.waiting));
    chain = chain_append (StepOf (ServesLink moments start passes)) p s.handed p1 t.handed p2 s.chain t.chain;
    open_line = t.open_line ∙ s.open_line;
  }

  pub stops_both : (reason : Stop) (f f1 : Framing) (p p1 p2 : At (LinkValue C)) → ServesTo (StepOf (ServesLink moments start passes)) f p f1 p1
      → StopsAt (ServesLink moments start passes) (StopsLink moments start passes) reason p1 f1.waiting p2
      → StopsAt (ServesLink moments start passes) (StopsLink moments start passes) reason p f.waiting p2
  stops_both reason f f1 p p1 p2 s t = record {
    handed = s.handed ++ t.handed;
    line = t.line;
    rest = t.rest;
    mid = t.mid;
    split = s.split ∙ (ap (λ (l : List Line). s.handed ++ l) t.split ∙ sym (append_assoc s.handed t.handed (t.line ∷ t.rest)));
    chain = chain_append (StepOf (ServesLink moments start passes)) p s.handed p1 t.handed t.mid s.chain t.chain;
    stopped = t.stopped;
  }

  -- a batch
  pub serves_batch : (more : Bool) (f f1 f2 : Framing) (p p1 p2 : At (LinkValue C)) → ServesTo (StepOf (ServesLink moments start passes)) f p f1 p1
      → BatchServes (moments p1.server.watch.clock) start passes more f1 (timed_of p1.server) f2 (timed_of p2.server) → p2.server.watch.clock ≡ p1.server.watch.clock → p2.written ≡ p1.written
      → ServesTo (StepOf (ServesLink moments start passes)) f p f2 p2
  serves_batch more f f1 f2 p p1 p2 s batch clock written = serves_both f f1 f2 p p1 p2 s (record {
    handed = batch.handed;
    split = batch.split;
    chain = subst (λ (q : At (LinkValue C)). Chain (StepOf (ServesLink moments start passes)) p1 batch.handed q) (same_at p1 p2 clock written)
        (chain_of p1.server.watch.clock p1.written batch.handed (timed_of p1.server) (timed_of p2.server) batch.handles);
    open_line = batch.open_line;
  })

  pub stops_batch : (reason : Stop) (f f1 : Framing) (p p1 p2 : At (LinkValue C)) → ServesTo (StepOf (ServesLink moments start passes)) f p f1 p1
      → BatchStops (moments p1.server.watch.clock) start passes reason f1.waiting (timed_of p1.server) (timed_of p2.server) → p2.server.watch.clock ≡ p1.server.watch.clock
      → StopsAt (ServesLink moments start passes) (StopsLink moments start passes) reason p f.waiting p2
  stops_batch reason f f1 p p1 p2 s batch clock = stops_both reason f f1 p p1 p2 s (record {
    handed = batch.handed;
    line = batch.line;
    rest = batch.others;
    mid = at p1.server.watch.clock batch.mid p1.written;
    split = batch.split;
    chain = chain_of p1.server.watch.clock p1.written batch.handed (timed_of p1.server) batch.mid batch.handles;
    stopped = record { clock = clock; stops = batch.stops };
  })

  -- the lines that are left
  pub serves_rest : {T : Type 0} (result : Result T Stop) (f f1 f2 : Framing) (p p1 p2 : At (LinkValue C)) → ServesTo (StepOf (ServesLink moments start passes)) f p f1 p1
      → OnOk result (ServesTo (StepOf (ServesLink moments start passes)) f1 p1 f2 p2) → OnOk result (ServesTo (StepOf (ServesLink moments start passes)) f p f2 p2)
  serves_rest (Ok u) f f1 f2 p p1 p2 s t = serves_both f f1 f2 p p1 p2 s t
  serves_rest (Err reason) f f1 f2 p p1 p2 s t = tt

  pub stops_rest : {T : Type 0} (result : Result T Stop) (f f1 : Framing) (p p1 p2 : At (LinkValue C)) → ServesTo (StepOf (ServesLink moments start passes)) f p f1 p1
      → IfErr result (λ reason. StopsAt (ServesLink moments start passes) (StopsLink moments start passes) reason p1 f1.waiting p2)
      → IfErr result (λ reason. StopsAt (ServesLink moments start passes) (StopsLink moments start passes) reason p f.waiting p2)
  stops_rest (Ok u) f f1 p p1 p2 s t = tt
  stops_rest (Err reason) f f1 p p1 p2 s t = stops_both reason f f1 p p1 p2 s t

  -- by a session that is seen as before
  module _ {T : Type 0} (result : Result T Stop) (old old' new new' : LinkValue C) (before after : Option (List ℕ)) (same : old' ≡ old) (kept : new ≡ new') where
    pub serves_kept : (f f1 : Framing) → OnOk result (ServesTo (StepOf (ServesLink moments start passes)) f (record { server = old'; written = before }) f1 (record { server = new'; written = after }))
        → OnOk result (ServesTo (StepOf (ServesLink moments start passes)) f (record { server = old; written = before }) f1 (record { server = new; written = after }))
    serves_kept f f1 serves =
        subst (λ (v : LinkValue C). OnOk result (ServesTo (StepOf (ServesLink moments start passes)) f (record { server = v; written = before }) f1 (record { server = new; written = after }))) same
        (subst (λ (v : LinkValue C). OnOk result (ServesTo (StepOf (ServesLink moments start passes)) f (record { server = old'; written = before }) f1 (record { server = v; written = after }))) (sym kept) serves)

    pub stops_kept : (waiting : List Line) → IfErr result (λ reason. StopsAt (ServesLink moments start passes) (StopsLink moments start passes) reason (record { server = old'; written = before }) waiting (record { server = new'; written = after }))
        → IfErr result (λ reason. StopsAt (ServesLink moments start passes) (StopsLink moments start passes) reason (record { server = old; written = before }) waiting (record { server = new; written = after }))
    stops_kept waiting stops =
        subst (λ (v : LinkValue C). IfErr result (λ reason. StopsAt (ServesLink moments start passes) (StopsLink moments start passes) reason (record { server = v; written = before }) waiting (record { server = new; written = after }))) same
        (subst (λ (v : LinkValue C). IfErr result (λ reason. StopsAt (ServesLink moments start passes) (StopsLink moments start passes) reason (record { server = old'; written = before }) waiting (record { server = v; written = after }))) (sym kept) stops)
