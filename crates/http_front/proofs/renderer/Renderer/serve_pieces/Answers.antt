use Rattle.std.proofs.Common.{ℕ, List, Option, ◌∙◌, ap, arith, refl, subst, sym, take, length-take}
use Rattle.std.proofs.lemmas.List.{length-take-le}
use Rattle.std.specs.Io.KnownBytes.{Consumes, IsAtEnd, Keeps}
use Rattle.http_front.specs.Origin.{origin_of, standing}
use Rattle.http_front.specs.Standing.{IsPieceEnd}
use Rattle.http_front.proofs.PromptLemmas.{answered, in_time_more}
use Rattle.http_front.proofs.EndLemmas.{apart, ends_closed, ends_failed, ends_limit, ends_piece, reached_apart, reached_more}
use Rattle.http_front.proofs.renderer.Renderer.serve_pieces.Goals as goal

pub loop-taken-preserved : goal.loop-taken-preserved
loop-taken-preserved g c =
    let w = origin_of g.C.Clock g.N.Named c.args.self.now.clock.now in
    let read = apart g.L.Source.beside_read g.L.Sink.written g.L.Sink.write_faults c.loop-taken.link c.read.new.link g.met.L.Link.reads_apart c.in-Got.ensures.beside in
    let wrote = apart g.L.Sink.beside_write g.L.Source.left g.L.Source.read_faults c.read.new.link c.serve_piece.new.out g.met.L.Link.writes_apart c.in-Ok.ensures.writes.beside in
    record {
      reached = reached_more w (g.L.Source.left c.args.link.now) (g.L.Source.left c.loop-taken.link) (g.L.Source.left c.serve_piece.new.out) c.loop-taken.reader.left c.serve_piece.new.reader.left
          _ _ _ c.loop-taken.taken c.in-Got.count (take c.in-Got.count c.read.new.buf)
          (reached_apart w _ _ _ _ _ _ _ _ read.0 c.loop-taken.invariant.reached)
          (subst (λ (l : Option (List ℕ)). Consumes (g.L.Source.left c.loop-taken.link) l (take c.in-Got.count c.read.new.buf)) (sym wrote.0) c.in-Got.ensures.bytes)
          (length-take-le c.in-Got.count c.read.new.buf c.in-Got.ensures.count.1) c.in-Ok.ensures.takes;
      prompt = in_time_more g.L.Source.left g.L.Sink.written w (g.L.Source.left c.args.link.now) (g.L.Source.left c.loop-taken.link) (g.L.Source.left c.serve_piece.new.out)
          _ c.args.reads.now c.loop-taken.reads c.read.new.self _ c.loop-taken.invariant.prompt (ap g.L.Source.left c.read.ensures.noted.was)
          (wrote.0 ∙ sym (ap g.L.Source.left c.read.ensures.noted.is)) c.read.ensures.noted.noted
          (answered w (g.L.Source.left c.args.link.now) (g.L.Source.left c.loop-taken.link) c.loop-taken.reader.left _ (standing g.L.Sink c.loop-taken.pass c.loop-taken.watch c.loop-taken.link) c.loop-taken.taken _
          c.loop-taken.invariant.reached c.loop-taken.invariant.waits (ap g.L.Source.left c.read.ensures.noted.was) (ap g.L.Sink.written c.read.ensures.noted.was));
      limit = omega (arith, c.in-Got.ensures.count.1, c.read.auto.buf, c.min-most.ensures, c.loop-taken-test.true, length-take {A = ℕ});
      waits = c.in-Ok.ensures.open.waits;
      room = c.in-Ok.ensures.open.room;
      pass = record {
        table = c.in-Ok.ensures.pass.table ∙ c.loop-taken.invariant.pass.table;
        number = c.in-Ok.ensures.pass.number ∙ c.loop-taken.invariant.pass.number;
      };
      reads = record {
        later = omega (arith, c.loop-taken.invariant.reads.later, c.in-Got.ensures.later, wrote.1);
        cause = λ failed. absurd failed;
      };
      writes = record {
        later = omega (arith, c.loop-taken.invariant.writes.later, read.1, c.in-Ok.ensures.writes.later);
        cause = λ failed. absurd failed;
      };
    }

pub returns-in-Err-clause-ends : goal.returns-in-Err-clause-ends
returns-in-Err-clause-ends g c =
    let w = origin_of g.C.Clock g.N.Named c.args.self.now.clock.now in
    let read = apart g.L.Source.beside_read g.L.Sink.written g.L.Sink.write_faults c.loop-taken.link c.read.new.link g.met.L.Link.reads_apart c.in-Got.ensures.beside in
    let wrote = apart g.L.Sink.beside_write g.L.Source.left g.L.Source.read_faults c.read.new.link c.serve_piece.new.out g.met.L.Link.writes_apart c.in-Err.ensures.writes.beside in
    ends_piece w c.in-Err.end (g.L.Source.left c.args.link.now) (g.L.Source.left c.loop-taken.link) (g.L.Source.left c.serve_piece.new.out) c.loop-taken.reader.left
    _ _ _ c.loop-taken.taken (take c.in-Got.count c.read.new.buf) (reached_apart w _ _ _ _ _ _ _ _ read.0 c.loop-taken.invariant.reached)
    (subst (λ (l : Option (List ℕ)). Consumes (g.L.Source.left c.loop-taken.link) l (take c.in-Got.count c.read.new.buf)) (sym wrote.0) c.in-Got.ensures.bytes)
    c.in-Err.ensures.breaks

pub returns-in-Err-clause-reads : goal.returns-in-Err-clause-reads
returns-in-Err-clause-reads g c =
    let wrote = apart g.L.Sink.beside_write g.L.Source.left g.L.Source.read_faults c.read.new.link c.serve_piece.new.out g.met.L.Link.writes_apart c.in-Err.ensures.writes.beside in
    record {
      later = omega (arith, c.loop-taken.invariant.reads.later, c.in-Got.ensures.later, wrote.1);
      cause = λ is. absurd (subst IsPieceEnd is c.in-Err.ensures.breaks.0);
    }

pub returns-in-End-clause-ends : goal.returns-in-End-clause-ends
returns-in-End-clause-ends g c =
    let w = origin_of g.C.Clock g.N.Named c.args.self.now.clock.now in
    let read = apart g.L.Source.beside_read g.L.Sink.written g.L.Sink.write_faults c.loop-taken.link c.read.new.link g.met.L.Link.reads_apart c.in-End.ensures.beside in
    let wrote = apart g.L.Sink.beside_write g.L.Source.left g.L.Source.read_faults c.read.new.link c.serve_end.new.out g.met.L.Link.writes_apart c.serve_end.ensures.writes.beside in
    ends_closed w c.serve_end.result (g.L.Source.left c.args.link.now) (g.L.Source.left c.loop-taken.link) (g.L.Source.left c.serve_end.new.out) c.loop-taken.reader.left
    _ (standing g.L.Sink c.loop-taken.pass c.loop-taken.watch c.read.new.link) _ c.loop-taken.taken (reached_apart w _ _ _ _ _ _ _ _ read.0 c.loop-taken.invariant.reached)
    c.loop-taken.invariant.waits c.loop-taken-test.true
    (subst (λ (l : Option (List ℕ)). Keeps (g.L.Source.left c.loop-taken.link) l) (sym wrote.0) c.in-End.ensures.bytes.1)
    (subst IsAtEnd (sym wrote.0) c.in-End.ensures.bytes.2) refl c.serve_end.ensures.ends

pub returns-in-Failed-clause-ends : goal.returns-in-Failed-clause-ends
returns-in-Failed-clause-ends g c =
    let w = origin_of g.C.Clock g.N.Named c.args.self.now.clock.now in
    let read = apart g.L.Source.beside_read g.L.Sink.written g.L.Sink.write_faults c.loop-taken.link c.read.new.link g.met.L.Link.reads_apart c.in-Failed.ensures.beside in
    ends_failed w (g.L.Source.left c.args.link.now) (g.L.Source.left c.loop-taken.link) (g.L.Source.left c.read.new.link) c.loop-taken.reader.left
    _ _ c.loop-taken.taken (reached_apart w _ _ _ _ _ _ _ _ read.0 c.loop-taken.invariant.reached) c.loop-taken.invariant.waits c.loop-taken-test.true c.in-Failed.ensures.bytes

pub returns-clause-ends : goal.returns-clause-ends
returns-clause-ends g c =
    ends_limit (origin_of g.C.Clock g.N.Named c.args.self.now.clock.now) (g.L.Source.left c.args.link.now) (g.L.Source.left c.loop-taken.link) c.loop-taken.reader.left
    _ _ c.loop-taken.taken c.loop-taken.invariant.reached c.loop-taken.invariant.waits (omega (arith, c.loop-taken.invariant.limit, c.loop-taken-test.false))

pub returns-in-Err-clause-prompt : goal.returns-in-Err-clause-prompt
returns-in-Err-clause-prompt g c =
    let w = origin_of g.C.Clock g.N.Named c.args.self.now.clock.now in
    let wrote = apart g.L.Sink.beside_write g.L.Source.left g.L.Source.read_faults c.read.new.link c.serve_piece.new.out g.met.L.Link.writes_apart c.in-Err.ensures.writes.beside in
    in_time_more g.L.Source.left g.L.Sink.written w (g.L.Source.left c.args.link.now) (g.L.Source.left c.loop-taken.link) (g.L.Source.left c.serve_piece.new.out)
    _ c.args.reads.now c.loop-taken.reads c.read.new.self _ c.loop-taken.invariant.prompt (ap g.L.Source.left c.read.ensures.noted.was)
    (wrote.0 ∙ sym (ap g.L.Source.left c.read.ensures.noted.is)) c.read.ensures.noted.noted
    (answered w (g.L.Source.left c.args.link.now) (g.L.Source.left c.loop-taken.link) c.loop-taken.reader.left _ (standing g.L.Sink c.loop-taken.pass c.loop-taken.watch c.loop-taken.link) c.loop-taken.taken _
    c.loop-taken.invariant.reached c.loop-taken.invariant.waits (ap g.L.Source.left c.read.ensures.noted.was) (ap g.L.Sink.written c.read.ensures.noted.was))

pub returns-in-End-clause-prompt : goal.returns-in-End-clause-prompt
returns-in-End-clause-prompt g c =
    let w = origin_of g.C.Clock g.N.Named c.args.self.now.clock.now in
    let wrote = apart g.L.Sink.beside_write g.L.Source.left g.L.Source.read_faults c.read.new.link c.serve_end.new.out g.met.L.Link.writes_apart c.serve_end.ensures.writes.beside in
    in_time_more g.L.Source.left g.L.Sink.written w (g.L.Source.left c.args.link.now) (g.L.Source.left c.loop-taken.link) (g.L.Source.left c.serve_end.new.out)
    _ c.args.reads.now c.loop-taken.reads c.read.new.self _ c.loop-taken.invariant.prompt (ap g.L.Source.left c.read.ensures.noted.was)
    (wrote.0 ∙ sym (ap g.L.Source.left c.read.ensures.noted.is)) c.read.ensures.noted.noted
    (answered w (g.L.Source.left c.args.link.now) (g.L.Source.left c.loop-taken.link) c.loop-taken.reader.left _ (standing g.L.Sink c.loop-taken.pass c.loop-taken.watch c.loop-taken.link) c.loop-taken.taken _
    c.loop-taken.invariant.reached c.loop-taken.invariant.waits (ap g.L.Source.left c.read.ensures.noted.was) (ap g.L.Sink.written c.read.ensures.noted.was))

pub returns-in-Failed-clause-prompt : goal.returns-in-Failed-clause-prompt
returns-in-Failed-clause-prompt g c =
    let w = origin_of g.C.Clock g.N.Named c.args.self.now.clock.now in
    in_time_more g.L.Source.left g.L.Sink.written w (g.L.Source.left c.args.link.now) (g.L.Source.left c.loop-taken.link) (g.L.Source.left c.read.new.link)
    _ c.args.reads.now c.loop-taken.reads c.read.new.self _ c.loop-taken.invariant.prompt (ap g.L.Source.left c.read.ensures.noted.was)
    (sym (ap g.L.Source.left c.read.ensures.noted.is)) c.read.ensures.noted.noted
    (answered w (g.L.Source.left c.args.link.now) (g.L.Source.left c.loop-taken.link) c.loop-taken.reader.left _ (standing g.L.Sink c.loop-taken.pass c.loop-taken.watch c.loop-taken.link) c.loop-taken.taken _
    c.loop-taken.invariant.reached c.loop-taken.invariant.waits (ap g.L.Source.left c.read.ensures.noted.was) (ap g.L.Sink.written c.read.ensures.noted.was))
