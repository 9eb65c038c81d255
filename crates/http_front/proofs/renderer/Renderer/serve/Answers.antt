use Rattle.std.proofs.Common.{◌≡◌, refl, subst, sym, ◌∙◌, rules}
use Rattle.outside_io.proofs.FrameLemmas.{rose_after}
use Rattle.outside_io.specs.Faults.{Rose}
use Rattle.http_front.specs.Links.{Ends, TellsShort}
use Rattle.http_front.specs.Origin.{origin_of, standing}
use Rattle.http_front.specs.Standing.{IsSilent}
use Rattle.http_front.specs.declared.ends.HttpEnd.{HttpEnd}
use Rattle.http_front.specs.declared.ends.HttpEnd.TheVariants as end
use Rattle.http_front.proofs.AskLemmas.{err_so}
use Rattle.http_front.proofs.PromptLemmas.{in_time_still}
use Rattle.http_front.proofs.EndLemmas.{apart, ends_short, tells_short}
use Rattle.http_front.proofs.renderer.Renderer.serve.Goals as goal

pub returns-then-eq-clause-ends : goal.returns-then-eq-clause-ends
returns-then-eq-clause-ends g c =
    let w = origin_of g.C.Clock g.N.Named c.args.self.now.clock.now in
    let failed = Rose (g.L.Sink.write_faults c.args.link.now) (g.L.Sink.write_faults c.write_all.new.out) in
    let left = g.L.Source.left c.args.link.now in
    let from = standing g.L.Sink c.args.pass.now c.args.watch.now c.args.link.now in
    let mid = standing g.L.Sink c.serve_pieces-end.new.pass c.serve_pieces-end.new.watch c.serve_pieces-end.new.link in
    let to = standing g.L.Sink c.serve_pieces-end.new.pass c.serve_pieces-end.new.watch c.write_all.new.out in
    let is : c.serve_pieces-end.result ≡ end.NoMemory = search rules in
    let wrote = apart g.L.Sink.beside_write g.L.Source.left g.L.Source.read_faults c.serve_pieces-end.new.link c.write_all.new.out g.met.L.Link.writes_apart c.write_all.ensures.beside in
    let ends : Ends w IsSilent end.NoMemory left (g.L.Source.left c.serve_pieces-end.new.link) from mid =
    subst (λ (r : HttpEnd). Ends w IsSilent r left (g.L.Source.left c.serve_pieces-end.new.link) from mid) is c.serve_pieces-end.ensures.ends in
    let told : TellsShort failed mid.written to.written =
    tells_short c.write_all.result failed c.deref.result.now mid.written to.written (c.deref.ensures.value ∙ c.args.buffers.now.reply) c.write_all.ensures.written c.write_all.ensures.prefix
    (err_so c.write_all.result _ failed (rose_after _ _ _ c.serve_pieces-end.ensures.writes.later) c.write_all.ensures.cause) in
    subst (λ (r : HttpEnd). Ends w (TellsShort failed) r left (g.L.Source.left c.write_all.new.out) from to) (sym is)
    (ends_short w failed left (g.L.Source.left c.serve_pieces-end.new.link) (g.L.Source.left c.write_all.new.out) from mid to ends wrote.0 refl told)

pub returns-then-eq-clause-prompt : goal.returns-then-eq-clause-prompt
returns-then-eq-clause-prompt g c =
    let w = origin_of g.C.Clock g.N.Named c.args.self.now.clock.now in
    let wrote = apart g.L.Sink.beside_write g.L.Source.left g.L.Source.read_faults c.serve_pieces-end.new.link c.write_all.new.out g.met.L.Link.writes_apart c.write_all.ensures.beside in
    in_time_still g.L.Source.left g.L.Sink.written w (g.L.Source.left c.args.link.now) (g.L.Source.left c.serve_pieces-end.new.link) (g.L.Source.left c.write_all.new.out)
    (standing g.L.Sink c.args.pass.now c.args.watch.now c.args.link.now) c.args.reads.now c.serve_pieces-end.new.reads wrote.0 c.serve_pieces-end.ensures.prompt
