use Rattle.shared_store.proofs.LearnLemmas.{knows_joined, least_legal}
use Rattle.shared_store.proofs.store.Store.with_piece.Goals as goal

pub from_legal-requires : goal.from_legal-requires
from_legal-requires g c = least_legal

pub returns-clause-names : goal.returns-clause-names
returns-clause-names g c =
    knows_joined g.N.Named.start c.args.class c.args.pass.now c.piece_of-2.new.pass c.args.names.items c.pop.new.self.items c.in_ok-more.more.items c.append.new.self.items c.in-Some.last
    c.piece_of-2.ensures.alone.only.on c.requires.names c.in-Some.ensures.items c.in_ok-more.ensures.piece c.in_ok-append.ensures.items
