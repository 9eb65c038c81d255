use Rattle.std.proofs.Common.{rules, ◌≡◌, ◌∷◌, ◌++◌, [], List, subst, sym}
use Rattle.path_glob.specs.Known.{AreKnown}
use Rattle.path_glob.specs.declared.known_sets.KnownSet.{KnownSet}
use Rattle.path_glob.proofs.KnownLemmas.{added}
use Rattle.path_glob.proofs.known_sets.KnownSets.place_of.Goals as goal

pub returns-in_err-ok-2-clause-known : goal.returns-in_err-ok-2-clause-known
returns-in_err-ok-2-clause-known c =
    let is : ◌≡◌ {A = List KnownSet} c.push.new.self.items (c.args.self.now ++ c.new.result ∷ []) = search rules in
    subst (AreKnown c.args.tables.now) (sym is)
    (added c.args.tables.now c.args.self.now c.args.states c.new.result c.requires.known c.requires.room
    (record { states_are = c.new.ensures.states; end = c.new.ensures.end; next = c.new.ensures.next })).known

pub returns-clause-known : goal.returns-clause-known
returns-clause-known c =
    let is : ◌≡◌ {A = List KnownSet} c.push.new.self.items (c.args.self.now ++ c.new.result ∷ []) = search rules in
    subst (AreKnown c.args.tables.now) (sym is)
    (added c.args.tables.now c.args.self.now c.args.states c.new.result c.requires.known c.requires.room
    (record { states_are = c.new.ensures.states; end = c.new.ensures.end; next = c.new.ensures.next })).known
