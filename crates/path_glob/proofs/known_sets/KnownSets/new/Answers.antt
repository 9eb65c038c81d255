use Rattle.std.proofs.Common.{rules, ◌≡◌, ◌∷◌, [], List, subst, sym}
use Rattle.path_glob.specs.Known.{AreKnown}
use Rattle.path_glob.specs.declared.known_sets.KnownSet.{KnownSet}
use Rattle.path_glob.proofs.KnownLemmas.{first_known}
use Rattle.path_glob.proofs.known_sets.KnownSets.new.Goals as goal

pub returns : goal.returns
returns c =
    let is : ◌≡◌ {A = List KnownSet} c.push.new.self.items (c.new.result ∷ []) = search rules in
    subst (AreKnown c.args.tables.now) (sym is)
    (first_known c.args.tables.now c.in_ok-none.field-0 c.words-words.result c.new.result c.requires c.words-words.ensures c.in_ok-none.ensures
    (record { states_are = c.new.ensures.states; end = c.new.ensures.end; next = c.new.ensures.next }))
