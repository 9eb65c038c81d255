use Rattle.std.proofs.Common.{rules, ◌≡◌, ◌<◌, ◌∙◌, ℕ, List, ap, ap₂, sym, subst, arith, length, get_or, set}
use Rattle.path_glob.specs.Known.{AreKnown, KeepsSets, StandAt, no_set, states_at}
use Rattle.path_glob.specs.Tables.{IsLed}
use Rattle.path_glob.specs.declared.known_sets.KnownSet.{KnownSet}
use Rattle.path_glob.proofs.KnownLemmas.{learned}
use Rattle.path_glob.proofs.PlaceLemmas.{any_default}
use Rattle.path_glob.proofs.known_sets.KnownSets.learn.Goals as goal

pub returns-clause-known : goal.returns-clause-known
returns-clause-known c =
    let tables = c.args.tables.now in
    let old = c.args.self.now in
    let at = c.args.at in
    let way = c.args.way in
    let states = c.in_ok-states.states in
    let place = c.in_ok-place.place in
    let sets = c.self-2.inside.sets.items in
    let now : ◌≡◌ {A = List KnownSet} c.place_of.new.self sets = sym c.self-2.view_is in
    let led : IsLed tables way (states_at old at) states = search rules in
    let known : AreKnown tables sets = subst (AreKnown tables) now c.in_ok-place.ensures.known in
    let kept : KeepsSets old sets = subst (λ (l : List KnownSet). KeepsSets l sets) c.self.view_is (subst (KeepsSets c.self.inside.sets.items) now c.in_ok-place.ensures.kept) in
    let stands : StandAt sets states place = subst (λ (l : List KnownSet). StandAt l states place) now c.in_ok-place.ensures.place in
    let near : at < length sets = omega (arith, c.requires.within, kept.longer) in
    let before : ◌≡◌ {A = KnownSet} c.index_mut.result.now (get_or sets at no_set) = c.index_mut.ensures.value ∙ any_default sets at c.index_mut.result.now no_set near in
    let link : ◌≡◌ {A = ℕ} c.in_ok-self-inside.field-0 place = search rules in
    let one : KnownSet = record { states = c.index_mut.result.now.states; is_end = c.index_mut.result.now.is_end; next = set c.index_mut.result.now.next way c.in_ok-self-inside.field-0 } in
    (learned tables old sets states at way place one c.requires.within c.requires.way led known kept stands (record {
      states = ap (λ (s : KnownSet). s.states) before;
      end = ap (λ (s : KnownSet). s.is_end) before;
      next = ap₂ (λ (l : List ℕ) (n : ℕ). set l way n) (ap (λ (s : KnownSet). s.next) before) link;
    })).known
