use Rattle.std.proofs.Common.{◌≡◌, arith, false, length, None}
use Rattle.path_glob.specs.States.{state_of}
use Rattle.path_glob.proofs.TableLemmas.{all_states_in, have_room, no_states_in, one_state_in}
use Rattle.path_glob.proofs.tables.enter_states.Goals as goal

pub loop-place-init : goal.loop-place-init
loop-place-init c = no_states_in c.args.states.now c.args.over.now c.requires

pub enter_state-requires : goal.enter_state-requires
enter_state-requires c =
    let count : length c.loop-place.over ≡ 256 = omega (arith, c.requires.count_is) in
    have_room c.args.states.now c.loop-place.over c.loop-place.place count (omega arith) c.loop-place.invariant

pub loop-place-preserved : goal.loop-place-preserved
loop-place-preserved c =
    one_state_in c.args.states.now c.loop-place.over c.enter_state.new.over c.loop-place.place (state_of false false None) (omega arith) c.loop-place.invariant c.enter_state.ensures

pub returns : goal.returns
returns c =
    let count : length c.loop-place.over ≡ 256 = omega (arith, c.requires.count_is) in
    all_states_in c.args.states.now c.loop-place.over c.loop-place.place count (omega arith) c.loop-place.invariant
