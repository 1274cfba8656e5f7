use Rattle.program_library.proofs.PulledStates.{pulled_states_are_loaded}
use Rattle.program_library.proofs.laws.pulled_state_law.Goals as goal

pub returns : goal.returns
returns c = pulled_states_are_loaded
