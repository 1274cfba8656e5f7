-- The command `serve`: the meaning of each answer for the state file and the line of its port.
use Rattle.std.specs.Prelude.{◌≡◌, ℕ, List, Result, Ok, Err}
use Rattle.std.specs.Io.KnownBytes.{Keeps}
use Rattle.signed_note.specs.Keys.{Key}
use Rattle.mirror_model.specs.View.{View}
use Rattle.program_io.specs.States.{OpensFile}
use Rattle.program_io.specs.declared.state_fault.StateFault.{StateFault}
use Rattle.program_words.specs.declared.commands.serve.Serve.{Serve as ServeWords}
use Rattle.program_io.specs.Moment.{Moment}
use Rattle.program_io.specs.Performing.{done, failed}
use Rattle.program_io.specs.Ports.{PrintsPort}
use Rattle.program_io.specs.declared.port.ListenFault.{ListenFault}
use Rattle.copy_commands.specs.declared.fault.ReportRunFault.{ReportRunFault}
use Rattle.copy_commands.specs.declared.fault.ReportRunFault.TheVariants.{Listen, State}

module _ (digest : List ℕ → List ℕ) (keys : List Key) (old new : Moment) where
  -- the state file gave no mirror, for the reason that the fault says, and nothing was written
  abbrev pub OpensNothing : ServeWords → StateFault → Type 0
  OpensNothing c fault =
      OpensFile digest c.mirror.log.origin.now keys old.files c.mirror.state.now (Err fault)
      × Keeps old.output new.output

  -- the state file gave a mirror, and the line of the port was written as the answer says
  pub record OpensAndTells (c : ServeWords) (answer : Result (Unit {0}) ListenFault) : Type 0 where
    pub view : View
    pub opened :
        OpensFile digest c.mirror.log.origin.now keys old.files c.mirror.state.now (Ok view)
    pub tells : PrintsPort c.port old.output new.output answer

  -- a mirror was opened and its port was printed, or there was no mirror and nothing was written
  abbrev pub DoesServe : ServeWords → Result ℕ ReportRunFault → Type 0
  DoesServe c (Ok status) = OpensAndTells c done × (status ≡ 0)
  DoesServe c (Err (State fault)) = OpensNothing c fault
  DoesServe c (Err (Listen fault)) = OpensAndTells c (failed fault)
  DoesServe c (Err other) = ⊥
