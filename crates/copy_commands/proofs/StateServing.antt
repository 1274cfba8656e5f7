-- How `serve` ends, given the answer of its server.
use Rattle.std.proofs.Common.{◌≡◌, ℕ, List, Result, Ok, Err}
use Rattle.std.proofs.Common.{inl, refl}
use Rattle.std.specs.Result.{result_map_both}
use Rattle.signed_note.specs.Keys.{Key}
use Rattle.mirror_model.specs.View.{View}
use Rattle.program_io.specs.States.{OpensFile}
use Rattle.program_words.specs.declared.commands.serve.Serve.{Serve as ServeWords}
use Rattle.program_io.specs.Moment.{Moment}
use Rattle.program_io.specs.Performing.{Performs, Stays}
use Rattle.program_io.specs.Ports.{PrintsPort}
use Rattle.program_io.specs.declared.port.ListenFault.{ListenFault}
use Rattle.program_io.proofs.Performing.{performs, performs_done, quiet_port}
use Rattle.copy_commands.specs.Faults.{IsLate}
use Rattle.copy_commands.specs.StateServe.{DoesServe}
use Rattle.copy_commands.specs.declared.fault.ReportRunFault.{ReportRunFault}
use Rattle.copy_commands.specs.declared.fault.ReportRunFault.TheVariants.{Listen}

-- a mirror was opened and served
pub serves : (digest : List ℕ → List ℕ) (keys : List Key) (old new : Moment) (c : ServeWords) →
    new.files ≡ old.files → new.puts ≡ old.puts → (v : View) →
    OpensFile digest c.mirror.log.origin.now keys old.files c.mirror.state.now (Ok v) →
    (was : Result (Unit {0}) ListenFault) (is : Result ℕ ReportRunFault) →
    is ≡ result_map_both (λ _. 0) (λ fault. Listen fault) was → PrintsPort c.port old.output new.output was →
    Performs DoesServe IsLate Stays digest keys old new c is
serves digest keys old new c files folders v opened (Ok x) is same tells =
    rw same (performs_done DoesServe IsLate Stays digest keys old new c (files, folders)
    0 (inl refl) (record { view = v; opened = opened; tells = tells }, refl))
serves digest keys old new c files folders v opened (Err fault) is same tells =
    rw same (performs DoesServe IsLate Stays digest keys old new c (files, folders)
    (Err (Listen fault)) tt (quiet_port c.port old.output new.output fault tells)
    record { view = v; opened = opened; tells = tells })
