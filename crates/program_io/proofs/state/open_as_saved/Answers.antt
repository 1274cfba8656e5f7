use Rattle.std.proofs.Common.{rules}
use Rattle.program_io.proofs.state.open_as_saved.Goals as goal

pub returns-in-Ok-load_bytes-clause-opens : goal.returns-in-Ok-load_bytes-clause-opens
returns-in-Ok-load_bytes-clause-opens g c =
    (search rules, (c.in-Ok-read_state.state.items, c.in-Ok-read_state.ensures, search rules))

pub returns-in-Ok-load_bytes-clause-saved : goal.returns-in-Ok-load_bytes-clause-saved
returns-in-Ok-load_bytes-clause-saved g c = λ is.
    let alike = rw c.deref.ensures.value at (c.is_as_saved-is_saved.ensures.saved is) in
    let loads = rw c.deref-2.ensures.value at c.in-Ok-load_bytes.ensures.loads in (
      c.in-Ok-read_state.state.items,
      alike g.H.TreeHash.digest c.args.origin.now _ c.in-Ok-load_bytes.mirror.view loads,
      c.in-Ok-read_state.ensures,
    )
