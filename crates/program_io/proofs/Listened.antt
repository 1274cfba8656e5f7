-- The line with the address at which connections are accepted, as `serve` answers for it.
use Rattle.std.proofs.Common.{◌≡◌, ℕ, ◌+◌, ◌≤◌, ◌<◌, List, [], ◌∷◌, ◌++◌, Option, Result, Ok, Err, inr, subst, ap, ◌∙◌, arith}
use Rattle.std.specs.Prelude.{codes}
use Rattle.std.specs.Fmt.{decimal}
use Rattle.std.specs.Net.Text.{ipv4_text}
use Rattle.std.proofs.lemmas.Fmt.{decimal_digit, decimal_step}
use Rattle.program_io.specs.Listening.{Listening}
use Rattle.program_io.specs.Ports.{PrintsListening, PrintsPort}
use Rattle.program_io.specs.declared.port.ListenFault.{ListenFault}
use Rattle.program_io.specs.declared.port.ListenFault.TheVariants.{OutOfMemory, PortFault, WriteFault}

-- ---- the text of the address

is_0 : decimal 0 ≡ codes "0"
is_0 = decimal_digit 0 (omega arith)

is_1 : decimal 1 ≡ codes "1"
is_1 = decimal_digit 1 (omega arith)

is_12 : decimal 12 ≡ codes "12"
is_12 = decimal_step 12 (omega arith) (omega arith) ∙ ap (λ (d : List ℕ). d ++ codes "2") is_1

is_127 : decimal 127 ≡ codes "127"
is_127 = decimal_step 127 (omega arith) (omega arith) ∙ ap (λ (d : List ℕ). d ++ codes "7") is_12

host_is : ipv4_text (127 ∷ 0 ∷ 0 ∷ 1 ∷ []) ≡ codes "127.0.0.1"
host_is =
    ap (λ (d : List ℕ). d ++ codes "." ++ decimal 0 ++ codes "." ++ decimal 0 ++ codes "." ++ decimal 1) is_127
    ∙ (ap (λ (d : List ℕ). codes "127" ++ codes "." ++ d ++ codes "." ++ d ++ codes "." ++ decimal 1) is_0
    ∙ ap (λ (d : List ℕ). codes "127" ++ codes "." ++ codes "0" ++ codes "." ++ codes "0" ++ codes "." ++ d) is_1)

-- ---- the line at 127.0.0.1

-- the address as text
abbrev host : List ℕ
host = ipv4_text (127 ∷ 0 ∷ 0 ∷ 1 ∷ [])

module _ (port : ℕ) (old new : Option (List ℕ)) where
  -- the answer of the opening has its line of that address
  abbrev Listens : List ℕ → Result Listening ListenFault → Type 0
  Listens text answer = PrintsListening (record { host = text; port = port }) old new answer

  at_host : (answer : Result Listening ListenFault) → Listens host answer → Listens (codes "127.0.0.1") answer
  at_host answer h = subst (λ text. Listens text answer) host_is h

  -- the port was not opened, or its line was not written
  pub none_opened : (fault : ListenFault) → Listens host (Err fault) → PrintsPort {T = Unit {0}} port old new (Err fault)
  none_opened PortFault h = at_host (Err PortFault) h
  none_opened WriteFault h = at_host (Err WriteFault) h
  none_opened OutOfMemory h = h

  module _ (opened : Listening) (h : Listens host (Ok opened)) where
    -- the line was written
    pub line_written : PrintsPort {T = Unit {0}} port old new (Ok tt)
    line_written = at_host (Ok opened) h

    -- a connection was not accepted, after the line was written
    pub none_accepted : (fault : ListenFault) → fault ≡ PortFault → PrintsPort {T = Unit {0}} port old new (Err fault)
    none_accepted fault same = rw same (inr (at_host (Ok opened) h))
