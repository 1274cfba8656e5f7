-- The address at which connections are accepted.
use Rattle.std.specs.Prelude.{ℕ, List, codes}

-- the text of an address of this host, and a port
pub record Listening : Type 0 where
  pub host : List ℕ
  pub port : ℕ

-- 127.0.0.1, to which only clients on this host connect, and that port
abbrev pub local : ℕ → Listening
local port = record { host = codes "127.0.0.1"; port = port }
