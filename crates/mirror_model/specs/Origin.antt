-- Possible origins of logs (C2SP tlog-checkpoint, "Note text": the first line is the origin of the
-- log).
use Rattle.std.specs.Prelude.{ℕ, ◌<◌, ◌≤◌, List, length, All}
use Rattle.std.specs.Str.{IsUtf8}

-- the origin is UTF-8 of 1 to 65,535 bytes, with no character below U+0020 (in UTF-8, a byte below
-- 128 is a character)
pub record IsOrigin (origin : List ℕ) : Type 0 where
  pub utf8 : IsUtf8 origin
  pub some : 0 < length origin
  pub most : length origin ≤ 65535
  pub printed : All (λ byte. 32 ≤ byte) origin
