-- Notions for sets of strings that trees hash.
use Rattle.std.specs.Prelude.{◌≡◌, ◌≢◌, ℕ, List, length}
use Rattle.node_store.specs.Strings.{Strings, Has}

-- each digest has 32 bytes
abbrev pub IsDigest : (List ℕ → List ℕ) → Type 0
IsDigest digest = (string : List ℕ) → length (digest string) ≡ 32

-- two different strings of the set share a digest
pub record HasClash (digest : List ℕ → List ℕ) (strings : Strings) : Type 0 where
  pub first : List ℕ
  pub second : List ℕ
  pub first_held : Has strings first
  pub second_held : Has strings second
  pub same_digest : digest first ≡ digest second
  pub differ : first ≢ second
