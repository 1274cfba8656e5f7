-- Entry bundles (C2SP tlog-tiles, "Log Entries"), and the answers of a reader of bundles.
use Rattle.std.specs.Prelude.{◌≡◌, ℕ, ◌<◌, ◌^◌, List, ◌∷◌, ◌++◌, length, Result, Ok, Err, All, ⊤}
use Rattle.std.specs.List.{flat_map}
use Rattle.std.specs.Int.{w16, to_be_bytes}
use Rattle.tlog_tiles.specs.declared.bundle.BundleFault.{BundleFault}
use Rattle.tlog_tiles.specs.declared.bundle.BundleFault.TheVariants.{BundleShort, BundleLong}
use Rattle.tlog_tiles.specs.declared.bundle.BundleFault.TheVariants.{OutOfMemory}

-- an entry in a bundle: its length as two bytes, big-endian, then the entry
abbrev pub entry_text : List ℕ → List ℕ
entry_text e = to_be_bytes w16 (length e) ++ e

-- the entries of a bundle, in order
abbrev pub bundle_text : List (List ℕ) → List ℕ
bundle_text entries = flat_map entry_text entries

-- the bytes are a bundle of these entries; the width is their number
pub record IsBundle (width : ℕ) (bytes : List ℕ) (entries : List (List ℕ)) : Type 0 where
  pub count : length entries ≡ width
  pub fits : All (λ e. length e < 2 ^ 16) entries
  pub text : bytes ≡ bundle_text entries

-- the bytes begin with a bundle of that width, and the rest follows it
pub record HasBundle (width : ℕ) (bytes rest : List ℕ) : Type 0 where
  pub front : List ℕ
  pub entries : List (List ℕ)
  pub parts : bytes ≡ front ++ rest
  pub is_bundle : IsBundle width front entries

-- when a reader of bundles may return each answer
abbrev pub ReadsBundle : ℕ → List ℕ → Result (List (List ℕ)) BundleFault → Type 0
ReadsBundle width bytes (Ok entries) = IsBundle width bytes entries
ReadsBundle width bytes (Err BundleShort) = (rest : List ℕ) → ¬ HasBundle width bytes rest
ReadsBundle width bytes (Err BundleLong) =
    (next : ℕ) × (rest : List ℕ) × HasBundle width bytes (next ∷ rest)
ReadsBundle width bytes (Err OutOfMemory) = ⊤
