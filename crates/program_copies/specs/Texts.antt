-- The texts that `audit` and `entries` write.
use Rattle.std.specs.Prelude.{ℕ, ◌-◌, ◌*◌, min, List, [], ◌∷◌, ◌++◌, Bool, true, false, codes}
use Rattle.std.specs.List.{flat_map}
use Rattle.base64.specs.Engines.{standard}
use Rattle.base64.specs.GeneralPurpose.{encode_of}
use Rattle.mirror_model.specs.Texts.{point_text}
use Rattle.tlog_tiles.specs.Bundle.{bundle_text}

-- `audited SIZE ROOT`, with the root in standard base64
abbrev pub audited_line : ℕ → List ℕ → List ℕ
audited_line size root = codes "audited " ++ point_text size root ++ 10 ∷ []

-- an entry in standard base64, on its own line
abbrev pub entry_line : List ℕ → List ℕ
entry_line entry = encode_of standard entry ++ 10 ∷ []

-- the entries in order: in base64 with a line each, or each after its two-byte length
abbrev pub entries_text : Bool → List (List ℕ) → List ℕ
entries_text true entries = flat_map entry_line entries
entries_text false entries = bundle_text entries

-- the number of entries in the bundle of an index, in a log of that size
abbrev pub bundle_width : ℕ → ℕ → ℕ
bundle_width size index = min (size - 256 * index) 256
