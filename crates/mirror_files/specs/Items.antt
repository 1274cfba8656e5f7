-- Items of a state text: byte strings in order; the end of each is known.
use Rattle.std.specs.Prelude.{◌≡◌, ℕ, ◌<◌, ◌^◌, List, ◌++◌, length, All}
use Rattle.std.specs.List.{flat_map}
use Rattle.std.specs.Int.{w16, w32, w64, to_be_bytes}
use Rattle.mirror_files.specs.declared.items.Form.{Form}
use Rattle.mirror_files.specs.declared.items.Form.TheVariants.{Short, Long, Hashes}

-- the text of an item: after its length in two bytes or in four, big-endian, or alone
abbrev pub item_text : Form → List ℕ → List ℕ
item_text Short item = to_be_bytes w16 (length item) ++ item
item_text Long item = to_be_bytes w32 (length item) ++ item
item_text Hashes item = item

-- the item can be written in that form: its length fits, and an item that is written alone has 64 bytes, two hashes
abbrev pub IsItem : Form → List ℕ → Type 0
IsItem Short item = length item < 2 ^ 16
IsItem Long item = length item < 2 ^ 32
IsItem Hashes item = length item ≡ 64

-- items in order
abbrev pub items_text : Form → List (List ℕ) → List ℕ
items_text form items = flat_map (item_text form) items

-- a list of items, after their number in eight bytes, big-endian
abbrev pub list_text : Form → List (List ℕ) → List ℕ
list_text form items = to_be_bytes w64 (length items) ++ items_text form items

-- the items can be written as a list of that form
pub record AreItems (form : Form) (items : List (List ℕ)) : Type 0 where
  pub count : length items < 2 ^ 64
  pub fits : All (IsItem form) items
