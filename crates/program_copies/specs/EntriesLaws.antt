-- The written entries of a copy are those of each list of the copy's size and root, if no hashed strings clash.
use Rattle.std.specs.Prelude.{◌≡◌, ℕ, ◌<◌, List, [], ◌++◌, length, Bool, Option}
use mathlib.Core.Logic.{inl, inr}
use Rattle.std.specs.FinSet as set
use Rattle.signed_note.specs.Keys.{Key}
use Rattle.tlog_hash.specs.Tree.{mth, strings}
use Rattle.node_store.specs.Strings.{NoClash}
use Rattle.mirror_folders.specs.Shelf.{Put}
use Rattle.mirror_model.specs.Strings.{IsDigest}
use Rattle.log_reader.specs.EdgeRows.{Edge}
use Rattle.log_reader.specs.Truth.{read_strings}
use Rattle.log_reader.specs.Ways.{IsShownBundle}
use Rattle.program_copies.specs.Copied.{WritesCopied, WritesSomeCopied}
use Rattle.program_copies.specs.Served.{WritesAll, WritesFirst}
use Rattle.program_copies.specs.Shown.{AreShownFrom}

module _ (digest : List ℕ → List ℕ) (edge : Edge) where
  -- the strings that are hashed to show a bundle: those of the edge, of the way up from it, and of the tree of its own entries
  abbrev pub shown_strings : {index : ℕ} {bytes : List ℕ} → IsShownBundle digest edge index bytes → List (List ℕ)
  shown_strings (inl end) = read_strings digest edge [] ++ strings digest end.has_leaves.entries
  shown_strings (inr full) = read_strings digest edge full.shown.way ++ strings digest full.has_leaves.entries

  -- the list has the edge's size, and that root. For each shown entry: no two different strings of the list's tree, and of those that are
  -- hashed to show the entry's bundle, share a digest
  pub record IsEntriesClear (root : List ℕ) (from : ℕ) (found : List (List ℕ)) (shown : AreShownFrom digest edge from found)
      (entries : List (List ℕ)) : Type 0 where
    pub size_is : length entries ≡ edge.size
    pub root_is : mth digest entries ≡ root
    pub clear : (k : ℕ) (lt : k < length found) →
        NoClash digest (set.from_list (strings digest entries ++ shown_strings (shown k lt).shown))

-- the entries that were written of the copy are those of the list: all from FROM up to TO, or a prefix of their text
abbrev pub ShownEntriesAreTrue : Type 0
ShownEntriesAreTrue =
    (digest : List ℕ → List ℕ) → IsDigest digest → (origin : List ℕ) (keys : List Key) (held : Option (List Put))
    (from to : ℕ) (base64 : Bool) (old new : Option (List ℕ)) (entries : List (List ℕ)) →
    ((all : WritesCopied digest origin keys held from to base64 old new) →
    IsEntriesClear digest all.edge all.opened.root from all.written.entries all.written.shown entries →
    WritesAll entries base64 from to old new)
    × ((some : WritesSomeCopied digest origin keys held from to base64 old new) →
    IsEntriesClear digest some.edge some.opened.root from some.written.entries some.written.shown entries →
    WritesFirst entries base64 from to old new)
