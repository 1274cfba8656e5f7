-- Copies of one size and root have the same files.
use Rattle.std.proofs.Common.{◌≡◌, ◌≢◌, ℕ, List, [], ◌++◌, length, inl, inr, refl, sym, subst, ◌∙◌}
use Rattle.std.specs.List.{Contains}
use Rattle.std.specs.FinSet as set
use Rattle.std.proofs.lemmas.List.Elements.{All-contains_itself, All-weaker, Contains-append_left, Contains-append_right, recursion_from_All}
use Rattle.tlog_hash.specs.Tree.{mth, strings}
use Rattle.tlog_tiles.specs.declared.paths.Path.{Path}
use Rattle.tlog_tiles.specs.declared.paths.Path.TheVariants.{Checkpoint, Tile, Entries}
use Rattle.node_store.specs.Strings.{Has, HasAll, NoClash}
use Rattle.mirror_model.specs.Strings.{IsDigest}
use Rattle.mirror_model.proofs.OneLists.{only}
use Rattle.mirror_model.proofs.StringSets.{has_from_listed, held_from_all}
use Rattle.mirror_folders.specs.Shelf.{Put, Stands}
use Rattle.mirror_folders.specs.Files.{paths_of, served_bytes}
use Rattle.mirror_folders.specs.Holding.{HoldsFiles}
use Rattle.copy_follow.specs.Copies.{CopiesAreSame}
use Rattle.copy_follow.specs.Exported.{CopiesAreExported, HoldsExported, PrunedCopiesAreSame}
use Rattle.copy_follow.specs.Pruned.{EachFileStands}
use Rattle.copy_follow.proofs.CopyMoments.{copy_files}
use Rattle.copy_follow.proofs.PrunedFiles.{listed_file}
use Rattle.copy_follow.proofs.TipReads.{stands_has, stands_one}

-- the set of a list has the strings of each list that it contains
holds_listed : (all wanted : List (List ℕ)) → ((s : List ℕ) → Contains wanted s → Contains all s) →
    HasAll (set.from_list all) wanted
holds_listed all wanted within =
    held_from_all (set.from_list all) wanted
    (recursion_from_All (Has (set.from_list all)) wanted
    (All-weaker (Contains wanted) (Has (set.from_list all)) (λ s c. has_from_listed all s (within s c)) wanted
    (All-contains_itself wanted)))

module _ (digest : List ℕ → List ℕ) (hash : IsDigest digest) (first second : List (List ℕ))
    (size : length first ≡ length second) (root : mth digest first ≡ mth digest second)
    (clean : NoClash digest (set.from_list (strings digest first ++ strings digest second))) where
  pub same_entries : first ≡ second
  same_entries =
      let all = strings digest first ++ strings digest second in
      only digest (set.from_list all) hash clean (length first) (mth digest first) first second
      (record {
        size_is = refl;
        root_is = refl;
        are_held = holds_listed all (strings digest first)
            (λ s c. Contains-append_left (strings digest first) (strings digest second) s c);
      })
      (record {
        size_is = sym size;
        root_is = sym root;
        are_held = holds_listed all (strings digest second)
            (λ s c. Contains-append_right (strings digest first) (strings digest second) s c);
      })

-- if two shelves have the files of the same entries, the files of the first are on the second
one_way : (digest : List ℕ → List ℕ) (entries : List (List ℕ)) (first second : List Put) →
    HoldsFiles digest entries first → HoldsFiles digest entries second → (path : Path) → path ≢ Checkpoint →
    Contains (paths_of (length entries)) path → (bytes : List ℕ) → Stands first path bytes → Stands second path bytes
one_way digest entries first second held others path other listed bytes stands =
    let b : List ℕ = served_bytes digest [] entries path in
    let same : b ≡ bytes = stands_one first path b bytes (held path other listed) stands in
    subst (λ x. Stands second path x) same (others path other listed)

pub copies_are_same : CopiesAreSame
copies_are_same digest hash origin first_note second_note first second first_puts second_puts copy copy' size root clean path
    other listed bytes =
    let same : first ≡ second = same_entries digest hash first second size root clean in
    let held = copy_files digest origin first_note first first_puts copy in
    let held' = subst (λ l. HoldsFiles digest l second_puts) (sym same)
    (copy_files digest origin second_note second second_puts copy') in (
      one_way digest first first_puts second_puts held held' path other listed bytes,
      one_way digest first second_puts first_puts held' held path other listed bytes,
    )

-- ---- copies whose partial files were replaced

exported : (digest : List ℕ → List ℕ) (note : List ℕ) (entries : List (List ℕ)) (puts : List Put) →
    EachFileStands digest entries puts → HoldsExported digest note entries puts
exported digest note entries puts files Checkpoint other listed = absurd (other refl)
exported digest note entries puts files (Tile level index width) other listed =
    files (Tile level index width) (listed_file (length entries) (Tile level index width) other listed)
exported digest note entries puts files (Entries index width) other listed =
    files (Entries index width) (listed_file (length entries) (Entries index width) other listed)

pub copies_are_exported : CopiesAreExported
copies_are_exported digest hash origin note entries puts copy state_note served size root clean =
    let same : entries ≡ served = same_entries digest hash entries served (sym size) (sym root) clean in
    subst (λ l. HoldsExported digest state_note l puts) same (exported digest state_note entries puts copy.files)

-- what is on the shelf has the bytes that an export puts
one_file : (digest : List ℕ → List ℕ) (entries : List (List ℕ)) (puts : List Put) → HoldsExported digest [] entries puts →
    (path : Path) → path ≢ Checkpoint → Contains (paths_of (length entries)) path → (bytes : List ℕ) →
    Stands puts path bytes → bytes ≡ served_bytes digest [] entries path
one_file digest entries puts holds path other listed bytes stands = elim (holds path other listed) [
  | inl there ↦ stands_one puts path bytes (served_bytes digest [] entries path) stands there
  | inr way ↦ absurd (way.gone (stands_has puts path bytes stands))
]

pub pruned_are_same : PrunedCopiesAreSame
pruned_are_same digest hash origin first_note second_note first second first_puts second_puts copy copy' size root clean path
    other listed bytes bytes' stands stands' =
    let same : first ≡ second = same_entries digest hash first second size root clean in
    let held = exported digest [] first first_puts copy.files in
    let held' = subst (λ l. HoldsExported digest [] l second_puts) (sym same) (exported digest [] second second_puts copy'.files) in
    one_file digest first first_puts held path other listed bytes stands
    ∙ sym (one_file digest first second_puts held' path other listed bytes' stands')
