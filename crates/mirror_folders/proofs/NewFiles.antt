-- The files that are put since a log had m entries.
use Rattle.std.proofs.Common.{◌≡◌, ◌≢◌, ℕ, ◌/◌, ◌^◌, ◌≤◌, Bool, true, false, not, nat_eq}
use Rattle.std.proofs.Common.{refl, sym, ap, subst, ◌∙◌, inl, inr, arith}
use Rattle.std.specs.List.{Contains}
use Rattle.std.proofs.lemmas.Bool.{cases_lt, eq-eqb, eqb-true, false≢true}
use Rattle.std.proofs.lemmas.Bool.Decides.{eqb_tells}
use Rattle.std.proofs.lemmas.List.Elements.{All-contains_itself, All-weaker}
use Rattle.tlog_shape.specs.Edge.{width_of, edge_index_of}
use Rattle.tlog_tiles.specs.declared.paths.Path.{Path}
use Rattle.tlog_tiles.specs.declared.paths.Path.TheVariants.{Checkpoint, Tile, Entries}
use Rattle.mirror_folders.specs.Files.{paths_of, tile_paths}
use Rattle.mirror_folders.specs.FileLaws.{IsFileOf, IsWidestIn}
use Rattle.mirror_folders.specs.Since.{is_new, since_paths, width_at}
use Rattle.mirror_folders.specs.SinceLaws.{FilesOfSteps, FilesSinceAreNew}
use Rattle.std.proofs.Math.Nat.{zero-div}
use Rattle.mirror_folders.proofs.AllFiles.{files_are_all, full_widest, partial_widest, upto_hashes, widest_before}
use Rattle.mirror_folders.proofs.AllFiles.{widest_last}
use Rattle.mirror_folders.proofs.PlaceWidths.{width_full, width_edge, width_none}
use Rattle.mirror_folders.proofs.Filters.{filter_all, filter_has, filter_is}

-- ---- the width at a level and index

-- `width_at` is the widest width at its level and index
has_widest : (m level index width : ℕ) → level ≤ 7 → 1 ≤ width → width ≡ width_at m level index →
    IsWidestIn m level index width
has_widest m level index width fits some e = elim (cases_lt index (edge_index_of m level)) [
  | inl before ↦ subst (λ w. IsWidestIn m level index w) (sym (e ∙ width_full m level index before))
      (full_widest m level index fits before)
  | inr after ↦ elim (eqb_tells index (edge_index_of m level)) [
    | inl same ↦ (let is : width ≡ width_of m level = e ∙ width_edge m level index same.1 in
        let here = partial_widest m level fits (λ none. absurd (omega (arith, is, none, some))) in
        subst (λ w. IsWidestIn m level index w) (sym is)
        (subst (λ i. IsWidestIn m level i (width_of m level)) (sym same.1) here))
    | inr other ↦ (let none : width ≡ 0 = e ∙ width_none m level index after other.0 in
        absurd (omega (arith, none, some)))
  ]
]

-- the widest tile of a level and index has the width `width_at`
widest_is : (m level index width : ℕ) → IsWidestIn m level index width → width ≡ width_at m level index
widest_is m level index width h = elim (cases_lt index (edge_index_of m level)) [
  | inl before ↦ (widest_before m level index width h before).width_is ∙ sym (width_full m level index before)
  | inr after ↦ (let last = widest_last m level index width h after in
      last.width_is ∙ sym (width_edge m level index last.index_is))
]

-- ---- new files, and files that are not new

new_not : (width other : ℕ) → not (nat_eq width other) ≡ true → width ≡ other → ⊥
new_not width other e same = false≢true (ap not (sym (eq-eqb width other same)) ∙ e)

old_same : (width other : ℕ) → not (nat_eq width other) ≡ false → width ≡ other
old_same width other e = by (nat_eq width other) refl e
  where
    by : (t : Bool) → nat_eq width other ≡ t → not t ≡ false → width ≡ other
    by true f g = eqb-true width other f
    by false f g = absurd (false≢true (sym g))

pub new_is : (m : ℕ) (path : Path) → is_new m path ≡ true → IsFileOf m path → path ≡ Checkpoint
new_is m Checkpoint e h = refl
new_is m (Tile level index width) e h =
    absurd (new_not width (width_at m level index) e (widest_is m level index width h))
new_is m (Entries index width) e h = absurd (new_not width (width_at m 0 index) e (widest_is m 0 index width h))

pub old_is : (m n : ℕ) (path : Path) → is_new m path ≡ false → IsFileOf n path → IsFileOf m path × (path ≢ Checkpoint)
old_is m n Checkpoint e h = absurd (false≢true (sym e))
old_is m n (Tile level index width) e h = (
  has_widest m level index width h.within.level_fits h.within.some (old_same width (width_at m level index) e),
  λ same. cc,
)
old_is m n (Entries index width) e h = (
  has_widest m 0 index width h.within.level_fits h.within.some (old_same width (width_at m 0 index) e),
  λ same. cc,
)

-- a log of no entries has only its checkpoint
file_of_none : (path : Path) → path ≢ Checkpoint → IsFileOf 0 path → ⊥
file_of_none Checkpoint other h = other refl
file_of_none (Tile level index width) other h =
    let hashes = upto_hashes 0 level index width h.within in
    let some = h.within.some in
    let none : 0 / 256 ^ level ≡ 0 = zero-div (256 ^ level) in
    omega (arith, hashes, some, none)
file_of_none (Entries index width) other h =
    let hashes = upto_hashes 0 0 index width h.within in let some = h.within.some in omega (arith, hashes, some)

new_since_none : (n : ℕ) (path : Path) → IsFileOf n path → is_new 0 path ≡ true
new_since_none n path h = by (is_new 0 path) refl
  where
    by : (t : Bool) → is_new 0 path ≡ t → is_new 0 path ≡ true
    by true e = e
    by false e = let old = old_is 0 n path e h in absurd (file_of_none path old.1 old.0)

pub all_since_none : (n : ℕ) → since_paths 0 n ≡ paths_of n
all_since_none n = filter_all (is_new 0) (paths_of n)
    (All-weaker (λ (path : Path). Contains (paths_of n) path) (λ (path : Path). is_new 0 path ≡ true)
    (λ path h. new_since_none n path ((files_are_all n path).0 h)) (paths_of n) (All-contains_itself (paths_of n)))

since_is_new : (m n : ℕ) (path : Path) → Contains (since_paths m n) path →
    Contains (paths_of n) path × (Contains (paths_of m) path → path ≡ Checkpoint)
since_is_new m n path h =
    let is = filter_is (is_new m) (paths_of n) path h in
    (is.0, λ old. new_is m path is.1 ((files_are_all m path).0 old))

since_has : (m n : ℕ) (path : Path) → Contains (paths_of n) path →
    (Contains (paths_of m) path → path ≡ Checkpoint) → Contains (since_paths m n) path
since_has m n path h new = by (is_new m path) refl
  where
    by : (t : Bool) → is_new m path ≡ t → Contains (since_paths m n) path
    by true e = filter_has (is_new m) (paths_of n) path h e
    by false e =
        let old = old_is m n path e ((files_are_all n path).0 h) in
        absurd (old.1 (new ((files_are_all m path).1 old.0)))

pub files_since_are_new : FilesSinceAreNew
files_since_are_new m n = record {
  new = λ path. (since_is_new m n path, λ h. since_has m n path h.0 h.1);
  all = all_since_none n;
}

pub files_of_steps : FilesOfSteps
unfolding tile_paths
files_of_steps = record { first = refl; wider = refl; full = refl; begun = refl; same = refl }
