-- The files that are flushed before the checkpoint, as a copy is brought.
use Rattle.std.proofs.Common.{◌≡◌, ◌≢◌, ◌⊎◌, ℕ, ◌+◌, ◌-◌, ◌*◌, ◌/◌, ◌^◌, ◌<◌, ◌≤◌, List, Option, Result, Ok, Err, OnOk, refl, sym, ap, subst, ◌∙◌, arith, inl, inr}
use Rattle.std.proofs.lemmas.Bool.{cases_lt}
use Rattle.tlog_shape.specs.Edge.{width_of, edge_index_of}
use Rattle.tlog_tiles.specs.declared.paths.Path.{Path}
use Rattle.tlog_tiles.specs.declared.paths.Path.TheVariants.{Checkpoint, Tile, Entries}
use Rattle.tlog_tiles.specs.Tiles.{IsWithin}
use Rattle.mirror_folders.specs.FileLaws.{IsWidestIn}
use Rattle.mirror_folders.specs.Flushes.{Flushes, FlushesAll, IsFlushedFirst, Secures}
use Rattle.mirror_folders.proofs.Securing.{loses_none, secures_fewer, secures_join, then_secures}
use Rattle.copy_places.proofs.Prefixes.{within_more}
use Rattle.copy_follow.specs.Growing.{IsBelow, Tip}
use Rattle.copy_follow.specs.Secured.{IsLastBundle, IsNewBelow, IsNewFileOf, IsNewInEdge, IsNewInRow, IsNewLast, IsNewLastBelow}
use Rattle.copy_follow.proofs.Below.{below_bundle, below_child}
use Rattle.copy_follow.proofs.Finishing.{full_under, partial_at}
use Rattle.copy_follow.proofs.TileRows.{IsFirst, old_below}

-- the answer of the last call is the answer
pub ok_weaker : {T E P Q : Type 0} (r : Result T E) → (P → Q) → OnOk r P → OnOk r Q
ok_weaker (Ok x) f p = f p
ok_weaker (Err e) f p = p

-- the record stayed, and then these files were recorded
pub after_still : (so : Path → Type 0) (x y z : Option Flushes) → y ≡ x → Secures so y z → Secures so x z
after_still so x y z same secured = then_secures so x y z (loses_none x y same) secured

-- ---- a full tile

pub bundle_secured : (m index : ℕ) (x y z : Option Flushes) → Secures (λ p. p ≡ Entries index 256) x y →
    Secures (λ p. p ≡ Tile 0 index 256) y z → Secures (IsNewBelow m 0 index) x z
bundle_secured m index =
    secures_join (λ p. p ≡ Entries index 256) (λ p. p ≡ Tile 0 index 256) (IsNewBelow m 0 index) (λ p is.
    elim (below_bundle index p is.0) [ inl tile ↦ inr tile | inr bundle ↦ inl bundle ])

pub tile_secured : (m level index : ℕ) → 1 ≤ level → (x y z : Option Flushes) →
    Secures (IsNewInRow m level index 256) x y → Secures (λ p. p ≡ Tile level index 256) y z →
    Secures (IsNewBelow m level index) x z
tile_secured m level index some =
    secures_join (IsNewInRow m level index 256) (λ p. p ≡ Tile level index 256) (IsNewBelow m level index)
    (λ p is. where_below p is)
  where
    up : level - 1 + 1 ≡ level
    up = omega arith

    where_below : (p : Path) → IsNewBelow m level index p →
        IsNewInRow m level index 256 p ⊎ (p ≡ Tile level index 256)
    where_below p is =
        elim (below_child (level - 1) index p (subst (λ l. IsBelow l index p) (sym up) is.0)) [
          | inl tile ↦ inr (tile ∙ ap (λ l. Tile l index 256) up)
          | inr child ↦ inl (child.0, child.1, (child.2, is.1))
        ]

-- ---- a row

-- the files below the first hashes are the tip's
pub row_first : (tip : Tip) (level index : ℕ) → tip.size < (index + 1) * 256 ^ (level + 1) → 1 ≤ level → level ≤ 7 →
    (row : List (List ℕ)) (first : ℕ) → IsFirst tip level index row first → (x : Option Flushes) →
    Secures (IsNewInRow tip.size level index first) x x
row_first tip level index beyond some upto row first is x =
    secures_fewer (λ _. ⊥) (IsNewInRow tip.size level index first)
    (λ p new. new.2.1 (old_below tip level index beyond some upto row first is new.0 new.1 p new.2.0)) x x
    (loses_none x x refl)

pub row_more : (m level index i : ℕ) (x y z : Option Flushes) → Secures (IsNewInRow m level index i) x y →
    Secures (IsNewBelow m (level - 1) (256 * index + i)) y z → Secures (IsNewInRow m level index (i + 1)) x z
row_more m level index i =
    secures_join (IsNewInRow m level index i) (IsNewBelow m (level - 1) (256 * index + i))
    (IsNewInRow m level index (i + 1)) (λ p is. where_row p is)
  where
    where_row : (p : Path) → IsNewInRow m level index (i + 1) p →
        IsNewInRow m level index i p ⊎ IsNewBelow m (level - 1) (256 * index + i) p
    where_row p is = elim (cases_lt is.0 i) [
      | inl lower ↦ inl (is.0, lower, is.2)
      | inr last ↦
          let lt = is.1 in
          let same : is.0 ≡ i = omega arith in
          inr (subst (λ k. IsNewBelow m (level - 1) (256 * index + k) p) same is.2)
    ]

-- ---- the edge

pub edge_first : (m n : ℕ) (x : Option Flushes) → Secures (IsNewInEdge m n 8) x x
edge_first m n x =
    secures_fewer (λ _. ⊥) (IsNewInEdge m n 8)
    (λ p is. let low = is.1 in let upto = is.2 in absurd (omega arith)) x x (loses_none x x refl)

pub edge_more : (m n low level : ℕ) → low ≡ level + 1 → (x y z : Option Flushes) → Secures (IsNewInEdge m n low) x y →
    Secures (IsNewInRow m level (edge_index_of n level) (width_of n level)) y z → Secures (IsNewInEdge m n level) x z
edge_more m n low level next =
    secures_join (IsNewInEdge m n low) (IsNewInRow m level (edge_index_of n level) (width_of n level))
    (IsNewInEdge m n level) (λ p is. where_edge p is)
  where
    where_edge : (p : Path) → IsNewInEdge m n level p →
        IsNewInEdge m n low p ⊎ IsNewInRow m level (edge_index_of n level) (width_of n level) p
    where_edge p is = elim (cases_lt level is.0) [
      | inl above ↦ inl (is.0, omega arith, is.2, is.3)
      | inr here ↦
          let lower = is.1 in
          let same : is.0 ≡ level = omega arith in
          inr (subst (λ l. IsNewInRow m l (edge_index_of n l) (width_of n l) p) same is.3)
    ]

-- there is no partial file
pub no_bundle : (n : ℕ) → 0 ≡ width_of n 0 → (x : Option Flushes) → Secures (IsLastBundle n) x x
no_bundle n none x =
    secures_fewer (λ _. ⊥) (IsLastBundle n) (λ p is. let some = is.0 in absurd (omega (arith, none, some))) x x
    (loses_none x x refl)

pub one_bundle : (n : ℕ) (path : Path) → path ≡ Entries (edge_index_of n 0) (width_of n 0) → (x y : Option Flushes) →
    Secures (λ p. p ≡ path) x y → Secures (IsLastBundle n) x y
one_bundle n path same =
    secures_fewer (λ p. p ≡ path) (IsLastBundle n) (λ p is. is.1 ∙ sym same)

pub no_tile : (m n level : ℕ) → (1 ≤ width_of n level → IsWithin m (Tile level (edge_index_of n level) (width_of n level))) →
    (x : Option Flushes) → Secures (IsNewLast m n level) x x
no_tile m n level old x =
    secures_fewer (λ _. ⊥) (IsNewLast m n level)
    (λ p is. is.2 (subst (λ q. IsWithin m q) (sym is.1) (old is.0))) x x (loses_none x x refl)

pub one_tile : (m n level : ℕ) (path : Path) → path ≡ Tile level (edge_index_of n level) (width_of n level) →
    (x y : Option Flushes) → Secures (λ p. p ≡ path) x y → Secures (IsNewLast m n level) x y
one_tile m n level path same =
    secures_fewer (λ p. p ≡ path) (IsNewLast m n level) (λ p is. is.1 ∙ sym same)

pub tiles_first : (m n : ℕ) (x : Option Flushes) → Secures (IsNewLastBelow m n 0) x x
tiles_first m n x =
    secures_fewer (λ _. ⊥) (IsNewLastBelow m n 0) (λ p is. let lt = is.1 in absurd (omega arith)) x x (loses_none x x refl)

pub tiles_more : (m n level : ℕ) (x y z : Option Flushes) → Secures (IsNewLastBelow m n level) x y →
    Secures (IsNewLast m n level) y z → Secures (IsNewLastBelow m n (level + 1)) x z
tiles_more m n level =
    secures_join (IsNewLastBelow m n level) (IsNewLast m n level) (IsNewLastBelow m n (level + 1))
    (λ p is. where_last p is)
  where
    where_last : (p : Path) → IsNewLastBelow m n (level + 1) p → IsNewLastBelow m n level p ⊎ IsNewLast m n level p
    where_last p is = elim (cases_lt is.0 level) [
      | inl lower ↦ inl (is.0, lower, is.2)
      | inr here ↦
          let lt = is.1 in
          let same : is.0 ≡ level = omega arith in
          inr (subst (λ l. IsNewLast m n l p) same is.2)
    ]

-- ---- all files

module _ (m n : ℕ) (small : n < 9223372036854775808) where
  abbrev Other : Path → Type 0
  Other p = IsLastBundle n p ⊎ IsNewLastBelow m n 8 p

  tile_where : (level index width : ℕ) → IsWidestIn n level index width → (IsWithin m (Tile level index width) → ⊥) →
      IsNewInEdge m n 1 (Tile level index width) ⊎ Other (Tile level index width)
  tile_where level index width file new =
      let fits = file.within in
      let upto = fits.upto in
      let most = fits.level_fits in
      elim (cases_lt width 256) [
        | inl part ↦
            let at = partial_at n level index width file part in
            inr (inr (
              level,
              omega arith,
              (subst (λ k. 1 ≤ k) at.1 fits.some, (λ j. Tile level (at.0 j) (at.1 j)), new),
            ))
        | inr full ↦
            let whole : width ≡ 256 = omega arith in
            let within : (256 * index + 256) * 256 ^ level ≤ n =
            subst (λ k. (256 * index + k) * 256 ^ level ≤ n) whole fits.within in
            let u = full_under n level index small fits.level_fits within in
            inl (u.top, u.some, u.upto, (u.k, u.within, ((u.lower, u.is, whole), new)))
      ]

  bundle_where : (index width : ℕ) → IsWidestIn n 0 index width → (IsWithin m (Entries index width) → ⊥) →
      IsNewInEdge m n 1 (Entries index width) ⊎ Other (Entries index width)
  bundle_where index width file new =
      let fits = file.within in
      let upto = fits.upto in
      elim (cases_lt width 256) [
        | inl part ↦
            let at = partial_at n 0 index width file part in
            inr (inl (subst (λ k. 1 ≤ k) at.1 fits.some, (λ j. Entries (at.0 j) (at.1 j))))
        | inr full ↦
            let whole : width ≡ 256 = omega arith in
            let within : (256 * index + 256) * 256 ^ 0 ≤ n =
            subst (λ k. (256 * index + k) * 256 ^ 0 ≤ n) whole fits.within in
            let u = full_under n 0 index small (omega arith) within in
            let all : u.top - 1 - 0 ≡ u.top - 1 = omega arith in
            inl (u.top, u.some, u.upto, (u.k, u.within, ((ap (λ t. index / 256 ^ t) (sym all) ∙ u.is, whole), new)))
      ]

  file_where : (path : Path) → IsNewFileOf m n path → IsNewInEdge m n 1 path ⊎ Other path
  file_where Checkpoint is = absurd (is.other refl)
  file_where (Tile level index width) is = tile_where level index width is.file is.new
  file_where (Entries index width) is = bundle_where index width is.file is.new

  -- the full files below the edge, the partial bundle and the partial tiles, and last the checkpoint
  pub all_flushed : (x y z w v : Option Flushes) → Secures (IsNewInEdge m n 1) x y → Secures (IsLastBundle n) y z →
      Secures (IsNewLastBelow m n 8) z w → FlushesAll w v → IsFlushedFirst (IsNewFileOf m n) x v
  all_flushed x y z w v full bundle tiles last = record {
    before = w;
    secured = secures_join (IsNewInEdge m n 1) Other (IsNewFileOf m n) file_where x y w full
        (secures_join (IsLastBundle n) (IsNewLastBelow m n 8) Other (λ p is. is) y z w bundle tiles);
    last = last;
  }

-- the record stayed before
pub flushed_after : (so : Path → Type 0) (x y z : Option Flushes) → y ≡ x → IsFlushedFirst so y z → IsFlushedFirst so x z
flushed_after so x y z same f = subst (λ q. IsFlushedFirst so q z) same f

-- a log without entries has no tile and no bundle
pub none_flushed : (m n : ℕ) → n ≤ m → (x y : Option Flushes) → FlushesAll x y → IsFlushedFirst (IsNewFileOf m n) x y
none_flushed m n le x y last = record {
  before = x;
  secured = secures_fewer (λ _. ⊥) (IsNewFileOf m n) (λ p is. no_file p is) x x (loses_none x x refl);
  last = last;
}
  where
    no_file : (p : Path) → IsNewFileOf m n p → ⊥
    no_file Checkpoint is = is.other refl
    no_file (Tile level index width) is = is.new (within_more n m (Tile level index width) le is.file.within)
    no_file (Entries index width) is = is.new (within_more n m (Entries index width) le is.file.within)
