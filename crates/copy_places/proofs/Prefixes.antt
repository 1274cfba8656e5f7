-- A file of the first entries of a list is a file of the list.
use Rattle.std.proofs.Common.{◌≡◌, ℕ, zero, suc, ◌+◌, ◌*◌, ◌^◌, ◌≤◌, List, ◌∷◌, ◌++◌, length, take, drop, map, refl}
use Rattle.std.proofs.Common.{sym, ap, ◌∙◌, arith, length-append}
use Rattle.std.proofs.lemmas.List.{take-append-le, drop-append-le, length-drop, take_at}
use Rattle.tlog_hash.specs.Rows.{part, ranges, level_row}
use Rattle.tlog_hash.specs.Tree.{mth}
use Rattle.tlog_tiles.specs.declared.paths.Path.{Path}
use Rattle.tlog_tiles.specs.declared.paths.Path.TheVariants.{Checkpoint, Tile, Entries}
use Rattle.tlog_tiles.specs.Tiles.{IsWithin}
use Rattle.mirror_model.proofs.TrueItems.{prefixes_serve_same}
use Rattle.mirror_sources.specs.Honest.{true_bytes}

pub part_front : {A : Type 0} (start len : ℕ) (a b : List A) → start + len ≤ length a →
    part start len (a ++ b) ≡ part start len a
part_front start len a b le =
    ap (take len) (drop-append-le start a b (omega arith))
    ∙ take-append-le len (drop start a) b (omega (arith, length-drop start a))

pub ranges_front : {A : Type 0} (b first count : ℕ) (xs ys : List A) → (first + count) * b ≤ length xs →
    ranges b first count (xs ++ ys) ≡ ranges b first count xs
ranges_front b first zero xs ys le = refl
ranges_front b first (suc count) xs ys le =
    let more : (first + suc count) * b ≡ (first * b + b) + count * b = omega arith in
    let same : (first + suc count) * b ≡ ((first + 1) + count) * b = omega arith in
    λ i. part_front (first * b) b xs ys (omega (arith, more)) i
    ∷ ranges_front b (first + 1) count xs ys (omega (arith, same)) i

pub level_row_front : (digest : List ℕ → List ℕ) (a b : List (List ℕ)) (level first width : ℕ) →
    (first + width) * 256 ^ level ≤ length a →
    level_row digest (a ++ b) level first width ≡ level_row digest a level first width
level_row_front digest a b level first width le = ap (map (mth digest)) (ranges_front (256 ^ level) first width a b le)

pub within_more : (n k : ℕ) (path : Path) → n ≤ k → IsWithin n path → IsWithin k path
within_more n k Checkpoint le h = h
within_more n k (Tile level index width) le h =
    let within = h.within in
    record { level_fits = h.level_fits; some = h.some; upto = h.upto; within = omega arith }
within_more n k (Entries index width) le h =
    let within = h.within in
    record { level_fits = h.level_fits; some = h.some; upto = h.upto; within = omega arith }

pub bytes_front : (digest : List ℕ → List ℕ) (a b : List (List ℕ)) (path : Path) → IsWithin (length a) path →
    true_bytes digest (a ++ b) path ≡ true_bytes digest a path
bytes_front digest a b Checkpoint h = absurd h
bytes_front digest a b (Tile level index width) h =
    let le : length a ≤ length (a ++ b) = omega (arith, length-append a b) in
    sym ((prefixes_serve_same digest (a ++ b) (length a) le).tile level index width h)
    ∙ ap (λ l. true_bytes digest l (Tile level index width)) (take_at a b (length a) refl)
bytes_front digest a b (Entries index width) h =
    let le : length a ≤ length (a ++ b) = omega (arith, length-append a b) in
    sym ((prefixes_serve_same digest (a ++ b) (length a) le).bundle index width h)
    ∙ ap (λ l. true_bytes digest l (Entries index width)) (take_at a b (length a) refl)
