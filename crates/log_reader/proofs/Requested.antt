-- The requests of a read, call after call, and which tiles they are.
use Rattle.std.proofs.Common.{◌≡◌, ℕ, zero, suc, ◌+◌, ◌-◌, ◌*◌, ◌/◌, ◌%◌, ◌^◌, ◌<◌, ◌≤◌, List, [], ◌∷◌, ◌++◌, Option, Some, None}
use Rattle.std.proofs.Common.{Result, Ok, Err, inl, inr, refl, sym, ap, subst, ◌∙◌, arith}
use Rattle.std.specs.List.{Contains}
use Rattle.std.proofs.Math.Nat.{div-eq_of_lt, mod_self}
use Rattle.std.proofs.lemmas.Bool.{cases_lt}
use Rattle.std.proofs.lemmas.List.Elements.{Contains-append_cases}
use Rattle.std.proofs.lemmas.Nat.{div-add-mod', div-mul-add}
use Rattle.tlog_shape.specs.Edge.{edge_index_of, width_of}
use Rattle.tlog_shape.specs.Split.{IsPowerOfTwo, split_of}
use Rattle.tlog_shape.proofs.Edges.{range_has}
use Rattle.tlog_shape.proofs.Levels.{level_mono, level_next, level_positive}
use Rattle.tlog_shape.proofs.Splits.{double, perfect_half, power_at_most, split_of-below, split_of-half, split_of-power}
use Rattle.tlog_tiles.specs.declared.paths.Path.{Path}
use Rattle.tlog_tiles.specs.declared.paths.Path.TheVariants.{Checkpoint, Tile, Entries}
use Rattle.tlog_tiles.proofs.EdgeLemmas.{contains_one, hashes_of}
use Rattle.mirror_sources.specs.Recorded.{AddsToRecord, KeepsRecord}
use Rattle.mirror_sources.specs.Source.{RecordsGet}
use Rattle.mirror_sources.specs.declared.source.SourceFault.TheVariants.{Failed, OutOfMemory}
use Rattle.mirror_sources.specs.declared.source.SourceFault.{SourceFault}
use Rattle.log_reader.specs.Nodes.{IsNodeRange}
use Rattle.log_reader.specs.Requested.{EndsInside, IsProofTile, IsTileOver, IsTileOverNode, IsWholeOrLeft, RequestsOnly}
use Rattle.log_reader.proofs.NodeNumbers.{aligned_multiple, aligned_smaller, block_power, power_positive}

-- ---- call after call

pub requests_none : (x : Option (List Path)) (wanted : Path → Type 0) → RequestsOnly x x wanted
requests_none x wanted = record { before = λ path no asked. asked }

pub requests_twice : (x y z : Option (List Path)) (wanted : Path → Type 0) → RequestsOnly x y wanted → RequestsOnly y z wanted →
    RequestsOnly x z wanted
requests_twice x y z wanted p q = record { before = λ path no asked. p.before path no (q.before path no asked) }

pub requests_wider : (x y : Option (List Path)) (few many : Path → Type 0) → ((path : Path) → few path → many path) →
    RequestsOnly x y few → RequestsOnly x y many
requests_wider x y few many f p = record { before = λ path no asked. p.before path (λ h. no (f path h)) asked }

contains_last : (xs : List Path) (last path : Path) → ¬ (path ≡ last) → Contains (xs ++ last ∷ []) path → Contains xs path
contains_last xs last path other there =
    elim (Contains-append_cases xs (last ∷ []) path there) [
      | inl before ↦ before
      | inr one ↦ absurd (other (sym (contains_one last path one)))
    ]

added_only : (x y : Option (List Path)) (path : Path) → AddsToRecord x y (path ∷ []) → RequestsOnly x y (λ p. p ≡ path)
added_only None y path h = record { before = λ p no asked. tt }
added_only (Some xs) None path h = absurd h
added_only (Some xs) (Some ys) path h = record {
  before = λ p no asked. contains_last xs path p no (subst (λ l. Contains l p) h asked);
}

kept_only : (x y : Option (List Path)) (path : Path) → KeepsRecord x y → RequestsOnly x y (λ p. p ≡ path)
kept_only None y path h = record { before = λ p no asked. tt }
kept_only (Some xs) None path h = absurd h
kept_only (Some xs) (Some ys) path h = record { before = λ p no asked. subst (λ l. Contains l p) h asked }

-- a get requests its path
pub requests_get : {T : Type 0} (x y : Option (List Path)) (path : Path) (result : Result T SourceFault) →
    RecordsGet x y path result → RequestsOnly x y (λ p. p ≡ path)
requests_get x y path (Ok found) h = added_only x y path h
requests_get x y path (Err Failed) h = added_only x y path h
requests_get x y path (Err OutOfMemory) h = kept_only x y path h

-- ---- the way to a tile

pub over_up : (at level index : ℕ) → edge_index_of at level ≡ index → edge_index_of at (level + 1) ≡ index / 256
over_up at level index is = let whole = hashes_of at (level + 1) in omega (arith, whole, is)

pub over_higher : (n at level : ℕ) (path : Path) → IsTileOver n at (level + 1) path → IsTileOver n at level path
over_higher n at level Checkpoint h = absurd h
over_higher n at level (Tile l index width) h = (omega (arith, h.0), h.1, h.2, h.3)
over_higher n at level (Entries index width) h = absurd h

pub over_here : (n at level index : ℕ) → edge_index_of at level ≡ index → index < edge_index_of n level → (path : Path) →
    path ≡ Tile level index 256 → IsTileOver n at level path
over_here n at level index is lt path path_is =
    subst (IsTileOver n at level) (sym path_is) (omega arith, sym is, lt, refl)

-- a tile from the top level of a node on has more entries than the node
pub over_node : (n at len level : ℕ) → len < 256 ^ (level + 1) → (path : Path) → IsTileOver n at level path →
    IsTileOverNode n at len path
over_node n at len level more Checkpoint h = absurd h
over_node n at len level more (Tile l index width) h =
    let greater : 256 ^ (level + 1) ≤ 256 ^ (l + 1) = level_mono (level + 1) (l + 1) (omega (arith, h.0)) in
    (omega (arith, more, greater), h.1, h.2, h.3)
over_node n at len level more (Entries index width) h = absurd h

-- ---- where the first entries end

pub inside_of : (p level : ℕ) → 0 < p % 256 ^ (level + 1) → EndsInside p level
inside_of p zero some = (0, omega arith, omega (arith, some))
inside_of p (suc l) some =
    let e : suc l ≡ l + 1 = omega arith in
    elim (cases_lt 0 (p % 256 ^ (l + 1))) [
      | inl below ↦
          let lower = inside_of p l below in
          (lower.0, omega (arith, lower.1), lower.2)
      | inr none ↦
          elim (cases_lt 0 (width_of p (suc l))) [
            | inl wide ↦ (suc l, omega arith, wide)
            | inr narrow ↦
                let a = 256 ^ (suc l) in
                let b = 256 ^ (suc l + 1) in
                let m = p / b in
                let a_is : 256 ^ (l + 1) ≡ a = ap (λ k. 256 ^ k) (sym e) in
                let none_here : p % a ≡ 0 = omega (arith, none, ap (λ k. p % k) a_is) in
                let q_is : p / a ≡ 256 * m + width_of p (suc l) = sym (hashes_of p (suc l)) in
                let q_all : p / a ≡ 256 * m = omega (arith, q_is, narrow) in
                let p_is : p / a * a + p % a ≡ p = div-add-mod' p a in
                let times : p / a * a ≡ 256 * m * a = ap (λ k. k * a) q_all in
                let wide : m * b ≡ 256 * m * a = ap (λ k. m * k) (level_next (suc l)) ∙ omega arith in
                let whole : p / b * b + p % b ≡ p = div-add-mod' p b in
                absurd (omega (arith, some, whole, wide, times, p_is, none_here))
          ]
    ]

-- ---- the tiles of the hashes of a proof

power_double : (low high : ℕ) → IsPowerOfTwo low → IsPowerOfTwo high → low < high → 2 * low ≤ high
power_double low high p q less = elim (cases_lt high (2 * low)) [
  | inr le ↦ le
  | inl lt ↦ absurd (omega (arith, power_at_most high low q p lt, less))
]

-- an entry inside an aligned node of 2 * half entries is in the tile of its start, which has at least the node
record IsInTile (start p level : ℕ) : Type 0 where
  same : edge_index_of p level ≡ edge_index_of start level
  inside : EndsInside p level

in_tile : (start half p level : ℕ) → IsPowerOfTwo half → start % (2 * half) ≡ 0 → half < 256 ^ (level + 1) → start < p →
    p < start + 2 * half → IsInTile start p level
in_tile start half p level power aligned less after before =
    let t = 256 ^ (level + 1) in
    let index = edge_index_of start level in
    let two : IsPowerOfTwo (2 * half) = double half (2 * half) refl power in
    let upto : 2 * half ≤ t = power_double half t power (block_power (level + 1)) less in
    let range = range_has start (2 * half) level index (omega (arith, power_positive half power)) upto refl two aligned in
    let more : (index + 1) * t ≡ index * t + t = omega arith in
    let rest = p - index * t in
    let sum : p ≡ index * t + rest = omega (arith, range.from, after) in
    let low : rest < t = omega (arith, sum, range.to, more, before) in
    let same : p / t ≡ index = ap (λ k. k / t) sum ∙ div-mul-add index t rest low in
    let whole : p / t * t + p % t ≡ p = div-add-mod' p t in
    let times : p / t * t ≡ index * t = ap (λ k. k * t) same in
    record {
      same = same;
      inside = inside_of p level (omega (arith, whole, times, range.from, after));
    }

module _ (n start len k first : ℕ) (node : IsNodeRange n start len) (two : 2 ≤ len) (k_is : k ≡ split_of len) (some : 0 < first) where
  power : IsPowerOfTwo k
  power = subst IsPowerOfTwo (sym k_is) (split_of-power len two)

  below : k < len
  below = omega (arith, k_is, split_of-below len two)

  half : len ≤ 2 * k
  half = omega (arith, k_is, split_of-half len two)

  -- the left half is the left half of a node that is aligned
  pub left_aligned : start % (2 * k) ≡ 0
  left_aligned =
      aligned_smaller (2 * k) node.block start (double k (2 * k) refl power) node.power
      (power_double k node.block power node.power (omega (arith, below, node.upto))) node.aligned

  -- a low tile after the left half is the one in which all n entries end
  low_tile : (level : ℕ) → 256 ^ (level + 1) ≤ k → len - k < 256 ^ (level + 1) → edge_index_of (start + k) level ≡ edge_index_of n level
  low_tile level low less =
      let t = 256 ^ (level + 1) in
      let even : start % k ≡ 0 = aligned_smaller k node.block start power node.power (omega (arith, below, node.upto)) node.aligned in
      let a = aligned_multiple t start (aligned_smaller t k start (block_power (level + 1)) power low even) in
      let b = aligned_multiple t k (aligned_smaller t k k (block_power (level + 1)) power low (mod_self k)) in
      let at : start + k ≡ (a.times + b.times) * t = omega (arith, a.is, b.is) in
      let ends : start + len ≡ n = elim node.kind [
        | inr end ↦ end
        | inl whole ↦ absurd (omega (arith, perfect_half len two whole, k_is, low, less))
      ] in
      let here : (start + k) / t ≡ a.times + b.times =
      ap (λ m. m / t) (at ∙ omega arith) ∙ div-mul-add (a.times + b.times) t 0 (level_positive (level + 1)) in
      let there : n / t ≡ a.times + b.times =
      ap (λ m. m / t) (omega (arith, at, ends, below)) ∙ div-mul-add (a.times + b.times) t (len - k) less in
      here ∙ sym there

  -- the tiles of the right half, where the first entries end in the left one
  pub right_tiles : first ≤ k → (path : Path) → IsTileOverNode n (start + k) (len - k) path → IsProofTile n (start + first) path
  right_tiles le Checkpoint h = absurd h
  right_tiles le (Entries index width) h = absurd h
  right_tiles le (Tile level index width) h =
      let t = 256 ^ (level + 1) in
      elim (cases_lt k t) [
        | inl high ↦
            let there = in_tile start k (start + k) level power left_aligned high (omega (arith, power_positive k power)) (omega (arith, power_positive k power)) in
            let here = in_tile start k (start + first) level power left_aligned high (omega (arith, some)) (omega (arith, some, le, power_positive k power)) in
            (h.1 ∙ (there.same ∙ sym here.same), h.2, here.inside, h.3)
        | inr low ↦ absurd (omega (arith, low_tile level low h.0, h.1, h.2))
      ]

  -- the tiles of the left half, where the first entries end in the right one
  pub left_tiles : k < first → first < len → (path : Path) → IsTileOverNode n start k path → IsProofTile n (start + first) path
  left_tiles more less Checkpoint h = absurd h
  left_tiles more less (Entries index width) h = absurd h
  left_tiles more less (Tile level index width) h =
      let here = in_tile start k (start + first) level power left_aligned h.0 (omega (arith, some)) (omega (arith, less, half)) in
      (h.1 ∙ sym here.same, h.2, here.inside, h.3)

  -- the first entries are the left half
  pub left_whole : first ≡ k → IsWholeOrLeft n start k
  left_whole same = inr (power, left_aligned)

-- the tiles of a node that is the first entries
pub whole_tiles : (n start len first : ℕ) → 0 < len → first ≡ len → IsWholeOrLeft n start len → (path : Path) →
    IsTileOverNode n start len path → IsProofTile n (start + first) path
whole_tiles n start len first some same whole Checkpoint h = absurd h
whole_tiles n start len first some same whole (Entries index width) h = absurd h
whole_tiles n start len first some same (inl all) (Tile level index width) h =
    let t = 256 ^ (level + 1) in
    let few : n < t = omega (arith, h.0, all.1) in
    let none : n / t ≡ 0 = div-eq_of_lt few in
    absurd (omega (arith, h.2, none))
whole_tiles n start len first some same (inr left) (Tile level index width) h =
    let here = in_tile start len (start + first) level left.0 left.1 h.0 (omega (arith, same, some)) (omega (arith, same, some)) in
    (h.1 ∙ sym here.same, h.2, here.inside, h.3)

-- the first entries of the right half end where those of the node do
pub right_end : (start k first : ℕ) → k < first → start + k + (first - k) ≡ start + first
right_end start k first more = omega arith

pub requests_from_start : (n first : ℕ) (x y : Option (List Path)) → RequestsOnly x y (IsProofTile n (0 + first)) →
    RequestsOnly x y (IsProofTile n first)
requests_from_start n first x y p =
    let same : 0 + first ≡ first = omega arith in
    subst (λ k. RequestsOnly x y (IsProofTile n k)) same p
