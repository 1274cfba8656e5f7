-- Places that gave no partial file that verifies: by their answers, turn by turn, and in a longer call.
use Rattle.std.proofs.Common.{◌≡◌, ℕ, ◌+◌, ◌<◌, ◌≤◌, List, length, get_or, inl, inr, Option, Some, None, subst, arith}
use Rattle.std.specs.Prelude.{IfSome}
use Rattle.std.proofs.lemmas.Bool.{cases_lt}
use Rattle.tlog_tiles.specs.Cut.{IsFileCut}
use Rattle.tlog_tiles.specs.declared.paths.Path.{Path}
use Rattle.tlog_tiles.proofs.Cuts.{cuts_are_first}
use Rattle.mirror_sources.specs.Files.{full_of}
use Rattle.mirror_sources.specs.Source.{StaysWithin}
use Rattle.copy_places.specs.Asked.{IsAskedInTurn, IsAskedInVain}
use Rattle.copy_places.specs.InVain.{AreAskedInVain, ArePartsAskedInVain, AtPlace, GaveNoAnswer, GivesCut, GivesPart, IsCutOf, IsPartAskedInVain}
use Rattle.copy_places.specs.PlaceGets.{AsksPlaces}
use Rattle.copy_places.specs.declared.places.Places.{Places}
use Rattle.copy_places.proofs.Asking.{turn_of, turn_one, vain_between}

no_answer_between : (first old new last : ℕ) → first ≤ old → old ≤ new → new ≤ last → GaveNoAnswer old new → GaveNoAnswer first last
no_answer_between first old new last a b c (inl rose) = inl (omega arith)
no_answer_between first old new last a b c (inr many) = elim (cases_lt first last) [
  | inl rose ↦ inl rose
  | inr same ↦ inr (omega arith)
]

-- what a call shows, a longer one shows
module _ (path : Path) (before may : Path → Option (List ℕ) → Type 0) (within : StaysWithin before may) (first old new last : ℕ)
    (a : first ≤ old) (b : old ≤ new) (c : new ≤ last) where
  pub part_between : (good : List ℕ → Type 0) → IsPartAskedInVain path good may old new → IsPartAskedInVain path good before first last
  part_between good (inl none) = inl (no_answer_between first old new last a b c none)
  part_between good (inr (Some bytes, may_be, vain)) = inr (Some bytes, within.stays path (Some bytes) may_be, vain)
  part_between good (inr (None, may_be, (full, full_may_be, vain))) =
      inr (None, within.stays path None may_be, (full, within.stays (full_of path) full full_may_be, vain))

  -- the full file was asked for after the partial one was not found
  pub part_of_cut : (found : Option (List ℕ)) → before path None → GivesCut path found may old new → GivesPart path found before first last
  part_of_cut found none (inl failed) = inl (no_answer_between first old new last a b c failed)
  part_of_cut found none (inr (full, may_be, is)) = inr (None, none, (full, within.stays (full_of path) full may_be, is))

-- what a full file begins with is what was found
cut_vain : (path : Path) (good : List ℕ → Type 0) (full found : Option (List ℕ)) → IsCutOf path full found →
    IfSome found (λ bytes. good bytes → ⊥) →
    IfSome full (λ whole. (part : List ℕ) → IsFileCut path 256 whole part → good part → ⊥)
cut_vain path good None found is bad = tt
cut_vain path good (Some whole) None is bad = λ part cut well. is part cut
cut_vain path good (Some whole) (Some bytes) is bad =
    λ part cut well. bad (subst good (cuts_are_first.one path 256 whole part bytes cut is) well)

-- what was found is not good
pub part_vain : (path : Path) (good : List ℕ → Type 0) (found : Option (List ℕ)) (may : Path → Option (List ℕ) → Type 0) (old new : ℕ) →
    GivesPart path found may old new → IfSome found (λ bytes. good bytes → ⊥) → IsPartAskedInVain path good may old new
part_vain path good found may old new (inl failed) bad = inl failed
part_vain path good found may old new (inr (Some bytes, may_be, is)) bad =
    inr (Some bytes, may_be, subst (λ (o : Option (List ℕ)). IfSome o (λ b. good b → ⊥)) is bad)
part_vain path good found may old new (inr (None, may_be, (full, full_may_be, is))) bad =
    inr (None, may_be, (full, full_may_be, cut_vain path good full found is bad))

module _ {S : Type 0} (may : S → Path → Option (List ℕ) → Type 0) (failed : S → ℕ) (asked : S → Option (List Path)) (path : Path)
    (good : List ℕ → Type 0) where
  -- one more place
  pub parts_turn : (so also : Path → Type 0) (x y z : Places S) → AsksPlaces may failed asked so x y →
      AsksPlaces may failed asked also y z → (first turn index : ℕ) → IsAskedInTurn first turn index →
      ((t k : ℕ) → t < turn → IsAskedInTurn first t k → AtPlace may x y k (IsPartAskedInVain path good)) →
      AtPlace may y z index (IsPartAskedInVain path good) →
      (t k : ℕ) → t < turn + 1 → IsAskedInTurn first t k → AtPlace may x z k (IsPartAskedInVain path good)
  parts_turn so also x y z p q first turn index this each now t k lt is = λ d.
      let u = get_or x.list.items k d in
      let v = get_or y.list.items k d in
      let w = get_or z.list.items k d in
      let earlier = p.each k d in
      let later = q.each k d in
      elim (cases_lt t turn) [
        | inl less ↦ part_between path (may u.source) (may u.source) (record { stays = λ path answer h. h }) u.failures u.failures
            v.failures w.failures (omega arith) earlier.more later.more good (each t k less is d)
        | inr more ↦
            let same : t ≡ turn = omega (arith, lt, more) in
            let at : index ≡ k = turn_one first turn index k this (subst (λ n. IsAskedInTurn first n k) same is) in
            part_between path (may u.source) (may v.source) earlier.later u.failures v.failures w.failures w.failures earlier.more
            later.more (omega arith) good (subst (λ j. AtPlace may y z j (IsPartAskedInVain path good)) at now d)
      ]

  -- after all turns
  pub parts_all : (so also : Path → Type 0) (x y z : Places S) → AsksPlaces may failed asked so x y →
      AsksPlaces may failed asked also y z → (first turn : ℕ) → (0 < length x.list.items → first < length x.list.items) →
      length x.list.items ≤ turn →
      ((t k : ℕ) → t < turn → IsAskedInTurn first t k → AtPlace may x y k (IsPartAskedInVain path good)) →
      ArePartsAskedInVain path may x z good
  parts_all so also x y z p q first turn within past each = λ k lt d.
      let at = turn_of first k (length x.list.items) lt (within (omega (arith, lt))) in
      let before = at.1 in
      let u = get_or x.list.items k d in
      let v = get_or y.list.items k d in
      let w = get_or z.list.items k d in
      let earlier = p.each k d in
      let later = q.each k d in
      part_between path (may u.source) (may u.source) (record { stays = λ path answer h. h }) u.failures u.failures v.failures w.failures
      (omega arith) earlier.more later.more good (each at.0 k (omega (arith, before, past)) at.2 d)

  -- a longer call
  pub files_between : (so also last : Path → Type 0) (x y z w : Places S) → AsksPlaces may failed asked so x y →
      AsksPlaces may failed asked also y z → AsksPlaces may failed asked last z w → AreAskedInVain path may y z good →
      AreAskedInVain path may x w good
  files_between so also last x y z w p q r vain = λ k lt d.
      let a = p.each k d in
      let b = q.each k d in
      let c = r.each k d in
      vain_between (may (get_or x.list.items k d).source) (may (get_or y.list.items k d).source) a.later
      (get_or x.list.items k d).failures (get_or y.list.items k d).failures (get_or z.list.items k d).failures
      (get_or w.list.items k d).failures a.more b.more c.more path good (vain k (omega (arith, lt, p.count)) d)

  pub parts_between : (so also last : Path → Type 0) (x y z w : Places S) → AsksPlaces may failed asked so x y →
      AsksPlaces may failed asked also y z → AsksPlaces may failed asked last z w → ArePartsAskedInVain path may y z good →
      ArePartsAskedInVain path may x w good
  parts_between so also last x y z w p q r vain = λ k lt d.
      let a = p.each k d in
      let b = q.each k d in
      let c = r.each k d in
      part_between path (may (get_or x.list.items k d).source) (may (get_or y.list.items k d).source) a.later
      (get_or x.list.items k d).failures (get_or y.list.items k d).failures (get_or z.list.items k d).failures
      (get_or w.list.items k d).failures a.more b.more c.more good (vain k (omega (arith, lt, p.count)) d)

-- under a weaker claim
module _ {S : Type 0} (may : S → Path → Option (List ℕ) → Type 0) (path : Path) (good also : List ℕ → Type 0)
    (more : (bytes : List ℕ) → also bytes → good bytes) where
  some_weaker : (o : Option (List ℕ)) → IfSome o (λ bytes. good bytes → ⊥) → IfSome o (λ bytes. also bytes → ⊥)
  some_weaker None h = tt
  some_weaker (Some bytes) h = λ well. h (more bytes well)

  file_weaker : (answers : Path → Option (List ℕ) → Type 0) (old new : ℕ) → IsAskedInVain answers old new path good →
      IsAskedInVain answers old new path also
  file_weaker answers old new (inl failed) = inl failed
  file_weaker answers old new (inr (answer, may_be, vain)) = inr (answer, may_be, some_weaker answer vain)

  pub files_weaker : (x y : Places S) → AreAskedInVain path may x y good → AreAskedInVain path may x y also
  files_weaker x y vain = λ k lt d.
      file_weaker (may (get_or x.list.items k d).source) (get_or x.list.items k d).failures (get_or y.list.items k d).failures
      (vain k lt d)

  cuts_weaker : (full : Option (List ℕ)) →
      IfSome full (λ whole. (part : List ℕ) → IsFileCut path 256 whole part → good part → ⊥) →
      IfSome full (λ whole. (part : List ℕ) → IsFileCut path 256 whole part → also part → ⊥)
  cuts_weaker None h = tt
  cuts_weaker (Some whole) h = λ part cut well. h part cut (more part well)

  part_weaker : (answers : Path → Option (List ℕ) → Type 0) (old new : ℕ) → IsPartAskedInVain path good answers old new →
      IsPartAskedInVain path also answers old new
  part_weaker answers old new (inl failed) = inl failed
  part_weaker answers old new (inr (Some bytes, may_be, vain)) = inr (Some bytes, may_be, λ well. vain (more bytes well))
  part_weaker answers old new (inr (None, may_be, (full, full_may_be, vain))) =
      inr (None, may_be, (full, full_may_be, cuts_weaker full vain))

  pub parts_weaker : (x y : Places S) → ArePartsAskedInVain path may x y good → ArePartsAskedInVain path may x y also
  parts_weaker x y vain = λ k lt d.
      part_weaker (may (get_or x.list.items k d).source) (get_or x.list.items k d).failures (get_or y.list.items k d).failures
      (vain k lt d)
