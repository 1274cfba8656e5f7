-- The places of a run, after a call of `bring_copy`.
use Rattle.std.proofs.Common.{◌≡◌, ◌<◌, ◌≤◌, inl, inr, ℕ, List, Option, get_or, length, subst, sym, arith}
use Rattle.std.proofs.lemmas.Bool.{cases_lt}
use Rattle.std.proofs.lemmas.List.{get_or_past}
use Rattle.tlog_tiles.specs.declared.paths.Path.{Path}
use Rattle.mirror_folders.specs.Shelf.{Put}
use Rattle.copy_places.specs.PlaceGets.{APlaceFailed}
use Rattle.copy_places.specs.declared.places.Places.{Places}
use Rattle.copy_follow.specs.Asked.{MayBeAsked}
use Rattle.copy_follow.specs.AskedForCopy.{AsksFiles, AsksForCopy, AsksNothing, BlamesFailed}
use Rattle.copy_follow.specs.declared.bring_fault.BringFault.{BringFault}
use Rattle.copy_follow.specs.declared.bring_fault.BringFault.TheVariants as bring
use Rattle.copy_places.specs.Requests.{AsksAny, PlaceFails}
use Rattle.copy_places.proofs.Requests.{any_weaker}
use Rattle.copy_follow.specs.Ending.{NoPlaceFails}

module _ {S : Type 0} (may : S → Path → Option (List ℕ) → Type 0) (failed : S → ℕ) (asked : S → Option (List Path)) where
  pub any_copied : (digest : List ℕ → List ℕ) (origin note : List ℕ) (puts : Option (List Put)) (x y : Places S) →
      AsksForCopy digest may failed asked origin note puts x y → AsksAny may failed asked x y
  any_copied digest origin note puts x y (AsksNothing p) = any_weaker may failed asked (λ path. ⊥) x y p
  any_copied digest origin note puts x y (AsksFiles had size root had_is head p) = any_weaker may failed asked (MayBeAsked had size) x y p

  -- no place stands beyond the list, so a place that failed is one of it
  is_listed : (x y : Places S) → AsksAny may failed asked x y → (f : APlaceFailed may failed asked x y) →
      f.index < length x.list.items
  is_listed x y p f = elim (cases_lt f.index (length x.list.items)) [
    | inl lt ↦ lt
    | inr past ↦
        let d = f.none in
        let a : get_or x.list.items f.index d ≡ d = get_or_past x.list.items f.index d past in
        let b : get_or y.list.items f.index d ≡ d =
        get_or_past y.list.items f.index d (subst (λ n. n ≤ f.index) (sym p.count) past) in
        let rose : d.failures < d.failures = subst (λ q. q.failures < d.failures) a
        (subst (λ q. (get_or x.list.items f.index d).failures < q.failures) b f.rose) in
        absurd (omega (arith, rose))
  ]

  fails_one : (x y : Places S) → AsksAny may failed asked x y → APlaceFailed may failed asked x y → PlaceFails x y
  fails_one x y p f = record { index = f.index; listed = is_listed x y p f; none = f.none; failed = inl f.rose }

  -- a call of bring_copy that ends by Source
  pub fails_brought : (x y : Places S) (e : BringFault) → AsksAny may failed asked x y → e ≡ bring.Source →
      BlamesFailed may failed asked x y e → PlaceFails x y
  fails_brought x y e p is h = fails_one x y p (subst (λ f. BlamesFailed may failed asked x y f) is h).0

  -- a call of bring_copy that ends by NoFile
  pub spares_brought : (x y : Places S) (e : BringFault) → e ≡ bring.NoFile → BlamesFailed may failed asked x y e →
      NoPlaceFails x y
  spares_brought x y e is h = (subst (λ f. BlamesFailed may failed asked x y f) is h).0
