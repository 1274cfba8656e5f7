-- A larger candidate that contradicts the copy is in a fork line.
use Rattle.std.proofs.Common.{◌≡◌, ◌⊎◌, inl, inr, ℕ, ◌^◌, ◌<◌, List, length, get_or, take, drop, Option, sym, subst, ◌∙◌, arith, take-append-drop}
use Rattle.std.proofs.lemmas.List.Elements.{All-contains}
use Rattle.tlog_tiles.specs.declared.paths.Path.{Path}
use Rattle.mirror_model.specs.Forks.{IsPrefix, Point}
use Rattle.mirror_model.specs.Strings.{IsDigest}
use Rattle.copy_places.specs.Agreeing.{Agrees}
use Rattle.copy_places.specs.Answered.{MustGive, MustGivePart}
use Rattle.copy_places.specs.Forks.{HasPoint}
use Rattle.copy_places.specs.Requests.{AsksAny}
use Rattle.copy_places.specs.declared.places.Places.{Places}
use Rattle.copy_places.proofs.Agreeing.{agreeing_is_of_first}
use Rattle.copy_places.proofs.Answered.{answered_files_are_had, given_weaker}
use Rattle.copy_follow.specs.LargerForks.{ContradictionsAreLines, IsClear, IsContradicted}
use Rattle.copy_follow.specs.Says.{AgreesWithCopy, IsSettled}
use Rattle.copy_follow.specs.Told.{CouldNotBeHad}
use Rattle.copy_follow.proofs.SameCopies.{same_entries}

module _ {S : Type 0} (may : S → Path → Option (List ℕ) → Type 0) (failed : S → ℕ) (asked : S → Option (List Path))
    (digest : List ℕ → List ℕ) (hash : IsDigest digest) (old new : Places S) where
  -- a place that answered truly in the call had done so at each moment of it
  must_then : (moment : Places S) (entries : List (List ℕ)) → AsksAny may failed asked moment new → (k : ℕ) (path : Path) →
      MustGive may old new digest entries k path → MustGive may old moment digest entries k path
  must_then moment entries q k path m =
      (λ d. let more = (q.each k d).more in let none = m.0 d in omega (arith, more, none), m.1)

  part_then : (moment : Places S) (entries : List (List ℕ)) → AsksAny may failed asked moment new → (k : ℕ) (path : Path) →
      MustGivePart may old new digest entries k path → MustGivePart may old moment digest entries k path
  part_then moment entries q k path m =
      (λ d. let more = (q.each k d).more in let none = m.0 d in omega (arith, more, none), m.1)

  -- there is no reason
  no_reason : (small large : Point) (first entries : List (List ℕ)) → large.size < 2 ^ 64 →
      IsContradicted digest may failed asked old new small large first entries →
      (reason : Agrees digest small large ⊎ CouldNotBeHad digest may failed asked old new small.size large) →
      IsClear digest may failed asked old new reason entries → ⊥
  no_reason small large first entries lt c (inl agrees) clear =
      let taken = agreeing_is_of_first digest hash small large agrees.proof agrees.shown entries c.point clear in
      let same : first ≡ take small.size entries =
      same_entries digest hash first (take small.size entries) (c.first_point.size_is ∙ sym taken.size_is)
      (c.first_point.root_is ∙ sym taken.root_is) c.clear in
      let prefix : IsPrefix (take small.size entries) entries =
      record { rest = drop small.size entries; is = take-append-drop small.size entries } in
      c.apart (subst (λ l. IsPrefix l entries) (sym same) prefix)
  no_reason small large first entries lt c (inr had) clear =
      answered_files_are_had may digest hash old had.moment had.answered had.puts small.size large lt had.why entries c.short
      c.point clear
      (given_weaker entries (MustGive may old new digest entries) (MustGivePart may old new digest entries)
      (MustGive may old had.moment digest entries) (MustGivePart may old had.moment digest entries)
      (must_then had.moment entries had.after) (part_then had.moment entries had.after) (length old.list.items) small.size c.given)

pub contradictions_are_lines : {S : Type 0} → (may : S → Path → Option (List ℕ) → Type 0) (failed : S → ℕ)
    (asked : S → Option (List Path)) → ContradictionsAreLines may failed asked
contradictions_are_lines may failed asked digest hash old new followed copy is candidates settles tells some candidate listed
    more small first entries c clear =
    let settled = All-contains (IsSettled digest followed) candidates candidate settles.each listed in
    elim settled [
      | inl agreed ↦
          let below = subst (λ (o : Option (ℕ × List ℕ)). AgreesWithCopy digest o candidate) is agreed in
          let upto = below.0 in absurd (omega (arith, more, upto))
      | inr reported ↦ elim reported [
        | inl line ↦ line
        | inr larger ↦
            let k = larger.0 in
            let d : ℕ × List ℕ = (candidate.size.0, candidate.root) in
            let at = larger.2 in
            let point = get_or followed.larger.items k d in
            let there : HasPoint digest (record { size = point.0; root = point.1 }) entries =
            subst (λ (o : ℕ × List ℕ). HasPoint digest (record { size = o.0; root = o.1 }) entries) (sym at) c.point in
            absurd (no_reason may failed asked digest hash old new (record { size = copy.0; root = copy.1 })
            (record { size = point.0; root = point.1 }) first entries
            (subst (λ (o : ℕ × List ℕ). o.0 < 2 ^ 64) (sym at) small)
            (record {
              first_point = c.first_point;
              short = c.short;
              point = there;
              apart = c.apart;
              given = c.given;
              clear = c.clear;
            })
            (tells k d larger.1 some) (clear k d larger.1 at))
      ]
    ]
