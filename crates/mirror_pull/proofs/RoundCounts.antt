-- Each round of a pull requests a path.
use Rattle.std.proofs.Common.{◌≡◌, ℕ, List, [], ◌∷◌, ◌++◌, length, get_or, arith, Option, Some, None, Contains}
use Rattle.std.proofs.Common.{refl, sym, ap, subst, inl, inr}
use Rattle.std.proofs.lemmas.List.{append-nil}
use Rattle.std.proofs.lemmas.List.Elements.{Contains-push_cases, Contains-get_or}
use Rattle.tlog_tiles.specs.declared.paths.Path.{Path}
use Rattle.tlog_tiles.specs.declared.paths.Path.TheVariants.{Checkpoint}
use Rattle.mirror_model.specs.View.{View}
use Rattle.mirror_sources.specs.Replies.{Reply}
use Rattle.mirror_pull.specs.PullLaws.{NoRoundAsksNothing}
use Rattle.mirror_pull.specs.Replying.{Asks, AsksNew, AsksAgain, AsksPath, PathFound, PathNone, AsksList, ListNone}
use Rattle.mirror_pull.specs.Replying.{ListNext, AreUnasked, UnaskedNone, UnaskedOut, UnaskedIn, IsPullRound}
use Rattle.mirror_pull.specs.Replying.{ArePullRounds, RoundsNone, RoundsNext, with_replies}
use Rattle.mirror_pull.proofs.Freshness.{cases_first}

first_none : (xs ys : List Reply) → length (xs ++ ys) ≡ 0 → length xs ≡ 0
first_none [] ys e = refl
first_none (x ∷ xs) ys e = absurd (omega (arith, e))

second_none : (xs ys : List Reply) → length (xs ++ ys) ≡ 0 → length ys ≡ 0
second_none [] ys e = e
second_none (x ∷ xs) ys e = absurd (omega (arith, e))

with_none : (asked : List Path) (xs : List Reply) → length xs ≡ 0 → with_replies asked xs ≡ asked
with_none asked [] e = append-nil asked
with_none asked (x ∷ xs) e = absurd (omega (arith, e))

-- ---- a path without a reply was requested before

asks_has : (asked : List Path) (path : Path) (xs : List Reply) (found : Option (List ℕ)) → Asks asked path xs found →
    length xs ≡ 0 → Contains asked path
asks_has asked path xs found (AsksNew f fresh) none = absurd (omega (arith, none))
asks_has asked path xs found (AsksAgain has) none = has

path_has : (asked : List Path) (path : Path) (xs : List Reply) → AsksPath asked path xs → length xs ≡ 0 →
    Contains asked path
path_has asked path xs (PathFound {bytes = bytes} a) none = asks_has asked path xs (Some bytes) a none
path_has asked path all (PathNone {first = xs} {second = ys} a b) none =
    asks_has asked path xs None a (first_none xs ys none)

list_has : (asked ps : List Path) (xs : List Reply) → AsksList asked ps xs → length xs ≡ 0 → (q : Path) →
    Contains ps q → Contains asked q
list_has asked ps xs ListNone none q c = absurd (omega (arith, c.1))
list_has asked ps all (ListNext {paths = qs} {first = xs} {second = ys} path a b) none q c =
    let first = first_none xs ys none in
    elim (Contains-push_cases qs path q c) [
      | inl before ↦ list_has asked qs xs a first q before
      | inr same ↦ subst (λ (p : Path). Contains asked p) same
          (subst (λ (l : List Path). Contains l path) (with_none asked xs first)
          (path_has (with_replies asked xs) path ys b (second_none xs ys none)))
    ]

unasked_new : (asked ps ls : List Path) → AreUnasked asked ps ls → (q : Path) → Contains ls q → Contains asked q → ⊥
unasked_new asked ps ls UnaskedNone q c has = absurd (omega (arith, c.1))
unasked_new asked ps ls (UnaskedOut path {paths = qs} h p) q c has = unasked_new asked qs ls p q c has
unasked_new asked ps ls (UnaskedIn path {paths = qs} {left = ms} new p) q c has = elim (cases_first path ms q c) [
  | inl e ↦ new (subst (λ (x : Path). Contains asked x) (sym e) has)
  | inr later ↦ unasked_new asked qs ms p q later has
]

-- ---- rounds

module _ (digest : List ℕ → List ℕ) (size : ℕ) (root : List ℕ) where
  round_asks : (asked : List Path) (v w : View) (xs : List Reply) (more : ℕ) →
      IsPullRound digest size root asked v xs more w → length xs ≡ 0 → ⊥
  round_asks asked v w xs more round none =
      let path = get_or round.list 0 Checkpoint in
      let has : Contains round.list path = Contains-get_or round.list 0 Checkpoint (omega (arith, round.some)) in
      unasked_new asked round.left.missing round.list round.left.unasked path has
      (list_has asked round.list xs round.asks none path has)

  no_round : (asked : List Path) (v w : View) (xs : List Reply) (rounds many : ℕ) →
      ArePullRounds digest size root asked v xs rounds many w → length xs ≡ 0 → rounds ≡ 0
  no_round asked v w xs rounds many RoundsNone none = refl
  no_round asked v w all rounds many (RoundsNext {first = xs} {second = ys} {more = more} {x = x} before round) none =
      absurd (round_asks (with_replies asked xs) x w ys more round (second_none xs ys none))

  no_reply : (asked : List Path) (v w : View) (xs : List Reply) (rounds many : ℕ) →
      ArePullRounds digest size root asked v xs rounds many w → rounds ≡ 0 → xs ≡ []
  no_reply asked v w xs rounds many RoundsNone none = refl
  no_reply asked v w all rounds many (RoundsNext {rounds = n} before round) none = absurd (omega (arith, none))

pub no_round_asks_nothing : NoRoundAsksNothing
no_round_asks_nothing digest size root asked v w replies rounds refused are = (
  no_reply digest size root asked v w replies rounds refused are,
  λ none. no_round digest size root asked v w replies rounds refused are (ap length none),
)
