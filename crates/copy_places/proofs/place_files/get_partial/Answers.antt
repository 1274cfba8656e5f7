use Rattle.std.proofs.Common.{◌≡◌, ℕ, List, Option, Vec, Global, Some, inl, inr, get_or, refl, ap, arith}
use Rattle.std.specs.Prelude.{option_map, IfNone}
use Rattle.mirror_sources.specs.Files.{full_of}
use Rattle.copy_places.specs.Asked.{IsPathOrFull}
use Rattle.copy_places.specs.Giving.{MayGive, PartOf}
use Rattle.copy_places.specs.InVain.{AtPlace, GivesCut, GivesPart}
use Rattle.copy_places.proofs.InVain.{part_of_cut}
use Rattle.copy_places.specs.TrueAnswers.{FindsPart, FindsTrue}
use Rattle.copy_places.proofs.Asking.{asks_same, asks_then, asks_weaker, blamed_failed, blamed_then}
use Rattle.copy_places.proofs.Giving.{given_before}
use Rattle.copy_places.proofs.TruePlaces.{true_between}
use Rattle.copy_places.proofs.Giving.{part_weaker}
use Rattle.copy_places.proofs.TrueAnswers.{got_file, got_none, none_weaker, not_failed, ok_some_weaker, ok_weaker}
use Rattle.copy_places.proofs.AskingOnce.{once_part, once_weaker}
use Rattle.copy_places.specs.AskedOnce.{IsAtPlace}
use Rattle.copy_places.specs.PlaceGets.{IsBlamed}
use Rattle.copy_places.proofs.place_files.get_partial.Goals as goal

pub returns-in-NotFound-clause-asks : goal.returns-in-NotFound-clause-asks
returns-in-NotFound-clause-asks g c =
    asks_then g.S.Source.may_answer g.S.Source.failed g.S.Source.asked (IsPathOrFull c.args.path.now) c.args.places.now c.get.new.self c.get_part.new.places
    (asks_weaker g.S.Source.may_answer g.S.Source.failed g.S.Source.asked (λ p. p ≡ c.args.path.now) (IsPathOrFull c.args.path.now) (λ path h. inl h)
    c.args.places.now c.get.new.self c.get.ensures.asks)
    (asks_weaker g.S.Source.may_answer g.S.Source.failed g.S.Source.asked (λ p. p ≡ full_of c.args.path.now) (IsPathOrFull c.args.path.now) (λ path h. inr h)
    c.get.new.self c.get_part.new.places c.get_part.ensures.asks)

pub returns-in-NotFound-clause-taken : goal.returns-in-NotFound-clause-taken
returns-in-NotFound-clause-taken g c =
    let may = g.S.Source.may_answer in
    let x = c.args.places.now in
    let y = c.get.new.self in
    let path = c.args.path.now in
    ok_some_weaker c.get_part.result (λ (b : Vec ℕ Global). PartOf (MayGive may y) path b.items)
    (λ (b : Vec ℕ Global). PartOf (MayGive may x) path b.items)
    (λ b h. part_weaker (MayGive may y) (MayGive may x) (λ p bytes given. given_before may g.S.Source.failed g.S.Source.asked
    (λ p. p ≡ path) x y p bytes c.get.ensures.asks given) path b.items h) c.get_part.ensures.taken

pub returns-in-NotFound-clause-honest : goal.returns-in-NotFound-clause-honest
returns-in-NotFound-clause-honest g c =
    let may = g.S.Source.may_answer in
    let failed = g.S.Source.failed in
    let asked = g.S.Source.asked in
    let x = c.args.places.now in
    let y = c.get.new.self in
    let z = c.get_part.new.places in
    let index = c.args.index in
    let path = c.args.path.now in
    ok_weaker c.get_part.result
    (λ (o : Option (Vec ℕ Global)). FindsPart may y z index path (option_map (λ v. v.items) o))
    (λ (o : Option (Vec ℕ Global)). FindsTrue may x z index path (option_map (λ v. v.items) o))
    (λ o so digest hash entries short t within. so digest hash entries short
    (true_between may failed asked digest entries (λ p. p ≡ path) (λ p. p ≡ full_of path) (λ p. ⊥) x y z z c.get.ensures.asks
    c.get_part.ensures.asks (asks_same may failed asked (λ p. ⊥) z) index t) within
    (got_none digest entries may x z index t path within (λ d. rw c.in-NotFound.is at (c.in_ok-bytes.ensures.answer d))))
    c.get_part.ensures.honest

pub returns-in-File-clause-taken : goal.returns-in-File-clause-taken
returns-in-File-clause-taken g c = inl (record {
  index = c.args.index;
  listed = c.requires;
  may_be = λ d. rw c.in-File.is at (c.in_ok-bytes.ensures.answer d);
})

pub returns-in-File-clause-honest : goal.returns-in-File-clause-honest
returns-in-File-clause-honest g c = λ digest hash entries short t within.
    ap (λ (b : List ℕ). Some b) (got_file digest entries g.S.Source.may_answer c.args.places.now c.get.new.self c.args.index t
    c.args.path.now c.in-File.bytes.items within (λ d. rw c.in-File.is at (c.in_ok-bytes.ensures.answer d)))

pub returns-in-Failed-clause-honest : goal.returns-in-Failed-clause-honest
returns-in-Failed-clause-honest g c = λ digest hash entries short t within.
    absurd (not_failed digest entries g.S.Source.may_answer c.args.places.now c.get.new.self c.args.index t
    (λ d. rw c.in-Failed.is at (c.in_ok-bytes.ensures.answer d)))

pub returns-in-NotFound-clause-once : goal.returns-in-NotFound-clause-once
returns-in-NotFound-clause-once g c =
    λ differ. once_part g.S.Source.asked c.args.path.now c.args.index differ c.args.places.now c.get.new.self c.get_part.new.places
    c.get.ensures.once c.get_part.ensures.once

pub returns-in_err-bytes-clause-once : goal.returns-in_err-bytes-clause-once
returns-in_err-bytes-clause-once g c =
    λ differ. once_weaker g.S.Source.asked (IsAtPlace c.args.index (λ p. p ≡ c.args.path.now))
    (IsAtPlace c.args.index (IsPathOrFull c.args.path.now)) (λ k p h. (h.0, inl h.1)) c.args.places.now c.get.new.self
    c.get.ensures.once

pub returns-in-File-clause-once : goal.returns-in-File-clause-once
returns-in-File-clause-once g c =
    λ differ. once_weaker g.S.Source.asked (IsAtPlace c.args.index (λ p. p ≡ c.args.path.now))
    (IsAtPlace c.args.index (IsPathOrFull c.args.path.now)) (λ k p h. (h.0, inl h.1)) c.args.places.now c.get.new.self
    c.get.ensures.once

pub returns-in-Failed-clause-once : goal.returns-in-Failed-clause-once
returns-in-Failed-clause-once g c =
    λ differ. once_weaker g.S.Source.asked (IsAtPlace c.args.index (λ p. p ≡ c.args.path.now))
    (IsAtPlace c.args.index (IsPathOrFull c.args.path.now)) (λ k p h. (h.0, inl h.1)) c.args.places.now c.get.new.self
    c.get.ensures.once

pub returns-in-Failed-clause-blamed : goal.returns-in-Failed-clause-blamed
returns-in-Failed-clause-blamed g c =
    blamed_failed g.S.Source.may_answer g.S.Source.failed g.S.Source.asked (λ p. p ≡ c.args.path.now) c.args.places.now
    c.get.new.self c.get.ensures.asks c.args.index (λ d. rw c.in-Failed.is at (c.in_ok-bytes.ensures.answer d))

pub returns-in-NotFound-clause-blamed : goal.returns-in-NotFound-clause-blamed
returns-in-NotFound-clause-blamed g c =
    let x = c.args.places.now in
    let y = c.get.new.self in
    let z = c.get_part.new.places in
    ok_weaker c.get_part.result
    (λ (o : Option (Vec ℕ Global)). IfNone o (IsBlamed y z c.args.index))
    (λ (o : Option (Vec ℕ Global)). IfNone o (IsBlamed x z c.args.index))
    (λ o h. none_weaker o (IsBlamed y z c.args.index) (IsBlamed x z c.args.index)
    (blamed_then g.S.Source.may_answer g.S.Source.failed g.S.Source.asked (λ p. p ≡ c.args.path.now) (λ p. p ≡ full_of c.args.path.now)
    x y z c.get.ensures.asks c.get_part.ensures.asks c.args.index) h) c.get_part.ensures.blamed

pub returns-in-File-clause-gave : goal.returns-in-File-clause-gave
returns-in-File-clause-gave g c = λ d.
    inr (Some c.in-File.bytes.items, rw c.in-File.is at (c.in_ok-bytes.ensures.answer d), refl)

pub returns-in-NotFound-clause-gave : goal.returns-in-NotFound-clause-gave
returns-in-NotFound-clause-gave g c =
    let may = g.S.Source.may_answer in
    let x = c.args.places.now in
    let y = c.get.new.self in
    let z = c.get_part.new.places in
    let index = c.args.index in
    let path = c.args.path.now in
    ok_weaker c.get_part.result
    (λ (o : Option (Vec ℕ Global)). AtPlace may y z index (GivesCut path (option_map (λ v. v.items) o)))
    (λ (o : Option (Vec ℕ Global)). AtPlace may x z index (GivesPart path (option_map (λ v. v.items) o)))
    (λ o gave d.
    let earlier = c.get.ensures.asks.each index d in
    let later = c.get_part.ensures.asks.each index d in
    part_of_cut path (may (get_or x.list.items index d).source) (may (get_or y.list.items index d).source) earlier.later
    (get_or x.list.items index d).failures (get_or y.list.items index d).failures (get_or z.list.items index d).failures
    (get_or z.list.items index d).failures earlier.more later.more (omega arith) (option_map (λ v. v.items) o)
    (rw c.in-NotFound.is at (c.in_ok-bytes.ensures.answer d)) (gave d)) c.get_part.ensures.gave

pub returns-in-Failed-clause-gave : goal.returns-in-Failed-clause-gave
returns-in-Failed-clause-gave g c = λ d. inl (rw c.in-Failed.is at (c.in_ok-bytes.ensures.answer d))
