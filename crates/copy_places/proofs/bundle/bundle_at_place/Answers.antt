use Rattle.std.proofs.Common.{ℕ, List, length, get_or, None, Some, sym, ◌∙◌, arith}
use Rattle.log_reader.specs.Verified.{HasLeaves}
use Rattle.copy_places.specs.Asked.{IsPathOrFull}
use Rattle.copy_places.proofs.Asking.{asks_noted, asks_same, none_given, some_found}
use Rattle.copy_places.proofs.InVain.{part_between, part_vain}
use Rattle.copy_places.proofs.TruePlaces.{true_between}
use Rattle.copy_places.proofs.TrueAnswers.{leaves_there, leaves_within, none_weaker}
use Rattle.copy_places.proofs.AskingOnce.{once_noted}
use Rattle.copy_places.specs.AskedOnce.{IsAtPlace}
use Rattle.copy_places.proofs.bundle.bundle_at_place.Goals as goal
use Rattle.copy_places.proofs.bundle.bundle_at_place.Goals.{then-is_some, else-is_some}

pub returns-clause-asks : goal.returns-clause-asks
returns-clause-asks g c = elim c.if-is_some.branch [
  | then-is_some w ↦ rw w.places-is (asks_noted g.S.Source.may_answer g.S.Source.failed g.S.Source.asked (IsPathOrFull c.args.path.now) c.args.places.now
      c.get_partial.new.places w.note_verified.new.self c.get_partial.ensures.asks w.note_verified.ensures)
  | else-is_some w ↦ rw w.places-is (asks_noted g.S.Source.may_answer g.S.Source.failed g.S.Source.asked (IsPathOrFull c.args.path.now) c.args.places.now
      c.get_partial.new.places w.note_wrong.new.self c.get_partial.ensures.asks w.note_wrong.ensures.asks)
]

pub returns-in_default-clause-honest : goal.returns-in_default-clause-honest
returns-in_default-clause-honest g c = λ entries short leaves t.
    let digest = g.H.TreeHash.digest in
    let found = rw c.in_default.is at c.in_ok-bytes.ensures.honest in
    let none = found digest g.met.H.TreeHash.digest_length entries short t
    (leaves_within digest entries c.args.path.now c.args.row.now leaves) in
    absurd (cc none)

pub returns-clause-honest : goal.returns-clause-honest
returns-clause-honest g c =
    let may = g.S.Source.may_answer in
    let failed = g.S.Source.failed in
    let asked = g.S.Source.asked in
    let digest = g.H.TreeHash.digest in
    let hash = g.met.H.TreeHash.digest_length in
    let path = c.args.path.now in
    let row = c.args.row.now in
    let bytes = c.in-Some.bytes.items in
    let so = IsPathOrFull path in
    let x = c.args.places.now in
    let y = c.get_partial.new.places in
    let given = rw c.in-Some.is at c.in_ok-bytes.ensures.honest in
    elim c.if-is_some.branch [
      | then-is_some w ↦ rw w.places-is (none_weaker c.in_ok-found.found _ _ (λ no entries short leaves t.
          let is = given digest hash entries short
          (true_between may failed asked digest entries so so (λ p. ⊥) x x y w.note_verified.new.self
          (asks_same may failed asked so x) c.get_partial.ensures.asks w.note_verified.ensures c.args.index t)
          (leaves_within digest entries path row leaves) in
          no (leaves_there digest hash entries short path row bytes leaves (cc is))) c.in_ok-found.ensures.none)
      | else-is_some w ↦ rw w.places-is (none_weaker c.in_ok-found.found _ _ (λ no entries short leaves t.
          let is = given digest hash entries short
          (true_between may failed asked digest entries so so (λ p. ⊥) x x y w.note_wrong.new.self
          (asks_same may failed asked so x) c.get_partial.ensures.asks w.note_wrong.ensures.asks c.args.index t)
          (leaves_within digest entries path row leaves) in
          no (leaves_there digest hash entries short path row bytes leaves (cc is))) c.in_ok-found.ensures.none)
    ]

pub returns-clause-once : goal.returns-clause-once
returns-clause-once g c =
    elim c.if-is_some.branch [
      | then-is_some w ↦ rw w.places-is (λ differ. once_noted g.S.Source.asked g.S.Source.may_answer g.S.Source.failed (IsAtPlace c.args.index (IsPathOrFull c.args.path.now)) c.args.places.now
          c.get_partial.new.places w.note_verified.new.self (c.get_partial.ensures.once differ) w.note_verified.ensures)
      | else-is_some w ↦ rw w.places-is (λ differ. once_noted g.S.Source.asked g.S.Source.may_answer g.S.Source.failed (IsAtPlace c.args.index (IsPathOrFull c.args.path.now)) c.args.places.now
          c.get_partial.new.places w.note_wrong.new.self (c.get_partial.ensures.once differ) w.note_wrong.ensures.asks)
    ]

pub returns-clause-blamed : goal.returns-clause-blamed
returns-clause-blamed g c = elim c.if-is_some.branch [
  | then-is_some w ↦ some_found c.in_ok-found.found _ (sym c.is_some.ensures ∙ w.if-is_some.true)
  | else-is_some w ↦ rw w.places-is (none_given c.in_ok-found.found _ (λ d few. w.note_wrong.ensures.noted d))
]

pub returns-in_default-clause-none : goal.returns-in_default-clause-none
returns-in_default-clause-none g c = λ d.
    let x = get_or c.args.places.now.list.items c.args.index d in
    let y = get_or c.get_partial.new.places.list.items c.args.index d in
    part_vain c.args.path.now (λ bytes. HasLeaves g.H.TreeHash.digest (length c.args.row.now) bytes c.args.row.now) None
    (g.S.Source.may_answer x.source) x.failures y.failures (rw c.in_default.is at (c.in_ok-bytes.ensures.gave d)) tt

pub returns-clause-none : goal.returns-clause-none
returns-clause-none g c =
    let may = g.S.Source.may_answer in
    let path = c.args.path.now in
    let row = c.args.row.now in
    let index = c.args.index in
    let good = λ (bytes : List ℕ). HasLeaves g.H.TreeHash.digest (length row) bytes row in
    let bytes = c.in-Some.bytes.items in
    elim c.if-is_some.branch [
      | then-is_some w ↦ some_found c.in_ok-found.found _ (sym c.is_some.ensures ∙ w.if-is_some.true)
      | else-is_some w ↦ rw w.places-is (none_weaker c.in_ok-found.found _ _ (λ no d.
          let x = get_or c.args.places.now.list.items index d in
          let y = get_or c.get_partial.new.places.list.items index d in
          let z = get_or w.note_wrong.new.self.list.items index d in
          let earlier = c.get_partial.ensures.asks.each index d in
          let later = w.note_wrong.ensures.asks.each index d in
          part_between path (may x.source) (may x.source) (record { stays = λ path answer h. h }) x.failures x.failures y.failures
          z.failures (omega arith) earlier.more later.more good
          (part_vain path good (Some bytes) (may x.source) x.failures y.failures
          (rw c.in-Some.is at (c.in_ok-bytes.ensures.gave d)) no)) c.in_ok-found.ensures.none)
    ]
