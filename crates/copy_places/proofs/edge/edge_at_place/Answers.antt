use Rattle.std.proofs.Common.{◌<◌, ◌^◌, inl, arith}
use Rattle.copy_places.specs.Asked.{IsEdgeTile}
use Rattle.copy_places.specs.AskedOnce.{IsAtPlace}
use Rattle.copy_places.specs.Giving.{MayGive}
use Rattle.copy_places.proofs.Asking.{asks_noted, asks_same}
use Rattle.copy_places.proofs.AskingOnce.{once_noted}
use Rattle.copy_places.proofs.RowsGiven.{from_widths, mix_from, true_mix}
use Rattle.copy_places.proofs.TruePlaces.{true_between}
use Rattle.copy_places.proofs.edge.edge_at_place.Goals as goal

pub edge_of_two-requires-clause-first : goal.edge_of_two-requires-clause-first
edge_of_two-requires-clause-first g c =
    from_widths (MayGive g.S.Source.may_answer c.args.places.now) c.args.size c.in_ok-rows.rows c.in_ok-rows.ensures.taken

pub edge_of_two-requires-clause-second : goal.edge_of_two-requires-clause-second
edge_of_two-requires-clause-second g c =
    from_widths (MayGive g.S.Source.may_answer c.args.places.now) c.args.size c.in_ok-rows.rows c.in_ok-rows.ensures.taken

pub returns-in-Some-clause-asks : goal.returns-in-Some-clause-asks
returns-in-Some-clause-asks g c =
    asks_noted g.S.Source.may_answer g.S.Source.failed g.S.Source.asked (IsEdgeTile c.args.size) c.args.places.now
    c.rows_at_place.new.places c.note_verified.new.self c.rows_at_place.ensures.asks c.note_verified.ensures

pub returns-in-Some-clause-once : goal.returns-in-Some-clause-once
returns-in-Some-clause-once g c =
    once_noted g.S.Source.asked g.S.Source.may_answer g.S.Source.failed (IsAtPlace c.args.index (IsEdgeTile c.args.size)) c.args.places.now
    c.rows_at_place.new.places c.note_verified.new.self c.rows_at_place.ensures.once c.note_verified.ensures

pub returns-in-Some-clause-taken : goal.returns-in-Some-clause-taken
returns-in-Some-clause-taken g c =
    let taken = c.in_ok-rows.ensures.taken in
    mix_from (MayGive g.S.Source.may_answer c.args.places.now) c.args.size g.H.TreeHash.digest c.args.root.now c.in_ok-rows.rows
    c.in_ok-rows.rows c.in-Some.edge taken taken (rw c.in-Some.is at c.in_ok-edge.ensures.leads)
    (rw c.in-Some.is at c.in_ok-edge.ensures.mix)

pub returns-in_ok-push-in-None-clause-asks : goal.returns-in_ok-push-in-None-clause-asks
returns-in_ok-push-in-None-clause-asks g c =
    asks_noted g.S.Source.may_answer g.S.Source.failed g.S.Source.asked (IsEdgeTile c.args.size) c.args.places.now
    c.rows_at_place.new.places c.note_wrong.new.self c.rows_at_place.ensures.asks c.note_wrong.ensures.asks

pub returns-in_ok-push-in-None-clause-once : goal.returns-in_ok-push-in-None-clause-once
returns-in_ok-push-in-None-clause-once g c =
    once_noted g.S.Source.asked g.S.Source.may_answer g.S.Source.failed (IsAtPlace c.args.index (IsEdgeTile c.args.size)) c.args.places.now
    c.rows_at_place.new.places c.note_wrong.new.self c.rows_at_place.ensures.once c.note_wrong.ensures.asks

pub returns-in_ok-push-in-None-clause-honest : goal.returns-in_ok-push-in-None-clause-honest
returns-in_ok-push-in-None-clause-honest g c = λ entries r t.
    let may = g.S.Source.may_answer in
    let failed = g.S.Source.failed in
    let asked = g.S.Source.asked in
    let digest = g.H.TreeHash.digest in
    let so = IsEdgeTile c.args.size in
    let x = c.args.places.now in
    let small : c.args.size < 2 ^ 64 = omega (arith, c.ranges.size.fits) in
    let rows = c.in_ok-rows.ensures.honest digest g.met.H.TreeHash.digest_length entries r.short
    (true_between may failed asked digest entries so so (λ p. ⊥) x x c.rows_at_place.new.places c.note_wrong.new.self
    (asks_same may failed asked so x) c.rows_at_place.ensures.asks c.note_wrong.ensures.asks c.args.index t) r.upto in
    true_mix digest entries c.args.size c.args.root.now small c.in_ok-rows.rows c.in_ok-rows.rows (λ level low. inl (rows level low)) r
    (rw c.in-None.is at c.in_ok-edge.ensures.none)

pub returns-in_err-push-in-None-clause-asks : goal.returns-in_err-push-in-None-clause-asks
returns-in_err-push-in-None-clause-asks g c =
    asks_noted g.S.Source.may_answer g.S.Source.failed g.S.Source.asked (IsEdgeTile c.args.size) c.args.places.now
    c.rows_at_place.new.places c.note_wrong.new.self c.rows_at_place.ensures.asks c.note_wrong.ensures.asks

pub returns-in_err-push-in-None-clause-once : goal.returns-in_err-push-in-None-clause-once
returns-in_err-push-in-None-clause-once g c =
    once_noted g.S.Source.asked g.S.Source.may_answer g.S.Source.failed (IsAtPlace c.args.index (IsEdgeTile c.args.size)) c.args.places.now
    c.rows_at_place.new.places c.note_wrong.new.self c.rows_at_place.ensures.once c.note_wrong.ensures.asks
