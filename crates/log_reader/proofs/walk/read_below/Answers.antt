use Rattle.std.proofs.Common.{◌≡◌, ◌+◌, ◌/◌, ◌%◌, ◌≤◌, ℕ, List, [], length, get_or, refl, sym, subst, ap, arith}
use Rattle.std.proofs.lemmas.List.{get_or_read_under}
use Rattle.log_reader.specs.Holding.{IsTileHash}
use Rattle.log_reader.specs.Ways.{row_of_way}
use Rattle.log_reader.proofs.TrueReads.{hash_below, within_above}
use Rattle.log_reader.proofs.FalseFiles.{shown_below, tile_named}
use Rattle.log_reader.proofs.Climbing.{shown_there}
use Rattle.std.proofs.lemmas.Result.{IfErr-weaker}
use Rattle.log_reader.proofs.walk.read_below.Goals as goal

pub returns-in_default-clause-honest : goal.returns-in_default-clause-honest
returns-in_default-clause-honest g c = λ entries r s b.
    let within = within_above g.H.TreeHash.digest g.met.H.TreeHash.digest_length entries c.args.reader.now r c.args.level
    c.args.index b in
    omega (arith, within, ap length c.here-row.ensures.row, c.in_default.ensures.lookup.3)

pub returns-clause-honest : goal.returns-clause-honest
returns-clause-honest g c = λ entries r s b.
    let reader = c.args.reader.now in
    let j = c.args.index % 256 in
    let row = row_of_way reader.edge reader.level reader.way in
    let within = within_above g.H.TreeHash.digest g.met.H.TreeHash.digest_length entries reader r c.args.level c.args.index b in
    let at : c.in-Some.hash.now ≡ get_or row j [] =
    get_or_read_under row j (length row) c.in-Some.hash.now []
    (subst (λ (xs : List (List ℕ)). c.in-Some.hash.now ≡ get_or xs j c.in-Some.hash.now) c.here-row.ensures.row
    c.in-Some.ensures.lookup.1) within (ap length (λ i. row)) in
    c.read_tile.ensures.honest entries
    (subst (IsTileHash g.H.TreeHash.digest entries c.args.level c.args.index) (sym at)
    (hash_below g.H.TreeHash.digest g.met.H.TreeHash.digest_length entries reader r c.args.level c.args.index b)) s

pub returns-in_default-clause-names : goal.returns-in_default-clause-names
returns-in_default-clause-names g c = λ b.
    let digest = g.H.TreeHash.digest in
    let reader = c.args.reader.now in
    let row = c.here-row.result.now in
    let shown = shown_there digest reader.edge reader (c.args.level + 1) (c.args.index / 256) row refl (b.level_is, b.index_is)
    c.here-row.ensures.shown in
    let within = shown_below digest reader.edge c.here-row.ensures.hashes c.args.level c.args.index row shown b.full in
    let none : length row ≤ c.args.index % 256 = c.in_default.ensures.lookup.3 in
    absurd (omega (arith, within, none))

pub returns-clause-names : goal.returns-clause-names
returns-clause-names g c = λ b.
    let digest = g.H.TreeHash.digest in
    let reader = c.args.reader.now in
    let row = c.here-row.result.now in
    let j = c.args.index % 256 in
    let shown = shown_there digest reader.edge reader (c.args.level + 1) (c.args.index / 256) row refl (b.level_is, b.index_is)
    c.here-row.ensures.shown in
    let within = shown_below digest reader.edge c.here-row.ensures.hashes c.args.level c.args.index row shown b.full in
    let at : c.in-Some.hash.now ≡ get_or row j [] =
    get_or_read_under row j (length row) c.in-Some.hash.now [] c.in-Some.ensures.lookup.1 within refl in
    IfErr-weaker c.read_tile.result _ _
    (tile_named digest (g.S.Source.may_answer c.args.source.now) reader.edge c.args.level c.args.index row shown within
    c.in-Some.hash.now at) c.read_tile.ensures.names
