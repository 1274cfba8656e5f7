use Rattle.std.proofs.Common.{List, Some, subst, sym}
use Rattle.mirror_sources.specs.Source.{File}
use Rattle.log_reader.specs.EdgeRows.{Edge}
use Rattle.log_reader.specs.Faults.{IsFailure}
use Rattle.log_reader.specs.Holding.{HasFullTiles}
use Rattle.log_reader.specs.Requested.{IsProofTile, RequestsOnly}
use Rattle.copy_places.specs.ReadFiles.{FailsUnread, IsRead}
use Rattle.copy_places.specs.WayFiles.{HasWanted}
use Rattle.copy_places.proofs.ReadFiles.{no_failure, reader_over}
use Rattle.copy_places.proofs.proving.proof_of_files.Goals as goal

pub returns-in-Err-NoFile-clause-log : goal.returns-in-Err-NoFile-clause-log
returns-in-Err-NoFile-clause-log g c = λ e entries log tiles.
    let digest = g.H.TreeHash.digest in
    let at = c.in_ok-reader in
    absurd (subst IsFailure c.in-Err-NoFile.field-0-is (c.in-Err-NoFile.ensures.honest entries
    (reader_over digest c.args.edge c.args.root entries at.reader at.ensures.edge at.ensures.root at.ensures.place log)
    (subst (λ (fs : List File). HasFullTiles digest entries (IsRead fs)) (sym c.new-source.ensures.files) tiles)).answer)

pub returns-in-Err-FalseFile-clause-log : goal.returns-in-Err-FalseFile-clause-log
returns-in-Err-FalseFile-clause-log g c = λ e entries log tiles.
    let digest = g.H.TreeHash.digest in
    let at = c.in_ok-reader in
    absurd (subst IsFailure c.in-Err-FalseFile.field-0-is (c.in-Err-FalseFile.ensures.honest entries
    (reader_over digest c.args.edge c.args.root entries at.reader at.ensures.edge at.ensures.root at.ensures.place log)
    (subst (λ (fs : List File). HasFullTiles digest entries (IsRead fs)) (sym c.new-source.ensures.files) tiles)).answer)

pub returns-in-Err-Collision-clause-log : goal.returns-in-Err-Collision-clause-log
returns-in-Err-Collision-clause-log g c = λ e entries log tiles.
    let digest = g.H.TreeHash.digest in
    let at = c.in_ok-reader in
    absurd (subst IsFailure c.in-Err-Collision.field-0-is (c.in-Err-Collision.ensures.honest entries
    (reader_over digest c.args.edge c.args.root entries at.reader at.ensures.edge at.ensures.root at.ensures.place log)
    (subst (λ (fs : List File). HasFullTiles digest entries (IsRead fs)) (sym c.new-source.ensures.files) tiles)).answer)

pub returns-in-Err-Source-clause-never : goal.returns-in-Err-Source-clause-never
returns-in-Err-Source-clause-never g c = λ e.
    let n = c.args.edge.size in
    let first = c.args.first in
    let source = c.new-source in
    let new = c.consistency.new.source in
    let read = c.in-Err-Source.ensures in
    no_failure first n c.requires.small source.result new
    (subst (λ (fs : List File). HasWanted first n 0 fs) (sym source.ensures.files) c.requires.wanted) source.ensures.asked
    source.ensures.failures read.kept
    (subst (λ (e : Edge). RequestsOnly (Some source.result.asked) (Some new.asked) (IsProofTile e.size first)) c.in_ok-reader.ensures.edge
    read.asks)
    (subst FailsUnread c.source-2.view_is c.source-2.invariant)
    (rw c.in-Err-Source.field-0-is at read.counted)
