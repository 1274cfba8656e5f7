use Rattle.std.proofs.Common.{◌≡◌, option_map}
use Rattle.tlog_tiles.specs.declared.paths.Path.TheVariants.{Checkpoint}
use Rattle.copy_places.specs.AskedOnce.{AsksEachOnce}
use Rattle.copy_places.specs.GatheredFrom.{AreFirstCandidates}
use Rattle.copy_places.specs.Requests.{IsGivenOrMayGive}
use Rattle.program_copies.proofs.Noted.{among_same, greatest_same, looks_same, passed_same, says_same, whole_same}
use Rattle.program_copies.proofs.following.follow_reporting.Goals as goal

pub returns-clause-suffices : goal.returns-clause-suffices
returns-clause-suffices g c =
    greatest_same g.H.TreeHash.digest g.S.Source.may_answer _ c.args.places.now c.follow-done.new.places _
    c.follow-done.result (g.D.Shelf.puts c.args.folders.now) (g.D.Shelf.puts c.report_puts.new.folders)
    c.report_puts.ensures.puts c.follow-done.ensures.suffices

pub returns-clause-reaches : goal.returns-clause-reaches
returns-clause-reaches g c =
    among_same g.H.TreeHash.digest g.S.Source.may_answer _ c.args.places.now c.follow-done.new.places _
    c.follow-done.result (g.D.Shelf.puts c.args.folders.now) (g.D.Shelf.puts c.report_puts.new.folders)
    (g.D.Shelf.puts c.end_lines.new.folders) (g.D.Shelf.puts c.follow-done.new.shelf)
    c.report_puts.ensures.puts c.end_lines.ensures.puts c.follow-done.ensures.reaches

pub returns-clause-whole : goal.returns-clause-whole
returns-clause-whole g c =
    whole_same g.H.TreeHash.digest c.args.following.now.origin.now _ _ (g.D.Shelf.puts c.args.folders.now)
    (g.D.Shelf.puts c.report_puts.new.folders) (g.D.Shelf.puts c.follow-done.new.shelf)
    (g.D.Shelf.puts c.end_lines.new.folders) c.report_puts.ensures.puts c.end_lines.ensures.puts
    c.follow-done.ensures.whole

pub returns-clause-says : goal.returns-clause-says
returns-clause-says g c =
    says_same g.H.TreeHash.digest c.args.following.now.origin.now
    (AreFirstCandidates g.S.Source.may_answer g.S.Source.failed g.S.Source.asked c.args.following.now.origin.now
    _ c.args.places.now c.follow-done.new.places (option_map (λ v. v.items) c.args.given))
    (g.D.Shelf.puts c.args.folders.now) (g.D.Shelf.puts c.report_puts.new.folders)
    (g.D.Shelf.puts c.follow-done.new.shelf) (g.D.Shelf.puts c.end_lines.new.folders) c.report_puts.ensures.puts
    c.end_lines.ensures.puts c.follow-done.result c.follow-done.ensures.says

pub returns-clause-looks : goal.returns-clause-looks
returns-clause-looks g c =
    looks_same g.D.Shelf.puts (IsGivenOrMayGive g.S.Source.may_answer (option_map (λ v. v.items) c.args.given) c.args.places.now)
    (g.D.Shelf.puts c.args.folders.now) (g.D.Shelf.puts c.report_puts.new.folders) c.report_puts.ensures.puts
    c.follow-done.result c.follow-done.ensures.looks

pub returns-clause-passed : goal.returns-clause-passed
returns-clause-passed g c =
    passed_same (AsksEachOnce g.S.Source.asked (λ k path. path ≡ Checkpoint) c.args.places.now c.follow-done.new.places)
    (g.D.Shelf.puts c.args.folders.now) (g.D.Shelf.puts c.report_puts.new.folders) c.report_puts.ensures.puts
    c.follow-done.result c.follow-done.ensures.passed
