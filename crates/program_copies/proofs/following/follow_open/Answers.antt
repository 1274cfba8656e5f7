use Rattle.std.proofs.Common.{◌≡◌, option_map, refl}
use Rattle.std.proofs.KnownBytes.{Keeps-refl}
use Rattle.program_copies.specs.Following.{IsNoteOf}
use Rattle.program_copies.proofs.Noted.{ends_recorded, ends_same, follows_ended, follows_recorded, given_recorded, looks_ended, looks_recorded, note_had, recorded_counts, says_printed, suffices_recorded}
use Rattle.program_copies.proofs.following.follow_open.Goals as goal

pub returns-in-Ok-clause-runs : goal.returns-in-Ok-clause-runs
returns-in-Ok-clause-runs g c = λ before.
    let digest = g.H.TreeHash.digest in
    let may = g.S.Source.may_answer in
    let recorded = g.F.NamedFiles.puts c.args.files.now in
    let name = option_map (λ name. name.now) c.args.following.now.checkpoint in
    let given = option_map (λ v. v.items) c.args.given in
    let done = c.in-Ok.done in
    let said = c.in-Ok.ensures in
    let tells = c.report_done-answer.ensures.tells in
    record {
      follows = follows_recorded _ _ _ _ (IsNoteOf may recorded name c.args.places.now)
          (note_had may recorded name c.args.places.now given c.requires) _ before _ _ _ _ _ _ done c.report_done-answer.result
          (record { whole = said.whole; brought = said.brought; forks = said.forks }) tells;
      says = says_printed digest _ _ may g.S.Source.failed g.S.Source.asked c.args.places.now c.follow_reporting.new.places _ _ given
          _ _ _ done _ _ _ _ c.requires said.says said.tells c.report_done-answer.result tells;
      ends = ends_recorded digest may g.S.Source.asked _ _ _ c.args.places.now c.follow_reporting.new.places _ _ given
          c.requires _ done _ _ _ _ c.report_done-answer.result tells;
      given = given_recorded _ _ given c.requires _ _ _ done _ _ _ _ c.report_done-answer.result tells;
      counted = recorded_counts _ _ _ _ _ _ _ _ c.report_done-answer.result (g.D.Shelf.failed c.args.folders.now)
          (g.D.Shelf.failed c.follow_reporting.new.folders) tells said.counted;
      status = c.report_done-answer.ensures.status;
      suffices = suffices_recorded digest may _ _ _ _ c.args.places.now c.follow_reporting.new.places _ _ _ _ given c.requires _
          done _ _ c.report_done-answer.result said.brought said.suffices said.reaches tells;
    }

pub returns-in-Err-clause-runs : goal.returns-in-Err-clause-runs
returns-in-Err-clause-runs g c = λ before.
    let digest = g.H.TreeHash.digest in
    let may = g.S.Source.may_answer in
    let recorded = g.F.NamedFiles.puts c.args.files.now in
    let name = option_map (λ name. name.now) c.args.following.now.checkpoint in
    let given = option_map (λ v. v.items) c.args.given in
    let fault = c.in-Err.fault in
    let said = c.in-Err.ensures in
    record {
      follows = follows_ended _ _ _ _ (IsNoteOf may recorded name c.args.places.now)
          (note_had may recorded name c.args.places.now given c.requires) _ before _ _ _ _ _ _ fault said.whole
          (Keeps-refl (g.W.Write.contents c.args.output.now)) refl;
      says = tt;
      ends = λ other e.
          let same : fault ≡ other = cc in
          ends_same digest may g.S.Source.asked _ _ _ c.args.places.now c.follow_reporting.new.places recorded name
          given c.requires fault other same said.ends said.passed;
      given = (given, c.requires);
      counted = said.counted;
      status = tt;
      suffices = record { given = given; reads = c.requires; suffices = said.suffices; reaches = said.reaches };
    }

pub returns-in-Ok-clause-looks : goal.returns-in-Ok-clause-looks
returns-in-Ok-clause-looks g c =
    looks_recorded g.D.Shelf.puts g.S.Source.may_answer (g.F.NamedFiles.puts c.args.files.now)
    (option_map (λ name. name.now) c.args.following.now.checkpoint) (option_map (λ v. v.items) c.args.given) c.args.places.now
    (g.D.Shelf.puts c.args.folders.now) c.requires c.follow_reporting.new.folders _ _ _ c.in-Ok.done _ _ _ _ c.report_done-answer.result
    c.report_done-answer.ensures.tells

pub returns-in-Err-clause-looks : goal.returns-in-Err-clause-looks
returns-in-Err-clause-looks g c =
    looks_ended g.D.Shelf.puts g.S.Source.may_answer (g.F.NamedFiles.puts c.args.files.now)
    (option_map (λ name. name.now) c.args.following.now.checkpoint) (option_map (λ v. v.items) c.args.given) c.args.places.now
    (g.D.Shelf.puts c.args.folders.now) c.requires c.in-Err.fault c.in-Err.ensures.looks
