use Rattle.std.proofs.Common.{◌≡◌, ◌/◌, ◌%◌, ◌<◌, ◌≤◌, [], length, refl, subst, sym, ◌∙◌, arith}
use Rattle.std.proofs.lemmas.Bool.{ltb-true}
use Rattle.std.proofs.lemmas.List.{get_or_read_under}
use Rattle.log_reader.specs.Holding.{true_row}
use Rattle.log_reader.proofs.Climbing.{shown_there}
use Rattle.log_reader.proofs.TruePrefixes.{leaf_is, leaf_within}
use Rattle.log_reader.proofs.TrueReads.{there_true}
use Rattle.std.proofs.lemmas.Result.{IfOk-from_err}
use Rattle.log_reader.proofs.Exits.{counted_exit, failed_exit}
use Rattle.log_reader.proofs.FalseFiles.{names_exit, shown_leaf}
use Rattle.log_reader.specs.FalseFiles.{NamesFalse}
use Rattle.log_reader.specs.Ways.{HasEdgeHashes}
use Rattle.log_reader.proofs.reader.LogReader.leaf.Goals as goal

pub returns-in_err-go_to : goal.returns-in_err-go_to
returns-in_err-go_to g c =
    let failed = g.S.Source.failed in
    let exit = c.from_residual in
    let step = c.in_err-go_to.ensures in
    record {
      edge = step.edge;
      root = step.root;
      shown = IfOk-from_err exit.result _ exit.ensures.0;
      later = step.later;
      kept = step.kept;
      counted = counted_exit exit.result c.go_to.result c.in_err-go_to.field-0.0 exit.ensures c.in_err-go_to.was
          (failed c.args.source.now) (failed c.args.source.now) (failed c.go_to.new.source) refl c.go_to.ensures.counted;
      names = names_exit (NamesFalse g.H.TreeHash.digest (g.S.Source.may_answer c.args.source.now) c.args.self.now.edge) exit.result c.in_err-go_to.field-0.0 exit.ensures
          step.names;
      honest = λ entries r s.
          let went = step.honest entries r s in
          record {
            reader_is = went.reader_is;
            answer = failed_exit exit.result _ c.in_err-go_to.field-0.0 exit.ensures went.answer;
          };
    }

pub returns-in-Some : goal.returns-in-Some
returns-in-Some g c =
    let step = c.in_ok-go_to.ensures in
    let index = c.args.index in
    let row = c.here.result.now in
    let within : index % 256 < length row = ltb-true _ _ (sym c.in-Some.ensures.lookup.0) in
    record {
      edge = step.edge;
      root = step.root;
      shown = record {
        row = row;
        shown = shown_there g.H.TreeHash.digest c.args.self.now.edge c.go_to.new.reader 0 (index / 256) row
            c.in_ok-go_to.ensures.edge c.in_ok-go_to.ensures.there c.here.ensures.shown;
        within = within;
        hash_is = get_or_read_under row (index % 256) (length row) c.in-Some.hash.now [] c.in-Some.ensures.lookup.1 within refl;
      };
      later = step.later;
      kept = step.kept;
      counted = step.counted;
      names = tt;
      honest = λ entries r s.
          let done = c.in_ok-go_to.ensures.honest entries r s in
          let index = c.args.index in
          let row = c.here.result.now in
          let before : index < length entries = subst (λ n. index < n) r.size_is c.requires in
          let is : row ≡ true_row g.H.TreeHash.digest entries 0 (index / 256) =
          there_true g.H.TreeHash.digest g.met.H.TreeHash.digest_length entries c.go_to.new.reader done.reader_is 0 (index / 256) row
          c.here.ensures.row c.in_ok-go_to.ensures.there in
          record {
            reader_is = done.reader_is;
            answer = get_or_read_under row (index % 256) (length row) c.in-Some.hash.now [] c.in-Some.ensures.lookup.1
                (leaf_within g.H.TreeHash.digest entries index before row is) refl
                ∙ leaf_is g.H.TreeHash.digest entries index before row is;
          };
    }

pub returns-in-None : goal.returns-in-None
returns-in-None g c = record {
  edge = c.in_ok-go_to.ensures.edge;
  root = c.in_ok-go_to.ensures.root;
  shown = tt;
  later = c.in_ok-go_to.ensures.later;
  kept = c.in_ok-go_to.ensures.kept;
  counted = c.in_ok-go_to.ensures.counted;
  names =
      let edge = c.args.self.now.edge in
      let index = c.args.index in
      let row = c.here.result.now in
      let went = c.in_ok-go_to.ensures in
      let shown = shown_there g.H.TreeHash.digest edge c.go_to.new.reader 0 (index / 256) row went.edge went.there
      c.here.ensures.shown in
      let within = shown_leaf g.H.TreeHash.digest edge (subst HasEdgeHashes went.edge c.here.ensures.hashes) index row shown
      c.requires in
      let none : length row ≤ index % 256 = c.in-None.ensures.lookup.3 in
      absurd (omega (arith, within, none));
  honest = λ entries r s.
      let done = c.in_ok-go_to.ensures.honest entries r s in
      let index = c.args.index in
      let row = c.here.result.now in
      let before : index < length entries = subst (λ n. index < n) r.size_is c.requires in
      let is : row ≡ true_row g.H.TreeHash.digest entries 0 (index / 256) =
      there_true g.H.TreeHash.digest g.met.H.TreeHash.digest_length entries c.go_to.new.reader done.reader_is 0 (index / 256) row
      c.here.ensures.row c.in_ok-go_to.ensures.there in
      let within = leaf_within g.H.TreeHash.digest entries index before row is in
      let none : length row ≤ index % 256 = c.in-None.ensures.lookup.3 in
      absurd (omega (arith, within, none));
}
