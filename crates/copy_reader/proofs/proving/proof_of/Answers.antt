use Rattle.std.proofs.Common.{◌≤◌, inr, length, refl, subst, sym, take, ◌∙◌, arith}
use Rattle.log_reader.proofs.FullTiles.{first_tiles}
use Rattle.log_reader.proofs.NodeHashes.{if_ok}
use Rattle.log_reader.proofs.TrueReads.{reads_more, tiles_later}
use Rattle.copy_reader.specs.Proofs.{IsAsked, IsInTree, IsMadeOf}
use Rattle.copy_reader.proofs.MadeProofs.{first_made, in_tree_asked, within_size}
use Rattle.std.proofs.lemmas.Result.{IfOk-from_err}
use Rattle.log_reader.specs.Faults.{CountsFailure}
use Rattle.log_reader.proofs.Exits.{counted_exit, failed_exit}
use Rattle.log_reader.proofs.Kept.{kept_twice, stays_twice}
use Rattle.copy_reader.specs.Damage.{NamesWithin}
use Rattle.copy_reader.proofs.Damage.{first_within, read_within, whole_within}
use Rattle.log_reader.proofs.FalseFiles.{names_exit}
use Rattle.std.proofs.lemmas.Result.{IfErr-weaker}
use Rattle.copy_reader.proofs.proving.proof_of.Goals as goal

pub returns-in_err-first : goal.returns-in_err-first
returns-in_err-first g c =
    let failed = g.S.Source.failed in
    let exit = c.from_residual in
    let step = c.in_err-first.ensures in
    record {
      asked = IfOk-from_err exit.result _ exit.ensures.0;
      holds = IfOk-from_err exit.result _ exit.ensures.0;
      later = step.later;
      kept = step.kept;
      counted = counted_exit exit.result c.prefix.result c.in_err-first.field-0.0 exit.ensures c.in_err-first.was
          (failed c.args.files.now) (failed c.args.files.now) (failed c.prefix.new.source) refl c.prefix.ensures.counted;
      names =
          let digest = g.H.TreeHash.digest in
          let may = g.S.Source.may_answer c.args.files.now in
          let edge = c.args.reader.now.edge in
          names_exit (NamesWithin digest may edge c.args.ask) exit.result c.in_err-first.field-0.0 exit.ensures
          (read_within digest may edge c.args.ask c.in_err-first.field-0.0 step.names);
      honest = λ entries r s.
          let went = step.honest entries r s in
          record {
            reader_is = went.reader_is;
            answer = failed_exit exit.result _ c.in_err-first.field-0.0 exit.ensures went.answer;
          };
    }

pub returns-clause-later : goal.returns-clause-later
returns-clause-later g c = stays_twice c.in_ok-first.ensures.later c.whole_proof-2.ensures.later

pub returns-clause-kept : goal.returns-clause-kept
returns-clause-kept g c =
    let files = g.S.Source.files in
    kept_twice (files c.args.files.now) (files c.prefix.new.source) (files c.whole_proof-2.new.files) c.in_ok-first.ensures.kept
    c.whole_proof-2.ensures.kept

pub returns-clause-counted : goal.returns-clause-counted
returns-clause-counted g c =
    let failed = g.S.Source.failed in
    subst (λ n. CountsFailure n (failed c.whole_proof-2.new.files) c.whole_proof-2.result) c.in_ok-first.ensures.counted
    c.whole_proof-2.ensures.counted

pub returns-clause-asked : goal.returns-clause-asked
returns-clause-asked g c =
    let digest = g.H.TreeHash.digest in
    let reader = c.args.reader.now in
    let n = reader.edge.size in
    let ask = c.args.ask in
    let first = c.in_ok-first.first in
    if_ok (IsInTree first.root ask) (IsAsked digest n reader.root ask) c.whole_proof-2.result
    (λ proof p. in_tree_asked digest n reader.root first.root ask proof (within_size ask n c.requires)
    (inr (record {
      edge = reader.edge;
      hashes = c.root-root.ensures.hashes;
      size_is = refl;
      leads = c.root-root.ensures.leads;
      start = first.edge;
      shown = c.in_ok-first.ensures.shown;
      first_is = c.in_ok-first.ensures.size ∙ c.tree_size-size.ensures;
      first_leads = c.root-first_root.ensures.leads;
    })) p)
    c.whole_proof-2.ensures.asked

pub returns-clause-honest : goal.returns-clause-honest
returns-clause-honest g c = λ entries r s.
    let digest = g.H.TreeHash.digest in
    let may = g.S.Source.may_answer in
    let n = c.args.reader.now.edge.size in
    let ask = c.args.ask in
    let size = c.tree_size-size.result in
    let size_is = c.tree_size-size.ensures in
    let went = c.in_ok-first.ensures.honest entries r s in
    let within : size ≤ length entries = omega (arith, size_is, within_size ask n c.requires, r.size_is) in
    let later = tiles_later digest entries (may c.args.files.now) (may c.prefix.new.source) c.in_ok-first.ensures.later s in
    let made = c.whole_proof-2.ensures.honest (take size entries) went.answer
    (first_tiles digest entries (may c.prefix.new.source) size within later) in
    record {
      reader_is = went.reader_is;
      answer = reads_more c.whole_proof-2.result _ _
          (λ proof is. first_made digest entries n ask proof r.size_is c.requires
          (subst (λ m. IsMadeOf digest ask (take m entries) proof) size_is is)) made.answer;
    }

pub returns-then-size-clause-names : goal.returns-then-size-clause-names
returns-then-size-clause-names g c =
    IfErr-weaker c.whole_proof.result _ _
    (whole_within g.H.TreeHash.digest (g.S.Source.may_answer c.args.files.now) c.args.reader.now.edge c.args.ask
    (sym c.size.ensures ∙ (sym c.if-size.true ∙ c.tree_size-size.ensures)))
    c.whole_proof.ensures.names

pub returns-clause-names : goal.returns-clause-names
returns-clause-names g c =
    let may = g.S.Source.may_answer in
    IfErr-weaker c.whole_proof-2.result _ _
    (first_within g.H.TreeHash.digest (may c.args.files.now) c.args.reader.now.edge c.args.ask c.in_ok-first.first.edge
    c.in_ok-first.ensures.shown (may c.prefix.new.source) c.in_ok-first.ensures.later
    (c.in_ok-first.ensures.size ∙ c.tree_size-size.ensures)) c.whole_proof-2.ensures.names
