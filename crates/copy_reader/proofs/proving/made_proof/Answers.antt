use Rattle.log_reader.proofs.NodeHashes.{if_ok}
use Rattle.log_reader.proofs.TrueReads.{reads_more}
use Rattle.log_reader.specs.Proving.{IsConsistencyTo, IsInclusionIn}
use Rattle.copy_reader.specs.Proofs.{IsInTree}
use Rattle.copy_reader.proofs.MadeProofs.{consistency_in_tree, consistency_whole, consistency_within}
use Rattle.copy_reader.proofs.MadeProofs.{inclusion_in_tree, inclusion_whole, inclusion_within}
use Rattle.copy_reader.proofs.proving.made_proof.Goals as goal

pub inclusion-requires : goal.inclusion-requires
inclusion-requires g c =
    inclusion_within c.args.ask c.args.reader.now.edge.size c.requires.whole _ c.in-Inclusion.index c.in-Inclusion.is c.requires.within

pub returns-in-Inclusion-clause-asked : goal.returns-in-Inclusion-clause-asked
returns-in-Inclusion-clause-asked g c =
    let n = c.args.reader.now.edge.size in
    let root = c.args.reader.now.root in
    if_ok (IsInclusionIn n c.in-Inclusion.index root) (IsInTree root c.args.ask) c.inclusion.result
    (λ proof p. inclusion_in_tree c.args.ask n c.requires.whole _ c.in-Inclusion.index c.in-Inclusion.is root proof p)
    c.inclusion.ensures.asked

pub returns-in-Inclusion-clause-honest : goal.returns-in-Inclusion-clause-honest
returns-in-Inclusion-clause-honest g c = λ entries r s.
    let went = c.inclusion.ensures.honest entries r s in
    record {
      reader_is = went.reader_is;
      answer = reads_more c.inclusion.result _ _
          (λ proof made. inclusion_whole c.args.ask c.args.reader.now.edge.size c.requires.whole _ c.in-Inclusion.index
          c.in-Inclusion.is g.H.TreeHash.digest entries proof r.size_is made) went.answer;
    }

pub consistency-requires-clause-some : goal.consistency-requires-clause-some
consistency-requires-clause-some g c =
    (consistency_within c.args.ask c.args.reader.now.edge.size c.requires.whole c.in-Consistency.first _ c.in-Consistency.is
    c.requires.within).0

pub consistency-requires-clause-within : goal.consistency-requires-clause-within
consistency-requires-clause-within g c =
    (consistency_within c.args.ask c.args.reader.now.edge.size c.requires.whole c.in-Consistency.first _ c.in-Consistency.is
    c.requires.within).1

pub returns-in-Consistency-clause-asked : goal.returns-in-Consistency-clause-asked
returns-in-Consistency-clause-asked g c =
    let n = c.args.reader.now.edge.size in
    let root = c.args.reader.now.root in
    if_ok (IsConsistencyTo c.in-Consistency.first n root) (IsInTree root c.args.ask) c.consistency.result
    (λ proof p. consistency_in_tree c.args.ask n c.requires.whole c.in-Consistency.first _ c.in-Consistency.is root proof p)
    c.consistency.ensures.asked

pub returns-in-Consistency-clause-honest : goal.returns-in-Consistency-clause-honest
returns-in-Consistency-clause-honest g c = λ entries r s.
    let went = c.consistency.ensures.honest entries r s in
    record {
      reader_is = went.reader_is;
      answer = reads_more c.consistency.result _ _
          (λ proof made. consistency_whole c.args.ask c.args.reader.now.edge.size c.requires.whole c.in-Consistency.first _
          c.in-Consistency.is g.H.TreeHash.digest entries proof r.size_is made) went.answer;
    }
