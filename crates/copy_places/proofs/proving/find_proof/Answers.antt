use Rattle.std.proofs.Common.{◌∙◌, subst, sym}
use Rattle.copy_places.specs.Faults.{CountsAsk}
use Rattle.copy_places.proofs.AskingEnds.{ends_then}
use Rattle.copy_places.specs.Nobodys.{NoLog, NoRow}
use Rattle.copy_places.proofs.WayFiles.{edge_true, row_lacked_before, tiles_of_log}
use Rattle.copy_places.proofs.proving.find_proof.Goals as goal

pub returns-in_err-add_way-clause-goes : goal.returns-in_err-add_way-clause-goes
returns-in_err-add_way-clause-goes g c =
    ends_then g.S.Source.may_answer g.S.Source.failed g.S.Source.asked c.args.places.now c.ask_edge.new.places c.add_way.new.places c.ask_edge.ensures.goes c.add_way.ensures.goes

pub returns-then-not-branch-clause-goes : goal.returns-then-not-branch-clause-goes
returns-then-not-branch-clause-goes g c =
    ends_then g.S.Source.may_answer g.S.Source.failed g.S.Source.asked c.args.places.now c.ask_edge.new.places c.add_way.new.places c.ask_edge.ensures.goes c.add_way.ensures.goes

pub returns-clause-goes : goal.returns-clause-goes
returns-clause-goes g c =
    ends_then g.S.Source.may_answer g.S.Source.failed g.S.Source.asked c.args.places.now c.ask_edge.new.places c.add_way.new.places c.ask_edge.ensures.goes c.add_way.ensures.goes

pub returns-clause-counted : goal.returns-clause-counted
returns-clause-counted g c =
    let old = g.D.Shelf.failed c.args.shelf.now in
    subst (λ m. CountsAsk old m c.read_proof.result) (sym (c.in_ok-add_way.ensures.counted ∙ c.in_ok-edge.ensures.counted)) (c.read_proof.ensures.memory old)

pub returns-then-not-branch-clause-lacks : goal.returns-then-not-branch-clause-lacks
returns-then-not-branch-clause-lacks g c = λ e.
    let digest = g.H.TreeHash.digest in
    let edge = c.in-Some.edge in
    let leads = rw c.in-Some.is at c.in_ok-edge.ensures.leads in
    NoRow edge leads c.see_edge.ensures
    (row_lacked_before digest (g.D.Shelf.puts c.args.shelf.now) (g.D.Shelf.puts c.ask_edge.new.shelf) c.in_ok-edge.ensures.same
    c.add_way.new.places.ends.tiles.items _ _ c.ask_edge.ensures.goes.asks.count c.args.smaller.now.size.0 edge
    (c.in_ok-add_way.ensures.lacks c.if-not-branch.true))

pub returns-clause-lacks : goal.returns-clause-lacks
returns-clause-lacks g c = λ e.
    let digest = g.H.TreeHash.digest in
    let edge = c.in-Some.edge in
    let leads = rw c.in-Some.is at c.in_ok-edge.ensures.leads in
    let hashes = c.see_edge.ensures in
    let files = c.add_way.new.files in
    let w = c.in_ok-add_way.ensures.files c.if-not-branch.false in
    NoLog edge leads hashes (record {
      level = w.level;
      index = w.index;
      way = w.way;
      is_way = w.is_way;
      none = λ hash small entries short clear.
          c.read_proof.ensures.log e entries
          (record {
            size_is = sym clear.size_is;
            root_is = sym (clear.root_is ∙ leads.root_is);
            rows = edge_true digest hash entries edge hashes small w.way clear;
          })
          (tiles_of_log digest hash entries edge hashes small w.way clear w.level w.index w.is_way files w.are);
    })
