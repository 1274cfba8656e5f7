use Rattle.std.proofs.Common.{[], ℕ, ◌∙◌, inl, inr, refl, sym, ◌<◌, ◌≤◌, length, subst, arith}
use Rattle.copy_places.proofs.Asking.{asks_then, asks_weaker}
use Rattle.copy_follow.specs.Growing.{empty_tip}
use Rattle.copy_follow.specs.Repaired.{IsFullFile, IsOfEdge, MayBeAskedToRepair, RecordsHad}
use Rattle.copy_follow.proofs.Cuts.{ends_later}
use Rattle.copy_follow.proofs.EdgeRows.{edge_known}
use Rattle.copy_follow.proofs.Growth.{gathers_then, gathers_none, kept_same}
use Rattle.copy_follow.proofs.MendedFiles.{each_had, had_rows, known_none, tiles_kept, end_file, had_earlier}
use Rattle.copy_follow.proofs.Mending.{counts_then, fulls_clear}
use Rattle.tlog_shape.specs.Edge.{edge_index_of, width_of}
use Rattle.tlog_tiles.specs.declared.paths.Path.TheVariants.{Tile, Entries}
use Rattle.mirror_sources.specs.Honest.{true_bytes}
use Rattle.log_reader.specs.EdgeRows.{edge_tile}
use Rattle.copy_follow.proofs.Lacking.{down_first, each_gone, had_second}
use Rattle.copy_follow.proofs.Naming.{names_then}
use Rattle.copy_follow.proofs.mend_edge.mend_all.Goals as goal

pub returns-in-Err-clause-asks : goal.returns-in-Err-clause-asks
returns-in-Err-clause-asks g c =
    asks_weaker g.S.Source.may_answer g.S.Source.failed g.S.Source.asked IsFullFile (MayBeAskedToRepair c.args.edge.now.size)
    (λ path h. inr h) c.args.places.now c.mend_levels.new.places c.mend_levels.ensures.mends.asks

pub returns-in-Err-clause-counts : goal.returns-in-Err-clause-counts
returns-in-Err-clause-counts g c = c.mend_levels.ensures.mends.counts

pub returns-in-Err-clause-keeps : goal.returns-in-Err-clause-keeps
returns-in-Err-clause-keeps g c = λ log clear tree is. c.mend_levels.ensures.keeps log (fulls_clear _ log _ tree clear) is

pub returns-in-Err-mend_end-clause-asks : goal.returns-in-Err-mend_end-clause-asks
returns-in-Err-mend_end-clause-asks g c =
    let may = g.S.Source.may_answer in
    let failed = g.S.Source.failed in
    let asked = g.S.Source.asked in
    let n = c.args.edge.now.size in
    let so = MayBeAskedToRepair n in
    let x = c.args.places.now in
    let y = c.mend_levels.new.places in
    let z = c.mend_end.new.places in
    asks_then may failed asked so x y z
    (asks_weaker may failed asked IsFullFile so (λ path h. inr h) x y c.mend_levels.ensures.mends.asks)
    (asks_weaker may failed asked (IsOfEdge n) so (λ path h. inl h) y z c.mend_end.ensures.asks)

pub returns-in-Err-mend_end-clause-counts : goal.returns-in-Err-mend_end-clause-counts
returns-in-Err-mend_end-clause-counts g c =
    counts_then c.args.repaired.now.put c.mend_levels.new.repaired.put c.mend_end.new.repaired.put
    (g.D.Shelf.puts c.args.shelf.now) (g.D.Shelf.puts c.mend_levels.new.shelf) (g.D.Shelf.puts c.mend_end.new.shelf)
    c.mend_levels.ensures.mends.counts c.mend_end.ensures.counts

pub returns-in-Err-mend_end-clause-keeps : goal.returns-in-Err-mend_end-clause-keeps
returns-in-Err-mend_end-clause-keeps g c = λ log clear tree is.
    let digest = g.H.TreeHash.digest in
    let p = c.args.places.now in
    let q = c.mend_levels.new.places in
    let x = g.D.Shelf.puts c.args.shelf.now in
    let y = g.D.Shelf.puts c.mend_levels.new.shelf in
    let z = g.D.Shelf.puts c.mend_end.new.shelf in
    let m = c.mend_levels.ensures.mends in
    let two = gathers_then digest 0 log log log x y z (c.mend_levels.ensures.keeps log (fulls_clear _ log _ tree clear) is)
    (c.mend_end.ensures.keeps log
    (ends_later g.S.Source.may_answer g.S.Source.failed g.S.Source.asked IsFullFile p q m.asks digest log x y m.taken clear.ends)
    is) in two

pub returns-in-Ok-mend_edge_tiles-clause-asks : goal.returns-in-Ok-mend_edge_tiles-clause-asks
returns-in-Ok-mend_edge_tiles-clause-asks g c =
    let may = g.S.Source.may_answer in
    let failed = g.S.Source.failed in
    let asked = g.S.Source.asked in
    let n = c.args.edge.now.size in
    let so = MayBeAskedToRepair n in
    let x = c.args.places.now in
    let y = c.mend_levels.new.places in
    let z = c.mend_end.new.places in
    asks_then may failed asked so x y z
    (asks_weaker may failed asked IsFullFile so (λ path h. inr h) x y c.mend_levels.ensures.mends.asks)
    (asks_weaker may failed asked (IsOfEdge n) so (λ path h. inl h) y z c.mend_end.ensures.asks)

pub returns-in-Ok-mend_edge_tiles-clause-counts : goal.returns-in-Ok-mend_edge_tiles-clause-counts
returns-in-Ok-mend_edge_tiles-clause-counts g c =
    counts_then c.args.repaired.now.put c.mend_end.new.repaired.put c.mend_edge_tiles.new.repaired.put
    (g.D.Shelf.puts c.args.shelf.now) (g.D.Shelf.puts c.mend_end.new.shelf) (g.D.Shelf.puts c.mend_edge_tiles.new.shelf)
    (counts_then c.args.repaired.now.put c.mend_levels.new.repaired.put c.mend_end.new.repaired.put
    (g.D.Shelf.puts c.args.shelf.now) (g.D.Shelf.puts c.mend_levels.new.shelf) (g.D.Shelf.puts c.mend_end.new.shelf)
    c.mend_levels.ensures.mends.counts c.mend_end.ensures.counts) c.mend_edge_tiles.ensures.counts

pub returns-in-Ok-mend_edge_tiles-clause-keeps : goal.returns-in-Ok-mend_edge_tiles-clause-keeps
returns-in-Ok-mend_edge_tiles-clause-keeps g c = λ log clear tree is.
    let digest = g.H.TreeHash.digest in
    let p = c.args.places.now in
    let q = c.mend_levels.new.places in
    let x = g.D.Shelf.puts c.args.shelf.now in
    let y = g.D.Shelf.puts c.mend_levels.new.shelf in
    let z = g.D.Shelf.puts c.mend_end.new.shelf in
    let m = c.mend_levels.ensures.mends in
    let two = gathers_then digest 0 log log log x y z (c.mend_levels.ensures.keeps log (fulls_clear _ log _ tree clear) is)
    (c.mend_end.ensures.keeps log
    (ends_later g.S.Source.may_answer g.S.Source.failed g.S.Source.asked IsFullFile p q m.asks digest log x y m.taken clear.ends)
    is) in
    let w = g.D.Shelf.puts c.mend_edge_tiles.new.shelf in
    gathers_then digest 0 log log log x z w two
    (tiles_kept digest c.args.edge.now log z w c.mend_edge_tiles.result
    (c.mend_edge_tiles.ensures.puts log (sym is.size_is) is.rows_are))

pub returns-in-Err-mend_edge_tiles-clause-asks : goal.returns-in-Err-mend_edge_tiles-clause-asks
returns-in-Err-mend_edge_tiles-clause-asks g c =
    let may = g.S.Source.may_answer in
    let failed = g.S.Source.failed in
    let asked = g.S.Source.asked in
    let n = c.args.edge.now.size in
    let so = MayBeAskedToRepair n in
    let x = c.args.places.now in
    let y = c.mend_levels.new.places in
    let z = c.mend_end.new.places in
    asks_then may failed asked so x y z
    (asks_weaker may failed asked IsFullFile so (λ path h. inr h) x y c.mend_levels.ensures.mends.asks)
    (asks_weaker may failed asked (IsOfEdge n) so (λ path h. inl h) y z c.mend_end.ensures.asks)

pub returns-in-Err-mend_edge_tiles-clause-counts : goal.returns-in-Err-mend_edge_tiles-clause-counts
returns-in-Err-mend_edge_tiles-clause-counts g c =
    counts_then c.args.repaired.now.put c.mend_end.new.repaired.put c.mend_edge_tiles.new.repaired.put
    (g.D.Shelf.puts c.args.shelf.now) (g.D.Shelf.puts c.mend_end.new.shelf) (g.D.Shelf.puts c.mend_edge_tiles.new.shelf)
    (counts_then c.args.repaired.now.put c.mend_levels.new.repaired.put c.mend_end.new.repaired.put
    (g.D.Shelf.puts c.args.shelf.now) (g.D.Shelf.puts c.mend_levels.new.shelf) (g.D.Shelf.puts c.mend_end.new.shelf)
    c.mend_levels.ensures.mends.counts c.mend_end.ensures.counts) c.mend_edge_tiles.ensures.counts

pub returns-in-Err-mend_edge_tiles-clause-keeps : goal.returns-in-Err-mend_edge_tiles-clause-keeps
returns-in-Err-mend_edge_tiles-clause-keeps g c = λ log clear tree is.
    let digest = g.H.TreeHash.digest in
    let p = c.args.places.now in
    let q = c.mend_levels.new.places in
    let x = g.D.Shelf.puts c.args.shelf.now in
    let y = g.D.Shelf.puts c.mend_levels.new.shelf in
    let z = g.D.Shelf.puts c.mend_end.new.shelf in
    let m = c.mend_levels.ensures.mends in
    let two = gathers_then digest 0 log log log x y z (c.mend_levels.ensures.keeps log (fulls_clear _ log _ tree clear) is)
    (c.mend_end.ensures.keeps log
    (ends_later g.S.Source.may_answer g.S.Source.failed g.S.Source.asked IsFullFile p q m.asks digest log x y m.taken clear.ends)
    is) in
    let w = g.D.Shelf.puts c.mend_edge_tiles.new.shelf in
    gathers_then digest 0 log log log x z w two
    (tiles_kept digest c.args.edge.now log z w c.mend_edge_tiles.result
    (c.mend_edge_tiles.ensures.puts log (sym is.size_is) is.rows_are))

pub returns-in-Ok-mend_edge_tiles-clause-whole : goal.returns-in-Ok-mend_edge_tiles-clause-whole
returns-in-Ok-mend_edge_tiles-clause-whole g c = λ yes.
    let digest = g.H.TreeHash.digest in
    let edge = c.args.edge.now in
    let x = g.D.Shelf.puts c.args.shelf.now in
    let y = g.D.Shelf.puts c.mend_levels.new.shelf in
    let z = g.D.Shelf.puts c.mend_end.new.shelf in
    let w = g.D.Shelf.puts c.mend_edge_tiles.new.shelf in
    let both = c.both.ensures yes in
    let e = c.in-Ok.ensures.whole both.0 [] (known_none digest) in
    let l = c.in-Ok-mend_end.ensures.whole both.1 e.next
    (edge_known digest empty_tip edge [] c.requires.widths x y 1 0 0 refl (known_none digest) e) in
    let p = c.in-Ok-mend_edge_tiles.ensures.puts l.next l.size_is (had_rows digest edge c.requires.size c.requires.widths x y z w e l) in
    each_had digest edge c.requires.size c.requires.widths x y z w e l p

pub returns-in-Ok-mend_edge_tiles-clause-goes_on : goal.returns-in-Ok-mend_edge_tiles-clause-goes_on
returns-in-Ok-mend_edge_tiles-clause-goes_on g c = λ log short clear tree is.
    let may = g.S.Source.may_answer in
    let failed = g.S.Source.failed in
    let asked = g.S.Source.asked in
    let digest = g.H.TreeHash.digest in
    let so = IsFullFile in
    let also = IsOfEdge c.args.edge.now.size in
    let p = c.args.places.now in
    let q = c.mend_levels.new.places in
    let r = c.mend_end.new.places in
    let x = g.D.Shelf.puts c.args.shelf.now in
    let y = g.D.Shelf.puts c.mend_levels.new.shelf in
    let z = g.D.Shelf.puts c.mend_end.new.shelf in
    let w = g.D.Shelf.puts c.mend_edge_tiles.new.shelf in
    let m = c.mend_levels.ensures.mends in
    let still = ends_later may failed asked so p q m.asks digest log x y m.taken clear.ends in
    let one = c.mend_levels.ensures.keeps log (fulls_clear _ log _ tree clear) is in
    let two = c.mend_end.ensures.keeps log still is in
    let tiles = c.in-Ok-mend_edge_tiles.ensures.puts log (sym is.size_is) is.rows_are in
    let three = tiles.gathers in
    let none = gathers_none digest 0 log x x (kept_same x) in
    let four = gathers_then digest 0 log log log x y z one two in
    let n = length log in
    let small = subst (λ k. k < 9223372036854775808) is.size_is c.requires.size in
    inl (each_gone digest log small may p r x w
    (down_first may failed asked digest log so also p q r m.asks c.mend_end.ensures.asks x y w one
    (gathers_then digest 0 log log log y z w two three) none 1 (c.in-Ok.ensures.goes_on log short (fulls_clear _ log _ tree clear) is))
    (λ some. had_second may failed asked digest log so also p q r m.asks c.mend_end.ensures.asks x y z one two none w
    (Entries (edge_index_of n 0) (width_of n 0)) (end_file n some) three (c.in-Ok-mend_end.ensures.goes_on log short still is some))
    (λ level low some. subst (λ k. let path = Tile level (edge_index_of k level) (width_of k level) in
    RecordsHad x w path (true_bytes digest log path)) is.size_is
    (had_earlier x z w four.puts (edge_tile c.args.edge.now level) (true_bytes digest log (edge_tile c.args.edge.now level)) four.recorded
    (tiles.holds level (omega arith) (subst (λ k. 1 ≤ width_of k level) (sym is.size_is) some)))))

pub returns-in-Ok-mend_edge_tiles-clause-names : goal.returns-in-Ok-mend_edge_tiles-clause-names
returns-in-Ok-mend_edge_tiles-clause-names g c = λ log short clear tree is.
    let digest = g.H.TreeHash.digest in
    let x = g.D.Shelf.puts c.args.shelf.now in
    let y = g.D.Shelf.puts c.mend_levels.new.shelf in
    let z = g.D.Shelf.puts c.mend_end.new.shelf in
    let m = c.mend_levels.ensures.mends in
    let still = ends_later g.S.Source.may_answer g.S.Source.failed g.S.Source.asked IsFullFile c.args.places.now
    c.mend_levels.new.places m.asks digest log x y m.taken clear.ends in
    let one = c.mend_levels.ensures.keeps log (fulls_clear _ log _ tree clear) is in
    let two = c.mend_end.ensures.keeps log still is in
    let l = c.args.repaired.now.damaged.items in
    let h = c.mend_levels.new.repaired.damaged.items in
    let k = c.mend_end.new.repaired.damaged.items in
    let e = c.mend_edge_tiles.new.repaired.damaged.items in
    names_then digest log x z l k e (gathers_then digest 0 log log log x y z one two)
    (names_then digest log x y l h k one (c.in-Ok.ensures.names log short (fulls_clear _ log _ tree clear) is)
    (c.in-Ok-mend_end.ensures.names log short still is))
    (c.in-Ok-mend_edge_tiles.ensures.names log (sym is.size_is) is.rows_are)
