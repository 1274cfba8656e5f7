use Rattle.std.proofs.Common.{rules, ◌≡◌, ◌⊎◌, ◌+◌, ◌*◌, ◌<◌, ◌≤◌, ℕ, List, [], ◌∷◌, length, refl, subst, sym, ap, ◌∙◌, arith, inl, inr}
use Rattle.tlog_shape.specs.Edge.{edge_index_of, width_of}
use Rattle.tlog_tiles.specs.declared.paths.Path.TheVariants.{Entries}
use Rattle.log_reader.specs.EdgeRows.{row_at}
use Rattle.log_reader.specs.Verified.{HasLeaves}
use Rattle.copy_places.proofs.Asking.{asks_same}
use Rattle.copy_places.specs.PlaceGets.{AsksPlaces}
use Rattle.mirror_sources.specs.Recorded.{AddsToRecord, KeepsRecord}
use Rattle.copy_follow.specs.Repaired.{BeginsBundle, IsOfEdge, RecordsHad}
use Rattle.copy_follow.specs.Taken.{MayTake}
use Rattle.copy_follow.proofs.Ends.{end_none, end_some, end_true}
use Rattle.copy_follow.proofs.Earlier.{kept_then}
use Rattle.copy_follow.proofs.Growth.{gathers_keep, gathers_none, gathers_then, kept_same, kept_adds}
use Rattle.copy_follow.proofs.Mending.{counts_none, counts_then}
use Rattle.mirror_sources.specs.Honest.{true_bytes}
use Rattle.copy_follow.specs.Lacked.{IsEndNowhere, IsLacked}
use Rattle.copy_follow.specs.Named.{NamesAt}
use Rattle.copy_follow.proofs.Lacking.{end_damaged, end_is, end_lacked}
use Rattle.copy_follow.proofs.Naming.{names_at, names_lack, names_none, names_then}
use Rattle.copy_follow.proofs.MendedFiles.{had_earlier}
use Rattle.copy_follow.proofs.mend_edge.mend_end.Goals as goal

pub returns-then-is_empty-clause-keeps : goal.returns-then-is_empty-clause-keeps
returns-then-is_empty-clause-keeps g c = λ log clear is.
    let x = g.D.Shelf.puts c.args.shelf.now in
    gathers_none g.H.TreeHash.digest 0 log x x (kept_same x)

pub returns-then-is_empty-clause-whole : goal.returns-then-is_empty-clause-whole
returns-then-is_empty-clause-whole g c = λ yes known is.
    let none : length c.row-row.result.now ≡ 0 = search rules in
    let empty = subst (λ (r : List (List ℕ)). length r ≡ 0) c.row-row.ensures none in
    end_none g.H.TreeHash.digest c.args.edge.now c.requires.widths known is (g.D.Shelf.puts c.args.shelf.now) empty

pub look_for_end-requires-clause-path : goal.look_for_end-requires-clause-path
look_for_end-requires-clause-path g c =
    let n = c.args.edge.now.size in
    let at : c.edge_index.result ≡ edge_index_of c.size-2.result 0 =
    c.edge_index.ensures ∙ ap (λ m. edge_index_of m 0) (c.size.ensures ∙ sym c.size-2.ensures) in
    ap (λ i. Entries i (length c.row-row.result.now)) at

pub returns-in-Ok-clause-asks : goal.returns-in-Ok-clause-asks
returns-in-Ok-clause-asks g c =
    subst (λ n. AsksPlaces g.S.Source.may_answer g.S.Source.failed g.S.Source.asked (IsOfEdge n) c.args.places.now
    c.look_for_end.new.places) c.size-2.ensures c.look_for_end.ensures.asks

pub returns-in-Err-clause-asks : goal.returns-in-Err-clause-asks
returns-in-Err-clause-asks g c =
    subst (λ n. AsksPlaces g.S.Source.may_answer g.S.Source.failed g.S.Source.asked (IsOfEdge n) c.args.places.now
    c.look_for_end.new.places) c.size-2.ensures c.look_for_end.ensures.asks

pub returns-in-Ok-clause-keeps : goal.returns-in-Ok-clause-keeps
returns-in-Ok-clause-keeps g c = λ log clear is.
    let x = g.D.Shelf.puts c.args.shelf.now in
    let y = g.D.Shelf.puts c.look_for_end.new.shelf in
    let z = g.D.Shelf.puts c.note_lack.new.shelf in
    gathers_none g.H.TreeHash.digest 0 log x z (kept_then x y z c.look_for_end.ensures.same c.note_lack.ensures.same)

pub returns-in-Ok-clause-counts : goal.returns-in-Ok-clause-counts
returns-in-Ok-clause-counts g c =
    let x = g.D.Shelf.puts c.args.shelf.now in
    let y = g.D.Shelf.puts c.look_for_end.new.shelf in
    let z = g.D.Shelf.puts c.note_lack.new.shelf in
    counts_none c.args.repaired.now.put c.note_lack.new.repaired.put x z c.note_lack.ensures.put
    (kept_then x y z c.look_for_end.ensures.same c.note_lack.ensures.same)

pub returns-in-Err-note_lack-clause-keeps : goal.returns-in-Err-note_lack-clause-keeps
returns-in-Err-note_lack-clause-keeps g c = λ log clear is.
    let x = g.D.Shelf.puts c.args.shelf.now in
    let y = g.D.Shelf.puts c.look_for_end.new.shelf in
    let z = g.D.Shelf.puts c.note_lack.new.shelf in
    gathers_none g.H.TreeHash.digest 0 log x z (kept_then x y z c.look_for_end.ensures.same c.note_lack.ensures.same)

pub returns-in-Err-note_lack-clause-counts : goal.returns-in-Err-note_lack-clause-counts
returns-in-Err-note_lack-clause-counts g c =
    let x = g.D.Shelf.puts c.args.shelf.now in
    let y = g.D.Shelf.puts c.look_for_end.new.shelf in
    let z = g.D.Shelf.puts c.note_lack.new.shelf in
    counts_none c.args.repaired.now.put c.note_lack.new.repaired.put x z c.note_lack.ensures.put
    (kept_then x y z c.look_for_end.ensures.same c.note_lack.ensures.same)

pub returns-in-Err-note_lack-clause-asks : goal.returns-in-Err-note_lack-clause-asks
returns-in-Err-note_lack-clause-asks g c =
    subst (λ n. AsksPlaces g.S.Source.may_answer g.S.Source.failed g.S.Source.asked (IsOfEdge n) c.args.places.now
    c.look_for_end.new.places) c.size-2.ensures c.look_for_end.ensures.asks

pub returns-in-Err-clause-keeps : goal.returns-in-Err-clause-keeps
returns-in-Err-clause-keeps g c = λ log clear is.
    gathers_none g.H.TreeHash.digest 0 log (g.D.Shelf.puts c.args.shelf.now) (g.D.Shelf.puts c.look_for_end.new.shelf)
    c.look_for_end.ensures.same

pub returns-in-Ok-mend_partial-clause-asks : goal.returns-in-Ok-mend_partial-clause-asks
returns-in-Ok-mend_partial-clause-asks g c =
    subst (λ n. AsksPlaces g.S.Source.may_answer g.S.Source.failed g.S.Source.asked (IsOfEdge n) c.args.places.now
    c.look_for_end.new.places) c.size-2.ensures c.look_for_end.ensures.asks

pub returns-in-Ok-mend_partial-clause-counts : goal.returns-in-Ok-mend_partial-clause-counts
returns-in-Ok-mend_partial-clause-counts g c =
    let n = c.args.repaired.now.put in
    counts_then n n c.mend_partial.new.repaired.put (g.D.Shelf.puts c.args.shelf.now) (g.D.Shelf.puts c.look_for_end.new.shelf)
    (g.D.Shelf.puts c.mend_partial.new.shelf)
    (counts_none n n (g.D.Shelf.puts c.args.shelf.now) (g.D.Shelf.puts c.look_for_end.new.shelf) refl c.look_for_end.ensures.same)
    c.mend_partial.ensures.counts

pub returns-in-Ok-mend_partial-clause-keeps : goal.returns-in-Ok-mend_partial-clause-keeps
returns-in-Ok-mend_partial-clause-keeps g c = λ log clear is.
    let digest = g.H.TreeHash.digest in
    let edge = c.args.edge.now in
    let index = edge_index_of edge.size 0 in
    let row = row_at edge 0 in
    let width = length row in
    let bytes = c.in-Ok-Some.bytes.items in
    let x = g.D.Shelf.puts c.args.shelf.now in
    let y = g.D.Shelf.puts c.look_for_end.new.shelf in
    let z = g.D.Shelf.puts c.mend_partial.new.shelf in
    let some : 1 ≤ length c.row-row.result.now = search rules in
    let some_row = subst (λ (r : List (List ℕ)). 1 ≤ length r) c.row-row.ensures some in
    let at : c.edge_index.result ≡ index = c.edge_index.ensures ∙ ap (λ n. edge_index_of n 0) c.size.ensures in
    let path : Entries c.edge_index.result (length c.row-row.result.now) ≡ Entries index width =
    λ j. Entries (at j) (length (c.row-row.ensures j)) in
    let v = subst (λ (r : List (List ℕ)). HasLeaves digest (length r) bytes r) c.row-row.ensures
    (rw c.in-Ok-Some.field-0-is at c.in-Ok-Some.ensures.found) in
    let puts_path = subst (λ p. (KeepsRecord y z) ⊎ (AddsToRecord y z ((p, c.deref.result.now) ∷ []))) path c.mend_partial.ensures.puts in
    let puts = subst (λ b. (KeepsRecord y z) ⊎ (AddsToRecord y z ((Entries index width, b) ∷ []))) c.deref.ensures.value puts_path in
    let take = MayTake g.S.Source.may_answer c.args.places.now x in
    let taken = subst (λ n. BeginsBundle take (edge_index_of n 0) bytes) c.size-2.ensures
    (rw c.in-Ok-Some.field-0-is at c.in-Ok-Some.ensures.taken) in
    gathers_then digest 0 log log log x y z (gathers_none digest 0 log x y c.look_for_end.ensures.same)
    (gathers_keep digest 0 log y z (Entries index width, bytes) puts
    (end_true digest g.met.H.TreeHash.digest_length log take clear edge c.requires.widths is index width bytes row refl refl refl
    some_row v taken))

pub returns-clause-asks : goal.returns-clause-asks
returns-clause-asks g c =
    subst (λ n. AsksPlaces g.S.Source.may_answer g.S.Source.failed g.S.Source.asked (IsOfEdge n) c.args.places.now
    c.look_for_end.new.places) c.size-2.ensures c.look_for_end.ensures.asks

pub returns-clause-counts : goal.returns-clause-counts
returns-clause-counts g c =
    let n = c.args.repaired.now.put in
    counts_then n n c.mend_partial.new.repaired.put (g.D.Shelf.puts c.args.shelf.now) (g.D.Shelf.puts c.look_for_end.new.shelf)
    (g.D.Shelf.puts c.mend_partial.new.shelf)
    (counts_none n n (g.D.Shelf.puts c.args.shelf.now) (g.D.Shelf.puts c.look_for_end.new.shelf) refl c.look_for_end.ensures.same)
    c.mend_partial.ensures.counts

pub returns-clause-keeps : goal.returns-clause-keeps
returns-clause-keeps g c = λ log clear is.
    let digest = g.H.TreeHash.digest in
    let edge = c.args.edge.now in
    let index = edge_index_of edge.size 0 in
    let row = row_at edge 0 in
    let width = length row in
    let bytes = c.in-Ok-Some.bytes.items in
    let x = g.D.Shelf.puts c.args.shelf.now in
    let y = g.D.Shelf.puts c.look_for_end.new.shelf in
    let z = g.D.Shelf.puts c.mend_partial.new.shelf in
    let some : 1 ≤ length c.row-row.result.now = search rules in
    let some_row = subst (λ (r : List (List ℕ)). 1 ≤ length r) c.row-row.ensures some in
    let at : c.edge_index.result ≡ index = c.edge_index.ensures ∙ ap (λ n. edge_index_of n 0) c.size.ensures in
    let path : Entries c.edge_index.result (length c.row-row.result.now) ≡ Entries index width =
    λ j. Entries (at j) (length (c.row-row.ensures j)) in
    let v = subst (λ (r : List (List ℕ)). HasLeaves digest (length r) bytes r) c.row-row.ensures
    (rw c.in-Ok-Some.field-0-is at c.in-Ok-Some.ensures.found) in
    let puts_path = subst (λ p. (KeepsRecord y z) ⊎ (AddsToRecord y z ((p, c.deref.result.now) ∷ []))) path c.mend_partial.ensures.puts in
    let puts = subst (λ b. (KeepsRecord y z) ⊎ (AddsToRecord y z ((Entries index width, b) ∷ []))) c.deref.ensures.value puts_path in
    let take = MayTake g.S.Source.may_answer c.args.places.now x in
    let taken = subst (λ n. BeginsBundle take (edge_index_of n 0) bytes) c.size-2.ensures
    (rw c.in-Ok-Some.field-0-is at c.in-Ok-Some.ensures.taken) in
    gathers_then digest 0 log log log x y z (gathers_none digest 0 log x y c.look_for_end.ensures.same)
    (gathers_keep digest 0 log y z (Entries index width, bytes) puts
    (end_true digest g.met.H.TreeHash.digest_length log take clear edge c.requires.widths is index width bytes row refl refl refl
    some_row v taken))

pub returns-in-Ok-mend_partial-clause-whole : goal.returns-in-Ok-mend_partial-clause-whole
returns-in-Ok-mend_partial-clause-whole g c = λ yes known is.
    let digest = g.H.TreeHash.digest in
    let edge = c.args.edge.now in
    let index = edge_index_of edge.size 0 in
    let row = row_at edge 0 in
    let width = length row in
    let bytes = c.in-Ok-Some.bytes.items in
    let x = g.D.Shelf.puts c.args.shelf.now in
    let y = g.D.Shelf.puts c.look_for_end.new.shelf in
    let z = g.D.Shelf.puts c.mend_partial.new.shelf in
    let some : 1 ≤ length c.row-row.result.now = search rules in
    let some_row = subst (λ (r : List (List ℕ)). 1 ≤ length r) c.row-row.ensures some in
    let at : c.edge_index.result ≡ index = c.edge_index.ensures ∙ ap (λ n. edge_index_of n 0) c.size.ensures in
    let path : Entries c.edge_index.result (length c.row-row.result.now) ≡ Entries index width =
    λ j. Entries (at j) (length (c.row-row.ensures j)) in
    let v = subst (λ (r : List (List ℕ)). HasLeaves digest (length r) bytes r) c.row-row.ensures
    (rw c.in-Ok-Some.field-0-is at c.in-Ok-Some.ensures.found) in
    let puts_path = subst (λ p. (KeepsRecord y z) ⊎ (AddsToRecord y z ((p, c.deref.result.now) ∷ []))) path c.mend_partial.ensures.puts in
    let puts = subst (λ b. (KeepsRecord y z) ⊎ (AddsToRecord y z ((Entries index width, b) ∷ []))) c.deref.ensures.value puts_path in
    let there = subst (λ b. RecordsHad y z (Entries index width) b) c.deref.ensures.value
    (subst (λ p. RecordsHad y z p c.deref.result.now) path c.in-Ok-mend_partial.ensures.had) in
    end_some digest edge c.requires.widths known is width some_row (c.requires.widths 0 (omega arith)) bytes v x y z
    c.look_for_end.ensures.same puts there

pub returns-then-is_empty-clause-asks : goal.returns-then-is_empty-clause-asks
returns-then-is_empty-clause-asks g c =
    asks_same g.S.Source.may_answer g.S.Source.failed g.S.Source.asked (IsOfEdge c.args.edge.now.size) c.args.places.now

pub returns-then-is_empty-clause-goes_on : goal.returns-then-is_empty-clause-goes_on
returns-then-is_empty-clause-goes_on g c = λ log short clear is some.
    let none : length c.row-row.result.now ≡ 0 = search rules in
    let empty = subst (λ (r : List (List ℕ)). length r ≡ 0) c.row-row.ensures none in
    let width : length (row_at c.args.edge.now 0) ≡ width_of (length log) 0 =
    c.requires.widths 0 (omega arith) ∙ ap (λ n. width_of n 0) is.size_is in
    absurd (omega (arith, empty, width, some))

pub returns-in-Ok-clause-goes_on : goal.returns-in-Ok-clause-goes_on
returns-in-Ok-clause-goes_on g c = λ log short clear is some.
    let digest = g.H.TreeHash.digest in
    let hash = g.met.H.TreeHash.digest_length in
    let may = g.S.Source.may_answer in
    let edge = c.args.edge.now in
    let widths = c.requires.widths in
    let p = c.args.places.now in
    let q = c.look_for_end.new.places in
    let x = g.D.Shelf.puts c.args.shelf.now in
    let row = c.row-row.result.now in
    let index = c.edge_index.result in
    let width = length row in
    let path = Entries index width in
    let at : index ≡ edge_index_of edge.size 0 = c.edge_index.ensures ∙ ap (λ n. edge_index_of n 0) c.size.ensures in
    let wide : width ≡ length (row_at edge 0) = ap length c.row-row.ensures in
    let some_row : 1 ≤ width = search rules in
    let none = rw c.in-Ok-None.field-0-is at c.in-Ok-None.ensures.none in
    let none_row = subst (λ (r : List (List ℕ)). IsEndNowhere digest may p q x path r) c.row-row.ensures none in
    inr (subst (λ o. IsLacked digest log may p q x o) (end_is digest hash log short edge widths is index width at wide some_row)
    (end_lacked digest hash log short edge widths is index width at wide some_row may p q x none_row))

pub returns-in-Ok-clause-names : goal.returns-in-Ok-clause-names
returns-in-Ok-clause-names g c = λ log short clear is.
    let digest = g.H.TreeHash.digest in
    let hash = g.met.H.TreeHash.digest_length in
    let may = g.S.Source.may_answer in
    let edge = c.args.edge.now in
    let widths = c.requires.widths in
    let p = c.args.places.now in
    let q = c.look_for_end.new.places in
    let x = g.D.Shelf.puts c.args.shelf.now in
    let row = c.row-row.result.now in
    let index = c.edge_index.result in
    let width = length row in
    let path = Entries index width in
    let at : index ≡ edge_index_of edge.size 0 = c.edge_index.ensures ∙ ap (λ n. edge_index_of n 0) c.size.ensures in
    let wide : width ≡ length (row_at edge 0) = ap length c.row-row.ensures in
    let some_row : 1 ≤ width = search rules in
    let none = rw c.in-Ok-None.field-0-is at c.in-Ok-None.ensures.none in
    let none_row = subst (λ (r : List (List ℕ)). IsEndNowhere digest may p q x path r) c.row-row.ensures none in
    names_lack digest log x (g.D.Shelf.puts c.look_for_end.new.shelf) path c.args.repaired.now.damaged.items
    c.note_lack.new.repaired.damaged.items c.look_for_end.ensures.same
    (end_damaged digest hash log short edge widths is index width at wide some_row x none_row.shelf) c.in-Ok.ensures.names

pub returns-in-Ok-mend_partial-clause-goes_on : goal.returns-in-Ok-mend_partial-clause-goes_on
returns-in-Ok-mend_partial-clause-goes_on g c = λ log short clear is positive.
    let digest = g.H.TreeHash.digest in
    let hash = g.met.H.TreeHash.digest_length in
    let edge = c.args.edge.now in
    let index = edge_index_of edge.size 0 in
    let row = row_at edge 0 in
    let width = length row in
    let bytes = c.in-Ok-Some.bytes.items in
    let x = g.D.Shelf.puts c.args.shelf.now in
    let y = g.D.Shelf.puts c.look_for_end.new.shelf in
    let z = g.D.Shelf.puts c.mend_partial.new.shelf in
    let some : 1 ≤ length c.row-row.result.now = search rules in
    let some_row = subst (λ (r : List (List ℕ)). 1 ≤ length r) c.row-row.ensures some in
    let at : c.edge_index.result ≡ index = c.edge_index.ensures ∙ ap (λ n. edge_index_of n 0) c.size.ensures in
    let path : Entries c.edge_index.result (length c.row-row.result.now) ≡ Entries index width =
    λ j. Entries (at j) (length (c.row-row.ensures j)) in
    let v = subst (λ (r : List (List ℕ)). HasLeaves digest (length r) bytes r) c.row-row.ensures
    (rw c.in-Ok-Some.field-0-is at c.in-Ok-Some.ensures.found) in
    let take = MayTake g.S.Source.may_answer c.args.places.now x in
    let taken = subst (λ n. BeginsBundle take (edge_index_of n 0) bytes) c.size-2.ensures
    (rw c.in-Ok-Some.field-0-is at c.in-Ok-Some.ensures.taken) in
    let new = end_true digest hash log take clear edge c.requires.widths is index width bytes row refl refl refl some_row v taken in
    let there = subst (λ b. RecordsHad y z (Entries index width) b) (c.deref.ensures.value ∙ new.bytes_are)
    (subst (λ p. RecordsHad y z p c.deref.result.now) path c.in-Ok-mend_partial.ensures.had) in
    let end = Entries index width in
    inl (subst (λ o. RecordsHad x z o (true_bytes digest log o))
    (end_is digest hash log short edge c.requires.widths is index width refl refl some_row)
    (had_earlier x y z [] end (true_bytes digest log end) (kept_adds x y c.look_for_end.ensures.same) there))

pub returns-in-Ok-mend_partial-clause-names : goal.returns-in-Ok-mend_partial-clause-names
returns-in-Ok-mend_partial-clause-names g c = λ log short clear is.
    let digest = g.H.TreeHash.digest in
    let hash = g.met.H.TreeHash.digest_length in
    let edge = c.args.edge.now in
    let index = edge_index_of edge.size 0 in
    let row = row_at edge 0 in
    let width = length row in
    let bytes = c.in-Ok-Some.bytes.items in
    let x = g.D.Shelf.puts c.args.shelf.now in
    let y = g.D.Shelf.puts c.look_for_end.new.shelf in
    let some : 1 ≤ length c.row-row.result.now = search rules in
    let some_row = subst (λ (r : List (List ℕ)). 1 ≤ length r) c.row-row.ensures some in
    let at : c.edge_index.result ≡ index = c.edge_index.ensures ∙ ap (λ n. edge_index_of n 0) c.size.ensures in
    let path : Entries c.edge_index.result (length c.row-row.result.now) ≡ Entries index width =
    λ j. Entries (at j) (length (c.row-row.ensures j)) in
    let v = subst (λ (r : List (List ℕ)). HasLeaves digest (length r) bytes r) c.row-row.ensures
    (rw c.in-Ok-Some.field-0-is at c.in-Ok-Some.ensures.found) in
    let take = MayTake g.S.Source.may_answer c.args.places.now x in
    let taken = subst (λ n. BeginsBundle take (edge_index_of n 0) bytes) c.size-2.ensures
    (rw c.in-Ok-Some.field-0-is at c.in-Ok-Some.ensures.taken) in
    let new = end_true digest hash log take clear edge c.requires.widths is index width bytes row refl refl refl some_row v taken in
    let l = c.args.repaired.now.damaged.items in
    let m = c.mend_partial.new.repaired.damaged.items in
    let start = gathers_none digest 0 log x y c.look_for_end.ensures.same in
    names_then digest log x y l l m start (names_none digest log x l l refl)
    (names_at digest log y (Entries index width) c.deref.result.now l m (c.deref.ensures.value ∙ new.bytes_are)
    (subst (λ p. NamesAt y p c.deref.result.now l m) path c.in-Ok-mend_partial.ensures.names))

pub returns-then-is_empty-clause-names : goal.returns-then-is_empty-clause-names
returns-then-is_empty-clause-names g c = λ log short clear is.
    let l = c.args.repaired.now.damaged.items in
    names_none g.H.TreeHash.digest log (g.D.Shelf.puts c.args.shelf.now) l l refl
