use Rattle.std.proofs.Common.{◌≡◌, ◌⊎◌, ℕ, List, [], ◌∷◌, inl, inr, refl, subst, ◌∙◌, arith}
use Rattle.tlog_tiles.specs.declared.paths.Path.TheVariants.{Tile}
use Rattle.mirror_model.specs.TrueLaws.{AreShort}
use Rattle.mirror_sources.specs.Recorded.{AddsToRecord, KeepsRecord}
use Rattle.copy_places.proofs.Asking.{asks_weaker}
use Rattle.copy_follow.specs.Lacked.{StandsOrNobodys}
use Rattle.copy_follow.specs.Named.{NamesAt, NamesDamaged, NamesLack}
use Rattle.copy_follow.specs.Repaired.{AreFullsClear, IsFullFile}
use Rattle.copy_follow.specs.Standing.{RecordsStands}
use Rattle.copy_follow.specs.Suffices.{IsTileHash}
use Rattle.copy_follow.specs.Taken.{MayTake}
use Rattle.copy_follow.proofs.Earlier.{kept_then}
use Rattle.copy_follow.proofs.Growth.{gathers_keep, gathers_none, gathers_then}
use Rattle.copy_follow.proofs.Lacking.{stands_earlier, tile_nobodys}
use Rattle.copy_follow.proofs.Mending.{leaf_tile_found, mends_none, mends_put}
use Rattle.copy_follow.proofs.Naming.{names_at, names_lack, names_none, names_then, on_ok}
use Rattle.copy_follow.proofs.NewFulls.{full_tile_asked}
use Rattle.copy_follow.proofs.mend_tiles.mend_leaf_tile.Goals as goal

pub returns-in-Ok-Some-clause-mends : goal.returns-in-Ok-Some-clause-mends
returns-in-Ok-Some-clause-mends g c =
    let may = g.S.Source.may_answer in
    let failed = g.S.Source.failed in
    let asked = g.S.Source.asked in
    let so = IsFullFile in
    let tile = Tile 0 c.args.index 256 in
    let p = c.args.places.now in
    let q = c.look_for.new.places in
    let x = g.D.Shelf.puts c.args.shelf.now in
    let y = g.D.Shelf.puts c.look_for.new.shelf in
    let z = g.D.Shelf.puts c.mend.new.shelf in
    let n = c.args.repaired.now.put in
    let bytes = c.in-Ok-Some.found.bytes.items in
    let asks = asks_weaker may failed asked (λ p. p ≡ tile) so (full_tile_asked 0 c.args.index) p q c.look_for.ensures.asks in
    let puts = subst (λ b. (KeepsRecord y z) ⊎ (AddsToRecord y z ((tile, b) ∷ []))) c.deref.ensures.value c.mend.ensures.puts in
    mends_put may failed asked so p q x y z n n c.mend.new.repaired.put tile bytes
    (mends_none may failed asked so p q x y n n asks c.look_for.ensures.same refl) puts
    (inr (rw c.in-Ok-Some.field-0-is at c.in-Ok-Some.ensures.taken)) c.mend.ensures.counts

pub returns-in-Ok-Some-clause-keeps : goal.returns-in-Ok-Some-clause-keeps
returns-in-Ok-Some-clause-keeps g c = λ log clear is.
    let digest = g.H.TreeHash.digest in
    let tile = Tile 0 c.args.index 256 in
    let x = g.D.Shelf.puts c.args.shelf.now in
    let y = g.D.Shelf.puts c.look_for.new.shelf in
    let z = g.D.Shelf.puts c.mend.new.shelf in
    let bytes = c.in-Ok-Some.found.bytes.items in
    let puts = subst (λ b. (KeepsRecord y z) ⊎ (AddsToRecord y z ((tile, b) ∷ []))) c.deref.ensures.value c.mend.ensures.puts in
    gathers_then digest 0 log log log x y z (gathers_none digest 0 log x y c.look_for.ensures.same)
    (gathers_keep digest 0 log y z (tile, bytes) puts
    (leaf_tile_found digest g.met.H.TreeHash.digest_length log (MayTake g.S.Source.may_answer c.args.places.now x) clear.leaf_tiles
    c.args.index c.args.hash.now bytes c.in-Ok-Some.found.row.items (rw c.in-Ok-Some.field-0-is at c.in-Ok-Some.ensures.taken)
    (rw c.in-Ok-Some.field-0-is at c.in-Ok-Some.ensures.found) is))

pub returns-in-Ok-Some-clause-goes_on : goal.returns-in-Ok-Some-clause-goes_on
returns-in-Ok-Some-clause-goes_on g c =
    let digest = g.H.TreeHash.digest in
    let may = g.S.Source.may_answer in
    let index = c.args.index in
    let tile = Tile 0 index 256 in
    let hash = c.args.hash.now in
    let p = c.args.places.now in
    let q = c.look_for.new.places in
    let x = g.D.Shelf.puts c.args.shelf.now in
    let y = g.D.Shelf.puts c.look_for.new.shelf in
    let z = g.D.Shelf.puts c.mend.new.shelf in
    let bytes = c.in-Ok-Some.found.bytes.items in
    on_ok c.mend.result (RecordsStands y z tile c.deref.result.now)
    ((log : List (List ℕ)) → AreShort log → AreFullsClear digest log (MayTake may p x) → IsTileHash digest log 0 index hash →
    StandsOrNobodys digest log may p q x z tile)
    (λ there log short clear is.
    let new = leaf_tile_found digest g.met.H.TreeHash.digest_length log (MayTake may p x) clear.leaf_tiles index hash bytes
    c.in-Ok-Some.found.row.items (rw c.in-Ok-Some.field-0-is at c.in-Ok-Some.ensures.taken)
    (rw c.in-Ok-Some.field-0-is at c.in-Ok-Some.ensures.found) is in
    inl (stands_earlier digest log x y z tile (gathers_none digest 0 log x y c.look_for.ensures.same)
    (subst (λ b. RecordsStands y z tile b) (c.deref.ensures.value ∙ new.bytes_are) there))) c.mend.ensures.stands

pub returns-in-Ok-Some-clause-names : goal.returns-in-Ok-Some-clause-names
returns-in-Ok-Some-clause-names g c =
    let digest = g.H.TreeHash.digest in
    let may = g.S.Source.may_answer in
    let index = c.args.index in
    let tile = Tile 0 index 256 in
    let hash = c.args.hash.now in
    let p = c.args.places.now in
    let x = g.D.Shelf.puts c.args.shelf.now in
    let y = g.D.Shelf.puts c.look_for.new.shelf in
    let bytes = c.in-Ok-Some.found.bytes.items in
    let l = c.args.repaired.now.damaged.items in
    let m = c.mend.new.repaired.damaged.items in
    on_ok c.mend.result (NamesAt y tile c.deref.result.now l m)
    ((log : List (List ℕ)) → AreShort log → AreFullsClear digest log (MayTake may p x) → IsTileHash digest log 0 index hash →
    NamesDamaged digest log x l m)
    (λ named log short clear is.
    let new = leaf_tile_found digest g.met.H.TreeHash.digest_length log (MayTake may p x) clear.leaf_tiles index hash bytes
    c.in-Ok-Some.found.row.items (rw c.in-Ok-Some.field-0-is at c.in-Ok-Some.ensures.taken)
    (rw c.in-Ok-Some.field-0-is at c.in-Ok-Some.ensures.found) is in
    names_then digest log x y l l m (gathers_none digest 0 log x y c.look_for.ensures.same) (names_none digest log x l l refl)
    (names_at digest log y tile c.deref.result.now l m (c.deref.ensures.value ∙ new.bytes_are) named)) c.mend.ensures.names

pub returns-in-Ok-None-clause-mends : goal.returns-in-Ok-None-clause-mends
returns-in-Ok-None-clause-mends g c =
    let may = g.S.Source.may_answer in
    let failed = g.S.Source.failed in
    let asked = g.S.Source.asked in
    let so = IsFullFile in
    let tile = Tile 0 c.args.index 256 in
    let p = c.args.places.now in
    let q = c.look_for.new.places in
    let x = g.D.Shelf.puts c.args.shelf.now in
    let y = g.D.Shelf.puts c.look_for.new.shelf in
    let z = g.D.Shelf.puts c.note_lack.new.shelf in
    let asks = asks_weaker may failed asked (λ p. p ≡ tile) so (full_tile_asked 0 c.args.index) p q c.look_for.ensures.asks in
    mends_none may failed asked so p q x z c.args.repaired.now.put c.note_lack.new.repaired.put asks
    (kept_then x y z c.look_for.ensures.same c.note_lack.ensures.same) c.note_lack.ensures.put

pub returns-in-Ok-None-clause-keeps : goal.returns-in-Ok-None-clause-keeps
returns-in-Ok-None-clause-keeps g c = λ log clear is.
    let x = g.D.Shelf.puts c.args.shelf.now in
    let y = g.D.Shelf.puts c.look_for.new.shelf in
    let z = g.D.Shelf.puts c.note_lack.new.shelf in
    gathers_none g.H.TreeHash.digest 0 log x z (kept_then x y z c.look_for.ensures.same c.note_lack.ensures.same)

pub returns-in-Ok-None-clause-goes_on : goal.returns-in-Ok-None-clause-goes_on
returns-in-Ok-None-clause-goes_on g c =
    let digest = g.H.TreeHash.digest in
    let may = g.S.Source.may_answer in
    let index = c.args.index in
    let tile = Tile 0 index 256 in
    let hash = c.args.hash.now in
    let p = c.args.places.now in
    let q = c.look_for.new.places in
    let x = g.D.Shelf.puts c.args.shelf.now in
    let y = g.D.Shelf.puts c.look_for.new.shelf in
    let z = g.D.Shelf.puts c.note_lack.new.shelf in
    on_ok c.note_lack.result (NamesLack y tile c.args.repaired.now.damaged.items c.note_lack.new.repaired.damaged.items)
    ((log : List (List ℕ)) → AreShort log → AreFullsClear digest log (MayTake may p x) → IsTileHash digest log 0 index hash →
    StandsOrNobodys digest log may p q x z tile)
    (λ named log short clear is. inr (tile_nobodys digest g.met.H.TreeHash.digest_length log short may p q x 0 index (omega arith) hash
    is (rw c.in-Ok-None.field-0-is at c.in-Ok-None.ensures.none))) c.note_lack.ensures.names

pub returns-in-Ok-None-clause-names : goal.returns-in-Ok-None-clause-names
returns-in-Ok-None-clause-names g c =
    let digest = g.H.TreeHash.digest in
    let may = g.S.Source.may_answer in
    let index = c.args.index in
    let tile = Tile 0 index 256 in
    let hash = c.args.hash.now in
    let p = c.args.places.now in
    let q = c.look_for.new.places in
    let x = g.D.Shelf.puts c.args.shelf.now in
    let y = g.D.Shelf.puts c.look_for.new.shelf in
    let l = c.args.repaired.now.damaged.items in
    let m = c.note_lack.new.repaired.damaged.items in
    on_ok c.note_lack.result (NamesLack y tile l m)
    ((log : List (List ℕ)) → AreShort log → AreFullsClear digest log (MayTake may p x) → IsTileHash digest log 0 index hash →
    NamesDamaged digest log x l m)
    (λ named log short clear is.
    let none = tile_nobodys digest g.met.H.TreeHash.digest_length log short may p q x 0 index (omega arith) hash is
    (rw c.in-Ok-None.field-0-is at c.in-Ok-None.ensures.none) in
    names_lack digest log x y tile l m c.look_for.ensures.same none.shelf named) c.note_lack.ensures.names

pub returns-in-Err-clause-mends : goal.returns-in-Err-clause-mends
returns-in-Err-clause-mends g c =
    let may = g.S.Source.may_answer in
    let failed = g.S.Source.failed in
    let asked = g.S.Source.asked in
    let p = c.args.places.now in
    let q = c.look_for.new.places in
    let n = c.args.repaired.now.put in
    mends_none may failed asked IsFullFile p q (g.D.Shelf.puts c.args.shelf.now) (g.D.Shelf.puts c.look_for.new.shelf) n n
    (asks_weaker may failed asked (λ p. p ≡ Tile 0 c.args.index 256) IsFullFile (full_tile_asked 0 c.args.index) p q
    c.look_for.ensures.asks) c.look_for.ensures.same refl

pub returns-in-Err-clause-keeps : goal.returns-in-Err-clause-keeps
returns-in-Err-clause-keeps g c = λ log clear is.
    gathers_none g.H.TreeHash.digest 0 log (g.D.Shelf.puts c.args.shelf.now) (g.D.Shelf.puts c.look_for.new.shelf)
    c.look_for.ensures.same
