use Rattle.std.proofs.Common.{◌≡◌, ◌⊎◌, [], ◌∷◌, inl, inr, refl, subst, ap, ◌∙◌, arith}
use Rattle.tlog_tiles.specs.Row.{row_text}
use Rattle.tlog_tiles.specs.declared.paths.Path.TheVariants.{Entries, Tile}
use Rattle.mirror_sources.specs.Recorded.{AddsToRecord, KeepsRecord}
use Rattle.copy_places.proofs.Asking.{asks_weaker}
use Rattle.copy_follow.specs.Growing.{empty_tip}
use Rattle.copy_follow.specs.Standing.{RecordsStands}
use Rattle.copy_follow.specs.Repaired.{IsFullFile}
use Rattle.copy_follow.proofs.Naming.{names_at, names_lack, names_none, names_then}
use Rattle.copy_follow.specs.Taken.{MayTake}
use Rattle.copy_follow.proofs.Bundles.{bundle_brought}
use Rattle.copy_follow.proofs.Earlier.{kept_then}
use Rattle.copy_follow.proofs.Growth.{gathers_keep, gathers_none, gathers_then, kept_same}
use Rattle.copy_follow.proofs.Mending.{bundle_found, fulls_later, mends_none, mends_put, mends_then}
use Rattle.copy_follow.proofs.NewFulls.{full_bundle_asked}
use Rattle.copy_follow.proofs.Lacking.{bundle_lacked, bundle_nobodys, bundle_stands, nobodys_first, or_nobodys_second, stands_earlier, stands_later}
use Rattle.copy_follow.proofs.OnePlace.{puts_none}
use Rattle.copy_follow.proofs.mend_tiles.mend_bundle.Goals as goal

pub returns-in-Err-note_lack-clause-mends : goal.returns-in-Err-note_lack-clause-mends
returns-in-Err-note_lack-clause-mends g c =
    let may = g.S.Source.may_answer in
    let failed = g.S.Source.failed in
    let asked = g.S.Source.asked in
    let so = IsFullFile in
    let p = c.args.places.now in
    let q = c.look_for.new.places in
    let x = g.D.Shelf.puts c.args.shelf.now in
    let y = g.D.Shelf.puts c.look_for.new.shelf in
    let u = g.D.Shelf.puts c.note_lack.new.shelf in
    let asks = asks_weaker may failed asked (λ p. p ≡ Entries c.args.index 256) so (full_bundle_asked c.args.index) p q
    c.look_for.ensures.asks in
    mends_none may failed asked so p q x u c.args.repaired.now.put c.note_lack.new.repaired.put asks
    (kept_then x y u c.look_for.ensures.same c.note_lack.ensures.same) c.note_lack.ensures.put

pub returns-in-Err-note_lack-clause-keeps : goal.returns-in-Err-note_lack-clause-keeps
returns-in-Err-note_lack-clause-keeps g c = λ log clear is.
    let x = g.D.Shelf.puts c.args.shelf.now in
    let y = g.D.Shelf.puts c.look_for.new.shelf in
    let z = g.D.Shelf.puts c.note_lack.new.shelf in
    gathers_none g.H.TreeHash.digest 0 log x z (kept_then x y z c.look_for.ensures.same c.note_lack.ensures.same)

pub returns-in-Ok-mend_leaf_tile-clause-mends : goal.returns-in-Ok-mend_leaf_tile-clause-mends
returns-in-Ok-mend_leaf_tile-clause-mends g c =
    let may = g.S.Source.may_answer in
    let failed = g.S.Source.failed in
    let asked = g.S.Source.asked in
    let so = IsFullFile in
    let p = c.args.places.now in
    let q = c.look_for.new.places in
    let x = g.D.Shelf.puts c.args.shelf.now in
    let y = g.D.Shelf.puts c.look_for.new.shelf in
    let u = g.D.Shelf.puts c.note_lack.new.shelf in
    let n = c.args.repaired.now.put in
    let k = c.note_lack.new.repaired.put in
    let asks = asks_weaker may failed asked (λ p. p ≡ Entries c.args.index 256) so (full_bundle_asked c.args.index) p q
    c.look_for.ensures.asks in
    mends_then may failed asked so p q c.mend_leaf_tile.new.places x u (g.D.Shelf.puts c.mend_leaf_tile.new.shelf) n k
    c.mend_leaf_tile.new.repaired.put
    (mends_none may failed asked so p q x u n k asks (kept_then x y u c.look_for.ensures.same c.note_lack.ensures.same)
    c.note_lack.ensures.put) c.mend_leaf_tile.ensures.mends

pub returns-in-Ok-mend_leaf_tile-clause-keeps : goal.returns-in-Ok-mend_leaf_tile-clause-keeps
returns-in-Ok-mend_leaf_tile-clause-keeps g c = λ log clear is.
    let may = g.S.Source.may_answer in
    let failed = g.S.Source.failed in
    let asked = g.S.Source.asked in
    let so = IsFullFile in
    let digest = g.H.TreeHash.digest in
    let p = c.args.places.now in
    let q = c.look_for.new.places in
    let x = g.D.Shelf.puts c.args.shelf.now in
    let y = g.D.Shelf.puts c.look_for.new.shelf in
    let u = g.D.Shelf.puts c.note_lack.new.shelf in
    let asks = asks_weaker may failed asked (λ p. p ≡ Entries c.args.index 256) so (full_bundle_asked c.args.index) p q
    c.look_for.ensures.asks in
    let same = kept_then x y u c.look_for.ensures.same c.note_lack.ensures.same in
    let start = gathers_none digest 0 log x u same in
    gathers_then digest 0 log log log x u (g.D.Shelf.puts c.mend_leaf_tile.new.shelf) start
    (c.mend_leaf_tile.ensures.keeps log
    (fulls_later may failed asked so p q asks digest g.met.H.TreeHash.digest_length log x u (puts_none may failed asked p x u same)
    start clear) is)

pub returns-in-Err-mend_leaf_tile-clause-mends : goal.returns-in-Err-mend_leaf_tile-clause-mends
returns-in-Err-mend_leaf_tile-clause-mends g c =
    let may = g.S.Source.may_answer in
    let failed = g.S.Source.failed in
    let asked = g.S.Source.asked in
    let so = IsFullFile in
    let p = c.args.places.now in
    let q = c.look_for.new.places in
    let x = g.D.Shelf.puts c.args.shelf.now in
    let y = g.D.Shelf.puts c.look_for.new.shelf in
    let u = g.D.Shelf.puts c.note_lack.new.shelf in
    let n = c.args.repaired.now.put in
    let k = c.note_lack.new.repaired.put in
    let asks = asks_weaker may failed asked (λ p. p ≡ Entries c.args.index 256) so (full_bundle_asked c.args.index) p q
    c.look_for.ensures.asks in
    mends_then may failed asked so p q c.mend_leaf_tile.new.places x u (g.D.Shelf.puts c.mend_leaf_tile.new.shelf) n k
    c.mend_leaf_tile.new.repaired.put
    (mends_none may failed asked so p q x u n k asks (kept_then x y u c.look_for.ensures.same c.note_lack.ensures.same)
    c.note_lack.ensures.put) c.mend_leaf_tile.ensures.mends

pub returns-in-Err-mend_leaf_tile-clause-keeps : goal.returns-in-Err-mend_leaf_tile-clause-keeps
returns-in-Err-mend_leaf_tile-clause-keeps g c = λ log clear is.
    let may = g.S.Source.may_answer in
    let failed = g.S.Source.failed in
    let asked = g.S.Source.asked in
    let so = IsFullFile in
    let digest = g.H.TreeHash.digest in
    let p = c.args.places.now in
    let q = c.look_for.new.places in
    let x = g.D.Shelf.puts c.args.shelf.now in
    let y = g.D.Shelf.puts c.look_for.new.shelf in
    let u = g.D.Shelf.puts c.note_lack.new.shelf in
    let asks = asks_weaker may failed asked (λ p. p ≡ Entries c.args.index 256) so (full_bundle_asked c.args.index) p q
    c.look_for.ensures.asks in
    let same = kept_then x y u c.look_for.ensures.same c.note_lack.ensures.same in
    let start = gathers_none digest 0 log x u same in
    gathers_then digest 0 log log log x u (g.D.Shelf.puts c.mend_leaf_tile.new.shelf) start
    (c.mend_leaf_tile.ensures.keeps log
    (fulls_later may failed asked so p q asks digest g.met.H.TreeHash.digest_length log x u (puts_none may failed asked p x u same)
    start clear) is)

pub returns-in-Ok-mend_leaf_tile-clause-goes_on : goal.returns-in-Ok-mend_leaf_tile-clause-goes_on
returns-in-Ok-mend_leaf_tile-clause-goes_on g c = λ log short clear is.
    let may = g.S.Source.may_answer in
    let failed = g.S.Source.failed in
    let asked = g.S.Source.asked in
    let so = IsFullFile in
    let digest = g.H.TreeHash.digest in
    let hash = g.met.H.TreeHash.digest_length in
    let index = c.args.index in
    let p = c.args.places.now in
    let q = c.look_for.new.places in
    let r = c.mend_leaf_tile.new.places in
    let x = g.D.Shelf.puts c.args.shelf.now in
    let y = g.D.Shelf.puts c.look_for.new.shelf in
    let u = g.D.Shelf.puts c.note_lack.new.shelf in
    let z = g.D.Shelf.puts c.mend_leaf_tile.new.shelf in
    let asks = asks_weaker may failed asked (λ p. p ≡ Entries index 256) so (full_bundle_asked index) p q c.look_for.ensures.asks in
    let same = kept_then x y u c.look_for.ensures.same c.note_lack.ensures.same in
    let start = gathers_none digest 0 log x u same in
    let still = fulls_later may failed asked so p q asks digest hash log x u (puts_none may failed asked p x u same) start clear in
    let more = c.mend_leaf_tile.ensures.keeps log still is in
    let none = gathers_none digest 0 log x x (kept_same x) in
    let last = c.mend_leaf_tile.ensures.mends.asks in
    let lacks = bundle_nobodys digest hash log short may p q x index c.args.hash.now is
    (rw c.in-Ok-None.field-0-is at c.in-Ok-None.ensures.none) in
    bundle_lacked digest log may p r x z index
    (nobodys_first may failed asked digest log so so p q r asks last x u z start more none (Entries index 256) lacks)
    (or_nobodys_second may failed asked digest log so so p q r asks last x u z start more none (Tile 0 index 256)
    (c.in-Ok-mend_leaf_tile.ensures.goes_on log short still is))

pub returns-in-Ok-mend_leaf_tile-clause-names : goal.returns-in-Ok-mend_leaf_tile-clause-names
returns-in-Ok-mend_leaf_tile-clause-names g c = λ log short clear is.
    let may = g.S.Source.may_answer in
    let failed = g.S.Source.failed in
    let asked = g.S.Source.asked in
    let so = IsFullFile in
    let digest = g.H.TreeHash.digest in
    let hash = g.met.H.TreeHash.digest_length in
    let index = c.args.index in
    let p = c.args.places.now in
    let q = c.look_for.new.places in
    let x = g.D.Shelf.puts c.args.shelf.now in
    let y = g.D.Shelf.puts c.look_for.new.shelf in
    let u = g.D.Shelf.puts c.note_lack.new.shelf in
    let l = c.args.repaired.now.damaged.items in
    let k = c.note_lack.new.repaired.damaged.items in
    let m = c.mend_leaf_tile.new.repaired.damaged.items in
    let asks = asks_weaker may failed asked (λ p. p ≡ Entries index 256) so (full_bundle_asked index) p q c.look_for.ensures.asks in
    let same = kept_then x y u c.look_for.ensures.same c.note_lack.ensures.same in
    let start = gathers_none digest 0 log x u same in
    let still = fulls_later may failed asked so p q asks digest hash log x u (puts_none may failed asked p x u same) start clear in
    let lacks = bundle_nobodys digest hash log short may p q x index c.args.hash.now is
    (rw c.in-Ok-None.field-0-is at c.in-Ok-None.ensures.none) in
    names_then digest log x u l k m start
    (names_lack digest log x y (Entries index 256) l k c.look_for.ensures.same lacks.shelf c.in-Ok.ensures.names)
    (c.in-Ok-mend_leaf_tile.ensures.names log short still is)

pub returns-in-Err-clause-keeps : goal.returns-in-Err-clause-keeps
returns-in-Err-clause-keeps g c = λ log clear is.
    gathers_none g.H.TreeHash.digest 0 log (g.D.Shelf.puts c.args.shelf.now) (g.D.Shelf.puts c.look_for.new.shelf)
    c.look_for.ensures.same

pub returns-in-Err-write_row-clause-keeps : goal.returns-in-Err-write_row-clause-keeps
returns-in-Err-write_row-clause-keeps g c = λ log clear is.
    gathers_none g.H.TreeHash.digest 0 log (g.D.Shelf.puts c.args.shelf.now) (g.D.Shelf.puts c.look_for.new.shelf)
    c.look_for.ensures.same

pub returns-in-Err-mend-clause-mends : goal.returns-in-Err-mend-clause-mends
returns-in-Err-mend-clause-mends g c =
    let may = g.S.Source.may_answer in
    let failed = g.S.Source.failed in
    let asked = g.S.Source.asked in
    let so = IsFullFile in
    let p = c.args.places.now in
    let q = c.look_for.new.places in
    let x = g.D.Shelf.puts c.args.shelf.now in
    let y = g.D.Shelf.puts c.look_for.new.shelf in
    let z = g.D.Shelf.puts c.mend.new.shelf in
    let n = c.args.repaired.now.put in
    let path = Entries c.args.index 256 in
    let bytes = c.in-Ok-Some.found.bytes.items in
    let asks = asks_weaker may failed asked (λ p. p ≡ path) so (full_bundle_asked c.args.index) p q c.look_for.ensures.asks in
    let puts = subst (λ b. (KeepsRecord y z) ⊎ (AddsToRecord y z ((path, b) ∷ []))) c.deref-2.ensures.value c.mend.ensures.puts in
    mends_put may failed asked so p q x y z n n c.mend.new.repaired.put path bytes
    (mends_none may failed asked so p q x y n n asks c.look_for.ensures.same refl) puts (inr (rw c.in-Ok-Some.field-0-is at c.in-Ok-Some.ensures.taken))
    c.mend.ensures.counts

pub returns-in-Err-mend-clause-keeps : goal.returns-in-Err-mend-clause-keeps
returns-in-Err-mend-clause-keeps g c = λ log clear is.
    let digest = g.H.TreeHash.digest in
    let x = g.D.Shelf.puts c.args.shelf.now in
    let y = g.D.Shelf.puts c.look_for.new.shelf in
    let z = g.D.Shelf.puts c.mend.new.shelf in
    let path = Entries c.args.index 256 in
    let bytes = c.in-Ok-Some.found.bytes.items in
    let puts = subst (λ b. (KeepsRecord y z) ⊎ (AddsToRecord y z ((path, b) ∷ []))) c.deref-2.ensures.value c.mend.ensures.puts in
    let true = bundle_found digest g.met.H.TreeHash.digest_length log (MayTake g.S.Source.may_answer c.args.places.now x) clear.files
    c.args.index c.args.hash.now bytes c.in-Ok-Some.found.row.items (rw c.in-Ok-Some.field-0-is at c.in-Ok-Some.ensures.taken) (rw c.in-Ok-Some.field-0-is at c.in-Ok-Some.ensures.found) is in
    gathers_then digest 0 log log log x y z (gathers_none digest 0 log x y c.look_for.ensures.same)
    (gathers_keep digest 0 log y z (path, bytes) puts true.0)

pub returns-in-Ok-mend-2-clause-mends : goal.returns-in-Ok-mend-2-clause-mends
returns-in-Ok-mend-2-clause-mends g c =
    let may = g.S.Source.may_answer in
    let failed = g.S.Source.failed in
    let asked = g.S.Source.asked in
    let so = IsFullFile in
    let p = c.args.places.now in
    let q = c.look_for.new.places in
    let x = g.D.Shelf.puts c.args.shelf.now in
    let y = g.D.Shelf.puts c.look_for.new.shelf in
    let z = g.D.Shelf.puts c.mend.new.shelf in
    let w = g.D.Shelf.puts c.mend-2.new.shelf in
    let n = c.args.repaired.now.put in
    let path = Entries c.args.index 256 in
    let bytes = c.in-Ok-Some.found.bytes.items in
    let asks = asks_weaker may failed asked (λ p. p ≡ path) so (full_bundle_asked c.args.index) p q c.look_for.ensures.asks in
    let puts = subst (λ b. (KeepsRecord y z) ⊎ (AddsToRecord y z ((path, b) ∷ []))) c.deref-2.ensures.value c.mend.ensures.puts in
    let first = mends_put may failed asked so p q x y z n n c.mend.new.repaired.put path bytes
    (mends_none may failed asked so p q x y n n asks c.look_for.ensures.same refl) puts (inr (rw c.in-Ok-Some.field-0-is at c.in-Ok-Some.ensures.taken))
    c.mend.ensures.counts in
    mends_put may failed asked so p q x z w n c.mend.new.repaired.put c.mend-2.new.repaired.put (Tile 0 c.args.index 256)
    c.deref-3.result.now first c.mend-2.ensures.puts (inl refl) c.mend-2.ensures.counts

pub returns-in-Ok-mend-2-clause-keeps : goal.returns-in-Ok-mend-2-clause-keeps
returns-in-Ok-mend-2-clause-keeps g c = λ log clear is.
    let digest = g.H.TreeHash.digest in
    let x = g.D.Shelf.puts c.args.shelf.now in
    let y = g.D.Shelf.puts c.look_for.new.shelf in
    let z = g.D.Shelf.puts c.mend.new.shelf in
    let w = g.D.Shelf.puts c.mend-2.new.shelf in
    let path = Entries c.args.index 256 in
    let bytes = c.in-Ok-Some.found.bytes.items in
    let text = c.deref-3.ensures.value ∙ (c.in-Ok-write_row.ensures.text ∙ ap row_text c.deref.ensures.value) in
    let puts = subst (λ b. (KeepsRecord y z) ⊎ (AddsToRecord y z ((path, b) ∷ []))) c.deref-2.ensures.value c.mend.ensures.puts in
    let true = bundle_found digest g.met.H.TreeHash.digest_length log (MayTake g.S.Source.may_answer c.args.places.now x) clear.files
    c.args.index c.args.hash.now bytes c.in-Ok-Some.found.row.items (rw c.in-Ok-Some.field-0-is at c.in-Ok-Some.ensures.taken) (rw c.in-Ok-Some.field-0-is at c.in-Ok-Some.ensures.found) is in
    gathers_then digest 0 log log log x z w
    (gathers_then digest 0 log log log x y z (gathers_none digest 0 log x y c.look_for.ensures.same)
    (gathers_keep digest 0 log y z (path, bytes) puts true.0))
    (gathers_keep digest 0 log z w (Tile 0 c.args.index 256, c.deref-3.result.now) c.mend-2.ensures.puts
    (true.1 c.deref-3.result.now text))

pub returns-in-Ok-mend-2-clause-whole : goal.returns-in-Ok-mend-2-clause-whole
returns-in-Ok-mend-2-clause-whole g c = λ yes known is.
    let digest = g.H.TreeHash.digest in
    let x = g.D.Shelf.puts c.args.shelf.now in
    let y = g.D.Shelf.puts c.look_for.new.shelf in
    let z = g.D.Shelf.puts c.mend.new.shelf in
    let w = g.D.Shelf.puts c.mend-2.new.shelf in
    let index = c.args.index in
    let path = Entries index 256 in
    let found = rw c.in-Ok-Some.field-0-is at c.in-Ok-Some.ensures.found in
    let bytes = c.in-Ok-Some.found.bytes.items in
    let row = c.in-Ok-Some.found.row.items in
    let text = c.deref-3.ensures.value ∙ (c.in-Ok-write_row.ensures.text ∙ ap row_text c.deref.ensures.value) in
    let puts = subst (λ b. (KeepsRecord y z) ⊎ (AddsToRecord y z ((path, b) ∷ []))) c.deref-2.ensures.value c.mend.ensures.puts in
    let there = subst (λ b. RecordsStands y z path b) c.deref-2.ensures.value c.in-Ok-mend.ensures.stands in
    bundle_brought digest empty_tip index 256 (omega arith) (omega arith) known is (omega arith) bytes row found.is_row (λ same. refl)
    x y z c.look_for.ensures.same puts w c.deref-3.result.now text c.mend-2.ensures.puts refl c.args.hash.now found.folds there
    c.in-Ok-mend-2.ensures.stands

pub returns-clause-mends : goal.returns-clause-mends
returns-clause-mends g c =
    let may = g.S.Source.may_answer in
    let failed = g.S.Source.failed in
    let asked = g.S.Source.asked in
    let so = IsFullFile in
    let p = c.args.places.now in
    let q = c.look_for.new.places in
    let x = g.D.Shelf.puts c.args.shelf.now in
    let y = g.D.Shelf.puts c.look_for.new.shelf in
    let z = g.D.Shelf.puts c.mend.new.shelf in
    let w = g.D.Shelf.puts c.mend-2.new.shelf in
    let n = c.args.repaired.now.put in
    let path = Entries c.args.index 256 in
    let bytes = c.in-Ok-Some.found.bytes.items in
    let asks = asks_weaker may failed asked (λ p. p ≡ path) so (full_bundle_asked c.args.index) p q c.look_for.ensures.asks in
    let puts = subst (λ b. (KeepsRecord y z) ⊎ (AddsToRecord y z ((path, b) ∷ []))) c.deref-2.ensures.value c.mend.ensures.puts in
    let first = mends_put may failed asked so p q x y z n n c.mend.new.repaired.put path bytes
    (mends_none may failed asked so p q x y n n asks c.look_for.ensures.same refl) puts (inr (rw c.in-Ok-Some.field-0-is at c.in-Ok-Some.ensures.taken))
    c.mend.ensures.counts in
    mends_put may failed asked so p q x z w n c.mend.new.repaired.put c.mend-2.new.repaired.put (Tile 0 c.args.index 256)
    c.deref-3.result.now first c.mend-2.ensures.puts (inl refl) c.mend-2.ensures.counts

pub returns-clause-keeps : goal.returns-clause-keeps
returns-clause-keeps g c = λ log clear is.
    let digest = g.H.TreeHash.digest in
    let x = g.D.Shelf.puts c.args.shelf.now in
    let y = g.D.Shelf.puts c.look_for.new.shelf in
    let z = g.D.Shelf.puts c.mend.new.shelf in
    let w = g.D.Shelf.puts c.mend-2.new.shelf in
    let path = Entries c.args.index 256 in
    let bytes = c.in-Ok-Some.found.bytes.items in
    let text = c.deref-3.ensures.value ∙ (c.in-Ok-write_row.ensures.text ∙ ap row_text c.deref.ensures.value) in
    let puts = subst (λ b. (KeepsRecord y z) ⊎ (AddsToRecord y z ((path, b) ∷ []))) c.deref-2.ensures.value c.mend.ensures.puts in
    let true = bundle_found digest g.met.H.TreeHash.digest_length log (MayTake g.S.Source.may_answer c.args.places.now x) clear.files
    c.args.index c.args.hash.now bytes c.in-Ok-Some.found.row.items (rw c.in-Ok-Some.field-0-is at c.in-Ok-Some.ensures.taken) (rw c.in-Ok-Some.field-0-is at c.in-Ok-Some.ensures.found) is in
    gathers_then digest 0 log log log x z w
    (gathers_then digest 0 log log log x y z (gathers_none digest 0 log x y c.look_for.ensures.same)
    (gathers_keep digest 0 log y z (path, bytes) puts true.0))
    (gathers_keep digest 0 log z w (Tile 0 c.args.index 256, c.deref-3.result.now) c.mend-2.ensures.puts
    (true.1 c.deref-3.result.now text))

pub returns-in-Ok-mend-2-clause-goes_on : goal.returns-in-Ok-mend-2-clause-goes_on
returns-in-Ok-mend-2-clause-goes_on g c = λ log short clear is path below.
    let digest = g.H.TreeHash.digest in
    let x = g.D.Shelf.puts c.args.shelf.now in
    let y = g.D.Shelf.puts c.look_for.new.shelf in
    let z = g.D.Shelf.puts c.mend.new.shelf in
    let w = g.D.Shelf.puts c.mend-2.new.shelf in
    let bundle = Entries c.args.index 256 in
    let tile = Tile 0 c.args.index 256 in
    let bytes = c.in-Ok-Some.found.bytes.items in
    let text = c.deref-3.ensures.value ∙ (c.in-Ok-write_row.ensures.text ∙ ap row_text c.deref.ensures.value) in
    let puts = subst (λ b. (KeepsRecord y z) ⊎ (AddsToRecord y z ((bundle, b) ∷ []))) c.deref-2.ensures.value c.mend.ensures.puts in
    let true = bundle_found digest g.met.H.TreeHash.digest_length log (MayTake g.S.Source.may_answer c.args.places.now x) clear.files
    c.args.index c.args.hash.now bytes c.in-Ok-Some.found.row.items (rw c.in-Ok-Some.field-0-is at c.in-Ok-Some.ensures.taken)
    (rw c.in-Ok-Some.field-0-is at c.in-Ok-Some.ensures.found) is in
    let new_bundle = true.0 in
    let new_tile = true.1 c.deref-3.result.now text in
    let start = gathers_none digest 0 log x y c.look_for.ensures.same in
    let first = gathers_then digest 0 log log log x y z start (gathers_keep digest 0 log y z (bundle, bytes) puts new_bundle) in
    let second = gathers_keep digest 0 log z w (tile, c.deref-3.result.now) c.mend-2.ensures.puts new_tile in
    let there = subst (λ b. RecordsStands y z bundle b) (c.deref-2.ensures.value ∙ new_bundle.bytes_are) c.in-Ok-mend.ensures.stands in
    let there_too = subst (λ b. RecordsStands z w tile b) new_tile.bytes_are c.in-Ok-mend-2.ensures.stands in
    inl (bundle_stands digest log c.args.index x w
    (stands_later digest log x z w bundle second (stands_earlier digest log x y z bundle start there))
    (stands_earlier digest log x z w tile first there_too) path below)

pub returns-in-Ok-mend-2-clause-names : goal.returns-in-Ok-mend-2-clause-names
returns-in-Ok-mend-2-clause-names g c = λ log short clear is.
    let digest = g.H.TreeHash.digest in
    let x = g.D.Shelf.puts c.args.shelf.now in
    let y = g.D.Shelf.puts c.look_for.new.shelf in
    let z = g.D.Shelf.puts c.mend.new.shelf in
    let bundle = Entries c.args.index 256 in
    let tile = Tile 0 c.args.index 256 in
    let bytes = c.in-Ok-Some.found.bytes.items in
    let text = c.deref-3.ensures.value ∙ (c.in-Ok-write_row.ensures.text ∙ ap row_text c.deref.ensures.value) in
    let puts = subst (λ b. (KeepsRecord y z) ⊎ (AddsToRecord y z ((bundle, b) ∷ []))) c.deref-2.ensures.value c.mend.ensures.puts in
    let true = bundle_found digest g.met.H.TreeHash.digest_length log (MayTake g.S.Source.may_answer c.args.places.now x) clear.files
    c.args.index c.args.hash.now bytes c.in-Ok-Some.found.row.items (rw c.in-Ok-Some.field-0-is at c.in-Ok-Some.ensures.taken)
    (rw c.in-Ok-Some.field-0-is at c.in-Ok-Some.ensures.found) is in
    let new_bundle = true.0 in
    let new_tile = true.1 c.deref-3.result.now text in
    let start = gathers_none digest 0 log x y c.look_for.ensures.same in
    let first = gathers_then digest 0 log log log x y z start (gathers_keep digest 0 log y z (bundle, bytes) puts new_bundle) in
    let l = c.args.repaired.now.damaged.items in
    let m = c.mend.new.repaired.damaged.items in
    let n = c.mend-2.new.repaired.damaged.items in
    names_then digest log x z l m n first
    (names_then digest log x y l l m start (names_none digest log x l l refl)
    (names_at digest log y bundle c.deref-2.result.now l m (c.deref-2.ensures.value ∙ new_bundle.bytes_are) c.in-Ok-mend.ensures.names))
    (names_at digest log z tile c.deref-3.result.now m n new_tile.bytes_are c.in-Ok-mend-2.ensures.names)
