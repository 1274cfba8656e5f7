use Rattle.std.proofs.Common.{◌≡◌, map, sym, subst, ◌∙◌}
use Rattle.mirror_files.specs.Putting.{pair_bytes}
use Rattle.mirror_files.specs.StateText.{AreParts, VersionTwo}
use Rattle.mirror_files.proofs.Gathered.{lent_bytes}
use Rattle.mirror_files.proofs.Saved.{own_parts, saved_front, saved_whole}
use Rattle.mirror_files.proofs.saving.save_sorted.Goals as goal

pub write_text-requires : goal.write_text-requires
write_text-requires g c =
    let same : VersionTwo c.as_bytes-origin.result.now (map lent_bytes c.as_slice.result.now)
    (map pair_bytes c.args.held.now.pairs.items) (map lent_bytes c.args.held.now.entries.items)
    ≡ VersionTwo c.args.mirror.now.view.origin (map lent_bytes c.args.notes.now.items)
    (map pair_bytes c.args.held.now.pairs.items) (map lent_bytes c.args.held.now.entries.items) =
    λ i. VersionTwo ((c.as_bytes-origin.ensures.value ∙ c.origin.ensures) i)
    (map lent_bytes (c.as_slice.ensures.value i)) (map pair_bytes c.args.held.now.pairs.items)
    (map lent_bytes c.args.held.now.entries.items) in
    subst AreParts (sym same)
    (own_parts g.H.TreeHash.digest c.args.mirror.now c.strings-sound.ensures.sound c.args.notes.now c.args.held.now
    c.requires.notes c.requires.strings)

pub returns-in-Ok : goal.returns-in-Ok
returns-in-Ok g c =
    let same : VersionTwo c.as_bytes-origin.result.now (map lent_bytes c.as_slice.result.now)
    (map pair_bytes c.args.held.now.pairs.items) (map lent_bytes c.args.held.now.entries.items)
    ≡ VersionTwo c.args.mirror.now.view.origin (map lent_bytes c.args.notes.now.items)
    (map pair_bytes c.args.held.now.pairs.items) (map lent_bytes c.args.held.now.entries.items) =
    λ i. VersionTwo ((c.as_bytes-origin.ensures.value ∙ c.origin.ensures) i)
    (map lent_bytes (c.as_slice.ensures.value i)) (map pair_bytes c.args.held.now.pairs.items)
    (map lent_bytes c.args.held.now.entries.items) in
    saved_whole g.H.TreeHash.digest c.args.mirror.now c.strings-sound.ensures.sound c.args.notes.now c.args.held.now
    c.requires.notes c.requires.strings
    (g.W.Write.contents c.args.writer.now) (g.W.Write.contents c.write_text.new.writer)
    (VersionTwo c.as_bytes-origin.result.now (map lent_bytes c.as_slice.result.now)
    (map pair_bytes c.args.held.now.pairs.items) (map lent_bytes c.args.held.now.entries.items))
    same c.in-Ok.ensures

pub returns-in-Err : goal.returns-in-Err
returns-in-Err g c =
    let same : VersionTwo c.as_bytes-origin.result.now (map lent_bytes c.as_slice.result.now)
    (map pair_bytes c.args.held.now.pairs.items) (map lent_bytes c.args.held.now.entries.items)
    ≡ VersionTwo c.args.mirror.now.view.origin (map lent_bytes c.args.notes.now.items)
    (map pair_bytes c.args.held.now.pairs.items) (map lent_bytes c.args.held.now.entries.items) =
    λ i. VersionTwo ((c.as_bytes-origin.ensures.value ∙ c.origin.ensures) i)
    (map lent_bytes (c.as_slice.ensures.value i)) (map pair_bytes c.args.held.now.pairs.items)
    (map lent_bytes c.args.held.now.entries.items) in
    saved_front g.H.TreeHash.digest c.args.mirror.now c.strings-sound.ensures.sound c.args.notes.now c.args.held.now
    c.requires.notes c.requires.strings
    (g.W.Write.contents c.args.writer.now) (g.W.Write.contents c.write_text.new.writer)
    (VersionTwo c.as_bytes-origin.result.now (map lent_bytes c.as_slice.result.now)
    (map pair_bytes c.args.held.now.pairs.items) (map lent_bytes c.args.held.now.entries.items))
    same c.in-Err.field-0 c.in-Err.ensures
