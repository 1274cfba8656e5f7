use Rattle.std.proofs.Common.{All, ℕ, List, ◌<◌, ◌^◌, map, length, ap, sym, ◌∙◌, subst}
use Rattle.signed_note.specs.KeyKinds.{secret_key}
use Rattle.tlog_hash.specs.Tree.{mth}
use Rattle.mirror_model.specs.TrueLaws.{AreShort}
use Rattle.mirror_pull.specs.ListSource.{OpensAnywhere}
use Rattle.mirror_pull.proofs.Answering.{honest, all_of_map}
use Rattle.mirror_pull.proofs.list.ListSource.new.Goals as goal

pub new-requires : goal.new-requires
new-requires g c = record {
  short = all_of_map (λ (e : List ℕ). length e < 2 ^ 16) (λ e. e.now) c.deref-2.result.now
      (subst (λ es. All (λ (e : List ℕ). length e < 2 ^ 16) es)
      (sym (ap (map (λ e. e.now)) c.deref-2.ensures.value ∙ c.in_ok-lent.ensures ∙
      ap (map (λ e. e.items)) c.deref.ensures.value)) c.requires.short);
}

pub returns-clause-honest : goal.returns-clause-honest
returns-clause-honest g c =
    let digest = g.H.TreeHash.digest in
    let entries = c.in_ok-files.files in
    let short : AreShort entries =
    subst AreShort
    (sym (c.in_ok-files.ensures ∙ ap (map (λ e. e.now)) c.deref-2.ensures.value ∙ c.in_ok-lent.ensures ∙
    ap (map (λ e. e.items)) c.deref.ensures.value)) c.requires.short in
    let opens : OpensAnywhere c.in_ok-note.note.items c.args.origin.now (secret_key c.args.key) (length entries)
    (mth digest entries) =
    subst (λ r. OpensAnywhere c.in_ok-note.note.items c.args.origin.now (secret_key c.args.key) (length entries) r)
    c.root.ensures
    (subst (λ n. OpensAnywhere c.in_ok-note.note.items c.args.origin.now
    (secret_key c.args.key) n c.root.result) c.size.ensures c.in_ok-note.ensures) in
    honest digest entries c.args.origin.now c.in_ok-note.note.items (secret_key c.args.key) short opens
