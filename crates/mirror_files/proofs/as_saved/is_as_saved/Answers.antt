use Rattle.std.proofs.Common.{◌≡◌, ℕ, List, take, codes, inl, inr, sym, ◌∙◌}
use Rattle.mirror_files.specs.AsSaved.{IsAsSaved}
use Rattle.mirror_files.specs.StateText.{Parts, VersionOne}
use Rattle.mirror_files.proofs.BodyLemmas.{magic_in, versions_differ}
use Rattle.mirror_files.proofs.as_saved.is_as_saved.Goals as goal

-- bytes that begin like version 2 are no text of version 1
as_saved : (bytes : List ℕ) → take 8 bytes ≡ codes "TLMIRR02" → IsAsSaved bytes
as_saved bytes new digest origin keys v loads = elim loads.text [
  | inl text ↦ text
  | inr old ↦
      let parts : Parts = VersionOne v.origin old.notes old.strings in
      absurd (versions_differ (take 8 bytes) new
      (magic_in bytes parts _ (record { are_parts = old.is_text.are_parts; text = old.is_text.text })))
]

pub returns-clause-saved : goal.returns-clause-saved
returns-clause-saved c = λ is.
    let m : take 8 c.args.bytes.now ≡ codes "TLMIRR02" = sym c.split_at.ensures.front ∙ c.is_new.ensures.0 is in
    as_saved c.args.bytes.now m
