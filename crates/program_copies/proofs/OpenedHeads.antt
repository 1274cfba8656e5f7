-- The checkpoint of a copy opens, or the reason why it does not.
use Rattle.std.proofs.Common.{◌≡◌, ℕ, List, Option, Some, Result, Ok, Err, IfErr, inl, subst, sym}
use Rattle.signed_note.specs.declared.key_line.KeyLine.{KeyLine}
use Rattle.tlog_tiles.specs.declared.paths.Path.TheVariants.{Checkpoint}
use Rattle.mirror_folders.specs.Shelf.{Put, RecordsRead}
use Rattle.mirror_model.specs.Heads.{IsHead}
use Rattle.mirror_http.specs.declared.fault.HttpFault.TheVariants.{ReadFault, WriteFault, OutOfMemory}
use Rattle.mirror_http.specs.declared.request.Request.TheVariants.{Get}
use Rattle.mirror_http.specs.declared.resource.Resource.{Resource}
use Rattle.program_copies.specs.CopyAnswers.{BlamesAnswer, CountsMade, IsReadFailure}
use Rattle.program_copies.specs.CopyHeads.{CopyHead, LacksKeys, OpensNow}
use Rattle.program_copies.specs.NewHeads.{IsNewUnread, RefusesHead}
use Rattle.program_copies.specs.declared.keys.KeysFault.{KeysFault}
use Rattle.program_copies.specs.declared.reply_fault.CopyAnswerFault.{CopyAnswerFault}
use Rattle.program_copies.specs.declared.reply_fault.CopyAnswerFault.TheVariants.{Http, CopyDamaged, ShelfFault, Head, KeyFile}
use Rattle.program_copies.proofs.Blaming.{bad_head}

-- a note that opens is a checkpoint of the origin
pub head_opens : (AreKeys : List KeyLine → Type 0) (origin : List ℕ) (head : CopyHead) → OpensNow AreKeys origin head →
    IsHead head.note origin head.size head.root
head_opens AreKeys origin head now =
    let opens = now.opens in
    record {
      text = opens.text;
      lines = opens.lines;
      extensions = opens.extensions;
      is_note = opens.is_note;
      is_checkpoint = opens.is_checkpoint;
    }

-- a note that is refused under no keys is refused under any
refused_by : (AreKeys : List KeyLine → Type 0) (MayFail : KeysFault → Type 0) (origin note : List ℕ)
    (fault : CopyAnswerFault) → RefusesHead (λ keys. ⊥) (λ why. ⊥) origin note fault →
    RefusesHead AreKeys MayFail origin note fault
refused_by AreKeys MayFail origin note (Http ReadFault) h = h
refused_by AreKeys MayFail origin note (Http WriteFault) h = h
refused_by AreKeys MayFail origin note (Http OutOfMemory) h = h
refused_by AreKeys MayFail origin note (CopyDamaged path) h = h
refused_by AreKeys MayFail origin note ShelfFault h = h
refused_by AreKeys MayFail origin note (Head fault) h = absurd h.1
refused_by AreKeys MayFail origin note (KeyFile fault) h = absurd h

pub no_keys : {T : Type 0} (AreKeys : List KeyLine → Type 0) (MayFail : KeysFault → Type 0) (origin note : List ℕ)
    (result : Result T CopyAnswerFault) → IfErr result (RefusesHead (λ keys. ⊥) (λ why. ⊥) origin note) →
    IfErr result (RefusesHead AreKeys MayFail origin note)
no_keys AreKeys MayFail origin note (Ok x) h = tt
no_keys AreKeys MayFail origin note (Err fault) h = refused_by AreKeys MayFail origin note fault h

-- a note whose keys were not read is not the one that opened last
unread : (AreKeys : List KeyLine → Type 0) (MayFail : KeysFault → Type 0) (origin : List ℕ) (last : Option (List ℕ))
    (note : List ℕ) → (¬ (last ≡ Some note)) → (fault : CopyAnswerFault) → RefusesHead AreKeys MayFail origin note fault →
    RefusesHead AreKeys (IsNewUnread MayFail last note) origin note fault
unread AreKeys MayFail origin last note new (Http ReadFault) h = h
unread AreKeys MayFail origin last note new (Http WriteFault) h = h
unread AreKeys MayFail origin last note new (Http OutOfMemory) h = h
unread AreKeys MayFail origin last note new (CopyDamaged path) h = h
unread AreKeys MayFail origin last note new ShelfFault h = h
unread AreKeys MayFail origin last note new (Head fault) h = h
unread AreKeys MayFail origin last note new (KeyFile fault) h = (new, h)

pub new_unread : {T : Type 0} (AreKeys : List KeyLine → Type 0) (MayFail : KeysFault → Type 0) (origin : List ℕ)
    (last : Option (List ℕ)) (note : List ℕ) (result : Result T CopyAnswerFault) → (¬ (last ≡ Some note)) →
    IfErr result (RefusesHead AreKeys MayFail origin note) →
    IfErr result (RefusesHead AreKeys (IsNewUnread MayFail last note) origin note)
new_unread AreKeys MayFail origin last note (Ok x) new h = tt
new_unread AreKeys MayFail origin last note (Err fault) new h = unread AreKeys MayFail origin last note new fault h

module _ (digest : List ℕ → List ℕ) (AreKeys : List KeyLine → Type 0) (MayFail : KeysFault → Type 0)
    (last : Option (List ℕ)) (origin : List ℕ) (held : Option (List Put)) (r : Resource) where
  pub blames_read : (fault : CopyAnswerFault) → IsReadFailure fault →
      BlamesAnswer digest AreKeys (LacksKeys MayFail last held) origin held (Get r) fault
  blames_read (Http ReadFault) h = absurd h
  blames_read (Http WriteFault) h = absurd h
  blames_read (Http OutOfMemory) h = tt
  blames_read (CopyDamaged path) h = absurd h
  blames_read ShelfFault h = tt
  blames_read (Head fault) h = absurd h
  blames_read (KeyFile fault) h = absurd h

  pub blames_head : (note text : List ℕ) → text ≡ note → RecordsRead held Checkpoint (Some note) →
      (fault : CopyAnswerFault) → RefusesHead AreKeys (IsNewUnread MayFail last text) origin text fault →
      BlamesAnswer digest AreKeys (LacksKeys MayFail last held) origin held (Get r) fault
  blames_head note text same stands (Http ReadFault) h = absurd h
  blames_head note text same stands (Http WriteFault) h = absurd h
  blames_head note text same stands (Http OutOfMemory) h = tt
  blames_head note text same stands (CopyDamaged path) h =
      let bad = subst (λ b. (size : ℕ) (root : List ℕ) → IsHead b origin size root → ⊥) same h.1 in (
        bad_head digest origin held note stands bad,
        inl (record { path_is = h.0; note = note; stands = stands; bad = bad }),
      )
  blames_head note text same stands ShelfFault h = absurd h
  blames_head note text same stands (Head fault) h = record {
    keys = h.0;
    are_keys = h.1;
    refuses = record {
      note = text;
      stands = subst (λ b. RecordsRead held Checkpoint (Some b)) (sym same) stands;
      refused = h.2;
    };
  }
  blames_head note text same stands (KeyFile fault) h =
      ((text, subst (λ b. RecordsRead held Checkpoint (Some b)) (sym same) stands, h.0), h.1)

pub counts_head : (X : Type 0) (AreKeys : List KeyLine → Type 0) (MayFail : KeysFault → Type 0) (origin note : List ℕ)
    (old new : ℕ) → new ≡ old → (fault : CopyAnswerFault) → RefusesHead AreKeys MayFail origin note fault →
    CountsMade {X = X} old new (Err fault)
counts_head X AreKeys MayFail origin note old new same (Http fault) h = same
counts_head X AreKeys MayFail origin note old new same (CopyDamaged path) h = same
counts_head X AreKeys MayFail origin note old new same ShelfFault h = absurd h
counts_head X AreKeys MayFail origin note old new same (Head fault) h = same
counts_head X AreKeys MayFail origin note old new same (KeyFile fault) h = same
