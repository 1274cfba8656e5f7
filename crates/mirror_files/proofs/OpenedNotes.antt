-- The notes of a state text are opened in order.
use Rattle.std.proofs.Common.{◌≡◌, ◌≢◌, ℕ, ◌+◌, ◌<◌, ◌≤◌, List, [], ◌∷◌, ◌++◌, length, take, get_or, All, Bor, false}
use Rattle.std.proofs.Common.{Result, Ok, Err, Some, refl, sym, ap, subst, ◌∙◌, arith}
use Rattle.std.specs.Prelude.{◌↔◌, IsTrue}
use Rattle.std.proofs.lemmas.List.{map-append}
use Rattle.std.proofs.lemmas.List.Elements.{All-nil, All-push}
use Rattle.std.proofs.lemmas.Option.{slice_get-get_or}
use Rattle.signed_note.specs.Keys.{Key}
use Rattle.tlog_checkpoint.specs.declared.Checkpoint.{Checkpoint}
use Rattle.mirror_model.specs.Heads.{IsHead}
use Rattle.mirror_model.specs.Refusals.{IsOpenCheckpoint, ReadsHead}
use Rattle.mirror_model.specs.declared.fault.TakeFault.{TakeFault}
use Rattle.mirror_model.specs.declared.fault.TakeFault.TheVariants as taking
use Rattle.mirror_model.specs.declared.notes.HeadNote.{HeadNote}
use Rattle.mirror_model.proofs.RefusedHeads.{head_notes_are_read_once, open_heads_are_read}
use Rattle.mirror_files.specs.Opening.{head_bytes, note_fault_of, AreOpened, FailsToOpen, HasSaid, HasUnopened, IsFirstNot}
use Rattle.mirror_files.specs.Opening.{IsOpened, OpensAsHead}
use Rattle.mirror_files.specs.declared.load_fault.LoadFault.{LoadFault}
use Rattle.mirror_files.specs.declared.load_fault.LoadFault.TheVariants.{StateMagic, StateShort, StateLong, StateDigest}
use Rattle.mirror_files.specs.declared.load_fault.LoadFault.TheVariants.{OtherOrigin, StateOrder, StateString, StateHead}
use Rattle.mirror_files.specs.declared.load_fault.LoadFault.TheVariants.{Collision, StateEdge, ReadFault, OutOfMemory}
use Rattle.mirror_files.proofs.ListedItems.{all_more, all_passes, bytes_of, is_item, item_at, listed_all, more_taken, same_len}

-- ---- one note

module _ (note origin : List ℕ) (keys : List Key) where
  -- a refused note does not open
  pub not_open : (fault : TakeFault) → fault ≢ taking.OutOfMemory → ReadsHead note origin keys (Err fault) →
      OpensAsHead origin keys note → ⊥
  not_open fault memory h opened =
      let same : ◌≡◌ {A = Result Checkpoint TakeFault} (Err fault) (Ok opened.0) =
      head_notes_are_read_once note origin keys (Err fault) (Ok opened.0) h opened.1
      (λ e. memory (cc e)) (λ e. cc e) in
      cc same

  pub stays_closed : (fault : TakeFault) → fault ≢ taking.OutOfMemory → ReadsHead note origin keys (Err fault) →
      IsTrue false ↔ OpensAsHead origin keys note
  stays_closed fault memory h = (λ t. absurd (cc t), λ o. absurd (not_open fault memory h o))

  pub note_checked : (fault : TakeFault) → ReadsHead note origin keys (Err fault) → (held : LoadFault) →
      held ≡ note_fault_of fault → FailsToOpen (OpensAsHead origin keys note → ⊥) held
  note_checked fault h held is =
      subst (FailsToOpen (OpensAsHead origin keys note → ⊥)) (sym is) (checked fault h)
    where
      checked : (fault : TakeFault) → ReadsHead note origin keys (Err fault) →
          FailsToOpen (OpensAsHead origin keys note → ⊥) (note_fault_of fault)
      checked (taking.Note f) h = not_open (taking.Note f) (λ e. cc e) h
      checked (taking.Checkpoint f) h = not_open (taking.Checkpoint f) (λ e. cc e) h
      checked taking.OtherOrigin h = not_open taking.OtherOrigin (λ e. cc e) h
      checked taking.NoTrustedSignature h = not_open taking.NoTrustedSignature (λ e. cc e) h
      checked taking.EdgeCount h = absurd h
      checked taking.EdgeLength h = absurd h
      checked taking.EdgeMismatch h = absurd h
      checked taking.RowLength h = absurd h
      checked taking.BundleShort h = absurd h
      checked taking.BundleLong h = absurd h
      checked taking.Collision h = absurd h
      checked taking.OutOfMemory h = tt

  pub one_opened : (head : HeadNote) → IsOpenCheckpoint note origin keys head.checkpoint → head_bytes head ≡ note →
      IsOpened origin keys note head
  one_opened head opened is =
      let is_head = (open_heads_are_read note origin keys head.checkpoint.size head.checkpoint.root).1
      (record { checkpoint = head.checkpoint; is_open = opened; size_is = refl; root_is = refl }) in
      record {
        opens = (head.checkpoint, opened);
        bytes_are = is;
        said = subst (λ (b : List ℕ). IsHead b origin head.checkpoint.size head.checkpoint.root) (sym is)
            (record {
              text = is_head.text;
              lines = is_head.lines;
              extensions = is_head.extensions;
              is_note = is_head.is_note;
              is_checkpoint = is_head.is_checkpoint;
            });
      }

-- ---- all notes

module _ (origin : List ℕ) (keys : List Key) where
  pub none_opened : (heads : List HeadNote) → heads ≡ [] → AreOpened origin keys [] heads
  none_opened heads is =
      subst (AreOpened origin keys []) (sym is) (record {
        opened = All-nil (OpensAsHead origin keys);
        bytes_are = refl;
        said = All-nil (HasSaid origin);
      })

  pub more_opened : (items : List (Bor (List ℕ))) (i : ℕ) (d : Bor (List ℕ)) → i < length items →
      (heads new : List HeadNote) (head : HeadNote) → AreOpened origin keys (take i (bytes_of items)) heads →
      IsOpened origin keys (get_or items i d).now head → new ≡ heads ++ head ∷ [] →
      AreOpened origin keys (take (i + 1) (bytes_of items)) new
  more_opened items i d lt heads new head so_far here is =
      subst (AreOpened origin keys (take (i + 1) (bytes_of items))) (sym is) (record {
        opened = all_more (λ (x : List ℕ). x) items i d lt (OpensAsHead origin keys) so_far.opened here.opens;
        bytes_are = map-append head_bytes heads (head ∷ [])
            ∙ ap (λ (xs : List (List ℕ)). xs ++ head_bytes head ∷ []) so_far.bytes_are
            ∙ ap (λ (x : List ℕ). take i (bytes_of items) ++ x ∷ []) here.bytes_are
            ∙ sym (more_taken (λ (x : List ℕ). x) items i d lt);
        said = All-push (HasSaid origin) heads head so_far.said here.said;
      })

  pub all_opened : (items : List (Bor (List ℕ))) (i : ℕ) → length items ≤ i → (heads : List HeadNote) →
      AreOpened origin keys (take i (bytes_of items)) heads → AreOpened origin keys (bytes_of items) heads
  all_opened items i le heads so_far =
      subst (λ ns. AreOpened origin keys ns heads) (listed_all items i le) so_far

-- ---- the first note that does not open

module _ (origin : List ℕ) (keys : List Key) (items : List (Bor (List ℕ))) (i : ℕ) (d : Bor (List ℕ))
    (lt : i < length items) where
  pub one_refused : (fault : LoadFault) → FailsToOpen (OpensAsHead origin keys (get_or items i d).now → ⊥) fault →
      FailsToOpen (HasUnopened origin keys (bytes_of items)) fault
  one_refused StateMagic h = h
  one_refused StateShort h = h
  one_refused StateLong h = h
  one_refused StateDigest h = h
  one_refused OtherOrigin h = h
  one_refused StateOrder h = h
  one_refused StateString h = h
  one_refused StateHead h =
      record { note = (get_or items i d).now; is_listed = is_item (λ (x : List ℕ). x) items i d lt; closed = h }
  one_refused Collision h = h
  one_refused StateEdge h = h
  one_refused ReadFault h = h
  one_refused OutOfMemory h = h

  pub one_opens : All (OpensAsHead origin keys) (take i (bytes_of items)) →
      OpensAsHead origin keys (get_or items i d).now → All (OpensAsHead origin keys) (take (i + 1) (bytes_of items))
  one_opens so_far here = all_more (λ (x : List ℕ). x) items i d lt (OpensAsHead origin keys) so_far here

pub all_open : (origin : List ℕ) (keys : List Key) (items : List (Bor (List ℕ))) (i : ℕ) → length items ≤ i →
    All (OpensAsHead origin keys) (take i (bytes_of items)) → All (OpensAsHead origin keys) (bytes_of items)
all_open origin keys items i le so_far = all_passes (OpensAsHead origin keys) items i le so_far

pub first_here : (P : List ℕ → Type 0) (items : List (Bor (List ℕ))) (i : ℕ) (d : Bor (List ℕ)) → i < length items →
    All P (take i (bytes_of items)) → (P (get_or items i d).now → ⊥) →
    IsFirstNot P (bytes_of items) i (get_or items i d).now
first_here P items i d lt so_far fails = record {
  passed = so_far;
  is_there = slice_get-get_or (bytes_of items) i [] (omega (arith, same_len items, lt))
      ∙ ap (λ (x : List ℕ). Some x) (item_at items i d [] lt);
  fails = fails;
}
