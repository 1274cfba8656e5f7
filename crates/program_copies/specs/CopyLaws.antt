-- The reply from a copy is that of a mirror with only the checkpoint's tree head, which is complete. The files of the copy may be any.
use Rattle.std.specs.Prelude.{ℕ, List, [], ◌∷◌, ◌++◌, length, Option, Some}
use Rattle.std.specs.FinSet as set
use Rattle.signed_note.specs.declared.key_line.KeyLine.{KeyLine}
use Rattle.tlog_hash.specs.Tree.{mth, strings}
use Rattle.tlog_tiles.specs.declared.paths.Path.TheVariants.{Checkpoint}
use Rattle.node_store.specs.Strings.{NoClash}
use Rattle.mirror_folders.specs.Shelf.{HasPut, Put, Stands}
use Rattle.mirror_model.specs.Complete.{IsLawful}
use Rattle.mirror_model.specs.Heads.{IsHead}
use Rattle.mirror_model.specs.Strings.{IsDigest}
use Rattle.mirror_model.specs.TrueLaws.{AreShort}
use Rattle.mirror_model.specs.View.{nothing, View}
use Rattle.mirror_http.specs.Response.{Response}
use Rattle.copy_reader.specs.WholeCopies.{HasFilesOf}
use Rattle.program_copies.specs.Bodies.{AsksProof}
use Rattle.program_copies.specs.CopyAnswers.{IsCopyReply, strings_for}

-- the view of a mirror that has one note, and the strings of the tree of those entries
abbrev pub copy_view : (List ℕ → List ℕ) → List ℕ → List ℕ → List (List ℕ) → View
copy_view digest origin note entries =
    record {
      origin = origin;
      notes = set.from_list (note ∷ []);
      strings = set.from_list (strings digest entries);
    }

-- the note is a checkpoint of these entries, and each of them fits into a bundle
pub record IsNoteOf (digest : List ℕ → List ℕ) (origin note : List ℕ) (entries : List (List ℕ)) : Type 0 where
  pub short : AreShort entries
  pub is_head : IsHead note origin (length entries) (mth digest entries)

module _ (digest : List ℕ → List ℕ) (AreKeys : List KeyLine → Type 0) (last : Option (List ℕ)) (origin : List ℕ)
    (puts : List Put) (bytes reply : List ℕ) (is : IsCopyReply digest AreKeys last origin (Some puts) bytes reply) where
  -- no two different strings share a digest, of those of the tree of the entries and of those that were hashed on the way from the
  -- reply to the root
  abbrev pub IsReplyClear : List (List ℕ) → Type 0
  IsReplyClear entries =
      NoClash digest (set.from_list
      (strings digest entries ++ strings_for digest AreKeys last origin (Some puts) is.request is.body is.given))

  -- if a proof was asked for, the shelf has the files of the log
  abbrev pub HasProofFiles : List (List ℕ) → Type 0
  HasProofFiles entries = AsksProof is.request → HasFilesOf digest entries (Some puts)

  -- the reply from a copy is the reply of a mirror that has only its checkpoint, complete. Without a checkpoint it is that of an empty one
  pub record AnswersAsMirror : Type 0 where
    pub empty : ¬ HasPut puts Checkpoint → Response digest (nothing origin) bytes reply
    pub one : (note : List ℕ) (entries : List (List ℕ)) → IsNoteOf digest origin note entries →
        Stands puts Checkpoint note → IsReplyClear entries → HasProofFiles entries →
        Response digest (copy_view digest origin note entries) bytes reply

abbrev pub CopiesAnswerAsMirrors : (List KeyLine → Type 0) → Type 0
CopiesAnswerAsMirrors AreKeys =
    (digest : List ℕ → List ℕ) → IsDigest digest → (last : Option (List ℕ)) (origin : List ℕ) (puts : List Put)
    (bytes reply : List ℕ)
    (is : IsCopyReply digest AreKeys last origin (Some puts) bytes reply) →
    AnswersAsMirror digest AreKeys last origin puts bytes reply is

-- such views are lawful, so each has one reply to the bytes of a client (`one_response_law` of mirror_http)
pub record AreLawful (digest : List ℕ → List ℕ) (origin : List ℕ) : Type 0 where
  pub empty : IsLawful digest (nothing origin)
  pub one : (note : List ℕ) (entries : List (List ℕ)) → IsNoteOf digest origin note entries →
      NoClash digest (set.from_list (strings digest entries)) → IsLawful digest (copy_view digest origin note entries)

abbrev pub CopyViewsAreLawful : Type 0
CopyViewsAreLawful = (digest : List ℕ → List ℕ) → IsDigest digest → (origin : List ℕ) → AreLawful digest origin
