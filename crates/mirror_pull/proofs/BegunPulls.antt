-- A pull from an honest source before its rounds: the note is the log's, and so are its tree head and the right edge.
use Rattle.std.proofs.Common.{◌≡◌, ℕ, ◌<◌, ◌^◌, List, [], ◌∷◌, ◌++◌, take, Option, Some, Contains, ◌∙◌, sym, subst}
use Rattle.signed_note.specs.Keys.{Key}
use Rattle.tlog_checkpoint.specs.declared.Checkpoint.{Checkpoint}
use Rattle.tlog_tiles.specs.declared.paths.Path.{Path}
use Rattle.tlog_tiles.specs.declared.paths.Path.TheVariants.{Checkpoint as Root}
use Rattle.tlog_tiles.specs.Edge.{edge_of}
use Rattle.mirror_model.specs.View.{View}
use Rattle.mirror_model.specs.Strings.{IsDigest}
use Rattle.mirror_model.specs.Heads.{HasHead}
use Rattle.mirror_model.specs.Refusals.{IsOpenCheckpoint}
use Rattle.mirror_model.specs.Item.{plus}
use Rattle.mirror_model.specs.TrueLaws.{edge_bytes}
use Rattle.mirror_model.specs.declared.items.Item.TheVariants as item
use Rattle.mirror_model.proofs.Views.{within_itself}
use Rattle.mirror_sources.specs.Source.{StaysWithin}
use Rattle.mirror_sources.specs.Honest.{IsHonest}
use Rattle.mirror_pull.specs.Asking.{AreFresh}
use Rattle.mirror_pull.specs.Honest.{NoClashAmong, with_head}
use Rattle.mirror_pull.specs.Parts.{IsTrueSource, AreTrueRows, MayWork}
use Rattle.mirror_pull.proofs.Gains.{has_head, stays_then}
use Rattle.mirror_pull.proofs.HeadsRead.{opened_head, honest_size}
use Rattle.mirror_pull.proofs.TrueRows.{source_stays}
use Rattle.mirror_pull.proofs.TruePulls.{IsReadHonestly, edge_fresh, first_asked, head_done, none_asked, pull_source}
use Rattle.mirror_pull.proofs.TruePulls.{read_honestly, read_small, rounds_may, rows_of_edge, some_same}

-- the source and its requests after the checkpoint was read
pub record IsBegun (digest : List ℕ → List ℕ) (entries : List (List ℕ)) (keys : List Key) (v : View)
    (note taken : List ℕ) (size : ℕ) (read : Checkpoint) (may later : Path → Option (List ℕ) → Type 0)
    (asked : List Path) : Type 0 where
  pub hash : IsDigest digest
  pub same : taken ≡ note
  pub answered : may Root (Some taken)
  pub opened : IsOpenCheckpoint taken v.origin keys read
  pub honestly : IsReadHonestly digest entries keys v taken size read.size read.root may
  pub small : read.size < 256 ^ 8
  pub stays : StaysWithin may later
  pub source : IsTrueSource digest entries later
  pub begun : asked ≡ Root ∷ []
  pub fresh : AreFresh asked (edge_of read.size)

pub is_begun :
    {digest : List ℕ → List ℕ} {entries : List (List ℕ)} {keys : List Key} {note taken found : List ℕ} {size : ℕ}
    {may later : Path → Option (List ℕ) → Type 0} {none asked : List Path} {read : Checkpoint} → IsDigest digest →
    (v : View) → IsHonest digest entries v.origin keys note size may → NoClashAmong digest entries v size →
    StaysWithin may later → none ≡ [] → ((Contains none Root → ⊥) → asked ≡ none ++ Root ∷ []) → taken ≡ found →
    ((Contains none Root → ⊥) → may Root (Some found)) → IsOpenCheckpoint taken v.origin keys read →
    IsBegun digest entries keys v note taken size read may later asked
is_begun {digest} {entries} {keys} {note} {taken} {found} {size} {may} {later} {none} {asked} {read} hash v is clean
    stays empty grown taken_is answer opened =
    let unasked = none_asked none Root empty in
    let same = taken_is ∙ some_same found note (is.checkpoint (Some found) (answer unasked)) in
    let sizes = honest_size digest entries keys v note taken size may is same read opened in
    let honestly =
    read_honestly digest entries keys v note taken size read.size read.root may is clean same sizes.0 sizes.1 in
    let begun = first_asked none asked empty (grown unasked) in
    record {
      hash = hash;
      same = same;
      answered = subst (λ (bytes : List ℕ). may Root (Some bytes)) (sym taken_is) (answer unasked);
      opened = opened;
      honestly = honestly;
      small = read_small digest entries v.origin keys taken read.size may honestly.honest;
      stays = stays;
      source = source_stays digest entries may later stays
          (pull_source digest hash keys entries v taken read.size may honestly.honest honestly.clean);
      begun = begun;
      fresh = edge_fresh read.size asked begun;
    }

module _ {digest : List ℕ → List ℕ} {entries : List (List ℕ)} {keys : List Key} {v : View} {note taken : List ℕ}
    {size : ℕ} {read : Checkpoint} {may later : Path → Option (List ℕ) → Type 0} {asked after : List Path}
    {rows shown_rows : List (List ℕ)} (b : IsBegun digest entries keys v note taken size read may later asked)
    (got : AreTrueRows digest entries later (edge_of read.size) asked after rows) (rows_are : shown_rows ≡ rows) where
  -- the rows are those of the right edge of the first entries
  pub rows_are_edge : shown_rows ≡ edge_bytes digest (take read.size entries)
  rows_are_edge = rows_are ∙ (got.rows_are ∙ rows_of_edge digest entries read.size b.honestly.honest.within)

  -- the state after the tree head was taken
  pub record MayGoOn (rest : Path → Option (List ℕ) → Type 0) (w : View) : Type 0 where
    pub taken_is : w ≡ with_head digest entries v taken read.size
    pub head : HasHead w read.size read.root
    pub may_work : MayWork digest entries read.size read.root rest w after

  pub may_go_on :
      {rest : Path → Option (List ℕ) → Type 0} {w : View} {shown : List ℕ} → StaysWithin later rest → shown ≡ taken →
      w ≡ plus digest v (item.Head shown shown_rows) → MayGoOn rest w
  may_go_on {rest} {w} {shown} stays note_is is =
      let taken_is = head_done digest entries v w taken shown read.size shown_rows note_is rows_are_edge is in
      let head =
      has_head digest keys v w w shown taken shown_rows read.size read.root note_is is
      (opened_head taken v.origin keys read b.opened) (within_itself w) in
      record {
        taken_is = taken_is;
        head = head;
        may_work = rounds_may digest b.hash keys entries v taken read.size may b.honestly.honest b.honestly.clean
            b.small later rest w read.root asked after (stays_then may later rest b.stays stays) taken_is b.honestly.root_is
            head b.begun got.gets;
      }
