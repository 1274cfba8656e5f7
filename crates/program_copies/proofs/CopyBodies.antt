-- The bytes of a copy for each resource are those of a mirror with its view.
use Rattle.std.proofs.Common.{◌≡◌, ℕ, ◌≤◌, ◌<◌, ◌^◌, ◌++◌, List, [], length, Option, Some, None, refl, sym, subst, arith}
use Rattle.std.specs.FinSet as set
use Rattle.std.proofs.lemmas.List.Elements.{Contains-append_left}
use Rattle.signed_note.specs.declared.key_line.KeyLine.{KeyLine}
use Rattle.tlog_hash.specs.Tree.{mth, strings}
use Rattle.tlog_tiles.specs.declared.paths.Path.TheVariants.{Checkpoint, Tile, Entries}
use Rattle.tlog_tiles.specs.Tiles.{IsTileWithin}
use Rattle.tlog_proof.specs.declared.proof.Ask.{Ask}
use Rattle.node_store.specs.Strings.{NoClash}
use Rattle.mirror_model.specs.Heads.{IsHead}
use Rattle.mirror_model.specs.Served.{Served}
use Rattle.mirror_model.specs.Strings.{IsDigest}
use Rattle.mirror_model.specs.View.{nothing, View}
use Rattle.mirror_model.proofs.HeadNotes.{head_once}
use Rattle.mirror_model.proofs.StringSets.{has_from_listed, listed_from_has, no_clash_within}
use Rattle.mirror_folders.specs.Shelf.{HasPut, Put, Stands}
use Rattle.mirror_http.specs.Answered.{IsBodyFor}
use Rattle.mirror_http.specs.Response.{IsBody, IsServedProofText}
use Rattle.mirror_http.specs.declared.request.Request.{Request}
use Rattle.mirror_http.specs.declared.request.Request.TheVariants.{Nothing, Unreadable, OtherMethod, Unknown, Get}
use Rattle.mirror_http.specs.declared.resource.Resource.{Resource}
use Rattle.mirror_http.specs.declared.resource.Resource.TheVariants.{File, Status, Forks, Missing, Proof}
use Rattle.copy_reader.specs.WholeCopies.{HasFilesOf}
use Rattle.copy_reader.specs.Proofs.{IsMadeOf}
use Rattle.copy_reader.proofs.GivenProofs.{made_within}
use Rattle.program_copies.specs.Bodies.{AsksProof, body_strings, given_strings, HasResource, IsBodyAt, IsBodyGiven}
use Rattle.program_copies.specs.CopyAnswers.{IsGivenFor, strings_for}
use Rattle.program_copies.specs.CopyHeads.{copy_head, CopyHead, IsCopyHead}
use Rattle.program_copies.specs.CopyLaws.{copy_view, IsNoteOf}
use Rattle.program_copies.specs.GivenProofs.{IsProofGiven}
use Rattle.program_copies.proofs.OneViews.{no_file, no_head, none_forks, none_status, one_forks, one_head, one_list, one_missing}
use Rattle.program_copies.proofs.OneViews.{no_list, only_list}
use Rattle.program_copies.proofs.OneViews.{one_served, one_size, one_status}
use Rattle.program_copies.proofs.ShelfFiles.{stands_has, stands_one}
use Rattle.program_copies.proofs.TrueFiles.{part_is_true, tile_is_true}

-- the checkpoint that is at its path is that of the note
pub one_copy_head : (AreKeys : List KeyLine → Type 0) (last : Option (List ℕ)) (origin : List ℕ) (puts : List Put)
    (note : List ℕ) (size : ℕ) (root : List ℕ) → Stands puts Checkpoint note → IsHead note origin size root →
    (head : Option CopyHead) → IsCopyHead AreKeys origin last (Some puts) head → head ≡ Some (copy_head note size root)
one_copy_head AreKeys last origin puts note size root stands is None p =
    absurd (p (stands_has puts Checkpoint note stands))
one_copy_head AreKeys last origin puts note size root stands is (Some a) p =
    let notes : a.note ≡ note = stands_one puts Checkpoint a.note note p.0 stands in
    let same = head_once note origin origin a.size size a.root root
    (subst (λ x. IsHead x origin a.size a.root) notes p.1) is in
    λ i. Some (record { note = notes i; size = same.size_is i; root = same.root_is i })

-- fewer strings do not clash either
pub tree_clear : (digest : List ℕ → List ℕ) (tree more : List (List ℕ)) → NoClash digest (set.from_list (tree ++ more)) →
    NoClash digest (set.from_list tree)
tree_clear digest tree more clear =
    no_clash_within digest (set.from_list tree) (set.from_list (tree ++ more))
    (λ q has. has_from_listed (tree ++ more) q (Contains-append_left tree more q (listed_from_has tree q has))) clear

-- ---- a copy

module _ (digest : List ℕ → List ℕ) (hash : IsDigest digest) (origin note : List ℕ) (entries : List (List ℕ))
    (puts : List Put) (of : IsNoteOf digest origin note entries) where
  abbrev n : ℕ
  n = length entries

  abbrev v : View
  v = copy_view digest origin note entries

  abbrev head : CopyHead
  head = copy_head note n (mth digest entries)

  small : n < 2 ^ 64
  small = omega (arith, of.is_head.is_checkpoint.in_range)

  given_proof : (ask : Ask) (text : List ℕ) → HasFilesOf digest entries (Some puts) →
      IsProofGiven digest (Some puts) n (mth digest entries) ask text → IsServedProofText digest v ask text
  given_proof ask text files is =
      let true_text = is.whole entries (record {
        size_is = refl;
        root_is = refl;
        small = of.is_head.is_checkpoint.in_range;
        files = files;
      }) in
      record {
        entries = entries;
        served = one_list digest origin note entries of.is_head;
        proof = true_text.proof;
        made = true_text.made;
        text_is = true_text.text_is;
      }

  -- the mirror has the bytes that the copy has
  copy_has : (r : Resource) (body : List ℕ) (is : IsBodyAt digest origin (Some puts) (Some head) r body) →
      NoClash digest (set.from_list
      (strings digest entries ++ body_strings digest origin (Some puts) (Some head) r body is)) →
      (AsksProof (Get r) → HasFilesOf digest entries (Some puts)) → IsBody digest v r body
  copy_has (File Checkpoint) body is clear files = record {
    size = n;
    root = mth digest entries;
    entries = entries;
    served = subst (λ x. Served digest v x n (mth digest entries) entries) (sym is)
        (one_served digest origin note entries of.is_head);
  }
  copy_has (File (Tile level index width)) body is clear files = record {
    entries = entries;
    served = one_list digest origin note entries of.is_head;
    within = is.within;
    bytes_are = tile_is_true digest hash entries of.short is.edge is.is_edge small level index width body is.shown clear;
  }
  copy_has (File (Entries index width)) body is clear files = record {
    entries = entries;
    served = one_list digest origin note entries of.is_head;
    within = is.within;
    bytes_are = part_is_true digest hash entries of.short is.edge is.is_edge small index width body is.within is.shown clear;
  }
  copy_has Status body is clear files = one_status digest origin note entries of.is_head body is
  copy_has Forks body is clear files = one_forks digest origin note entries of.is_head body is
  copy_has (Missing size root) body is clear files =
      let few : n ≤ 256 ^ 8 = omega (arith, of.is_head.is_checkpoint.in_range) in
      one_missing digest origin note entries of.is_head hash (tree_clear digest (strings digest entries) [] clear) few size root body
      is.0 is.1 is.2
  copy_has (Proof ask) body is clear files = given_proof ask body (files tt) is

  -- the copy has each resource that the mirror has
  mirror_has : NoClash digest (set.from_list (strings digest entries)) → (r : Resource) (body : List ℕ) → IsBody digest v r body →
      HasResource (Some head) r
  mirror_has clear (File Checkpoint) body is = tt
  mirror_has clear (File (Tile level index width)) body is =
      subst (λ k. IsTileWithin k level index width) (one_size digest origin note entries of.is_head is.entries is.served) is.within
  mirror_has clear (File (Entries index width)) body is =
      subst (λ k. IsTileWithin k 0 index width) (one_size digest origin note entries of.is_head is.entries is.served) is.within
  mirror_has clear Status body is = tt
  mirror_has clear Forks body is = tt
  mirror_has clear (Missing size root) body is = one_head digest origin note entries of.is_head size root is.head
  mirror_has clear (Proof ask) body is =
      let same = only_list digest origin note entries of.is_head hash clear is.entries is.served in
      made_within digest entries ask is.proof (subst (λ es. IsMadeOf digest ask es is.proof) same is.made)

  -- the body for a resource is that of the mirror
  given_is : (r : Resource) (body : Option (List ℕ)) (is : IsBodyGiven digest origin (Some puts) (Some head) r body) →
      NoClash digest (set.from_list
      (strings digest entries ++ given_strings digest origin (Some puts) (Some head) r body is)) →
      (AsksProof (Get r) → HasFilesOf digest entries (Some puts)) → IsBodyFor (IsBody digest v) (Get r) body
  given_is r (Some body) is clear files = copy_has r body is clear files
  given_is r None is clear files =
      λ body has. is (mirror_has (tree_clear digest (strings digest entries) [] clear) r body has)

  given_at : (r : Resource) (body : Option (List ℕ)) (own : Option CopyHead) → own ≡ Some head →
      (is : IsBodyGiven digest origin (Some puts) own r body) →
      NoClash digest (set.from_list (strings digest entries ++ given_strings digest origin (Some puts) own r body is)) →
      (AsksProof (Get r) → HasFilesOf digest entries (Some puts)) → IsBodyFor (IsBody digest v) (Get r) body
  given_at r body None e is clear files = absurd cc
  given_at r body (Some own) e is clear files =
      let Claim : CopyHead → Type 0 = (λ h. (is : IsBodyGiven digest origin (Some puts) (Some h) r body) →
      NoClash digest (set.from_list (strings digest entries ++ given_strings digest origin (Some puts) (Some h) r body is)) →
      IsBodyFor (IsBody digest v) (Get r) body) in
      let same : head ≡ own = cc in
      subst Claim same (λ is clear. given_is r body is clear files) is clear

  -- the body for a request is that of the mirror
  pub body_of_copy : (AreKeys : List KeyLine → Type 0) (last : Option (List ℕ)) → Stands puts Checkpoint note →
      (request : Request) (body : Option (List ℕ)) (is : IsGivenFor digest AreKeys last origin (Some puts) request body) →
      NoClash digest (set.from_list
      (strings digest entries ++ strings_for digest AreKeys last origin (Some puts) request body is)) →
      (AsksProof request → HasFilesOf digest entries (Some puts)) → IsBodyFor (IsBody digest v) request body
  body_of_copy AreKeys last stands Nothing body is clear files = tt
  body_of_copy AreKeys last stands Unreadable body is clear files = tt
  body_of_copy AreKeys last stands OtherMethod body is clear files = tt
  body_of_copy AreKeys last stands Unknown body is clear files = tt
  body_of_copy AreKeys last stands (Get r) body is clear files =
      given_at r body is.head
      (one_copy_head AreKeys last origin puts note n (mth digest entries) stands of.is_head is.head is.is_head)
      is.is_body clear files

-- ---- an empty copy

module _ (digest : List ℕ → List ℕ) (origin : List ℕ) (puts : List Put) (none : HasPut puts Checkpoint → ⊥) where
  empty_has : (r : Resource) (body : List ℕ) → IsBodyAt digest origin (Some puts) None r body →
      IsBody digest (nothing origin) r body
  empty_has (File path) body is = absurd is
  empty_has Status body is = none_status digest origin body is
  empty_has Forks body is = none_forks digest origin body is
  empty_has (Missing size root) body is = absurd is
  empty_has (Proof ask) body is = absurd is

  nothing_has : (r : Resource) (body : List ℕ) → IsBody digest (nothing origin) r body → HasResource None r
  nothing_has (File path) body is = no_file digest origin path body is
  nothing_has Status body is = tt
  nothing_has Forks body is = tt
  nothing_has (Missing size root) body is = no_head digest origin size root is.head
  nothing_has (Proof ask) body is = no_list digest origin is.entries is.served

  empty_is : (r : Resource) (body : Option (List ℕ)) → IsBodyGiven digest origin (Some puts) None r body →
      IsBodyFor (IsBody digest (nothing origin)) (Get r) body
  empty_is r (Some body) is = empty_has r body is
  empty_is r None is = λ body has. is (nothing_has r body has)

  empty_at : (AreKeys : List KeyLine → Type 0) (last : Option (List ℕ)) (head : Option CopyHead) →
      IsCopyHead AreKeys origin last (Some puts) head → (r : Resource) (body : Option (List ℕ)) →
      IsBodyGiven digest origin (Some puts) head r body → IsBodyFor (IsBody digest (nothing origin)) (Get r) body
  empty_at AreKeys last None is_head r body is = empty_is r body is
  empty_at AreKeys last (Some head) is_head r body is = absurd (none (stands_has puts Checkpoint head.note is_head.0))

  pub body_of_empty : (AreKeys : List KeyLine → Type 0) (last : Option (List ℕ)) (request : Request) (body : Option (List ℕ)) →
      IsGivenFor digest AreKeys last origin (Some puts) request body → IsBodyFor (IsBody digest (nothing origin)) request body
  body_of_empty AreKeys last Nothing body is = tt
  body_of_empty AreKeys last Unreadable body is = tt
  body_of_empty AreKeys last OtherMethod body is = tt
  body_of_empty AreKeys last Unknown body is = tt
  body_of_empty AreKeys last (Get r) body is = empty_at AreKeys last is.head is.is_head r body is.is_body
