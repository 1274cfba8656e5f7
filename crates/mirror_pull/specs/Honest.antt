-- Pulls from an honest source (C2SP tlog-tiles).
use Rattle.std.specs.Prelude.{◌≡◌, ◌⊎◌, ℕ, ◌≤◌, max, List, [], ◌∷◌, ◌++◌, length, take, Option}
use Rattle.std.specs.Prelude.{Some, IsTrue, Result, MatchResult, Contains}
use Rattle.std.specs.FinSet as set
use Rattle.signed_note.specs.Keys.{Key}
use Rattle.tlog_shape.specs.Edge.{IsTop}
use Rattle.tlog_hash.specs.Tree.{mth, strings}
use Rattle.tlog_tiles.specs.declared.paths.Path.{Path}
use Rattle.tlog_tiles.specs.declared.paths.Path.TheVariants.{Checkpoint}
use Rattle.tlog_tiles.specs.Edge.{edge_of}
use Rattle.node_store.specs.Strings.{Has, NoClash}
use Rattle.mirror_model.specs.View.{View}
use Rattle.mirror_model.specs.declared.items.Item.{Item}
use Rattle.mirror_model.specs.declared.items.Item.TheVariants as item
use Rattle.mirror_model.specs.Item.{plus}
use Rattle.mirror_model.specs.TrueLaws.{edge_bytes}
use Rattle.mirror_model.specs.Listed.{ListsFront}
use Rattle.mirror_sources.specs.Recorded.{AddsToRecord}
use Rattle.mirror_sources.specs.Replies.{Reply, reply, asked_paths, MayReply}
use Rattle.mirror_sources.specs.Honest.{Gets, true_bytes, IsHonest}
use Rattle.mirror_pull.specs.Taking.{item_at}
use Rattle.mirror_pull.specs.declared.pulling.Pulled.{Pulled}
use Rattle.mirror_pull.specs.declared.fault.PullFault.{PullFault}
use Rattle.mirror_pull.specs.declared.fault.PullFault.TheVariants.{Source, OutOfMemory}

module _ (digest : List ℕ → List ℕ) (entries : List (List ℕ)) where
  -- the item of the true bytes at a path
  abbrev pub true_item : Path → Item
  true_item path = item_at path (true_bytes digest entries path)

  -- the view after the true bytes at these paths were taken, in order
  abbrev pub with_true : View → List Path → View
  with_true v [] = v
  with_true v (path ∷ paths) = with_true (plus digest v (true_item path)) paths

  -- the strings of the view, of the tree of the entries, and of the tree of the first entries do
  -- not collide
  abbrev pub NoClashAmong : View → ℕ → Type 0
  NoClashAmong v size =
      NoClash digest
      (set.union v.strings
      (set.union (set.from_list (strings digest entries))
      (set.from_list (strings digest (take size entries)))))

  -- a round of a pull took the front. Its list is the front, in order, and is not empty. Each path
  -- was requested, and the true bytes that were found were taken
  pub record IsFrontRound (size : ℕ) (v w : View) (list : List Path) (replies : List Reply)
      : Type 0 where
    pub founds : List Path
    pub some : 1 ≤ length list
    pub front : ListsFront digest v (take size entries) list
    pub gets : Gets (length entries) list replies founds
    pub taken : w ≡ with_true v founds

  -- rounds of a pull took the front, in order
  abbrev pub AreFrontRounds : ℕ → View → View → List (List Path) → List Reply → Type 0
  AreFrontRounds size v w [] replies = (w ≡ v) × (replies ≡ [])
  AreFrontRounds size v w (list ∷ lists) replies =
      (between : View) × (first : List Reply) × (rest : List Reply) ×
      IsFrontRound size v between list first × AreFrontRounds size between w lists rest ×
      (replies ≡ first ++ rest)

  -- the view with the tree head of the first entries
  abbrev pub with_head : View → List ℕ → ℕ → View
  with_head v note size = plus digest v (item.Head note (edge_bytes digest (take size entries)))

  -- the requests of an honest pull and possible replies: the checkpoint, the paths of the right
  -- edge, then the paths of each round
  pub record HonestGets (note : List ℕ) (size : ℕ) (v w : View)
      (may : Path → Option (List ℕ) → Type 0) (old new : Option (List Path)) (rounds : ℕ)
      : Type 0 where
    pub edge : List Reply
    pub edge_founds : List Path
    pub edge_gets : Gets (length entries) (edge_of size) edge edge_founds
    pub lists : List (List Path)
    pub replies : List Reply
    pub count : length lists ≡ rounds
    pub worked : AreFrontRounds size (with_head v note size) w lists replies
    pub may_reply : MayReply may (reply Checkpoint (Some note) ∷ edge ++ replies)
    pub recorded : AddsToRecord old new (asked_paths (reply Checkpoint (Some note) ∷ edge ++ replies))

  -- the outcome of an honest pull
  pub record HonestOutcome (note : List ℕ) (size : ℕ) (v w : View)
      (may : Path → Option (List ℕ) → Type 0) (old new : Option (List Path)) (p : Pulled)
      : Type 0 where
    pub size_is : p.size ≡ size
    pub root_is : p.root ≡ mth digest (take size entries)
    pub none_refused : p.refused ≡ 0
    pub complete : IsTrue p.complete
    pub gets : HonestGets note size v w may old new p.rounds
    pub at_most : (top : ℕ) → IsTop size top → p.rounds ≤ max 1 top
    pub none : size ≡ 0 → p.rounds ≡ 0
    pub has_note : Has w.notes note
    pub notes : (other : List ℕ) → Has w.notes other → Has v.notes other ⊎ (other ≡ note)
    pub strings :
        (y : List ℕ) → Has w.strings y →
        Has v.strings y ⊎
        (Contains (strings digest entries) y ⊎ Contains (strings digest (take size entries)) y)

-- a pull from an honest source is successful, unless memory was refused or the source failed. This
-- holds for each list of entries for which the source is honest, if nothing collides
abbrev pub PullsHonestly : (List ℕ → List ℕ) → List Key → View → View →
    (Path → Option (List ℕ) → Type 0) → Option (List Path) → Option (List Path) →
    Result Pulled PullFault → Type 0
PullsHonestly digest keys v w may old new result =
    (entries : List (List ℕ)) (note : List ℕ) (size : ℕ) →
    IsHonest digest entries v.origin keys note size may →
    NoClashAmong digest entries v size →
    MatchResult result (λ p. HonestOutcome digest entries note size v w may old new p)
    (λ e. (e ≡ OutOfMemory) ⊎ (e ≡ Source))
