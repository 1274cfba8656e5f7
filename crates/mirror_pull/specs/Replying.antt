-- The requests of a pull, and its use of the replies. The replies determine the pull (C2SP
-- tlog-tiles, "Merkle Tree", "Log Entries" and "Partial Tiles"). Only contracts of private
-- functions cite the definitions below "parts of a pull".
use Rattle.std.specs.Prelude.{◌≡◌, ◌≢◌, ◌⊎◌, ℕ, ◌+◌, ◌-◌, ◌*◌, ◌^◌, ◌≤◌, List, [], ◌∷◌, ◌++◌, length, take, min}
use Rattle.std.specs.Prelude.{suc, Option, Some, None, Result, Ok, Err, Bool, true, false, Contains, ⊤}
use Rattle.std.specs.Prelude.{IfOk, MatchResult}
use Rattle.signed_note.specs.Keys.{Key}
use Rattle.tlog_checkpoint.specs.declared.Checkpoint.{Checkpoint as Read}
use Rattle.tlog_tiles.specs.declared.paths.Path.{Path}
use Rattle.tlog_tiles.specs.declared.paths.Path.TheVariants.{Checkpoint}
use Rattle.tlog_tiles.specs.Edge.{edge_of}
use Rattle.mirror_model.specs.View.{View}
use Rattle.mirror_model.specs.Heads.{HasHead, IsOpenHead}
use Rattle.mirror_model.specs.Item.{IsGood, plus}
use Rattle.mirror_model.specs.declared.items.Item.TheVariants as item
use Rattle.mirror_model.specs.Listed.{ListsMissing}
use Rattle.mirror_model.specs.Steps.{Takes, Clashed, Exhausted}
use Rattle.mirror_model.specs.Refusals.{IsOpenCheckpoint, ReadsHead, JudgesHead}
use Rattle.mirror_model.specs.declared.fault.TakeFault.{TakeFault}
use Rattle.mirror_sources.specs.Files.{full_of, width_named}
use Rattle.mirror_sources.specs.Replies.{Reply, reply, asked_paths, MayReply}
use Rattle.mirror_sources.specs.Recorded.{AddsToRecord}
use Rattle.mirror_pull.specs.Taking.{item_at}
use Rattle.mirror_pull.specs.declared.fault.PullFault.{PullFault}
use Rattle.mirror_pull.specs.declared.fault.PullFault.TheVariants.{NoCheckpoint, NoEdge, Head}
use Rattle.mirror_pull.specs.declared.fault.PullFault.TheVariants.{Source, Collision, OutOfMemory}
use Rattle.mirror_pull.specs.declared.pulling.Pulled.{Pulled}

-- ---- gets

-- one get of a path; a path that was requested before gets no request and counts as not found
pub data Asks (asked : List Path) (path : Path) : List Reply → Option (List ℕ) → Type 0 where
  AsksNew : (found : Option (List ℕ)) → (¬ Contains asked path) →
      Asks asked path (reply path found ∷ []) found
  AsksAgain : Contains asked path → Asks asked path [] None

-- the requested paths, with those of some replies
abbrev pub with_replies : List Path → List Reply → List Path
with_replies asked replies = asked ++ asked_paths replies

-- a path is requested; if and only if it is not found, its full path is requested next
pub data AsksPath (asked : List Path) (path : Path) : List Reply → Type 0 where
  PathFound : {replies : List Reply} {bytes : List ℕ} → Asks asked path replies (Some bytes) →
      AsksPath asked path replies
  PathNone : {first second : List Reply} {found : Option (List ℕ)} → Asks asked path first None →
      Asks (with_replies asked first) (full_of path) second found →
      AsksPath asked path (first ++ second)

-- the paths of a list are requested in this way, in order
pub data AsksList (asked : List Path) : List Path → List Reply → Type 0 where
  ListNone : AsksList asked [] []
  ListNext : {paths : List Path} {first second : List Reply} (path : Path) →
      AsksList asked paths first → AsksPath (with_replies asked first) path second →
      AsksList asked (paths ++ path ∷ []) (first ++ second)

-- ---- the right edge

-- the row of a path of the right edge: the bytes that were found, or otherwise the first hashes of
-- the full tile, which has 8,192 bytes
pub data GivesRow (asked : List Path) (path : Path) : List Reply → List ℕ → Type 0 where
  RowFound : {replies : List Reply} {row : List ℕ} → Asks asked path replies (Some row) →
      GivesRow asked path replies row
  RowCut : {first second : List Reply} (bytes : List ℕ) → Asks asked path first None →
      Asks (with_replies asked first) (full_of path) second (Some bytes) → length bytes ≡ 8192 →
      GivesRow asked path (first ++ second) (take (32 * width_named path) bytes)

-- the rows of these paths, in order
pub data GivesRows (asked : List Path) : List Path → List Reply → List (List ℕ) → Type 0 where
  RowsNone : GivesRows asked [] [] []
  RowsNext : {paths : List Path} {first second : List Reply} {rows : List (List ℕ)} (path : Path)
      (row : List ℕ) → GivesRows asked paths first rows →
      GivesRow (with_replies asked first) path second row →
      GivesRows asked (paths ++ path ∷ []) (first ++ second) (rows ++ row ∷ [])

-- a path of the right edge has no row: neither its file nor a full tile of 8,192 bytes was found
pub record GivesNoRow (asked : List Path) (path : Path) (replies : List Reply) : Type 0 where
  pub first : List Reply
  pub second : List Reply
  pub found : Option (List ℕ)
  pub none : Asks asked path first None
  pub full : Asks (with_replies asked first) (full_of path) second found
  pub no_tile : (bytes : List ℕ) → found ≡ Some bytes → length bytes ≢ 8192
  pub replies_are : replies ≡ first ++ second

-- the first of these paths have rows, and the next has none
pub record GivesNoRows (asked paths : List Path) (replies : List Reply) : Type 0 where
  pub before : List Path
  pub path : Path
  pub after : List Path
  pub paths_are : paths ≡ before ++ path ∷ after
  pub first : List Reply
  pub second : List Reply
  pub rows : List (List ℕ)
  pub given : GivesRows asked before first rows
  pub not_given : GivesNoRow (with_replies asked first) path second
  pub replies_are : replies ≡ first ++ second

-- ---- rounds

-- the paths of a list that were not requested yet, in order
pub data AreUnasked (asked : List Path) : List Path → List Path → Type 0 where
  UnaskedNone : AreUnasked asked [] []
  UnaskedOut : (path : Path) {paths left : List Path} → Contains asked path →
      AreUnasked asked paths left → AreUnasked asked (path ∷ paths) left
  UnaskedIn : (path : Path) {paths left : List Path} → (¬ Contains asked path) →
      AreUnasked asked paths left → AreUnasked asked (path ∷ paths) (path ∷ left)

-- the replies to gets of tiles and bundles: valid ones are taken, and the others are counted. A
-- path that was not found is not counted
pub data TakesReplies (digest : List ℕ → List ℕ) : View → List Reply → ℕ → View → Type 0 where
  TakesEnd : (v : View) → TakesReplies digest v [] 0 v
  TakesNone : {v w : View} {replies : List Reply} {refused : ℕ} (path : Path) →
      TakesReplies digest v replies refused w →
      TakesReplies digest v (reply path None ∷ replies) refused w
  TakesGood : {v w : View} {replies : List Reply} {refused : ℕ} (path : Path) (bytes : List ℕ) →
      IsGood digest v.origin [] (item_at path bytes) →
      TakesReplies digest (plus digest v (item_at path bytes)) replies refused w →
      TakesReplies digest v (reply path (Some bytes) ∷ replies) refused w
  TakesBad : {v w : View} {replies : List Reply} {refused : ℕ} (path : Path) (bytes : List ℕ) →
      (¬ IsGood digest v.origin [] (item_at path bytes)) →
      TakesReplies digest v replies refused w →
      TakesReplies digest v (reply path (Some bytes) ∷ replies) (suc refused) w

-- the missing paths of the tree head that were not requested yet
pub record IsLeftToAsk (digest : List ℕ → List ℕ) (size : ℕ) (root : List ℕ) (asked : List Path)
    (v : View) (left : List Path) : Type 0 where
  pub missing : List Path
  pub lists : ListsMissing digest v size root missing
  pub unasked : AreUnasked asked missing left

-- one round: it requests the paths that are left for the tree head at its start, at least one, and
-- takes the replies
pub record IsPullRound (digest : List ℕ → List ℕ) (size : ℕ) (root : List ℕ) (asked : List Path)
    (v : View) (replies : List Reply) (refused : ℕ) (w : View) : Type 0 where
  pub list : List Path
  pub left : IsLeftToAsk digest size root asked v list
  pub some : 1 ≤ length list
  pub asks : AsksList asked list replies
  pub takes : TakesReplies digest v replies refused w

-- the given number of rounds, in order, and the number of replies that all of them refused
pub data ArePullRounds (digest : List ℕ → List ℕ) (size : ℕ) (root : List ℕ) (asked : List Path)
    (v : View) : List Reply → ℕ → ℕ → View → Type 0 where
  RoundsNone : ArePullRounds digest size root asked v [] 0 0 v
  RoundsNext : {first second : List Reply} {rounds refused more : ℕ} {x w : View} →
      ArePullRounds digest size root asked v first rounds refused x →
      IsPullRound digest size root (with_replies asked first) x second more w →
      ArePullRounds digest size root asked v (first ++ second) (suc rounds) (refused + more) w

-- ---- early ends of a pull

-- no get for these paths was answered by bytes yet. The next get, if any, is for the first path or,
-- if nothing was found there, for its full path
pub data AsksNext (asked : List Path) : List Path → List Reply → Option Path → Type 0 where
  NextNone : (paths : List Path) → AsksNext asked paths [] None
  NextPath : (path : Path) (paths : List Path) → (¬ Contains asked path) →
      AsksNext asked (path ∷ paths) [] (Some path)
  NextFull : {replies : List Reply} (path : Path) (paths : List Path) →
      Asks asked path replies None → (¬ Contains (with_replies asked replies) (full_of path)) →
      AsksNext asked (path ∷ paths) replies (Some (full_of path))

-- the first of these paths of the right edge have rows, and this get, if any, is next
pub record IsInRows (asked paths : List Path) (replies : List Reply) (next : Option Path)
    : Type 0 where
  pub before : List Path
  pub after : List Path
  pub paths_are : paths ≡ before ++ after
  pub first : List Reply
  pub second : List Reply
  pub rows : List (List ℕ)
  pub given : GivesRows asked before first rows
  pub asks : AsksNext (with_replies asked first) after second next
  pub replies_are : replies ≡ first ++ second

-- the first paths of a round were requested, their replies were taken, and this get, if any, is
-- next
pub record IsInRound (digest : List ℕ → List ℕ) (asked paths : List Path) (v : View)
    (replies : List Reply) (w : View) (next : Option Path) : Type 0 where
  pub before : List Path
  pub after : List Path
  pub paths_are : paths ≡ before ++ after
  pub first : List Reply
  pub second : List Reply
  pub refused : ℕ
  pub asked_first : AsksList asked before first
  pub asks : AsksNext (with_replies asked first) after second next
  pub replies_are : replies ≡ first ++ second
  pub takes : TakesReplies digest v replies refused w

-- fewer than eight rounds are over, and the next one may have begun
pub data IsInRounds (digest : List ℕ → List ℕ) (size : ℕ) (root : List ℕ) (asked : List Path)
    (v : View) : List Reply → View → Option Path → Type 0 where
  RoundsOver : {replies : List Reply} {rounds refused : ℕ} {w : View} → rounds ≤ 7 →
      ArePullRounds digest size root asked v replies rounds refused w →
      IsInRounds digest size root asked v replies w None
  RoundUnder : {first second : List Reply} {rounds refused : ℕ} {x w : View} {next : Option Path}
      (list : List Path) → rounds ≤ 7 →
      ArePullRounds digest size root asked v first rounds refused x →
      IsLeftToAsk digest size root (with_replies asked first) x list →
      IsInRound digest (with_replies asked first) list x second w next →
      IsInRounds digest size root asked v (first ++ second) w next

-- an end without an answer, after these replies, with the path that was tried. The next get failed,
-- or memory was refused during a get or between two. A get that ran out of memory is not recorded
pub data IsUnanswered (At : List Reply → Option Path → Type 0)
    : PullFault → List Reply → List Path → Type 0 where
  GetFailed : {replies : List Reply} {path : Path} → At replies (Some path) →
      IsUnanswered At Source replies (path ∷ [])
  MemoryRefused : {replies : List Reply} {next : Option Path} → At replies next →
      IsUnanswered At OutOfMemory replies []

-- an end in the rounds: without an answer, or at the last reply. The item of that reply is valid
-- and collides with held strings, or taking it ran out of memory
pub data StopsTaking (digest : List ℕ → List ℕ) (At : List Reply → View → Option Path → Type 0)
    : PullFault → List Reply → List Path → View → Type 0 where
  StopsAsking : {fault : PullFault} {replies : List Reply} {tried : List Path} {w : View} →
      IsUnanswered (λ rs next. At rs w next) fault replies tried →
      StopsTaking digest At fault replies tried w
  StopsClashed : {replies : List Reply} {x w : View} (path : Path) (bytes : List ℕ) →
      At replies x (Some path) → Takes digest [] x (item_at path bytes) Clashed w →
      StopsTaking digest At Collision (replies ++ reply path (Some bytes) ∷ []) [] w
  StopsExhausted : {replies : List Reply} {x w : View} (path : Path) (bytes : List ℕ) →
      At replies x (Some path) → Takes digest [] x (item_at path bytes) Exhausted w →
      StopsTaking digest At OutOfMemory (replies ++ reply path (Some bytes) ∷ []) [] w

-- the source may have given these replies, and the requests were the paths of the replies and the
-- paths that were tried
pub record EndsWith (may : Path → Option (List ℕ) → Type 0) (old new : Option (List Path))
    (Are : List Reply → List Path → Type 0) : Type 0 where
  pub replies : List Reply
  pub tried : List Path
  pub are : Are replies tried
  pub may_reply : MayReply may replies
  pub recorded : AddsToRecord old new (asked_paths replies ++ tried)

-- ---- a pull

-- the progress of a pull before its tree head was taken, with the next get, if any: the checkpoint,
-- nothing after it, or a row of its right edge if it opens
pub data IsBeforeHead (origin : List ℕ) (keys : List Key) : List Reply → Option Path → Type 0 where
  AtCheckpoint : IsBeforeHead origin keys [] (Some Checkpoint)
  BehindCheckpoint : (note : List ℕ) →
      IsBeforeHead origin keys (reply Checkpoint (Some note) ∷ []) None
  InEdge : {edge : List Reply} {next : Option Path} (note : List ℕ) (checkpoint : Read) →
      IsOpenCheckpoint note origin keys checkpoint →
      IsInRows (Checkpoint ∷ []) (edge_of checkpoint.size) edge next →
      IsBeforeHead origin keys (reply Checkpoint (Some note) ∷ edge) next

-- the checkpoint was found, opens, and has all rows of its right edge
pub record GivesHead (origin : List ℕ) (keys : List Key) (note : List ℕ) (rows : List (List ℕ))
    (replies : List Reply) : Type 0 where
  pub checkpoint : Read
  pub is_open : IsOpenCheckpoint note origin keys checkpoint
  pub edge : List Reply
  pub given : GivesRows (Checkpoint ∷ []) (edge_of checkpoint.size) edge rows
  pub replies_are : replies ≡ reply Checkpoint (Some note) ∷ edge

-- the progress of a pull after its tree head was taken, with the view and the next get, if any
pub record IsBehindHead (digest : List ℕ → List ℕ) (keys : List Key) (v : View)
    (replies : List Reply) (w : View) (next : Option Path) : Type 0 where
  pub note : List ℕ
  pub rows : List (List ℕ)
  pub first : List Reply
  pub gives : GivesHead v.origin keys note rows first
  pub rest : List Reply
  pub rounds : IsInRounds digest gives.checkpoint.size gives.checkpoint.root (asked_paths first)
      (plus digest v (item.Head note rows)) rest w next
  pub replies_are : replies ≡ first ++ rest

-- an early end of a pull, by its fault: before its tree head, whose rows were requested, at the
-- take of its tree head, or in its rounds
pub data EndsEarly (digest : List ℕ → List ℕ) (keys : List Key) (v w : View)
    : PullFault → List Reply → List Path → Type 0 where
  EndsAsking : {fault : PullFault} {replies : List Reply} {tried : List Path} → w ≡ v →
      IsUnanswered (IsBeforeHead v.origin keys) fault replies tried →
      EndsEarly digest keys v w fault replies tried
  EndsClashed : {replies : List Reply} (note : List ℕ) (rows : List (List ℕ)) →
      GivesHead v.origin keys note rows replies →
      Takes digest keys v (item.Head note rows) Clashed w →
      EndsEarly digest keys v w Collision replies []
  EndsExhausted : {replies : List Reply} (note : List ℕ) (rows : List (List ℕ)) →
      GivesHead v.origin keys note rows replies →
      Takes digest keys v (item.Head note rows) Exhausted w →
      EndsEarly digest keys v w OutOfMemory replies []
  EndsTaking : {fault : PullFault} {replies : List Reply} {tried : List Path} →
      StopsTaking digest (IsBehindHead digest keys v) fault replies tried w →
      EndsEarly digest keys v w fault replies tried

module _ (digest : List ℕ → List ℕ) (keys : List Key) (v w : View)
    (may : Path → Option (List ℕ) → Type 0) (old new : Option (List Path)) where
  -- the source got exactly these requests, and may have given these replies
  pub record Replied (replies : List Reply) : Type 0 where
    pub may_reply : MayReply may replies
    pub recorded : AddsToRecord old new (asked_paths replies)

  -- a successful pull. The checkpoint and the rows of its right edge were found and taken, then
  -- came the given number of rounds. Nothing was left after them, or there were eight. The number
  -- of refused replies is counted, up to the last value of a u64
  pub record IsPulledBy (p : Pulled) : Type 0 where
    pub note : List ℕ
    pub edge : List Reply
    pub rows : List (List ℕ)
    pub replies : List Reply
    pub many : ℕ
    pub is_head : IsOpenHead note v.origin keys p.size p.root
    pub given : GivesRows (Checkpoint ∷ []) (edge_of p.size) edge rows
    pub rounds : ArePullRounds digest p.size p.root (with_replies (Checkpoint ∷ []) edge)
        (plus digest v (item.Head note rows)) replies p.rounds many w
    pub ended : (p.rounds ≡ 8) ⊎
        IsLeftToAsk digest p.size p.root
        (with_replies (with_replies (Checkpoint ∷ []) edge) replies) w []
    pub refused : p.refused ≡ min many (2 ^ 64 - 1)
    pub replied : Replied (reply Checkpoint (Some note) ∷ edge ++ replies)

  -- the right edge was not found: the checkpoint was found and is valid, but some row was not found
  pub record HasNoEdge : Type 0 where
    pub note : List ℕ
    pub checkpoint : Read
    pub is_open : IsOpenCheckpoint note v.origin keys checkpoint
    pub edge : List Reply
    pub not_given : GivesNoRows (Checkpoint ∷ []) (edge_of checkpoint.size) edge
    pub replied : Replied (reply Checkpoint (Some note) ∷ edge)

  -- the note of the tree head was refused, and no path was requested after it
  pub record HasRefusedNote (f : TakeFault) : Type 0 where
    pub note : List ℕ
    pub refused : ReadsHead note v.origin keys (Err f)
    pub replied : Replied (reply Checkpoint (Some note) ∷ [])

  -- the tree head was refused with its edge rows
  pub record HasRefusedRows (f : TakeFault) : Type 0 where
    pub note : List ℕ
    pub checkpoint : Read
    pub is_open : IsOpenCheckpoint note v.origin keys checkpoint
    pub edge : List Reply
    pub rows : List (List ℕ)
    pub given : GivesRows (Checkpoint ∷ []) (edge_of checkpoint.size) edge rows
    pub refused : JudgesHead digest v.origin keys note rows (Err f)
    pub replied : Replied (reply Checkpoint (Some note) ∷ edge)

  -- when a pull may return each answer, by the replies
  abbrev pub FollowsReplies : Result Pulled PullFault → Type 0
  FollowsReplies (Ok p) = IsPulledBy p
  FollowsReplies (Err NoCheckpoint) = Replied (reply Checkpoint None ∷ [])
  FollowsReplies (Err NoEdge) = HasNoEdge
  FollowsReplies (Err (Head f)) = HasRefusedNote f ⊎ HasRefusedRows f
  FollowsReplies (Err Source) = EndsWith may old new (EndsEarly digest keys v w Source)
  FollowsReplies (Err Collision) = EndsWith may old new (EndsEarly digest keys v w Collision)
  FollowsReplies (Err OutOfMemory) = EndsWith may old new (EndsEarly digest keys v w OutOfMemory)

-- ---- parts of a pull

-- a part of a pull requested some paths, its list grew by them, and the replies have the property
pub record Gathers (may : Path → Option (List ℕ) → Type 0) (old new : Option (List Path))
    (before after : List Path) (Are : List Reply → Type 0) : Type 0 where
  pub replies : List Reply
  pub are : Are replies
  pub may_reply : MayReply may replies
  pub list : after ≡ with_replies before replies
  pub recorded : AddsToRecord old new (asked_paths replies)

-- this get is next, and no reply came before it
abbrev pub ComesNext : List Path → Path → List Reply → Option Path → Type 0
ComesNext asked path replies next =
    (¬ Contains asked path) × (replies ≡ []) × (next ≡ Some path)

-- a path was not found, if it was requested, and its next get is next
abbrev pub IsInPath : (List ℕ → List ℕ) → List Path → View → Path → List Reply → View →
    Option Path → Type 0
IsInPath digest asked v path replies w next =
    AsksNext asked (path ∷ []) replies next × TakesReplies digest v replies 0 w

-- the fault of a tree head is the reason why it was refused
abbrev pub RefusesHead : (List ℕ → List ℕ) → List ℕ → List Key → List ℕ → List (List ℕ) →
    PullFault → Type 0
RefusesHead digest origin keys note rows NoCheckpoint = ⊥
RefusesHead digest origin keys note rows NoEdge = ⊥
RefusesHead digest origin keys note rows (Head f) = JudgesHead digest origin keys note rows (Err f)
RefusesHead digest origin keys note rows Source = ⊥
RefusesHead digest origin keys note rows Collision = ⊤
RefusesHead digest origin keys note rows OutOfMemory = ⊤

-- the number of refused replies: 1 if it was refused, and 0 otherwise
abbrev pub one_if : Bool → ℕ
one_if false = 0
one_if true = 1

-- a path was requested, and its file, if found, was taken or refused
pub record IsWorkedPath (digest : List ℕ → List ℕ) (asked : List Path) (v : View) (path : Path)
    (refused : Bool) (w : View) (replies : List Reply) : Type 0 where
  pub asks : AsksPath asked path replies
  pub takes : TakesReplies digest v replies (one_if refused) w

-- the paths of a list were requested, and their files taken or refused; the number of refusals is
-- counted up to the last value of a u64
pub record IsWorkedList (digest : List ℕ → List ℕ) (asked : List Path) (v : View)
    (paths : List Path) (refused : ℕ) (w : View) (replies : List Reply) : Type 0 where
  pub many : ℕ
  pub refused_is : refused ≡ min many (2 ^ 64 - 1)
  pub asks : AsksList asked paths replies
  pub takes : TakesReplies digest v replies many w

-- rounds were worked until nothing was left, or eight of them
pub record AreWorkedRounds (digest : List ℕ → List ℕ) (size : ℕ) (root : List ℕ)
    (asked : List Path) (v : View) (rounds refused : ℕ) (w : View) (replies : List Reply)
    : Type 0 where
  pub many : ℕ
  pub refused_is : refused ≡ min many (2 ^ 64 - 1)
  pub rounds_are : ArePullRounds digest size root asked v replies rounds many w
  pub ended : (rounds ≡ 8) ⊎ IsLeftToAsk digest size root (with_replies asked replies) w []

-- the list has the paths that are left for a tree head that is held
abbrev pub ListsLeft : {E : Type 0} → (List ℕ → List ℕ) → ℕ → List ℕ → List Path → View →
    Result (List Path) E → Type 0
ListsLeft digest size root asked v result =
    IfOk result (λ left. HasHead v size root → IsLeftToAsk digest size root asked v left)

-- ---- answers of parts of a pull, by the replies

module _ (may : Path → Option (List ℕ) → Type 0) (old new : Option (List Path))
    (before after : List Path) where
  -- the reply for a path, or None if it was requested before. For a fault, its get was not answered
  abbrev pub AskFollows : Path → Result (Option (List ℕ)) PullFault → Type 0
  AskFollows path result =
      MatchResult result
      (λ found. Gathers may old new before after (λ replies. Asks before path replies found))
      (λ e. EndsWith may old new (IsUnanswered (ComesNext before path) e))

  -- the row of a path of the right edge follows from the replies. For NoEdge, they give no row; for
  -- another fault, a get for it was not answered
  abbrev pub RowFollows : Path → Result (List ℕ) PullFault → Type 0
  RowFollows path result =
      MatchResult result
      (λ row. Gathers may old new before after (λ replies. GivesRow before path replies row))
      (λ e. (e ≡ NoEdge → Gathers may old new before after
      (λ replies. GivesNoRow before path replies)) ×
      (e ≢ NoEdge → EndsWith may old new (IsUnanswered (AsksNext before (path ∷ [])) e)))

  -- the rows of several paths follow from the replies
  abbrev pub RowsFollow : List Path → Result (List (List ℕ)) PullFault → Type 0
  RowsFollow paths result =
      MatchResult result
      (λ rows. Gathers may old new before after (λ replies. GivesRows before paths replies rows))
      (λ e. (e ≡ NoEdge → Gathers may old new before after
      (λ replies. GivesNoRows before paths replies)) ×
      (e ≢ NoEdge → EndsWith may old new (IsUnanswered (IsInRows before paths) e)))

  -- the reply for a path was taken, or refused if the answer is true. For a fault, the path ended
  -- early in this way
  abbrev pub PathFollows : (List ℕ → List ℕ) → View → Path → View → Result Bool PullFault → Type 0
  PathFollows digest v path w result =
      MatchResult result
      (λ refused. Gathers may old new before after
      (λ replies. IsWorkedPath digest before v path refused w replies))
      (λ e. EndsWith may old new
      (λ replies tried. StopsTaking digest (IsInPath digest before v path) e replies tried w))

  -- the replies for several paths were taken or refused, and the answer is the number of refused
  -- ones
  abbrev pub PathsFollow : (List ℕ → List ℕ) → View → List Path → View → Result ℕ PullFault → Type 0
  PathsFollow digest v paths w result =
      MatchResult result
      (λ refused. Gathers may old new before after
      (λ replies. IsWorkedList digest before v paths refused w replies))
      (λ e. EndsWith may old new
      (λ replies tried. StopsTaking digest (IsInRound digest before paths v) e replies tried w))

  -- the answer has the number of rounds that were worked for a held tree head, and the number of
  -- replies refused in them
  abbrev pub RoundsFollow : (List ℕ → List ℕ) → ℕ → List ℕ → View → View →
      Result (ℕ × ℕ) PullFault → Type 0
  RoundsFollow digest size root v w result =
      HasHead v size root →
      MatchResult result
      (λ r. Gathers may old new before after
      (λ replies. AreWorkedRounds digest size root before v r.0 r.1 w replies))
      (λ e. EndsWith may old new (λ replies tried.
      StopsTaking digest (IsInRounds digest size root before v) e replies tried w))
