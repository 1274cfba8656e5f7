-- The answer of a pull follows from the replies: all parts of a pull together.
use Rattle.std.proofs.Common.{◌≡◌, ℕ, List, [], ◌∷◌, ◌++◌, arith, Option}
use Rattle.std.proofs.Common.{Some, None, Bool, Err, Contains, refl, sym, ◌∙◌, ap, subst, inl, inr}
use Rattle.signed_note.specs.Keys.{Key}
use Rattle.tlog_tiles.specs.declared.paths.Path.{Path}
use Rattle.tlog_tiles.specs.declared.paths.Path.TheVariants.{Checkpoint}
use Rattle.tlog_tiles.specs.Edge.{edge_of}
use Rattle.mirror_model.specs.View.{View}
use Rattle.mirror_model.specs.Heads.{IsOpenHead}
use Rattle.mirror_model.specs.Item.{plus}
use Rattle.mirror_model.specs.declared.items.Item.TheVariants as item
use Rattle.mirror_model.specs.Steps.{Answer, Clashed, Exhausted, Takes}
use Rattle.mirror_model.specs.Refusals.{IsOpenCheckpoint, ReadsHead, JudgesHead}
use Rattle.mirror_model.specs.declared.fault.TakeFault.{TakeFault}
use Rattle.mirror_model.specs.declared.fault.TakeFault.TheVariants as take
use Rattle.mirror_sources.specs.Source.{StaysWithin}
use Rattle.mirror_sources.specs.Replies.{Reply, reply}
use Rattle.mirror_pull.specs.Answering.{of_take}
use Rattle.tlog_checkpoint.specs.declared.Checkpoint.{Checkpoint as Read}
use Rattle.mirror_pull.specs.Taking.{EndsBeforeHead, EndsAfterHead, TakesHead}
use Rattle.mirror_pull.specs.Replying.{Asks, AsksNew, AsksAgain, GivesRows, Gathers, Replied, HasNoEdge}
use Rattle.mirror_pull.specs.Replying.{HasRefusedNote, HasRefusedRows, IsPulledBy, FollowsReplies, RefusesHead, AreWorkedRounds}
use Rattle.mirror_pull.specs.Replying.{ArePullRounds, with_replies, IsInRows, IsInRounds, IsUnanswered, MemoryRefused}
use Rattle.mirror_pull.specs.Replying.{StopsTaking, EndsWith, IsBeforeHead, AtCheckpoint, BehindCheckpoint, InEdge}
use Rattle.mirror_pull.specs.Replying.{GivesHead, EndsEarly, EndsAsking, EndsClashed, EndsExhausted, EndsTaking}
use Rattle.mirror_pull.specs.Replying.{ComesNext}
use Rattle.mirror_pull.specs.declared.pulling.Pulled.{Pulled}
use Rattle.mirror_pull.specs.declared.fault.PullFault.{PullFault}
use Rattle.mirror_pull.specs.declared.fault.PullFault.TheVariants.{NoCheckpoint, NoEdge, Head, Source, Collision}
use Rattle.mirror_pull.specs.declared.fault.PullFault.TheVariants.{OutOfMemory}
use Rattle.mirror_pull.proofs.Askings.{with_then}
use Rattle.mirror_pull.proofs.Replies.{gathers_then}
use Rattle.mirror_pull.proofs.Early.{ends_then, unanswered_then, stops_then}

-- ---- the checkpoint

none_has : (none : List Path) (path : Path) → none ≡ [] → Contains none path → ⊥
none_has none path is has = let h = subst (λ (l : List Path). Contains l path) is has in omega (arith, h.1)

first_is : (none : List Path) (xs : List Reply) (found : Option (List ℕ)) → none ≡ [] → Asks none Checkpoint xs found →
    xs ≡ reply Checkpoint found ∷ []
first_is none xs found is (AsksNew f fresh) = refl
first_is none xs found is (AsksAgain has) = absurd (none_has none Checkpoint is has)

module _ (digest : List ℕ → List ℕ) (keys : List Key) (v w : View) (may : Path → Option (List ℕ) → Type 0)
    (old new : Option (List Path)) where
  pub replied_of : (before after : List Path) (Are : List Reply → Type 0) (g : Gathers may old new before after Are)
      (xs : List Reply) → g.replies ≡ xs → Replied digest keys v w may old new xs
  replied_of before after Are g xs is =
      subst (Replied digest keys v w may old new) is (record { may_reply = g.may_reply; recorded = g.recorded })

  pub replied_first : (none after : List Path) (found other : Option (List ℕ)) → none ≡ [] → found ≡ other →
      Gathers may old new none after (λ xs. Asks none Checkpoint xs found) →
      Replied digest keys v w may old new (reply Checkpoint other ∷ [])
  replied_first none after found other is same g =
      replied_of none after (λ xs. Asks none Checkpoint xs found) g (reply Checkpoint other ∷ [])
      (first_is none g.replies found is g.are ∙ ap (λ (o : Option (List ℕ)). reply Checkpoint o ∷ []) same)

  -- ---- faults

  pub follows_late : (e : PullFault) → EndsAfterHead {T = Bool} (Err e) →
      EndsWith may old new (EndsEarly digest keys v w e) → FollowsReplies digest keys v w may old new (Err e)
  follows_late NoCheckpoint late ends = absurd late
  follows_late NoEdge late ends = absurd late
  follows_late (Head f) late ends = absurd late
  follows_late Source late ends = ends
  follows_late Collision late ends = ends
  follows_late OutOfMemory late ends = ends

  pub follows_edge : (e : PullFault) → EndsBeforeHead {T = Bool} (Err e) →
      (e ≡ NoEdge → HasNoEdge digest keys v w may old new) →
      ((e ≡ NoEdge → ⊥) → EndsWith may old new (EndsEarly digest keys v w e)) →
      FollowsReplies digest keys v w may old new (Err e)
  follows_edge NoCheckpoint early why ends = absurd early
  follows_edge NoEdge early why ends = why refl
  follows_edge (Head f) early why ends = absurd early
  follows_edge Source early why ends = ends (λ e. cc e)
  follows_edge Collision early why ends = absurd early
  follows_edge OutOfMemory early why ends = ends (λ e. cc e)

  bad_note : (note : List ℕ) (f : TakeFault) → ReadsHead note v.origin keys (Err f) →
      Replied digest keys v w may old new (reply Checkpoint (Some note) ∷ []) → HasRefusedNote digest keys v w may old new f
  bad_note note f reads replied = record { note = note; refused = reads; replied = replied }

  memory_note : w ≡ v → (note : List ℕ) → Replied digest keys v w may old new (reply Checkpoint (Some note) ∷ []) →
      EndsWith may old new (EndsEarly digest keys v w OutOfMemory)
  memory_note kept note replied = record {
    replies = reply Checkpoint (Some note) ∷ [];
    tried = [];
    are = EndsAsking kept (MemoryRefused {next = None} (BehindCheckpoint note));
    may_reply = replied.may_reply;
    recorded = replied.recorded;
  }

  follows_note : w ≡ v → (note : List ℕ) (f : TakeFault) → ReadsHead note v.origin keys (Err f) →
      Replied digest keys v w may old new (reply Checkpoint (Some note) ∷ []) →
      FollowsReplies digest keys v w may old new (Err (of_take f))
  follows_note kept note (take.Note f) r p = inl (bad_note note (take.Note f) r p)
  follows_note kept note (take.Checkpoint f) r p = inl (bad_note note (take.Checkpoint f) r p)
  follows_note kept note take.OtherOrigin r p = inl (bad_note note take.OtherOrigin r p)
  follows_note kept note take.NoTrustedSignature r p = inl (bad_note note take.NoTrustedSignature r p)
  follows_note kept note take.EdgeCount r p = absurd r
  follows_note kept note take.EdgeLength r p = absurd r
  follows_note kept note take.EdgeMismatch r p = absurd r
  follows_note kept note take.RowLength r p = absurd r
  follows_note kept note take.BundleShort r p = absurd r
  follows_note kept note take.BundleLong r p = absurd r
  follows_note kept note take.Collision r p = absurd r
  follows_note kept note take.OutOfMemory r p = memory_note kept note p

  pub follows_taken : w ≡ v → (taken note : List ℕ) (f : TakeFault) → taken ≡ note → ReadsHead taken v.origin keys (Err f) →
      Replied digest keys v w may old new (reply Checkpoint (Some note) ∷ []) →
      FollowsReplies digest keys v w may old new (Err (of_take f))
  follows_taken kept taken note f same reads replied =
      follows_note kept note f (subst (λ (n : List ℕ). ReadsHead n v.origin keys (Err f)) same reads) replied

  head_read : (note taken : List ℕ) (rows shown : List (List ℕ)) (answer : Answer) → taken ≡ note → shown ≡ rows →
      Takes digest keys v (item.Head taken shown) answer w → Takes digest keys v (item.Head note rows) answer w
  head_read note taken rows shown answer same are t =
      subst (λ (r : List (List ℕ)). Takes digest keys v (item.Head note r) answer w) are
      (subst (λ (n : List ℕ). Takes digest keys v (item.Head n shown) answer w) same t)

  pub follows_head : (note taken : List ℕ) (rows shown : List (List ℕ)) (e : PullFault) → taken ≡ note →
      shown ≡ rows → RefusesHead digest v.origin keys note rows e →
      TakesHead {T = Bool} digest keys v (item.Head taken shown) (Err e) w →
      ((f : TakeFault) → JudgesHead digest v.origin keys note rows (Err f) →
      HasRefusedRows digest keys v w may old new f) →
      ((Are : List Reply → List Path → Type 0) →
      ((xs : List Reply) → GivesHead v.origin keys note rows xs → Are xs []) → EndsWith may old new Are) →
      FollowsReplies digest keys v w may old new (Err e)
  follows_head note taken rows shown NoCheckpoint same are r t why ends = absurd r
  follows_head note taken rows shown NoEdge same are r t why ends = absurd r
  follows_head note taken rows shown (Head f) same are r t why ends = inr (why f r)
  follows_head note taken rows shown Source same are r t why ends = absurd r
  follows_head note taken rows shown Collision same are r t why ends =
      ends (EndsEarly digest keys v w Collision) (λ xs given. EndsClashed note rows given
      (head_read note taken rows shown Clashed same are t))
  follows_head note taken rows shown OutOfMemory same are r t why ends =
      ends (EndsEarly digest keys v w OutOfMemory) (λ xs given. EndsExhausted note rows given
      (head_read note taken rows shown Exhausted same are t))

-- the fault of taking a tree head is the reason why a pull refuses it
refuses_head : (digest : List ℕ → List ℕ) (origin : List ℕ) (keys : List Key) (note : List ℕ)
    (rows : List (List ℕ)) (f : TakeFault) → JudgesHead digest origin keys note rows (Err f) →
    RefusesHead digest origin keys note rows (of_take f)
refuses_head digest origin keys note rows (take.Note f) j = j
refuses_head digest origin keys note rows (take.Checkpoint f) j = j
refuses_head digest origin keys note rows take.OtherOrigin j = j
refuses_head digest origin keys note rows take.NoTrustedSignature j = j
refuses_head digest origin keys note rows take.EdgeCount j = j
refuses_head digest origin keys note rows take.EdgeLength j = j
refuses_head digest origin keys note rows take.EdgeMismatch j = j
refuses_head digest origin keys note rows take.RowLength j = absurd j
refuses_head digest origin keys note rows take.BundleShort j = absurd j
refuses_head digest origin keys note rows take.BundleLong j = absurd j
refuses_head digest origin keys note rows take.Collision j = tt
refuses_head digest origin keys note rows take.OutOfMemory j = tt

pub refuses_rows : (digest : List ℕ → List ℕ) (origin : List ℕ) (keys : List Key) (note : List ℕ)
    (shown rows : List (List ℕ)) (f : TakeFault) → shown ≡ rows → JudgesHead digest origin keys note shown (Err f) →
    RefusesHead digest origin keys note rows (of_take f)
refuses_rows digest origin keys note shown rows f same j =
    refuses_head digest origin keys note rows f
    (subst (λ (rs : List (List ℕ)). JudgesHead digest origin keys note rs (Err f)) same j)

-- ---- the checkpoint and the right edge

-- replies that begin with that checkpoint, and the replies after it
pub record IsBehind (note : List ℕ) (Are : List Reply → Type 0) (after : List Path) (replies : List Reply)
    : Type 0 where
  pub edge : List Reply
  pub are : Are edge
  pub replies_are : replies ≡ reply Checkpoint (Some note) ∷ edge
  pub list : after ≡ with_replies (Checkpoint ∷ []) edge

module _ (may later : Path → Option (List ℕ) → Type 0) (a b c : Option (List Path)) (none middle after : List Path)
    (note : List ℕ) (found : Option (List ℕ)) where
  pub behind_note : (Are : List Path → List Reply → Type 0) → none ≡ [] → found ≡ Some note → StaysWithin may later →
      Gathers may a b none middle (λ xs. Asks none Checkpoint xs found) →
      Gathers later b c middle after (Are middle) →
      Gathers may a c none after (IsBehind note (Are (Checkpoint ∷ [])) after)
  behind_note Are is same stays p q =
      gathers_then {P = λ xs. Asks none Checkpoint xs found} {Q = Are middle}
      (IsBehind note (Are (Checkpoint ∷ [])) after) stays p q (λ xs ys grown list asks are.
      let first : xs ≡ reply Checkpoint (Some note) ∷ [] =
      first_is none xs found is asks ∙ ap (λ (o : Option (List ℕ)). reply Checkpoint o ∷ []) same in
      let at : with_replies none xs ≡ Checkpoint ∷ [] =
      ap (λ (l : List Path). with_replies l xs) is ∙ ap (λ (rs : List Reply). with_replies [] rs) first in
      record {
        edge = ys;
        are = subst (λ (l : List Path). Are l ys) (grown ∙ at) are;
        replies_are = ap (λ (rs : List Reply). rs ++ ys) first;
        list = list ∙ (with_then none xs ys ∙ ap (λ (l : List Path). with_replies l ys) at);
      })

-- ---- a pull that ends early

pub at_checkpoint : (origin : List ℕ) (keys : List Key) (none : List Path) (rs : List Reply) (next : Option Path) →
    ComesNext none Checkpoint rs next → IsBeforeHead origin keys rs next
at_checkpoint origin keys none rs next c =
    subst (λ (ys : List Reply). IsBeforeHead origin keys ys next) (sym c.1)
    (subst (λ (n : Option Path). IsBeforeHead origin keys [] n) (sym c.2) AtCheckpoint)

module _ (may later : Path → Option (List ℕ) → Type 0) (a b c : Option (List Path)) (none middle : List Path)
    (note : List ℕ) (stays : StaysWithin may later) where
  -- a get for the right edge was not answered
  pub edge_unanswered : (origin : List ℕ) (keys : List Key) (checkpoint : Read) (found : Option (List ℕ))
      (e : PullFault) → IsOpenCheckpoint note origin keys checkpoint → none ≡ [] → found ≡ Some note →
      Gathers may a b none middle (λ xs. Asks none Checkpoint xs found) →
      EndsWith later b c (IsUnanswered (IsInRows middle (edge_of checkpoint.size)) e) →
      EndsWith may a c (IsUnanswered (IsBeforeHead origin keys) e)
  edge_unanswered origin keys checkpoint found e opens is same p q =
      ends_then {P = λ xs. Asks none Checkpoint xs found} (IsUnanswered (IsBeforeHead origin keys) e) stays p q
      (λ xs ys tried grown asks u.
      let first : xs ≡ reply Checkpoint (Some note) ∷ [] =
      first_is none xs found is asks ∙ ap (λ (o : Option (List ℕ)). reply Checkpoint o ∷ []) same in
      let at : middle ≡ Checkpoint ∷ [] =
      grown ∙ (ap (λ (l : List Path). with_replies l xs) is ∙ ap (λ (rs : List Reply). with_replies [] rs) first) in
      unanswered_then xs (λ rs next r.
      subst (λ (zs : List Reply). IsBeforeHead origin keys (zs ++ rs) next) (sym first)
      (InEdge note checkpoint opens
      (subst (λ (l : List Path). IsInRows l (edge_of checkpoint.size) rs next) at r))) u)

  -- the rounds ended early
  pub rounds_stop : (digest : List ℕ → List ℕ) (keys : List Key) (v x w : View) (checkpoint : Read)
      (rows : List (List ℕ)) (e : PullFault) → x ≡ plus digest v (item.Head note rows) →
      IsOpenCheckpoint note v.origin keys checkpoint →
      Gathers may a b none middle
      (IsBehind note (λ xs. GivesRows (Checkpoint ∷ []) (edge_of checkpoint.size) xs rows) middle) →
      EndsWith later b c
      (λ xs tried. StopsTaking digest (IsInRounds digest checkpoint.size checkpoint.root middle x) e xs tried w) →
      EndsWith may a c (EndsEarly digest keys v w e)
  rounds_stop digest keys v x w checkpoint rows e begun opened p q =
      ends_then
      {P = IsBehind note (λ xs. GivesRows (Checkpoint ∷ []) (edge_of checkpoint.size) xs rows) middle}
      (EndsEarly digest keys v w e) stays p q (λ xs ys tried grown behind stops.
      EndsTaking (stops_then xs (λ rs y next r. record {
        note = note;
        rows = rows;
        first = reply Checkpoint (Some note) ∷ behind.edge;
        gives = record {
          checkpoint = checkpoint;
          is_open = opened;
          edge = behind.edge;
          given = behind.are;
          replies_are = refl;
        };
        rest = rs;
        rounds = subst
            (λ (l : List Path). IsInRounds digest checkpoint.size checkpoint.root l
            (plus digest v (item.Head note rows)) rs y next)
            behind.list
            (subst (λ (z : View). IsInRounds digest checkpoint.size checkpoint.root middle z rs y next) begun r);
        replies_are = ap (λ (l : List Reply). l ++ rs) behind.replies_are;
      }) stops))

-- ---- a successful pull

pub head_taken :
    (digest : List ℕ → List ℕ) (v x : View) (note taken : List ℕ) (rows shown : List (List ℕ)) → taken ≡ note →
    shown ≡ rows → x ≡ plus digest v (item.Head taken shown) → x ≡ plus digest v (item.Head note rows)
head_taken digest v x note taken rows shown same are is =
    is ∙ ((λ i. plus digest v (item.Head (same i) shown)) ∙ (λ i. plus digest v (item.Head note (are i))))

-- replies for the rounds, after those for the checkpoint and the right edge
pub record IsAll (note : List ℕ) (AreEdge : List Reply → Type 0) (Are : List Path → List Reply → Type 0)
    (replies : List Reply) : Type 0 where
  pub edge : List Reply
  pub rest : List Reply
  pub are_edge : AreEdge edge
  pub are : Are (with_replies (Checkpoint ∷ []) edge) rest
  pub replies_are : replies ≡ reply Checkpoint (Some note) ∷ edge ++ rest

module _ (may later : Path → Option (List ℕ) → Type 0) (a b c : Option (List Path)) (none middle after : List Path)
    (note : List ℕ) where
  pub all_replies : (AreEdge : List Reply → Type 0) (Are : List Path → List Reply → Type 0) → StaysWithin may later →
      Gathers may a b none middle (IsBehind note AreEdge middle) → Gathers later b c middle after (Are middle) →
      Gathers may a c none after (IsAll note AreEdge Are)
  all_replies AreEdge Are stays p q =
      gathers_then {P = IsBehind note AreEdge middle} {Q = Are middle} (IsAll note AreEdge Are) stays p q (λ xs ys grown list behind are. record {
        edge = behind.edge;
        rest = ys;
        are_edge = behind.are;
        are = subst (λ (l : List Path). Are l ys) behind.list are;
        replies_are = ap (λ (rs : List Reply). rs ++ ys) behind.replies_are;
      })

pub pulled_by :
    (digest : List ℕ → List ℕ) (keys : List Key) (v x w : View) (may : Path → Option (List ℕ) → Type 0)
    (old new : Option (List Path)) (none after : List Path) (note taken : List ℕ) (rows shown : List (List ℕ))
    (p : Pulled) → taken ≡ note → shown ≡ rows → x ≡ plus digest v (item.Head taken shown) →
    IsOpenHead note v.origin keys p.size p.root →
    Gathers may old new none after
    (IsAll note (λ edge. GivesRows (Checkpoint ∷ []) (edge_of p.size) edge rows)
    (λ asked rest. AreWorkedRounds digest p.size p.root asked x p.rounds p.refused w rest)) →
    IsPulledBy digest keys v w may old new p
pulled_by digest keys v x w may old new none after note taken rows shown p same are is opened g =
    let begun = head_taken digest v x note taken rows shown same are is in
    let all = g.are in
    record {
      note = note;
      edge = all.edge;
      rows = rows;
      replies = all.rest;
      many = all.are.many;
      is_head = opened;
      given = all.are_edge;
      rounds = subst
          (λ (y : View). ArePullRounds digest p.size p.root (with_replies (Checkpoint ∷ []) all.edge) y all.rest
          p.rounds all.are.many w) begun all.are.rounds_are;
      ended = all.are.ended;
      refused = all.are.refused_is;
      replied = replied_of digest keys v w may old new none after _ g
          (reply Checkpoint (Some note) ∷ all.edge ++ all.rest) all.replies_are;
    }
