-- One honest place suffices to bring a copy, from the beginning of the call.
use Rattle.std.proofs.Common.{◌≡◌, ◌≢◌, inl, inr, ℕ, ◌^◌, ◌<◌, ◌≤◌, List, [], length, take, get_or, Option, Some, None, refl, sym, ap, subst, arith, length-append, length-take}
use Rattle.tlog_tiles.specs.declared.paths.Path.{Path}
use Rattle.tlog_tiles.specs.declared.paths.Path.TheVariants.{Checkpoint, Entries, Tile}
use Rattle.tlog_tiles.specs.Tiles.{IsWithin}
use Rattle.mirror_sources.specs.Honest.{IsTrueAnswer}
use Rattle.mirror_sources.specs.Recorded.{KeepsRecord}
use Rattle.mirror_folders.specs.Shelf.{HasPut, Put, RecordsRead}
use Rattle.mirror_model.specs.Heads.{IsHead}
use Rattle.mirror_model.specs.Strings.{IsDigest}
use Rattle.mirror_model.proofs.HeadNotes.{head_once}
use Rattle.log_reader.specs.EdgeRows.{Edge, LeadsTo}
use Rattle.copy_follow.specs.AskedForCopy.{IsInUse}
use Rattle.copy_follow.specs.Compared.{BlamesTip}
use Rattle.copy_follow.specs.Conflicts.{IsNoConflict}
use Rattle.copy_follow.specs.Damaged.{IsDamaged}
use Rattle.copy_follow.specs.Faults.{BlamesFrom, BlamesPlaces, IsOfNoPlace, IsOtherFound}
use Rattle.copy_follow.specs.Found.{IsTipRead}
use Rattle.copy_follow.specs.Growing.{Tip}
use Rattle.copy_follow.specs.OneHonest.{HoldsCopy, HoldsFirst, HoldsNone, HoldsPruned, IsHonestFor, IsHonestNote, IsShelfOrMemory}
use Rattle.copy_follow.specs.Suffices.{IsEdgeTrue, IsSpared, IsTipOf}
use Rattle.copy_follow.specs.Taken.{EdgesAreClear, FilesAreClear, MayTake}
use Rattle.copy_places.specs.Giving.{IsEdgeFrom, MayGive}
use Rattle.copy_follow.specs.declared.bring_fault.BringFault.{BringFault}
use Rattle.copy_follow.specs.declared.bring_fault.BringFault.TheVariants.{BadCheckpoint, CopyDamaged, NotLarger}
use Rattle.copy_follow.specs.declared.bring_fault.BringFault.TheVariants.{Contradiction, Collision, NoFile, Source, CopyInUse}
use Rattle.copy_follow.specs.declared.bring_fault.BringFault.TheVariants.{ShelfFault, OutOfMemory}
use Rattle.copy_places.specs.declared.place.Place.{Place}
use Rattle.copy_places.specs.declared.places.Places.{Places}
use Rattle.copy_follow.proofs.Compared.{none_other}
use Rattle.copy_follow.proofs.OnePlace.{put_before}
use Rattle.copy_follow.proofs.Others.{in_use_later}
use Rattle.copy_places.proofs.Giving.{part_weaker}
use Rattle.copy_follow.proofs.TrueEdges.{edge_is_true}
use Rattle.copy_places.proofs.Giving.{edge_weaker}
use Rattle.copy_follow.proofs.WholeMoments.{none_found}

-- ---- remaining faults

only_shelf : {S : Type 0} (places : Places S) (e : BringFault) → BlamesPlaces places e → IsSpared e → IsShelfOrMemory e
only_shelf places BadCheckpoint h s = absurd h
only_shelf places CopyDamaged h s = absurd h
only_shelf places NotLarger h s = absurd h
only_shelf places Contradiction h s = absurd s
only_shelf places Collision h s = absurd s
only_shelf places NoFile h s = absurd s
only_shelf places Source h s = absurd s
only_shelf places CopyInUse h s = absurd h
only_shelf places ShelfFault h s = inl refl
only_shelf places OutOfMemory h s = inr refl

only_read : (e : BringFault) → IsOfNoPlace e → IsNoConflict e → IsShelfOrMemory e
only_read BadCheckpoint h n = absurd h
only_read CopyDamaged h n = absurd h
only_read NotLarger h n = absurd h
only_read Contradiction h n = absurd n
only_read Collision h n = absurd n
only_read NoFile h n = absurd h
only_read Source h n = absurd h
only_read CopyInUse h n = absurd h
only_read ShelfFault h n = inl refl
only_read OutOfMemory h n = inr refl

-- ---- the content of the shelf

module _ (digest : List ℕ → List ℕ) (origin : List ℕ) (log : List (List ℕ)) (puts : Option (List Put)) where
  not_damaged : HoldsFirst digest origin log puts → IsDamaged digest origin puts → ⊥
  not_damaged (HoldsCopy held is note entries more copy log_is some) d = d.no_copy held is note entries copy
  not_damaged (HoldsPruned held is note entries more copy log_is some) d = d.no_pruned held is note entries copy
  not_damaged (HoldsNone held is none) d = d.not_none held is none

  not_used : HoldsFirst digest origin log puts → IsInUse digest origin puts → ⊥
  not_used (HoldsCopy held is note entries more copy log_is some) d = d.no_copy held is note entries copy
  not_used (HoldsPruned held is note entries more copy log_is some) d = d.no_pruned held is note entries copy
  not_used (HoldsNone held is none) d = d.not_none held is none

  not_other : (found : Option (List ℕ)) → HoldsFirst digest origin log puts → RecordsRead puts Checkpoint found →
      IsOtherFound found puts → ⊥
  not_other found (HoldsCopy held is note entries more copy log_is some) read o = none_other held puts found is read o
  not_other found (HoldsPruned held is note entries more copy log_is some) read o = none_other held puts found is read o
  not_other found (HoldsNone held is none) read o = none_other held puts found is read o

  pub read_fails : (found : Option (List ℕ)) (e : BringFault) → RecordsRead puts Checkpoint found →
      HoldsFirst digest origin log puts → BlamesTip digest origin found puts e → IsNoConflict e → IsShelfOrMemory e
  read_fails found e read h (inl o) n = absurd (not_other found h read o.1)
  read_fails found e read h (inr (inl d)) n = absurd (not_damaged h d.1)
  read_fails found e read h (inr (inr o)) n = only_read e o n

  module _ (tip : Tip) (t : IsTipRead digest origin puts tip) where
    none_there : (held : List Put) → puts ≡ Some held → (HasPut held Checkpoint → ⊥) → tip.checkpoint ≡ None
    none_there held is none =
        none_found held tip.checkpoint (subst (λ o. RecordsRead o Checkpoint tip.checkpoint) is t.checkpoint) none

    pub tip_first : HoldsFirst digest origin log puts → IsTipOf digest tip log
    tip_first (HoldsCopy held is note entries more copy log_is some) = record {
      known = entries;
      rest = more;
      log_is = log_is;
      known_is = t.copy held is note entries copy;
    }
    tip_first (HoldsPruned held is note entries more copy log_is some) = record {
      known = entries;
      rest = more;
      log_is = log_is;
      known_is = t.pruned held is note entries copy;
    }
    tip_first (HoldsNone held is none) = record {
      known = [];
      rest = log;
      log_is = refl;
      known_is = t.known (none_there held is none);
    }

    is_larger : (n : ℕ) → n ≡ length log → HoldsFirst digest origin log puts → n ≤ tip.size → (n ≡ 0 → tip.checkpoint ≢ None) → ⊥
    is_larger n long (HoldsCopy held is note entries more copy log_is some) upto other =
        let size = (t.copy held is note entries copy).size_is in
        omega (arith, size, upto, long, some, ap length log_is, length-append entries more)
    is_larger n long (HoldsPruned held is note entries more copy log_is some) upto other =
        let size = (t.pruned held is note entries copy).size_is in
        omega (arith, size, upto, long, some, ap length log_is, length-append entries more)
    is_larger n long (HoldsNone held is none) upto other =
        let gone = none_there held is none in
        other (omega (arith, upto, t.empty gone)) gone

    pub bring_fails : {S : Type 0} (places : Places S) (n : ℕ) (y : Option (List Put)) (e : BringFault) → n ≡ length log →
        HoldsFirst digest origin log puts → KeepsRecord puts y → BlamesFrom digest places n tip y e → IsSpared e →
        IsShelfOrMemory e
    bring_fails places n y e long h kept (inl b) s = absurd (is_larger n long h b.1 b.2)
    bring_fails places n y e long h kept (inr (inl b)) s =
        absurd (not_used h (in_use_later digest origin places tip n puts y e kept t (inr (inl b)) b.0))
    bring_fails places n y e long h kept (inr (inr b)) s = only_shelf places e b s

-- ---- the beginning

module _ (take also : Path → List ℕ → Type 0) (f : (path : Path) (bytes : List ℕ) → also path bytes → take path bytes)
    (digest : List ℕ → List ℕ) (log : List (List ℕ)) where
  files_clear : FilesAreClear digest log take → FilesAreClear digest log also
  files_clear c = record {
    tile = λ level index some bytes row taken is. c.tile level index some bytes row (f (Tile level index 256) bytes taken) is;
    bundle = λ index width bytes es taken is.
        c.bundle index width bytes es (part_weaker also take f (Entries index width) bytes taken) is;
  }

  pub edges_clear : EdgesAreClear digest log take → EdgesAreClear digest log also
  edges_clear c = λ edge from. c edge (edge_weaker also take f (length log) edge from)

module _ {S : Type 0} (may : S → Path → Option (List ℕ) → Type 0) (x y z : Places S) (same : y.list.items ≡ x.list.items)
    (a b : Option (List Put)) (kept : KeepsRecord a b) where
  given_begun : (path : Path) (bytes : List ℕ) → MayGive may y path bytes → MayGive may x path bytes
  given_begun path bytes g = record {
    index = g.index;
    listed = subst (λ (l : List (Place S)). g.index < length l) same g.listed;
    may_be = λ d. subst (λ (l : List (Place S)). may (get_or l g.index d).source path (Some bytes)) same (g.may_be d);
  }

  taken_begun : (path : Path) (bytes : List ℕ) → MayTake may y b path bytes → MayTake may x a path bytes
  taken_begun path bytes (inl put) = inl (put_before a b kept path bytes put)
  taken_begun path bytes (inr given) = inr (given_begun path bytes given)

  -- the honest place after the call began
  pub honest_begun : (digest : List ℕ → List ℕ) (entries : List (List ℕ)) (size : ℕ) (root : List ℕ) →
      IsHonestFor digest may a x z entries size root → IsHonestFor digest may b y z entries size root
  honest_begun digest entries size root h =
      let t = h.one.place in
      let p = t.place in
      record {
        one = record {
          short = h.one.short;
          upto = h.one.upto;
          place = record {
            index = t.index;
            place = record {
              none = p.none;
              listed = subst (λ (l : List (Place S)). t.index < length l) (sym same) p.listed;
              gives = subst (λ (l : List (Place S)). (path : Path) → IsWithin (length entries) path → (answer : Option (List ℕ)) →
                  may (get_or l t.index p.none).source path answer → IsTrueAnswer digest entries path answer) (sym same) p.gives;
              asked = subst (λ (l : List (Place S)). (get_or l t.index p.none).failures < 8) (sym same) p.asked;
              answers = subst (λ (l : List (Place S)). (get_or z.list.items t.index p.none).failures
                  ≡ (get_or l t.index p.none).failures) (sym same) p.answers;
            };
          };
          clear = files_clear (MayTake may x a) (MayTake may y b) taken_begun digest (take size entries) h.one.clear;
        };
        root_is = h.root_is;
        edges = edges_clear (MayTake may x a) (MayTake may y b) taken_begun digest (take size entries) h.edges;
      }

-- ---- the edge that was found

pub edge_had : (digest : List ℕ → List ℕ) → IsDigest digest → {S : Type 0} (may : S → Path → Option (List ℕ) → Type 0)
    (puts : Option (List Put)) (x z : Places S) (entries : List (List ℕ)) (n : ℕ) (root : List ℕ) → n < 2 ^ 64 →
    IsHonestFor digest may puts x z entries n root → (edge : Edge) → LeadsTo digest n root edge →
    IsEdgeFrom (MayTake may x puts) n edge → IsEdgeTrue digest (take n entries) edge
edge_had digest hash may puts x z entries n root small h edge leads from =
    let upto = h.one.upto in
    edge_is_true digest hash (take n entries) (MayTake may x puts) h.edges n small
    (omega (arith, length-take n entries, upto)) root h.root_is edge leads from

-- ---- the end

pub ended_for : (digest : List ℕ → List ℕ) {S : Type 0} (may : S → Path → Option (List ℕ) → Type 0) (origin note : List ℕ)
    (a b : Option (List Put)) (x y z : Places S) → y.list.items ≡ x.list.items → KeepsRecord a b → (tip : Tip) →
    IsTipRead digest origin a tip → (n : ℕ) (root : List ℕ) → IsHead note origin n root → (e : BringFault) →
    BlamesFrom digest z n tip b e →
    ((entries : List (List ℕ)) → IsHonestFor digest may b y z entries n root → IsTipOf digest tip (take n entries) →
    IsSpared e) → IsHonestNote digest may a x z origin note → IsShelfOrMemory e
ended_for digest {S} may origin note a b x y z same kept tip t n root head e blames honest h =
    let entries = h.entries in
    let one = head_once note origin origin h.size n h.root root h.is_head head in
    let there : IsHonestFor digest may a x z entries n root =
    subst (λ (r : List ℕ). IsHonestFor digest may a x z entries n r) one.root_is
    (subst (λ (k : ℕ). IsHonestFor digest may a x z entries k h.root) one.size_is h.honest) in
    let holds : HoldsFirst digest origin (take n entries) a =
    subst (λ (k : ℕ). HoldsFirst digest origin (take k entries) a) one.size_is h.holds in
    let upto = there.one.upto in
    bring_fails digest origin (take n entries) a tip t z n b e (omega (arith, length-take n entries, upto)) holds kept blames
    (honest entries (honest_begun may x y z same a b kept digest entries n root there)
    (tip_first digest origin (take n entries) a tip t holds))
