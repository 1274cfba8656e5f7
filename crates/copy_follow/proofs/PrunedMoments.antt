-- The effect of a call on a copy whose partial files may be replaced: as if these files had been put first.
use Rattle.std.proofs.Common.{◌≡◌, ◌⊎◌, ℕ, ◌^◌, ◌<◌, ◌≤◌, List, [], ◌∷◌, ◌++◌, length, Option, Some, None, Result, Ok, Err}
use Rattle.std.proofs.Common.{refl, sym, ap, subst, ◌∙◌, append_assoc, inl, inr, arith}
use Rattle.std.proofs.lemmas.List.{append-nil}
use Rattle.std.proofs.lemmas.List.Elements.{All-append}
use Rattle.tlog_tiles.specs.declared.paths.Path.{Path}
use Rattle.tlog_tiles.specs.declared.paths.Path.TheVariants.{Checkpoint}
use Rattle.mirror_model.specs.Heads.{IsHead}
use Rattle.mirror_model.specs.Strings.{IsDigest}
use Rattle.mirror_model.specs.TrueLaws.{AreShort}
use Rattle.mirror_sources.specs.Honest.{true_bytes}
use Rattle.mirror_sources.specs.Recorded.{AddsToRecord, KeepsRecord}
use Rattle.mirror_folders.specs.Shelf.{Put}
use Rattle.mirror_folders.specs.Holding.{IsMoment}
use Rattle.mirror_folders.specs.Files.{paths_of}
use Rattle.log_reader.specs.EdgeRows.{Edge, hash_of_edge}
use Rattle.copy_follow.specs.Copies.{IsCopy}
use Rattle.copy_follow.specs.Edges.{BringsToEdge, IsCopyBrought, PutsNote}
use Rattle.copy_follow.specs.Found.{IsTipRead}
use Rattle.copy_follow.specs.Growing.{IsCutShort, IsKnown, Obtains, Tip}
use Rattle.copy_follow.specs.Moments.{InTheEnd, IsGrownCopy}
use Rattle.copy_follow.specs.Pruned.{HadPruned, HasGivenWay, IsGrownPruned, IsPrunedCopy, KeepsPruned, LeavesPruned}
use Rattle.copy_follow.specs.Standing.{RecordsStands}
use Rattle.log_reader.specs.Holding.{IsTreeFile}
use Rattle.copy_follow.proofs.CopyMoments.{copy_files, new_files_keep_copies, put_new}
use Rattle.copy_follow.proofs.Growth.{adds_then, left_none}
use Rattle.copy_places.proofs.Prefixes.{bytes_front}
use Rattle.copy_follow.proofs.PrunedFiles.{IsFilled, all_filled, copy_back, filled_copy, given_later, kept_back, stands_behind}
use Rattle.copy_follow.proofs.WholeMoments.{at_kept, beyond_brought, beyond_cut, beyond_same, empty_brought, empty_edge, empty_edge_hash, grown_copy, grown_end, so_far_put}

-- ---- a call, as if other files had been put before it

module _ (gone : List Put) where
  abbrev behind : Option (List Put) → Option (List Put)
  behind None = None
  behind (Some puts) = Some (gone ++ puts)

  adds_behind : (x y : Option (List Put)) (puts : List Put) → AddsToRecord x y puts → AddsToRecord (behind x) (behind y) puts
  adds_behind None y puts h = tt
  adds_behind (Some xs) None puts h = absurd h
  adds_behind (Some xs) (Some ys) puts h = ap (λ (l : List Put). gone ++ l) h ∙ sym (append_assoc gone xs puts)

  records_behind : (x y : Option (List Put)) (path : Path) (bytes : List ℕ) → RecordsStands x y path bytes →
      RecordsStands (behind x) (behind y) path bytes
  records_behind None y path bytes h = tt
  records_behind (Some xs) None path bytes h = absurd h
  records_behind (Some xs) (Some ys) path bytes h = stands_behind gone ys path bytes h

  obtains_behind : (digest : List ℕ → List ℕ) (m : ℕ) (known next : List (List ℕ)) (x y : Option (List Put)) →
      Obtains digest m known next x y → Obtains digest m known next (behind x) (behind y)
  obtains_behind digest m known next x y g = record {
    more = g.more;
    next_is = g.next_is;
    short = g.short;
    puts = g.puts;
    recorded = adds_behind x y g.puts g.recorded;
    are_new = g.are_new;
  }

  brought_behind : (digest : List ℕ → List ℕ) (tip : Tip) (edge : Edge) (note : List ℕ) (known : List (List ℕ))
      (x y : Option (List Put)) → IsCopyBrought digest tip edge note known x y →
      IsCopyBrought digest tip edge note known (behind x) (behind y)
  brought_behind digest tip edge note known x y b = record {
    next = b.next;
    before = behind b.before;
    gathers = obtains_behind digest tip.size known b.next x b.before b.gathers;
    last = adds_behind b.before y ((Checkpoint, note) ∷ []) b.last;
    size_is = b.size_is;
    rows_are = b.rows_are;
    holds = λ path other file new. records_behind x b.before path (true_bytes digest b.next path) (b.holds path other file new);
  }

  abbrev moment_behind : (old new now : List Put) → IsMoment old new now → IsMoment (gone ++ old) (gone ++ new) (gone ++ now)
  moment_behind old new now at = record {
    so_far = at.so_far;
    later = at.later;
    now_is = ap (λ (l : List Put). gone ++ l) at.now_is ∙ sym (append_assoc gone old at.so_far);
    new_is = ap (λ (l : List Put). gone ++ l) at.new_is ∙ sym (append_assoc gone now at.later);
  }

-- the end is a moment
moment_end : (held new puts : List Put) → AddsToRecord (Some held) (Some new) puts → IsMoment held new new
moment_end held new puts recorded =
    record { so_far = puts; later = []; now_is = recorded; new_is = sym (append-nil new) }

next_short : (digest : List ℕ → List ℕ) (m : ℕ) (known next : List (List ℕ)) (x y : Option (List Put)) → AreShort known →
    Obtains digest m known next x y → AreShort next
next_short digest m known next x y short g =
    subst (λ (l : List (List ℕ)). AreShort l) (sym g.next_is)
    (All-append (λ (e : List ℕ). length e < 2 ^ 16) known g.more short g.short)

-- ---- the copy at each moment

module _ (digest : List ℕ → List ℕ) (hash : IsDigest digest) (origin note old_note : List ℕ) (entries : List (List ℕ))
    (held : List Put) (copy : IsPrunedCopy digest origin old_note entries held) (tip : Tip)
    (is : IsKnown digest tip 0 entries) where
  abbrev f : IsFilled digest entries held (paths_of (length entries))
  f = all_filled digest entries held copy.files

  abbrev gone : List Put
  gone = f.gone

  whole : IsCopy digest origin old_note entries (gone ++ held)
  whole = filled_copy digest origin old_note entries held copy f

  long : length entries ≡ tip.size
  long = let size = is.size_is in omega arith

  abbrev Later : List Put → Type 0
  Later now =
      (path : Path) → IsTreeFile (length entries) path → HasGivenWay digest entries held path → HasGivenWay digest entries now path

  still_back : (now : List Put) → Later now → IsCopy digest origin old_note entries (gone ++ now) →
      IsPrunedCopy digest origin old_note entries now
  still_back now later c =
      copy_back digest origin entries held gone f.are now later entries (λ path within. refl) old_note c

  grown_back : (now : List Put) → Later now → IsGrownCopy digest origin note entries (gone ++ now) →
      IsGrownPruned digest origin note entries now
  grown_back now later g = record {
    more = g.more;
    copy = copy_back digest origin entries held gone f.are now later (entries ++ g.more)
        (λ path within. bytes_front digest entries g.more path within) note g.copy;
    kept = kept_back digest origin entries held gone f.are now later g.kept;
  }

  -- a call that put only new files
  module _ (new : List Put) (cut : IsCutShort digest tip.size entries (Some held) (Some new)) where
    g : Obtains digest (length entries) entries cut.next (Some (gone ++ held)) (Some (gone ++ new))
    g = subst (λ k. Obtains digest k entries cut.next (Some (gone ++ held)) (Some (gone ++ new))) (sym long)
        (obtains_behind gone digest tip.size entries cut.next (Some held) (Some new) cut.gathers)

    module _ (now : List Put) (at : IsMoment held new now) where
      abbrev cut_at : IsMoment (gone ++ held) (gone ++ new) (gone ++ now)
      cut_at = moment_behind gone held new now at

      cut_later : Later now
      cut_later = given_later digest hash (length entries) entries cut.gathers.more cut.next refl cut.gathers.next_is
          (next_short digest tip.size entries cut.next (Some held) (Some new) copy.short cut.gathers) held at.so_far now at.now_is
          (λ put has. inl (put_new digest origin old_note entries cut.next (gone ++ held) (gone ++ new) (gone ++ now) whole g cut_at put has))

      pub pruned_cut : IsPrunedCopy digest origin old_note entries now
      pruned_cut = still_back now cut_later
          (new_files_keep_copies digest origin old_note entries cut.next (gone ++ held) (gone ++ new) (gone ++ now) whole g cut_at)

    pub pruned_left : IsPrunedCopy digest origin old_note entries new
    pruned_left = pruned_cut new (moment_end held new cut.gathers.puts cut.gathers.recorded)

  -- a complete call
  module _ (edge : Edge) (root : List ℕ) (upto : tip.size ≤ edge.size) (head : IsHead note origin edge.size root)
      (leads : hash_of_edge digest edge ≡ root) (new : List Put)
      (b : IsCopyBrought digest tip edge note entries (Some held) (Some new)) where
    b' : IsCopyBrought digest tip edge note entries (Some (gone ++ held)) (Some (gone ++ new))
    b' = brought_behind gone digest tip edge note entries (Some held) (Some new) b

    module _ (now : List Put) (at : IsMoment held new now) where
      abbrev brought_at : IsMoment (gone ++ held) (gone ++ new) (gone ++ now)
      brought_at = moment_behind gone held new now at

      brought_later : Later now
      brought_later = given_later digest hash tip.size entries b'.gathers.more b'.next long b'.gathers.next_is
          (next_short digest tip.size entries b'.next (Some (gone ++ held)) b'.before copy.short b'.gathers) held at.so_far now
          at.now_is
          (so_far_put digest origin note tip edge (gone ++ held) (gone ++ new) root upto head leads entries is b' (gone ++ now) brought_at)

      pub pruned_moment : IsPrunedCopy digest origin old_note entries now ⊎ IsGrownPruned digest origin note entries now
      pruned_moment =
          let either = grown_copy digest origin note tip edge (gone ++ held) (gone ++ new) root upto head leads entries is b'
          (gone ++ now) brought_at old_note whole in
          elim either [
            | inl still ↦ inl (still_back now brought_later still)
            | inr grown ↦ inr (grown_back now brought_later grown)
          ]

    pub pruned_end : IsGrownPruned digest origin note entries new
    pruned_end =
        let all = b.gathers.puts ++ (Checkpoint, note) ∷ [] in
        let recorded = adds_then (Some held) b.before (Some new) b.gathers.puts ((Checkpoint, note) ∷ []) b.gathers.recorded b.last in
        grown_back new (brought_later new (moment_end held new all recorded))
        (grown_end digest origin note tip edge (gone ++ held) (gone ++ new) root upto head leads entries is b'
        (copy_files digest origin old_note entries (gone ++ held) whole))

-- ---- the result of a call

module _ (digest : List ℕ → List ℕ) (hash : IsDigest digest) (origin note : List ℕ) (tip : Tip) {T E : Type 0} where
  -- a call that put only new files
  pub leaves_cut : (x w : Option (List Put)) → IsTipRead digest origin x tip →
      ((known : List (List ℕ)) → IsKnown digest tip 0 known → IsCutShort digest tip.size known x w) → (e : E) →
      LeavesPruned digest origin {T = T} note x w (Err e)
  leaves_cut x w t cut e held is old_note entries copy =
      let k = t.pruned held is old_note entries copy in
      by w (subst (λ o. IsCutShort digest tip.size entries o w) is (cut entries k))
    where
      by : (w : Option (List Put)) → IsCutShort digest tip.size entries (Some held) w →
          KeepsPruned digest origin note old_note entries held w {T = T} (Err e)
      by None c = absurd c.gathers.recorded
      by (Some new) c =
          let k = t.pruned held is old_note entries copy in
          record {
            moments = λ now at. inl (pruned_cut digest hash origin note old_note entries held copy tip k new c now at);
            beyond = beyond_cut digest note tip held (Some held) (Some new) refl entries k c;
            brought = tt;
            stays = pruned_left digest hash origin note old_note entries held copy tip k new c;
          }

  -- a call that brought a copy
  pub leaves_brought : (edge : Edge) (root : List ℕ) → tip.size ≤ edge.size → IsHead note origin edge.size root →
      hash_of_edge digest edge ≡ root → (x w : Option (List Put)) → IsTipRead digest origin x tip →
      ((known : List (List ℕ)) → IsKnown digest tip 0 known → IsCopyBrought digest tip edge note known x w) → (a : T) →
      LeavesPruned digest origin {E = E} note x w (Ok a)
  leaves_brought edge root upto head leads x w t brought a held is old_note entries copy =
      let k = t.pruned held is old_note entries copy in
      by w (subst (λ o. IsCopyBrought digest tip edge note entries o w) is (brought entries k))
    where
      no_end : (before : Option (List Put)) (puts : List Put) → AddsToRecord (Some held) before puts →
          AddsToRecord before None ((Checkpoint, note) ∷ []) → ⊥
      no_end None puts p q = p
      no_end (Some ys) puts p q = q

      by : (w : Option (List Put)) → IsCopyBrought digest tip edge note entries (Some held) w →
          KeepsPruned digest origin note old_note entries held w {E = E} (Ok a)
      by None b = absurd (no_end b.before b.gathers.puts b.gathers.recorded b.last)
      by (Some new) b =
          let k = t.pruned held is old_note entries copy in
          record {
            moments = pruned_moment digest hash origin note old_note entries held copy tip k edge root upto head leads new b;
            beyond = beyond_brought digest note tip held (Some held) (Some new) refl entries k edge b;
            brought = pruned_end digest hash origin note old_note entries held copy tip k edge root upto head leads new b;
            stays = tt;
          }

-- a call that put nothing
pub leaves_same : (digest : List ℕ → List ℕ) (origin note : List ℕ) {T E : Type 0} (x w : Option (List Put)) → KeepsRecord x w →
    (e : E) → LeavesPruned digest origin {T = T} note x w (Err e)
leaves_same digest origin note x w k e held is old_note entries copy = record {
  moments = at_kept x w held is k
      (λ now. IsPrunedCopy digest origin old_note entries now ⊎ IsGrownPruned digest origin note entries now) (inl copy);
  beyond = beyond_same (length entries) held x w is k;
  brought = tt;
  stays = by w (subst (λ o. KeepsRecord o w) is k);
}
  where
    by : (w : Option (List Put)) → KeepsRecord (Some held) w → InTheEnd w (IsPrunedCopy digest origin old_note entries)
    by None h = absurd h
    by (Some ys) h = subst (λ (l : List Put). IsPrunedCopy digest origin old_note entries l) (sym h) copy

-- the same for another answer of that kind
pub leaves_ok : (digest : List ℕ → List ℕ) (origin note : List ℕ) {T E U F : Type 0} (x w : Option (List Put)) (a : T) (b : U) →
    LeavesPruned digest origin {E = E} note x w (Ok a) → LeavesPruned digest origin {E = F} note x w (Ok b)
leaves_ok digest origin note x w a b h held is old_note entries copy =
    let k = h held is old_note entries copy in
    record { moments = k.moments; beyond = k.beyond; brought = k.brought; stays = tt }

pub leaves_err : (digest : List ℕ → List ℕ) (origin note : List ℕ) {T E U F : Type 0} (x w : Option (List Put)) (a : E) (b : F) →
    LeavesPruned digest origin {T = T} note x w (Err a) → LeavesPruned digest origin {T = U} note x w (Err b)
leaves_err digest origin note x w a b h held is old_note entries copy =
    let k = h held is old_note entries copy in
    record { moments = k.moments; beyond = k.beyond; brought = tt; stays = k.stays }

module _ (digest : List ℕ → List ℕ) (hash : IsDigest digest) (origin note : List ℕ) (tip : Tip) {T E : Type 0} where
  -- a call that brings a copy to a larger edge, for each answer
  pub larger_leaves : (edge : Edge) (root : List ℕ) → tip.size ≤ edge.size → IsHead note origin edge.size root →
      hash_of_edge digest edge ≡ root → (x w : Option (List Put)) → IsTipRead digest origin x tip → (r : Result T E) →
      ((known : List (List ℕ)) → IsKnown digest tip 0 known → BringsToEdge digest tip edge note known x w r) →
      LeavesPruned digest origin note x w r
  larger_leaves edge root upto head leads x w t (Ok a) brings =
      leaves_brought digest hash origin note tip {T = T} {E = E} edge root upto head leads x w t brings a
  larger_leaves edge root upto head leads x w t (Err e) brings =
      leaves_cut digest hash origin note tip {T = T} {E = E} x w t brings e

  -- a call that puts the checkpoint of an empty log
  pub empty_leaves : (size : ℕ) (root : List ℕ) → IsHead note origin size root → size ≡ 0 → root ≡ digest [] →
      (x w : Option (List Put)) → IsTipRead digest origin x tip → tip.checkpoint ≡ None → (r : Result T E) →
      PutsNote x w tip.checkpoint note r → LeavesPruned digest origin note x w r
  empty_leaves size root head none root_is x w t empty (Ok a) put =
      leaves_brought digest hash origin note tip {T = T} {E = E} empty_edge root
      (let upto = t.empty empty in omega (arith, upto))
      (subst (λ n. IsHead note origin n root) none head) (empty_edge_hash digest ∙ sym root_is) x w t
      (empty_brought digest tip note x w (t.empty empty) put.recorded) a
  empty_leaves size root head none root_is x w t empty (Err e) kept =
      leaves_cut digest hash origin note tip {T = T} {E = E} x w t (λ known k. left_none digest tip.size known x w kept) e

  -- a result of a later part of a call, if the earlier puts were kept
  pub leaves_later : (x y w : Option (List Put)) (r : Result T E) → KeepsRecord x y → IsTipRead digest origin x tip →
      (IsTipRead digest origin y tip → LeavesPruned digest origin note y w r) → LeavesPruned digest origin note x w r
  leaves_later None y w r k t f = λ held is. absurd (cc is)
  leaves_later (Some xs) None w r k t f = absurd k
  leaves_later (Some xs) (Some ys) w r k t f =
      subst (λ (l : List Put). LeavesPruned digest origin note (Some l) w r) k
      (f (subst (λ (l : List Put). IsTipRead digest origin (Some l) tip) (sym k) t))

-- the tip that was read has the size of the copy
pub had_pruned : (digest : List ℕ → List ℕ) (origin : List ℕ) (tip : Tip) (x : Option (List Put)) →
    IsTipRead digest origin x tip → HadPruned digest origin x tip.size
had_pruned digest origin tip x t held is note entries copy =
    let k = t.pruned held is note entries copy in let size = k.size_is in omega arith
