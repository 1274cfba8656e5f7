-- At each moment of a call that brings a copy to a checkpoint, the shelf has a whole copy.
use Rattle.std.proofs.Common.{◌≡◌, ◌≢◌, ◌⊎◌, ℕ, ◌+◌, ◌*◌, ◌/◌, ◌%◌, ◌^◌, ◌<◌, ◌≤◌, List, [], ◌∷◌, ◌++◌, length, map, get_or}
use Rattle.std.proofs.Common.{Option, Some, None, Result, Ok, Err, OnOk, refl, sym, ap, subst, ◌∙◌, append_assoc, inl, inr, arith, All}
use Rattle.std.specs.List.{Contains}
use Rattle.std.proofs.Math.Nat.{div-eq_of_lt}
use Rattle.std.proofs.lemmas.Bool.{cases_lt}
use Rattle.std.proofs.lemmas.List.{append-nil, append_cancel_left, get_or_append_left, length-append, length-map, map-append, nil_from_length}
use Rattle.std.proofs.lemmas.List.Elements.{All-append, All-cons, All-contains, All-map, All-nil, All-weaker, Contains-append_cases, Contains-append_left}
use Rattle.tlog_shape.specs.Edge.{edge_index_of, width_of}
use Rattle.tlog_shape.proofs.Levels.{level_positive}
use Rattle.tlog_hash.specs.Rows.{level_row}
use Rattle.tlog_hash.specs.Tree.{mth}
use Rattle.tlog_tiles.specs.declared.paths.Path.{Path}
use Rattle.tlog_tiles.specs.declared.paths.Path.TheVariants.{Checkpoint, Tile, Entries}
use Rattle.tlog_tiles.specs.Tiles.{IsTileWithin, IsWithin}
use Rattle.mirror_model.specs.Edge.{edge_levels}
use Rattle.mirror_model.specs.Heads.{IsHead}
use Rattle.mirror_sources.specs.Recorded.{AddsToRecord, KeepsRecord}
use Rattle.mirror_folders.specs.Shelf.{Put, Stands, HasPut}
use Rattle.mirror_folders.specs.Files.{served_bytes}
use Rattle.mirror_folders.specs.FileLaws.{IsFileOf}
use Rattle.mirror_folders.specs.Holding.{IsMoment}
use Rattle.mirror_folders.specs.Holding.{HoldsFiles}
use Rattle.mirror_folders.proofs.AllFiles.{files_are_all, upto_hashes}
use Rattle.mirror_folders.proofs.Standing.{stands_more}
use Rattle.copy_follow.specs.Copies.{IsCopy}
use Rattle.log_reader.specs.EdgeRows.{Edge, hash_of_edge, row_at}
use Rattle.copy_follow.specs.Edges.{BringsToEdge, IsCopyBrought, PutsNote}
use Rattle.copy_follow.specs.Found.{IsBundleRead, IsEdgeRead, IsRowRead, IsTipRead}
use Rattle.mirror_folders.specs.Partial.{IsReadPartial}
use Rattle.copy_follow.specs.Growing.{Obtains, IsCutShort, IsKnown, IsNewFile, Tip, empty_tip}
use Rattle.copy_follow.specs.Moments.{AtEachMoment, InTheEnd, IsBroughtTo, IsGrownCopy, KeepsCopy, PutsBeyond}
use Rattle.copy_follow.specs.Pruned.{HadSize, IsPrunedCopy}
use Rattle.mirror_folders.specs.Shelf.{RecordsRead}
use Rattle.copy_follow.proofs.CopyMoments.{bringing_makes_copy, bringing_stays_copy, copy_files, new_files_keep_copies, not_file}
use Rattle.copy_follow.proofs.Growth.{adds_then, gathers_none, kept_adds, kept_same, left_none}
use Rattle.copy_follow.proofs.Earlier.{kept_then}
use Rattle.copy_follow.proofs.Roots.{brought_root}
use Rattle.mirror_folders.proofs.PartialFiles.{partial_before}
use Rattle.copy_follow.proofs.ShelfReads.{row_before}
use Rattle.copy_follow.proofs.TipReads.{stands_has, tip_read}
use Rattle.mirror_model.specs.Strings.{IsDigest}

-- ---- puts at a moment

abbrev paths : List Put → List Path
paths puts = map (λ put. put.0) puts

has_append : (a b : List Put) (path : Path) → HasPut (a ++ b) path → HasPut a path ⊎ HasPut b path
has_append a b path has = Contains-append_cases (paths a) (paths b) path
    (subst (λ (l : List Path). Contains l path) (map-append (λ (put : Put). put.0) a b) has)

-- the puts up to a moment, if that moment is within the first puts
has_front : (so_far later puts last : List Put) (path : Path) → so_far ++ later ≡ puts ++ last →
    length so_far ≤ length puts → HasPut so_far path → HasPut puts path
has_front so_far later puts last path same le has =
    let f : Put → Path = λ put. put.0 in
    let k = has.0 in
    let lt : k < length puts = omega (arith, has.1, length-map so_far f, le) in
    let in_puts : k < length (paths puts) = omega (arith, lt, length-map puts f) in
    let left : get_or (paths puts) k path ≡ get_or (paths (puts ++ last)) k path =
    sym (get_or_append_left (paths puts) (paths last) path k in_puts)
    ∙ ap (λ (l : List Path). get_or l k path) (sym (map-append f puts last)) in
    let right : get_or (paths (so_far ++ later)) k path ≡ get_or (paths so_far) k path =
    ap (λ (l : List Path). get_or l k path) (map-append f so_far later)
    ∙ get_or_append_left (paths so_far) (paths later) path k has.1 in
    (k, in_puts, left ∙ (ap (λ (l : List Put). get_or (paths l) k path) (sym same) ∙ (right ∙ has.2)))

pub none_found : (puts : List Put) (answer : Option (List ℕ)) → RecordsRead (Some puts) Checkpoint answer →
    (HasPut puts Checkpoint → ⊥) → answer ≡ None
none_found puts (Some bytes) h none = absurd (none (stands_has puts Checkpoint bytes h))
none_found puts None h none = refl

pub copy_found : (digest : List ℕ → List ℕ) (origin note : List ℕ) (entries : List (List ℕ)) (puts : List Put)
    (answer : Option (List ℕ)) → IsCopy digest origin note entries puts → RecordsRead (Some puts) Checkpoint answer →
    answer ≡ None → ⊥
copy_found digest origin note entries puts answer copy h is =
    let none : HasPut puts Checkpoint → ⊥ = subst (λ a. RecordsRead (Some puts) Checkpoint a) is h in
    none (stands_has puts Checkpoint note (copy.holds Checkpoint ((files_are_all (length entries) Checkpoint).1 tt)))

-- a new file, or the checkpoint
abbrev IsPutOf : (List ℕ → List ℕ) → ℕ → List (List ℕ) → Put → Type 0
IsPutOf digest m next put = IsNewFile digest m next put ⊎ (put.0 ≡ Checkpoint)

pub new_no_checkpoint : (digest : List ℕ → List ℕ) (m : ℕ) (next : List (List ℕ)) (puts : List Put) →
    All (IsNewFile digest m next) puts → HasPut puts Checkpoint → ⊥
new_no_checkpoint digest m next puts all has =
    All-contains (λ (path : Path). path ≢ Checkpoint) (paths puts) Checkpoint
    (All-map (λ (path : Path). path ≢ Checkpoint) (λ (put : Put). put.0) puts
    (All-weaker (IsNewFile digest m next) (λ (put : Put). put.0 ≢ Checkpoint)
    (λ put new e. subst (λ p. IsWithin (length next) p) e new.within) puts all)) has refl

-- the files of the first entries stay on the shelf, as new files and the checkpoint are put
files_kept : (digest : List ℕ → List ℕ) (m : ℕ) (known next : List (List ℕ)) (old so_far now : List Put) →
    length known ≡ m → HoldsFiles digest known old → now ≡ old ++ so_far →
    ((put : Put) → Contains so_far put → IsPutOf digest m next put) → HoldsFiles digest known now
files_kept digest m known next old so_far now long held is puts path other listed =
    subst (λ (l : List Put). Stands l path (served_bytes digest [] known path)) (sym is)
    (stands_more old so_far path (served_bytes digest [] known path) (held path other listed)
    (λ bytes has. elim (puts (path, bytes) has) [
      | inl new ↦ absurd (not_file digest m next path bytes
          (subst (λ k. IsFileOf k path) long ((files_are_all (length known) path).0 listed)) new)
      | inr last ↦ absurd (other last)
    ]))

no_tile : (level index width : ℕ) → IsTileWithin 0 level index width → ⊥
no_tile level index width h =
    let upto : 256 * index + width ≤ 0 / 256 ^ level = upto_hashes 0 level index width h in
    let none : 0 / 256 ^ level ≡ 0 = div-eq_of_lt (level_positive level) in
    omega (arith, upto, none, h.some)

pub no_file : (path : Path) → path ≢ Checkpoint → IsFileOf 0 path → ⊥
no_file Checkpoint other h = other refl
no_file (Tile level index width) other h = no_tile level index width h.within
no_file (Entries index width) other h = no_tile 0 index width h.within

pub none_held : (digest : List ℕ → List ℕ) (puts : List Put) → HoldsFiles digest [] puts
none_held digest puts path other listed = absurd (no_file path other ((files_are_all 0 path).0 listed))

-- ---- a call that ended early

module _ (digest : List ℕ → List ℕ) (origin note : List ℕ) (tip : Tip) (old new : List Put)
    (t : IsTipRead digest origin (Some old) tip) where
  abbrev CutShort : Type 0
  CutShort = (known : List (List ℕ)) → IsKnown digest tip 0 known →
      IsCutShort digest tip.size known (Some old) (Some new)

  size_known : (known : List (List ℕ)) → IsKnown digest tip 0 known → length known ≡ tip.size
  size_known known is = let size = is.size_is in omega arith

  pub cut_copy : CutShort → (old_note : List ℕ) (entries : List (List ℕ)) → IsCopy digest origin old_note entries old →
      (now : List Put) → IsMoment old new now → IsCopy digest origin old_note entries now
  cut_copy cut old_note entries copy now at =
      let is = t.copy old refl old_note entries copy in
      let b = cut entries is in
      new_files_keep_copies digest origin old_note entries b.next old new now copy
      (subst (λ k. Obtains digest k entries b.next (Some old) (Some new)) (sym (size_known entries is)) b.gathers) at

  pub cut_none : CutShort → (HasPut old Checkpoint → ⊥) → (now : List Put) → IsMoment old new now →
      HasPut now Checkpoint → ⊥
  cut_none cut none now at has =
      let is = t.known (none_found old tip.checkpoint t.checkpoint none) in
      let g = (cut [] is).gathers in
      let split : at.so_far ++ at.later ≡ g.puts ++ [] =
      append_cancel_left old (at.so_far ++ at.later) g.puts
      (sym (append_assoc old at.so_far at.later)
      ∙ (ap (λ (l : List Put). l ++ at.later) (sym at.now_is) ∙ (sym at.new_is ∙ g.recorded)))
      ∙ sym (append-nil g.puts) in
      let shorter : length at.so_far ≤ length g.puts = omega (
        arith,
        ap length split,
        length-append at.so_far at.later,
        ap length (append-nil g.puts),
      ) in
      elim (has_append old at.so_far Checkpoint (subst (λ (l : List Put). HasPut l Checkpoint) at.now_is has)) [
        | inl before ↦ none before
        | inr since ↦ new_no_checkpoint digest tip.size (cut [] is).next g.puts g.are_new
            (has_front at.so_far at.later g.puts [] Checkpoint split shorter since)
      ]

-- ---- a complete call

module _ (digest : List ℕ → List ℕ) (origin note : List ℕ) (tip : Tip) (edge : Edge) (old new : List Put)
    (root : List ℕ) (upto : tip.size ≤ edge.size) (head : IsHead note origin edge.size root)
    (leads : hash_of_edge digest edge ≡ root) (known : List (List ℕ)) (is : IsKnown digest tip 0 known)
    (b : IsCopyBrought digest tip edge note known (Some old) (Some new)) where
  abbrev last : List Put
  last = (Checkpoint, note) ∷ []

  small : edge.size < 2 ^ 63
  small = let range = head.is_checkpoint.in_range in omega arith

  head_is : IsHead note origin (length b.next) (mth digest b.next)
  head_is =
      let root_is : root ≡ mth digest b.next = sym leads ∙ brought_root digest tip edge note known (Some old) (Some new) small b in
      subst (λ n. IsHead note origin n (mth digest b.next)) (sym b.size_is)
      (subst (λ r. IsHead note origin edge.size r) root_is head)

  long : length known ≡ tip.size
  long = let size = is.size_is in omega arith

  all_puts : (before : Option (List Put)) → AddsToRecord (Some old) before b.gathers.puts → AddsToRecord before (Some new) last →
      new ≡ old ++ (b.gathers.puts ++ last)
  all_puts None recorded put = absurd recorded
  all_puts (Some ys) recorded put = put ∙ (ap (λ (l : List Put). l ++ last) recorded ∙ append_assoc old b.gathers.puts last)

  new_is : new ≡ old ++ (b.gathers.puts ++ last)
  new_is = all_puts b.before b.gathers.recorded b.last

  each_put : (put : Put) → Contains (b.gathers.puts ++ last) put → IsPutOf digest tip.size b.next put
  each_put put has = elim (Contains-append_cases b.gathers.puts last put has) [
    | inl file ↦ inl (All-contains (IsNewFile digest tip.size b.next) b.gathers.puts put b.gathers.are_new file)
    | inr end ↦ inr (All-contains (λ (p : Put). p.0 ≡ Checkpoint) last put
        (All-cons (λ (p : Put). p.0 ≡ Checkpoint) (Checkpoint, note) [] refl (All-nil (λ (p : Put). p.0 ≡ Checkpoint))) end)
  ]

  -- the copy at the end
  made : HoldsFiles digest known old → IsCopy digest origin note b.next new
  made held = bringing_makes_copy digest origin note tip edge known old new is.short held long upto b head_is

  grown : HoldsFiles digest known old → (now so_far : List Put) → now ≡ old ++ so_far →
      ((put : Put) → Contains so_far put → IsPutOf digest tip.size b.next put) →
      IsCopy digest origin note b.next now → IsGrownCopy digest origin note known now
  grown held now so_far is puts copy = record {
    more = b.gathers.more;
    copy = subst (λ (l : List (List ℕ)). IsCopy digest origin note l now) b.gathers.next_is copy;
    kept = files_kept digest tip.size known b.next old so_far now long held is puts;
  }

  pub grown_end : HoldsFiles digest known old → IsGrownCopy digest origin note known new
  grown_end held = grown held new (b.gathers.puts ++ last) new_is each_put (made held)

  module _ (now : List Put) (at : IsMoment old new now) where
    split : at.so_far ++ at.later ≡ b.gathers.puts ++ last
    split = append_cancel_left old (at.so_far ++ at.later) (b.gathers.puts ++ last)
        (sym (append_assoc old at.so_far at.later)
        ∙ (ap (λ (l : List Put). l ++ at.later) (sym at.now_is) ∙ (sym at.new_is ∙ new_is)))

    pub so_far_put : (put : Put) → Contains at.so_far put → IsPutOf digest tip.size b.next put
    so_far_put put has = each_put put
        (subst (λ (l : List Put). Contains l put) split (Contains-append_left at.so_far at.later put has))

    pub grown_copy : (old_note : List ℕ) → IsCopy digest origin old_note known old →
        IsCopy digest origin old_note known now ⊎ IsGrownCopy digest origin note known now
    grown_copy old_note copy =
        let held = copy_files digest origin old_note known old copy in
        elim (bringing_stays_copy digest origin old_note note tip edge known old new now copy long upto b head_is at) [
          | inl still ↦ inl still
          | inr brought ↦ inr (grown held now at.so_far at.now_is so_far_put brought)
        ]

    pub grown_none : (HasPut old Checkpoint → ⊥) → HoldsFiles digest known old →
        (HasPut now Checkpoint → ⊥) ⊎ IsGrownCopy digest origin note known now
    grown_none none held = elim (cases_lt (length b.gathers.puts) (length at.so_far)) [
      | inl whole ↦
          let empty : length at.later ≡ 0 = omega (
            arith,
            ap length split,
            length-append at.so_far at.later,
            length-append b.gathers.puts last,
            whole,
          ) in
          let same : new ≡ now = at.new_is
          ∙ (ap (λ (l : List Put). now ++ l) (nil_from_length at.later empty) ∙ append-nil now) in
          inr (subst (λ (l : List Put). IsGrownCopy digest origin note known l) same (grown_end held))
      | inr part ↦ inl (λ has. elim
          (has_append old at.so_far Checkpoint (subst (λ (l : List Put). HasPut l Checkpoint) at.now_is has)) [
            | inl before ↦ none before
            | inr since ↦ new_no_checkpoint digest tip.size b.next b.gathers.puts b.gathers.are_new
                (has_front at.so_far at.later b.gathers.puts last Checkpoint split part since)
          ])
    ]

-- ---- all puts

beyond_new : (digest : List ℕ → List ℕ) (m : ℕ) (next : List (List ℕ)) (put : Put) → IsNewFile digest m next put →
    IsWithin m put.0 → ⊥
beyond_new digest m next put new = new.new

pub beyond_same : (n : ℕ) (held : List Put) (x w : Option (List Put)) → x ≡ Some held → KeepsRecord x w →
    PutsBeyond n held w
beyond_same n held x w is kept = record {
  puts = [];
  recorded = kept_adds (Some held) w (subst (λ o. KeepsRecord o w) is kept);
  are_beyond = All-nil (λ (put : Put). ¬ IsWithin n put.0);
}

module _ (digest : List ℕ → List ℕ) (note : List ℕ) (tip : Tip) (held : List Put) (x w : Option (List Put))
    (is : x ≡ Some held) (known : List (List ℕ)) (k : IsKnown digest tip 0 known) where
  beyond_size : PutsBeyond tip.size held w → PutsBeyond (length known) held w
  beyond_size b =
      let size = k.size_is in
      let same : tip.size ≡ length known = omega arith in subst (λ n. PutsBeyond n held w) same b

  pub beyond_cut : IsCutShort digest tip.size known x w → PutsBeyond (length known) held w
  beyond_cut cut = beyond_size (record {
    puts = cut.gathers.puts;
    recorded = subst (λ (o : Option (List Put)). AddsToRecord o w cut.gathers.puts) is cut.gathers.recorded;
    are_beyond = All-weaker (IsNewFile digest tip.size cut.next) (λ (put : Put). ¬ IsWithin tip.size put.0)
        (beyond_new digest tip.size cut.next) cut.gathers.puts cut.gathers.are_new;
  })

  pub beyond_brought : (edge : Edge) → IsCopyBrought digest tip edge note known x w → PutsBeyond (length known) held w
  beyond_brought edge b = beyond_size (record {
    puts = b.gathers.puts ++ (Checkpoint, note) ∷ [];
    recorded = subst (λ (o : Option (List Put)). AddsToRecord o w (b.gathers.puts ++ (Checkpoint, note) ∷ [])) is
        (adds_then x b.before w b.gathers.puts ((Checkpoint, note) ∷ []) b.gathers.recorded b.last);
    are_beyond =
        let P : Put → Type 0 = λ put. ¬ IsWithin tip.size put.0 in
        All-append P b.gathers.puts ((Checkpoint, note) ∷ [])
        (All-weaker (IsNewFile digest tip.size b.next) P (beyond_new digest tip.size b.next) b.gathers.puts
        b.gathers.are_new)
        (All-cons P (Checkpoint, note) [] (λ within. within) (All-nil P));
  })

-- ---- the result of a call

module _ (digest : List ℕ → List ℕ) (origin note : List ℕ) (tip : Tip) where
  at_each : (x w : Option (List Put)) (held : List Put) → x ≡ Some held → (known : List (List ℕ)) →
      IsCutShort digest tip.size known x w → (so : List Put → Type 0) →
      ((new : List Put) → w ≡ Some new → (now : List Put) → IsMoment held new now → so now) →
      AtEachMoment held w so
  at_each x None held is known cut so all =
      absurd (subst (λ (o : Option (List Put)). AddsToRecord o None cut.gathers.puts) is cut.gathers.recorded)
  at_each x (Some new) held is known cut so all = all new refl

  -- a call that put only new files
  pub whole_cut : (x w : Option (List Put)) → IsTipRead digest origin x tip →
      ((known : List (List ℕ)) → IsKnown digest tip 0 known → IsCutShort digest tip.size known x w) →
      KeepsCopy digest origin note x w
  whole_cut x w t cut = record {
    copy = λ held is old_note entries copy.
        at_each x w held is entries (cut entries (t.copy held is old_note entries copy))
        (λ now. IsCopy digest origin old_note entries now ⊎ IsGrownCopy digest origin note entries now)
        (λ new new_is now at. inl (cut_copy digest origin note tip held new
        (subst (λ o. IsTipRead digest origin o tip) is t)
        (λ known k. subst (λ o. IsCutShort digest tip.size known (Some held) o) new_is
        (subst (λ o. IsCutShort digest tip.size known o w) is (cut known k))) old_note entries copy now at));
    none = λ held is none.
        at_each x w held is []
        (cut [] (t.known (none_found held tip.checkpoint (subst (λ o. RecordsRead o Checkpoint tip.checkpoint) is t.checkpoint) none)))
        (λ now. (HasPut now Checkpoint → ⊥) ⊎ IsGrownCopy digest origin note [] now)
        (λ new new_is now at. inl (cut_none digest origin note tip held new
        (subst (λ o. IsTipRead digest origin o tip) is t)
        (λ known k. subst (λ o. IsCutShort digest tip.size known (Some held) o) new_is
        (subst (λ o. IsCutShort digest tip.size known o w) is (cut known k))) none now at));
    beyond = λ held is old_note entries copy.
        let k = t.copy held is old_note entries copy in
        beyond_cut digest note tip held x w is entries k (cut entries k);
    beyond_none = λ held is none.
        let k = t.known (none_found held tip.checkpoint (subst (λ o. RecordsRead o Checkpoint tip.checkpoint) is t.checkpoint) none) in
        beyond_cut digest note tip held x w is [] k (cut [] k);
  }

  module _ (edge : Edge) (root : List ℕ) (upto : tip.size ≤ edge.size) (head : IsHead note origin edge.size root)
      (leads : hash_of_edge digest edge ≡ root) (x w : Option (List Put)) (t : IsTipRead digest origin x tip)
      (brought : (known : List (List ℕ)) → IsKnown digest tip 0 known → IsCopyBrought digest tip edge note known x w)
    where
      each_brought : (held : List Put) → x ≡ Some held → (known : List (List ℕ)) → IsKnown digest tip 0 known →
          (so : List Put → Type 0) →
          ((new : List Put) → IsCopyBrought digest tip edge note known (Some held) (Some new) → (now : List Put) →
          IsMoment held new now → so now) → AtEachMoment held w so
      each_brought held is known k so all =
          by_end w (subst (λ o. IsCopyBrought digest tip edge note known o w) is (brought known k))
        where
          no_end : (before : Option (List Put)) (puts : List Put) → AddsToRecord (Some held) before puts →
              AddsToRecord before None ((Checkpoint, note) ∷ []) → ⊥
          no_end None puts p q = p
          no_end (Some ys) puts p q = q

          by_end : (w : Option (List Put)) → IsCopyBrought digest tip edge note known (Some held) w → AtEachMoment held w so
          by_end None b = absurd (no_end b.before b.gathers.puts b.gathers.recorded b.last)
          by_end (Some new) b = all new b

      -- the facts from before the call, at that moment
      none_known : (held : List Put) → x ≡ Some held → (HasPut held Checkpoint → ⊥) → IsKnown digest tip 0 []
      none_known held is none =
          t.known (none_found held tip.checkpoint (subst (λ o. RecordsRead o Checkpoint tip.checkpoint) is t.checkpoint) none)

      -- a call that brought a copy
      pub whole_brought : KeepsCopy digest origin note x w
      whole_brought = record {
        copy = λ held is old_note entries copy.
            let k = t.copy held is old_note entries copy in
            each_brought held is entries k
            (λ now. IsCopy digest origin old_note entries now ⊎ IsGrownCopy digest origin note entries now)
            (λ new b now at. grown_copy digest origin note tip edge held new root upto head leads entries k b now at old_note copy);
        none = λ held is none.
            let k = none_known held is none in
            each_brought held is [] k
            (λ now. (HasPut now Checkpoint → ⊥) ⊎ IsGrownCopy digest origin note [] now)
            (λ new b now at. grown_none digest origin note tip edge held new root upto head leads [] k b now at none
            (none_held digest held));
        beyond = λ held is old_note entries copy.
            let k = t.copy held is old_note entries copy in
            beyond_brought digest note tip held x w is entries k edge (brought entries k);
        beyond_none = λ held is none.
            let k = none_known held is none in
            beyond_brought digest note tip held x w is [] k edge (brought [] k);
      }

      at_end : (held : List Put) → x ≡ Some held → (known : List (List ℕ)) → IsKnown digest tip 0 known →
          HoldsFiles digest known held → InTheEnd w (IsGrownCopy digest origin note known)
      at_end held is known k files =
          by_end w (subst (λ o. IsCopyBrought digest tip edge note known o w) is (brought known k))
        where
          no_end : (before : Option (List Put)) (puts : List Put) → AddsToRecord (Some held) before puts →
              AddsToRecord before None ((Checkpoint, note) ∷ []) → ⊥
          no_end None puts p q = p
          no_end (Some ys) puts p q = q

          by_end : (w : Option (List Put)) → IsCopyBrought digest tip edge note known (Some held) w →
              InTheEnd w (IsGrownCopy digest origin note known)
          by_end None b = absurd (no_end b.before b.gathers.puts b.gathers.recorded b.last)
          by_end (Some new) b = grown_end digest origin note tip edge held new root upto head leads known k b files

      pub brought_to : IsBroughtTo digest origin note x w
      brought_to = record {
        copy = λ held is old_note entries copy.
            at_end held is entries (t.copy held is old_note entries copy)
            (copy_files digest origin old_note entries held copy);
        none = λ held is none. at_end held is [] (none_known held is none) (none_held digest held);
      }

-- the tip that was read has the size of the copy
pub had_size : (digest : List ℕ → List ℕ) (origin : List ℕ) (tip : Tip) (x : Option (List Put)) →
    IsTipRead digest origin x tip → HadSize digest origin x tip.size
had_size digest origin tip x t = record {
  copy = λ held is note entries copy.
      let k = t.copy held is note entries copy in let size = k.size_is in omega arith;
  pruned = λ held is note entries copy.
      let k = t.pruned held is note entries copy in let size = k.size_is in omega arith;
  none = λ held is none.
      let k = t.known (none_found held tip.checkpoint (subst (λ o. RecordsRead o Checkpoint tip.checkpoint) is t.checkpoint) none) in
      let size = k.size_is in omega arith;
}

-- ---- the checkpoint of an empty log

pub no_width : (level : ℕ) → width_of 0 level ≡ 0
no_width level = ap (λ q. q % 256) (div-eq_of_lt (level_positive level))

abbrev pub empty_edge : Edge
empty_edge = record { size = 0; rows = [] }

pub empty_edge_hash : (digest : List ℕ → List ℕ) → hash_of_edge digest empty_edge ≡ digest []
unfolding edge_levels
empty_edge_hash digest = refl

pub empty_brought : (digest : List ℕ → List ℕ) (tip : Tip) (note : List ℕ) (x w : Option (List Put)) → tip.size ≡ 0 →
    AddsToRecord x w ((Checkpoint, note) ∷ []) → (known : List (List ℕ)) → IsKnown digest tip 0 known →
    IsCopyBrought digest tip empty_edge note known x w
empty_brought digest tip note x w empty recorded known k = record {
  next = known;
  before = x;
  gathers = gathers_none digest tip.size known x x (kept_same x);
  last = recorded;
  size_is = let size = k.size_is in omega arith;
  rows_are = λ level upto. sym (ap (λ w. level_row digest known level (256 * edge_index_of 0 level) w) (no_width level));
  holds = λ path other file new. absurd (no_file path other file);
}

module _ (digest : List ℕ → List ℕ) (origin note : List ℕ) (tip : Tip) (size : ℕ) (root : List ℕ)
    (head : IsHead note origin size root) (none : size ≡ 0) (root_is : root ≡ digest []) (x w : Option (List Put))
    (t : IsTipRead digest origin x tip) (empty : tip.checkpoint ≡ None) where
  upto_none : tip.size ≤ 0
  upto_none = omega (arith, t.empty empty)

  empty_head : IsHead note origin 0 root
  empty_head = subst (λ n. IsHead note origin n root) none head

  empty_leads : hash_of_edge digest empty_edge ≡ root
  empty_leads = empty_edge_hash digest ∙ sym root_is

  pub empty_whole : {T E : Type 0} (r : Result T E) → PutsNote x w tip.checkpoint note r → KeepsCopy digest origin note x w
  empty_whole (Ok a) put =
      whole_brought digest origin note tip empty_edge root upto_none empty_head empty_leads x w t
      (empty_brought digest tip note x w (t.empty empty) put.recorded)
  empty_whole (Err e) kept =
      whole_cut digest origin note tip x w t (λ known k. left_none digest tip.size known x w kept)

  pub empty_ends : {T E : Type 0} (r : Result T E) → PutsNote x w tip.checkpoint note r →
      OnOk r (IsBroughtTo digest origin note x w)
  empty_ends (Ok a) put =
      brought_to digest origin note tip empty_edge root upto_none empty_head empty_leads x w t
      (empty_brought digest tip note x w (t.empty empty) put.recorded)
  empty_ends (Err e) kept = tt

-- ---- a call that brings a copy to a larger edge, for each answer

module _ (digest : List ℕ → List ℕ) (origin note : List ℕ) (tip : Tip) (edge : Edge) (root : List ℕ)
    (upto : tip.size ≤ edge.size) (head : IsHead note origin edge.size root)
    (leads : hash_of_edge digest edge ≡ root) (x w : Option (List Put)) (t : IsTipRead digest origin x tip) where
  pub larger_whole : {T E : Type 0} (r : Result T E) →
      ((known : List (List ℕ)) → IsKnown digest tip 0 known → BringsToEdge digest tip edge note known x w r) →
      KeepsCopy digest origin note x w
  larger_whole (Ok a) brings = whole_brought digest origin note tip edge root upto head leads x w t brings
  larger_whole (Err e) brings = whole_cut digest origin note tip x w t brings

  pub larger_ends : {T E : Type 0} (r : Result T E) →
      ((known : List (List ℕ)) → IsKnown digest tip 0 known → BringsToEdge digest tip edge note known x w r) →
      OnOk r (IsBroughtTo digest origin note x w)
  larger_ends (Ok a) brings = brought_to digest origin note tip edge root upto head leads x w t brings
  larger_ends (Err e) brings = tt

-- without a record, the clause says nothing
pub none_whole : (digest : List ℕ → List ℕ) (origin note : List ℕ) (w : Option (List Put)) →
    KeepsCopy digest origin note None w
none_whole digest origin note w = record {
  copy = λ held is. absurd (cc is);
  none = λ held is. absurd (cc is);
  beyond = λ held is. absurd (cc is);
  beyond_none = λ held is. absurd (cc is);
}

pub none_brought : (digest : List ℕ → List ℕ) (origin note : List ℕ) (w : Option (List Put)) →
    IsBroughtTo digest origin note None w
none_brought digest origin note w = record { copy = λ held is. absurd (cc is); none = λ held is. absurd (cc is) }

-- a result of a later part of a call, if the earlier puts were kept
pub whole_later : (digest : List ℕ → List ℕ) (origin note : List ℕ) (tip : Tip) (x y w : Option (List Put)) →
    KeepsRecord x y → IsTipRead digest origin x tip →
    (IsTipRead digest origin y tip → KeepsCopy digest origin note y w) → KeepsCopy digest origin note x w
whole_later digest origin note tip None y w k t f = none_whole digest origin note w
whole_later digest origin note tip (Some xs) None w k t f = absurd k
whole_later digest origin note tip (Some xs) (Some ys) w k t f =
    subst (λ (l : List Put). KeepsCopy digest origin note (Some l) w) k
    (f (subst (λ (l : List Put). IsTipRead digest origin (Some l) tip) (sym k) t))

pub ends_later : (digest : List ℕ → List ℕ) (origin note : List ℕ) (tip : Tip) (x y w : Option (List Put)) →
    {T E : Type 0} (r : Result T E) → KeepsRecord x y → IsTipRead digest origin x tip →
    (IsTipRead digest origin y tip → OnOk r (IsBroughtTo digest origin note y w)) →
    OnOk r (IsBroughtTo digest origin note x w)
ends_later digest origin note tip None y w (Ok a) k t f = none_brought digest origin note w
ends_later digest origin note tip (Some xs) None w (Ok a) k t f = absurd k
ends_later digest origin note tip (Some xs) (Some ys) w (Ok a) k t f =
    subst (λ (l : List Put). IsBroughtTo digest origin note (Some l) w) k
    (f (subst (λ (l : List Put). IsTipRead digest origin (Some l) tip) (sym k) t))
ends_later digest origin note tip x y w (Err e) k t f = tt

-- ---- a call that put nothing

kept_moment : (held new now : List Put) → new ≡ held → IsMoment held new now → now ≡ held
kept_moment held new now is at =
    let none : length at.so_far ≡ 0 = omega (
      arith,
      ap length is,
      ap length at.new_is,
      ap length at.now_is,
      length-append held at.so_far,
      length-append now at.later,
    ) in
    at.now_is ∙ (ap (λ (l : List Put). held ++ l) (nil_from_length at.so_far none) ∙ append-nil held)

pub at_kept : (x y : Option (List Put)) (held : List Put) → x ≡ Some held → KeepsRecord x y → (so : List Put → Type 0) →
    so held → AtEachMoment held y so
at_kept None y held is k so h = absurd (cc is)
at_kept (Some xs) None held is k so h = absurd k
at_kept (Some xs) (Some ys) held is k so h = λ now at.
    let same : xs ≡ held = cc is in
    subst so (sym (kept_moment held ys now (k ∙ same) at)) h

pub whole_same : (digest : List ℕ → List ℕ) (origin note : List ℕ) (x y : Option (List Put)) → KeepsRecord x y →
    KeepsCopy digest origin note x y
whole_same digest origin note x y k = record {
  copy = λ held is old_note entries copy.
      at_kept x y held is k
      (λ now. IsCopy digest origin old_note entries now ⊎ IsGrownCopy digest origin note entries now) (inl copy);
  none = λ held is none.
      at_kept x y held is k (λ now. (HasPut now Checkpoint → ⊥) ⊎ IsGrownCopy digest origin note [] now) (inl none);
  beyond = λ held is old_note entries copy. beyond_same (length entries) held x y is k;
  beyond_none = λ held is none. beyond_same 0 held x y is k;
}

-- ---- reads of a shelf

empty_known : (digest : List ℕ → List ℕ) → IsKnown digest empty_tip 0 []
empty_known digest = record {
  size_is = refl;
  short = All-nil (λ (e : List ℕ). length e < 2 ^ 16);
  rows_are = λ level upto. sym (ap (λ w. level_row digest [] level (256 * edge_index_of 0 level) w) (no_width level));
  bundle_is = refl;
}

pruned_found : (digest : List ℕ → List ℕ) (origin note : List ℕ) (entries : List (List ℕ)) (puts : List Put) →
    IsPrunedCopy digest origin note entries puts → RecordsRead (Some puts) Checkpoint None → ⊥
pruned_found digest origin note entries puts copy none = none (stands_has puts Checkpoint note copy.note_stands)

pub empty_read : (digest : List ℕ → List ℕ) (origin : List ℕ) (x : Option (List Put)) → RecordsRead x Checkpoint None →
    IsTipRead digest origin x empty_tip
empty_read digest origin x h = record {
  checkpoint = h;
  copy = λ held is note entries copy. absurd
      (copy_found digest origin note entries held None copy (subst (λ o. RecordsRead o Checkpoint None) is h) refl);
  pruned = λ held is note entries copy. absurd
      (pruned_found digest origin note entries held copy (subst (λ o. RecordsRead o Checkpoint None) is h));
  empty = λ e. refl;
  known = λ e. empty_known digest;
}

module _ (digest : List ℕ → List ℕ) (hash : IsDigest digest) (origin : List ℕ) (x y z : Option (List Put))
    (kept : KeepsRecord x y) (kept' : KeepsRecord y z) (edge : Edge) (bundle checkpoint : List ℕ) (size : ℕ)
    (root : List ℕ) (there : RecordsRead x Checkpoint (Some checkpoint)) (head : IsHead checkpoint origin size root)
    (rows : IsEdgeRead y size edge) (last : IsBundleRead z edge.size bundle) (tip : Tip)
    (size_is : tip.size ≡ edge.size) (rows_are : tip.rows ≡ edge.rows) (bundle_is : tip.bundle ≡ bundle)
    (checkpoint_is : tip.checkpoint ≡ Some checkpoint) where
  made_edge : IsEdgeRead x size (record { size = tip.size; rows = tip.rows })
  made_edge = record {
    size_is = size_is ∙ rows.size_is;
    rows_are = λ level upto.
        subst (λ (rs : List (List (List ℕ))). IsRowRead x size level (get_or rs level [])) (sym rows_are)
        (row_before x y size level (row_at edge level) kept (rows.rows_are level upto));
  }

  made_bundle : IsBundleRead x size tip.bundle
  made_bundle =
      let last' = subst (λ n. IsBundleRead z n bundle) rows.size_is last in
      subst (λ b. IsBundleRead x size b) (sym bundle_is) (record {
        none = last'.none;
        stands = λ some. partial_before x z (kept_then x y z kept kept') (Entries (edge_index_of size 0) (width_of size 0))
            (Some bundle) (last'.stands some);
      })

  pub tip_made : IsTipRead digest origin x tip
  tip_made = tip_read digest hash origin x tip checkpoint size root checkpoint_is there head made_edge made_bundle

pub bundle_made : (x : Option (List Put)) (edge : Edge) (index width : ℕ) (given : Option (List ℕ)) (bytes : List ℕ) →
    index ≡ edge_index_of edge.size 0 → width ≡ width_of edge.size 0 → 1 ≤ width →
    IsReadPartial x (Entries index width) given → given ≡ Some bytes → IsBundleRead x edge.size bytes
bundle_made x edge index width given bytes index_is width_is some there is = record {
  none = λ e. absurd (omega (arith, e, width_is, some));
  stands = λ wide.
      subst (λ k. IsReadPartial x (Entries k (width_of edge.size 0)) (Some bytes)) index_is
      (subst (λ k. IsReadPartial x (Entries index k) (Some bytes)) width_is
      (subst (λ a. IsReadPartial x (Entries index width) a) is there));
}

pub no_bundle : (x : Option (List Put)) (n : ℕ) (bytes : List ℕ) → bytes ≡ [] → width_of n 0 ≡ 0 →
    IsBundleRead x n bytes
no_bundle x n bytes is none = record { none = λ e. is; stands = λ some. absurd (omega (arith, none, some)) }
