-- A copy at each moment of a call that brings it to a checkpoint.
use Rattle.std.proofs.Common.{◌≡◌, ◌≢◌, ◌⊎◌, ℕ, ◌+◌, ◌*◌, ◌^◌, get_or, ◌<◌, ◌≤◌, List, [], ◌∷◌, ◌++◌, length, Option, Some, None, refl, sym, ap}
use Rattle.std.proofs.Common.{subst, ◌∙◌, append_assoc, inl, inr, arith}
use Rattle.std.specs.List.{Contains}
use Rattle.std.proofs.lemmas.List.{append_cancel_left}
use Rattle.std.proofs.lemmas.List.Elements.{All-contains, Contains-append_left}
use Rattle.tlog_tiles.specs.declared.paths.Path.{Path}
use Rattle.tlog_tiles.specs.declared.paths.Path.TheVariants.{Checkpoint, Tile, Entries}
use Rattle.tlog_tiles.specs.Tiles.{IsWithin}
use Rattle.mirror_folders.specs.Shelf.{Put, Stands}
use Rattle.mirror_folders.specs.Files.{paths_of, served_bytes}
use Rattle.mirror_folders.specs.FileLaws.{IsFileOf}
use Rattle.mirror_folders.specs.Holding.{IsMoment}
use Rattle.mirror_folders.specs.Holding.{HoldsFiles}
use Rattle.mirror_folders.proofs.AllFiles.{files_are_all}
use Rattle.mirror_folders.proofs.Standing.{stands_more}
use Rattle.std.proofs.lemmas.Bool.{cases_lt}
use Rattle.tlog_hash.specs.Tree.{mth}
use Rattle.mirror_model.specs.Heads.{IsHead}
use Rattle.mirror_model.specs.TrueLaws.{AreShort}
use Rattle.mirror_sources.specs.Honest.{true_bytes}
use Rattle.copy_follow.specs.Growing.{IsNewFile, Obtains, Tip}
use Rattle.log_reader.specs.EdgeRows.{Edge}
use Rattle.copy_follow.specs.Edges.{IsCopyBrought}
use Rattle.copy_follow.specs.Standing.{RecordsStands}
use Rattle.copy_places.proofs.Prefixes.{within_more}
use Rattle.copy_follow.proofs.Below.{stands_gathered, records_earlier, records_later, records_put}
use Rattle.copy_follow.proofs.Growth.{kept_same}
use Rattle.mirror_sources.specs.Recorded.{AddsToRecord}
use Rattle.std.proofs.lemmas.List.{append-nil, get_or_append_left, nil_from_length, length-append}
use Rattle.std.proofs.lemmas.List.Elements.{All-append, All-cons, All-nil}
use Rattle.copy_follow.specs.Copies.{IsCopy, NewFilesKeepCopies, BringingMakesCopy, BringingStaysCopy}

-- no new file is a file of the first entries
pub not_file : (digest : List ℕ → List ℕ) (m : ℕ) (next : List (List ℕ)) (path : Path) (bytes : List ℕ) →
    IsFileOf m path → IsNewFile digest m next (path, bytes) → ⊥
not_file digest m next Checkpoint bytes is h = h.within
not_file digest m next (Tile level index width) bytes is h = h.new is.within
not_file digest m next (Entries index width) bytes is h = h.new is.within

module _ (digest : List ℕ → List ℕ) (origin note : List ℕ) (entries next : List (List ℕ)) (old new now : List Put)
    (copy : IsCopy digest origin note entries old)
    (g : Obtains digest (length entries) entries next (Some old) (Some new)) (at : IsMoment old new now) where
  cut : at.so_far ++ at.later ≡ g.puts
  cut = append_cancel_left old (at.so_far ++ at.later) g.puts
      (sym (append_assoc old at.so_far at.later)
      ∙ (ap (λ (l : List Put). l ++ at.later) (sym at.now_is) ∙ (sym at.new_is ∙ g.recorded)))

  pub put_new : (put : Put) → Contains at.so_far put → IsNewFile digest (length entries) next put
  put_new put h = All-contains (IsNewFile digest (length entries) next) g.puts put g.are_new
      (subst (λ (l : List Put). Contains l put) cut (Contains-append_left at.so_far at.later put h))

  still : IsCopy digest origin note entries now
  still = record {
    short = copy.short;
    is_head = copy.is_head;
    holds = λ path listed.
        subst (λ (l : List Put). Stands l path (served_bytes digest note entries path)) (sym at.now_is)
        (stands_more old at.so_far path (served_bytes digest note entries path) (copy.holds path listed)
        (λ other has. absurd (not_file digest (length entries) next path other
        ((files_are_all (length entries) path).0 listed) (put_new (path, other) has))));
  }

pub new_files_keep_copies : NewFilesKeepCopies
new_files_keep_copies digest origin note entries next old new now copy g at =
    still digest origin note entries next old new now copy g at

-- ---- the whole call

-- a path within n entries is within m entries, or it is not
within_case : (m n : ℕ) (path : Path) → IsWithin n path → IsWithin m path ⊎ (IsWithin m path → ⊥)
within_case m n Checkpoint h = absurd h
within_case m n (Tile level index width) h = elim (cases_lt m ((256 * index + width) * 256 ^ level)) [
  | inl lt ↦ inr (λ w. let within = w.within in omega arith)
  | inr ge ↦ inl (record { level_fits = h.level_fits; some = h.some; upto = h.upto; within = ge })
]
within_case m n (Entries index width) h = elim (cases_lt m ((256 * index + width) * 256 ^ 0)) [
  | inl lt ↦ inr (λ w. let within = w.within in omega (arith, within, lt))
  | inr ge ↦ inl (record { level_fits = h.level_fits; some = h.some; upto = h.upto; within = ge })
]

-- a file of n entries that is within the first m is a file of these m
first_file : (m n : ℕ) (path : Path) → m ≤ n → IsFileOf n path → IsWithin m path → IsFileOf m path
first_file m n Checkpoint le h w = h
first_file m n (Tile level index width) le h w = record {
  within = w;
  widest = λ wider lt fits. h.widest wider lt (within_more m n (Tile level index wider) le fits);
}
first_file m n (Entries index width) le h w = record {
  within = w;
  widest = λ wider lt fits. h.widest wider lt (within_more m n (Entries index wider) le fits);
}

module _ (digest : List ℕ → List ℕ) (origin note : List ℕ) (tip : Tip) (edge : Edge) (known : List (List ℕ))
    (old new : List Put) (short : AreShort known) (held : HoldsFiles digest known old) (long : length known ≡ tip.size)
    (larger : tip.size ≤ edge.size) (b : IsCopyBrought digest tip edge note known (Some old) (Some new))
    (head : IsHead note origin (length b.next) (mth digest b.next)) where
  abbrev last : List Put
  last = (Checkpoint, note) ∷ []

  -- a file that was on the shelf before the note was put is there after it
  behind : (path : Path) (bytes : List ℕ) → path ≢ Checkpoint → RecordsStands (Some old) b.before path bytes →
      Stands new path bytes
  behind path bytes other h =
      records_later (Some old) b.before (Some new) path bytes last b.last
      (λ there has. absurd (other (All-contains (λ (put : Put). put.0 ≡ Checkpoint) last (path, there)
      (All-cons (λ (put : Put). put.0 ≡ Checkpoint) (Checkpoint, note) [] refl (All-nil (λ (put : Put). put.0 ≡ Checkpoint)))
      has))) h

  -- a file of the old copy
  of_old : (path : Path) → IsFileOf edge.size path → IsWithin tip.size path →
      Stands old path (true_bytes digest known path) → RecordsStands (Some old) b.before path (true_bytes digest b.next path)
  of_old path file within stands =
      stands_gathered digest tip.size known b.next (Some old) (Some old) b.before path b.gathers
      (subst (λ k. IsWithin k path) (sym long) within) stands

  listed_old : (path : Path) → IsFileOf edge.size path → IsWithin tip.size path → Contains (paths_of (length known)) path
  listed_old path file within = (files_are_all (length known) path).1
      (subst (λ k. IsFileOf k path) (sym long) (first_file tip.size edge.size path (omega arith) file within))

  tile_holds : (level index width : ℕ) → IsFileOf edge.size (Tile level index width) →
      Stands new (Tile level index width) (true_bytes digest b.next (Tile level index width))
  tile_holds level index width file =
      let path = Tile level index width in
      let other : path ≢ Checkpoint = λ e. cc in
      behind path (true_bytes digest b.next path) other
      (elim (within_case tip.size edge.size path file.within) [
        | inl within ↦ of_old path file within (held path other (listed_old path file within))
        | inr none ↦ b.holds path other file none
      ])

  bundle_holds : (index width : ℕ) → IsFileOf edge.size (Entries index width) →
      Stands new (Entries index width) (true_bytes digest b.next (Entries index width))
  bundle_holds index width file =
      let path = Entries index width in
      let other : path ≢ Checkpoint = λ e. cc in
      behind path (true_bytes digest b.next path) other
      (elim (within_case tip.size edge.size path file.within) [
        | inl within ↦ of_old path file within (held path other (listed_old path file within))
        | inr none ↦ b.holds path other file none
      ])

  by_path : (path : Path) → IsFileOf edge.size path → Stands new path (served_bytes digest note b.next path)
  by_path Checkpoint file =
      records_earlier (Some old) b.before (Some new) b.gathers.puts Checkpoint note b.gathers.recorded
      (records_put b.before b.before (Some new) Checkpoint note (kept_same b.before) b.last)
  by_path (Tile level index width) file = tile_holds level index width file
  by_path (Entries index width) file = bundle_holds index width file

  pub makes : IsCopy digest origin note b.next new
  makes = record {
    short = subst (λ (l : List (List ℕ)). AreShort l) (sym b.gathers.next_is)
        (All-append (λ (e : List ℕ). length e < 2 ^ 16) known b.gathers.more short b.gathers.short);
    is_head = head;
    holds = λ path listed. by_path path
        (subst (λ k. IsFileOf k path) b.size_is ((files_are_all (length b.next) path).0 listed));
  }

  -- all puts
  all_puts : (before : Option (List Put)) (puts : List Put) → AddsToRecord (Some old) before puts →
      AddsToRecord before (Some new) last → new ≡ old ++ (puts ++ last)
  all_puts None puts recorded put = absurd recorded
  all_puts (Some ys) puts recorded put = put ∙ (ap (λ (l : List Put). l ++ last) recorded ∙ append_assoc old puts last)

  module _ (old_note : List ℕ) (copy : IsCopy digest origin old_note known old) (now : List Put) (at : IsMoment old new now) where
    split : at.so_far ++ at.later ≡ b.gathers.puts ++ last
    split = append_cancel_left old (at.so_far ++ at.later) (b.gathers.puts ++ last)
        (sym (append_assoc old at.so_far at.later)
        ∙ (ap (λ (l : List Put). l ++ at.later) (sym at.now_is)
        ∙ (sym at.new_is ∙ all_puts b.before b.gathers.puts b.gathers.recorded b.last)))

    so_far_new : length at.so_far ≤ length b.gathers.puts → (put : Put) → Contains at.so_far put →
        IsNewFile digest tip.size b.next put
    so_far_new le put has =
        let k = has.0 in
        let lt : k < length b.gathers.puts = omega (arith, has.1, le) in
        All-contains (IsNewFile digest tip.size b.next) b.gathers.puts put b.gathers.are_new (
          k,
          lt,
          sym (get_or_append_left b.gathers.puts last put k lt)
              ∙ (ap (λ (l : List Put). get_or l k put) (sym split)
              ∙ (get_or_append_left at.so_far at.later put k has.1 ∙ has.2)),
        )

    pub stays : IsCopy digest origin old_note known now ⊎ IsCopy digest origin note b.next now
    stays = elim (cases_lt (length b.gathers.puts) (length at.so_far)) [
      | inl whole ↦
          let none : length at.later ≡ 0 = omega (
            arith,
            ap length split,
            length-append at.so_far at.later,
            length-append b.gathers.puts last,
            whole,
          ) in
          let same : new ≡ now = at.new_is
          ∙ (ap (λ (l : List Put). now ++ l) (nil_from_length at.later none) ∙ append-nil now) in
          inr (subst (λ (l : List Put). IsCopy digest origin note b.next l) same makes)
      | inr part ↦ inl (record {
        short = copy.short;
        is_head = copy.is_head;
        holds = λ path listed.
            subst (λ (l : List Put). Stands l path (served_bytes digest old_note known path)) (sym at.now_is)
            (stands_more old at.so_far path (served_bytes digest old_note known path) (copy.holds path listed)
            (λ other has. absurd (not_file digest tip.size b.next path other
            (subst (λ k. IsFileOf k path) long ((files_are_all (length known) path).0 listed))
            (so_far_new part (path, other) has))));
      })
    ]

pub bringing_makes_copy : BringingMakesCopy
bringing_makes_copy digest origin note tip edge known old new short held long larger b head =
    makes digest origin note tip edge known old new short held long larger b head

-- the tiles and bundles of a copy are on the shelf
pub copy_files : (digest : List ℕ → List ℕ) (origin note : List ℕ) (entries : List (List ℕ)) (puts : List Put) →
    IsCopy digest origin note entries puts → HoldsFiles digest entries puts
copy_files digest origin note entries puts copy Checkpoint other listed = absurd (other refl)
copy_files digest origin note entries puts copy (Tile level index width) other listed =
    copy.holds (Tile level index width) listed
copy_files digest origin note entries puts copy (Entries index width) other listed =
    copy.holds (Entries index width) listed

pub bringing_stays_copy : BringingStaysCopy
bringing_stays_copy digest origin old_note note tip edge known old new now copy long larger b head at =
    stays digest origin note tip edge known old new copy.short
    (copy_files digest origin old_note known old copy) long larger b head old_note copy now at
