-- The files of a copy whose partial files may be replaced by full ones.
use Rattle.std.proofs.Common.{◌≡◌, ◌≢◌, ◌⊎◌, ℕ, suc, ◌+◌, ◌*◌, ◌/◌, ◌^◌, ◌<◌, ◌≤◌, List, [], ◌∷◌, ◌++◌, length, map, take, drop, get_or}
use Rattle.std.proofs.Common.{All, refl, sym, ap, subst, ◌∙◌, append_assoc, inl, inr, arith}
use Rattle.std.specs.List.{Contains}
use Rattle.std.proofs.Math.Nat.{le-div_iff_mul-le}
use Rattle.std.proofs.Math.Seq.{drop-cons}
use Rattle.std.proofs.lemmas.Bool.{cases_eq, cases_lt}
use Rattle.std.proofs.lemmas.List.{take-append-drop}
use Rattle.std.proofs.lemmas.List.Elements.{All-cons, All-contains, All-contains_itself, All-map, All-nil, All-weaker}
use Rattle.std.proofs.lemmas.List.Elements.{Contains-append_cases, Contains-append_right}
use Rattle.tlog_shape.specs.Edge.{edge_index_of, IsTile, width_of}
use Rattle.tlog_shape.proofs.Levels.{level_positive}
use Rattle.tlog_tiles.specs.declared.paths.Path.{Path}
use Rattle.tlog_tiles.specs.declared.paths.Path.TheVariants.{Checkpoint, Tile, Entries}
use Rattle.tlog_tiles.specs.Tiles.{IsWithin}
use Rattle.tlog_tiles.proofs.EdgeLemmas.{contains_none, contains_one}
use Rattle.mirror_model.specs.Strings.{IsDigest}
use Rattle.mirror_model.specs.TrueLaws.{AreShort}
use Rattle.mirror_sources.specs.Files.{full_of}
use Rattle.mirror_sources.specs.Honest.{true_bytes}
use Rattle.mirror_folders.specs.Shelf.{HasPut, Put, Stands}
use Rattle.mirror_folders.specs.Files.{paths_of, served_bytes}
use Rattle.mirror_folders.specs.FileLaws.{IsWidestIn}
use Rattle.mirror_folders.specs.Holding.{HoldsFiles}
use Rattle.mirror_folders.proofs.AllFiles.{files_are_all, full_widest, partial_widest, widest_before, widest_last}
use Rattle.mirror_folders.proofs.Standing.{has_after}
use Rattle.mirror_folders.proofs.Standing.{put_has, stands_more}
use Rattle.log_reader.specs.Holding.{GoesOn, IsTreeFile}
use Rattle.copy_follow.specs.Copies.{IsCopy}
use Rattle.copy_follow.specs.Growing.{IsNewFile}
use Rattle.copy_follow.specs.Pruned.{CopiesArePruned, EachFileStands, HasGivenWay, IsPrunedCopy}
use Rattle.copy_places.proofs.Cutting.{full_begins}
use Rattle.copy_places.proofs.Prefixes.{bytes_front}

-- ---- the files of a tree are those of a log

full_index : (n level index : ℕ) → (index + 1) * 256 ^ (level + 1) ≤ n → index < edge_index_of n level
full_index n level index fits =
    let le : index + 1 ≤ n / 256 ^ (level + 1) = (le-div_iff_mul-le (level_positive (level + 1))).1 fits in
    omega (arith, le)

not_zero : (w v : ℕ) → 0 < w → w ≡ v → v ≢ 0
not_zero w v some is none = omega (arith, some, is, none)

tile_widest : (n level index width : ℕ) → level ≤ 7 → IsTile n level index width → IsWidestIn n level index width
tile_widest n level index width low (inl full) =
    subst (λ w. IsWidestIn n level index w) (sym full.width_is)
    (full_widest n level index low (full_index n level index full.fits))
tile_widest n level index width low (inr part) =
    subst (λ w. IsWidestIn n level index w) (sym part.width_is)
    (subst (λ i. IsWidestIn n level i (width_of n level)) (sym part.index_is)
    (partial_widest n level low (not_zero width (width_of n level) part.some part.width_is)))

widest_tile : (n level index width : ℕ) → IsWidestIn n level index width → IsTile n level index width
widest_tile n level index width h = elim (cases_lt index (edge_index_of n level)) [
  | inl before ↦
      let f = widest_before n level index width h before in
      let below = f.below in
      let le : index + 1 ≤ n / 256 ^ (level + 1) = omega (arith, below) in
      inl (record { fits = (le-div_iff_mul-le (level_positive (level + 1))).0 le; width_is = f.width_is })
  | inr last ↦
      let p = widest_last n level index width h last in
      let some = h.within.some in
      inr (record { index_is = p.index_is; width_is = p.width_is; some = omega (arith, some) })
]

pub file_listed : (n : ℕ) (path : Path) → IsTreeFile n path → Contains (paths_of n) path
file_listed n Checkpoint file = absurd file
file_listed n (Tile level index width) file =
    (files_are_all n (Tile level index width)).1 (tile_widest n level index width file.0 file.1)
file_listed n (Entries index width) file =
    (files_are_all n (Entries index width)).1 (tile_widest n 0 index width (omega arith) file)

pub listed_file : (n : ℕ) (path : Path) → path ≢ Checkpoint → Contains (paths_of n) path → IsTreeFile n path
listed_file n Checkpoint other h = absurd (other refl)
listed_file n (Tile level index width) other h =
    let w = (files_are_all n (Tile level index width)).0 h in
    (w.within.level_fits, widest_tile n level index width w)
listed_file n (Entries index width) other h = widest_tile n 0 index width ((files_are_all n (Entries index width)).0 h)

pub file_within : (n : ℕ) (path : Path) → IsTreeFile n path → IsWithin n path
file_within n Checkpoint file = absurd file
file_within n (Tile level index width) file = (tile_widest n level index width file.0 file.1).within
file_within n (Entries index width) file = (tile_widest n 0 index width (omega arith) file).within

no_checkpoint : (n : ℕ) (path : Path) → IsTreeFile n path → path ≢ Checkpoint
no_checkpoint n Checkpoint file e = absurd file
no_checkpoint n (Tile level index width) file e = cc
no_checkpoint n (Entries index width) file e = cc

full_no_checkpoint : (n : ℕ) (path : Path) → IsTreeFile n path → full_of path ≢ Checkpoint
full_no_checkpoint n Checkpoint file e = absurd file
full_no_checkpoint n (Tile level index width) file e = cc
full_no_checkpoint n (Entries index width) file e = cc

-- ---- a copy with all its files

tree_stands : (digest : List ℕ → List ℕ) (origin note : List ℕ) (entries : List (List ℕ)) (puts : List Put) →
    IsCopy digest origin note entries puts → (path : Path) → IsTreeFile (length entries) path →
    Stands puts path (true_bytes digest entries path)
tree_stands digest origin note entries puts copy Checkpoint file = absurd file
tree_stands digest origin note entries puts copy (Tile level index width) file =
    copy.holds (Tile level index width) (file_listed (length entries) (Tile level index width) file)
tree_stands digest origin note entries puts copy (Entries index width) file =
    copy.holds (Entries index width) (file_listed (length entries) (Entries index width) file)

tree_held : (digest : List ℕ → List ℕ) (entries : List (List ℕ)) (puts : List Put) → HoldsFiles digest entries puts →
    (path : Path) → IsTreeFile (length entries) path → Stands puts path (true_bytes digest entries path)
tree_held digest entries puts holds Checkpoint file = absurd file
tree_held digest entries puts holds (Tile level index width) file =
    holds (Tile level index width) (no_checkpoint (length entries) (Tile level index width) file)
    (file_listed (length entries) (Tile level index width) file)
tree_held digest entries puts holds (Entries index width) file =
    holds (Entries index width) (no_checkpoint (length entries) (Entries index width) file)
    (file_listed (length entries) (Entries index width) file)

note_there : (digest : List ℕ → List ℕ) (origin note : List ℕ) (entries : List (List ℕ)) (puts : List Put) →
    IsCopy digest origin note entries puts → Stands puts Checkpoint note
note_there digest origin note entries puts copy =
    copy.holds Checkpoint ((files_are_all (length entries) Checkpoint).1 tt)

pub copies_are_pruned : CopiesArePruned
copies_are_pruned digest origin note entries puts copy = record {
  short = copy.short;
  is_head = copy.is_head;
  note_stands = note_there digest origin note entries puts copy;
  files = λ path file. inl (tree_stands digest origin note entries puts copy path file);
}

-- ---- puts before others

pub stands_behind : (gone puts : List Put) (path : Path) (bytes : List ℕ) → Stands puts path bytes →
    Stands (gone ++ puts) path bytes
stands_behind gone puts path bytes h = record {
  before = gone ++ h.before;
  after = h.after;
  puts_are = ap (λ (l : List Put). gone ++ l) h.puts_are ∙ sym (append_assoc gone h.before ((path, bytes) ∷ h.after));
  kept = h.kept;
}

tail_stands : (x : Put) (puts : List Put) (path : Path) (bytes : List ℕ) → Stands (x ∷ puts) path bytes →
    (x ≡ (path, bytes)) ⊎ Stands puts path bytes
tail_stands x puts path bytes h = by h.before h.puts_are
  where
    by : (before : List Put) → x ∷ puts ≡ before ++ (path, bytes) ∷ h.after → (x ≡ (path, bytes)) ⊎ Stands puts path bytes
    by [] e = inl (ap (λ (l : List Put). get_or l 0 x) e)
    by (y ∷ before) e = inr (record {
      before = before;
      after = h.after;
      puts_are = ap (λ (l : List Put). drop (suc 0) l) e;
      kept = h.kept;
    })

pub stands_split : (gone puts : List Put) (path : Path) (bytes : List ℕ) → Stands (gone ++ puts) path bytes →
    Contains gone (path, bytes) ⊎ Stands puts path bytes
stands_split [] puts path bytes h = inr h
stands_split (x ∷ gone) puts path bytes h = elim (tail_stands x (gone ++ puts) path bytes h) [
  | inl e ↦ inl (0, omega arith, e)
  | inr rest ↦ elim (stands_split gone puts path bytes rest) [
    | inl has ↦ inl (Contains-append_right (x ∷ []) gone (path, bytes) has)
    | inr there ↦ inr there
  ]
]

-- ---- replaced partial files, as if they had been put first

checkpoint_case : (path : Path) → (path ≡ Checkpoint) ⊎ (path ≢ Checkpoint)
checkpoint_case Checkpoint = inl refl
checkpoint_case (Tile level index width) = inr (λ e. cc)
checkpoint_case (Entries index width) = inr (λ e. cc)

module _ (digest : List ℕ → List ℕ) (entries : List (List ℕ)) (held : List Put) where
  -- the true bytes of a partial file that was replaced by its full one
  pub record IsGone (put : Put) : Type 0 where
    pub file : IsTreeFile (length entries) put.0
    pub way : HasGivenWay digest entries held put.0
    pub bytes_are : put.1 ≡ true_bytes digest entries put.0

  -- after such puts, each of the files is on the shelf
  pub record IsFilled (paths : List Path) : Type 0 where
    pub gone : List Put
    pub are : All IsGone gone
    pub stands : (path : Path) → path ≢ Checkpoint → Contains paths path →
        Stands (gone ++ held) path (true_bytes digest entries path)

  module _ (files : EachFileStands digest entries held) where
    one_more : (p : Path) (paths : List Path) → IsFilled paths → (p ≢ Checkpoint → IsTreeFile (length entries) p) →
        IsFilled (p ∷ paths)
    one_more p paths r file = elim (checkpoint_case p) [
      | inl is ↦ record {
        gone = r.gone;
        are = r.are;
        stands = λ path other has. elim (Contains-append_cases (p ∷ []) paths path has) [
          | inl head ↦ absurd (other (sym (contains_one p path head) ∙ is))
          | inr tail ↦ r.stands path other tail
        ];
      }
      | inr tile ↦ elim (files p (file tile)) [
        | inl there ↦ record {
          gone = r.gone;
          are = r.are;
          stands = λ path other has. elim (Contains-append_cases (p ∷ []) paths path has) [
            | inl head ↦ subst (λ (q : Path). Stands (r.gone ++ held) q (true_bytes digest entries q)) (contains_one p path head)
                (stands_behind r.gone held p (true_bytes digest entries p) there)
            | inr tail ↦ r.stands path other tail
          ];
        }
        | inr way ↦
            let put : Put = (p, true_bytes digest entries p) in
            let first : Stands (put ∷ (r.gone ++ held)) p (true_bytes digest entries p) = record {
              before = [];
              after = r.gone ++ held;
              puts_are = refl;
              kept = λ other has. elim (Contains-append_cases r.gone held (p, other) has) [
                | inl g ↦ (All-contains IsGone r.gone (p, other) r.are g).bytes_are
                | inr h ↦ absurd (way.gone (put_has held p other h))
              ];
            } in
            record {
              gone = put ∷ r.gone;
              are = All-cons IsGone put r.gone (record { file = file tile; way = way; bytes_are = refl }) r.are;
              stands = λ path other has. elim (Contains-append_cases (p ∷ []) paths path has) [
                | inl head ↦ subst (λ (q : Path). Stands (put ∷ (r.gone ++ held)) q (true_bytes digest entries q))
                    (contains_one p path head) first
                | inr tail ↦ stands_behind (put ∷ []) (r.gone ++ held) path (true_bytes digest entries path)
                    (r.stands path other tail)
              ];
            }
      ]
    ]

    filled : (paths : List Path) → ((path : Path) → Contains paths path → path ≢ Checkpoint → IsTreeFile (length entries) path) →
        IsFilled paths
    filled [] each = record {
      gone = [];
      are = All-nil IsGone;
      stands = λ path other has. absurd (contains_none path has);
    }
    filled (p ∷ paths) each =
        one_more p paths (filled paths (λ path has. each path (Contains-append_right (p ∷ []) paths path has)))
        (λ other. each p (0, omega arith, refl) other)

    pub all_filled : IsFilled (paths_of (length entries))
    all_filled = filled (paths_of (length entries)) (λ path has other. listed_file (length entries) path other has)

-- after such puts, the shelf has a copy with all its files
pub filled_copy : (digest : List ℕ → List ℕ) (origin note : List ℕ) (entries : List (List ℕ)) (held : List Put) →
    IsPrunedCopy digest origin note entries held → (f : IsFilled digest entries held (paths_of (length entries))) →
    IsCopy digest origin note entries (f.gone ++ held)
filled_copy digest origin note entries held copy f =
    record { short = copy.short; is_head = copy.is_head; holds = λ path listed. holds path listed }
  where
    holds : (path : Path) → Contains (paths_of (length entries)) path →
        Stands (f.gone ++ held) path (served_bytes digest note entries path)
    holds Checkpoint listed = stands_behind f.gone held Checkpoint note copy.note_stands
    holds (Tile level index width) listed =
        f.stands (Tile level index width) (λ e. cc) listed
    holds (Entries index width) listed = f.stands (Entries index width) (λ e. cc) listed

-- ---- back to the copy without these puts

module _ (digest : List ℕ → List ℕ) (origin : List ℕ) (known : List (List ℕ)) (held gone : List Put)
    (are : All (IsGone digest known held) gone) (now : List Put)
    (later : (path : Path) → IsTreeFile (length known) path → HasGivenWay digest known held path →
    HasGivenWay digest known now path) where
  module _ (entries : List (List ℕ))
      (same : (path : Path) → IsWithin (length known) path → true_bytes digest entries path ≡ true_bytes digest known path) where
    way_back : (path : Path) → IsWithin (length known) path → HasGivenWay digest known now path →
        HasGivenWay digest entries now path
    way_back path within way = record {
      partial = way.partial;
      gone = way.gone;
      full = way.full;
      stands = way.stands;
      begins = subst (λ b. GoesOn path b way.full) (sym (same path within)) way.begins;
    }

    files_back : ((path : Path) → IsTreeFile (length entries) path → Stands (gone ++ now) path (true_bytes digest entries path)) →
        EachFileStands digest entries now
    files_back stands path file = elim (stands_split gone now path (true_bytes digest entries path) (stands path file)) [
      | inl has ↦
          let g = All-contains (IsGone digest known held) gone (path, true_bytes digest entries path) are has in
          inr (way_back path (file_within (length known) path g.file) (later path g.file g.way))
      | inr there ↦ inl there
    ]

    pub copy_back : (note : List ℕ) → IsCopy digest origin note entries (gone ++ now) →
        IsPrunedCopy digest origin note entries now
    copy_back note copy = record {
      short = copy.short;
      is_head = copy.is_head;
      note_stands = elim (stands_split gone now Checkpoint note (note_there digest origin note entries (gone ++ now) copy)) [
        | inl has ↦ absurd (All-contains (IsGone digest known held) gone (Checkpoint, note) are has).file
        | inr there ↦ there
      ];
      files = files_back (λ path file. tree_stands digest origin note entries (gone ++ now) copy path file);
    }

  pub kept_back : HoldsFiles digest known (gone ++ now) → EachFileStands digest known now
  kept_back holds = files_back known (λ path within. refl) (λ path file. tree_held digest known (gone ++ now) holds path file)

-- ---- a replaced file, as more is put

same_path : (a b : Path) → (a ≡ b) ⊎ (a ≢ b)
same_path Checkpoint Checkpoint = inl refl
same_path Checkpoint (Tile level index width) = inr (λ e. cc)
same_path Checkpoint (Entries index width) = inr (λ e. cc)
same_path (Tile level index width) Checkpoint = inr (λ e. cc)
same_path (Tile level index width) (Entries i w) = inr (λ e. cc)
same_path (Tile level index width) (Tile l i w) = elim (cases_eq level l) [
  | inr other ↦ inr (λ e. other (cc e))
  | inl x ↦ elim (cases_eq index i) [
    | inr other ↦ inr (λ e. other (cc e))
    | inl y ↦ elim (cases_eq width w) [
      | inr other ↦ inr (λ e. other (cc e))
      | inl z ↦ inl (λ j. Tile (x j) (y j) (z j))
    ]
  ]
]
same_path (Entries index width) Checkpoint = inr (λ e. cc)
same_path (Entries index width) (Tile l i w) = inr (λ e. cc)
same_path (Entries index width) (Entries i w) = elim (cases_eq index i) [
  | inr other ↦ inr (λ e. other (cc e))
  | inl y ↦ elim (cases_eq width w) [
    | inr other ↦ inr (λ e. other (cc e))
    | inl z ↦ inl (λ j. Entries (y j) (z j))
  ]
]

-- something was put at the path, or nothing was
put_case : (puts : List Put) (path : Path) → (HasPut puts path → ⊥) ⊎ ((bytes : List ℕ) × Contains puts (path, bytes))
put_case [] path = inl (λ has. contains_none path has)
put_case (put ∷ puts) path = elim (same_path put.0 path) [
  | inl is ↦ inr (put.1, (0, omega arith, λ i. (is i, put.1)))
  | inr other ↦ elim (put_case puts path) [
    | inl none ↦ inl (λ has.
        elim (Contains-append_cases (put.0 ∷ []) (map (λ (p : Put). p.0) puts) path has)
        [ inl head ↦ other (contains_one put.0 path head) | inr tail ↦ none tail ])
    | inr there ↦ inr (there.0, Contains-append_right (put ∷ []) puts (path, there.0) there.1)
  ]
]

none_put : (puts : List Put) (path : Path) → ((put : Put) → Contains puts put → put.0 ≢ path) → HasPut puts path → ⊥
none_put puts path never has =
    All-contains (λ (p : Path). p ≢ path) (map (λ (put : Put). put.0) puts) path
    (All-map (λ (p : Path). p ≢ path) (λ (put : Put). put.0) puts
    (All-weaker (Contains puts) (λ (put : Put). put.0 ≢ path) never puts (All-contains_itself puts))) has refl

-- the last put at the path, if all puts there have the same bytes
stands_put : (held so_far : List Put) (path : Path) (bytes : List ℕ) → Contains so_far (path, bytes) →
    ((other : List ℕ) → Contains so_far (path, other) → other ≡ bytes) → Stands (held ++ so_far) path bytes
stands_put held so_far path bytes has same =
    let k = has.0 in
    let put : Put = (path, bytes) in
    let rest = drop (suc k) so_far in
    let cut : so_far ≡ take k so_far ++ put ∷ rest =
    sym (take-append-drop k so_far)
    ∙ ap (λ (l : List Put). take k so_far ++ l) (drop-cons so_far k put has.1 ∙ ap (λ (x : Put). x ∷ rest) has.2) in
    record {
      before = held ++ take k so_far;
      after = rest;
      puts_are = ap (λ (l : List Put). held ++ l) cut ∙ sym (append_assoc held (take k so_far) (put ∷ rest));
      kept = λ other later. same other (subst (λ (l : List Put). Contains l (path, other)) (take-append-drop (suc k) so_far)
          (Contains-append_right (take (suc k) so_far) rest (path, other) later));
    }

module _ (digest : List ℕ → List ℕ) (hash : IsDigest digest) (m : ℕ) (known more next : List (List ℕ)) (long : length known ≡ m)
    (next_is : next ≡ known ++ more) (short : AreShort next) (held so_far now : List Put) (is : now ≡ held ++ so_far)
    (puts : (put : Put) → Contains so_far put → IsNewFile digest m next put ⊎ (put.0 ≡ Checkpoint)) where
  not_put : (path : Path) → IsTreeFile (length known) path → (put : Put) → Contains so_far put → put.0 ≢ path
  not_put path file put has e = elim (puts put has) [
    | inl new ↦ new.new (subst (λ (p : Path). IsWithin m p) (sym e)
        (subst (λ k. IsWithin k path) long (file_within (length known) path file)))
    | inr last ↦ no_checkpoint (length known) path file (sym e ∙ last)
  ]

  put_true : (path : Path) → path ≢ Checkpoint → (bytes : List ℕ) → Contains so_far (path, bytes) →
      bytes ≡ true_bytes digest next path
  put_true path other bytes has =
      elim (puts (path, bytes) has) [ inl new ↦ new.bytes_are | inr last ↦ absurd (other last) ]

  put_within : (path : Path) → path ≢ Checkpoint → (bytes : List ℕ) → Contains so_far (path, bytes) → IsWithin (length next) path
  put_within path other bytes has =
      elim (puts (path, bytes) has) [ inl new ↦ new.within | inr last ↦ absurd (other last) ]

  pub given_later : (path : Path) → IsTreeFile (length known) path → HasGivenWay digest known held path →
      HasGivenWay digest known now path
  given_later path file way =
      let within = file_within (length known) path file in
      let gone : HasPut now path → ⊥ = λ has.
      none_put so_far path (not_put path file)
      (has_after held so_far path way.gone (subst (λ (l : List Put). HasPut l path) is has)) in
      let tile = full_no_checkpoint (length known) path file in
      elim (put_case so_far (full_of path)) [
        | inl none ↦ record {
          partial = way.partial;
          gone = gone;
          full = way.full;
          stands = subst (λ (l : List Put). Stands l (full_of path) way.full) (sym is)
              (stands_more held so_far (full_of path) way.full way.stands
              (λ other has. absurd (none (put_has so_far (full_of path) other has))));
          begins = way.begins;
        }
        | inr there ↦
            let bytes = true_bytes digest next (full_of path) in
            let same : there.0 ≡ bytes = put_true (full_of path) tile there.0 there.1 in
            record {
              partial = way.partial;
              gone = gone;
              full = bytes;
              stands = subst (λ (l : List Put). Stands l (full_of path) bytes) (sym is)
                  (stands_put held so_far (full_of path) bytes
                  (subst (λ (b : List ℕ). Contains so_far (full_of path, b)) same there.1)
                  (λ other has. put_true (full_of path) tile other has));
              begins = subst (λ (b : List ℕ). GoesOn path b bytes)
                  (ap (λ (l : List (List ℕ)). true_bytes digest l path) next_is ∙ bytes_front digest known more path within)
                  (full_begins digest hash next short (length known) path within
                  (put_within (full_of path) tile there.0 there.1));
            }
      ]
