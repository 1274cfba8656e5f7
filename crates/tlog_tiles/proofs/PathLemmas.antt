-- A text determines its path, and a path determines its text.
use Rattle.std.proofs.Common.{◌≡◌, ◌≢◌, ◌↔◌, ◌⊎◌, ℕ, Bool, if◌then◌else◌, ◌+◌, ◌^◌, ◌<◌, ◌≤◌, List, [], ◌∷◌, ◌++◌}
use Rattle.std.proofs.Common.{length, get_or, All, Option, Some, None, Result, Ok, Err, codes, refl, sym, ap, subst}
use Rattle.std.proofs.Common.{◌∙◌, inl, inr, append_assoc, arith}
use Rattle.std.specs.Fmt.{decimal}
use Rattle.std.proofs.lemmas.Bool.Decides.{eqb_tells}
use Rattle.std.proofs.lemmas.Fmt.{decimal_digit, decimal_injective, decimal_is_IsNumeral}
use Rattle.std.proofs.lemmas.Str.Parse.{digit_at}
use Rattle.std.proofs.lemmas.List.{append-nil, append_cancel_left, append_cancel_right, get_or_at, length-append}
use Rattle.std.proofs.lemmas.List.Elements.{All-nil, All-cons, All-from_get_or}
use Rattle.tlog_tiles.specs.declared.paths.Path.{Path}
use Rattle.tlog_tiles.specs.declared.paths.Path.TheVariants.{Checkpoint, Tile, Entries}
use Rattle.tlog_tiles.specs.declared.paths.PathFault.{PathFault}
use Rattle.tlog_tiles.specs.declared.paths.PathFault.TheVariants.{Unknown, BadLevel, BadIndex, BadWidth}
use Rattle.tlog_tiles.specs.declared.paths.TheConstants.{MAX_INDEX}
use Rattle.tlog_tiles.specs.Path.{index_text, width_text, path_text, HasNoSlash, HasWidthPart, IsBelowTile, IsIndex}
use Rattle.tlog_tiles.specs.Path.{IsKind, IsLawfulPath, IsPath, IsFileText, IsWidthOf, HasBadLevel, HasBadIndex}
use Rattle.tlog_tiles.specs.Path.{HasBadWidth, ReadsPath}
use Rattle.tlog_tiles.proofs.TextLemmas.{first_cut, last_cut, width_cut}
use Rattle.tlog_tiles.proofs.IndexLemmas.{index_one}
use Rattle.tlog_tiles.proofs.GroupLemmas.{index_spelled, index_written, index-dot}

-- ---- the text determines its parts

pub below_one : (text s t u v : List ℕ) → IsBelowTile text s t → IsBelowTile text u v → (s ≡ u) × (t ≡ v)
below_one text s t u v p q =
    let whole : codes "tile/" ++ (s ++ 47 ∷ t) ≡ codes "tile/" ++ (u ++ 47 ∷ v) =
    sym (append_assoc (codes "tile/") s (47 ∷ t)) ∙
    (sym p.text_is ∙ (q.text_is ∙ append_assoc (codes "tile/") u (47 ∷ v))) in
    first_cut s u t v p.second_is q.second_is (append_cancel_left (codes "tile/") (s ++ 47 ∷ t) (u ++ 47 ∷ v) whole)

pub width_part_one : (tail i j : List ℕ) (w v : Option (List ℕ)) → HasWidthPart tail i w → HasWidthPart tail j v →
    (i ≡ j) × (w ≡ v)
width_part_one tail i j None None p q = (sym p.0 ∙ q.0, refl)
width_part_one tail i j None (Some v) p q = absurd (p.1 j v q.1 q.0)
width_part_one tail i j (Some w) None p q = absurd (q.1 i w p.1 p.0)
width_part_one tail i j (Some w) (Some v) p q =
    let one =
    last_cut (i ++ codes ".p") (j ++ codes ".p") w v p.1 q.1
    (sym (width_cut i w) ∙ (sym p.0 ∙ (q.0 ∙ width_cut j v))) in
    (append_cancel_right i j (codes ".p") one.0, ap (λ (x : List ℕ). Some x) one.1)

pub width_one : (text : Option (List ℕ)) (w v : ℕ) → IsWidthOf text w → IsWidthOf text v → w ≡ v
width_one None w v p q = p ∙ sym q
width_one (Some text) w v p q =
    decimal_injective w v (omega (arith, p.partial)) (omega (arith, q.partial)) (sym p.text_is ∙ q.text_is)

-- ---- the text of a path is the printed one

width_text-full : (w : ℕ) → w ≡ 256 → width_text w ≡ []
width_text-full w e = ap width_text e

width_text-partial : (w : ℕ) → w ≢ 256 → width_text w ≡ codes ".p/" ++ decimal w
width_text-partial w apart = elim (eqb_tells w 256) [
  | inl same ↦ absurd (apart same.1)
  | inr other ↦ ap (λ (b : Bool). if b then [] else codes ".p/" ++ decimal w) other.0
]

tail_spelled : (tail text : List ℕ) (width_of : Option (List ℕ)) (index width : ℕ) → HasWidthPart tail text width_of →
    IsIndex text index → IsWidthOf width_of width → tail ≡ index_text index ++ width_text width
tail_spelled tail text None index width p i w =
    p.0 ∙ (index_spelled text index i ∙
    (sym (append-nil (index_text index)) ∙
    ap (λ (x : List ℕ). index_text index ++ x) (sym (width_text-full width w))))
tail_spelled tail text (Some digits) index width p i w =
    let apart : width ≢ 256 = λ e. omega (arith, w.partial) in
    p.0 ∙ (append_assoc text (codes ".p/") digits ∙
    (λ k. index_spelled text index i k
    ++ (ap (λ (x : List ℕ). codes ".p/" ++ x) w.text_is ∙ sym (width_text-partial width apart)) k))

width_least : (text : Option (List ℕ)) (w : ℕ) → IsWidthOf text w → 1 ≤ w
width_least None w e = omega arith
width_least (Some text) w h = h.some

width_most : (text : Option (List ℕ)) (w : ℕ) → IsWidthOf text w → w ≤ 256
width_most None w e = omega arith
width_most (Some text) w h = omega (arith, h.partial)

served_spelled : (second text : List ℕ) (index width : ℕ) → IsFileText second text index width →
    text ≡ codes "tile/" ++ (second ++ 47 ∷ (index_text index ++ width_text width))
served_spelled second text index width h =
    h.below.text_is ∙
    (append_assoc (codes "tile/") second (47 ∷ h.tail) ∙
    ap (λ (x : List ℕ). codes "tile/" ++ (second ++ 47 ∷ x))
    (tail_spelled h.tail h.index_text h.width_text index width h.parts h.index_is h.width_is))

level_digit : (level : ℕ) → level ≤ 7 → decimal level ≡ (48 + level) ∷ []
level_digit level p = decimal_digit level (omega arith)

pub spelled : (text : List ℕ) (path : Path) → IsPath text path → IsLawfulPath path × (text ≡ path_text path)
spelled text Checkpoint h = (tt, h)
spelled text (Tile level index width) h =
    let s = h.1 in (
      (h.0, s.index_fits, width_least s.width_text width s.width_is, width_most s.width_text width s.width_is),
      served_spelled ((48 + level) ∷ []) text index width s ∙
          ap (λ (x : List ℕ). codes "tile/" ++ (x ++ 47 ∷ (index_text index ++ width_text width)))
          (sym (level_digit level h.0)),
    )
spelled text (Entries index width) h = (
  (h.index_fits, width_least h.width_text width h.width_is, width_most h.width_text width h.width_is),
  served_spelled (codes "entries") text index width h,
)

-- ---- the printed text spells the path

no_dot : (text front last : List ℕ) → All (λ c. c ≢ 46) text → text ≡ front ++ codes ".p/" ++ last → ⊥
no_dot text front last none e =
    let whole : text ≡ front ++ 46 ∷ (112 ∷ 47 ∷ last) = e ∙ append_assoc front (codes ".p/") last in
    let long : length text ≡ length front + length (46 ∷ (112 ∷ 47 ∷ last)) =
    ap length whole ∙ length-append front (46 ∷ (112 ∷ 47 ∷ last)) in
    none (length front) 0 (omega arith)
    (ap (λ (x : List ℕ). get_or x (length front) 0) whole ∙
    get_or_at front 46 (112 ∷ 47 ∷ last) 0 (length front) refl)

no_slash-decimal : (w : ℕ) → w < 2 ^ 64 → HasNoSlash (decimal w)
no_slash-decimal w p =
    All-from_get_or (λ (c : ℕ). c ≢ 47) (decimal w) 0
    (λ i q e. let at = digit_at (decimal w) i (decimal_is_IsNumeral w p).0.1 q in let least = at.0 in omega arith)

served : (second text : List ℕ) (index width : ℕ) → HasNoSlash second → index ≤ MAX_INDEX → 1 ≤ width → width ≤ 256 →
    text ≡ codes "tile/" ++ (second ++ 47 ∷ (index_text index ++ width_text width)) → IsFileText second text index width
served second text index width plain fits some upto e = elim (eqb_tells width 256) [
  | inl full ↦ record {
    tail = index_text index ++ width_text width;
    index_text = index_text index;
    width_text = None;
    below = record {
      text_is =
          e ∙ sym (append_assoc (codes "tile/") second (47 ∷ (index_text index ++ width_text width)));
      second_is =
          plain;
    };
    parts = let same : index_text index ++ width_text width ≡ index_text index =
        ap (λ (x : List ℕ). index_text index ++ x) (width_text-full width full.1) ∙
        append-nil (index_text index) in (
          same,
          λ front last p h. no_dot (index_text index) front last
              (index-dot (index_text index) index (index_written index)) (sym same ∙ h),
        );
    index_is = index_written index;
    index_fits = fits;
    width_is = full.1;
  }
  | inr other ↦ record {
    tail = index_text index ++ width_text width;
    index_text = index_text index;
    width_text = Some (decimal width);
    below = record {
      text_is =
          e ∙ sym (append_assoc (codes "tile/") second (47 ∷ (index_text index ++ width_text width)));
      second_is =
          plain;
    };
    parts = (
      ap (λ (x : List ℕ). index_text index ++ x) (width_text-partial width other.1) ∙
          sym (append_assoc (index_text index) (codes ".p/") (decimal width)),
      no_slash-decimal width (omega arith),
    );
    index_is = index_written index;
    index_fits = fits;
    width_is = record { some = some; partial = (let apart = other.1 in omega arith); text_is = refl };
  }
]

no_slash-digit : (level : ℕ) → HasNoSlash ((48 + level) ∷ [])
no_slash-digit level = All-cons (λ (c : ℕ). c ≢ 47) (48 + level) [] (λ e. omega arith) (All-nil (λ (c : ℕ). c ≢ 47))

no_slash-entries : HasNoSlash (codes "entries")
no_slash-entries =
    let P : ℕ → Type 0 = λ c. c ≢ 47 in
    All-cons P 101 (codes "ntries") (λ e. omega arith)
    (All-cons P 110 (codes "tries") (λ e. omega arith)
    (All-cons P 116 (codes "ries") (λ e. omega arith)
    (All-cons P 114 (codes "ies") (λ e. omega arith)
    (All-cons P 105 (codes "es") (λ e. omega arith)
    (All-cons P 101 (codes "s") (λ e. omega arith)
    (All-cons P 115 [] (λ e. omega arith) (All-nil P)))))))

pub written : (text : List ℕ) (path : Path) → IsLawfulPath path × (text ≡ path_text path) → IsPath text path
written text Checkpoint h = h.1
written text (Tile level index width) h =
    let l = h.0 in (
      l.0,
      served ((48 + level) ∷ []) text index width (no_slash-digit level) l.1 l.2 l.3
          (h.1 ∙ ap (λ (x : List ℕ). codes "tile/" ++ (x ++ 47 ∷ (index_text index ++ width_text width)))
          (level_digit level l.0)),
    )
written text (Entries index width) h =
    let l = h.0 in
    served (codes "entries") text index width no_slash-entries l.0 l.1 l.2 h.1

pub paths_spelled : (text : List ℕ) (path : Path) → IsPath text path ↔ (IsLawfulPath path × (text ≡ path_text path))
paths_spelled text path = (spelled text path, written text path)

-- ---- a text has only one answer

served_one : (text s u : List ℕ) (i j w v : ℕ) → IsFileText s text i w → IsFileText u text j v →
    (s ≡ u) × (i ≡ j) × (w ≡ v)
served_one text s u i j w v p q =
    let below = below_one text s p.tail u q.tail p.below q.below in
    let parts =
    width_part_one p.tail p.index_text q.index_text p.width_text q.width_text p.parts
    (subst (λ (x : List ℕ). HasWidthPart x q.index_text q.width_text) (sym below.1) q.parts) in (
      below.0,
      index_one p.index_text i j p.index_is (subst (λ (x : List ℕ). IsIndex x j) (sym parts.0) q.index_is),
      width_one p.width_text w v p.width_is (subst (λ (x : Option (List ℕ)). IsWidthOf x v) (sym parts.1) q.width_is),
    )

-- `checkpoint` does not begin like the other paths
no_checkpoint : (text second tail : List ℕ) → text ≡ codes "checkpoint" → IsBelowTile text second tail → ⊥
no_checkpoint text second tail e h =
    let both : codes "checkpoint" ≡ codes "tile/" ++ second ++ 47 ∷ tail = sym e ∙ h.text_is in
    let first : ◌≡◌ {A = ℕ} 99 116 = cc in
    omega (arith, first)

path_one : (text : List ℕ) (a b : Path) → IsPath text a → IsPath text b → a ≡ b
path_one text Checkpoint Checkpoint p q = refl
path_one text Checkpoint (Tile l j v) p q = absurd (no_checkpoint text ((48 + l) ∷ []) q.1.tail p q.1.below)
path_one text Checkpoint (Entries j v) p q = absurd (no_checkpoint text (codes "entries") q.tail p q.below)
path_one text (Tile l j v) Checkpoint p q = absurd (no_checkpoint text ((48 + l) ∷ []) p.1.tail q p.1.below)
path_one text (Entries j v) Checkpoint p q = absurd (no_checkpoint text (codes "entries") p.tail q p.below)
path_one text (Tile l i w) (Tile m j v) p q =
    let one = served_one text ((48 + l) ∷ []) ((48 + m) ∷ []) i j w v p.1 q.1 in
    let digits = one.0 in
    let digit : 48 + l ≡ 48 + m = cc in
    let level : l ≡ m = omega arith in
    λ k. Tile (level k) (one.1 k) (one.2 k)
path_one text (Tile l i w) (Entries j v) p q =
    let same = (served_one text ((48 + l) ∷ []) (codes "entries") i j w v p.1 q).0 in absurd cc
path_one text (Entries i w) (Tile m j v) p q =
    let same = (served_one text (codes "entries") ((48 + m) ∷ []) i j w v p q.1).0 in absurd cc
path_one text (Entries i w) (Entries j v) p q =
    let one = served_one text (codes "entries") (codes "entries") i j w v p q in
    λ k. Entries (one.1 k) (one.2 k)

-- a path below tile/, of either kind
pub record IsFile (text : List ℕ) : Type 0 where
  pub second : List ℕ
  pub index : ℕ
  pub width : ℕ
  pub kind : IsKind second
  pub is_served : IsFileText second text index width

pub path_kind : (text : List ℕ) (path : Path) → IsPath text path → (text ≡ codes "checkpoint") ⊎ IsFile text
path_kind text Checkpoint h = inl h
path_kind text (Tile level index width) h =
    inr (record
    { second = (48 + level) ∷ []; index = index; width = width; kind = inl (level, h.0, refl); is_served = h.1 })
path_kind text (Entries index width) h =
    inr (record { second = codes "entries"; index = index; width = width; kind = inr refl; is_served = h })

abbrev pub IsUnknown : List ℕ → Type 0
IsUnknown text = (text ≢ codes "checkpoint") × ((second tail : List ℕ) → IsBelowTile text second tail → ⊥)

path_known : (text : List ℕ) (path : Path) → IsPath text path → IsUnknown text → ⊥
path_known text path p q =
    elim (path_kind text path p) [ inl c ↦ q.0 c | inr f ↦ q.1 f.second f.is_served.tail f.is_served.below ]

path_level : (text : List ℕ) (path : Path) → IsPath text path → HasBadLevel text → ⊥
path_level text path p q = elim (path_kind text path p) [
  | inl c ↦ no_checkpoint text q.second q.tail c q.below
  | inr f ↦ q.bad
      (subst IsKind (below_one text f.second f.is_served.tail q.second q.tail f.is_served.below q.below).0 f.kind)
]

-- the text determines the index and the width
parts_one : (text s t u v i j : List ℕ) (w x : Option (List ℕ)) → IsBelowTile text s t → IsBelowTile text u v →
    HasWidthPart t i w → HasWidthPart v j x → (i ≡ j) × (w ≡ x)
parts_one text s t u v i j w x p q a b =
    width_part_one t i j w x a (subst (λ (y : List ℕ). HasWidthPart y j x) (sym (below_one text s t u v p q).1) b)

path_index : (text : List ℕ) (path : Path) → IsPath text path → HasBadIndex text → ⊥
path_index text path p q = elim (path_kind text path p) [
  | inl c ↦ no_checkpoint text q.second q.tail c q.below
  | inr f ↦
      (let s = f.is_served in q.bad f.index s.index_fits
      (subst (λ (x : List ℕ). IsIndex x f.index)
      (parts_one text f.second s.tail q.second q.tail s.index_text q.index_text s.width_text q.width_text s.below
      q.below s.parts q.parts).0 s.index_is))
]

path_width : (text : List ℕ) (path : Path) → IsPath text path → HasBadWidth text → ⊥
path_width text path p q = elim (path_kind text path p) [
  | inl c ↦ no_checkpoint text q.second q.tail c q.below
  | inr f ↦
      (let s = f.is_served in q.bad f.width
      (subst (λ (x : Option (List ℕ)). IsWidthOf x f.width)
      (parts_one text f.second s.tail q.second q.tail s.index_text q.index_text s.width_text q.width_text s.below
      q.below s.parts q.parts).1 s.width_is))
]

level_index : (text : List ℕ) → HasBadLevel text → HasBadIndex text → ⊥
level_index text p q = p.bad (subst IsKind (below_one text q.second q.tail p.second p.tail q.below p.below).0 q.kind)

level_width : (text : List ℕ) → HasBadLevel text → HasBadWidth text → ⊥
level_width text p q = p.bad (subst IsKind (below_one text q.second q.tail p.second p.tail q.below p.below).0 q.kind)

index_width : (text : List ℕ) → HasBadIndex text → HasBadWidth text → ⊥
index_width text p q =
    p.bad q.index q.index_fits
    (subst (λ (x : List ℕ). IsIndex x q.index)
    (parts_one text q.second q.tail p.second p.tail q.index_text p.index_text q.width_text p.width_text q.below p.below
    q.parts p.parts).0 q.index_is)

pub path_answer_one : (text : List ℕ) (a b : Result Path PathFault) → ReadsPath text a → ReadsPath text b → a ≡ b
path_answer_one text (Ok a) (Ok b) p q = ap (λ (x : Path). Ok x) (path_one text a b p q)
path_answer_one text (Ok a) (Err Unknown) p q = absurd (path_known text a p q)
path_answer_one text (Ok a) (Err BadLevel) p q = absurd (path_level text a p q)
path_answer_one text (Ok a) (Err BadIndex) p q = absurd (path_index text a p q)
path_answer_one text (Ok a) (Err BadWidth) p q = absurd (path_width text a p q)
path_answer_one text (Err Unknown) (Ok b) p q = absurd (path_known text b q p)
path_answer_one text (Err BadLevel) (Ok b) p q = absurd (path_level text b q p)
path_answer_one text (Err BadIndex) (Ok b) p q = absurd (path_index text b q p)
path_answer_one text (Err BadWidth) (Ok b) p q = absurd (path_width text b q p)
path_answer_one text (Err Unknown) (Err Unknown) p q = refl
path_answer_one text (Err Unknown) (Err BadLevel) p q = absurd (p.1 q.second q.tail q.below)
path_answer_one text (Err Unknown) (Err BadIndex) p q = absurd (p.1 q.second q.tail q.below)
path_answer_one text (Err Unknown) (Err BadWidth) p q = absurd (p.1 q.second q.tail q.below)
path_answer_one text (Err BadLevel) (Err Unknown) p q = absurd (q.1 p.second p.tail p.below)
path_answer_one text (Err BadIndex) (Err Unknown) p q = absurd (q.1 p.second p.tail p.below)
path_answer_one text (Err BadWidth) (Err Unknown) p q = absurd (q.1 p.second p.tail p.below)
path_answer_one text (Err BadLevel) (Err BadLevel) p q = refl
path_answer_one text (Err BadLevel) (Err BadIndex) p q = absurd (level_index text p q)
path_answer_one text (Err BadLevel) (Err BadWidth) p q = absurd (level_width text p q)
path_answer_one text (Err BadIndex) (Err BadLevel) p q = absurd (level_index text q p)
path_answer_one text (Err BadIndex) (Err BadIndex) p q = refl
path_answer_one text (Err BadIndex) (Err BadWidth) p q = absurd (index_width text p q)
path_answer_one text (Err BadWidth) (Err BadLevel) p q = absurd (level_width text q p)
path_answer_one text (Err BadWidth) (Err BadIndex) p q = absurd (index_width text q p)
path_answer_one text (Err BadWidth) (Err BadWidth) p q = refl
