-- The files of a copy determine its entries.
use Rattle.std.proofs.Common.{◌≡◌, ℕ, suc, ◌+◌, ◌*◌, ◌/◌, ◌%◌, ◌<◌, List, [], ◌∷◌, ◌++◌, length, drop, get_or, Some, None}
use Rattle.std.proofs.Common.{refl, sym, ap, subst, ◌∙◌, inl, inr, arith}
use Rattle.std.proofs.lemmas.Bool.{cases_lt}
use Rattle.std.proofs.lemmas.List.{get_or-drop, get_or-take}
use Rattle.tlog_shape.specs.Edge.{edge_index_of, IsTile, width_of}
use Rattle.tlog_hash.specs.Rows.{part}
use Rattle.tlog_tiles.specs.Tiles.{IsTileWithin}
use Rattle.tlog_tiles.specs.declared.paths.Path.{Path}
use Rattle.tlog_tiles.specs.declared.paths.Path.TheVariants.{Entries}
use Rattle.tlog_tiles.proofs.BundleLemmas.{bundle_one}
use Rattle.tlog_tiles.proofs.EdgeLemmas.{hashes_of}
use Rattle.tlog_tiles.proofs.TileLemmas.{served_is_read}
use Rattle.mirror_model.specs.Strings.{IsDigest}
use Rattle.mirror_model.specs.TrueLaws.{AreShort}
use Rattle.mirror_sources.specs.Honest.{true_bytes}
use Rattle.mirror_folders.specs.Shelf.{Put}
use Rattle.log_reader.specs.Holding.{IsTreeFile}
use Rattle.log_reader.proofs.TrueReads.{full_fits}
use Rattle.copy_reader.specs.WholeCopies.{EachFileStands, HasFilesOf}
use Rattle.copy_reader.proofs.WholeLaws.{tile_widest}

same_items : (xs ys : List (List ℕ)) → length xs ≡ length ys →
    ((i : ℕ) → i < length xs → get_or xs i [] ≡ get_or ys i []) → xs ≡ ys
same_items [] [] len each = refl
same_items [] (y ∷ ys) len each = absurd (omega (arith, len))
same_items (x ∷ xs) [] len each = absurd (omega (arith, len))
same_items (x ∷ xs) (y ∷ ys) len each =
    λ i. each 0 (omega arith) i
    ∷ same_items xs ys (omega (arith, len)) (λ k lt. each (suc k) (omega (arith, lt))) i

-- an entry of a bundle
of_part : (w i : ℕ) (xs : List (List ℕ)) → i % 256 < w →
    get_or (part (256 * (i / 256)) w xs) (i % 256) [] ≡ get_or xs i []
of_part w i xs lt =
    let start = 256 * (i / 256) in
    let whole : start + i % 256 ≡ i = omega arith in
    get_or-take w (drop start xs) (i % 256) [] lt
    ∙ (get_or-drop start xs (i % 256) [] ∙ ap (λ k. get_or xs k []) whole)

-- the shelf has each file of the first list, and the files of another list of the same length
module _ (digest : List ℕ → List ℕ) (hash : IsDigest digest) (entries others : List (List ℕ)) (puts : List Put)
    (long : length others ≡ length entries) (short : AreShort entries) (each : EachFileStands digest entries puts)
    (files : HasFilesOf digest others (Some puts)) where
  abbrev n : ℕ
  n = length entries

  -- one file begins with the bytes of both lists
  record AreBegun (path : Path) : Type 0 where
    rest : List ℕ
    other_rest : List ℕ
    same : true_bytes digest entries path ++ rest ≡ true_bytes digest others path ++ other_rest

  begun : (path : Path) → IsTreeFile n path → AreBegun path
  begun path file =
      let there : IsTreeFile (length others) path = subst (λ k. IsTreeFile k path) (sym long) file in
      elim (each path file) [
        | inl stands ↦
            let is = files.files path there (Some (true_bytes digest entries path)) stands in
            record { rest = []; other_rest = []; same = ap (λ l. l ++ []) is }
        | inr way ↦
            let on = (files.files path there None way.gone).full (Some way.full) way.stands in
            record {
              rest = way.begins.rest;
              other_rest = on.rest;
              same = sym way.begins.bytes_are ∙ on.bytes_are;
            }
      ]

  same_part : (index width : ℕ) → IsTile n 0 index width →
      part (256 * index) width entries ≡ part (256 * index) width others
  same_part index width tile =
      let begin = begun (Entries index width) tile in
      let within = (tile_widest n 0 index width (omega arith) tile).within in
      let p = (served_is_read digest hash entries short).bundle index width within in
      let q = (served_is_read digest hash others files.short).bundle index width
      (subst (λ k. IsTileWithin k 0 index width) (sym long) within) in
      (bundle_one (part (256 * index) width entries) (part (256 * index) width others) begin.rest begin.other_rest
      (p.count ∙ sym q.count) p.fits q.fits begin.same).0

  same_entry : (i width : ℕ) → IsTile n 0 (i / 256) width → i % 256 < width → get_or entries i [] ≡ get_or others i []
  same_entry i width tile lt =
      sym (of_part width i entries lt)
      ∙ (ap (λ (l : List (List ℕ)). get_or l (i % 256) []) (same_part (i / 256) width tile) ∙ of_part width i others lt)

  each_entry : (i : ℕ) → i < n → get_or entries i [] ≡ get_or others i []
  each_entry i before = elim (cases_lt (i / 256) (edge_index_of n 0)) [
    | inl less ↦ same_entry i 256 (inl (record { fits = full_fits n 0 (i / 256) less; width_is = refl })) (omega arith)
    | inr from ↦
        let whole = hashes_of n 0 in
        same_entry i (width_of n 0)
        (inr (record { index_is = omega (arith, whole, from, before); width_is = refl; some = omega (arith, whole, from, before) }))
        (omega (arith, whole, from, before))
  ]
