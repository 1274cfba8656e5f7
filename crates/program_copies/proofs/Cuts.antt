-- Entries that are cut out of a bundle.
use Rattle.std.proofs.Common.{◌≡◌, ℕ, ◌+◌, ◌-◌, ◌^◌, ◌<◌, min, All, Bool, true, List, [], ◌++◌, length, take, drop, map}
use Rattle.std.proofs.Common.{get_or, slice_index_or, Bor, Option, Result, Ok, Err, OnOk, OnErr, sym, ap, ◌∙◌, subst, arith}
use Rattle.std.specs.List.{flat_map}
use Rattle.std.specs.Io.KnownBytes.{Appends}
use Rattle.std.proofs.lemmas.List.{drop-map, get_or-drop, get_or-map, get_or-take, length-drop, length-map, length-take, take-map}
use Rattle.std.proofs.lemmas.List.Elements.{All-get_or}
use Rattle.std.proofs.lemmas.List.Folds.{flat_map-map}
use Rattle.byte_streams.specs.Streams.{AppendsPrefix}
use Rattle.tlog_hash.specs.Rows.{part}
use Rattle.tlog_tiles.specs.Bundle.{entry_text, IsBundle}
use Rattle.tlog_tiles.proofs.BundleLemmas.{bundle_one}
use Rattle.program_copies.specs.Texts.{entries_text, entry_line}

pub ok_then : {T E : Type 0} (r : Result T E) (X Y : Type 0) → (X → Y) → OnOk r X → OnOk r Y
ok_then (Ok x) X Y f h = f h
ok_then (Err e) X Y f h = tt

pub err_then : {T E : Type 0} (r : Result T E) (X Y : Type 0) → (X → Y) → OnErr r X → OnErr r Y
err_then (Ok x) X Y f h = tt
err_then (Err e) X Y f h = f h

pub err_any : {T E : Type 0} (r : Result T E) (Y : Type 0) → Y → OnErr r Y
err_any (Ok x) Y y = tt
err_any (Err e) Y y = y

pub lines_text : (base64 : Bool) (es : List (Bor (List ℕ))) → base64 ≡ true →
    flat_map (λ (e : Bor (List ℕ)). entry_line e.now) es ≡ entries_text base64 (map (λ (e : Bor (List ℕ)). e.now) es)
lines_text base64 es is =
    sym (flat_map-map entry_line (λ (e : Bor (List ℕ)). e.now) es)
    ∙ ap (λ b. entries_text b (map (λ (e : Bor (List ℕ)). e.now) es)) (sym is)

-- cut entries are as short as all entries are
pub cut_fits : (es : List (Bor (List ℕ))) (s n : ℕ) → All (λ (e : List ℕ). length e < 2 ^ 16) (map (λ (e : Bor (List ℕ)). e.now) es) →
    (k : ℕ) (d : Bor (List ℕ)) → k < length (take n (drop s es)) → length (slice_index_or (take n (drop s es)) k d).now < 65536
cut_fits es s n fits k d lt =
    let now : Bor (List ℕ) → List ℕ = λ e. e.now in
    let len : length (take n (drop s es)) ≡ min n (length es - s) =
    length-take n (drop s es) ∙ ap (λ m. min n m) (length-drop s es) in
    let at : get_or (take n (drop s es)) k d ≡ get_or es (s + k) d =
    get_or-take n (drop s es) k d (omega (arith, lt, len)) ∙ get_or-drop s es k d in
    let within : s + k < length es = omega (arith, lt, len) in
    subst (λ (e : Bor (List ℕ)). length e.now < 65536) (sym at)
    (subst (λ (e : List ℕ). length e < 65536) (get_or-map now es (s + k) d d.now within)
    (All-get_or (λ (e : List ℕ). length e < 65536) (map now es) (s + k) d.now
    (subst (λ m. s + k < m) (sym (length-map es now)) within) fits))

-- the cut entries are those of each list whose bundle is these bytes
pub cut_same : (width s n : ℕ) (bytes : List ℕ) (es : List (Bor (List ℕ))) (entries : List (List ℕ)) →
    IsBundle width bytes (map (λ (e : Bor (List ℕ)). e.now) es) → IsBundle width bytes entries →
    map (λ (e : Bor (List ℕ)). e.now) (take n (drop s es)) ≡ part s n entries
cut_same width s n bytes es entries is other =
    let now : Bor (List ℕ) → List ℕ = λ e. e.now in
    let text : flat_map entry_text (map now es) ++ [] ≡ flat_map entry_text entries ++ [] =
    ap (λ (w : List ℕ). w ++ []) (sym is.text ∙ other.text) in
    let one : map now es ≡ entries = (bundle_one (map now es) entries [] [] (is.count ∙ sym other.count) is.fits other.fits text).0 in
    sym (take-map now n (drop s es))
    ∙ (ap (λ (xs : List (List ℕ)). take n xs) (sym (drop-map now s es)) ∙ ap (λ (xs : List (List ℕ)). part s n xs) one)

pub cut_ok : (base64 : Bool) (width s n : ℕ) (bytes : List ℕ) (es : List (Bor (List ℕ))) (a b : Option (List ℕ)) →
    IsBundle width bytes (map (λ (e : Bor (List ℕ)). e.now) es) →
    Appends a b (entries_text base64 (map (λ (e : Bor (List ℕ)). e.now) (take n (drop s es)))) →
    (entries : List (List ℕ)) → IsBundle width bytes entries → Appends a b (entries_text base64 (part s n entries))
cut_ok base64 width s n bytes es a b is h entries other =
    subst (λ (xs : List (List ℕ)). Appends a b (entries_text base64 xs)) (cut_same width s n bytes es entries is other) h

pub cut_err : (base64 : Bool) (width s n : ℕ) (bytes : List ℕ) (es : List (Bor (List ℕ))) (a b : Option (List ℕ)) →
    IsBundle width bytes (map (λ (e : Bor (List ℕ)). e.now) es) →
    AppendsPrefix a b (entries_text base64 (map (λ (e : Bor (List ℕ)). e.now) (take n (drop s es)))) →
    (entries : List (List ℕ)) → IsBundle width bytes entries → AppendsPrefix a b (entries_text base64 (part s n entries))
cut_err base64 width s n bytes es a b is h entries other =
    subst (λ (xs : List (List ℕ)). AppendsPrefix a b (entries_text base64 xs)) (cut_same width s n bytes es entries is other) h
