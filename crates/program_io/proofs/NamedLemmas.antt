-- Files by their names: the bytes after one more put, several files in order, and unchanged records.
use Rattle.std.proofs.Common.{◌≡◌, ℕ, suc, ◌+◌, ◌<◌, List, [], ◌∷◌, ◌++◌, length, map, take, get_or, Option, Some}
use Rattle.std.proofs.Common.{None, Err, Bool, true, false, refl, sym, ap, ◌∙◌, arith}
use Rattle.std.specs.Prelude.{if◌then◌else◌, Contains}
use Rattle.std.specs.List.{AllZip}
use Rattle.std.specs.Str.{bytes_eq}
use Rattle.std.proofs.lemmas.List.{map-append, take_more, get_or-map, length-map}
use Rattle.mirror_sources.specs.Recorded.{KeepsRecord}
use Rattle.program_io.specs.Named.{NamedFile}
use Rattle.program_io.specs.Named.{FailsToRead, ReadsShort, last_put, contents_of, HasContents, HaveContents}
use Rattle.program_io.specs.declared.file_fault.NamedFault.{NamedFault}
use Rattle.program_io.specs.declared.file_fault.NamedFault.TheVariants as named

-- a record keeps itself
pub kept_itself : {X : Type 0} (recorded : Option (List X)) → KeepsRecord recorded recorded
kept_itself None = tt
kept_itself (Some xs) = refl

-- ---- the bytes of a name

-- one more put: its bytes if it has this name, else the bytes that were found before
abbrev pub newer : Option (List ℕ) → NamedFile → List ℕ → Option (List ℕ)
newer found file name = if bytes_eq file.0 name then Some file.1 else found

last_put_push : (found : Option (List ℕ)) (puts : List NamedFile) (file : NamedFile) (name : List ℕ) →
    last_put found (puts ++ file ∷ []) name ≡ newer (last_put found puts name) file name
last_put_push found [] file name = refl
last_put_push found (first ∷ rest) file name = last_put_push (newer found first name) rest file name

pub standing_push : (puts : List NamedFile) (file : NamedFile) (name : List ℕ) →
    contents_of (puts ++ file ∷ []) name ≡ newer (contents_of puts name) file name
standing_push puts file name = last_put_push None puts file name

pub newer_named : (found : Option (List ℕ)) (file : NamedFile) (name : List ℕ) → bytes_eq file.0 name ≡ true →
    newer found file name ≡ Some file.1
newer_named found file name same = ap (λ (t : Bool). if t then Some file.1 else found) same

pub newer_other : (found : Option (List ℕ)) (file : NamedFile) (name : List ℕ) → bytes_eq file.0 name ≡ false →
    newer found file name ≡ found
newer_other found file name other = ap (λ (t : Bool). if t then Some file.1 else found) other

-- one more element of a list in a loop
pub standing_more :
    {X : Type 0} (seen : X → NamedFile) (xs : List X) (i : ℕ) (x : X) (name : List ℕ) → i < length xs →
    x ≡ get_or xs i x →
    contents_of (map seen (take (i + 1) xs)) name ≡ newer (contents_of (map seen (take i xs)) name) (seen x) name
standing_more seen xs i x name lt at =
    let all : map seen (take (i + 1) xs) ≡ map seen (take i xs) ++ seen x ∷ [] =
    ap (map seen) (take_more xs i x lt ∙ ap (λ y. take i xs ++ y ∷ []) (sym at)) ∙
    map-append seen (take i xs) (x ∷ []) in
    ap (λ puts. contents_of puts name) all ∙ standing_push (map seen (take i xs)) (seen x) name

-- ---- several files

zip_push : {A B : Type 0} (R : A → B → Type 0) (xs : List A) (ys : List B) (x : A) (y : B) → AllZip R xs ys → R x y →
    AllZip R (xs ++ x ∷ []) (ys ++ y ∷ [])
zip_push R [] [] x y h r = (r, tt)
zip_push R [] (b ∷ ys) x y h r = absurd h
zip_push R (a ∷ xs) [] x y h r = absurd h
zip_push R (a ∷ xs) (b ∷ ys) x y h r = (h.0, zip_push R xs ys x y h.1 r)

pub tells_more :
    {A B : Type 0} (recorded : Option (List NamedFile)) (f : A → List ℕ) (g : B → List ℕ) (xs ys : List A) (a : A)
    (names : List B) (i : ℕ) (d : B) →
    ys ≡ xs ++ a ∷ [] → HasContents recorded (g (get_or names i d)) (f a) → i < length names →
    HaveContents recorded (map g (take i names)) (map f xs) →
    HaveContents recorded (map g (take (i + 1) names)) (map f ys)
tells_more recorded f g xs ys a names i d grown is lt before =
    let named : map g (take (i + 1) names) ≡ map g (take i names) ++ g (get_or names i d) ∷ [] =
    ap (map g) (take_more names i d lt) ∙ map-append g (take i names) (get_or names i d ∷ []) in
    let held : map f ys ≡ map f xs ++ f a ∷ [] = ap (map f) grown ∙ map-append f xs (a ∷ []) in
    rw (named, held)
    (zip_push (HasContents recorded) (map g (take i names)) (map f xs) (g (get_or names i d)) (f a) before is)

pub named_here : {B C : Type 0} (g : B → C) (names : List B) (i : ℕ) (d : B) → i < length names →
    Contains (map g names) (g (get_or names i d))
named_here g names i d lt = (i, omega (arith, length-map names g), get_or-map g names i d (g (get_or names i d)) lt)

pub named_behind : (first : List ℕ) (names : List (List ℕ)) (name : List ℕ) → Contains names name →
    Contains (first ∷ names) name
named_behind first names name h = (suc h.0, omega (arith, h.1), h.2)

-- one of the files cannot be read, so reading all of them fails
pub read_failed : (recorded : Option (List NamedFile)) (names : List (List ℕ)) (name : List ℕ) (fault : NamedFault) →
    Contains names name → ReadsShort recorded name (Err fault) → FailsToRead recorded names fault
read_failed recorded names name named.FileFault listed h = (name, listed, h)
read_failed recorded names name named.OutOfMemory listed h = tt

-- if reading some files fails, so does reading them after one more
pub behind_failed : (recorded : Option (List NamedFile)) (first : List ℕ) (names : List (List ℕ)) (fault : NamedFault) →
    FailsToRead recorded names fault → FailsToRead recorded (first ∷ names) fault
behind_failed recorded first names named.FileFault h = (h.0, named_behind first names h.0 h.1, h.2)
behind_failed recorded first names named.OutOfMemory h = tt

-- the first file cannot be read, so reading all of them fails
pub first_failed : (recorded : Option (List NamedFile)) (first : List ℕ) (names : List (List ℕ)) (fault : NamedFault) →
    ReadsShort recorded first (Err fault) → FailsToRead recorded (first ∷ names) fault
first_failed recorded first names fault h = read_failed recorded (first ∷ names) first fault (0, omega arith, refl) h

-- ---- the bytes that were found

module _ {X : Type 0} (seen : X → NamedFile) (xs : List X) (i : ℕ) (x : X) (name : List ℕ) (within : i < length xs)
    (at : x ≡ get_or xs i x) where
  pub found_named : (found : Option (List ℕ)) → bytes_eq (seen x).0 name ≡ true → found ≡ Some (seen x).1 →
      found ≡ contents_of (map seen (take (i + 1) xs)) name
  found_named found same is =
      is ∙ sym (standing_more seen xs i x name within at ∙
      newer_named (contents_of (map seen (take i xs)) name) (seen x) name same)

  pub found_other : (found : Option (List ℕ)) → bytes_eq (seen x).0 name ≡ false →
      found ≡ contents_of (map seen (take i xs)) name → found ≡ contents_of (map seen (take (i + 1) xs)) name
  found_other found other is =
      is ∙ sym (standing_more seen xs i x name within at ∙
      newer_other (contents_of (map seen (take i xs)) name) (seen x) name other)
