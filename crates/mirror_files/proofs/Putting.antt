-- Pieces of a text that are put in order.
use Rattle.std.proofs.Common.{◌≡◌, ℕ, zero, suc, ◌+◌, List, [], ◌∷◌, ◌++◌, length, take, drop, map, Result, Ok, Err}
use Rattle.std.proofs.Common.{Option, Some, None, refl, sym, ap, subst, ◌∙◌, ◌<◌, append_assoc, get_or, arith, true≢false}
use Rattle.std.proofs.lemmas.List.{append-nil}
use Rattle.std.specs.List.{flat_map}
use Rattle.std.proofs.Math.Seq.{take-append-add}
use Rattle.std.specs.Io.KnownBytes.{Appends}
use Rattle.byte_streams.specs.Streams.{AppendsPrefix}
use Rattle.byte_streams.specs.declared.fault.StreamFault.{StreamFault}
use Rattle.sha2.specs.Sha256.{sha256}
use Rattle.std.specs.Prelude.{IsErr, OnOk, OnErr}
use Rattle.sha2.specs.Hashers.{Holds256}
use Rattle.sha2.specs.declared.Sha256.{Sha256}
use Rattle.mirror_files.specs.declared.page.Page.{Page}
use Rattle.mirror_files.specs.Putting.{EndsText, IsUnderWay, Puts, Writes, WritesText}

-- ---- prefixes

-- a prefix of a list is a prefix of a longer list
front_of : (n : ℕ) (xs ys : List ℕ) → (k : ℕ) × (take n xs ≡ take k (xs ++ ys))
front_of zero xs ys = (zero, refl)
front_of (suc n) [] ys = (zero, refl)
front_of (suc n) (x ∷ xs) ys = let r = front_of n xs ys in (suc r.0, ap (λ (zs : List ℕ). x ∷ zs) r.1)

pub front_longer : (old new : Option (List ℕ)) (xs ys : List ℕ) → AppendsPrefix old new xs →
    AppendsPrefix old new (xs ++ ys)
front_longer old new xs ys (n, h) = let r = front_of n xs ys in (r.0, subst (Appends old new) r.1 h)

appends_two : (a b c : Option (List ℕ)) (xs ys : List ℕ) → Appends a b xs → Appends b c ys → Appends a c (xs ++ ys)
appends_two None b c xs ys p q = tt
appends_two (Some s) None c xs ys p q = absurd p
appends_two (Some s) (Some t) None xs ys p q = absurd q
appends_two (Some s) (Some t) (Some u) xs ys p q = q ∙ (ap (λ (w : List ℕ). w ++ ys) p ∙ append_assoc s xs ys)

-- the written bytes, and then a prefix of the next ones
front_behind : (a b c : Option (List ℕ)) (xs ys : List ℕ) → Appends a b xs → AppendsPrefix b c ys →
    AppendsPrefix a c (xs ++ ys)
front_behind a b c xs ys p (n, q) =
    (length xs + n, subst (Appends a c) (sym (take-append-add xs ys n)) (appends_two a b c xs (take n ys) p q))

-- ---- bytes that are held back

module _ (old new : Option (List ℕ)) where
  -- the bytes that were held back are written
  pub written_held : (held : List ℕ) → Appends old new held → Writes old new held [] [] (Ok tt)
  written_held held p = λ start text u. record {
    written = u.written ++ held;
    appended = appends_two start old new u.written held u.appended p;
    text_is = append-nil text ∙ (u.text_is ∙ sym (append-nil (u.written ++ held)));
  }

  pub unwritten_held : (held held' piece : List ℕ) (fault : StreamFault) → AppendsPrefix old new held →
      Writes old new held held' piece (Err fault)
  unwritten_held held held' piece fault p = λ start text u.
      front_longer start new text piece
      (subst (AppendsPrefix start new) (sym u.text_is) (front_behind start old new u.written held u.appended p))

  -- nothing is held back, and the piece is written
  pub written_piece : (piece : List ℕ) → Appends old new piece → Writes old new [] [] piece (Ok tt)
  written_piece piece p = λ start text u. record {
    written = u.written ++ piece;
    appended = appends_two start old new u.written piece u.appended p;
    text_is = ap (λ (w : List ℕ). w ++ piece) (u.text_is ∙ append-nil u.written)
        ∙ sym (append-nil (u.written ++ piece));
  }

  pub unwritten_piece : (piece : List ℕ) (fault : StreamFault) → AppendsPrefix old new piece →
      Writes old new [] [] piece (Err fault)
  unwritten_piece piece fault p = λ start text u.
      subst (λ (w : List ℕ). AppendsPrefix start new (w ++ piece)) (sym (u.text_is ∙ append-nil u.written))
      (front_behind start old new u.written piece u.appended p)

-- ---- one piece, and then another
module _ (old mid new : Option (List ℕ)) (held held' held'' first second : List ℕ) where
  pub writes_then : (answer : Result (Unit {0}) StreamFault) → Writes old mid held held' first (Ok tt) →
      Writes mid new held' held'' second answer → Writes old new held held'' (first ++ second) answer
  writes_then (Ok done) p q = λ start text u. subst (IsUnderWay start new held'') (append_assoc text first second)
      (q start (text ++ first) (p start text u))
  writes_then (Err fault) p q = λ start text u. subst (AppendsPrefix start new) (append_assoc text first second)
      (q start (text ++ first) (p start text u))

pub writes_short : (old new : Option (List ℕ)) (held held' first second : List ℕ) (fault : StreamFault) →
    Writes old new held held' first (Err fault) → Writes old new held held' (first ++ second) (Err fault)
writes_short old new held held' first second fault p = λ start text u.
    subst (AppendsPrefix start new) (append_assoc text first second)
    (front_longer start new (text ++ first) second (p start text u))

pub puts_none : (now : Option (List ℕ)) (page : Page) → Puts now now page page [] (Ok tt)
puts_none now page = record {
  writes = λ start text u. subst (IsUnderWay start now page.held.items) (sym (append-nil text)) u;
  hashes = λ text h. subst (Holds256 page.digest) (sym (append-nil text)) h;
}

-- a piece is put, and then another
pub puts_then :
    {old mid new : Option (List ℕ)} {page page' page'' : Page} {first second : List ℕ}
    {answer : Result (Unit {0}) StreamFault} → Puts old mid page page' first (Ok tt) →
    Puts mid new page' page'' second answer → Puts old new page page'' (first ++ second) answer
puts_then {old} {mid} {new} {page} {page'} {page''} {first} {second} {answer = Ok done} p q = record {
  writes = writes_then old mid new page.held.items page'.held.items page''.held.items first second (Ok done)
      p.writes q.writes;
  hashes = λ text h. subst (Holds256 page''.digest) (append_assoc text first second)
      (q.hashes (text ++ first) (p.hashes text h));
}
puts_then {old} {mid} {new} {page} {page'} {page''} {first} {second} {answer = Err fault} p q = record {
  writes = writes_then old mid new page.held.items page'.held.items page''.held.items first second (Err fault)
      p.writes q.writes;
  hashes = tt;
}

-- a piece fails, and the next one is not put
pub puts_short :
    {old new : Option (List ℕ)} {page page' : Page} {first : List ℕ} {fault : StreamFault}
    {answer : Result (Unit {0}) StreamFault} (rest : List ℕ) → IsErr answer →
    Puts old new page page' first (Err fault) → Puts old new page page' (first ++ rest) answer
puts_short {answer = Ok done} rest failed p = absurd (true≢false (sym failed))
puts_short {old} {new} {page} {page'} {first} {fault} {answer = Err passed} rest failed p = record {
  writes = writes_short old new page.held.items page'.held.items first rest fault p.writes;
  hashes = tt;
}

pub with_digest : {A : Type 0} (old new : Sha256) (piece : List ℕ) (answer : Result A StreamFault) →
    ((text : List ℕ) → Holds256 old text → Holds256 new (text ++ piece)) →
    OnOk answer ((text : List ℕ) → Holds256 old text → Holds256 new (text ++ piece))
with_digest old new piece (Ok done) h = h
with_digest old new piece (Err fault) h = tt

-- a text that ends with its digest
pub ends : (old new : Option (List ℕ)) (page : Page) (held digest : List ℕ) (answer : Result (Unit {0}) StreamFault) →
    Writes old new page.held.items held digest answer → OnOk answer (held ≡ []) →
    ((text : List ℕ) → Holds256 page.digest text → digest ≡ sha256 text) → EndsText old new page answer
ends old new page held digest (Ok done) w e h = λ start text u d.
    let v = w start text u in
    subst (Appends start new) (sym (append-nil v.written)
    ∙ (ap (λ (x : List ℕ). v.written ++ x) (sym e) ∙ (sym v.text_is ∙ ap (λ (x : List ℕ). text ++ x) (h text d))))
    v.appended
ends old new page held digest (Err fault) w e h =
    λ start text u d. subst (λ (x : List ℕ). AppendsPrefix start new (text ++ x)) (h text d) (w start text u)

-- the last piece, with nothing held back before it
pub last_piece : (old new : Option (List ℕ)) (held piece : List ℕ) (answer : Result (Unit {0}) StreamFault) →
    held ≡ [] → OnOk answer (Appends old new piece) → OnErr answer (AppendsPrefix old new piece) →
    Writes old new held held piece answer
last_piece old new held piece (Ok done) e p q =
    subst (λ (h : List ℕ). Writes old new h h piece (Ok tt)) (sym e) (written_piece old new piece p)
last_piece old new held piece (Err fault) e p q =
    subst (λ (h : List ℕ). Writes old new h h piece (Err fault)) (sym e) (unwritten_piece old new piece fault q)

-- ---- item by item

module _ {X : Type 0} (f : List ℕ → List ℕ) (g : X → List ℕ) where
  pub text_more : (xs : List X) (i : ℕ) (d : X) → i < length xs →
      flat_map f (map g (take i xs)) ++ f (g (get_or xs i d)) ≡ flat_map f (map g (take (i + 1) xs))
  text_more [] i d lt = absurd (omega (arith, lt))
  text_more (x ∷ xs) zero d lt = sym (append-nil (f (g x)))
  text_more (x ∷ xs) (suc i) d lt =
      let e : suc (i + 1) ≡ suc i + 1 = omega arith in
      append_assoc (f (g x)) (flat_map f (map g (take i xs))) (f (g (get_or xs i d)))
      ∙ (ap (λ (w : List ℕ). f (g x) ++ w) (text_more xs i d (omega (arith, lt)))
      ∙ ap (λ (n : ℕ). flat_map f (map g (take n (x ∷ xs)))) e)

  pub text_split : (xs : List X) (i : ℕ) →
      flat_map f (map g (take i xs)) ++ flat_map f (map g (drop i xs)) ≡ flat_map f (map g xs)
  text_split [] zero = refl
  text_split [] (suc i) = refl
  text_split (x ∷ xs) zero = refl
  text_split (x ∷ xs) (suc i) = append_assoc (f (g x)) (flat_map f (map g (take i xs))) (flat_map f (map g (drop i xs)))
      ∙ ap (λ (w : List ℕ). f (g x) ++ w) (text_split xs i)

  -- the next item is put after those before it
  pub puts_next :
      {old mid new : Option (List ℕ)} {page page' page'' : Page} (xs : List X) (i : ℕ) (d : X) → i < length xs →
      Puts old mid page page' (flat_map f (map g (take i xs))) (Ok tt) →
      Puts mid new page' page'' (f (g (get_or xs i d))) (Ok tt) →
      Puts old new page page'' (flat_map f (map g (take (i + 1) xs))) (Ok tt)
  puts_next xs i d lt before p = rw (← text_more xs i d lt) (puts_then before p)

  -- the next item fails, and the later ones are not put
  pub puts_last :
      {old mid new : Option (List ℕ)} {page page' page'' : Page} {fault : StreamFault}
      {answer : Result (Unit {0}) StreamFault} (xs : List X) (i : ℕ) (d : X) → IsErr answer → i < length xs →
      Puts old mid page page' (flat_map f (map g (take i xs))) (Ok tt) →
      Puts mid new page' page'' (f (g (get_or xs i d))) (Err fault) →
      Puts old new page page'' (flat_map f (map g xs)) answer
  puts_last xs i d failed lt before p =
      rw (← text_split xs (i + 1), ← text_more xs i d lt)
      (puts_short (flat_map f (map g (drop (i + 1) xs))) failed (puts_then before p))

-- ---- a complete text

appends_nothing : (now : Option (List ℕ)) → Appends now now []
appends_nothing None = tt
appends_nothing (Some bytes) = sym (append-nil bytes)

nothing_yet : (now : Option (List ℕ)) (held : List ℕ) → held ≡ [] → IsUnderWay now now held []
nothing_yet now held none = record { written = []; appended = appends_nothing now; text_is = sym none }

pub body_fails : (old new : Option (List ℕ)) (page page' : Page) (body : List ℕ) (fault : StreamFault) →
    page.held.items ≡ [] → Puts old new page page' body (Err fault) → AppendsPrefix old new (body ++ sha256 body)
body_fails old new page page' body fault none p =
    front_longer old new body (sha256 body) (p.writes old [] (nothing_yet old page.held.items none))

pub body_ends : (old mid new : Option (List ℕ))
    (page page' : Page) (body : List ℕ) (answer : Result (Unit {0}) StreamFault) → page.held.items ≡ [] →
    Holds256 page.digest [] → Puts old mid page page' body (Ok tt) → EndsText mid new page' answer →
    WritesText old new (body ++ sha256 body) answer
body_ends old mid new page page' body answer none hashed p e =
    e old body (p.writes old [] (nothing_yet old page.held.items none)) (p.hashes [] hashed)
