-- Files that were read one after another, and the file at which a reading stops.
use Rattle.std.proofs.Common.{◌≡◌, ℕ, ◌<◌, List, [], ◌∷◌, ◌++◌, length, Option, Some, None, Result, Ok, Err, IfErr}
use Rattle.std.proofs.Common.{refl, sym, ap, subst, ◌∙◌, append_assoc}
use Rattle.std.proofs.lemmas.List.{append-nil, map-append}
use Rattle.tlog_tiles.specs.declared.paths.Path.{Path}
use Rattle.mirror_model.specs.Strings.{IsDigest}
use Rattle.mirror_model.specs.TrueLaws.{AreShort}
use Rattle.mirror_sources.specs.Files.{full_of, width_named}
use Rattle.mirror_sources.specs.Replies.{Reply, asked_paths, reply}
use Rattle.mirror_sources.specs.Source.{StaysWithin}
use Rattle.mirror_sources.specs.Recorded.{AddsToRecord}
use Rattle.copy_reader.specs.declared.audit_fault.AuditFault.{AuditFault}
use Rattle.copy_reader.specs.declared.audit_fault.AuditFault.TheVariants.{NoCheckpoint, Head, NoEdge, NoFile, FalseFile, Source, OutOfMemory}
use Rattle.copy_reader.specs.Answering.{AreGiven, IsTreeFile}
use Rattle.copy_reader.specs.Found.{AreTrue, AreVerified, FileRead, Found, InFull, IsAbsent, IsAbsentEdge, IsPresent, IsTrueFound, IsVerified}
use Rattle.copy_reader.specs.Found.{Nowhere, NotInFull, all_replies, file_read, paths_read, replies_of}
use Rattle.copy_reader.specs.Stops.{AreRead, FindsFalse, IsFullRead, IsPartRead, LacksFile, StopsAt, StopsIn}
use Rattle.copy_reader.proofs.Given.{given_none, given_then}

-- ---- lists of files

pub replies_append : (xs ys : List FileRead) → all_replies (xs ++ ys) ≡ all_replies xs ++ all_replies ys
replies_append [] ys = refl
replies_append (x ∷ xs) ys =
    ap (λ (l : List Reply). replies_of x.path x.found ++ l) (replies_append xs ys)
    ∙ sym (append_assoc (replies_of x.path x.found) (all_replies xs) (all_replies ys))

pub paths_append : (xs ys : List FileRead) → paths_read (xs ++ ys) ≡ paths_read xs ++ paths_read ys
paths_append xs ys = map-append (λ (r : FileRead). r.path) xs ys

pub true_append : (digest : List ℕ → List ℕ) (entries : List (List ℕ)) (xs ys : List FileRead) →
    AreTrue digest entries (xs ++ ys) → AreTrue digest entries xs × AreTrue digest entries ys
true_append digest entries [] ys t = (tt, t)
true_append digest entries (x ∷ xs) ys t =
    let r = true_append digest entries xs ys t.1 in
    ((t.0, r.0), r.1)

-- a hint does not change the replies
pub given_hinted : (a b c : Path → Option (List ℕ) → Type 0) (x y z : Option (List Path)) (replies : List Reply) →
    StaysWithin b c → z ≡ y → AreGiven a b x y replies → AreGiven a c x z replies
given_hinted a b c x y z replies stays same g = record {
  stays = record { stays = λ path answer h. g.stays.stays path answer (stays.stays path answer h) };
  may_reply = g.may_reply;
  recorded = subst (λ w. AddsToRecord x w (asked_paths replies)) (sym same) g.recorded;
}

-- ---- files that were verified

pub verified_append : (digest : List ℕ → List ℕ) (entries : List (List ℕ)) (xs ys : List FileRead) →
    AreVerified digest entries xs → (AreTrue digest entries xs → AreVerified digest entries ys) →
    AreVerified digest entries (xs ++ ys)
verified_append digest entries [] ys v then = then tt
verified_append digest entries (x ∷ xs) ys v then =
    (v.0, λ t. verified_append digest entries xs ys (v.1 t) (λ ts. then (t, ts)))

-- ---- files that were read

pub read_none : (digest : List ℕ → List ℕ) (about : List (List ℕ) → Type 0) (may : Path → Option (List ℕ) → Type 0)
    (x : Option (List Path)) (paths : List Path) → paths ≡ [] → AreRead digest about paths may may x x
read_none digest about may x paths none = record {
  reads = [];
  given = given_none may x;
  paths_are = sym none;
  verified = λ entries h. tt;
}

module _ (a b : Path → Option (List ℕ) → Type 0) (x y : Option (List Path)) where
  pub given_one_file : (path : Path) (found : Found) → AreGiven a b x y (replies_of path found) →
      AreGiven a b x y (all_replies (file_read path found ∷ []))
  given_one_file path found g = subst (AreGiven a b x y) (sym (append-nil (replies_of path found))) g

  module _ (digest : List ℕ → List ℕ) (about : List (List ℕ) → Type 0) where
    abbrev pub read_one : (path : Path) (found : Found) → AreGiven a b x y (replies_of path found) →
        ((entries : List (List ℕ)) → about entries → IsVerified digest entries path found) →
        AreRead digest about (path ∷ []) a b x y
    read_one path found g v = record {
      reads = file_read path found ∷ [];
      given = given_one_file path found g;
      paths_are = refl;
      verified = λ entries h. (v entries h, λ t. tt);
    }

    pub read_as : (paths others : List Path) → paths ≡ others → AreRead digest about paths a b x y →
        AreRead digest about others a b x y
    read_as paths others same r =
        record { reads = r.reads; given = r.given; paths_are = r.paths_are ∙ same; verified = r.verified }

    pub read_hinted : (c : Path → Option (List ℕ) → Type 0) (z : Option (List Path)) (paths : List Path) → StaysWithin b c →
        z ≡ y → AreRead digest about paths a b x y → AreRead digest about paths a c x z
    read_hinted c z paths stays same r = record {
      reads = r.reads;
      given = given_hinted a b c x y z (all_replies r.reads) stays same r.given;
      paths_are = r.paths_are;
      verified = r.verified;
    }

module _ (a b c : Path → Option (List ℕ) → Type 0) (x y z : Option (List Path)) where
  pub given_more : (p q : List FileRead) → AreGiven a b x y (all_replies p) → AreGiven b c y z (all_replies q) →
      AreGiven a c x z (all_replies (p ++ q))
  given_more p q f g =
      subst (AreGiven a c x z) (sym (replies_append p q)) (given_then a b c x y z (all_replies p) (all_replies q) f g)

  pub paths_more : (p q : List FileRead) (ps qs : List Path) → paths_read p ≡ ps → paths_read q ≡ qs →
      paths_read (p ++ q) ≡ ps ++ qs
  paths_more p q ps qs f g = paths_append p q ∙ (λ i. f i ++ g i)

  pub read_then : (digest : List ℕ → List ℕ) (about inner : List (List ℕ) → Type 0) (ps qs paths : List Path) →
      paths ≡ ps ++ qs → (p : AreRead digest about ps a b x y) →
      ((entries : List (List ℕ)) → about entries → AreTrue digest entries p.reads → inner entries) →
      AreRead digest inner qs b c y z → AreRead digest about paths a c x z
  read_then digest about inner ps qs paths is p then q = record {
    reads = p.reads ++ q.reads;
    given = given_more p.reads q.reads p.given q.given;
    paths_are = paths_more p.reads q.reads ps qs p.paths_are q.paths_are ∙ sym is;
    verified = λ entries h. verified_append digest entries p.reads q.reads (p.verified entries h)
        (λ t. q.verified entries (then entries h t));
  }

-- ---- the file at which a reading stops

pub on_err : {T E : Type 0} (P Q : E → Type 0) (r : Result T E) → ((e : E) → P e → Q e) → IfErr r P → IfErr r Q
on_err P Q (Ok x) f p = tt
on_err P Q (Err e) f p = f e p

module _ (digest : List ℕ → List ℕ) (paths : List Path) (about : List (List ℕ) → Type 0)
    (a b : Path → Option (List ℕ) → Type 0) (x y : Option (List Path)) where
  -- at the first file
  pub stops_here : (kind : Path → Found → Type 0) (path : Path) (found : Found) (rest : List Path) → paths ≡ path ∷ rest →
      AreGiven a b x y (replies_of path found) → kind path found →
      ((entries : List (List ℕ)) → about entries → IsTrueFound digest entries path found → ⊥) →
      StopsAt digest paths about kind path a b x y
  stops_here kind path found rest is given fits wrong = record {
    before = [];
    found = found;
    rest = rest;
    given = given;
    order = is;
    is_kind = fits;
    verified = λ entries h. tt;
    wrong = λ entries h t. wrong entries h;
  }

  pub lacks_first : (path : Path) (rest : List Path) → paths ≡ path ∷ rest → full_of path ≡ path → (fault : AuditFault) →
      LacksFile path a b x y fault → StopsIn digest paths about a b x y fault
  lacks_first path rest is full NoCheckpoint h = absurd h
  lacks_first path rest is full (Head f) h = absurd h
  lacks_first path rest is full NoEdge h = absurd h
  lacks_first path rest is full (NoFile p) h =
      subst (λ k. StopsAt digest paths about IsAbsent k a b x y) (sym h.0)
      (stops_here IsAbsent path Nowhere rest is h.1 full (λ entries about t. t))
  lacks_first path rest is full (FalseFile p) h = absurd h
  lacks_first path rest is full Source h = tt
  lacks_first path rest is full OutOfMemory h = tt

-- at a later file, in a part of the paths
module _ (digest : List ℕ → List ℕ) (ps qs rest paths : List Path) (about inner : List (List ℕ) → Type 0)
    (a b c : Path → Option (List ℕ) → Type 0) (x y z : Option (List Path)) (p : AreRead digest about ps a b x y)
    (then : (entries : List (List ℕ)) → about entries → AreTrue digest entries p.reads → inner entries)
    (split : paths ≡ ps ++ (qs ++ rest)) where
  abbrev pub stops_later : (kind : Path → Found → Type 0) (path : Path) → StopsAt digest qs inner kind path b c y z →
      StopsAt digest paths about kind path a c x z
  stops_later kind path s =
      let before = paths_read s.before in
      let start = paths_read p.reads in
      let last : List Path = path ∷ (s.rest ++ rest) in
      record {
        before = p.reads ++ s.before;
        found = s.found;
        rest = s.rest ++ rest;
        given = subst (λ (l : List Reply). AreGiven a c x z (l ++ replies_of path s.found)) (sym (replies_append p.reads s.before))
            (subst (AreGiven a c x z)
            (sym (append_assoc (all_replies p.reads) (all_replies s.before) (replies_of path s.found)))
            (given_then a b c x y z (all_replies p.reads) (all_replies s.before ++ replies_of path s.found) p.given s.given));
        order = split ∙ ((λ i. sym p.paths_are i ++ (s.order i ++ rest))
            ∙ (ap (λ (l : List Path). start ++ l) (append_assoc before (path ∷ s.rest) rest)
            ∙ (sym (append_assoc start before last)
            ∙ ap (λ (l : List Path). l ++ last) (sym (paths_append p.reads s.before)))));
        is_kind = s.is_kind;
        verified = λ entries h. verified_append digest entries p.reads s.before (p.verified entries h)
            (λ t. s.verified entries (then entries h t));
        wrong = λ entries h t.
            let parts = true_append digest entries p.reads s.before t in
            s.wrong entries (then entries h parts.0) parts.1;
      }

  pub stops_in : (fault : AuditFault) → StopsIn digest qs inner b c y z fault → StopsIn digest paths about a c x z fault
  stops_in NoCheckpoint h = absurd h
  stops_in (Head f) h = absurd h
  stops_in NoEdge h = (h.0, stops_later IsAbsentEdge h.0 h.1)
  stops_in (NoFile path) h = stops_later IsAbsent path h
  stops_in (FalseFile path) h = stops_later IsPresent path h
  stops_in Source h = tt
  stops_in OutOfMemory h = tt

-- ---- partial files

-- the full file of a partial path, after the reply None
module _ (path : Path) (a b c : Path → Option (List ℕ) → Type 0) (x y z : Option (List Path))
    (none : AreGiven a b x y (reply path None ∷ [])) where
  after_none : (whole : Option (List ℕ)) → AreGiven b c y z (reply (full_of path) whole ∷ []) →
      AreGiven a c x z (reply path None ∷ reply (full_of path) whole ∷ [])
  after_none whole full = given_then a b c x y z (reply path None ∷ []) (reply (full_of path) whole ∷ []) none full

  pub gone_both : AreGiven b c y z (reply (full_of path) None ∷ []) → AreGiven a c x z (replies_of path NotInFull)
  gone_both full = after_none None full

  pub read_part : (bytes : List ℕ) → width_named path < 256 → IsFullRead path bytes b c y z → IsPartRead path bytes a c x z
  read_part bytes partial r = record {
    found = InFull r.whole;
    given = after_none (Some r.whole) r.given;
    present = partial;
    begins = r.begins;
    is_true = λ digest entries hash short file goes. r.is_true digest entries hash short file partial goes;
  }

  pub false_part : (fault : AuditFault) → FindsFalse path [] b c y z fault →
      FindsFalse path (reply path None ∷ []) a c x z fault
  false_part NoCheckpoint h = absurd h
  false_part (Head f) h = absurd h
  false_part NoEdge h = absurd h
  false_part (NoFile p) h = absurd h
  false_part (FalseFile p) h = (
    h.0,
    record { whole = h.1.whole; given = after_none (Some h.1.whole) h.1.given; wrong = h.1.wrong },
  )
  false_part Source h = tt
  false_part OutOfMemory h = tt

-- at a false partial file, a reading stops
pub part_stops : (digest : List ℕ → List ℕ) → IsDigest digest → (paths rest : List Path) (about : List (List ℕ) → Type 0)
    (a b : Path → Option (List ℕ) → Type 0) (x y : Option (List Path)) (path : Path) → paths ≡ path ∷ rest →
    width_named path < 256 →
    ((entries : List (List ℕ)) → about entries → AreShort entries × IsTreeFile (length entries) path) → (fault : AuditFault) →
    FindsFalse path (reply path None ∷ []) a b x y fault → StopsIn digest paths about a b x y fault
part_stops digest hash paths rest about a b x y path is partial file NoCheckpoint h = absurd h
part_stops digest hash paths rest about a b x y path is partial file (Head f) h = absurd h
part_stops digest hash paths rest about a b x y path is partial file NoEdge h = absurd h
part_stops digest hash paths rest about a b x y path is partial file (NoFile p) h = absurd h
part_stops digest hash paths rest about a b x y path is partial file (FalseFile p) h =
    subst (λ k. StopsAt digest paths about IsPresent k a b x y) (sym h.0)
    (stops_here digest paths about a b x y IsPresent path (InFull h.1.whole) rest is h.1.given partial
    (λ entries about goes. let f = file entries about in h.1.wrong digest entries hash f.0 f.1 partial goes))
part_stops digest hash paths rest about a b x y path is partial file Source h = tt
part_stops digest hash paths rest about a b x y path is partial file OutOfMemory h = tt
