-- What a read says where `?` ends it.
use Rattle.std.proofs.Common.{◌≡◌, ◌⊎◌, ℕ, List, Option, Some, None, Result, Ok, Err, IfOk, IfErr, IfSome, IfNone, IsSomeAnd, IsErr, IsErrAnd, inl, inr, sym, ap, subst, ◌∙◌}
use Rattle.std.proofs.lemmas.Result.{IfOk-weaker}
use Rattle.std.specs.Option.{ok_or}
use Rattle.tlog_proof.specs.Made.{Holds}
use Rattle.tlog_proof.specs.declared.proof.Proof.{Proof}
use Rattle.tlog_tiles.specs.declared.paths.Path.{Path}
use Rattle.std.proofs.lemmas.Bool.{false≢true}
use Rattle.mirror_sources.specs.Recorded.{one_more}
use Rattle.log_reader.specs.Faults.{CountsFailure, IsFailure, NamesFile, found_in}
use Rattle.log_reader.specs.Holding.{ReadsTrue}
use Rattle.log_reader.specs.declared.fault.ReadFault.{ReadFault}
use Rattle.log_reader.specs.declared.fault.ReadFault.TheVariants.{NoFile, FalseFile, Collision, Source, OutOfMemory}

counted_on : (T U : Type 0) (old mid new : ℕ) (fault : ReadFault) → mid ≡ old → CountsFailure {T = U} mid new (Err fault) →
    CountsFailure {T = T} old new (Err fault)
counted_on T U old mid new (NoFile path) same h = h ∙ same
counted_on T U old mid new (FalseFile path) same h = h ∙ same
counted_on T U old mid new Collision same h = h ∙ same
counted_on T U old mid new Source same h = h ∙ ap one_more same
counted_on T U old mid new OutOfMemory same h = h ∙ same

-- the count of failures over good calls, and over a read that failed
pub counted_exit : {T U : Type 0} (result : Result T ReadFault) (read : Result U ReadFault) (fault : ReadFault) →
    IsErr result × IsErrAnd result (λ f. f ≡ fault) → read ≡ Err fault → (old mid new : ℕ) → mid ≡ old →
    CountsFailure mid new read → CountsFailure old new result
counted_exit (Ok x) read fault is was old mid new same h = absurd (false≢true is.0)
counted_exit {T} {U} (Err f) read fault is was old mid new same h =
    subst (λ e. CountsFailure {T = T} old new (Err e)) (sym is.1)
    (counted_on T U old mid new fault same (subst (CountsFailure mid new) was h))

pub memory_exit : {T : Type 0} (result : Result T ReadFault) → IsErr result × IsErrAnd result (λ f. f ≡ OutOfMemory) →
    (old new : ℕ) → new ≡ old → CountsFailure old new result
memory_exit (Ok x) is old new h = absurd (false≢true is.0)
memory_exit {T} (Err f) is old new h = subst (λ e. CountsFailure {T = T} old new (Err e)) (sym is.1) h

pub failed_exit : {T : Type 0} (result : Result T ReadFault) (claim : T → Type 0) (fault : ReadFault) →
    IsErr result × IsErrAnd result (λ f. f ≡ fault) → IsFailure fault → ReadsTrue result claim
failed_exit (Ok x) claim fault is h = absurd (false≢true is.0)
failed_exit (Err f) claim fault is h = subst IsFailure (sym is.1) h

-- ---- a file that was got, and what was found in it

pub lacks_exit : {T : Type 0} {lacking : Path} (result : Result T ReadFault) (claim : T → Type 0) (fault : ReadFault)
    (Gone : Type 0) → IsErr result × IsErrAnd result (λ f. f ≡ fault) →
    IsFailure fault ⊎ ((fault ≡ NoFile lacking) × Gone) → (Gone → ⊥) → ReadsTrue result claim
lacks_exit result claim fault Gone is (inl h) there = failed_exit result claim fault is h
lacks_exit result claim fault Gone is (inr h) there = absurd (there h.1)

module _ {T E : Type 0} where
  pub found_ok : (found : Result (Option T) E) (path : Path) (result : Result T ReadFault) → result ≡ found_in found path →
      (P Q : T → Type 0) → ((x : T) → P x → Q x) → IfOk found (λ o. IfSome o P) → IfOk result Q
  found_ok (Ok (Some x)) path result is P Q f h = subst (λ r. IfOk r Q) (sym is) (f x h)
  found_ok (Ok None) path result is P Q f h = subst (λ r. IfOk r Q) (sym is) tt
  found_ok (Err fault) path result is P Q f h = subst (λ r. IfOk r Q) (sym is) tt

  pub found_true : (found : Result (Option T) E) (path : Path) (result : Result T ReadFault) → result ≡ found_in found path →
      (P : T → Type 0) (N : Type 0) → IfOk found (λ o. IfSome o P) → IfOk found (λ o. IfNone o N) → (claim : T → Type 0) →
      ((x : T) → P x → claim x) → (N → ⊥) → ReadsTrue result claim
  found_true (Ok (Some x)) path result is P N h none claim some not = subst (λ r. ReadsTrue r claim) (sym is) (some x h)
  found_true (Ok None) path result is P N h none claim some not = absurd (not none)
  found_true (Err fault) path result is P N h none claim some not = subst (λ r. ReadsTrue r claim) (sym is) tt

  pub found_counted : (found : Result (Option T) E) (path : Path) (result : Result T ReadFault) → result ≡ found_in found path →
      (old new : ℕ) → new ≡ old → CountsFailure old new result
  found_counted (Ok (Some x)) path result is old new h = subst (CountsFailure old new) (sym is) h
  found_counted (Ok None) path result is old new h = subst (CountsFailure old new) (sym is) h
  found_counted (Err fault) path result is old new h = subst (CountsFailure old new) (sym is) h

-- ---- a value or a fault

pub or_true : {T : Type 0} (found : Option T) (fault : ReadFault) (result : Result T ReadFault) → result ≡ ok_or found fault →
    (P claim : T → Type 0) → ((x : T) → P x → claim x) → IsSomeAnd found P → ReadsTrue result claim
or_true (Some x) fault result is P claim f h = subst (λ r. ReadsTrue r claim) (sym is) (f x h)
or_true None fault result is P claim f h = absurd h

pub or_counted : {T : Type 0} (found : Option T) (fault : ReadFault) (result : Result T ReadFault) → result ≡ ok_or found fault →
    (old new : ℕ) → new ≡ old → CountsFailure {T = T} old new (Err fault) → CountsFailure old new result
or_counted (Some x) fault result is old new same h = subst (CountsFailure old new) (sym is) same
or_counted None fault result is old new same h = subst (CountsFailure old new) (sym is) h

-- ---- a proof that was checked

module _ (digest : List ℕ → List ℕ) (proof : Proof) (result : Result Proof ReadFault)
    (ok : IfOk result (λ same. (same ≡ proof) × Holds digest same))
    (err : IfErr result (λ fault. (fault ≡ Collision) × (Holds digest proof → ⊥))) where
  pub checked_ok : (P : Proof → Type 0) → P proof → IfOk result P
  checked_ok P h = IfOk-weaker result _ P (λ same is. subst P (sym is.0) h) ok

  pub checked_holds : IfOk result (Holds digest)
  checked_holds = IfOk-weaker result _ (Holds digest) (λ same is. is.1) ok

pub checked_true : (digest : List ℕ → List ℕ) (proof : Proof) (result : Result Proof ReadFault) →
    IfOk result (λ same. (same ≡ proof) × Holds digest same) →
    IfErr result (λ fault. (fault ≡ Collision) × (Holds digest proof → ⊥)) → (claim : Proof → Type 0) → claim proof →
    Holds digest proof → ReadsTrue result claim
checked_true digest proof (Ok same) ok err claim h holds = subst claim (sym ok.0) h
checked_true digest proof (Err fault) ok err claim h holds = absurd (err.1 holds)

pub checked_counted : (Held : Type 0) (result : Result Proof ReadFault) →
    IfErr result (λ fault. (fault ≡ Collision) × Held) → (old new : ℕ) → new ≡ old → CountsFailure old new result
checked_counted Held (Ok same) err old new h = h
checked_counted Held (Err fault) err old new h = subst (λ f. CountsFailure {T = Proof} old new (Err f)) (sym err.0) h

-- ---- a fault that names a file

pub names_more : (P Q : Path → Type 0) → ((path : Path) → P path → Q path) → (fault : ReadFault) → NamesFile P fault →
    NamesFile Q fault
names_more P Q more (NoFile path) h = more path h
names_more P Q more (FalseFile path) h = more path h
names_more P Q more Collision h = h
names_more P Q more Source h = tt
names_more P Q more OutOfMemory h = tt
