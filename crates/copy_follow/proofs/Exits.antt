-- What a call says where `?` ends it.
use Rattle.std.proofs.Common.{◌≡◌, ℕ, List, Result, Ok, Err, IfErr, IsErr, IsErrAnd, Option, sym, subst}
use Rattle.std.proofs.lemmas.Bool.{false≢true}
use Rattle.mirror_folders.specs.Shelf.{Put}
use Rattle.copy_places.specs.declared.places.Places.{Places}
use Rattle.copy_follow.specs.Conflicts.{ConflictPutsNothing}
use Rattle.copy_follow.specs.Faults.{BlamesPlaces, CountsFault, CountsShelf, IsOfNoPlace}
use Rattle.copy_follow.specs.declared.bring_fault.BringFault.{BringFault}
use Rattle.copy_follow.specs.declared.bring_fault.BringFault.TheVariants.{BadCheckpoint, CopyDamaged, NotLarger, Contradiction}
use Rattle.copy_follow.specs.declared.bring_fault.BringFault.TheVariants.{Collision, NoFile, Source, CopyInUse, ShelfFault, OutOfMemory}

pub err_exit : {T : Type 0} (P : BringFault → Type 0) (result : Result T BringFault) (fault : BringFault) →
    IsErr result × IsErrAnd result (λ f. f ≡ fault) → P fault → IfErr result P
err_exit P (Ok x) fault is h = tt
err_exit P (Err f) fault is h = subst P (sym is.1) h

-- the count of failures over good calls, and over a call that failed
pub counted_exit : {T : Type 0} (result : Result T BringFault) (fault : BringFault) → IsErr result × IsErrAnd result (λ f. f ≡ fault) →
    (old mid new : ℕ) → mid ≡ old → CountsFault mid new fault → CountsShelf old new result
counted_exit (Ok x) fault is old mid new same h = absurd (false≢true is.0)
counted_exit (Err f) fault is old mid new same h =
    subst (CountsFault old new) (sym is.1) (subst (λ n. CountsFault n new fault) same h)

-- the count over good calls, and over the last one
pub counted_last : {T : Type 0} (result : Result T BringFault) (old mid new : ℕ) → mid ≡ old → CountsShelf mid new result →
    CountsShelf old new result
counted_last result old mid new same h = subst (λ n. CountsShelf n new result) same h

pub early_exit : {T : Type 0} (result : Result T BringFault) (fault : BringFault) → IsErr result × IsErrAnd result (λ f. f ≡ fault) →
    (start m : ℕ) (x y : Option (List Put)) → ConflictPutsNothing {T = T} start m x y (Err fault) →
    ConflictPutsNothing start m x y result
early_exit (Ok x) fault is start m a b h = absurd (false≢true is.0)
early_exit {T} (Err f) fault is start m a b h = subst (λ e. ConflictPutsNothing {T = T} start m a b (Err e)) (sym is.1) h

-- a fault that is not about a missing file
pub no_place : {S : Type 0} (places : Places S) (e : BringFault) → IsOfNoPlace e → BlamesPlaces places e
no_place places BadCheckpoint h = absurd h
no_place places CopyDamaged h = absurd h
no_place places NotLarger h = absurd h
no_place places Contradiction h = tt
no_place places Collision h = tt
no_place places NoFile h = absurd h
no_place places Source h = absurd h
no_place places CopyInUse h = absurd h
no_place places ShelfFault h = tt
no_place places OutOfMemory h = tt
