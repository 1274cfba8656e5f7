-- What holds at an early return.
use Rattle.std.proofs.Common.{◌≡◌, ℕ, List, Ok, Err, Result, subst, sym, true≢false}
use Rattle.std.proofs.lemmas.Bool.{false≢true}
use Rattle.std.specs.Result.{IsErr, IsErrAnd, IsOk}
use Rattle.tlog_text.specs.Answers.{seen}
use Rattle.tlog_tiles.specs.Bundle.{ReadsBundle}
use Rattle.tlog_tiles.specs.Row.{ReadsRow}
use Rattle.tlog_tiles.specs.declared.bundle.BundleFault.{BundleFault}
use Rattle.tlog_tiles.specs.declared.bundle.BundleFault.TheVariants as bundle
use Rattle.tlog_tiles.specs.declared.row.RowFault.{RowFault}
use Rattle.tlog_tiles.specs.declared.row.RowFault.TheVariants as row

-- a result is not both Ok and Err
pub not_both : {T E : Type 0} (r : Result T E) → IsErr r → IsOk r → ⊥
not_both (Ok x) err ok = true≢false (sym err)
not_both (Err e) err ok = true≢false (sym ok)

-- memory was refused
pub no_row : {X : Type 0} (width : ℕ) (bytes : List ℕ) (view : X → List (List ℕ)) (r : Result X RowFault) →
    IsErr r × IsErrAnd r (λ e. e ≡ row.OutOfMemory) → ReadsRow width bytes (seen view r)
no_row width bytes view (Ok x) is = absurd (false≢true is.0)
no_row width bytes view (Err e) is = subst (λ f. ReadsRow width bytes (Err f)) (sym is.1) tt

pub no_bundle : {X : Type 0} (width : ℕ) (bytes : List ℕ) (view : X → List (List ℕ)) (r : Result X BundleFault) →
    IsErr r × IsErrAnd r (λ e. e ≡ bundle.OutOfMemory) → ReadsBundle width bytes (seen view r)
no_bundle width bytes view (Ok x) is = absurd (false≢true is.0)
no_bundle width bytes view (Err e) is = subst (λ f. ReadsBundle width bytes (Err f)) (sym is.1) tt
