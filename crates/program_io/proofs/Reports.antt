-- The report after a look at the clock.
use Rattle.std.proofs.Common.{◌≡◌, ℕ, List, Option, Some, None, Bool, true, ◌⊎◌, inl, inr}
use Rattle.std.proofs.Common.{refl, sym, subst, ◌∙◌, ⊎_elim, arith}
use Rattle.std.specs.Prelude.{is_some}
use Rattle.std.proofs.lemmas.Bool.{cases_lt, false≢true}
use Rattle.std.proofs.lemmas.List.{append-nil}
use Rattle.byte_streams.specs.Streams.{AppendsPrefix}
use Rattle.program_io.specs.ProgressView.{ProgressView, IsDue, ReportsAt, SameWork, printed_line}

due_or_not : (due : Option ℕ) (now : ℕ) → IsDue due now ⊎ (¬ IsDue due now)
due_or_not None now = inr (λ h. h)
due_or_not (Some due) now =
    ⊎_elim (λ before. inr (λ after. omega (arith, before, after))) (λ after. inl after) (cases_lt now due)

-- the empty list is a prefix of each line
pub appends_nothing : (known : Option (List ℕ)) (line : List ℕ) → AppendsPrefix known known line
appends_nothing None line = (0, tt)
appends_nothing (Some xs) line = (0, sym (append-nil xs))

-- the same work has the same line
same_line : {W : Type 0} (old new : ProgressView W) → SameWork old new → printed_line old ≡ printed_line new
same_line old new same = rw (same.task, same.all, same.counts) refl

-- a look at the clock writes a prefix of the line
pub tells_prefix : {W : Type 0} (contents : W → Option (List ℕ)) (now : ℕ) (old new : ProgressView W) →
    ReportsAt contents now old new → AppendsPrefix (contents old.writer) (contents new.writer) (printed_line new)
tells_prefix contents now old new recorded =
    ⊎_elim
    (λ due. subst (λ line. AppendsPrefix (contents old.writer) (contents new.writer) line)
    (same_line old new recorded.same) (recorded.line due))
    (λ early. subst (λ (t : ProgressView _). AppendsPrefix (contents old.writer) (contents t.writer) (printed_line t))
    (sym (recorded.early early)) (appends_nothing (contents old.writer) (printed_line old)))
    (due_or_not old.due now)

-- a `Progress` that reports has a time for its next line
pub not_silent : (due : Option ℕ) (b : Bool) → b ≡ is_some due → b ≡ true → due ≡ None → ⊥
not_silent None b p q r = false≢true (sym p ∙ q)
not_silent (Some due) b p q r = cc
