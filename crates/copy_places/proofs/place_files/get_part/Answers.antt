use Rattle.std.proofs.Common.{◌≡◌, ℕ, List, length, None, Some, inl, inr, refl, sym, ap, subst, ◌∙◌}
use Rattle.mirror_sources.specs.Files.{full_of}
use Rattle.mirror_sources.specs.Honest.{true_bytes}
use Rattle.tlog_tiles.specs.Cut.{IsFileCut}
use Rattle.copy_places.specs.Giving.{MayGive}
use Rattle.copy_places.proofs.Cutting.{cut_true, full_begins, true_cut}
use Rattle.log_reader.specs.Holding.{GoesOn}
use Rattle.copy_places.proofs.Asking.{asks_noted, blamed_failed}
use Rattle.copy_places.proofs.TrueAnswers.{full_stays, got_file, got_none, not_failed}
use Rattle.copy_places.proofs.AskingOnce.{once_noted}
use Rattle.copy_places.specs.AskedOnce.{IsAtPlace}
use Rattle.copy_places.proofs.place_files.get_part.Goals as goal

pub returns-in-File-clause-asks : goal.returns-in-File-clause-asks
returns-in-File-clause-asks g c =
    asks_noted g.S.Source.may_answer g.S.Source.failed g.S.Source.asked (λ p. p ≡ full_of c.args.path.now) c.args.places.now
    c.get.new.self c.note_wrong.new.self (rw c.full-full_path.ensures at c.get.ensures.asks) c.note_wrong.ensures.asks

pub returns-in-NotFound-clause-asks : goal.returns-in-NotFound-clause-asks
returns-in-NotFound-clause-asks g c =
    asks_noted g.S.Source.may_answer g.S.Source.failed g.S.Source.asked (λ p. p ≡ full_of c.args.path.now) c.args.places.now
    c.get.new.self c.note_wrong-in-NotFound.new.self (rw c.full-full_path.ensures at c.get.ensures.asks)
    c.note_wrong-in-NotFound.ensures.asks

pub returns-in-Some-clause-taken : goal.returns-in-Some-clause-taken
returns-in-Some-clause-taken g c =
    let full = c.in-File.full.items in
    let given : MayGive g.S.Source.may_answer c.args.places.now (full_of c.args.path.now) full = record {
      index = c.args.index;
      listed = c.requires;
      may_be = λ d. rw c.full-full_path.ensures at (rw c.in-File.is at (c.in_ok-full.ensures.answer d));
    } in
    inr (
      full,
      given,
      subst (λ (b : List ℕ). IsFileCut c.args.path.now 256 full b) (sym c.in_ok-from_slice-in-Some.ensures.items)
          (subst (λ (f : List ℕ). IsFileCut c.args.path.now 256 f c.in-Some.part.now) c.deref.ensures.value c.in-Some.ensures.some),
    )

pub returns-in-Some-clause-honest : goal.returns-in-Some-clause-honest
returns-in-Some-clause-honest g c = λ digest hash entries short t within gone.
    let path = c.args.path.now in
    let true : c.in-File.full.items ≡ true_bytes digest entries (full_of path) =
    got_file digest entries g.S.Source.may_answer c.args.places.now c.get.new.self c.args.index t (full_of path)
    c.in-File.full.items gone.full
    (λ d. rw c.full-full_path.ensures at (rw c.in-File.is at (c.in_ok-full.ensures.answer d))) in
    let goes = subst (GoesOn path (true_bytes digest entries path)) (sym (c.deref.ensures.value ∙ true))
    (full_begins digest hash entries short (length entries) path within gone.full) in
    ap (λ (b : List ℕ). Some b)
    (c.in_ok-from_slice-in-Some.ensures.items
    ∙ cut_true digest hash entries short path c.deref.result.now c.in-Some.part.now within goes c.in-Some.ensures.some)

pub returns-clause-honest : goal.returns-clause-honest
returns-clause-honest g c = λ digest hash entries short t within gone.
    absurd (not_failed digest entries g.S.Source.may_answer c.args.places.now c.get.new.self c.args.index t
    (λ d. rw c.in-Failed.is at (c.in_ok-full.ensures.answer d)))

pub returns-in-File-clause-honest : goal.returns-in-File-clause-honest
returns-in-File-clause-honest g c = λ digest hash entries short t within gone.
    let path = c.args.path.now in
    let true : c.in-File.full.items ≡ true_bytes digest entries (full_of path) =
    got_file digest entries g.S.Source.may_answer c.args.places.now c.note_wrong.new.self c.args.index t (full_of path)
    c.in-File.full.items gone.full
    (λ d. rw c.full-full_path.ensures at (rw c.in-File.is at (c.in_ok-full.ensures.answer d))) in
    let goes = subst (GoesOn path (true_bytes digest entries path)) (sym (c.deref.ensures.value ∙ true))
    (full_begins digest hash entries short (length entries) path within gone.full) in
    absurd (c.in-None.ensures.none (true_bytes digest entries path)
    (true_cut digest hash entries short path c.deref.result.now within goes))

pub returns-in-NotFound-clause-honest : goal.returns-in-NotFound-clause-honest
returns-in-NotFound-clause-honest g c = λ digest hash entries short t within gone.
    let path = c.args.path.now in
    absurd (full_stays (length entries) path gone
    (got_none digest entries g.S.Source.may_answer c.args.places.now c.note_wrong-in-NotFound.new.self c.args.index t (full_of path)
    gone.full (λ d. rw c.full-full_path.ensures at (rw c.in-NotFound.is at (c.in_ok-full.ensures.answer d)))))

pub returns-in-File-clause-once : goal.returns-in-File-clause-once
returns-in-File-clause-once g c =
    once_noted g.S.Source.asked g.S.Source.may_answer g.S.Source.failed (IsAtPlace c.args.index (λ p. p ≡ full_of c.args.path.now)) c.args.places.now c.get.new.self
    c.note_wrong.new.self (rw c.full-full_path.ensures at c.get.ensures.once) c.note_wrong.ensures.asks

pub returns-in-NotFound-clause-once : goal.returns-in-NotFound-clause-once
returns-in-NotFound-clause-once g c =
    once_noted g.S.Source.asked g.S.Source.may_answer g.S.Source.failed (IsAtPlace c.args.index (λ p. p ≡ full_of c.args.path.now)) c.args.places.now c.get.new.self
    c.note_wrong-in-NotFound.new.self (rw c.full-full_path.ensures at c.get.ensures.once) c.note_wrong-in-NotFound.ensures.asks

pub returns-in_err-full-clause-once : goal.returns-in_err-full-clause-once
returns-in_err-full-clause-once g c = rw c.full-full_path.ensures at c.get.ensures.once

pub returns-in_err-from_slice-in-Some-clause-once : goal.returns-in_err-from_slice-in-Some-clause-once
returns-in_err-from_slice-in-Some-clause-once g c = rw c.full-full_path.ensures at c.get.ensures.once

pub returns-in-Some-clause-once : goal.returns-in-Some-clause-once
returns-in-Some-clause-once g c = rw c.full-full_path.ensures at c.get.ensures.once

pub returns-clause-once : goal.returns-clause-once
returns-clause-once g c = rw c.full-full_path.ensures at c.get.ensures.once

pub returns-clause-blamed : goal.returns-clause-blamed
returns-clause-blamed g c =
    blamed_failed g.S.Source.may_answer g.S.Source.failed g.S.Source.asked (λ p. p ≡ c.full-full_path.result) c.args.places.now
    c.get.new.self c.get.ensures.asks c.args.index (λ d. rw c.in-Failed.is at (c.in_ok-full.ensures.answer d))

pub returns-in-Some-clause-gave : goal.returns-in-Some-clause-gave
returns-in-Some-clause-gave g c = λ d.
    let path = c.args.path.now in
    inr (
      Some c.in-File.full.items,
      rw c.full-full_path.ensures at (rw c.in-File.is at (c.in_ok-full.ensures.answer d)),
      subst (λ (b : List ℕ). IsFileCut path 256 c.in-File.full.items b) (sym c.in_ok-from_slice-in-Some.ensures.items)
          (subst (λ (f : List ℕ). IsFileCut path 256 f c.in-Some.part.now) c.deref.ensures.value c.in-Some.ensures.some),
    )

pub returns-in-File-clause-gave : goal.returns-in-File-clause-gave
returns-in-File-clause-gave g c = λ d.
    inr (
      Some c.in-File.full.items,
      rw c.full-full_path.ensures at (rw c.in-File.is at (c.in_ok-full.ensures.answer d)),
      λ part cut. c.in-None.ensures.none part
          (subst (λ (f : List ℕ). IsFileCut c.args.path.now 256 f part) (sym c.deref.ensures.value) cut),
    )

pub returns-in-NotFound-clause-gave : goal.returns-in-NotFound-clause-gave
returns-in-NotFound-clause-gave g c = λ d.
    inr (None, rw c.full-full_path.ensures at (rw c.in-NotFound.is at (c.in_ok-full.ensures.answer d)), refl)

pub returns-clause-gave : goal.returns-clause-gave
returns-clause-gave g c = λ d. inl (rw c.in-Failed.is at (c.in_ok-full.ensures.answer d))
