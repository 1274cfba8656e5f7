use Rattle.std.proofs.Common.{◌∙◌, ℕ, List, Option, IfErr, IfOk, option_map, subst, sym}
use Rattle.std.specs.List.Sorted.{IsSorted}
use Rattle.std.proofs.lemmas.Result.{err_from_is_err_and}
use Rattle.mirror_folders.specs.Shelf.{Put}
use Rattle.copy_follow.specs.Pruned.{HadSize}
use Rattle.copy_places.specs.Candidates.{turn_cmp}
use Rattle.copy_places.specs.Lines.{AreLines}
use Rattle.copy_places.specs.declared.candidate.Candidate.{Candidate}
use Rattle.copy_places.proofs.Requests.{fails_later}
use Rattle.copy_places.proofs.GatheredFrom.{candidates_later}
use Rattle.copy_follow.proofs.Kept.{follows_candidates, follows_none}
use Rattle.copy_follow.specs.Ending.{KeepsFault}
use Rattle.copy_follow.specs.Says.{SettlesEach}
use Rattle.copy_follow.specs.RunStanding.{HoldsNoCopy, IsCopyOfRun}
use Rattle.copy_follow.specs.TurnsTaken.{HasTakenRun}
use Rattle.copy_follow.proofs.Ending.{Reported, ends_lacking, ends_report, ends_run, ends_so, none_counts, once_lacking, once_report, once_run, report_counts, was_empty}
use Rattle.copy_follow.proofs.CopyReads.{read_some}
use Rattle.copy_follow.specs.Looks.{EndsTurns}
use Rattle.copy_follow.proofs.Looks.{looks_first, looks_lacking, looks_report, looks_turns}
use Rattle.copy_follow.proofs.Noted.{says_by}
use Rattle.copy_follow.proofs.Shown.{reported_forks}
use Rattle.copy_follow.proofs.Standing.{followed_by, had_found, known_found, read_found}
use Rattle.copy_follow.proofs.HonestRuns.{honest_first, honest_listed, one_given, part_stands, report_passes, report_reaches, some_given}
use Rattle.copy_follow.proofs.OneHonestRun.{never_damaged}
use Rattle.std.proofs.Common.{All}
use Rattle.copy_follow.specs.Rule.{IsOfCopy}
use Rattle.copy_follow.specs.Told.{IsTold}
use Rattle.copy_follow.proofs.Telling.{told_report}
use Rattle.copy_follow.proofs.following.follow.Goals as goal

pub returns-in_err-copy-clause-whole : goal.returns-in_err-copy-clause-whole
returns-in_err-copy-clause-whole g c = follows_none _ _ _ _ _ _ c.judge_copy.ensures.same

pub returns-in_err-candidates-clause-whole : goal.returns-in_err-candidates-clause-whole
returns-in_err-candidates-clause-whole g c = follows_none _ _ _ _ _ _ c.judge_copy.ensures.same

pub returns-in_err-run-clause-whole : goal.returns-in_err-run-clause-whole
returns-in_err-run-clause-whole g c =
    follows_candidates _ _ _ _ _ _ _ (g.D.Shelf.puts c.judge_copy.new.shelf) _
    c.deref.ensures.value c.in_ok-candidates.ensures.opened c.in_ok-candidates.ensures.gave c.judge_copy.ensures.same
    c.take_turns.ensures.keeps

pub returns-clause-whole : goal.returns-clause-whole
returns-clause-whole g c =
    follows_candidates _ _ _ _ _ _ _ (g.D.Shelf.puts c.judge_copy.new.shelf) _
    c.deref.ensures.value c.in_ok-candidates.ensures.opened c.in_ok-candidates.ensures.gave c.judge_copy.ensures.same
    c.take_turns.ensures.keeps

pub returns-clause-brought : goal.returns-clause-brought
returns-clause-brought g c =
    let digest = g.H.TreeHash.digest in
    let origin = c.args.origin.now in
    let x = g.D.Shelf.puts c.args.shelf.now in
    let run = c.in_ok-run.ensures.run in
    followed_by digest origin x (g.D.Shelf.puts c.take_turns.new.shelf) c.in_ok-run.run'.copy c.in_ok-run.run'.had c.report.result
    c.report.ensures.copy c.report.ensures.had
    (subst (λ n. HadSize digest origin x n) (sym run.had_is) (had_found digest origin x c.in_ok-copy.copy c.in_ok-copy.ensures.found))
    (run.known x (known_found digest origin x (g.D.Shelf.puts c.judge_copy.new.shelf) c.in_ok-copy.copy
    c.in_ok-copy.ensures.found c.judge_copy.ensures.same))

pub returns-clause-counted : goal.returns-clause-counted
returns-clause-counted g c =
    let digest = g.H.TreeHash.digest in
    report_counts digest (g.D.Shelf.failed c.args.shelf.now) (g.D.Shelf.failed c.take_turns.new.shelf)
    c.in_ok-candidates.candidates.items c.in_ok-run.run' c.report.result
    (c.in_ok-run.ensures.counted ∙ c.in_ok-copy.ensures.counted) c.in_ok-candidates.ensures.some
    (subst (λ (l : List Candidate). KeepsFault digest l c.in_ok-run.run') c.deref.ensures.value c.in_ok-run.ensures.fault)
    (subst (λ (l : List Candidate). IfErr c.report.result (Reported l c.in_ok-run.run')) c.deref-2.ensures.value c.report.ensures.fault)

pub returns-clause-ends : goal.returns-clause-ends
returns-clause-ends g c =
    let digest = g.H.TreeHash.digest in
    let origin = c.args.origin.now in
    let x = g.D.Shelf.puts c.args.shelf.now in
    let copy = c.in_ok-copy.copy in
    let candidates = c.in_ok-candidates.candidates.items in
    let rising = c.in_ok-candidates.ensures.rising in
    let run = c.in_ok-run.run' in
    ends_report digest g.S.Source.may_answer origin _ x c.args.places.now c.take_turns.new.places
    (option_map (λ v. v.items) c.args.given) candidates run c.report.result c.in_ok-candidates.ensures.some
    (candidates_later origin _ g.S.Source.may_answer g.S.Source.failed g.S.Source.asked c.args.places.now
    c.candidates_of.new.places c.take_turns.new.places (option_map (λ v. v.items) c.args.given)
    candidates c.take_turns.ensures.asks c.in_ok-candidates.ensures.gathered)
    rising
    (was_empty digest origin x copy candidates run
    (subst (λ (l : List Candidate). HasTakenRun digest copy l run) c.deref.ensures.value
    (c.in_ok-run.ensures.taken (subst (IsSorted turn_cmp) (sym c.deref.ensures.value) rising)))
    c.in_ok-copy.ensures.found)
    (subst (λ (l : List Candidate). KeepsFault digest l run) c.deref.ensures.value c.in_ok-run.ensures.fault)
    (λ e. fails_later g.S.Source.may_answer g.S.Source.failed g.S.Source.asked
    c.args.places.now c.candidates_of.new.places c.take_turns.new.places c.candidates_of.ensures.asks
    c.take_turns.ensures.asks (c.in_ok-run.ensures.source e)) (subst (λ (l : List Candidate). IfErr c.report.result (Reported l c.in_ok-run.run')) c.deref-2.ensures.value c.report.ensures.fault)

pub returns-in_err-candidates-clause-counted : goal.returns-in_err-candidates-clause-counted
returns-in_err-candidates-clause-counted g c =
    let p = err_from_is_err_and c.from_residual-in_err-candidates.result c.from_residual-in_err-candidates.ensures.1 in
    rw (p.1, p.2) (none_counts (g.D.Shelf.failed c.args.shelf.now) (g.D.Shelf.failed c.judge_copy.new.shelf)
    c.in_err-candidates.field-0.0 c.in_ok-copy.ensures.counted)

pub returns-in_err-copy-clause-ends : goal.returns-in_err-copy-clause-ends
returns-in_err-copy-clause-ends g c =
    let digest = g.H.TreeHash.digest in
    let origin = c.args.origin.now in
    let x = g.D.Shelf.puts c.args.shelf.now in
    let e = c.in_err-copy.field-0.0 in
    let p = err_from_is_err_and c.from_residual.result c.from_residual.ensures.1 in
    rw (p.1, p.2) (ends_run digest g.S.Source.may_answer origin _ x c.args.places.now c.args.places.now _ e
    (ends_so (HoldsNoCopy digest origin x) ⊥ (HoldsNoCopy digest origin x) (HoldsNoCopy digest origin x) e (λ none. none)
    (λ b. absurd b) c.in_err-copy.ensures.ends))

pub returns-in_err-candidates-clause-ends : goal.returns-in_err-candidates-clause-ends
returns-in_err-candidates-clause-ends g c =
    let p = err_from_is_err_and c.from_residual-in_err-candidates.result c.from_residual-in_err-candidates.ensures.1 in
    rw (p.1, p.2) (ends_lacking g.H.TreeHash.digest g.S.Source.may_answer c.args.origin.now _
    (g.D.Shelf.puts c.args.shelf.now) c.args.places.now c.candidates_of.new.places
    (option_map (λ v. v.items) c.args.given) c.in_err-candidates.field-0.0 c.in_err-candidates.ensures.ends)

pub returns-in_err-run-clause-ends : goal.returns-in_err-run-clause-ends
returns-in_err-run-clause-ends g c =
    let digest = g.H.TreeHash.digest in
    let origin = c.args.origin.now in
    let x = g.D.Shelf.puts c.args.shelf.now in
    let y = g.D.Shelf.puts c.judge_copy.new.shelf in
    let copy = c.in_ok-copy.copy in
    let e = c.in_err-run.field-0.0 in
    let p = err_from_is_err_and c.from_residual-in_err-run.result c.from_residual-in_err-run.ensures.1 in
    let Lacked = (first : Option (List Put)) → IsCopyOfRun digest origin first y copy → HoldsNoCopy digest origin first in
    let so : Lacked → HoldsNoCopy digest origin x =
    λ none. none x (known_found digest origin x y copy c.in_ok-copy.ensures.found c.judge_copy.ensures.same) in
    rw (p.1, p.2) (ends_run digest g.S.Source.may_answer origin _ x c.args.places.now c.take_turns.new.places _ e
    (ends_so Lacked Lacked (HoldsNoCopy digest origin x) (HoldsNoCopy digest origin x) e so so c.in_err-run.ensures.ends))

pub returns-clause-forks : goal.returns-clause-forks
returns-clause-forks g c =
    reported_forks g.H.TreeHash.digest c.in_ok-run.run' c.report.result c.report.ensures.shows c.in_ok-run.ensures.run.shows

pub returns-clause-says : goal.returns-clause-says
returns-clause-says g c =
    let digest = g.H.TreeHash.digest in
    let origin = c.args.origin.now in
    let x = g.D.Shelf.puts c.args.shelf.now in
    let copy = c.in_ok-copy.copy in
    let run = c.in_ok-run.run' in
    let rising = c.in_ok-candidates.ensures.rising in
    says_by digest origin _ x (g.D.Shelf.puts c.take_turns.new.shelf) copy c.in_ok-candidates.candidates.items run
    c.report.result c.report.ensures.copy
    (subst (λ (l : List Candidate). IfOk c.report.result
    (λ f. (digest : List ℕ → List ℕ) (first : Option Candidate) → HasTakenRun digest first l run → SettlesEach digest l f))
    c.deref-2.ensures.value c.report.ensures.settles)
    (subst (λ (l : List Candidate). IfOk c.report.result
    (λ f. (digest : List ℕ → List ℕ) (first : Option Candidate) → HasTakenRun digest first l run →
    AreLines first l f.forks.items))
    c.deref-2.ensures.value c.report.ensures.lines)
    (subst (λ (l : List Candidate). IfOk c.report.result
    (λ f. (digest : List ℕ → List ℕ) (first : Option Candidate) → HasTakenRun digest first l run →
    All (IsOfCopy first l f.copy) f.forks.items))
    c.deref-2.ensures.value c.report.ensures.of_copy)
    (subst (λ (l : List Candidate). HasTakenRun digest copy l run) c.deref.ensures.value
    (c.in_ok-run.ensures.taken (subst (IsSorted turn_cmp) (sym c.deref.ensures.value) rising)))
    c.in_ok-copy.ensures.found (read_found digest origin x copy c.in_ok-copy.ensures.found)
    (c.in_ok-run.ensures.run.known x (known_found digest origin x (g.D.Shelf.puts c.judge_copy.new.shelf) copy
    c.in_ok-copy.ensures.found c.judge_copy.ensures.same))
    (record {
      moment = c.candidates_of.new.places;
      before = c.candidates_of.ensures.asks;
      once = c.candidates_of.ensures.once;
      after = c.take_turns.ensures.asks;
      are = c.in_ok-candidates.ensures.gathered;
    })
    rising

pub returns-in_err-copy-clause-suffices : goal.returns-in_err-copy-clause-suffices
returns-in_err-copy-clause-suffices g c = λ h.
    let p = err_from_is_err_and c.from_residual.result c.from_residual.ensures.1 in
    rw (p.1, p.2) (never_damaged g.H.TreeHash.digest c.args.origin.now h.entries (g.D.Shelf.puts c.args.shelf.now)
    c.in_err-copy.field-0.0 h.holds c.in_err-copy.ensures.ends (λ e. let there = c.in_err-copy.ensures.some e in
    read_some (g.D.Shelf.puts c.args.shelf.now) there.0 there.1))

pub returns-in_err-candidates-clause-suffices : goal.returns-in_err-candidates-clause-suffices
returns-in_err-candidates-clause-suffices g c = λ h.
    let p = err_from_is_err_and c.from_residual-in_err-candidates.result c.from_residual-in_err-candidates.ensures.1 in
    rw (p.1, p.2) (some_given g.S.Source.may_answer c.args.origin.now _ c.args.places.now c.candidates_of.new.places
    g.H.TreeHash.digest (g.D.Shelf.puts c.args.shelf.now) (option_map (λ v. v.items) c.args.given)
    c.in_err-candidates.field-0.0 c.in_err-candidates.ensures.ends h)

pub returns-in_err-run-clause-suffices : goal.returns-in_err-run-clause-suffices
returns-in_err-run-clause-suffices g c = λ h.
    let digest = g.H.TreeHash.digest in
    let origin = c.args.origin.now in
    let x = g.D.Shelf.puts c.args.shelf.now in
    let y = g.D.Shelf.puts c.judge_copy.new.shelf in
    let may = g.S.Source.may_answer in
    let failed = g.S.Source.failed in
    let asked = g.S.Source.asked in
    let start = c.args.places.now in
    let mid = c.candidates_of.new.places in
    let new = c.take_turns.new.places in
    let given = option_map (λ v. v.items) c.args.given in
    let copy = c.in_ok-copy.copy in
    let candidates = c.in_ok-candidates.candidates.items in
    let rising = c.in_ok-candidates.ensures.rising in
    let p = err_from_is_err_and c.from_residual-in_err-run.result c.from_residual-in_err-run.ensures.1 in
    let gathered = candidates_later origin _ may failed asked start mid new given candidates c.take_turns.ensures.asks
    c.in_ok-candidates.ensures.gathered in
    let k = honest_first digest may origin x start new _ h candidates gathered rising failed asked mid
    c.candidates_of.ensures.asks c.take_turns.ensures.asks y c.judge_copy.ensures.same copy
    (known_found digest origin x y copy c.in_ok-copy.ensures.found c.judge_copy.ensures.same) _ c.deref.ensures.value in
    rw (p.1, p.2) (c.in_err-run.ensures.suffices (subst (IsSorted turn_cmp) (sym c.deref.ensures.value) rising) k.0)

pub returns-clause-suffices : goal.returns-clause-suffices
returns-clause-suffices g c = λ h.
    let digest = g.H.TreeHash.digest in
    let origin = c.args.origin.now in
    let x = g.D.Shelf.puts c.args.shelf.now in
    let y = g.D.Shelf.puts c.judge_copy.new.shelf in
    let may = g.S.Source.may_answer in
    let failed = g.S.Source.failed in
    let asked = g.S.Source.asked in
    let start = c.args.places.now in
    let mid = c.candidates_of.new.places in
    let new = c.take_turns.new.places in
    let given = option_map (λ v. v.items) c.args.given in
    let copy = c.in_ok-copy.copy in
    let candidates = c.in_ok-candidates.candidates.items in
    let rising = c.in_ok-candidates.ensures.rising in
    let gathered = candidates_later origin _ may failed asked start mid new given candidates c.take_turns.ensures.asks
    c.in_ok-candidates.ensures.gathered in
    let known = known_found digest origin x y copy c.in_ok-copy.ensures.found c.judge_copy.ensures.same in
    let k = honest_first digest may origin x start new _ h candidates gathered rising failed asked mid
    c.candidates_of.ensures.asks c.take_turns.ensures.asks y c.judge_copy.ensures.same copy known _
    c.deref.ensures.value in
    report_reaches digest may origin x start new _ h candidates gathered rising y copy
    (read_found digest origin x copy c.in_ok-copy.ensures.found) known k.0.first k.1 k.2 c.in_ok-run.run' c.report.result
    c.in_ok-run.ensures.run.had_is
    (c.in_ok-run.ensures.suffices (subst (IsSorted turn_cmp) (sym c.deref.ensures.value) rising) k.0)
    c.report.ensures.copy c.report.ensures.had (subst (λ (l : List Candidate). IfErr c.report.result (Reported l c.in_ok-run.run')) c.deref-2.ensures.value c.report.ensures.fault)

pub returns-in_err-copy-clause-reaches : goal.returns-in_err-copy-clause-reaches
returns-in_err-copy-clause-reaches g c = λ h.
    let p = err_from_is_err_and c.from_residual.result c.from_residual.ensures.1 in
    rw (p.1, p.2) (never_damaged g.H.TreeHash.digest c.args.origin.now h.entries (g.D.Shelf.puts c.args.shelf.now)
    c.in_err-copy.field-0.0 h.holds c.in_err-copy.ensures.ends (λ e. let there = c.in_err-copy.ensures.some e in
    read_some (g.D.Shelf.puts c.args.shelf.now) there.0 there.1))

pub returns-in_err-candidates-clause-reaches : goal.returns-in_err-candidates-clause-reaches
returns-in_err-candidates-clause-reaches g c = λ h.
    let p = err_from_is_err_and c.from_residual-in_err-candidates.result c.from_residual-in_err-candidates.ensures.1 in
    rw (p.1, p.2) (one_given g.S.Source.may_answer c.args.origin.now _ c.args.places.now c.candidates_of.new.places
    g.H.TreeHash.digest (g.D.Shelf.puts c.judge_copy.new.shelf) (g.D.Shelf.puts c.args.shelf.now)
    (option_map (λ v. v.items) c.args.given) c.in_err-candidates.field-0.0 c.in_err-candidates.ensures.ends h)

pub returns-in_err-run-clause-reaches : goal.returns-in_err-run-clause-reaches
returns-in_err-run-clause-reaches g c = λ h.
    let digest = g.H.TreeHash.digest in
    let origin = c.args.origin.now in
    let x = g.D.Shelf.puts c.args.shelf.now in
    let y = g.D.Shelf.puts c.judge_copy.new.shelf in
    let copy = c.in_ok-copy.copy in
    let e = c.in_err-run.field-0.0 in
    let p = err_from_is_err_and c.from_residual-in_err-run.result c.from_residual-in_err-run.ensures.1 in
    let Lacked = (first : Option (List Put)) → IsCopyOfRun digest origin first y copy → HoldsNoCopy digest origin first in
    let so : Lacked → HoldsNoCopy digest origin x =
    λ none. none x (known_found digest origin x y copy c.in_ok-copy.ensures.found c.judge_copy.ensures.same) in
    rw (p.1, p.2) (part_stands digest origin h.entries x e h.holds
    (ends_so Lacked Lacked (HoldsNoCopy digest origin x) (HoldsNoCopy digest origin x) e so so c.in_err-run.ensures.ends))

pub returns-clause-reaches : goal.returns-clause-reaches
returns-clause-reaches g c = λ h.
    let digest = g.H.TreeHash.digest in
    let origin = c.args.origin.now in
    let x = g.D.Shelf.puts c.args.shelf.now in
    let y = g.D.Shelf.puts c.judge_copy.new.shelf in
    let last = g.D.Shelf.puts c.take_turns.new.shelf in
    let may = g.S.Source.may_answer in
    let failed = g.S.Source.failed in
    let asked = g.S.Source.asked in
    let start = c.args.places.now in
    let mid = c.candidates_of.new.places in
    let new = c.take_turns.new.places in
    let given = option_map (λ v. v.items) c.args.given in
    let copy = c.in_ok-copy.copy in
    let candidates = c.in_ok-candidates.candidates.items in
    let rising = c.in_ok-candidates.ensures.rising in
    let gathered = candidates_later origin _ may failed asked start mid new given candidates c.take_turns.ensures.asks
    c.in_ok-candidates.ensures.gathered in
    let k = honest_listed digest may origin x last start new _ h candidates gathered failed asked mid
    c.candidates_of.ensures.asks c.take_turns.ensures.asks y c.judge_copy.ensures.same copy
    (known_found digest origin x y copy c.in_ok-copy.ensures.found c.judge_copy.ensures.same)
    (read_found digest origin x copy c.in_ok-copy.ensures.found) _ c.deref.ensures.value in
    report_passes digest may origin x last start new _ h candidates gathered c.in_ok-run.run' k.0.candidate.size.0
    c.report.result k.1
    (c.in_ok-run.ensures.passes (subst (IsSorted turn_cmp) (sym c.deref.ensures.value) rising) k.0)
    c.report.ensures.copy (subst (λ (l : List Candidate). IfErr c.report.result (Reported l c.in_ok-run.run')) c.deref-2.ensures.value c.report.ensures.fault)

pub returns-clause-tells : goal.returns-clause-tells
returns-clause-tells g c =
    let digest = g.H.TreeHash.digest in
    let may = g.S.Source.may_answer in
    let failed = g.S.Source.failed in
    let asked = g.S.Source.asked in
    let mid = c.candidates_of.new.places in
    let new = c.take_turns.new.places in
    let copy = c.in_ok-copy.copy in
    let run = c.in_ok-run.run' in
    let rising = c.in_ok-candidates.ensures.rising in
    told_report digest may failed asked c.args.places.now mid new c.in_ok-candidates.candidates.items run c.report.result copy
    c.candidates_of.ensures.asks c.report.ensures.copy c.report.ensures.kept
    (subst (λ (l : List Candidate). IfOk c.report.result
    (λ f. (digest : List ℕ → List ℕ) (first : Option Candidate) → HasTakenRun digest first l run → SettlesEach digest l f))
    c.deref-2.ensures.value c.report.ensures.settles)
    (subst (λ (l : List Candidate). HasTakenRun digest copy l run) c.deref.ensures.value
    (c.in_ok-run.ensures.taken (subst (IsSorted turn_cmp) (sym c.deref.ensures.value) rising)))
    (subst (λ (l : List Candidate). All (IsTold digest may failed asked mid new run.copy run.forks.items) l)
    c.deref.ensures.value (c.in_ok-run.ensures.tells (subst (IsSorted turn_cmp) (sym c.deref.ensures.value) rising)))

-- ---- places that give no candidate

pub returns-in_err-copy-clause-passed : goal.returns-in_err-copy-clause-passed
returns-in_err-copy-clause-passed g c =
    let p = err_from_is_err_and c.from_residual.result c.from_residual.ensures.1 in
    rw (p.1, p.2) (once_run _ _ _ _ c.in_err-copy.field-0.0 c.in_err-copy.ensures.ends)

pub returns-in_err-candidates-clause-passed : goal.returns-in_err-candidates-clause-passed
returns-in_err-candidates-clause-passed g c =
    let p = err_from_is_err_and c.from_residual-in_err-candidates.result c.from_residual-in_err-candidates.ensures.1 in
    rw (p.1, p.2) (once_lacking _ _ c.in_err-candidates.field-0.0 c.candidates_of.ensures.once)

pub returns-in_err-run-clause-passed : goal.returns-in_err-run-clause-passed
returns-in_err-run-clause-passed g c =
    let p = err_from_is_err_and c.from_residual-in_err-run.result c.from_residual-in_err-run.ensures.1 in
    rw (p.1, p.2) (once_run _ _ _ _ c.in_err-run.field-0.0 c.in_err-run.ensures.ends)

pub returns-clause-passed : goal.returns-clause-passed
returns-clause-passed g c =
    let digest = g.H.TreeHash.digest in
    let origin = c.args.origin.now in
    let x = g.D.Shelf.puts c.args.shelf.now in
    let copy = c.in_ok-copy.copy in
    let candidates = c.in_ok-candidates.candidates.items in
    let rising = c.in_ok-candidates.ensures.rising in
    let run = c.in_ok-run.run' in
    once_report _ _ digest candidates run c.report.result c.in_ok-candidates.ensures.some
    (was_empty digest origin x copy candidates run
    (subst (λ (l : List Candidate). HasTakenRun digest copy l run) c.deref.ensures.value
    (c.in_ok-run.ensures.taken (subst (IsSorted turn_cmp) (sym c.deref.ensures.value) rising)))
    c.in_ok-copy.ensures.found)
    (subst (λ (l : List Candidate). KeepsFault digest l run) c.deref.ensures.value c.in_ok-run.ensures.fault)
    (subst (λ (l : List Candidate). IfErr c.report.result (Reported l c.in_ok-run.run')) c.deref-2.ensures.value c.report.ensures.fault)

-- ---- a fault of the copy

pub returns-in_err-copy-clause-looks : goal.returns-in_err-copy-clause-looks
returns-in_err-copy-clause-looks g c =
    let p = err_from_is_err_and c.from_residual.result c.from_residual.ensures.1 in
    rw (p.1, p.2) (
      c.args.shelf.now,
      looks_first _ (g.D.Shelf.puts c.args.shelf.now) _ c.in_err-copy.field-0.0
          c.in_err-copy.ensures.ends c.in_err-copy.ensures.some,
    )

pub returns-in_err-candidates-clause-looks : goal.returns-in_err-candidates-clause-looks
returns-in_err-candidates-clause-looks g c =
    let p = err_from_is_err_and c.from_residual-in_err-candidates.result c.from_residual-in_err-candidates.ensures.1 in
    rw (p.1, p.2) (
      c.args.shelf.now,
      looks_lacking _ (g.D.Shelf.puts c.args.shelf.now) (g.D.Shelf.puts c.args.shelf.now)
          c.in_err-candidates.field-0.0,
    )

pub returns-in_err-run-clause-looks : goal.returns-in_err-run-clause-looks
returns-in_err-run-clause-looks g c =
    let p = err_from_is_err_and c.from_residual-in_err-run.result c.from_residual-in_err-run.ensures.1 in
    let copy = c.in_ok-copy.copy in
    let candidates = c.in_ok-candidates.candidates.items in
    let look = c.in_err-run.ensures.looks (subst (IsSorted turn_cmp) (sym c.deref.ensures.value) c.in_ok-candidates.ensures.rising) in
    rw (p.1, p.2) (
      look.0,
      looks_turns _ (g.D.Shelf.puts c.args.shelf.now) c.args.origin.now copy candidates c.in_ok-copy.ensures.found
          c.in_ok-candidates.ensures.gave (g.D.Shelf.puts look.0) c.in_err-run.field-0.0
          (subst (λ (l : List Candidate). EndsTurns copy l (g.D.Shelf.puts look.0) c.in_err-run.field-0.0) c.deref.ensures.value look.1),
    )

pub returns-clause-looks : goal.returns-clause-looks
returns-clause-looks g c =
    let digest = g.H.TreeHash.digest in
    let run = c.in_ok-run.run' in
    let x = g.D.Shelf.puts c.args.shelf.now in
    looks_report _ x digest c.args.shelf.now c.in_ok-candidates.candidates.items run g.D.Shelf.puts c.report.result c.in_ok-candidates.ensures.some
    (subst (λ (l : List Candidate). KeepsFault digest l run) c.deref.ensures.value c.in_ok-run.ensures.fault)
    (subst (λ (l : List Candidate). IfErr c.report.result (Reported l c.in_ok-run.run')) c.deref-2.ensures.value c.report.ensures.fault)
