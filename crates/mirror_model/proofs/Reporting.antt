-- Reports are unique.
use Rattle.std.proofs.Common.{◌≡◌, ℕ, List, [], ◌∷◌, map, Bool, true, false, IsTrue, Some, None, sym, refl, ap, ◌∙◌}
use Rattle.std.proofs.Common.{subst}
use Rattle.std.specs.List.{AllByRecursion}
use Rattle.std.proofs.lemmas.List.Elements.{recursion_from_All}
use Rattle.mirror_model.specs.View.{View}
use Rattle.mirror_model.specs.Complete.{IsComplete}
use Rattle.mirror_model.specs.Forks.{Point}
use Rattle.mirror_model.specs.Listed.{PointPair}
use Rattle.mirror_model.specs.Reports.{head_point, fork_pair, IsFlagged}
use Rattle.mirror_model.specs.Texts.{status_text, forks_text, missing_text}
use Rattle.mirror_model.specs.ReportLaws.{HeadsAreReportedOnce, ForksAreReportedOnce, ServedIsSaidOnce, StatusIsOneText}
use Rattle.mirror_model.specs.ReportLaws.{ForksAreOneText, MissingIsOneText}
use Rattle.mirror_model.specs.declared.reports.Head.{Head}
use Rattle.mirror_model.specs.declared.reports.Fork.{Fork}
use Rattle.mirror_model.proofs.Listing.{heads_are_listed_once, forks_are_listed_once, missing_is_listed_once}
use Rattle.mirror_model.proofs.OneLists.{serves_one}

same_flag : (a b : Bool) → (IsTrue a → IsTrue b) → (IsTrue b → IsTrue a) → a ≡ b
same_flag true true p q = refl
same_flag true false p q = sym (p refl)
same_flag false true p q = q refl
same_flag false false p q = refl

module _ (digest : List ℕ → List ℕ) (v : View) where
  same_head : (a b : Head) → head_point a ≡ head_point b → IsFlagged digest v a → IsFlagged digest v b → a ≡ b
  same_head a b e p q =
      let sizes : a.size ≡ b.size = ap (λ (x : Point). x.size) e in
      let roots : a.root ≡ b.root = ap (λ (x : Point). x.root) e in
      let there : IsComplete digest v a.size a.root → IsComplete digest v b.size b.root =
      λ h. subst (λ r. IsComplete digest v b.size r) roots (subst (λ n. IsComplete digest v n a.root) sizes h) in
      let back : IsComplete digest v b.size b.root → IsComplete digest v a.size a.root =
      λ h. subst (λ r. IsComplete digest v a.size r) (sym roots)
      (subst (λ n. IsComplete digest v n b.root) (sym sizes) h) in
      let flags : a.complete ≡ b.complete =
      same_flag a.complete b.complete (λ h. q.1 (there (p.0 h))) (λ h. p.1 (back (q.0 h))) in
      λ i. record { size = sizes i; root = roots i; complete = flags i }

  same_heads : (first second : List Head) → map head_point first ≡ map head_point second →
      AllByRecursion (IsFlagged digest v) first → AllByRecursion (IsFlagged digest v) second → first ≡ second
  same_heads [] [] e p q = refl
  same_heads [] (b ∷ ys) e p q = cc e
  same_heads (a ∷ xs) [] e p q = cc e
  same_heads (a ∷ xs) (b ∷ ys) e p q =
      let first : head_point a ≡ head_point b = cc e in
      let rest : map head_point xs ≡ map head_point ys = cc e in
      let same : a ≡ b = same_head a b first p.0 q.0 in
      let rests : xs ≡ ys = same_heads xs ys rest p.1 q.1 in
      λ i. same i ∷ rests i

pub heads_are_reported_once : HeadsAreReportedOnce
heads_are_reported_once digest v first second p q =
    same_heads digest v first second
    (heads_are_listed_once v (map head_point first) (map head_point second) p.lists q.lists)
    (recursion_from_All (IsFlagged digest v) first p.flags) (recursion_from_All (IsFlagged digest v) second q.flags)

same_fork : (a b : Fork) → fork_pair a ≡ fork_pair b → a ≡ b
same_fork a b e =
    let n : a.small.0 ≡ b.small.0 = ap (λ (x : PointPair). x.small.size) e in
    let r : a.small.1 ≡ b.small.1 = ap (λ (x : PointPair). x.small.root) e in
    let m : a.large.0 ≡ b.large.0 = ap (λ (x : PointPair). x.large.size) e in
    let s : a.large.1 ≡ b.large.1 = ap (λ (x : PointPair). x.large.root) e in
    λ i. record { small = (n i, r i); large = (m i, s i) }

same_forks : (xs ys : List Fork) → map fork_pair xs ≡ map fork_pair ys → xs ≡ ys
same_forks [] [] e = refl
same_forks [] (b ∷ ys) e = cc e
same_forks (a ∷ xs) [] e = cc e
same_forks (a ∷ xs) (b ∷ ys) e =
    let first : fork_pair a ≡ fork_pair b = cc e in
    let rest : map fork_pair xs ≡ map fork_pair ys = cc e in
    let same : a ≡ b = same_fork a b first in
    let rests : xs ≡ ys = same_forks xs ys rest in
    λ i. same i ∷ rests i

pub forks_are_reported_once : ForksAreReportedOnce
forks_are_reported_once digest v first second p q =
    same_forks first second (forks_are_listed_once digest v (map fork_pair first) (map fork_pair second) p q)

pub served_is_said_once : ServedIsSaidOnce
served_is_said_once digest hash v lawful (Some a) (Some b) p q =
    let same = serves_one digest hash v lawful p.0 q.0 a.size b.size a.root b.root p.1 q.1 p.2 q.2 in
    let point : a ≡ b = λ i. record { size = same.size_is i; root = same.root_is i } in
    ap Some point
served_is_said_once digest hash v lawful (Some a) None p q = absurd (q p.0 a.size a.root p.1 p.2)
served_is_said_once digest hash v lawful None (Some b) p q = absurd (p q.0 b.size b.root q.1 q.2)
served_is_said_once digest hash v lawful None None p q = refl

pub status_is_one_text : StatusIsOneText
status_is_one_text digest hash v lawful first second p q =
    let heads : p.heads ≡ q.heads = heads_are_reported_once digest v p.heads q.heads p.are_heads q.are_heads in
    let served : p.served ≡ q.served =
    served_is_said_once digest hash v lawful p.served q.served p.is_served q.is_served in
    p.is ∙ (λ i. status_text v.origin (heads i) (served i)) ∙ sym q.is

pub forks_are_one_text : ForksAreOneText
forks_are_one_text digest v first second p q =
    p.is ∙ ap forks_text (forks_are_reported_once digest v p.forks q.forks p.are_forks q.are_forks) ∙ sym q.is

pub missing_is_one_text : MissingIsOneText
missing_is_one_text digest v size root first second p q =
    p.is ∙ ap missing_text (missing_is_listed_once digest v size root p.paths q.paths p.are_missing q.are_missing) ∙
    sym q.is
