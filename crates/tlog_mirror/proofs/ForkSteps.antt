-- The forks of each tree head, as loops find them.
use Rattle.std.proofs.Common.{◌≡◌, ℕ, suc, ◌+◌, ◌<◌, ◌≤◌, List, [], ◌∷◌, ◌++◌, length, drop, get_or, Bool, true, false}
use Rattle.std.proofs.Common.{cond, set, sym, refl, ap, ◌∙◌, ◌⊎◌, inl, inr, append_assoc, append-nil, arith}
use Rattle.std.specs.Prelude.{IsTrue, ◌↔◌, ◌≢◌, codes, string_bytes}
use Rattle.std.proofs.lemmas.List.{drop_more, drop_all, length-set, length-drop}
use Rattle.mirror_model.specs.Texts.{fork_line, point_text}
use Rattle.mirror_model.specs.declared.reports.Fork.{Fork}
use Rattle.tlog_mirror.specs.Branches.{IsSpelled, under_of, apart_of, fork_of, marked, forks_with, forks_from, marks_from}
use Rattle.tlog_mirror.specs.Branches.{all_forks}
use Rattle.tlog_mirror.specs.declared.branches.Branch.{Branch}
use Rattle.tlog_mirror.proofs.AllForks.{left_rest}

abbrev pub pair_of : Branch → Branch → Fork
pair_of a b = record { small = a.head; large = b.head }

pub marked_length : (at : ℕ) (marks : List Bool) (next : ℕ) (rest : List Branch) →
    length (marked at marks next rest) ≡ length marks
marked_length at marks next [] = refl
marked_length at marks next (b ∷ rest) =
    marked_length at (set marks next (under_of at marks b.after)) (suc next) rest
    ∙ length-set marks next (under_of at marks b.after)

pub from_length : (q : Bool) (at : ℕ) (marks : List Bool) (rest : List Branch) →
    length (marks_from q at marks rest) ≡ length marks
from_length true at marks rest = refl
from_length false at marks [] = refl
from_length false at marks (a ∷ rest) = marked_length at (set marks at true) (suc at) rest ∙ length-set marks at true

module _ (branches : List Branch) where
  -- ---- the loop over the tree heads after one

  module _ (at : ℕ) (a : Branch) (is_a : a ≡ get_or branches at a) (lt : at < length branches) (marks : List Bool) where
    here : drop at branches ≡ a ∷ drop (at + 1) branches
    here = drop_more branches at a lt ∙ ap (λ x. x ∷ drop (at + 1) branches) (sym is_a)

    next_is : suc at ≡ at + 1
    next_is = omega arith

    pub from_here : forks_from false at marks (drop at branches)
        ≡ forks_with at a (set marks at true) (at + 1) (drop (at + 1) branches)
    from_here =
        ap (forks_from false at marks) here
        ∙ ap (λ n. forks_with at a (set marks at true) n (drop (at + 1) branches)) next_is

    pub marks_here : marks_from false at marks (drop at branches)
        ≡ marked at (set marks at true) (at + 1) (drop (at + 1) branches)
    marks_here =
        ap (marks_from false at marks) here ∙ ap (λ n. marked at (set marks at true) n (drop (at + 1) branches)) next_is

  module _ (at : ℕ) (a : Branch) (next : ℕ) (marks : List Bool) (b : Branch) (is_b : b ≡ get_or branches next b)
      (lt : next < length branches) (u : Bool) (u_is : u ≡ under_of at marks b.after) where
    there : drop next branches ≡ b ∷ drop (next + 1) branches
    there = drop_more branches next b lt ∙ ap (λ x. x ∷ drop (next + 1) branches) (sym is_b)

    after_next : suc next ≡ next + 1
    after_next = omega arith

    pub with_step : forks_with at a marks next (drop next branches)
        ≡ fork_of a b u ++ forks_with at a (set marks next u) (next + 1) (drop (next + 1) branches)
    with_step =
        ap (forks_with at a marks next) there
        ∙ ap (λ v. fork_of a b v ++ forks_with at a (set marks next v) (suc next) (drop (next + 1) branches)) (sym u_is)
        ∙ ap (λ n. fork_of a b u ++ forks_with at a (set marks next u) n (drop (next + 1) branches)) after_next

    pub marked_step : marked at marks next (drop next branches)
        ≡ marked at (set marks next u) (next + 1) (drop (next + 1) branches)
    marked_step =
        ap (marked at marks next) there
        ∙ ap (λ v. marked at (set marks next v) (suc next) (drop (next + 1) branches)) (sym u_is)
        ∙ ap (λ n. marked at (set marks next u) n (drop (next + 1) branches)) after_next

  pub with_end : (at : ℕ) (a : Branch) (next : ℕ) (marks : List Bool) → length branches ≤ next →
      forks_with at a marks next (drop next branches) ≡ []
  with_end at a next marks le = ap (forks_with at a marks next) (drop_all next branches le)

  pub marked_end : (at next : ℕ) (marks : List Bool) → length branches ≤ next →
      marked at marks next (drop next branches) ≡ marks
  marked_end at next marks le = ap (marked at marks next) (drop_all next branches le)

  -- ---- the loop over all tree heads

  module _ (calm : List Bool) where
    pub all_step : (at : ℕ) (marks : List Bool) → at < length branches →
        all_forks calm at marks (drop at branches)
        ≡ forks_from (get_or calm at false) at marks (drop at branches)
        ++ all_forks calm (at + 1) (marks_from (get_or calm at false) at marks (drop at branches)) (drop (at + 1) branches)
    all_step at marks lt = step (drop at branches) refl
      where
        step : (rest : List Branch) → rest ≡ drop at branches →
            all_forks calm at marks rest
            ≡ forks_from (get_or calm at false) at marks rest
            ++ all_forks calm (at + 1) (marks_from (get_or calm at false) at marks rest) (drop (at + 1) branches)
        step [] e =
            let n : length (drop at branches) ≡ 0 = ap length (sym e) in
            absurd (omega (arith, n, length-drop at branches, lt))
        step (a ∷ rest) e =
            let next : suc at ≡ at + 1 = omega arith in
            let tail : rest ≡ drop (at + 1) branches = left_rest branches at a rest e ∙ ap (λ n. drop n branches) next in
            (λ i. forks_from (get_or calm at false) at marks (a ∷ rest)
            ++ all_forks calm (next i) (marks_from (get_or calm at false) at marks (a ∷ rest)) (tail i))

    pub all_end : (at : ℕ) (marks : List Bool) → length branches ≤ at → all_forks calm at marks (drop at branches) ≡ []
    all_end at marks le = ap (all_forks calm at marks) (drop_all at branches le)

-- ---- forks that are listed

pub listed : (items more rest new all : List Fork) → items ++ (more ++ rest) ≡ all → new ≡ items ++ more →
    new ++ rest ≡ all
listed items more rest new all was is = ap (λ fs. fs ++ rest) is ∙ append_assoc items more rest ∙ was

-- no fork is left
pub listed_all : (items rest all : List Fork) → items ++ rest ≡ all → rest ≡ [] → items ≡ all
listed_all items rest all was none = sym (append-nil items) ∙ ap (λ fs. items ++ fs) (sym none) ∙ was

module _ (a b : Branch) where
  pub line_is : IsSpelled a → IsSpelled b → (first second : List ℕ) → first ≡ string_bytes a.as_small →
      second ≡ string_bytes b.as_large → first ++ second ≡ fork_line (pair_of a b)
  line_is s l first second f g =
      (λ i. f i ++ g i) ∙ (λ i. s.small i ++ l.large i) ∙ pieces (codes "fork ")
      (point_text a.head.0 a.head.1) (point_text b.head.0 b.head.1)
    where
      pieces : (word x y : List ℕ) →
          (word ++ x ++ 32 ∷ []) ++ (y ++ 10 ∷ []) ≡ word ++ x ++ 32 ∷ y ++ 10 ∷ []
      pieces word x y = simp append_assoc

module _ (a b : Branch) (u : Bool) where
  pub no_fork : apart_of a b u ≡ false → fork_of a b u ≡ []
  no_fork not = ap (λ t. cond t (pair_of a b ∷ []) []) not

  pub one_fork : apart_of a b u ≡ true → fork_of a b u ≡ pair_of a b ∷ []
  one_fork holds = ap (λ t. cond t (pair_of a b ∷ []) []) holds

  -- whether there is a fork
  pub records_none : (before : Bool) → apart_of a b u ≡ false →
      IsTrue before ↔ (IsTrue before ⊎ (fork_of a b u ≢ []))
  records_none before not = (λ h. inl h, λ h. elim h [ inl was ↦ was | inr some ↦ absurd (some (no_fork not)) ])

  pub records_one : (before : Bool) → apart_of a b u ≡ true → IsTrue true ↔ (IsTrue before ⊎ (fork_of a b u ≢ []))
  records_one before holds = (
    λ h. inr (λ none. let wrong : pair_of a b ∷ [] ≡ [] = sym (one_fork holds) ∙ none in cc wrong),
    λ h. refl,
  )
