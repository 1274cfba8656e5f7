-- Candidates of one size and root.
use Rattle.std.proofs.Common.{◌≡◌, sym, ◌∙◌}
use Rattle.copy_places.specs.Candidates.{IsOnePoint, IsSame, point_of}
use Rattle.copy_places.specs.declared.candidate.Candidate.{Candidate}

pub one_back : (a b : Candidate) → IsOnePoint a b → IsOnePoint b a
one_back a b p = (sym p.0, sym p.1)

pub one_then : (a b c : Candidate) → IsOnePoint a b → IsOnePoint b c → IsOnePoint a c
one_then a b c p q = (p.0 ∙ q.0, p.1 ∙ q.1)

pub one_of_same : (a b : Candidate) → IsSame a b → IsOnePoint a b
one_of_same a b s = (sym s.size_is, sym s.root_is)

pub point_same : (a b : Candidate) → IsOnePoint a b → point_of a ≡ point_of b
point_same a b p = λ i. record { size = p.0 i; root = p.1 i }
