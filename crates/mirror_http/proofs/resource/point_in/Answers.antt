use Rattle.std.proofs.Common.{ℕ, List, subst, sym}
use Rattle.mirror_http.specs.Resource.{IsHexHash, IsNumber}
use Rattle.mirror_http.proofs.OneResource.{number_lacks_slash}
use Rattle.mirror_http.proofs.resource.point_in.Goals as goal

pub returns-in_default-clause-none : goal.returns-in_default-clause-none
returns-in_default-clause-none c =
    λ n root is. c.in_default.ensures.complete is.first is.second (number_lacks_slash is.first n is.size_is) is.parts

pub returns-in_default-number_of-clause-none : goal.returns-in_default-number_of-clause-none
returns-in_default-number_of-clause-none c = λ n root is.
    let found = c.in-Some.ensures.complete is.first is.second (number_lacks_slash is.first n is.size_is) is.parts in
    c.in_default-number_of.ensures.none n (subst (λ (t : List ℕ). IsNumber t n) (sym found.0) is.size_is)

pub returns-in_default-hash_of-clause-none : goal.returns-in_default-hash_of-clause-none
returns-in_default-hash_of-clause-none c = λ n root is.
    let found = c.in-Some.ensures.complete is.first is.second (number_lacks_slash is.first n is.size_is) is.parts in
    c.in_default-hash_of.ensures.none root (subst (λ (t : List ℕ). IsHexHash t root) (sym found.1) is.root_is)
