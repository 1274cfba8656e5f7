use Rattle.std.proofs.Common.{ℕ, List, subst, sym}
use Rattle.mirror_http.specs.Resource.{IsNumber}
use Rattle.mirror_http.proofs.OneResource.{number_lacks_slash}
use Rattle.mirror_http.proofs.resource.numbers_of.Goals as goal

pub returns-in_default-clause-none : goal.returns-in_default-clause-none
returns-in_default-clause-none c =
    λ m n is. c.in_default.ensures.complete is.first is.second (number_lacks_slash is.first m is.first_is) is.parts

pub returns-in_default-number_of-clause-none : goal.returns-in_default-number_of-clause-none
returns-in_default-number_of-clause-none c = λ m n is.
    let found = c.in-Some.ensures.complete is.first is.second (number_lacks_slash is.first m is.first_is) is.parts in
    c.in_default-number_of.ensures.none m (subst (λ (t : List ℕ). IsNumber t m) (sym found.0) is.first_is)

pub returns-in_default-number_of-2-clause-none : goal.returns-in_default-number_of-2-clause-none
returns-in_default-number_of-2-clause-none c = λ m n is.
    let found = c.in-Some.ensures.complete is.first is.second (number_lacks_slash is.first m is.first_is) is.parts in
    c.in_default-number_of-2.ensures.none n (subst (λ (t : List ℕ). IsNumber t n) (sym found.1) is.second_is)
