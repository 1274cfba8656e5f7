-- From the request to its reply.
use Rattle.std.proofs.Common.{◌≡◌, ℕ, List, [], ◌∷◌, Option, Some, None, refl, sym, subst}
use Rattle.std.specs.Prelude.{IfSome}
use Rattle.mirror_http.specs.Answered.{IsBodyFor, IsRequestOf, reply_with}
use Rattle.mirror_http.specs.Resource.{Names}
use Rattle.mirror_http.specs.Response.{bad_request, IsFoundBy, LacksRequest, ResponseBy}
use Rattle.mirror_http.specs.Response.{other_method, not_there, is_there, silent, refused, replied}
use Rattle.mirror_http.specs.declared.request.Request.{Request}
use Rattle.mirror_http.specs.declared.request.Request.TheVariants.{Nothing, Unreadable, OtherMethod, Unknown, Get}
use Rattle.mirror_http.specs.declared.resource.Resource.{Resource}
use Rattle.mirror_http.proofs.OneResource.{one_resource}

-- ---- the reply

module _ (IsBodyOf : Resource → List ℕ → Type 0) where
  -- a target that names no resource is not found
  none_named : (target : List ℕ) → ((resource : Resource) → Names target resource → ⊥) → (reply : List ℕ) →
      IsFoundBy IsBodyOf target reply → ⊥
  none_named target none reply is = none is.resource is.names

  -- a resource without bytes is not found
  none_found : (target : List ℕ) (resource : Resource) → Names target resource →
      ((body : List ℕ) → IsBodyOf resource body → ⊥) → (reply : List ℕ) → IsFoundBy IsBodyOf target reply → ⊥
  none_found target resource names none reply is =
      none is.body (subst (λ (r : Resource). IsBodyOf r is.body)
      (one_resource target is.resource resource is.names names) is.is_body)

  -- the reply to the request is the response
  pub responds : (bytes : List ℕ) (request : Request) (body : Option (List ℕ)) → IsRequestOf bytes request →
      IsBodyFor IsBodyOf request body → ResponseBy IsBodyOf bytes (reply_with request body)
  responds bytes Nothing body is has = subst (λ (b : List ℕ). ResponseBy IsBodyOf b []) (sym is) silent
  responds bytes Unreadable body is has =
      let bad : ResponseBy IsBodyOf (is.0 ∷ is.1) bad_request = refused (subst LacksRequest is.2 is.3) in
      subst (λ (b : List ℕ). ResponseBy IsBodyOf b bad_request) (sym is.2) bad
  responds bytes OtherMethod body is has = replied is.1 (other_method is.2)
  responds bytes Unknown body is has = replied is.1 (not_there is.2 (none_named is.0.target is.3))
  responds bytes (Get resource) None is has = replied is.1 (not_there is.2 (none_found is.0.target resource is.3 has))
  responds bytes (Get resource) (Some body) is has =
      replied is.1 (is_there is.2 (record {
        resource = resource;
        names = is.3;
        body = body;
        is_body = has;
        reply_is = refl;
      }))

  -- the same for bytes that may be unknown
  pub responds_to : (known : Option (List ℕ)) (request : Request) (body : Option (List ℕ)) (reply : List ℕ) →
      IfSome known (λ bytes. IsRequestOf bytes request) → IsBodyFor IsBodyOf request body →
      reply ≡ reply_with request body → IfSome known (λ bytes. ResponseBy IsBodyOf bytes reply)
  responds_to None request body reply is has e = tt
  responds_to (Some bytes) request body reply is has e =
      subst (λ (r : List ℕ). ResponseBy IsBodyOf bytes r) (sym e) (responds bytes request body is has)

-- the reply was written
pub given_reply : (Replies : List ℕ → List ℕ → Type 0) (Writes : List ℕ → Type 0) (known : Option (List ℕ))
    (reply written : List ℕ) → IfSome known (λ bytes. Replies bytes reply) → written ≡ reply → Writes written →
    IfSome known (λ bytes. (one : List ℕ) × Replies bytes one × Writes one)
given_reply Replies Writes None reply written h e w = tt
given_reply Replies Writes (Some bytes) reply written h e w = (reply, h, subst Writes e w)
