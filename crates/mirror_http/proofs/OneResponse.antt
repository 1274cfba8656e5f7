-- The bytes from a client have only one reply.
use Rattle.std.proofs.Common.{◌≡◌, ℕ, List, [], ◌∷◌, length, take, Result, Ok, refl, sym, ap, subst, ◌∙◌, arith}
use Rattle.std.proofs.lemmas.List.{length-append}
use Rattle.httparse.proofs.GrammarLemmas.{request_unique}
use Rattle.httparse.specs.Grammar.{RequestHead, print_request}
use Rattle.tlog_proof.specs.Made.{asked_proof}
use Rattle.tlog_proof.specs.Text.{IsProofText}
use Rattle.tlog_proof.specs.declared.make.ProofFault.{ProofFault}
use Rattle.tlog_proof.specs.declared.proof.Ask.{Ask}
use Rattle.tlog_proof.specs.declared.proof.Proof as proof
use Rattle.tlog_proof.proofs.Spelling.{has_one_spelling}
use Rattle.mirror_model.specs.Complete.{IsLawful}
use Rattle.mirror_model.specs.Strings.{IsDigest}
use Rattle.mirror_model.specs.View.{View}
use Rattle.mirror_model.proofs.OneLists.{one_served, replies_once}
use Rattle.mirror_model.proofs.Reporting.{forks_are_one_text, missing_is_one_text, status_is_one_text}
use Rattle.mirror_http.specs.Laws.{EqualViewsReplyAlike, ResponseIsOne, ResponseIsThere}
use Rattle.mirror_http.specs.Response.{found, HasRequest, IsBody, IsFound, IsReplyTo, IsServedProofText, media_type}
use Rattle.mirror_http.specs.Response.{Response, other_method, not_there, is_there, silent, refused, replied}
use Rattle.mirror_http.specs.declared.limits.TheConstants.{MAX_REQUEST_LEN}
use Rattle.mirror_http.specs.declared.resource.Resource.{Resource}
use Rattle.mirror_http.specs.declared.resource.Resource.TheVariants.{File, Status, Forks, Missing, Proof}
use Rattle.mirror_http.proofs.OneResource.{one_resource}

pub one_request : (bytes : List ℕ) (h g : RequestHead) → HasRequest bytes h → HasRequest bytes g → h ≡ g
one_request bytes h g p q = (request_unique (take MAX_REQUEST_LEN bytes) h g p.rest q.rest p.reads q.reads).0

no_request_in_nothing : (h : RequestHead) → HasRequest [] h → ⊥
unfolding print_request
no_request_in_nothing h has =
    let e = simp length-append at (ap length has.reads.1) in
    absurd (omega (arith, e))

module _ (digest : List ℕ → List ℕ) (hash : IsDigest digest) (v : View) (lawful : IsLawful digest v) where
  one_proof_text : (ask : Ask) (x y : List ℕ) → IsServedProofText digest v ask x →
      IsServedProofText digest v ask y → x ≡ y
  one_proof_text ask x y p q =
      let entries = one_served digest hash v lawful p.entries q.entries p.served q.served in
      let made : ◌≡◌ {A = Result proof.Proof ProofFault} (Ok p.proof) (Ok q.proof) =
      sym p.made ∙ (ap (λ (es : List (List ℕ)). asked_proof digest es ask) entries ∙ q.made) in
      let same : p.proof ≡ q.proof = cc made in
      has_one_spelling.one_text x y q.proof (subst (λ (one : proof.Proof). IsProofText x one) same p.text_is) q.text_is

  one_body : (r : Resource) (x y : List ℕ) → IsBody digest v r x → IsBody digest v r y → x ≡ y
  one_body (File path) x y = replies_once digest hash v lawful path x y
  one_body Status x y = status_is_one_text digest hash v lawful x y
  one_body Forks x y = forks_are_one_text digest v x y
  one_body (Missing size root) x y = missing_is_one_text digest v size root x y
  one_body (Proof ask) x y = one_proof_text ask x y

  one_found : (target x y : List ℕ) → IsFound digest v target x → IsFound digest v target y → x ≡ y
  one_found target x y p q =
      let named = one_resource target p.resource q.resource p.names q.names in
      let bodies = one_body q.resource p.body q.body
      (subst (λ (r : Resource). IsBody digest v r p.body) named p.is_body) q.is_body in
      p.reply_is ∙ (ap (λ (r : Resource). found (media_type r) p.body) named
      ∙ (ap (λ (b : List ℕ). found (media_type q.resource) b) bodies ∙ sym q.reply_is))

  one_reply : (h : RequestHead) (x y : List ℕ) → IsReplyTo digest v h x → IsReplyTo digest v h y → x ≡ y
  one_reply h x y (other_method m) (other_method n) = refl
  one_reply h x y (other_method m) (not_there n none) = absurd (m n)
  one_reply h x y (other_method m) (is_there n is) = absurd (m n)
  one_reply h x y (not_there m none) (other_method n) = absurd (n m)
  one_reply h x y (not_there m none) (not_there n other) = refl
  one_reply h x y (not_there m none) (is_there n is) = absurd (none y is)
  one_reply h x y (is_there m is) (other_method n) = absurd (n m)
  one_reply h x y (is_there m is) (not_there n none) = absurd (none x is)
  one_reply h x y (is_there m is) (is_there n other) = one_found h.target x y is other

  response_once : (bytes x y : List ℕ) → Response digest v bytes x → Response digest v bytes y → x ≡ y
  response_once bytes x y silent silent = refl
  response_once bytes x y silent (replied {h = h} a p) = absurd (no_request_in_nothing h a)
  response_once bytes x y (refused n) (refused m) = refl
  response_once bytes x y (refused n) (replied {h = h} a p) = absurd (n h a)
  response_once bytes x y (replied {h = h} a p) silent = absurd (no_request_in_nothing h a)
  response_once bytes x y (replied {h = h} a p) (refused n) = absurd (n h a)
  response_once bytes x y (replied {h = h} a p) (replied {h = g} b q) =
      one_reply g x y (subst (λ (k : RequestHead). IsReplyTo digest v k x) (one_request bytes h g a b) p) q

pub response_is_one : ResponseIsOne
response_is_one digest hash v lawful bytes x y = response_once digest hash v lawful bytes x y

pub equal_views_reply_alike : EqualViewsReplyAlike
equal_views_reply_alike digest hash v w lawful same bytes others x y given p q =
    let there : Response digest w others x =
    subst (λ (b : List ℕ). Response digest w b x) given (subst (λ (u : View). Response digest u bytes x) same p) in
    response_once digest hash w (subst (IsLawful digest) same lawful) others x y there q

module _ (digest : List ℕ → List ℕ) (v : View) where
  reply_is_there : (h : RequestHead) → ((reply : List ℕ) → IsReplyTo digest v h reply → ⊥) → ⊥
  reply_is_there h none =
      none _ (other_method (λ get. none _ (not_there get (λ reply is. none reply (is_there get is)))))

pub response_is_there : ResponseIsThere
response_is_there digest v [] none = none [] silent
response_is_there digest v (first ∷ bytes) none =
    none _ (refused (λ h has. reply_is_there digest v h (λ reply is. none reply (replied has is))))
