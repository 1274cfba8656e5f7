-- The status lines of replies.
use Rattle.std.proofs.Common.{◌≡◌, ℕ, List, [], codes, refl}
use Rattle.std.specs.Fmt.{digits}
use Rattle.mirror_http.specs.Answered.{empty_text, head_of_reply}
use Rattle.mirror_http.specs.Response.{bad_request, found_head, not_allowed, not_found, server_error}

pub found_head_is : (kind : List ℕ) (len : ℕ) → head_of_reply 200 kind len ≡ found_head kind len
unfolding digits
found_head_is kind len = refl

pub bad_request_is : empty_text 400 [] ≡ bad_request
unfolding digits
bad_request_is = refl

pub not_found_is : empty_text 404 [] ≡ not_found
unfolding digits
not_found_is = refl

pub not_allowed_is : empty_text 405 (codes "Allow: GET\r\n") ≡ not_allowed
unfolding digits
not_allowed_is = refl

pub server_error_is : empty_text 500 [] ≡ server_error
unfolding digits
server_error_is = refl
