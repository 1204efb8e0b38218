-- Which methods are told apart.
use Rattle.std.proofs.Common.{◌≡◌, ◌≢◌, ℕ, true, false, List, [], refl, sym, subst, arith, codes}
use Rattle.std.specs.Str.{bytes_eq}
use Rattle.std.proofs.lemmas.Bool.{false_from_ne_true}
use Rattle.std.proofs.lemmas.Slice.Eq.{bytes_eq-Decides}
use Rattle.http_header.specs.Token.{is_token_byte, IsToken}
use Rattle.http_header.proofs.TokenLemmas.{AllPass-from_test}
use Rattle.ur_http.specs.declared.request.Method.TheVariants.{Get, Head, Post, Other}
use Rattle.ur_http.specs.Requests.{method_of, form_for}
use Rattle.ur_http.specs.declared.request.Method.{Method}

pub is_get : (bytes : List ℕ) → bytes_eq bytes (codes "GET") ≡ true → method_of bytes ≡ Get
unfolding method_of
is_get bytes e = rw e refl

pub is_head : (bytes : List ℕ) → bytes_eq bytes (codes "GET") ≡ false → bytes_eq bytes (codes "HEAD") ≡ true → method_of bytes ≡ Head
unfolding method_of
is_head bytes e f = rw (e, f) refl

pub is_post : (bytes : List ℕ) → bytes_eq bytes (codes "GET") ≡ false → bytes_eq bytes (codes "HEAD") ≡ false → bytes_eq bytes (codes "POST") ≡ true → method_of bytes ≡ Post
unfolding method_of
is_post bytes e f g = rw (e, f, g) refl

pub is_other : (bytes : List ℕ) → bytes_eq bytes (codes "GET") ≡ false → bytes_eq bytes (codes "HEAD") ≡ false → bytes_eq bytes (codes "POST") ≡ false → method_of bytes ≡ Other
unfolding method_of
is_other bytes e f g = rw (e, f, g) refl

-- bytes that are no token are none of the three
no_token_is : (bytes name : List ℕ) → ¬ (IsToken bytes) → IsToken name → bytes_eq bytes name ≡ false
no_token_is bytes name none token = false_from_ne_true (bytes_eq bytes name) (λ e. none (subst IsToken (sym ((bytes_eq-Decides bytes name).0 e)) token))

pub no_token : (bytes : List ℕ) → ¬ (IsToken bytes) → method_of bytes ≡ Other
unfolding is_token_byte
no_token bytes none = is_other bytes
    (no_token_is bytes (codes "GET") none (omega arith, AllPass-from_test is_token_byte (codes "GET") refl))
    (no_token_is bytes (codes "HEAD") none (omega arith, AllPass-from_test is_token_byte (codes "HEAD") refl))
    (no_token_is bytes (codes "POST") none (omega arith, AllPass-from_test is_token_byte (codes "POST") refl))

-- only a POST's body is read
pub not_post : (method : Method) (body : List ℕ) → method ≢ Post → form_for method body ≡ []
unfolding form_for
not_post Get body other = refl
not_post Head body other = refl
not_post Post body other = absurd (other refl)
not_post Other body other = refl
