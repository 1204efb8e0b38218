-- Pages that are remembered, and what they are worth.
use Rattle.std.specs.Prelude.{◌≡◌, ℕ, Bool, true, false, List, All, Option}
use Rattle.ur_base.specs.Told.{WhereTold}
use Rattle.ur_values.specs.declared.value.Call.{Call}
use Rattle.ur_keeper.specs.Tables.{Tables, store_of}
use Rattle.ur_tags.specs.declared.routes.Handlers.{Handlers}
use Rattle.ur_http.specs.declared.request.Method.{Method}
use Rattle.ur_http.specs.declared.request.Method.TheVariants.{Get, Head, Post, Other}
use Rattle.ur_http.specs.declared.request.HttpRequest.{HttpRequest}
use Rattle.ur_code.specs.declared.code.Code.{Code}
use Rattle.ur_pages.specs.Pages.{Remembered}
use Rattle.ur_memo.specs.Remembered.{IsRemembered}
use Rattle.ur_serve.specs.Replies.{routed, handled}

-- GET or HEAD
abbrev pub only_shows : Method → Bool
only_shows Get = true
only_shows Head = true
only_shows Post = false
only_shows Other = false

-- every GET and HEAD of this path makes the call
abbrev pub CallsAt : Handlers → List ℕ → Call → Type 0
CallsAt handlers path call = (q : HttpRequest) → q.path ≡ path → only_shows q.method ≡ true → routed handlers q ≡ handled call

-- a page is worth the call of its path over these tables
pub record IsPageOf (code : Code) (steps : ℕ) (t : Tables) (r : Remembered) : Type 0 where
  pub call : Call
  pub is_call : CallsAt code.handlers r.path call
  pub worth : IsRemembered code steps call (store_of t) r

-- so is each, where the saved tables are told
abbrev pub ArePagesOf : Code → ℕ → Option Tables → List Remembered → Type 0
ArePagesOf code steps saved pages = WhereTold saved (λ t. All (IsPageOf code steps t) pages)
