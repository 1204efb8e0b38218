-- Requests whose parts are text.
use Rattle.std.specs.Prelude.{ℕ, List, IsUtf8, All}
use Rattle.ur_http.specs.declared.request.HttpRequest.{HttpRequest}
use Rattle.ur_http.specs.declared.request.Item.{Item}
use Rattle.ur_http.specs.declared.request.Item.TheVariants as item

abbrev pub IsTextPair : List ℕ × List ℕ → Type 0
IsTextPair pair = IsUtf8 pair.0 × IsUtf8 pair.1

-- the path, the form and the cookies are UTF-8
pub record IsText (q : HttpRequest) : Type 0 where
  pub path : IsUtf8 q.path
  pub forms : All IsTextPair q.form
  pub cookied : All IsTextPair q.cookies

-- the item is no request, or one whose parts are text
abbrev pub IsTextItem : Item → Type 0
IsTextItem (item.Request q) = IsText q
IsTextItem item.NeedMore = Unit {0}
IsTextItem (item.Bad status) = Unit {0}
