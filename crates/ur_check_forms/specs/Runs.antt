-- What breaks the rules of sequences and cookies, and the value in the record of `setCookie`.
use Rattle.std.specs.Prelude.{◌≡◌, ◌&&◌, ℕ, Bool, true, List, [], ◌∷◌, codes, Option, Some, None}
use mathlib.Core.Former.{Count}
use Rattle.ur_base.specs.Shape.{Shape, count}
use Rattle.ur_syntax.specs.Names.{name_text}
use Rattle.ur_syntax.specs.declared.con.ConName.{ConName}
use Rattle.ur_syntax.specs.declared.con.FieldName.{FieldName}
use Rattle.ur_syntax.specs.declared.exp.Exp.{Exp}
use Rattle.ur_syntax.specs.declared.exp.Field.{Field}
use Rattle.ur_syntax.specs.declared.exp.ExpForm.{ExpForm, Row_of-Field}
use Rattle.ur_syntax.specs.declared.exp.ExpForm.TheVariants as e
use Rattle.ur_syntax.specs.declared.sql.DeclName.{DeclName}
use Rattle.ur_typed_rules.specs.Names.{declared, name_of}
use Rattle.ur_typed_rules.specs.Scopes.{World}
use Rattle.ur_typed_rules.specs.Faults.{Fault, unknown}
use Rattle.ur_typed_rules.specs.Rules.{if_so}
use Rattle.ur_typed.specs.Rules.{is_literally, is_constructor_named}
use Rattle.ur_typed.specs.Parts.{FirstField}
use Rattle.ur_typed.specs.Causes.{is_cookie_record}

-- nothing is declared by that name among these
pub data IsUnknown (w : World) (names : List (ConName × ℕ)) (x : DeclName) : Fault → Type 0 where
  not_there : declared w.globals (name_of x) names ≡ None → IsUnknown w names x (unknown (name_text x.«module» x.name))

-- the value, where these are the fields of the record of `setCookie`
abbrev pub are_of_cookie : Field → Field → Field → Bool
are_of_cookie f g h =
    is_literally f.name (codes "Value") && (is_literally g.name (codes "Expires") && (is_constructor_named g.value.form (codes "None") && (is_literally h.name (codes "Secure") && is_constructor_named h.value.form (codes "False"))))

abbrev pub value_in : List Field → Option Exp
value_in (f ∷ g ∷ h ∷ []) = if_so (are_of_cookie f g h) (Some f.value)
value_in _ = None

-- the value in a literal record of `setCookie`
pub data IsCookieValue : ExpForm → ExpForm → Type 0 where
  value_there : {n : Shape} {fields : Row_of-Field (count n)} {k : Count} {f : FieldName} {y : ExpForm} {rest : Row_of-Field k} → is_cookie_record fields ≡ true → FirstField _ fields _ f y rest → IsCookieValue (e.Record' n fields) y
