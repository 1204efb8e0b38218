-- The deeds that the program's acts stand for.
use Rattle.std.specs.Prelude.{ℕ, List, [], Option, Some, None, slice_get}
use Rattle.ur_terms.specs.declared.term.Function.{Function}
use Rattle.ur_terms.specs.Shape.{Deed, calls, dml, nextval, set_cookie, deeds}
use Rattle.ur_effects.specs.declared.act.Write.{Write}
use Rattle.ur_effects.specs.declared.act.Write.TheVariants as write
use Rattle.ur_effects.specs.declared.act.Act.{Act}
use Rattle.ur_effects.specs.declared.act.Act.TheVariants as act

abbrev pub write_deed : Write → Deed
write_deed write.Change = dml
write_deed write.Number = nextval
write_deed write.Cookie = set_cookie

abbrev pub act_deed : Act → Deed
act_deed (act.Calls f) = calls f
act_deed (act.Writes w) = write_deed w

abbrev pub deeds_in : Option Function → List Deed
deeds_in None = []
deeds_in (Some function) = deeds function.body

-- the deeds of the function of this number, if there is one
abbrev pub body_deeds : List Function → ℕ → List Deed
body_deeds functions f = deeds_in (slice_get functions f)

abbrev pub IsCall : Act → Type 0
IsCall (act.Calls f) = Unit {0}
IsCall (act.Writes w) = ⊥
