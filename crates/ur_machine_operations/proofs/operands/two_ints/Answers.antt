use Rattle.std.proofs.Common.{◌≡◌, ◌∷◌, [], sym, ap, ◌∙◌, rules}
use Rattle.std.specs.Int.RustNames.{FitsSigned}
use Rattle.std.proofs.lemmas.Int.{to_z-of_z}
use mir.Syntax.{w64}
use mir.Val.{to_z, of_z}
use Rattle.ur_values.specs.declared.value.Value.TheVariants as v
use Rattle.ur_machine_operations.proofs.Arguments.{first_int, second_int}
use Rattle.ur_machine_operations.proofs.operands.two_ints.Goals as goal

pub two-first-requires : goal.two-first-requires
two-first-requires c = (_, c.requires.1)

pub into_int-requires : goal.into_int-requires
into_int-requires c = first_int _ _ _ c.requires.0 c.requires.1 c.two-first.ensures

pub into_int-requires-2 : goal.into_int-requires-2
into_int-requires-2 c = second_int _ _ _ c.requires.0 c.requires.1 c.two-first.ensures

pub returns : goal.returns
returns c =
    let fits : FitsSigned w64 c.into_int.result = search rules in
    let fits_too : FitsSigned w64 c.into_int-2.result = search rules in
    let same : to_z w64 (of_z w64 c.into_int.result) ≡ c.into_int.result = to_z-of_z w64 c.into_int.result fits in
    let same_too : to_z w64 (of_z w64 c.into_int-2.result) ≡ c.into_int-2.result = to_z-of_z w64 c.into_int-2.result fits_too in
    c.two-first.ensures ∙ ap (λ z. z ∷ c.two-first.result.1 ∷ []) (c.into_int.ensures ∙ ap v.Int (sym same))
    ∙ ap (λ z. v.Int (to_z w64 (of_z w64 c.into_int.result)) ∷ z ∷ []) (c.into_int-2.ensures ∙ ap v.Int (sym same_too))
