use Rattle.std.proofs.Common.{◌≡◌, sym, ap, ◌∙◌, rules}
use Rattle.std.specs.Int.{int_wrapping_neg}
use Rattle.std.specs.Int.RustNames.{FitsSigned}
use Rattle.std.proofs.lemmas.Int.{to_z-of_z}
use mir.Syntax.{w64}
use mir.Val.{to_z, of_z}
use Rattle.ur_values.specs.declared.value.Value.TheVariants as v
use Rattle.ur_terms.specs.State.{Done}
use Rattle.ur_terms.specs.Values.{as_int}
use Rattle.ur_machine_operations.proofs.Doing.{only_there, does-Neg}
use Rattle.ur_machine_operations.proofs.ints.negate.Goals as goal

pub one-requires : goal.one-requires
one-requires c = (_, c.requires.1)

pub into_int-number-requires : goal.into_int-number-requires
into_int-number-requires c = only_there as_int _ _ _ c.requires.1 c.one.ensures

pub returns : goal.returns
returns c =
    let fits : FitsSigned w64 c.into_int-number.result = search rules in
    let same : to_z w64 (of_z w64 c.into_int-number.result) ≡ c.into_int-number.result = to_z-of_z w64 c.into_int-number.result fits in
    let fits_too : FitsSigned w64 c.wrapping_neg.result = search rules in
    let same_too : to_z w64 (of_z w64 c.wrapping_neg.result) ≡ c.wrapping_neg.result = to_z-of_z w64 c.wrapping_neg.result fits_too in
    λ s. does-Neg _ _ _ c.one.ensures c.into_int-number.ensures s
    ∙ ap (λ z. Done (v.Int z) s) (ap (int_wrapping_neg w64) (sym same) ∙ sym c.wrapping_neg.ensures ∙ sym same_too)
