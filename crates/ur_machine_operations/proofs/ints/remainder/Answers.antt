use Rattle.std.proofs.Common.{◌≡◌, pos, sym, ap, ap₂, ◌∙◌, rules}
use Rattle.std.specs.Int.RustNames.{FitsSigned}
use Rattle.std.proofs.lemmas.Int.{to_z-of_z}
use mir.Syntax.{w64}
use mir.Val.{to_z, of_z}
use Rattle.std.specs.Prelude.{int_rem}
use Rattle.ur_values.specs.declared.value.Value.TheVariants as v
use Rattle.ur_terms.specs.State.{Done}
use Rattle.ur_machine_operations.proofs.Arguments.{comes_as}
use Rattle.ur_machine_operations.proofs.Doing.{does-Rem, does-Rem-zero}
use Rattle.ur_machine_operations.proofs.ints.remainder.Goals as goal

pub two_ints-a-requires : goal.two_ints-a-requires
two_ints-a-requires c = (_, c.requires.1)

pub returns-then-b-eq0 : goal.returns-then-b-eq0
returns-then-b-eq0 c =
    let fits : FitsSigned w64 c.two_ints-a.result.1 = search rules in
    let zero_is : c.two_ints-a.result.1 ≡ pos 0 = sym (to_z-of_z w64 c.two_ints-a.result.1 fits) ∙ ap (to_z w64) c.if-b-eq0.true in
    comes_as c.failed.result (does-Rem-zero _ _ _ c.two_ints-a.ensures zero_is) c.failed.ensures

pub returns-else-b-eq0 : goal.returns-else-b-eq0
returns-else-b-eq0 c =
    let fits : FitsSigned w64 c.two_ints-a.result.0 = search rules in
    let fits_too : FitsSigned w64 c.two_ints-a.result.1 = search rules in
    let fits_made : FitsSigned w64 c.wrapping_rem.result = search rules in
    let same : to_z w64 (of_z w64 c.two_ints-a.result.0) ≡ c.two_ints-a.result.0 = to_z-of_z w64 c.two_ints-a.result.0 fits in
    let same_too : to_z w64 (of_z w64 c.two_ints-a.result.1) ≡ c.two_ints-a.result.1 = to_z-of_z w64 c.two_ints-a.result.1 fits_too in
    let same_made : to_z w64 (of_z w64 c.wrapping_rem.result) ≡ c.wrapping_rem.result = to_z-of_z w64 c.wrapping_rem.result fits_made in
    λ s. does-Rem _ _ _ c.two_ints-a.ensures (λ z. c.if-b-eq0.false (ap (of_z w64) z)) s
    ∙ ap (λ z. Done (v.Int z) s) (ap₂ (int_rem) (sym same) (sym same_too) ∙ sym c.wrapping_rem.ensures ∙ sym same_made)
