use Rattle.std.proofs.Common.{◌≡◌, Some, ap, sym, ◌∙◌, subst, rules}
use Rattle.std.specs.Int.RustNames.{FitsSigned}
use Rattle.std.proofs.lemmas.Int.{to_z-of_z}
use mir.Syntax.{w64}
use mir.Val.{to_z, of_z}
use Rattle.std.specs.Prelude.{IfOk}
use Rattle.ur_values.specs.declared.value.Value.TheVariants as v
use Rattle.ur_terms.specs.Values.{shown}
use Rattle.ur_machine_operations.proofs.Opened.{no_shown}
use Rattle.ur_machine_operations.proofs.Fields.{shown_as}
use Rattle.ur_machine_operations.proofs.texts.shown.Goals as goal

pub unreachable-requires : goal.unreachable-requires
unreachable-requires c = c.requires (no_shown c.args.value c.in_default.not-Int c.in_default.not-Bool c.in_default.not-Str)

pub returns-in-Int : goal.returns-in-Int
returns-in-Int c =
    let fits : FitsSigned w64 c.in-Int.number = search rules in
    let same : to_z w64 (of_z w64 c.in-Int.number) ≡ c.in-Int.number = to_z-of_z w64 c.in-Int.number fits in
    subst (λ x. IfOk c.decimal.result (λ text. shown x ≡ Some text)) (sym c.in-Int.is)
    (subst (λ z. IfOk c.decimal.result (λ text. shown (v.Int z) ≡ Some text)) same c.decimal.ensures)

pub returns-in-Bool : goal.returns-in-Bool
returns-in-Bool c = shown_as c.from_slice.result _ _ (ap shown c.in-Bool.is ∙ c.bool_text.ensures) c.from_slice.ensures
