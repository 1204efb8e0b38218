use Rattle.std.proofs.Common.{◌≡◌, ◌∙◌, ap, sym}
use Rattle.ur_tree.specs.FieldNames.{capital}
use Rattle.ur_sqltype.specs.Scope.{column_from}
use Rattle.ur_sqltype.proofs.Leaves.{qualified-kinded, qualified-fault}
use Rattle.ur_sqltype.proofs.constants.qualified.Goals as goal

three : {A B C D : Type 0} (f : A → B → C → D) {a b : A} {c d : B} {e g : C} → a ≡ b → c ≡ d → e ≡ g → f a c e ≡ f b d g
three f h i j = cc

pub returns-in-None-clause-refused : goal.returns-in-None-clause-refused
returns-in-None-clause-refused c =
    qualified-fault c.args.within.now c.args.qualifier.now c.args.name.now c.in_ok-alias.alias c.as_slice-in-None-3.result.now c.in_ok-text-in-None.text c.in_ok-unknown-in-None.field-0
    (c.in_ok-alias.ensures ∙ ap capital c.as_slice.ensures)
    (sym (three (λ q a sources. column_from q a 0 sources) c.as_slice-2.ensures c.as_slice-3.ensures c.as_slice-4.ensures) ∙ sym c.column_at.ensures ∙ c.in-None.is)
    c.as_slice-in-None-3.ensures (c.in_ok-text-in-None.ensures ∙ cc) c.in_ok-unknown-in-None.ensures

pub returns-clause-kinded : goal.returns-clause-kinded
returns-clause-kinded c =
    qualified-kinded c.args.within.now c.args.qualifier.now c.args.name.now c.in_ok-alias.alias c.in-Some.item c.in-Some.at c.in-Some.kind c.in_ok-made-in-Some.made
    (c.in_ok-alias.ensures ∙ ap capital c.as_slice.ensures)
    (sym (three (λ q a sources. column_from q a 0 sources) c.as_slice-2.ensures c.as_slice-3.ensures c.as_slice-4.ensures) ∙ sym c.column_at.ensures ∙ c.in-Some.is)
    c.in_ok-made-in-Some.ensures
