use Rattle.std.proofs.Common.{ap, ap₂, sym, ◌∙◌, ◌||◌, suc}
use Rattle.ur_rows.proofs.PutMade.{ok-is}
use Rattle.ur_rows_reduce.specs.Occurs.{uses_type, uses_part}
use Rattle.ur_rows_reduce.proofs.Uses.{uses-opt, uses-many, uses-transaction, uses-arrow, uses-field, uses-mapped}
use Rattle.ur_rows_reduce.proofs.occurs.+using.Goals as goal

pub uses_type-returns-in-Opt : goal.uses_type-returns-in-Opt
uses_type-returns-in-Opt _ c = ok-is c.uses_type.result _ _ (ap (uses_type c.args.depth) c.get.ensures ∙ sym (ap (uses_type c.args.depth) c.in-Opt.is ∙ uses-opt c.args.depth c.in-Opt.x)) c.uses_type.ensures

pub uses_type-returns-in-Many : goal.uses_type-returns-in-Many
uses_type-returns-in-Many _ c = ok-is c.uses_type-in-Many.result _ _ (ap (uses_type c.args.depth) c.get-in-Many.ensures ∙ sym (ap (uses_type c.args.depth) c.in-Many.is ∙ uses-many c.args.depth c.in-Many.x)) c.uses_type-in-Many.ensures

pub uses_type-returns-in-Transaction : goal.uses_type-returns-in-Transaction
uses_type-returns-in-Transaction _ c = ok-is c.uses_type-in-Transaction.result _ _ (ap (uses_type c.args.depth) c.get-in-Transaction.ensures ∙ sym (ap (uses_type c.args.depth) c.in-Transaction.is ∙ uses-transaction c.args.depth c.in-Transaction.x)) c.uses_type-in-Transaction.ensures

pub uses_type-returns-else-branch : goal.uses_type-returns-else-branch
uses_type-returns-else-branch _ c = ok-is c.uses_type-in-Arrow-2.result _ _ (ap (uses_type c.args.depth) c.get-in-Arrow-2.ensures ∙ sym (ap (uses_type c.args.depth) c.in-Arrow.is ∙ uses-arrow c.args.depth c.in-Arrow.a c.in-Arrow.b ∙ ap (λ z. z || uses_type c.args.depth c.in-Arrow.b) (sym (c.in_ok-uses_type-in-Arrow.ensures ∙ ap (uses_type c.args.depth) c.get-in-Arrow.ensures) ∙ c.if-branch.false))) c.uses_type-in-Arrow-2.ensures

pub uses_part-returns-else-uses_label : goal.uses_part-returns-else-uses_label
uses_part-returns-else-uses_label _ c = ok-is c.uses_type.result _ _ (ap (uses_type c.args.depth) c.get.ensures ∙ sym (ap (uses_part c.args.depth) c.in-Field.is ∙ uses-field c.args.depth c.in-Field.l c.in-Field.t ∙ ap (λ z. z || uses_type c.args.depth c.in-Field.t) (sym c.uses_label.ensures ∙ c.if-uses_label.false))) c.uses_type.ensures

pub uses_part-returns-in_ok-deeper-in-Mapped : goal.uses_part-returns-in_ok-deeper-in-Mapped
uses_part-returns-in_ok-deeper-in-Mapped _ c = ok-is c.uses_type-in-Mapped.result _ _ (ap₂ uses_type c.in_ok-deeper-in-Mapped.ensures c.get-in-Mapped.ensures ∙ sym (ap (uses_part c.args.depth) c.in-Mapped.is ∙ uses-mapped c.args.depth c.in-Mapped.v c.in-Mapped.f ∙ ap (λ z. z || uses_type (suc c.args.depth) c.in-Mapped.f) (sym c.is_here-in-Mapped.ensures ∙ c.if-is_here.false))) c.uses_type-in-Mapped.ensures
