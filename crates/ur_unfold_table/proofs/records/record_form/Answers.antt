use Rattle.std.proofs.Common.{◌++◌, map, Result, Ok, refl, sym, ap, ◌∙◌}
use Rattle.ur_terms.specs.declared.term.Op.TheVariants as op
use Rattle.ur_tree.specs.declared.exp.Exp.TheVariants as x
use Rattle.ur_source.specs.Items as i
use Rattle.ur_source.specs.Items.{strict_with, field_numbers}
use Rattle.ur_source.specs.Source.{source_of}
use Rattle.ur_meaning.specs.declared.head.Head.TheVariants as head
use Rattle.ur_meaning.specs.declared.head.Opened.{Opened}
use Rattle.ur_meaning.specs.declared.halt.Halt.{Halt}
use Rattle.ur_unfold_pieces.specs.declared.piece.Piece.{Piece}
use Rattle.ur_unfold_pieces.specs.Told.{told, exp}
use Rattle.ur_unfold_table.proofs.Forms.{form-Record}
use Rattle.ur_unfold_table.proofs.Forming.{with_formed, opened_none, opened_some, exit}
use Rattle.ur_unfold_table.proofs.Formed.{opens_exp}
use Rattle.ur_unfold_table.proofs.Shaped.{fields_say}
use Rattle.ur_unfold_table.proofs.records.record_form.Goals as goal

pub returns-in_err-names_in : goal.returns-in_err-names_in
returns-in_err-names_in c = λ scope at whole. exit c.args.table.now c.args.table.now _ c.from_residual.result c.in_err-names_in.field-0.0 c.from_residual.ensures.1 (c.in_err-names_in.ensures scope at)

pub returns-in_err-push_fields-in-Some : goal.returns-in_err-push_fields-in-Some
returns-in_err-push_fields-in-Some c = λ scope at whole. exit c.args.table.now c.args.table.now _ c.from_residual-in_err-push_fields-in-Some.result c.in_err-push_fields-in-Some.field-0.0 c.from_residual-in_err-push_fields-in-Some.ensures.1 c.in_err-push_fields-in-Some.ensures

pub returns-in-None : goal.returns-in-None
returns-in-None c =
    opens_exp c.args.table.now c.args.table.now c.args.scope (x.Record c.args.fields.now) (x.Record c.args.fields.now) c.nothing.result (λ scope. strict_with (field_numbers c.args.table.now.typed.now.names scope.cons c.args.fields.now) op.Record (map (λ g. i.exp scope g.of) c.args.fields.now)) refl
    (λ scope. form-Record (source_of c.args.table.now.typed.now) scope c.args.fields.now)
    (λ scope at whole. with_formed c.args.table.now c.args.table.now refl (field_numbers c.args.table.now.typed.now.names scope.cons c.args.fields.now) op.Record (map (λ g. exp c.args.scope g.of) c.args.fields.now) (map (λ g. i.exp scope g.of) c.args.fields.now) c.nothing.result
    (opened_none (field_numbers c.args.table.now.typed.now.names scope.cons c.args.fields.now) _ c.nothing.result (sym (c.in_ok-names_in.ensures scope at) ∙ c.in-None.is) c.nothing.ensures)
    (fields_say c.args.table.now c.args.scope scope at c.args.fields.now))

pub returns-in_ok-push_fields-in-Some : goal.returns-in_ok-push_fields-in-Some
returns-in_ok-push_fields-in-Some c =
    let r : Result (Opened Piece) Halt = Ok (record { head = head.Strict (op.Record c.in-Some.names); parts = c.push_fields.new.parts }) in
    opens_exp c.args.table.now c.args.table.now c.args.scope (x.Record c.args.fields.now) (x.Record c.args.fields.now) r (λ scope. strict_with (field_numbers c.args.table.now.typed.now.names scope.cons c.args.fields.now) op.Record (map (λ g. i.exp scope g.of) c.args.fields.now)) refl
    (λ scope. form-Record (source_of c.args.table.now.typed.now) scope c.args.fields.now)
    (λ scope at whole. with_formed c.args.table.now c.args.table.now refl (field_numbers c.args.table.now.typed.now.names scope.cons c.args.fields.now) op.Record (map (λ g. exp c.args.scope g.of) c.args.fields.now) (map (λ g. i.exp scope g.of) c.args.fields.now) r
    (opened_some (field_numbers c.args.table.now.typed.now.names scope.cons c.args.fields.now) _ r c.in-Some.names (sym (c.in_ok-names_in.ensures scope at) ∙ c.in-Some.is)
    (refl, c.in_ok-push_fields-in-Some.ensures ∙ ap (λ l. map told l ++ map (λ g. exp c.args.scope g.of) c.args.fields.now) c.new-parts.ensures))
    (fields_say c.args.table.now c.args.scope scope at c.args.fields.now))
