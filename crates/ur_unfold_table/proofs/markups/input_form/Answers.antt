use Rattle.std.proofs.Common.{refl, subst}
use Rattle.ur_terms.specs.declared.term.Op.TheVariants as op
use Rattle.ur_source.specs.Items.{form_of, part}
use Rattle.ur_source.specs.Source.{source_of}
use Rattle.ur_tree.specs.declared.exp.Markup.TheVariants as markup
use Rattle.ur_unfold_pieces.specs.Told.{held_told}
use Rattle.ur_unfold_table.specs.Having.{OpenedWith}
use Rattle.ur_unfold_table.proofs.Forming.{exit}
use Rattle.ur_unfold_table.proofs.Fragments.{input-opens}
use Rattle.ur_unfold_table.proofs.markups.input_form.Goals as goal

pub returns-in_err-named : goal.returns-in_err-named
returns-in_err-named c = λ around at whole.
    exit c.args.table.now c.args.table.now (form_of (source_of c.args.table.now.typed.now) (part around (markup.Input c.args.kind c.args.label.now c.args.e.now)))
    c.from_residual.result c.in_err-named.field-0.0 c.from_residual.ensures.1 (c.in_err-named.ensures around at)

pub returns : goal.returns
returns c =
    input-opens c.args.table.now c.args.scope (markup.Input c.args.kind c.args.label.now c.args.e.now) c.named_input.result c.args.kind c.args.label.now c.args.e.now refl
    (λ around at. subst (λ named. OpenedWith named (λ n. op.Input c.args.kind n.0 n.1) (held_told c.args.scope c.args.e.now) c.named_input.result) (c.in_ok-named.ensures around at) c.named_input.ensures)
