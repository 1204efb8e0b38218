use Rattle.std.proofs.Common.{◌≡◌, ◌||◌, refl, sym, ap, ◌∙◌}
use Rattle.std.proofs.lemmas.Bool.{false≢true}
use Rattle.ur_tree.specs.declared.exp.Exp.TheVariants as x
use Rattle.ur_tree.specs.declared.exp.Binary.TheVariants as binary
use Rattle.ur_source.specs.Items.{binary_form, is_computed, only_where, static_in}
use Rattle.ur_source.specs.Source.{source_of}
use Rattle.ur_unfold_pieces.proofs.Equations.{static-Binary}
use Rattle.ur_unfold_pieces.proofs.Staying.{instances_stay, scope_stays, stays_so}
use Rattle.ur_unfold_table.proofs.Forms.{form-Binary}
use Rattle.ur_unfold_table.proofs.Forming.{exit}
use Rattle.ur_unfold_table.proofs.Formed.{found_formed, value_formed, none_static}
use Rattle.ur_unfold_table.proofs.Shaped.{binary_formed}
use Rattle.ur_unfold_table.proofs.Computing.{only_none, opens_computed}
use Rattle.ur_unfold_table.proofs.computed.operator_form.Goals as goal

pub returns-then-not-is_join-clause-form : goal.returns-then-not-is_join-clause-form
returns-then-not-is_join-clause-form c = λ is.
    let differs : ¬ (c.args.op ≡ binary.Join) = λ same. false≢true (sym c.if-not-is_join.true ∙ c.is_join.ensures.1 same) in
    opens_computed c.args.table.now c.args.table.now c.args.scope c.args.e.now (x.Binary c.args.op c.args.a.now c.args.b.now) (is_computed (source_of c.args.table.now.typed.now) c.args.a.now || is_computed (source_of c.args.table.now.typed.now) c.args.b.now) (is_computed (source_of c.args.table.now.typed.now) c.args.a.now || is_computed (source_of c.args.table.now.typed.now) c.args.b.now) (λ scope. binary_form scope c.args.op c.args.a.now c.args.b.now) c.binary_form.result is refl (λ scope. form-Binary (source_of c.args.table.now.typed.now) scope c.args.op c.args.a.now c.args.b.now)
    (λ scope at whole. none_static c.args.table.now c.args.table.now (only_where (is_computed (source_of c.args.table.now.typed.now) c.args.a.now || is_computed (source_of c.args.table.now.typed.now) c.args.b.now) (static_in (source_of c.args.table.now.typed.now) scope c.args.e.now)) (binary_form scope c.args.op c.args.a.now c.args.b.now) c.binary_form.result
    (only_none (is_computed (source_of c.args.table.now.typed.now) c.args.a.now || is_computed (source_of c.args.table.now.typed.now) c.args.b.now) (static_in (source_of c.args.table.now.typed.now) scope c.args.e.now) (ap (static_in (source_of c.args.table.now.typed.now) scope) is ∙ static-Binary c.args.table.now.typed.now.names (source_of c.args.table.now.typed.now).vals scope.cons scope.fixed c.args.op c.args.a.now c.args.b.now differs))
    (binary_formed c.args.table.now c.args.table.now refl c.args.scope scope at c.args.op c.args.a.now c.args.b.now c.binary_form.result c.binary_form.ensures))

pub returns-then-not-is_join-clause-stays : goal.returns-then-not-is_join-clause-stays
returns-then-not-is_join-clause-stays c = stays_so c.args.table.now

pub returns-in_err-number-clause-form : goal.returns-in_err-number-clause-form
returns-in_err-number-clause-form c = λ is scope at whole. exit c.args.table.now c.computed_in.new.table _ c.from_residual.result c.in_err-number.field-0.0 c.from_residual.ensures.1 (c.in_err-number.ensures.made scope at whole)

pub returns-in-Some-clause-form : goal.returns-in-Some-clause-form
returns-in-Some-clause-form c = λ is.
    opens_computed c.args.table.now c.computed_in.new.table c.args.scope c.args.e.now (x.Binary c.args.op c.args.a.now c.args.b.now) c.is_one_computed-is_computed.result (is_computed (source_of c.args.table.now.typed.now) c.args.a.now || is_computed (source_of c.args.table.now.typed.now) c.args.b.now) (λ scope. binary_form scope c.args.op c.args.a.now c.args.b.now) c.one.result is c.is_one_computed-is_computed.ensures (λ scope. form-Binary (source_of c.args.table.now.typed.now) scope c.args.op c.args.a.now c.args.b.now)
    (λ scope at whole. found_formed c.args.table.now c.computed_in.new.table (instances_stay c.args.table.now c.computed_in.new.table c.in_ok-number.ensures.stays whole) (only_where c.is_one_computed-is_computed.result (static_in (source_of c.args.table.now.typed.now) scope c.args.e.now)) (binary_form scope c.args.op c.args.a.now c.args.b.now)
    c.in_ok-number.field-0 c.in-Some.number c.one.result c.in-Some.is (c.in_ok-number.ensures.made scope at whole) c.one.ensures)

pub returns-in-None-clause-form : goal.returns-in-None-clause-form
returns-in-None-clause-form c = λ is.
    opens_computed c.args.table.now c.computed_in.new.table c.args.scope c.args.e.now (x.Binary c.args.op c.args.a.now c.args.b.now) c.is_one_computed-is_computed.result (is_computed (source_of c.args.table.now.typed.now) c.args.a.now || is_computed (source_of c.args.table.now.typed.now) c.args.b.now) (λ scope. binary_form scope c.args.op c.args.a.now c.args.b.now) c.binary_form-in-None.result is c.is_one_computed-is_computed.ensures (λ scope. form-Binary (source_of c.args.table.now.typed.now) scope c.args.op c.args.a.now c.args.b.now)
    (λ scope at whole. value_formed c.args.table.now c.computed_in.new.table (only_where c.is_one_computed-is_computed.result (static_in (source_of c.args.table.now.typed.now) scope c.args.e.now)) (binary_form scope c.args.op c.args.a.now c.args.b.now) c.in_ok-number.field-0 c.binary_form-in-None.result c.in-None.is
    (c.in_ok-number.ensures.made scope at whole)
    (binary_formed c.args.table.now c.computed_in.new.table (instances_stay c.args.table.now c.computed_in.new.table c.in_ok-number.ensures.stays whole) c.args.scope scope (scope_stays c.args.table.now c.computed_in.new.table c.in_ok-number.ensures.stays.widens c.args.scope scope at) c.args.op c.args.a.now c.args.b.now c.binary_form-in-None.result c.binary_form-in-None.ensures))
