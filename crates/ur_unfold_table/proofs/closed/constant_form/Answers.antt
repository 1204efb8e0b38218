use Rattle.std.proofs.Common.{refl, sym, ap, ◌∙◌}
use Rattle.std.specs.Option.{option_copied}
use Rattle.std.proofs.lemmas.Bool.{false≢true}
use Rattle.ur_tree.specs.declared.closed.Static.{out-Static}
use Rattle.ur_tree.specs.declared.closed.Static.TheVariants as st
use Rattle.ur_source.specs.Items.{closed_form}
use Rattle.ur_meaning.proofs.Going.{exit}
use Rattle.ur_unfold_pieces.specs.Forming.{FormedAs}
use Rattle.ur_unfold_pieces.proofs.Staying.{stays_so, moves_of}
use Rattle.ur_unfold_table.proofs.Forming.{none_formed}
use Rattle.ur_unfold_table.proofs.Called.{constant-unknown, constant-known, constant-applied}
use Rattle.ur_unfold_table.proofs.Calling.{constant_none, constant_called, constant_stops}
use Rattle.ur_unfold_table.proofs.closed.constant_form.Goals as goal

pub returns-in-None-clause-form : goal.returns-in-None-clause-form
returns-in-None-clause-form c = λ cs whole are.
    constant_none c.args.table.now c.args.k cs c.nothing.result (constant-unknown c.args.table.now.typed.now.functions c.args.k cs (sym c.get.ensures.value ∙ ap option_copied c.in-None.is)) (none_formed c.args.table.now c.args.table.now refl c.nothing.result c.nothing.ensures)

pub returns-in-None-clause-moves : goal.returns-in-None-clause-moves
returns-in-None-clause-moves c = moves_of c.args.table.now c.args.table.now (stays_so c.args.table.now)

pub returns-then-not-is_empty-clause-form : goal.returns-then-not-is_empty-clause-form
returns-then-not-is_empty-clause-form c = λ cs whole are.
    constant_none c.args.table.now c.args.k cs c.nothing-then-not-is_empty.result
    (constant-known c.args.table.now.typed.now.functions c.args.k cs c.in-Some.function.now (sym c.get.ensures.value ∙ ap option_copied c.in-Some.is) ∙ constant-applied c.args.k cs c.in-Some.function.now.params (λ none. false≢true (sym c.if-not-is_empty.true ∙ c.is_empty.ensures.1 none)))
    (none_formed c.args.table.now c.args.table.now refl c.nothing-then-not-is_empty.result c.nothing-then-not-is_empty.ensures)

pub returns-then-not-is_empty-clause-moves : goal.returns-then-not-is_empty-clause-moves
returns-then-not-is_empty-clause-moves c = moves_of c.args.table.now c.args.table.now (stays_so c.args.table.now)

pub returns-in_err-j-in-Some-clause-form : goal.returns-in_err-j-in-Some-clause-form
returns-in_err-j-in-Some-clause-form c = λ cs whole are.
    exit (FormedAs c.args.table.now c.number.new.self (closed_form c.args.table.now.typed.now.functions (out-Static (st.Function c.args.k cs)))) c.from_residual.result c.in_err-j-in-Some.field-0.0 c.from_residual.ensures.1
    (constant_stops c.args.table.now c.number.new.self c.args.k c.args.cons cs are c.in-Some.function.now (sym c.get.ensures.value ∙ ap option_copied c.in-Some.is) (c.is_empty.ensures.0 c.if-not-is_empty.false) c.new.result c.new.ensures c.in_err-j-in-Some.ensures.moves.widens whole c.in_err-j-in-Some.field-0.0 c.in_err-j-in-Some.ensures.number)

pub returns-in_err-j-in-Some-clause-moves : goal.returns-in_err-j-in-Some-clause-moves
returns-in_err-j-in-Some-clause-moves c = c.in_err-j-in-Some.ensures.moves

pub returns-in_ok-j-in-Some-clause-form : goal.returns-in_ok-j-in-Some-clause-form
returns-in_ok-j-in-Some-clause-form c = λ cs whole are.
    constant_called c.args.table.now c.number.new.self c.args.k c.args.cons cs are c.in-Some.function.now (sym c.get.ensures.value ∙ ap option_copied c.in-Some.is) (c.is_empty.ensures.0 c.if-not-is_empty.false) c.new.result c.new.ensures c.in_ok-j-in-Some.ensures.moves.widens whole c.in_ok-j-in-Some.j
    c.leaf.result c.in_ok-j-in-Some.ensures.number c.leaf.ensures

pub returns-in_ok-j-in-Some-clause-moves : goal.returns-in_ok-j-in-Some-clause-moves
returns-in_ok-j-in-Some-clause-moves c = c.in_ok-j-in-Some.ensures.moves
