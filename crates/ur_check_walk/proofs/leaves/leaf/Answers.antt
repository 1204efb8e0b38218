use Rattle.std.specs.Option.{option_copied}
use Rattle.ur_syntax.specs.declared.exp.ExpForm.TheVariants as e
use Rattle.ur_check_scopes.specs.Views.{mode_of}
use Rattle.ur_check_scopes.proofs.Exits.{refused-along}
use Rattle.ur_check_walk.proofs.Steps.{leaf-made, leaf-tells}
use Rattle.ur_check_walk.proofs.leaves.leaf.Goals as goal

pub returns-in_ok-made-in-Int-clause-typed : goal.returns-in_ok-made-in-Int-clause-typed
returns-in_ok-made-in-Int-clause-typed c =
    leaf-made c.args.around.now c.args.e.now.form (e.Int c.in-Int.n) (mode_of (option_copied c.args.wanted)) c.in_ok-made-in-Int.made c.in-Int.is (λ w s st k. c.in_ok-made-in-Int.ensures st)

pub returns-in_ok-made-in-Str-clause-typed : goal.returns-in_ok-made-in-Str-clause-typed
returns-in_ok-made-in-Str-clause-typed c =
    leaf-made c.args.around.now c.args.e.now.form (e.Str c.in-Str.text) (mode_of (option_copied c.args.wanted)) c.in_ok-made-in-Str.made c.in-Str.is (λ w s st k. c.in_ok-made-in-Str.ensures st)

pub returns-in_ok-made-in-Unit-clause-typed : goal.returns-in_ok-made-in-Unit-clause-typed
returns-in_ok-made-in-Unit-clause-typed c =
    leaf-made c.args.around.now c.args.e.now.form e.Unit (mode_of (option_copied c.args.wanted)) c.in_ok-made-in-Unit.made c.in-Unit.is (λ w s st k. c.in_ok-made-in-Unit.ensures st)

pub returns-in-Nil-clause-refused : goal.returns-in-Nil-clause-refused
returns-in-Nil-clause-refused c =
    leaf-tells c.args.around.now c.args.e.now.form e.Nil (mode_of (option_copied c.args.wanted)) c.empty_out.result c.in-Nil.is (refused-along c.empty_out.result (λ r h w s st k. h w s st) c.empty_out.ensures.refused)
