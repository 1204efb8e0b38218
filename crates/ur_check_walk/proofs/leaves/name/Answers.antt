use Rattle.std.proofs.Common.{ap, ap₂, sym, ◌∙◌}
use Rattle.std.specs.Option.{option_copied}
use Rattle.ur_syntax.specs.declared.exp.ExpForm.TheVariants as e
use Rattle.ur_typed.specs.Faults.{is_given}
use Rattle.ur_check_scopes.specs.Views.{mode_of}
use Rattle.ur_check_scopes.proofs.Exits.{refused-along, ok-along}
use Rattle.ur_check_walk.proofs.Steps.{leaf-gives, leaf-tells, leaf-tells-any}
use Rattle.ur_check_walk.proofs.leaves.name.Goals as goal

pub returns-in-Var-clause-refused : goal.returns-in-Var-clause-refused
returns-in-Var-clause-refused c =
    leaf-tells-any c.args.around.now c.args.e.now.form (e.Var c.as_slice-own.result.now) (mode_of (option_copied c.args.wanted)) c.var_out.result (c.in-Var.is ∙ ap e.Var (sym c.as_slice-own.ensures)) c.var_out.ensures.refused

pub returns-in-Constructor-clause-refused : goal.returns-in-Constructor-clause-refused
returns-in-Constructor-clause-refused c =
    leaf-tells c.args.around.now c.args.e.now.form (e.Constructor c.as_slice-own-in-Constructor.result.now) (mode_of (option_copied c.args.wanted)) c.constructor_out.result (c.in-Constructor.is ∙ ap e.Constructor (sym c.as_slice-own-in-Constructor.ensures)) c.constructor_out.ensures.refused

pub returns-in-Member-clause-typed : goal.returns-in-Member-clause-typed
returns-in-Member-clause-typed c =
    leaf-gives c.args.around.now c.args.e.now.form (e.Member c.as_slice-home.result.now c.as_slice-own-in-Member.result.now) (mode_of (option_copied c.args.wanted)) c.member_out.result
    (c.in-Member.is ∙ ap₂ e.Member (sym c.as_slice-home.ensures) (sym c.as_slice-own-in-Member.ensures)) c.member_out.ensures.named

pub returns-in-Member-clause-refused : goal.returns-in-Member-clause-refused
returns-in-Member-clause-refused c =
    leaf-tells-any c.args.around.now c.args.e.now.form (e.Member c.as_slice-home.result.now c.as_slice-own-in-Member.result.now) (mode_of (option_copied c.args.wanted)) c.member_out.result
    (c.in-Member.is ∙ ap₂ e.Member (sym c.as_slice-home.ensures) (sym c.as_slice-own-in-Member.ensures)) c.member_out.ensures.refused

pub returns-in-MemberConstructor-clause-refused : goal.returns-in-MemberConstructor-clause-refused
returns-in-MemberConstructor-clause-refused c =
    leaf-tells-any c.args.around.now c.args.e.now.form (e.MemberConstructor c.as_slice-home-in-MemberConstructor.result.now c.as_slice-own-in-MemberConstructor.result.now) (mode_of (option_copied c.args.wanted)) c.member_constructor_out.result
    (c.in-MemberConstructor.is ∙ ap₂ e.MemberConstructor (sym c.as_slice-home-in-MemberConstructor.ensures) (sym c.as_slice-own-in-MemberConstructor.ensures)) c.member_constructor_out.ensures.refused

pub returns-in-ConApp-clause-typed : goal.returns-in-ConApp-clause-typed
returns-in-ConApp-clause-typed c = ok-along c.instance.result (λ o h. h (mode_of (option_copied c.args.wanted))) c.instance.ensures.typed

pub returns-in-ConApp-clause-refused : goal.returns-in-ConApp-clause-refused
returns-in-ConApp-clause-refused c = refused-along c.instance.result (λ r h. h (ap is_given c.in-ConApp.is) (mode_of (option_copied c.args.wanted))) c.instance.ensures.refused

pub returns-in-Nextval-clause-typed : goal.returns-in-Nextval-clause-typed
returns-in-Nextval-clause-typed c = leaf-gives c.args.around.now c.args.e.now.form (e.Nextval c.in-Nextval.name) (mode_of (option_copied c.args.wanted)) c.next_out.result c.in-Nextval.is c.next_out.ensures.next

pub returns-in-Nextval-clause-refused : goal.returns-in-Nextval-clause-refused
returns-in-Nextval-clause-refused c = leaf-tells-any c.args.around.now c.args.e.now.form (e.Nextval c.in-Nextval.name) (mode_of (option_copied c.args.wanted)) c.next_out.result c.in-Nextval.is c.next_out.ensures.refused

pub returns-in-GetCookie-clause-typed : goal.returns-in-GetCookie-clause-typed
returns-in-GetCookie-clause-typed c = leaf-gives c.args.around.now c.args.e.now.form (e.GetCookie c.in-GetCookie.name) (mode_of (option_copied c.args.wanted)) c.get_cookie_out.result c.in-GetCookie.is c.get_cookie_out.ensures.cookie

pub returns-in-GetCookie-clause-refused : goal.returns-in-GetCookie-clause-refused
returns-in-GetCookie-clause-refused c = leaf-tells-any c.args.around.now c.args.e.now.form (e.GetCookie c.in-GetCookie.name) (mode_of (option_copied c.args.wanted)) c.get_cookie_out.result c.in-GetCookie.is c.get_cookie_out.ensures.refused
