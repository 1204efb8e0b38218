use Rattle.std.proofs.Common.{Some, [], ◌∷◌, refl, sym, ap, ◌∙◌, subst}
use Rattle.ur_values.specs.declared.value.Value.TheVariants as v
use Rattle.ur_values.specs.declared.value.Node.TheVariants as n
use Rattle.ur_terms.specs.State.{Done, Error, with_cookie}
use Rattle.ur_values.specs.Values.{unit_value}
use Rattle.ur_terms.specs.Ops.{one_arg, markup}
use Rattle.ur_terms.specs.Values.{all_nodes}
use Rattle.ur_machine_frames.specs.Plays.{Performs}
use Rattle.ur_machine_frames.specs.declared.control.Performed.TheVariants as performed
use Rattle.ur_machine_operations.proofs.Arguments.{came, able, stops, gives, only_able, there, comes_of, cookie_there, cookie_got, cookie_set}
use Rattle.ur_machine_operations.proofs.operators.OperatorsOperations.perform.Goals as goal

pub add-requires : goal.add-requires
add-requires c = able _ _ _ _ _ c.in-Add.is tt c.requires

pub returns-in-Add : goal.returns-in-Add
returns-in-Add c = came _ _ _ _ _ _ c.in-Add.is tt c.add.ensures

pub subtract-requires : goal.subtract-requires
subtract-requires c = able _ _ _ _ _ c.in-Sub.is tt c.requires

pub returns-in-Sub : goal.returns-in-Sub
returns-in-Sub c = came _ _ _ _ _ _ c.in-Sub.is tt c.subtract.ensures

pub multiply-requires : goal.multiply-requires
multiply-requires c = able _ _ _ _ _ c.in-Mul.is tt c.requires

pub returns-in-Mul : goal.returns-in-Mul
returns-in-Mul c = came _ _ _ _ _ _ c.in-Mul.is tt c.multiply.ensures

pub divide-requires : goal.divide-requires
divide-requires c = able _ _ _ _ _ c.in-Div.is tt c.requires

pub returns-in-Div : goal.returns-in-Div
returns-in-Div c = came _ _ _ _ _ _ c.in-Div.is tt c.divide.ensures

pub remainder-requires : goal.remainder-requires
remainder-requires c = able _ _ _ _ _ c.in-Rem.is tt c.requires

pub returns-in-Rem : goal.returns-in-Rem
returns-in-Rem c = came _ _ _ _ _ _ c.in-Rem.is tt c.remainder.ensures

pub negate-requires : goal.negate-requires
negate-requires c = able _ _ _ _ _ c.in-Neg.is tt c.requires

pub returns-in-Neg : goal.returns-in-Neg
returns-in-Neg c = came _ _ _ _ _ _ c.in-Neg.is tt c.negate.ensures

pub append-requires : goal.append-requires
append-requires c = able _ _ _ _ _ c.in-Append.is tt c.requires

pub returns-in-Append : goal.returns-in-Append
returns-in-Append c = came _ _ _ _ _ _ c.in-Append.is tt c.append.ensures

pub negation-requires : goal.negation-requires
negation-requires c = able _ _ _ _ _ c.in-Not.is tt c.requires

pub returns-in-Not : goal.returns-in-Not
returns-in-Not c = came _ _ _ _ _ _ c.in-Not.is tt c.negation.ensures

pub equal-requires : goal.equal-requires
equal-requires c = able _ _ _ _ _ c.in-Equal.is tt c.requires

pub returns-in-Equal : goal.returns-in-Equal
returns-in-Equal c = came _ _ _ _ _ _ c.in-Equal.is tt c.equal.ensures

pub unequal-requires : goal.unequal-requires
unequal-requires c = able _ _ _ _ _ c.in-Unequal.is tt c.requires

pub returns-in-Unequal : goal.returns-in-Unequal
returns-in-Unequal c = came _ _ _ _ _ _ c.in-Unequal.is tt c.unequal.ensures

pub less-requires : goal.less-requires
less-requires c = able _ _ _ _ _ c.in-Less.is tt c.requires

pub returns-in-Less : goal.returns-in-Less
returns-in-Less c = came _ _ _ _ _ _ c.in-Less.is tt c.less.ensures

pub less_or_equal-requires : goal.less_or_equal-requires
less_or_equal-requires c = able _ _ _ _ _ c.in-LessEqual.is tt c.requires

pub returns-in-LessEqual : goal.returns-in-LessEqual
returns-in-LessEqual c = came _ _ _ _ _ _ c.in-LessEqual.is tt c.less_or_equal.ensures

pub greater-requires : goal.greater-requires
greater-requires c = able _ _ _ _ _ c.in-Greater.is tt c.requires

pub returns-in-Greater : goal.returns-in-Greater
returns-in-Greater c = came _ _ _ _ _ _ c.in-Greater.is tt c.greater.ensures

pub greater_or_equal-requires : goal.greater_or_equal-requires
greater_or_equal-requires c = able _ _ _ _ _ c.in-GreaterEqual.is tt c.requires

pub returns-in-GreaterEqual : goal.returns-in-GreaterEqual
returns-in-GreaterEqual c = came _ _ _ _ _ _ c.in-GreaterEqual.is tt c.greater_or_equal.ensures

pub show-requires : goal.show-requires
show-requires c = able _ _ _ _ _ c.in-Show.is tt c.requires

pub returns-in-Show : goal.returns-in-Show
returns-in-Show c = came _ _ _ _ _ _ c.in-Show.is tt c.show.ensures

pub record-requires : goal.record-requires
record-requires c = able _ _ _ _ _ c.in-Record.is tt c.requires

pub returns-in-Record : goal.returns-in-Record
returns-in-Record c = came _ _ _ _ _ _ c.in-Record.is tt c.record.ensures

pub project-requires : goal.project-requires
project-requires c = able _ _ _ _ _ c.in-Project.is tt c.requires

pub returns-in-Project : goal.returns-in-Project
returns-in-Project c = came _ _ _ _ _ _ c.in-Project.is tt c.project.ensures

pub join-requires : goal.join-requires
join-requires c = able _ _ _ _ _ c.in-Join.is tt c.requires

pub returns-in-Join : goal.returns-in-Join
returns-in-Join c = came _ _ _ _ _ _ c.in-Join.is tt c.join.ensures

pub cut-requires : goal.cut-requires
cut-requires c = able _ _ _ _ _ c.in-Cut.is tt c.requires

pub returns-in-Cut : goal.returns-in-Cut
returns-in-Cut c = came _ _ _ _ _ _ c.in-Cut.is tt c.cut.ensures

pub present-requires : goal.present-requires
present-requires c = able _ _ _ _ _ c.in-Present.is tt c.requires

pub returns-in-Present : goal.returns-in-Present
returns-in-Present c = came _ _ _ _ _ _ c.in-Present.is tt c.present.ensures

pub cons-requires : goal.cons-requires
cons-requires c = able _ _ _ _ _ c.in-Cons.is tt c.requires

pub returns-in-Cons : goal.returns-in-Cons
returns-in-Cons c = came _ _ _ _ _ _ c.in-Cons.is tt c.cons.ensures

pub tagged-requires : goal.tagged-requires
tagged-requires c = able _ _ _ _ _ c.in-Tagged.is tt c.requires

pub returns-in-Tagged : goal.returns-in-Tagged
returns-in-Tagged c = came _ _ _ _ _ _ c.in-Tagged.is tt c.tagged.ensures

pub shown_text-requires : goal.shown_text-requires
shown_text-requires c = able _ _ _ _ _ c.in-Shown.is tt c.requires

pub returns-in-Shown : goal.returns-in-Shown
returns-in-Shown c = came _ _ _ _ _ _ c.in-Shown.is tt c.shown_text.ensures

pub element-requires : goal.element-requires
element-requires c = able _ _ _ _ _ c.in-Element.is tt c.requires

pub returns-in-Element : goal.returns-in-Element
returns-in-Element c = came _ _ _ _ _ _ c.in-Element.is tt c.element.ensures

pub link-requires : goal.link-requires
link-requires c = able _ _ _ _ _ c.in-Link.is tt c.requires

pub returns-in-Link : goal.returns-in-Link
returns-in-Link c = came _ _ _ _ _ _ c.in-Link.is tt c.link.ensures

pub input-requires : goal.input-requires
input-requires c = able _ _ _ _ _ c.in-Input.is tt c.requires

pub returns-in-Input : goal.returns-in-Input
returns-in-Input c = came _ _ _ _ _ _ c.in-Input.is tt c.input.ensures

pub submit-requires : goal.submit-requires
submit-requires c = able _ _ _ _ _ c.in-Submit.is tt c.requires

pub returns-in-Submit : goal.returns-in-Submit
returns-in-Submit c = came _ _ _ _ _ _ c.in-Submit.is tt c.submit.ensures

pub returns-in-Ask : goal.returns-in-Ask
returns-in-Ask c = stops _ _ _ c.args.carried.now c.args.sent.now c.in-Ask.is (λ h. h)

pub returns-in-Write : goal.returns-in-Write
returns-in-Write c = stops _ _ _ c.args.carried.now c.args.sent.now c.in-Write.is (λ h. h)

pub returns-in-Next : goal.returns-in-Next
returns-in-Next c = stops _ _ _ c.args.carried.now c.args.sent.now c.in-Next.is (λ h. h)

pub returns-in-Absent : goal.returns-in-Absent
returns-in-Absent c = gives _ _ (λ s. Done v.Absent s) _ _ _ (performed.Done v.Absent) c.in-Absent.is tt (λ l s. refl) c.requires (λ s. refl)

pub returns-in-Empty : goal.returns-in-Empty
returns-in-Empty c = gives _ _ (λ s. Done (v.Many []) s) _ _ _ (performed.Done (v.Many c.new.result)) c.in-Empty.is tt (λ l s. refl) c.requires (λ s. ap (λ l. Done (v.Many l) s) (sym c.new.ensures))

pub returns-in-Text : goal.returns-in-Text
returns-in-Text c = gives _ _ (λ s. markup (n.Text c.in-Text.bytes ∷ []) s) _ _ _ c.text.result c.in-Text.is tt (λ l s. refl) c.requires c.text.ensures

pub one-requires : goal.one-requires
one-requires c = only_able _ _ (λ s x. Error x s.events) _ _ _ c.in-Fail.is tt (λ s. refl) c.requires

pub returns-in-Fail : goal.returns-in-Fail
returns-in-Fail c = came _ _ _ _ _ (performed.Failed c.one.result) c.in-Fail.is tt (λ s. ap (λ l. one_arg l (λ x. Error x s.events)) c.one.ensures)

pub literal-requires : goal.literal-requires
literal-requires c = there (all_nodes c.args.args) _ (able _ _ _ _ _ c.in-Markup.is tt c.requires).1

pub returns-in-Markup : goal.returns-in-Markup
returns-in-Markup c = came _ _ _ _ _ c.literal.result c.in-Markup.is tt (comes_of c.args.args c.literal.result c.literal.ensures)

pub unreachable-requires : goal.unreachable-requires
unreachable-requires c = cookie_there _ _ _ _ _ c.requires.0 c.in-GetCookie.is c.requires.1 (sym c.in-None.ensures.value)

pub returns-in-Ok : goal.returns-in-Ok
returns-in-Ok c = cookie_got _ _ _ _ _ c.requires.0 _ c.in-GetCookie.is c.requires.1 (sym c.in-Some.ensures.value ∙ ap Some (sym c.in-Ok.ensures))

pub one-requires-in-SetCookie : goal.one-requires-in-SetCookie
one-requires-in-SetCookie c = only_able _ _ (λ s x. Done unit_value (record s { sent = with_cookie c.in-SetCookie.cookie x s.sent })) _ _ _ c.in-SetCookie.is tt (λ s. refl) c.requires

pub returns-in-Ok-set_cookie : goal.returns-in-Ok-set_cookie
returns-in-Ok-set_cookie c =
    subst (λ l. Performs c.args.op.now c.args.args c.args.carried.now c.args.sent.now c.set_cookie.new.sent (performed.Done (v.Row l))) (sym c.new-in-Ok-set_cookie.ensures)
    (cookie_set _ _ _ _ _ _ _ c.in-SetCookie.is c.one-in-SetCookie.ensures c.in-Ok-set_cookie.ensures)
