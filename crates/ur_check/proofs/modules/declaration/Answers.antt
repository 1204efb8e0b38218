use Rattle.std.proofs.Common.{sym, subst}
use Rattle.ur_check_scopes.proofs.Exits.{ok-along, refused-along}
use Rattle.ur_typed.specs.Typed.{HasNoBody}
use Rattle.ur_typed.specs.Typed as typed
use Rattle.ur_check.specs.Views.{Declares, DeclHasFault}
use Rattle.ur_check.proofs.modules.declaration.Goals as goal

pub declare_bare-requires : goal.declare_bare-requires
declare_bare-requires c = subst HasNoBody (sym c.in-Con.is) typed.con

pub returns-in-Con-clause-ok : goal.returns-in-Con-clause-ok
returns-in-Con-clause-ok c = ok-along c.declare_bare.result (λ u h. h c.args.bodies.now) c.declare_bare.ensures.ok

pub returns-in-Con-clause-refused : goal.returns-in-Con-clause-refused
returns-in-Con-clause-refused c = refused-along c.declare_bare.result (λ r h. h c.args.bodies.now) c.declare_bare.ensures.refused

pub declare_bare-requires-in-Type : goal.declare_bare-requires-in-Type
declare_bare-requires-in-Type c = subst HasNoBody (sym c.in-Type.is) typed.type_

pub returns-in-Type-clause-ok : goal.returns-in-Type-clause-ok
returns-in-Type-clause-ok c = ok-along c.declare_bare-in-Type.result (λ u h. h c.args.bodies.now) c.declare_bare-in-Type.ensures.ok

pub returns-in-Type-clause-refused : goal.returns-in-Type-clause-refused
returns-in-Type-clause-refused c = refused-along c.declare_bare-in-Type.result (λ r h. h c.args.bodies.now) c.declare_bare-in-Type.ensures.refused

pub declare_bare-requires-in-Datatype : goal.declare_bare-requires-in-Datatype
declare_bare-requires-in-Datatype c = subst HasNoBody (sym c.in-Datatype.is) typed.datatype

pub returns-in-Datatype-clause-ok : goal.returns-in-Datatype-clause-ok
returns-in-Datatype-clause-ok c = ok-along c.declare_bare-in-Datatype.result (λ u h. h c.args.bodies.now) c.declare_bare-in-Datatype.ensures.ok

pub returns-in-Datatype-clause-refused : goal.returns-in-Datatype-clause-refused
returns-in-Datatype-clause-refused c = refused-along c.declare_bare-in-Datatype.result (λ r h. h c.args.bodies.now) c.declare_bare-in-Datatype.ensures.refused

pub declare_bare-requires-in-Table : goal.declare_bare-requires-in-Table
declare_bare-requires-in-Table c = subst HasNoBody (sym c.in-Table.is) typed.table

pub returns-in-Table-clause-ok : goal.returns-in-Table-clause-ok
returns-in-Table-clause-ok c = ok-along c.declare_bare-in-Table.result (λ u h. h c.args.bodies.now) c.declare_bare-in-Table.ensures.ok

pub returns-in-Table-clause-refused : goal.returns-in-Table-clause-refused
returns-in-Table-clause-refused c = refused-along c.declare_bare-in-Table.result (λ r h. h c.args.bodies.now) c.declare_bare-in-Table.ensures.refused

pub declare_bare-requires-in-Sequence : goal.declare_bare-requires-in-Sequence
declare_bare-requires-in-Sequence c = subst HasNoBody (sym c.in-Sequence.is) typed.sequence

pub returns-in-Sequence-clause-ok : goal.returns-in-Sequence-clause-ok
returns-in-Sequence-clause-ok c = ok-along c.declare_bare-in-Sequence.result (λ u h. h c.args.bodies.now) c.declare_bare-in-Sequence.ensures.ok

pub returns-in-Sequence-clause-refused : goal.returns-in-Sequence-clause-refused
returns-in-Sequence-clause-refused c = refused-along c.declare_bare-in-Sequence.result (λ r h. h c.args.bodies.now) c.declare_bare-in-Sequence.ensures.refused

pub declare_bare-requires-in-Cookie : goal.declare_bare-requires-in-Cookie
declare_bare-requires-in-Cookie c = subst HasNoBody (sym c.in-Cookie.is) typed.cookie

pub returns-in-Cookie-clause-ok : goal.returns-in-Cookie-clause-ok
returns-in-Cookie-clause-ok c = ok-along c.declare_bare-in-Cookie.result (λ u h. h c.args.bodies.now) c.declare_bare-in-Cookie.ensures.ok

pub returns-in-Cookie-clause-refused : goal.returns-in-Cookie-clause-refused
returns-in-Cookie-clause-refused c = refused-along c.declare_bare-in-Cookie.result (λ r h. h c.args.bodies.now) c.declare_bare-in-Cookie.ensures.refused

pub returns-in-Val-clause-ok : goal.returns-in-Val-clause-ok
returns-in-Val-clause-ok c = ok-along c.declare_val.result (λ u h. subst (λ f. Declares c.args.project.now c.args.bodies.now f c.declare_val.new.project c.declare_val.new.bodies) (sym c.in-Val.is) h) c.declare_val.ensures.ok

pub returns-in-Val-clause-refused : goal.returns-in-Val-clause-refused
returns-in-Val-clause-refused c = refused-along c.declare_val.result (λ r h. subst (λ f. DeclHasFault c.args.project.now c.args.bodies.now f r) (sym c.in-Val.is) h) c.declare_val.ensures.refused
