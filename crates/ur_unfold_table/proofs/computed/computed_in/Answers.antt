use Rattle.std.proofs.Common.{Option, subst}
use Rattle.ur_tree.specs.declared.closed.Static.{Static}
use Rattle.ur_source.specs.Items.{static_in}
use Rattle.ur_source.specs.Source.{source_of}
use Rattle.ur_unfold_static.specs.Scopes.{MayBeAt}
use Rattle.ur_unfold_pieces.specs.Keys.{Gives}
use Rattle.ur_unfold_pieces.proofs.Staying.{stays_so}
use Rattle.ur_unfold_table.proofs.Computing.{not_computed, where_computed}
use Rattle.ur_unfold_table.proofs.computed.computed_in.Goals as goal

pub returns-then-not-is_computed-clause-made : goal.returns-then-not-is_computed-clause-made
returns-then-not-is_computed-clause-made c = λ around at whole. not_computed c.args.is_computed (static_in (source_of c.args.table.now.typed.now) around c.args.e.now) c.if-not-is_computed.true

pub returns-then-not-is_computed-clause-stays : goal.returns-then-not-is_computed-clause-stays
returns-then-not-is_computed-clause-stays c = stays_so c.args.table.now

pub returns-clause-made : goal.returns-clause-made
returns-clause-made c = λ around at whole.
    subst (λ (o : Option Static). Gives (λ j. MayBeAt c.static_in.new.table.closing.statics j o) c.static_in.result) (where_computed c.args.is_computed (static_in (source_of c.args.table.now.typed.now) around c.args.e.now) c.if-not-is_computed.false) (c.static_in.ensures.made around at whole)
