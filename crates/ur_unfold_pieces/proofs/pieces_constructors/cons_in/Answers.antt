use Rattle.std.proofs.Common.{map, refl, sym, ap, subst, ◌∙◌}
use Rattle.std.specs.Option.{option_copied}
use Rattle.ur_rows.specs.Put.{instance}
use Rattle.ur_source.specs.Reading.{Cons}
use Rattle.ur_unfold_static.specs.Scopes.{AreAt, cons_of}
use Rattle.ur_unfold_pieces.proofs.Staying.{stays_so}
use Rattle.ur_unfold_pieces.proofs.Scoped.{closing_stays, scope_cons}
use Rattle.ur_unfold_pieces.proofs.Sized.{not_numbered_so}
use Rattle.ur_unfold_pieces.proofs.pieces_constructors.cons_in.Goals as goal

pub returns-in-None-clause-stays : goal.returns-in-None-clause-stays
returns-in-None-clause-stays c = stays_so c.args.table.now

pub returns-in-Ok-clause-stays : goal.returns-in-Ok-clause-stays
returns-in-Ok-clause-stays c = closing_stays c.args.table.now _ refl refl c.instances_under.ensures.grows refl refl refl

pub returns-in-Err-clause-stays : goal.returns-in-Err-clause-stays
returns-in-Err-clause-stays c = closing_stays c.args.table.now _ refl refl c.instances_under.ensures.grows refl refl refl

pub returns-in-Ok-clause-made : goal.returns-in-Ok-clause-made
returns-in-Ok-clause-made c = λ around at.
    subst (λ (cs : Cons). AreAt c.instances_under.new.closing.cons c.in-Ok.numbers (map (instance cs) c.args.cons.now))
    (scope_cons c.args.table.now c.args.scope around c.in-Some.within.now (sym c.get.ensures.value ∙ ap option_copied c.in-Some.is) at) c.in-Ok.ensures.made

pub returns-in-Err-clause-made : goal.returns-in-Err-clause-made
returns-in-Err-clause-made c = λ around at.
    not_numbered_so c.instances_under.new.closing (map (instance around.cons) c.args.cons.now) (map (instance (cons_of c.args.table.now.closing c.in-Some.within.now)) c.args.cons.now)
    c.instances_under.result c.in-Err.halt c.halt_of.result
    (ap (λ (cs : Cons). map (instance cs) c.args.cons.now) (scope_cons c.args.table.now c.args.scope around c.in-Some.within.now (sym c.get.ensures.value ∙ ap option_copied c.in-Some.is) at))
    c.instances_under.ensures.over c.in-Err.is c.halt_of.ensures
