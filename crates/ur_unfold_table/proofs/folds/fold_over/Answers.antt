use Rattle.std.proofs.Common.{refl, subst, ◌∷◌, []}
use Rattle.ur_meaning.specs.declared.head.Head.TheVariants as head
use Rattle.ur_unfold_pieces.specs.Told.{folding}
use Rattle.ur_unfold_pieces.proofs.Staying.{stays_so}
use Rattle.ur_unfold_table.specs.Opened.{IsOpened}
use Rattle.ur_unfold_table.proofs.Folding.{folds_stay, folds_over}
use Rattle.ur_unfold_table.proofs.folds.fold_over.Goals as goal

pub returns-then-count-clause-stays : goal.returns-then-count-clause-stays
returns-then-count-clause-stays c = stays_so c.args.table.now

pub returns-in_err-number-clause-stays : goal.returns-in_err-number-clause-stays
returns-in_err-number-clause-stays c = folds_stay c.args.table.now _ c.args.steps c.add_fold.result refl refl refl refl c.add_fold.ensures refl

pub returns-clause-stays : goal.returns-clause-stays
returns-clause-stays c = folds_stay c.args.table.now _ c.args.steps c.add_fold.result refl refl refl refl c.add_fold.ensures refl

pub returns-clause-form : goal.returns-clause-form
returns-clause-form c =
    folds_over c.args.table.now (record c.args.table.now { folds = c.add_fold.new.folds }) c.args.scope c.in_ok-number.number c.args.step.now c.args.start.now c.args.steps c.one.result c.in_ok-number.ensures
    (subst (λ n. IsOpened head.Same (folding c.args.scope c.args.step.now c.args.start.now c.in_ok-number.number n ∷ []) c.one.result) c.len-count.ensures c.one.ensures)
