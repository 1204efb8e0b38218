use Rattle.std.proofs.Common.{ℕ, List, length, ap, ◌∙◌, sym, subst}
use Rattle.std.proofs.lemmas.Result.{IfOk-weaker}
use Rattle.ur_congruence.specs.Terms.{AreClasses}
use Rattle.ur_invalidate.specs.PairClasses.{Classes, AreClassesOf}
use Rattle.ur_invalidate.proofs.Told.{all_within, constants_within, pair_classes}
use Rattle.ur_invalidate.proofs.classes.classes_of.Goals as goal

pub read_at-requires : goal.read_at-requires
read_at-requires c =
    all_within c.args.pair.now c.in_ok-numbers.numbers c.as_slice.result.now c.in_ok-numbers.ensures (ap (λ (xs : List ℕ). length xs) c.as_slice.ensures ∙ c.in_ok-classes.ensures.size)

pub nulls_are_apart-apart-requires : goal.nulls_are_apart-apart-requires
nulls_are_apart-apart-requires c = constants_within c.args.pair.now c.in_ok-numbers.numbers c.in_ok-numbers.ensures

pub returns : goal.returns
returns c =
    IfOk-weaker c.read_at.result _ _
    (λ all is. subst (λ (classes : Classes). AreClassesOf c.args.pair.now classes) (sym is)
    (pair_classes c.args.pair.now c.in_ok-numbers.numbers c.as_slice.result.now c.in_ok-numbers.ensures
    (subst (λ (xs : List ℕ). AreClasses c.in_ok-numbers.numbers.numbering.closure xs) (sym c.as_slice.ensures) c.in_ok-classes.ensures)
    c.nulls_are_apart-apart.result c.nulls_are_apart-apart.ensures)) c.read_at.ensures
