use Rattle.std.proofs.Common.{◌≡◌, ◌∷◌, rules, sym, subst, List, ℕ, arith}
use Rattle.std.specs.Prelude.{IfSome}
use Rattle.std.proofs.lemmas.Grind.{common_steps}
use Rattle.std.proofs.lemmas.Result.{IfOk-weaker}
use Rattle.ur_keeper_bodies.specs.Rows.{MayBeBasic, MayBeOption, present_at}
use Rattle.ur_keeper_bodies.proofs.Options.{present-within, if-some}
use Rattle.ur_keeper_bodies.proofs.row.read_option.Goals as goal

pub returns-clause-within : goal.returns-clause-within
returns-clause-within c =
    let rest = c.in-Some.rest.now in
    let whole : c.args.bytes.now ≡ 1 ∷ rest = search rules in
    let within = if-some c.in_ok-value.field-0 (c.in-Some-2.value, c.in-Some-2.taken) (MayBeBasic c.args.of rest) c.in-Some-2.is c.in_ok-value.ensures.within in
    IfOk-weaker c.present.result _ _
    (λ found is. subst (λ f. IfSome f (MayBeOption c.args.of c.args.bytes.now)) (sym is)
    (subst (λ (b : List ℕ). IfSome (present_at c.in-Some-2.value c.in-Some-2.taken) (MayBeOption c.args.of b)) (sym whole)
    (present-within c.args.of rest c.in-Some-2.value c.in-Some-2.taken within)))
    c.present.ensures
