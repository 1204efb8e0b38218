use Rattle.std.proofs.Common.{◌≡◌, ◌+◌, ◌++◌, ◌∷◌, [], take, sym, ap, subst, ◌∙◌, arith}
use Rattle.std.proofs.lemmas.List.{take_more, take_all}
use Rattle.ur_emit.specs.Slots.{WritesArguments}
use Rattle.ur_emit.proofs.Calls.{no_arguments, arguments_more}
use Rattle.ur_emit.proofs.links.push_arguments.Goals as goal

pub loop-arg-init : goal.loop-arg-init
loop-arg-init c = no_arguments c.args.slots.now c.args.out.now

pub loop-arg-preserved : goal.loop-arg-preserved
loop-arg-preserved c =
    let xs = c.args.args.now in
    let i = c.loop-arg.arg-index in
    let list : take (i + 1) xs ≡ take i xs ++ c.arg-item.result ∷ [] = take_more xs i _ c.loop-arg-test.true
    ∙ ap (λ z. take i xs ++ z ∷ []) (sym c.arg-item.is) in
    subst (λ l. WritesArguments c.args.slots.now l c.args.out.now c.push_one.new.out) (sym list)
    (arguments_more c.args.slots.now (take i xs)
    c.arg-item.result c.args.out.now c.loop-arg.out c.push_one.new.out c.loop-arg.invariant c.in_ok-push_one.ensures)

pub returns : goal.returns
returns c =
    subst (λ l. WritesArguments c.args.slots.now l c.args.out.now c.loop-arg.out) (take_all c.loop-arg.arg-index c.args.args.now (omega arith))
    c.loop-arg.invariant
