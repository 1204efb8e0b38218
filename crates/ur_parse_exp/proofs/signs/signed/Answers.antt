use Rattle.std.proofs.Common.{◌≡◌, ◌<◌, ◌≤◌, ◌-◌, refl, sym, arith, ◌∙◌}
use Rattle.ur_parse_rules.specs.Places.{Moves}
use Rattle.ur_parse_exp.proofs.Consing.{minus_read}
use Rattle.ur_parse_exp.proofs.SignRules.{last_sign, signs_on}
use Rattle.ur_parse_exp.proofs.signs.signed.Goals as goal

pub signs-init : goal.signs-init
signs-init c = record { signs = c.requires.signs; below = omega arith; end = refl; found = λ n h. h }

pub span-covered-requires : goal.span-covered-requires
span-covered-requires c = let m = c.requires.moving in let o = m.on in let b = c.signs.invariant.below in let e = c.signs.invariant.end in let t =
    c.signs-test.true in
    rw e (record { on = omega (arith, o, b, t); within = m.within })

pub signs-preserved : goal.signs-preserved
signs-preserved c = let m = c.requires.moving in let o = m.on in let b = c.signs.invariant.below in let e = c.signs.invariant.end in let t =
    c.signs-test.true in
    let last = last_sign t c.signs.invariant.signs in
    let me : Moves c.args.tokens.now (c.signs.place - 1) c.args.inner.end = record { on = omega (arith, o, b, t); within = m.within } in
    let tree = c.in_ok-whole.ensures.found.0 in let end = c.in_ok-whole.ensures.found.1 in let s = c.span-covered.ensures in record {
      signs = last.0;
      below = omega (arith, b);
      end = end ∙ e;
      found = λ n h. rw (tree, s, e) (minus_read c.args.tokens.now (c.signs.place - 1) c.args.inner.end me last.1 (c.signs.invariant.found n h));
    }

pub returns-clause-found : goal.returns-clause-found
returns-clause-found c =
    let l : c.args.at ≤ c.signs.place = signs_on c.signs.invariant.signs in
    let t = c.signs-test.false in
    let e : c.signs.place ≡ c.args.at = omega (arith, l, t) in
    λ n h. rw (sym e) (c.signs.invariant.found n h)
