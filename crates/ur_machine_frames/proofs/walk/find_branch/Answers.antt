use Rattle.std.proofs.Common.{◌≡◌, Some, refl, sym, ◌∙◌, subst, length, arith, ◌≤◌, ◌+◌}
use Rattle.std.proofs.lemmas.Option.{slice_get_read}
use Rattle.std.specs.Prelude.{slice_get}
use Rattle.ur_terms.specs.Run.{matched}
use Rattle.ur_machine_frames.proofs.Branches.{Skips, skips_none, skips_next, found_runs, found_costs, found_none}
use Rattle.ur_machine_frames.proofs.walk.find_branch.Goals as goal

pub returns-in-Yes : goal.returns-in-Yes
returns-in-Yes g c =
    let bs = c.args.branches.now in
    let n = c.loop-number.number in
    let b = c.branch-item.result in
    let at : slice_get bs n ≡ Some b = subst (λ l. slice_get l n ≡ Some b) c.as_slice-branch-items.ensures
    (slice_get_read c.as_slice-branch-items.result.now _ n b refl c.loop-number-test.true c.branch-item.is) in
    let skipped = subst (Skips bs n) c.loop-number.invariant.same c.loop-number.invariant.skipped in
    let m = subst (λ x. matched b.pattern x ≡ Some c.in-Yes.bound) c.loop-number.invariant.same c.in-Yes.ensures in
    (at, found_runs bs n c.args.value b c.in-Yes.bound at m skipped, found_costs bs n c.args.value b c.in-Yes.bound at m skipped)

pub loop-number-init : goal.loop-number-init
loop-number-init g c = record { same = refl; skipped = skips_none c.args.branches.now c.args.value }

pub loop-number-preserved : goal.loop-number-preserved
loop-number-preserved g c =
    let bs = c.args.branches.now in
    let n = c.loop-number.number in
    let b = c.branch-item.result in
    let at : slice_get bs n ≡ Some b = subst (λ l. slice_get l n ≡ Some b) c.as_slice-branch-items.ensures
    (slice_get_read c.as_slice-branch-items.result.now _ n b refl c.loop-number-test.true c.branch-item.is) in
    let no = c.in-No.ensures in
    record {
      same = no.0 ∙ c.loop-number.invariant.same;
      skipped = subst (Skips bs (n + 1)) (sym no.0) (skips_next bs n c.loop-number.value b at no.1 c.loop-number.invariant.skipped);
    }

pub returns : goal.returns
returns g c =
    let past : length c.args.branches.now ≤ c.loop-number.number =
    subst (λ l. length l ≤ c.loop-number.number) c.as_slice-branch-items.ensures (omega arith) in
    found_none c.args.branches.now c.loop-number.number c.args.value past
    (subst (Skips c.args.branches.now c.loop-number.number) c.loop-number.invariant.same c.loop-number.invariant.skipped)
