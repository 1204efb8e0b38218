use Rattle.std.proofs.Common.{◌∙◌, ◌+◌, ◌∷◌, ◌++◌, [], true, false, ◌≡◌, inl, inr, sym, ap, subst, drop}
use Rattle.ur_load.specs.Words.{is_module_name, is_one_of}
use Rattle.ur_load.specs.Placed.{texts}
use Rattle.ur_load.specs.Project.{AreModules}
use Rattle.ur_load.proofs.Listed.{rest_item, not_name, fit_more, named_more}
use Rattle.ur_load.proofs.Refusing.{line_refused}
use Rattle.ur_load.proofs.modules.modules_from.Goals as goal

pub returns-then-not-is_module_name-clause-refused : goal.returns-then-not-is_module_name-clause-refused
returns-then-not-is_module_name-clause-refused c = let r = rest_item c.args.lines.now c.args.begin c.loop-line.line-index c.line-item.result c.requires.within c.loop-line-test.true c.line-item.is in
    line_refused c.args.lines.now (c.args.begin + c.loop-line.line-index) c.line-item.result c.bad_line.result r.within r.is
    (not_name (texts c.args.lines.now) c.loop-line.modules c.args.begin c.loop-line.line-index c.line-item.result.text c.requires.named c.loop-line.invariant.named r.below r.text c.loop-line.invariant.fit
    (inl (ap is_module_name (sym c.as_slice.ensures) ∙ sym c.is_module_name.ensures ∙ c.if-not-is_module_name.true))) c.bad_line.ensures

pub returns-then-branch-clause-refused : goal.returns-then-branch-clause-refused
returns-then-branch-clause-refused c = let r = rest_item c.args.lines.now c.args.begin c.loop-line.line-index c.line-item.result c.requires.within c.loop-line-test.true c.line-item.is in
    line_refused c.args.lines.now (c.args.begin + c.loop-line.line-index) c.line-item.result c.bad_line-then-branch.result r.within r.is
    (not_name (texts c.args.lines.now) c.loop-line.modules c.args.begin c.loop-line.line-index c.line-item.result.text c.requires.named c.loop-line.invariant.named r.below r.text c.loop-line.invariant.fit
    (inr (ap (λ l. is_one_of l c.line-item.result.text) (sym c.loop-line.invariant.known) ∙ ap (is_one_of c.loop-line.known) (sym c.as_slice-in-loop-line.ensures) ∙ sym c.in_ok-is_known.ensures.found ∙ c.if-branch.true))) c.bad_line-then-branch.ensures

pub loop-line-preserved : goal.loop-line-preserved
loop-line-preserved c = let r = rest_item c.args.lines.now c.args.begin c.loop-line.line-index c.line-item.result c.requires.within c.loop-line-test.true c.line-item.is in
    let word : is_module_name c.line-item.result.text ≡ true = ap is_module_name (sym c.as_slice.ensures) ∙ sym c.is_module_name.ensures ∙ c.if-not-is_module_name.false in
    let new : is_one_of c.loop-line.modules c.line-item.result.text ≡ false = ap (λ l. is_one_of l c.line-item.result.text) (sym c.loop-line.invariant.known) ∙ ap (is_one_of c.loop-line.known) (sym c.as_slice-in-loop-line.ensures) ∙ sym c.in_ok-is_known.ensures.found ∙ c.if-branch.false in
    let pushed : c.push.new.self ≡ c.loop-line.modules ++ c.line-item.result.text ∷ [] = c.in_ok-push.ensures.ok ∙ ap (λ t. c.loop-line.modules ++ t ∷ []) (c.in_ok-from_slice.ensures ∙ c.as_slice-in-loop-line-2.ensures) in
    record {
      named = pushed ∙ named_more c.args.lines.now c.args.begin c.loop-line.line-index c.line-item.result c.loop-line.modules r c.loop-line.invariant.named;
      fit = subst AreModules (sym pushed) (fit_more c.loop-line.modules c.line-item.result.text c.loop-line.invariant.fit word new);
      known = c.in_ok-is_known.ensures.added c.if-branch.false ∙ ap (λ t. c.loop-line.known ++ t ∷ []) c.as_slice-in-loop-line.ensures ∙ ap (λ l. l ++ c.line-item.result.text ∷ []) c.loop-line.invariant.known ∙ sym pushed;
    }
