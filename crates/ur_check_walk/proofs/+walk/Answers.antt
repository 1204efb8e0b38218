use Rattle.std.proofs.Common.{arith, ap, ap₂, sym, subst, ◌∙◌, Some, refl, drop, None, ◌<◌}
use Rattle.std.specs.Option.{option_copied}
use Rattle.ur_syntax.specs.declared.exp.ExpForm.TheVariants as e
use Rattle.ur_rows.specs.declared.normal.NormalType.TheVariants as ty
use Rattle.ur_typed.specs.Parts.{denied, shown, present, returned, of_built, of_head}
use Rattle.ur_typed.specs.Walking.{typed}
use Rattle.ur_typed_rules.specs.Scopes.{wants}
use Rattle.ur_check_scopes.specs.Views.{mode_of, head_in}
use Rattle.ur_check_scopes.proofs.Exits.{ok-along, refused-along, refused-exit}
use Rattle.ur_check_rules.specs.Views.{sites_in, out_in, args_with}
use Rattle.ur_check_walk.proofs.Forms.{not-made, show-made, some-made, return-made}
use Rattle.std.proofs.lemmas.List.{nil_from_length}
use Rattle.ur_check_walk.specs.Records.{bad_name}
use Rattle.ur_check_walk.proofs.Records.{all-first, all-past, all-taken, field-tells, record-gives, record-tells, takes, value-tells}
use Rattle.ur_check_rules.proofs.Naming.{head-there}
use Rattle.ur_tree.specs.Make as make
use Rattle.ur_tree.specs.declared.exp.Exp.TheVariants as exp
use Rattle.ur_check_walk.specs.Applying.{forms_in, GivesArgs, TellsArgs, CallGives, CallTells, in_call}
use Rattle.ur_check_walk.proofs.Applying as applying
use Rattle.ur_check_walk.specs.Leading.{ComesIn}
use Rattle.ur_check_walk.proofs.Leading as leading
use Rattle.ur_check_walk.proofs.Steps.{lower, part, rule, settled, settles, stands-there, somewhere-there, tells-there, deeper-below, gives-as, tells-as, gives-mode, tells-mode, arm, arm-any, arm-tells, arm-tells-any, fails-untyped, fails-typed, fails-within}
use Rattle.ur_check_walk.proofs.+walk.Goals as goal
use Rattle.ur_check_walk.proofs.Cookies.{cookie-gives, cookie-tells, no-cookie-tells}
use Rattle.ur_check_walk.proofs.Forms.{set-cookie-made}
use Rattle.ur_check_walk.proofs.Choosing.{bind-made, in-first, in-first-alone, first-not-run, first-not-run-alone, in-second, in-second-alone, last-not-run, last-not-run-alone, somewhere-bound, seq-made}
use Rattle.ur_check_walk.proofs.Branching.{Walked, branch-made, pattern-faulty, body-faulty, walked-start, walked-next, walked-broken, walked-end, case-made, in-scrutinee, in-branches, not-covered, somewhere-branch}
use Rattle.ur_check_walk.proofs.Vals.{val-made, type-faulty, value-faulty, behind-faulty, further-made, further-faulty, let-faulty, body-made, let-body-faulty, let-made, in-vals, somewhere-val}
use Rattle.ur_check_walk.proofs.Lambdas.{lambda-made, form-broken, name-broken, param-broken, in-body, curried-told, somewhere-lambda}
use Rattle.ur_check_walk.proofs.Quoted as quoted
use Rattle.ur_check_walk.proofs.Stated as stated
use Rattle.ur_check_walk.proofs.Ranks.{falls, falls-deeper}
use Rattle.ur_rows.specs.Normal.{as_function}
use Rattle.ur_rows.specs.Types.{at_row}
use Rattle.ur_rows.specs.Nodes.{type_nodes, most_nodes}
use Rattle.ur_check_walk.proofs.Folds.{types-are, function-broken, row-broken, step-broken, start-large, in-start, whole-large, fold-made, step-as, tells-step, no-lambda, form-refused, acc-large, acc-broken, step-large, in-step, step-made, somewhere-step}
use Rattle.ur_xmltype.specs.Literal.{asks, decides}
use Rattle.ur_xmltype.specs.Views.{place_in, sort_in, node_in, asked_in}
use Rattle.ur_check_walk.proofs.Parting.{parted-start, parted-next, parted-broken, parted-end, part-arm, part-arm-tells, part-arm-there, part-arm-there-tells}
use Rattle.ur_check_walk.proofs.Splicing.{text-arm, text-arm-tells, shown-given, shows-nothing, within-shown, shows-other, splice-given, splices-nothing, within-splice, asked-arm, asked-arm-tells, found-given, found-none, typed-given, within-asked}
use Rattle.ur_check_walk.proofs.Elements.{tag-given, tag-tells, tag-bad, node-arm, node-arm-tells, element-given, element-tells, form-given, form-tells, form-unfit}
use Rattle.ur_check_walk.proofs.Literals.{sort-tells, frame-tells, parts-tell, fields-tell, literal-given}
use Rattle.ur_syntax.specs.declared.xml.XmlForm.TheVariants as xml_form
use Rattle.ur_xmltype.specs.Tags as node
use Rattle.ur_check_walk.proofs.Aiming.{target-gives, aim-tells, more-tells, args-tell, whole-aims, whole-misses}
use Rattle.ur_check_walk.proofs.Linking.{value-gives, value-refused, text-gives, value-as, value-told-as, link-gives, link-target-tells, link-parts-tell, input-gives, stray-tells, input-value-tells, submit-gives, submit-target-tells, submit-value-tells}

-- ---- arms

pub walk::walk-returns-in-Not-clause-typed : goal.walk::walk-returns-in-Not-clause-typed
walk::walk-returns-in-Not-clause-typed t c =
    arm-any c.args.around.now c.args.sites.now c.denied.new.sites c.args.e.now.form (e.Not c.get-in-Not.result.now) (mode_of (option_copied c.args.wanted)) c.denied.result (c.in-Not.is ∙ ap e.Not (sym c.get-in-Not.ensures)) c.denied.ensures.typed

pub walk::walk-returns-in-Not-clause-refused : goal.walk::walk-returns-in-Not-clause-refused
walk::walk-returns-in-Not-clause-refused t c =
    arm-tells-any c.args.around.now c.args.sites.now c.args.e.now.form (e.Not c.get-in-Not.result.now) (mode_of (option_copied c.args.wanted)) c.denied.result (c.in-Not.is ∙ ap e.Not (sym c.get-in-Not.ensures)) c.denied.ensures.refused

pub walk::walk_further-returns-in-Return-clause-typed : goal.walk::walk_further-returns-in-Return-clause-typed
walk::walk_further-returns-in-Return-clause-typed t c =
    arm c.args.around.now c.args.sites.now c.returned.new.sites c.args.e.now.form (e.Return c.get-in-Return.result.now) (mode_of (option_copied c.args.wanted)) c.returned.result (c.in-Return.is ∙ ap e.Return (sym c.get-in-Return.ensures)) c.returned.ensures.typed

pub walk::walk_further-returns-in-Return-clause-refused : goal.walk::walk_further-returns-in-Return-clause-refused
walk::walk_further-returns-in-Return-clause-refused t c =
    arm-tells c.args.around.now c.args.sites.now c.args.e.now.form (e.Return c.get-in-Return.result.now) (mode_of (option_copied c.args.wanted)) c.returned.result (c.in-Return.is ∙ ap e.Return (sym c.get-in-Return.ensures)) c.returned.ensures.refused

pub walk::walk_further-returns-in-Some-clause-typed : goal.walk::walk_further-returns-in-Some-clause-typed
walk::walk_further-returns-in-Some-clause-typed t c =
    arm c.args.around.now c.args.sites.now c.present.new.sites c.args.e.now.form (e.Some c.get-in-Some.result.now) (mode_of (option_copied c.args.wanted)) c.present.result (c.in-Some.is ∙ ap e.Some (sym c.get-in-Some.ensures)) c.present.ensures.typed

pub walk::walk_further-returns-in-Some-clause-refused : goal.walk::walk_further-returns-in-Some-clause-refused
walk::walk_further-returns-in-Some-clause-refused t c =
    arm-tells c.args.around.now c.args.sites.now c.args.e.now.form (e.Some c.get-in-Some.result.now) (mode_of (option_copied c.args.wanted)) c.present.result (c.in-Some.is ∙ ap e.Some (sym c.get-in-Some.ensures)) c.present.ensures.refused

pub walk::walk_statement-returns-in-Show-clause-typed : goal.walk::walk_statement-returns-in-Show-clause-typed
walk::walk_statement-returns-in-Show-clause-typed t c =
    arm-any c.args.around.now c.args.sites.now c.shown.new.sites c.args.e.now.form (e.Show c.get.result.now) (mode_of (option_copied c.args.wanted)) c.shown.result (c.in-Show.is ∙ ap e.Show (sym c.get.ensures)) c.shown.ensures.typed

pub walk::walk_statement-returns-in-Show-clause-refused : goal.walk::walk_statement-returns-in-Show-clause-refused
walk::walk_statement-returns-in-Show-clause-refused t c =
    arm-tells-any c.args.around.now c.args.sites.now c.args.e.now.form (e.Show c.get.result.now) (mode_of (option_copied c.args.wanted)) c.shown.result (c.in-Show.is ∙ ap e.Show (sym c.get.ensures)) c.shown.ensures.refused

pub walk::walk_statement-returns-in-Error-clause-typed : goal.walk::walk_statement-returns-in-Error-clause-typed
walk::walk_statement-returns-in-Error-clause-typed t c =
    arm c.args.around.now c.args.sites.now c.failed.new.sites c.args.e.now.form (e.Error c.get-in-Error.result.now) (mode_of (option_copied c.args.wanted)) c.failed.result (c.in-Error.is ∙ ap e.Error (sym c.get-in-Error.ensures)) c.failed.ensures.typed

pub walk::walk_statement-returns-in-Error-clause-refused : goal.walk::walk_statement-returns-in-Error-clause-refused
walk::walk_statement-returns-in-Error-clause-refused t c =
    arm-tells c.args.around.now c.args.sites.now c.args.e.now.form (e.Error c.get-in-Error.result.now) (mode_of (option_copied c.args.wanted)) c.failed.result (c.in-Error.is ∙ ap e.Error (sym c.get-in-Error.ensures)) c.failed.ensures.refused

-- ---- forms of one part

pub walk::denied-returns-clause-typed : goal.walk::denied-returns-clause-typed
walk::denied-returns-clause-typed t c =
    λ m. gives-as c.args.around.now c.args.sites.now (e.Not c.args.a.now) _ m c.in_ok-made.made c.typed.new.sites (not-made c.args.a.now) (λ w s st. c.in_ok-made.ensures s (sites_in c.args.sites.now) (sites_in c.typed.new.sites) ty.Bool (typed w c.args.a.now.form) (c.in_ok-out.ensures.typed w s st))

pub walk::denied-returns-in_err-out-clause-refused : goal.walk::denied-returns-in_err-out-clause-refused
walk::denied-returns-in_err-out-clause-refused t c =
    refused-exit c.from_residual.result c.in_err-out.field-0.0 c.from_residual.ensures.1 (λ r h m. tells-as c.args.around.now c.args.sites.now (e.Not c.args.a.now) _ m r (not-made c.args.a.now) (λ w s st. part denied (h w s st))) c.in_err-out.ensures.refused

pub walk::shown-returns-clause-typed : goal.walk::shown-returns-clause-typed
walk::shown-returns-clause-typed t c =
    λ m. gives-as c.args.around.now c.args.sites.now (e.Show c.args.a.now) _ m c.in_ok-made.made c.typed.new.sites (show-made c.args.a.now) (λ w s st. c.in_ok-made.ensures.shown s (sites_in c.args.sites.now) (sites_in c.typed.new.sites) (typed w c.args.a.now.form) (c.in_ok-out.ensures.typed w s st))

pub walk::shown-returns-in_err-out-clause-refused : goal.walk::shown-returns-in_err-out-clause-refused
walk::shown-returns-in_err-out-clause-refused t c =
    refused-exit c.from_residual.result c.in_err-out.field-0.0 c.from_residual.ensures.1 (λ r h m. tells-as c.args.around.now c.args.sites.now (e.Show c.args.a.now) _ m r (show-made c.args.a.now) (λ w s st. part shown (h w s st))) c.in_err-out.ensures.refused

pub walk::present-returns-clause-typed : goal.walk::present-returns-clause-typed
walk::present-returns-clause-typed t c =
    gives-as c.args.around.now c.args.sites.now (e.Some c.args.a.now) _ (mode_of (option_copied c.args.wanted)) c.in_ok-made.made c.typed.new.sites (some-made c.args.a.now) (λ w s st. c.in_ok-made.ensures s (sites_in c.args.sites.now) (sites_in c.typed.new.sites) (mode_of (option_copied c.args.wanted)) (typed w c.args.a.now.form) (gives-mode c.args.around.now c.args.sites.now c.args.a.now.form _ _ c.in_ok-out.out c.typed.new.sites c.of_option-inside.ensures c.in_ok-out.ensures.typed w s st))

pub walk::present-returns-in_err-out-clause-refused : goal.walk::present-returns-in_err-out-clause-refused
walk::present-returns-in_err-out-clause-refused t c =
    refused-exit c.from_residual.result c.in_err-out.field-0.0 c.from_residual.ensures.1 (λ r h. tells-as c.args.around.now c.args.sites.now (e.Some c.args.a.now) _ (mode_of (option_copied c.args.wanted)) r (some-made c.args.a.now) (λ w s st. part present (tells-mode c.args.around.now c.args.sites.now c.args.a.now.form _ _ r c.of_option-inside.ensures h w s st))) c.in_err-out.ensures.refused

pub walk::returned-returns-clause-typed : goal.walk::returned-returns-clause-typed
walk::returned-returns-clause-typed t c =
    gives-as c.args.around.now c.args.sites.now (e.Return c.args.a.now) _ (mode_of (option_copied c.args.wanted)) c.in_ok-made.made c.typed.new.sites (return-made c.args.a.now) (λ w s st. c.in_ok-made.ensures s (sites_in c.args.sites.now) (sites_in c.typed.new.sites) (mode_of (option_copied c.args.wanted)) (typed w c.args.a.now.form) (gives-mode c.args.around.now c.args.sites.now c.args.a.now.form _ _ c.in_ok-out.out c.typed.new.sites c.of_transaction-inside.ensures c.in_ok-out.ensures.typed w s st))

pub walk::returned-returns-in_err-out-clause-refused : goal.walk::returned-returns-in_err-out-clause-refused
walk::returned-returns-in_err-out-clause-refused t c =
    refused-exit c.from_residual.result c.in_err-out.field-0.0 c.from_residual.ensures.1 (λ r h. tells-as c.args.around.now c.args.sites.now (e.Return c.args.a.now) _ (mode_of (option_copied c.args.wanted)) r (return-made c.args.a.now) (λ w s st. part returned (tells-mode c.args.around.now c.args.sites.now c.args.a.now.form _ _ r c.of_transaction-inside.ensures h w s st))) c.in_err-out.ensures.refused

pub walk::shown-returns-in_err-made-clause-refused : goal.walk::shown-returns-in_err-made-clause-refused
walk::shown-returns-in_err-made-clause-refused t c =
    refused-exit c.from_residual-in_err-made.result c.in_err-made.field-0.0 c.from_residual-in_err-made.ensures.1 (λ r h m. tells-as c.args.around.now c.args.sites.now (e.Show c.args.a.now) _ m r (show-made c.args.a.now) (λ w s st. rule (h w s (sites_in c.args.sites.now) (sites_in c.typed.new.sites) m c.args.a.now.span c.args.a.now.form (c.in_ok-out.ensures.typed w s st)))) c.in_err-made.ensures.refused

-- ---- chains

pub walk::typed-returns-then-is_chain-clause-typed : goal.walk::typed-returns-then-is_chain-clause-typed
walk::typed-returns-then-is_chain-clause-typed t c = c.chain.ensures.typed

pub walk::typed-returns-then-is_chain-clause-refused : goal.walk::typed-returns-then-is_chain-clause-refused
walk::typed-returns-then-is_chain-clause-refused t c = c.chain.ensures.refused

pub walk::typed-returns-else-is_chain-clause-typed : goal.walk::typed-returns-else-is_chain-clause-typed
walk::typed-returns-else-is_chain-clause-typed t c = c.operand.ensures.typed

pub walk::typed-returns-else-is_chain-clause-refused : goal.walk::typed-returns-else-is_chain-clause-refused
walk::typed-returns-else-is_chain-clause-refused t c = c.operand.ensures.refused

pub chain::chosen-returns-clause-typed : goal.chain::chosen-returns-clause-typed
chain::chosen-returns-clause-typed t c =
    leading.chosen-onward c.args.around.now c.in_ok-inner.inner c.args.begun.now c.kept.new.begun c.args.sites.now c.typed.new.sites c.typed-2.new.sites c.args.asked (record { e = c.args.choice.no; wanted = Some c.in_ok-of.of }) c.in_ok-kept.ensures.0 c.args.choice c.in_ok-test.test c.in_ok-yes.yes c.in_ok-inner.ensures.0 c.in_ok-inner.ensures.1 c.in_ok-kept.ensures.1 refl (ap wants c.in_ok-of.ensures) c.in_ok-test.ensures.typed (gives-mode c.in_ok-inner.inner c.typed.new.sites c.args.choice.yes.now.form _ _ c.in_ok-yes.yes c.typed-2.new.sites (ap mode_of c.as_ref.ensures.value) c.in_ok-yes.ensures.typed)

pub chain::chosen-returns-in_err-test-clause-refused : goal.chain::chosen-returns-in_err-test-clause-refused
chain::chosen-returns-in_err-test-clause-refused t c =
    refused-exit c.from_residual-in_err-test.result c.in_err-test.field-0.0 c.from_residual-in_err-test.ensures.1 (λ r h. leading.test-tells c.args.around.now c.in_ok-inner.inner c.args.sites.now c.args.asked c.args.choice r c.in_ok-inner.ensures.0 c.in_ok-inner.ensures.1 h) c.in_err-test.ensures.refused

pub chain::chosen-returns-in_err-yes-clause-refused : goal.chain::chosen-returns-in_err-yes-clause-refused
chain::chosen-returns-in_err-yes-clause-refused t c =
    refused-exit c.from_residual-in_err-yes.result c.in_err-yes.field-0.0 c.from_residual-in_err-yes.ensures.1 (λ r h. leading.yes-tells c.args.around.now c.in_ok-inner.inner c.args.sites.now c.typed.new.sites c.args.asked c.args.choice c.in_ok-test.test r c.in_ok-inner.ensures.0 c.in_ok-inner.ensures.1 c.in_ok-test.ensures.typed (tells-mode c.in_ok-inner.inner c.typed.new.sites c.args.choice.yes.now.form _ _ r (ap mode_of c.as_ref.ensures.value) h)) c.in_err-yes.ensures.refused

pub chain::turn-returns-in-Some-clause-typed : goal.chain::turn-returns-in-Some-clause-typed
chain::turn-returns-in-Some-clause-typed t c = c.in_ok-last-in-Some.ensures.typed c.in-Some.ensures

pub chain::turn-returns-in_err-last-in-Some-clause-refused : goal.chain::turn-returns-in_err-last-in-Some-clause-refused
chain::turn-returns-in_err-last-in-Some-clause-refused t c =
    refused-exit c.from_residual.result c.in_err-last-in-Some.field-0.0 c.from_residual.ensures.1 (λ r h. leading.turn-tells c.args.around.now c.args.begun.now c.args.sites.now c.args.next r (h c.in-Some.ensures)) c.in_err-last-in-Some.ensures.refused

pub chain::turn-returns-clause-typed : goal.chain::turn-returns-clause-typed
chain::turn-returns-clause-typed t c =
    leading.turn-closes c.args.around.now c.args.begun.now c.all_closed.new.begun c.args.sites.now c.operand.new.sites c.args.next _ c.in_ok-out-in-None.out c.in_ok-behind-in-None.behind (ap mode_of c.as_ref.ensures.value) c.in_ok-out-in-None.ensures.typed c.in_ok-behind-in-None.ensures.comes

pub chain::turn-returns-in_err-out-in-None-clause-refused : goal.chain::turn-returns-in_err-out-in-None-clause-refused
chain::turn-returns-in_err-out-in-None-clause-refused t c =
    refused-exit c.from_residual-in_err-out-in-None.result c.in_err-out-in-None.field-0.0 c.from_residual-in_err-out-in-None.ensures.1 (λ r h. leading.turn-tells c.args.around.now c.args.begun.now c.args.sites.now c.args.next r (tells-mode c.args.around.now c.args.sites.now c.args.next.e.now.form _ _ r (ap mode_of c.as_ref.ensures.value) h)) c.in_err-out-in-None.ensures.refused

pub chain::turn-returns-in_err-behind-in-None-clause-refused : goal.chain::turn-returns-in_err-behind-in-None-clause-refused
chain::turn-returns-in_err-behind-in-None-clause-refused t c =
    refused-exit c.from_residual-in_err-behind-in-None.result c.in_err-behind-in-None.field-0.0 c.from_residual-in_err-behind-in-None.ensures.1 (λ r h. leading.turn-refused c.args.around.now c.args.begun.now c.args.sites.now c.operand.new.sites c.args.next _ c.in_ok-out-in-None.out r (ap mode_of c.as_ref.ensures.value) c.in_ok-out-in-None.ensures.typed h) c.in_err-behind-in-None.ensures.refused

pub chain::chain-loop-turn-init : goal.chain::chain-loop-turn-init
chain::chain-loop-turn-init t c =
    leading.chain-begun c.args.around.now c.descended.new.begun c.new-begun.result c.args.sites.now c.args.e.now.form (mode_of (option_copied c.args.wanted)) c.in_ok-first.first c.in_ok-next.next c.new-begun.ensures (ap (λ z. z.now.form) c.in_ok-first.ensures.e) c.in_ok-first.ensures.wanted c.in_ok-next.ensures

pub chain::chain-loop-turn-preserved : goal.chain::chain-loop-turn-preserved
chain::chain-loop-turn-preserved t c =
    c.in_ok-next-in-Part.ensures c.args.around.now c.args.sites.now c.turn.new.sites c.args.e.now.form (mode_of (option_copied c.args.wanted))
    (subst (ComesIn c.args.around.now c.turn.new.begun c.args.sites.now c.args.e.now.form (mode_of (option_copied c.args.wanted)) c.turn.new.sites) c.in-Part.is (c.in_ok-out.ensures.typed c.args.sites.now c.args.e.now.form (mode_of (option_copied c.args.wanted)) c.loop-turn.invariant))

pub chain::chain-returns-in-Whole-clause-typed : goal.chain::chain-returns-in-Whole-clause-typed
chain::chain-returns-in-Whole-clause-typed t c =
    subst (ComesIn c.args.around.now c.turn.new.begun c.args.sites.now c.args.e.now.form (mode_of (option_copied c.args.wanted)) c.turn.new.sites) c.in-Whole.is (c.in_ok-out.ensures.typed c.args.sites.now c.args.e.now.form (mode_of (option_copied c.args.wanted)) c.loop-turn.invariant)

pub chain::chain-returns-in_err-out-clause-refused : goal.chain::chain-returns-in_err-out-clause-refused
chain::chain-returns-in_err-out-clause-refused t c =
    refused-exit c.from_residual-in_err-out.result c.in_err-out.field-0.0 c.from_residual-in_err-out.ensures.1 (λ r h. h c.args.sites.now c.args.e.now.form (mode_of (option_copied c.args.wanted)) c.loop-turn.invariant) c.in_err-out.ensures.refused

-- ---- what fails

pub walk::failed-returns-in-None-clause-refused : goal.walk::failed-returns-in-None-clause-refused
walk::failed-returns-in-None-clause-refused t c =
    fails-untyped c.args.around.now c.args.sites.now c.args.a.now c.args.wanted c.mismatch.result c.in-None.is c.mismatch.ensures

pub walk::failed-returns-in_ok-made-in-Some-clause-typed : goal.walk::failed-returns-in_ok-made-in-Some-clause-typed
walk::failed-returns-in_ok-made-in-Some-clause-typed t c =
    fails-typed c.args.around.now c.args.sites.now c.typed.new.sites c.args.a.now c.args.wanted c.in-Some.t c.in_ok-out-in-Some.out c.in_ok-made-in-Some.made c.in-Some.is c.in_ok-out-in-Some.ensures.typed c.in_ok-made-in-Some.ensures.of c.in_ok-made-in-Some.ensures.exp

pub walk::failed-returns-in_err-out-in-Some-clause-refused : goal.walk::failed-returns-in_err-out-in-Some-clause-refused
walk::failed-returns-in_err-out-in-Some-clause-refused t c =
    refused-exit c.from_residual.result c.in_err-out-in-Some.field-0.0 c.from_residual.ensures.1 (λ r h. fails-within c.args.around.now c.args.sites.now c.args.a.now c.args.wanted c.in-Some.t r c.in-Some.is h) c.in_err-out-in-Some.ensures.refused

-- ---- what is accepted

pub walk::operand-returns-clause-typed : goal.walk::operand-returns-clause-typed
walk::operand-returns-clause-typed t c =
    ok-along c.settled.result (λ o h w s st. settles w c.args.e.now.form s (sites_in c.args.sites.now) (mode_of (option_copied c.args.wanted)) (out_in c.in_ok-out.out c.walk.new.sites) (out_in o c.walk.new.sites) (c.in_ok-out.ensures.typed w s (stands-there c.args.around.now c.in_ok-inner.inner w s c.in_ok-inner.ensures.0 c.in_ok-inner.ensures.1 st)) (h w s (sites_in c.walk.new.sites) st)) c.settled.ensures.settled

pub walk::operand-returns-clause-refused : goal.walk::operand-returns-clause-refused
walk::operand-returns-clause-refused t c =
    refused-along c.settled.result (λ r h w s st. settled (c.in_ok-out.ensures.typed w s (stands-there c.args.around.now c.in_ok-inner.inner w s c.in_ok-inner.ensures.0 c.in_ok-inner.ensures.1 st)) (h w s (sites_in c.walk.new.sites) st)) c.settled.ensures.refused

pub walk::operand-returns-in_err-out-clause-refused : goal.walk::operand-returns-in_err-out-clause-refused
walk::operand-returns-in_err-out-clause-refused t c =
    refused-exit c.from_residual-in_err-out.result c.in_err-out.field-0.0 c.from_residual-in_err-out.ensures.1 (λ r h. tells-there c.args.around.now c.in_ok-inner.inner c.args.sites.now c.args.e.now.form (mode_of (option_copied c.args.wanted)) r c.in_ok-inner.ensures.0 c.in_ok-inner.ensures.1 h) c.in_err-out.ensures.refused

pub walk::operand-walk-requires : goal.walk::operand-walk-requires
walk::operand-walk-requires t c =
    (deeper-below c.args.around.now.levels c.in_ok-inner.inner.levels c.levels_of.result t c.in_ok-inner.ensures.2 c.levels_of.ensures c.decreases, somewhere-there c.args.around.now c.in_ok-inner.inner c.in_ok-inner.ensures.0 c.in_ok-inner.ensures.1 c.requires)

-- ---- records

pub fields::record-returns-clause-typed : goal.fields::record-returns-clause-typed
fields::record-returns-clause-typed t c =
    record-gives c.args.around.now c.args.sites.now c.fields_of.new.sites c.args.written.now (mode_of (option_copied c.args.wanted)) c.in_ok-fields.fields c.in_ok-made.made c.in_ok-fields.ensures.typed c.in_ok-made.ensures.made

pub fields::record-returns-in_err-made-clause-refused : goal.fields::record-returns-in_err-made-clause-refused
fields::record-returns-in_err-made-clause-refused t c =
    refused-exit c.from_residual-in_err-made.result c.in_err-made.field-0.0 c.from_residual-in_err-made.ensures.1 (λ r h. record-tells c.args.around.now c.args.sites.now c.fields_of.new.sites c.args.written.now (mode_of (option_copied c.args.wanted)) c.in_ok-fields.fields r c.in_ok-fields.ensures.typed h) c.in_err-made.ensures.refused

pub fields::fields_of-loop-first-init : goal.fields::fields_of-loop-first-init
fields::fields_of-loop-first-init t c =
    all-first c.args.around.now (mode_of (option_copied c.args.wanted)) c.args.written.now c.args.sites.now c.no_fields-fields.result c.no_fields-fields.ensures.parts c.no_fields-fields.ensures.values

pub fields::fields_of-loop-first-preserved : goal.fields::fields_of-loop-first-preserved
fields::fields_of-loop-first-preserved t c =
    all-past c.args.around.now (mode_of (option_copied c.args.wanted)) c.args.written.now c.args.sites.now c.in-Some.first.now c.in-Some.rest.now c.loop-first.left.now c.loop-first.sites c.one_more.new.sites c.loop-first.fields c.in_ok-fields.fields c.in-Some.ensures.cases.0 c.in_ok-fields.ensures.typed c.loop-first.invariant

pub fields::fields_of-returns-clause-typed : goal.fields::fields_of-returns-clause-typed
fields::fields_of-returns-clause-typed t c =
    all-taken c.args.around.now (mode_of (option_copied c.args.wanted)) c.args.written.now c.args.sites.now c.loop-first.left.now c.loop-first.sites c.loop-first.fields (nil_from_length c.loop-first.left.now c.in_default.ensures.cases) c.loop-first.invariant

pub fields::fields_of-returns-in_err-fields-clause-refused : goal.fields::fields_of-returns-in_err-fields-clause-refused
fields::fields_of-returns-in_err-fields-clause-refused t c =
    refused-exit c.from_residual.result c.in_err-fields.field-0.0 c.from_residual.ensures.1 (λ r h. field-tells c.args.around.now (mode_of (option_copied c.args.wanted)) c.args.written.now c.args.sites.now c.in-Some.first.now c.in-Some.rest.now c.loop-first.left.now c.loop-first.sites c.loop-first.fields r c.in-Some.ensures.cases.0 c.loop-first.invariant h) c.in_err-fields.ensures.refused

pub fields::one_more-returns-clause-typed : goal.fields::one_more-returns-clause-typed
fields::one_more-returns-clause-typed t c =
    takes c.args.around.now c.args.sites.now c.args.written.now (mode_of (option_copied c.args.wanted)) _ c.args.fields c.in_ok-made.made c.typed.new.sites c.in_ok-label.label c.in_ok-out.out c.in_ok-made.ensures.parts c.in_ok-made.ensures.values c.in_ok-label.ensures.label c.in_ok-label.ensures.scoped c.of_field-asked.ensures c.in_ok-out.ensures.typed

pub fields::one_more-returns-in_err-label-clause-refused : goal.fields::one_more-returns-in_err-label-clause-refused
fields::one_more-returns-in_err-label-clause-refused t c =
    refused-exit c.from_residual.result c.in_err-label.field-0.0 c.from_residual.ensures.1 (λ r h w s st. bad_name (h w s st)) c.in_err-label.ensures.refused

pub fields::one_more-returns-in_err-out-clause-refused : goal.fields::one_more-returns-in_err-out-clause-refused
fields::one_more-returns-in_err-out-clause-refused t c =
    refused-exit c.from_residual-in_err-out.result c.in_err-out.field-0.0 c.from_residual-in_err-out.ensures.1 (λ r h. value-tells c.args.around.now c.args.sites.now c.args.written.now (mode_of (option_copied c.args.wanted)) _ c.in_ok-label.label r c.in_ok-label.ensures.label c.in_ok-label.ensures.scoped c.of_field-asked.ensures h) c.in_err-out.ensures.refused

pub walk::walk_further-returns-in-Record-clause-typed : goal.walk::walk_further-returns-in-Record-clause-typed
walk::walk_further-returns-in-Record-clause-typed t c =
    arm c.args.around.now c.args.sites.now c.record.new.sites c.args.e.now.form (e.Record c.as_slice-in-Record.result.now) (mode_of (option_copied c.args.wanted)) c.record.result (c.in-Record.is ∙ ap e.Record (sym c.as_slice-in-Record.ensures)) c.record.ensures.typed

pub walk::walk_further-returns-in-Record-clause-refused : goal.walk::walk_further-returns-in-Record-clause-refused
walk::walk_further-returns-in-Record-clause-refused t c =
    arm-tells c.args.around.now c.args.sites.now c.args.e.now.form (e.Record c.as_slice-in-Record.result.now) (mode_of (option_copied c.args.wanted)) c.record.result (c.in-Record.is ∙ ap e.Record (sym c.as_slice-in-Record.ensures)) c.record.ensures.refused

-- ---- applications

pub walk::walk-returns-in-App-clause-typed : goal.walk::walk-returns-in-App-clause-typed
walk::walk-returns-in-App-clause-typed t c =
    arm-any c.args.around.now c.args.sites.now c.application.new.sites c.args.e.now.form (e.App c.get.result.now c.get-in-App.result.now) (mode_of (option_copied c.args.wanted)) c.application.result (c.in-App.is ∙ ap₂ e.App (sym c.get.ensures) (sym c.get-in-App.ensures)) c.application.ensures.typed

pub walk::walk-returns-in-App-clause-refused : goal.walk::walk-returns-in-App-clause-refused
walk::walk-returns-in-App-clause-refused t c =
    arm-tells-any c.args.around.now c.args.sites.now c.args.e.now.form (e.App c.get.result.now c.get-in-App.result.now) (mode_of (option_copied c.args.wanted)) c.application.result (c.in-App.is ∙ ap₂ e.App (sym c.get.ensures) (sym c.get-in-App.ensures)) c.application.ensures.refused

pub applied::application-returns-clause-typed : goal.applied::application-returns-clause-typed
applied::application-returns-clause-typed t c =
    ok-along c.at_head.result (λ o h. applying.whole-gives c.args.around.now c.args.sites.now c.at_head.new.sites c.args.f.now c.args.a.now o (applying.one-there c.push.new.self c.new-args.result c.args.a c.in_ok-push.ensures.ok c.new-args.ensures) c.in_ok-head.ensures.applied (h c.in_ok-head.ensures.head)) c.at_head.ensures.typed

pub applied::application-returns-clause-refused : goal.applied::application-returns-clause-refused
applied::application-returns-clause-refused t c =
    refused-along c.at_head.result (λ r h. applying.whole-tells c.args.around.now c.args.sites.now c.args.f.now c.args.a.now r (applying.one-there c.push.new.self c.new-args.result c.args.a c.in_ok-push.ensures.ok c.new-args.ensures) c.in_ok-head.ensures.applied (h c.in_ok-head.ensures.head)) c.at_head.ensures.refused

pub applied::at_head-returns-in-Function-clause-typed : goal.applied::at_head-returns-in-Function-clause-typed
applied::at_head-returns-in-Function-clause-typed t c =
    ok-along c.named.result (λ o h na. applying.spine-gives c.args.around.now c.args.sites.now c.named.new.sites c.args.e.now.form (forms_in c.args.args) o na (λ w s st. h w s c.args.e.now.form st (applying.callee-function w s c.args.e.now.form c.in_ok-callee.callee c.in-Function.function c.in-Function.is (c.in_ok-callee.ensures.callee w s st)))) c.named.ensures.typed

pub applied::at_head-returns-in-Function-clause-refused : goal.applied::at_head-returns-in-Function-clause-refused
applied::at_head-returns-in-Function-clause-refused t c =
    refused-along c.named.result (λ r h na w s st. applying.spine-tells na (h w s c.args.e.now.form st (applying.callee-function w s c.args.e.now.form c.in_ok-callee.callee c.in-Function.function c.in-Function.is (c.in_ok-callee.ensures.callee w s st)))) c.named.ensures.refused

pub applied::at_head-named-requires : goal.applied::at_head-named-requires
applied::at_head-named-requires t c =
    (applying.named-below c.args.around.now.levels t c.decreases, (c.requires, (applying.callee-function c.requires.0 c.requires.1 c.args.e.now.form c.in_ok-callee.callee c.in-Function.function c.in-Function.is (c.in_ok-callee.ensures.callee c.requires.0 c.requires.1 c.requires.2)).ordered))

pub applied::at_head-returns-in-Tag-clause-typed : goal.applied::at_head-returns-in-Tag-clause-typed
applied::at_head-returns-in-Tag-clause-typed t c =
    ok-along c.build.result (λ o h na. applying.spine-gives c.args.around.now c.args.sites.now c.build.new.sites c.args.e.now.form (forms_in c.args.args) o na (λ w s st. h w s c.args.e.now.form st (applying.callee-tag w s c.args.e.now.form c.in_ok-callee.callee c.in-Tag.number c.in-Tag.is (c.in_ok-callee.ensures.callee w s st)).0 (applying.callee-tag w s c.args.e.now.form c.in_ok-callee.callee c.in-Tag.number c.in-Tag.is (c.in_ok-callee.ensures.callee w s st)).1)) c.build.ensures.typed

pub applied::at_head-returns-in-Tag-clause-refused : goal.applied::at_head-returns-in-Tag-clause-refused
applied::at_head-returns-in-Tag-clause-refused t c =
    refused-along c.build.result (λ r h na w s st. applying.spine-tells na (h w s c.args.e.now.form st (applying.callee-tag w s c.args.e.now.form c.in_ok-callee.callee c.in-Tag.number c.in-Tag.is (c.in_ok-callee.ensures.callee w s st)).0 (applying.callee-tag w s c.args.e.now.form c.in_ok-callee.callee c.in-Tag.number c.in-Tag.is (c.in_ok-callee.ensures.callee w s st)).1)) c.build.ensures.refused

pub applied::at_head-returns-in-Other-clause-typed : goal.applied::at_head-returns-in-Other-clause-typed
applied::at_head-returns-in-Other-clause-typed t c =
    ok-along c.other.result (λ o h na. applying.spine-gives c.args.around.now c.args.sites.now c.other.new.sites c.args.e.now.form (forms_in c.args.args) o na (λ w s st. h w s st (applying.callee-other w s c.args.e.now.form c.in_ok-callee.callee c.in-Other.is (c.in_ok-callee.ensures.callee w s st)).0 (applying.other-tag w c.args.e.now.form (applying.callee-other w s c.args.e.now.form c.in_ok-callee.callee c.in-Other.is (c.in_ok-callee.ensures.callee w s st)).1) (applying.other-head c.args.e.now.form na (applying.callee-other w s c.args.e.now.form c.in_ok-callee.callee c.in-Other.is (c.in_ok-callee.ensures.callee w s st)).1))) c.other.ensures.typed

pub applied::at_head-returns-in-Other-clause-refused : goal.applied::at_head-returns-in-Other-clause-refused
applied::at_head-returns-in-Other-clause-refused t c =
    refused-along c.other.result (λ r h na w s st. applying.spine-tells na (h w s st (applying.callee-other w s c.args.e.now.form c.in_ok-callee.callee c.in-Other.is (c.in_ok-callee.ensures.callee w s st)).0 (applying.other-tag w c.args.e.now.form (applying.callee-other w s c.args.e.now.form c.in_ok-callee.callee c.in-Other.is (c.in_ok-callee.ensures.callee w s st)).1))) c.other.ensures.refused

pub applied::at_head-returns-in_err-callee-clause-refused : goal.applied::at_head-returns-in_err-callee-clause-refused
applied::at_head-returns-in_err-callee-clause-refused t c =
    refused-exit c.from_residual.result c.in_err-callee.field-0.0 c.from_residual.ensures.1 (λ r h na w s st. applying.callee-tells na (h w s st)) c.in_err-callee.ensures.refused

pub applied::arguments-loop-e-init : goal.applied::arguments-loop-e-init
applied::arguments-loop-e-init t c =
    applying.all-first c.args.around.now (forms_in c.args.args) c.args.types.now c.args.sites.now c.new-done.result c.new-done.ensures

pub applied::arguments-loop-e-preserved : goal.applied::arguments-loop-e-preserved
applied::arguments-loop-e-preserved t c =
    applying.all-step c.args.around.now (forms_in c.args.args) c.args.types.now c.args.sites.now c.in-Some.e.now.form (forms_in c.pop.new.self) (forms_in c.loop-e.left) c.in-Some-split_first.of.now c.in-Some-split_first.behind.now c.loop-e.wanted.now c.loop-e.sites c.typed.new.sites c.loop-e.done c.in_ok-done-in-Some-split_first.done c.in_ok-out-in-Some-split_first.out (applying.more-forms c.loop-e.left c.pop.new.self c.in-Some.e c.in-Some.ensures) c.in-Some-split_first.ensures.cases.0 c.in_ok-out-in-Some-split_first.ensures.typed c.in_ok-done-in-Some-split_first.ensures c.loop-e.invariant

pub applied::arguments-returns-in_err-out-in-Some-split_first-clause-refused : goal.applied::arguments-returns-in_err-out-in-Some-split_first-clause-refused
applied::arguments-returns-in_err-out-in-Some-split_first-clause-refused t c =
    refused-exit c.from_residual.result c.in_err-out-in-Some-split_first.field-0.0 c.from_residual.ensures.1 (λ r h. applying.arg-tells c.args.around.now (forms_in c.args.args) c.args.types.now c.args.sites.now c.in-Some.e.now.form (forms_in c.pop.new.self) (forms_in c.loop-e.left) c.in-Some-split_first.of.now c.in-Some-split_first.behind.now c.loop-e.wanted.now c.loop-e.sites c.loop-e.done r (applying.more-forms c.loop-e.left c.pop.new.self c.in-Some.e c.in-Some.ensures) c.in-Some-split_first.ensures.cases.0 c.loop-e.invariant h) c.in_err-out-in-Some-split_first.ensures.refused

pub applied::arguments-returns-in-None-clause-refused : goal.applied::arguments-returns-in-None-clause-refused
applied::arguments-returns-in-None-clause-refused t c =
    applying.many-told c.args.around.now (forms_in c.args.args) c.args.types.now c.args.sites.now c.in-Some.e.now.form (forms_in c.pop.new.self) (forms_in c.loop-e.left) c.loop-e.wanted.now c.loop-e.sites c.loop-e.done c.extra_argument.result (applying.more-forms c.loop-e.left c.pop.new.self c.in-Some.e c.in-Some.ensures) (nil_from_length c.loop-e.wanted.now c.in-None.ensures.cases) c.loop-e.invariant c.extra_argument.ensures

pub applied::arguments-returns-in-None-split_first-clause-typed : goal.applied::arguments-returns-in-None-split_first-clause-typed
applied::arguments-returns-in-None-split_first-clause-typed t c =
    applying.args-given c.args.around.now (forms_in c.args.args) c.args.types.now c.args.sites.now (forms_in c.loop-e.left) c.loop-e.wanted.now c.loop-e.sites c.loop-e.done (applying.no-forms c.loop-e.left c.in_default.ensures.0) (nil_from_length c.loop-e.wanted.now c.in-None-split_first.ensures.cases) c.loop-e.invariant

pub applied::arguments-returns-in-Some-split_first-2-clause-refused : goal.applied::arguments-returns-in-Some-split_first-2-clause-refused
applied::arguments-returns-in-Some-split_first-2-clause-refused t c =
    applying.few-told c.args.around.now (forms_in c.args.args) c.args.types.now c.args.sites.now (forms_in c.loop-e.left) _ _ c.loop-e.wanted.now c.loop-e.sites c.loop-e.done c.missing_argument.result (applying.no-forms c.loop-e.left c.in_default.ensures.0) c.in-Some-split_first-2.ensures.cases.0 c.loop-e.invariant c.missing_argument.ensures

pub applied::named-returns-in-Some-clause-typed : goal.applied::named-returns-in-Some-clause-typed
applied::named-returns-in-Some-clause-typed t c =
    ok-along c.call.result (λ o h w s x st is. h w s x st is (head-there c.args.around.now c.args.function.number c.in-Some.found.now (sym c.get.ensures.value ∙ ap option_copied c.in-Some.is) w s st)) c.call.ensures.typed

pub applied::named-returns-in-Some-clause-refused : goal.applied::named-returns-in-Some-clause-refused
applied::named-returns-in-Some-clause-refused t c =
    refused-along c.call.result (λ r h w s x st is. h w s x st is (head-there c.args.around.now c.args.function.number c.in-Some.found.now (sym c.get.ensures.value ∙ ap option_copied c.in-Some.is) w s st)) c.call.ensures.refused

pub applied::call-returns-clause-typed : goal.applied::call-returns-clause-typed
applied::call-returns-clause-typed t c =
    λ w s x st is eh. applying.call-gives w s (sites_in c.args.sites.now) x (forms_in c.args.args) (c.args.function.number, c.args.function.args) (head_in c.args.head.now) c.in_ok-done.done (sites_in c.arguments.new.sites) c.in_ok-made.made is.at eh (c.in_ok-types.ensures.met w s st) (subst (λ z. GivesArgs c.args.around.now c.args.sites.now (forms_in c.args.args) z c.in_ok-done.done c.arguments.new.sites) (c.as_slice.ensures ∙ c.in_ok-types.ensures.types) c.in_ok-done.ensures.typed w s st) c.in_ok-made.ensures.fixed (c.in_ok-made.ensures.of ∙ c.in_ok-types.ensures.of) (c.in_ok-made.ensures.exp ∙ ap (λ z. make.apply (exp.Function c.args.function.number z) (args_with c.in_ok-done.done).0 (args_with c.in_ok-done.done).1) c.cons_of-cons.ensures)

pub applied::call-returns-in_err-types-clause-refused : goal.applied::call-returns-in_err-types-clause-refused
applied::call-returns-in_err-types-clause-refused t c =
    refused-exit c.from_residual.result c.in_err-types.field-0.0 c.from_residual.ensures.1 (λ r h w s x st is eh. applying.head-tells (h w s x st is eh)) c.in_err-types.ensures.refused

pub applied::call-returns-in_err-done-clause-refused : goal.applied::call-returns-in_err-done-clause-refused
applied::call-returns-in_err-done-clause-refused t c =
    refused-exit c.from_residual-in_err-done.result c.in_err-done.field-0.0 c.from_residual-in_err-done.ensures.1 (λ r h w s x st is eh. applying.named-tells (c.args.function.number, c.args.function.args) (head_in c.args.head.now) is.at eh (subst (λ z. TellsArgs c.args.around.now c.args.sites.now (forms_in c.args.args) z r) (c.as_slice.ensures ∙ c.in_ok-types.ensures.types) h w s st)) c.in_err-done.ensures.refused

pub applied::call-returns-in_err-made-clause-refused : goal.applied::call-returns-in_err-made-clause-refused
applied::call-returns-in_err-made-clause-refused t c =
    refused-exit c.from_residual-in_err-made.result c.in_err-made.field-0.0 c.from_residual-in_err-made.ensures.1 (λ r h w s x st is eh. applying.static-tells (c.args.function.number, c.args.function.args) (head_in c.args.head.now) c.in_ok-done.done is.at eh (subst (λ z. GivesArgs c.args.around.now c.args.sites.now (forms_in c.args.args) z c.in_ok-done.done c.arguments.new.sites) (c.as_slice.ensures ∙ c.in_ok-types.ensures.types) c.in_ok-done.ensures.typed w s st) h) c.in_err-made.ensures.refused

pub applied::named-call-requires : goal.applied::named-call-requires
applied::named-call-requires t c =
    (lower c.args.around.now.levels 6 7 t (omega arith) c.decreases, (c.requires.stands, c.requires.ordered))

pub applied::call-arguments-requires : goal.applied::call-arguments-requires
applied::call-arguments-requires t c =
    (lower c.args.around.now.levels 5 6 t (omega arith) c.decreases, c.requires.stands)

pub applied::call-call_types-requires : goal.applied::call-call_types-requires
applied::call-call_types-requires t c =
    c.requires.ordered

pub applied::build-returns-in-Some-clause-typed : goal.applied::build-returns-in-Some-clause-typed
applied::build-returns-in-Some-clause-typed t c =
    ok-along c.built.result (λ o h w s x st ef en. h w s x st ef en (applying.variant-at c.args.around.now c.args.number c.in-Some.variant.now (sym c.get.ensures.value ∙ ap option_copied c.in-Some.is) w s st)) c.built.ensures.typed

pub applied::build-returns-in-Some-clause-refused : goal.applied::build-returns-in-Some-clause-refused
applied::build-returns-in-Some-clause-refused t c =
    refused-along c.built.result (λ r h w s x st ef en. h w s x st ef en (applying.variant-at c.args.around.now c.args.number c.in-Some.variant.now (sym c.get.ensures.value ∙ ap option_copied c.in-Some.is) w s st)) c.built.ensures.refused

pub applied::built-returns-in_ok-made-in-Some-clause-typed : goal.applied::built-returns-in_ok-made-in-Some-clause-typed
applied::built-returns-in_ok-made-in-Some-clause-typed t c =
    λ w s x st ef en ev. subst (λ z. CallGives w s c.args.sites.now x z c.in_ok-made-in-Some.made c.typed.new.sites) (sym c.in_ok-e-in-Some.ensures.sole) (applying.build-gives w s (sites_in c.args.sites.now) x c.in_ok-e-in-Some.e.now.form c.args.number c.args.variant.now.datatype c.in-Some.of (out_in c.in_ok-out-in-Some.out c.typed.new.sites) c.in_ok-made-in-Some.made ef en (ev ∙ ap (λ z. Some (c.args.variant.now.datatype, z)) c.in-Some.is) (c.in_ok-out-in-Some.ensures.typed w s st) c.in_ok-made-in-Some.ensures.of c.in_ok-made-in-Some.ensures.exp)

pub applied::built-returns-in_err-e-in-Some-clause-refused : goal.applied::built-returns-in_err-e-in-Some-clause-refused
applied::built-returns-in_err-e-in-Some-clause-refused t c =
    refused-exit c.from_residual.result c.in_err-e-in-Some.field-0.0 c.from_residual.ensures.1 (λ r h w s x st ef en ev. applying.sole-tells c.args.number ef en h) c.in_err-e-in-Some.ensures.refused

pub applied::built-returns-in_err-out-in-Some-clause-refused : goal.applied::built-returns-in_err-out-in-Some-clause-refused
applied::built-returns-in_err-out-in-Some-clause-refused t c =
    refused-exit c.from_residual-in_err-out-in-Some.result c.in_err-out-in-Some.field-0.0 c.from_residual-in_err-out-in-Some.ensures.1 (λ r h w s x st ef en ev. subst (λ z. CallTells c.args.around.now.world.now.datatype_names w s c.args.sites.now x z r) (sym c.in_ok-e-in-Some.ensures.sole) (in_call (of_built ef en (ev ∙ ap (λ z. Some (c.args.variant.now.datatype, z)) c.in-Some.is)) (h w s st))) c.in_err-out-in-Some.ensures.refused

pub applied::built-returns-in-None-clause-refused : goal.applied::built-returns-in-None-clause-refused
applied::built-returns-in-None-clause-refused t c =
    applying.none-told c.args.around.now c.args.sites.now c.args.number c.args.variant.now.datatype (forms_in c.args.args) c.args.variant.now.arg c.extra_argument.result c.in-None.is c.extra_argument.ensures

pub applied::other-returns-clause-typed : goal.applied::other-returns-clause-typed
applied::other-returns-clause-typed t c =
    λ w s st ef en eh. applying.value-gives w s (sites_in c.args.sites.now) c.args.e.now.form (forms_in c.args.args) (out_in c.in_ok-function.function c.typed.new.sites) c.in_ok-done.done (sites_in c.arguments.new.sites) c.in_ok-made.made ef en eh (c.in_ok-function.ensures.typed w s st) (subst (λ z. GivesArgs c.args.around.now c.typed.new.sites (forms_in c.args.args) z c.in_ok-done.done c.arguments.new.sites) (c.as_slice.ensures ∙ c.in_ok-types.ensures) c.in_ok-done.ensures.typed w s st) c.in_ok-made.ensures.of c.in_ok-made.ensures.exp

pub applied::other-returns-in_err-function-clause-refused : goal.applied::other-returns-in_err-function-clause-refused
applied::other-returns-in_err-function-clause-refused t c =
    refused-exit c.from_residual.result c.in_err-function.field-0.0 c.from_residual.ensures.1 (λ r h w s st ef en. in_call (of_head ef en) (h w s st)) c.in_err-function.ensures.refused

pub applied::other-returns-in_err-done-clause-refused : goal.applied::other-returns-in_err-done-clause-refused
applied::other-returns-in_err-done-clause-refused t c =
    refused-exit c.from_residual-in_err-done.result c.in_err-done.field-0.0 c.from_residual-in_err-done.ensures.1 (λ r h w s st ef en. applying.value-tells (out_in c.in_ok-function.function c.typed.new.sites) ef en (c.in_ok-function.ensures.typed w s st) (subst (λ z. TellsArgs c.args.around.now c.typed.new.sites (forms_in c.args.args) z r) (c.as_slice.ensures ∙ c.in_ok-types.ensures) h w s st)) c.in_err-done.ensures.refused

pub walk::walk-returns-in-Bind-clause-typed : goal.walk::walk-returns-in-Bind-clause-typed
walk::walk-returns-in-Bind-clause-typed t c =
    arm c.args.around.now c.args.sites.now c.binding.new.sites c.args.e.now.form (e.Bind c.in-Bind.x c.get-in-Bind.result.now c.get-in-Bind-2.result.now) (mode_of (option_copied c.args.wanted)) c.binding.result (c.in-Bind.is ∙ ap₂ (λ x y. e.Bind c.in-Bind.x x y) (sym c.get-in-Bind.ensures) (sym c.get-in-Bind-2.ensures)) c.binding.ensures.typed

pub walk::walk-returns-in-Bind-clause-refused : goal.walk::walk-returns-in-Bind-clause-refused
walk::walk-returns-in-Bind-clause-refused t c =
    arm-tells c.args.around.now c.args.sites.now c.args.e.now.form (e.Bind c.in-Bind.x c.get-in-Bind.result.now c.get-in-Bind-2.result.now) (mode_of (option_copied c.args.wanted)) c.binding.result (c.in-Bind.is ∙ ap₂ (λ x y. e.Bind c.in-Bind.x x y) (sym c.get-in-Bind.ensures) (sym c.get-in-Bind-2.ensures)) c.binding.ensures.refused

pub walk::walk-returns-in-Seq-clause-typed : goal.walk::walk-returns-in-Seq-clause-typed
walk::walk-returns-in-Seq-clause-typed t c =
    arm c.args.around.now c.args.sites.now c.sequence.new.sites c.args.e.now.form (e.Seq c.get-in-Seq.result.now c.get-in-Seq-2.result.now) (mode_of (option_copied c.args.wanted)) c.sequence.result (c.in-Seq.is ∙ ap₂ e.Seq (sym c.get-in-Seq.ensures) (sym c.get-in-Seq-2.ensures)) c.sequence.ensures.typed

pub walk::walk-returns-in-Seq-clause-refused : goal.walk::walk-returns-in-Seq-clause-refused
walk::walk-returns-in-Seq-clause-refused t c =
    arm-tells c.args.around.now c.args.sites.now c.args.e.now.form (e.Seq c.get-in-Seq.result.now c.get-in-Seq-2.result.now) (mode_of (option_copied c.args.wanted)) c.sequence.result (c.in-Seq.is ∙ ap₂ e.Seq (sym c.get-in-Seq.ensures) (sym c.get-in-Seq-2.ensures)) c.sequence.ensures.refused

-- ---- statements

pub bound::binding-returns-in_err-first-clause-refused : goal.bound::binding-returns-in_err-first-clause-refused
bound::binding-returns-in_err-first-clause-refused t c = refused-exit c.from_residual.result c.in_err-first.field-0.0 c.from_residual.ensures.1
    (in-first c.args.around.now c.args.sites.now (mode_of (option_copied c.args.wanted)) c.args.x.now c.args.a.now c.args.b.now) c.in_err-first.ensures.refused

pub bound::binding-returns-in_err-first-clause-alone : goal.bound::binding-returns-in_err-first-clause-alone
bound::binding-returns-in_err-first-clause-alone t c = refused-exit c.from_residual.result c.in_err-first.field-0.0 c.from_residual.ensures.1
    (in-first-alone c.args.around.now c.args.sites.now (mode_of (option_copied c.args.wanted)) c.args.x.now c.args.a.now c.args.b.now) c.in_err-first.ensures.refused

pub bound::binding-returns-in_err-value-clause-refused : goal.bound::binding-returns-in_err-value-clause-refused
bound::binding-returns-in_err-value-clause-refused t c = refused-exit c.from_residual-in_err-value.result c.in_err-value.field-0.0 c.from_residual-in_err-value.ensures.1
    (first-not-run c.args.around.now c.args.sites.now c.typed.new.sites (mode_of (option_copied c.args.wanted)) c.args.x.now c.args.a.now c.args.b.now c.in_ok-first.first c.in_ok-first.ensures.typed) c.in_err-value.ensures.refused

pub bound::binding-returns-in_err-value-clause-alone : goal.bound::binding-returns-in_err-value-clause-alone
bound::binding-returns-in_err-value-clause-alone t c = refused-exit c.from_residual-in_err-value.result c.in_err-value.field-0.0 c.from_residual-in_err-value.ensures.1
    (first-not-run-alone c.args.around.now c.args.sites.now c.typed.new.sites (mode_of (option_copied c.args.wanted)) c.args.x.now c.args.a.now c.args.b.now c.in_ok-first.first c.in_ok-first.ensures.typed) c.in_err-value.ensures.refused

pub bound::binding-returns-in_err-second-clause-refused : goal.bound::binding-returns-in_err-second-clause-refused
bound::binding-returns-in_err-second-clause-refused t c = refused-exit c.from_residual-in_err-second.result c.in_err-second.field-0.0 c.from_residual-in_err-second.ensures.1
    (in-second c.args.around.now c.within-inner.result c.args.sites.now c.typed.new.sites (mode_of (option_copied c.args.wanted)) c.args.x.now c.args.a.now c.args.b.now c.in_ok-first.first c.in_ok-local.local c.from_ref.result.now c.in_ok-value.value
    c.in_ok-local.ensures c.from_ref.ensures.value c.within-inner.ensures c.in_ok-value.ensures.value c.in_ok-first.ensures.typed) c.in_err-second.ensures.refused

pub bound::binding-returns-in_err-second-clause-alone : goal.bound::binding-returns-in_err-second-clause-alone
bound::binding-returns-in_err-second-clause-alone t c = refused-exit c.from_residual-in_err-second.result c.in_err-second.field-0.0 c.from_residual-in_err-second.ensures.1
    (in-second-alone c.args.around.now c.within-inner.result c.args.sites.now c.typed.new.sites (mode_of (option_copied c.args.wanted)) c.args.x.now c.args.a.now c.args.b.now c.in_ok-first.first c.in_ok-local.local c.from_ref.result.now c.in_ok-value.value
    c.in_ok-local.ensures c.from_ref.ensures.value c.within-inner.ensures c.in_ok-value.ensures.value c.in_ok-first.ensures.typed) c.in_err-second.ensures.refused

pub bound::binding-returns-in_err-out-clause-refused : goal.bound::binding-returns-in_err-out-clause-refused
bound::binding-returns-in_err-out-clause-refused t c = refused-exit c.from_residual-in_err-out.result c.in_err-out.field-0.0 c.from_residual-in_err-out.ensures.1
    (last-not-run c.args.around.now c.within-inner.result c.args.sites.now c.typed.new.sites c.typed-2.new.sites (mode_of (option_copied c.args.wanted)) c.args.x.now c.args.a.now c.args.b.now c.in_ok-first.first c.in_ok-second.second c.in_ok-local.local c.from_ref.result.now c.in_ok-value.value
    c.in_ok-local.ensures c.from_ref.ensures.value c.within-inner.ensures c.in_ok-value.ensures.value c.in_ok-first.ensures.typed c.in_ok-second.ensures.typed) c.in_err-out.ensures.refused

pub bound::binding-returns-in_err-out-clause-alone : goal.bound::binding-returns-in_err-out-clause-alone
bound::binding-returns-in_err-out-clause-alone t c = refused-exit c.from_residual-in_err-out.result c.in_err-out.field-0.0 c.from_residual-in_err-out.ensures.1
    (last-not-run-alone c.args.around.now c.within-inner.result c.args.sites.now c.typed.new.sites c.typed-2.new.sites (mode_of (option_copied c.args.wanted)) c.args.x.now c.args.a.now c.args.b.now c.in_ok-first.first c.in_ok-second.second c.in_ok-local.local c.from_ref.result.now c.in_ok-value.value
    c.in_ok-local.ensures c.from_ref.ensures.value c.within-inner.ensures c.in_ok-value.ensures.value c.in_ok-first.ensures.typed c.in_ok-second.ensures.typed) c.in_err-out.ensures.refused

pub bound::binding-returns-clause-typed : goal.bound::binding-returns-clause-typed
bound::binding-returns-clause-typed t c =
    bind-made c.args.around.now c.within-inner.result c.args.sites.now c.typed.new.sites c.typed-2.new.sites (mode_of (option_copied c.args.wanted)) c.args.x.now c.args.a.now c.args.b.now c.in_ok-first.first c.in_ok-second.second c.in_ok-out.out c.in_ok-local.local c.from_ref.result.now c.in_ok-value.value
    c.in_ok-local.ensures c.from_ref.ensures.value c.within-inner.ensures c.in_ok-value.ensures.value c.in_ok-first.ensures.typed c.in_ok-second.ensures.typed c.in_ok-out.ensures.value c.in_ok-out.ensures.of c.in_ok-out.ensures.exp

-- ---- conditionals

-- ---- branches

pub bound::branch-returns-in_err-locals-clause-refused : goal.bound::branch-returns-in_err-locals-clause-refused
bound::branch-returns-in_err-locals-clause-refused t c = refused-exit c.from_residual.result c.in_err-locals.field-0.0 c.from_residual.ensures.1
    (pattern-faulty c.args.around.now c.args.of.now c.args.sites.now (mode_of (option_copied c.args.wanted)) c.args.written.now) c.in_err-locals.ensures.refused

pub bound::branch-returns-in_err-out-clause-refused : goal.bound::branch-returns-in_err-out-clause-refused
bound::branch-returns-in_err-out-clause-refused t c = refused-exit c.from_residual-in_err-out.result c.in_err-out.field-0.0 c.from_residual-in_err-out.ensures.1
    (body-faulty c.args.around.now c.within-inner.result c.args.of.now c.args.sites.now (mode_of (option_copied c.args.wanted)) c.args.written.now c.in_ok-locals.pattern c.in_ok-locals.locals c.as_slice-own.result.now c.in_ok-locals.ensures.pattern c.in_ok-locals.ensures.bound c.as_slice-own.ensures c.within-inner.ensures) c.in_err-out.ensures.refused

pub bound::branch-returns-clause-typed : goal.bound::branch-returns-clause-typed
bound::branch-returns-clause-typed t c =
    branch-made c.args.around.now c.within-inner.result c.args.of.now c.args.sites.now c.typed.new.sites (mode_of (option_copied c.args.wanted)) c.args.written.now c.in_ok-locals.pattern c.in_ok-out.out c.in_ok-locals.locals c.as_slice-own.result.now
    c.in_ok-locals.ensures.pattern c.in_ok-locals.ensures.bound c.in_ok-locals.ensures.distinct c.as_slice-own.ensures c.within-inner.ensures c.in_ok-out.ensures.typed

pub bound::all_branches-loop-i-init : goal.bound::all_branches-loop-i-init
bound::all_branches-loop-i-init t c = subst (λ z. Walked c.args.around.now c.args.of.now c.args.list.now (drop 0 c.args.list.now) c.args.sites.now c.args.sites.now (mode_of (option_copied c.args.wanted)) None z) (sym c.new.ensures)
    (walked-start c.args.around.now c.args.of.now c.args.list.now c.args.sites.now (mode_of (option_copied c.args.wanted)))

pub bound::all_branches-loop-i-preserved : goal.bound::all_branches-loop-i-preserved
bound::all_branches-loop-i-preserved t c =
    walked-next c.args.around.now c.args.of.now c.args.list.now c.loop-i.i c.index-list-i.result c.args.sites.now c.loop-i.sites c.branch-alloc.new.sites (mode_of (option_copied c.args.wanted)) (mode_of (option_copied c.asked_of-asked.result)) c.loop-i.cases.of c.in_ok-cases.cases.of c.loop-i.cases.list c.in_ok-cases.cases.list c.in_ok-pattern.pattern c.in_ok-pattern.out
    c.loop-i-test.true c.index-list-i.is c.asked_of-asked.ensures c.in_ok-pattern.ensures.typed c.in_ok-cases.ensures.of c.in_ok-cases.ensures.list c.loop-i.invariant

pub bound::all_branches-returns-in_err-pattern-clause-refused : goal.bound::all_branches-returns-in_err-pattern-clause-refused
bound::all_branches-returns-in_err-pattern-clause-refused t c = refused-exit c.from_residual.result c.in_err-pattern.field-0.0 c.from_residual.ensures.1
    (walked-broken c.args.around.now c.args.of.now c.args.list.now c.loop-i.i c.index-list-i.result c.args.sites.now c.loop-i.sites (mode_of (option_copied c.args.wanted)) (mode_of (option_copied c.asked_of-asked.result)) c.loop-i.cases.of c.loop-i.cases.list
    c.loop-i-test.true c.index-list-i.is c.asked_of-asked.ensures c.loop-i.invariant) c.in_err-pattern.ensures.refused

pub bound::all_branches-returns-clause-typed : goal.bound::all_branches-returns-clause-typed
bound::all_branches-returns-clause-typed t c =
    walked-end c.args.around.now c.args.of.now c.args.list.now c.loop-i.i c.args.sites.now c.loop-i.sites (mode_of (option_copied c.args.wanted)) c.loop-i.cases.of c.loop-i.cases.list c.loop-i-test.false c.loop-i.invariant

pub bound::branches-returns-in_err-whole-clause-refused : goal.bound::branches-returns-in_err-whole-clause-refused
bound::branches-returns-in_err-whole-clause-refused t c = refused-exit c.from_residual.result c.in_err-whole.field-0.0 c.from_residual.ensures.1
    (in-scrutinee c.args.around.now c.args.sites.now (mode_of (option_copied c.args.wanted)) c.args.a.now c.args.list.now) c.in_err-whole.ensures.refused

pub bound::branches-returns-in_err-cases-clause-refused : goal.bound::branches-returns-in_err-cases-clause-refused
bound::branches-returns-in_err-cases-clause-refused t c = refused-exit c.from_residual-in_err-cases.result c.in_err-cases.field-0.0 c.from_residual-in_err-cases.ensures.1
    (in-branches c.args.around.now c.args.sites.now c.typed.new.sites (mode_of (option_copied c.args.wanted)) c.args.a.now c.args.list.now c.in_ok-whole.whole c.in_ok-whole.ensures.typed) c.in_err-cases.ensures.refused

pub bound::branches-returns-in_err-is_covered-clause-refused : goal.bound::branches-returns-in_err-is_covered-clause-refused
bound::branches-returns-in_err-is_covered-clause-refused t c = refused-exit c.from_residual-in_err-is_covered.result c.in_err-is_covered.field-0.0 c.from_residual-in_err-is_covered.ensures.1
    (not-covered c.args.around.now c.args.sites.now c.typed.new.sites c.all_branches.new.sites (mode_of (option_copied c.args.wanted)) c.args.a.now c.args.list.now c.in_ok-whole.whole c.in_ok-cases.cases.of c.in_ok-cases.cases.list c.in_ok-whole.ensures.typed c.in_ok-cases.ensures.typed) c.in_err-is_covered.ensures.refused

pub bound::branches-returns-clause-typed : goal.bound::branches-returns-clause-typed
bound::branches-returns-clause-typed t c =
    case-made c.args.around.now c.args.sites.now c.typed.new.sites c.all_branches.new.sites (mode_of (option_copied c.args.wanted)) c.args.a.now c.args.list.now c.in_ok-whole.whole c.in_ok-out.out c.in_ok-cases.cases.of c.in_ok-cases.cases.list
    c.in_ok-whole.ensures.typed c.in_ok-cases.ensures.typed c.in_ok-is_covered.ensures.ok c.in_ok-out.ensures.of c.in_ok-out.ensures.exp

-- ---- `val`s

pub bound::val_in-returns-in_err-of-clause-refused : goal.bound::val_in-returns-in_err-of-clause-refused
bound::val_in-returns-in_err-of-clause-refused t c = refused-exit c.from_residual.result c.in_err-of.field-0.0 c.from_residual.ensures.1
    (type-faulty c.args.around.now c.args.sites.now (mode_of (option_copied c.args.wanted)) c.args.val.now c.args.rest.now c.args.body.now) c.in_err-of.ensures.refused

pub bound::val_in-returns-in_err-value-clause-refused : goal.bound::val_in-returns-in_err-value-clause-refused
bound::val_in-returns-in_err-value-clause-refused t c = refused-exit c.from_residual-in_err-value.result c.in_err-value.field-0.0 c.from_residual-in_err-value.ensures.1
    (value-faulty c.args.around.now c.args.sites.now (mode_of (option_copied c.args.wanted)) c.args.val.now c.args.rest.now c.args.body.now c.in_ok-of.of c.in_ok-of.ensures.typed) c.in_err-value.ensures.refused

pub bound::val_in-returns-in_err-out-clause-refused : goal.bound::val_in-returns-in_err-out-clause-refused
bound::val_in-returns-in_err-out-clause-refused t c = refused-exit c.from_residual-in_err-out.result c.in_err-out.field-0.0 c.from_residual-in_err-out.ensures.1
    (behind-faulty c.args.around.now c.within-inner.result c.args.sites.now c.typed.new.sites (mode_of (option_copied c.args.wanted)) c.args.val.now c.args.rest.now c.args.body.now c.in_ok-of.of c.in_ok-local.local c.from_ref.result.now c.in_ok-value.value
    (record { written = c.in_ok-of.ensures.typed; local = c.in_ok-local.ensures; own_is = c.from_ref.ensures.value; inner = c.within-inner.ensures }) c.in_ok-value.ensures.typed) c.in_err-out.ensures.refused

pub bound::val_in-returns-clause-typed : goal.bound::val_in-returns-clause-typed
bound::val_in-returns-clause-typed t c =
    val-made c.args.around.now c.within-inner.result c.args.sites.now c.typed.new.sites c.further.new.sites (mode_of (option_copied c.args.wanted)) c.args.val.now c.args.rest.now c.args.body.now c.in_ok-of.of c.in_ok-local.local c.from_ref.result.now c.in_ok-value.value c.in_ok-out.out
    (record { of = c.in_ok-out.out.of; exp = c.in_ok-exp.exp })
    (record { written = c.in_ok-of.ensures.typed; local = c.in_ok-local.ensures; own_is = c.from_ref.ensures.value; inner = c.within-inner.ensures }) c.in_ok-of.ensures.value c.in_ok-value.ensures.typed c.in_ok-out.ensures.typed refl c.in_ok-exp.ensures

pub bound::further-returns-in_err-out-in-Some-clause-refused : goal.bound::further-returns-in_err-out-in-Some-clause-refused
bound::further-returns-in_err-out-in-Some-clause-refused t c = refused-exit c.from_residual-in_err-out-in-Some.result c.in_err-out-in-Some.field-0.0 c.from_residual-in_err-out-in-Some.ensures.1
    (further-faulty c.args.around.now c.in_ok-inner-in-Some.inner c.args.sites.now (mode_of (option_copied c.args.wanted)) c.args.vals.now c.in-Some.val.now c.in-Some.rest.now c.args.body.now c.in_ok-inner-in-Some.ensures.0 c.in_ok-inner-in-Some.ensures.1 c.in-Some.ensures.cases.0) c.in_err-out-in-Some.ensures.refused

pub bound::further-returns-in_err-made-in-Some-clause-refused : goal.bound::further-returns-in_err-made-in-Some-clause-refused
bound::further-returns-in_err-made-in-Some-clause-refused t c = refused-exit c.from_residual-in_err-made-in-Some.result c.in_err-made-in-Some.field-0.0 c.from_residual-in_err-made-in-Some.ensures.1
    (let-faulty c.args.around.now c.in_ok-inner-in-Some.inner c.args.sites.now c.val_in.new.sites (mode_of (option_copied c.args.wanted)) c.args.vals.now c.in-Some.val.now c.in-Some.rest.now c.args.body.now c.in_ok-out-in-Some.out c.in_ok-inner-in-Some.ensures.0 c.in_ok-inner-in-Some.ensures.1 c.in-Some.ensures.cases.0 c.in_ok-out-in-Some.ensures.typed)
    c.in_err-made-in-Some.ensures.refused

pub bound::further-returns-in_ok-made-in-Some-clause-typed : goal.bound::further-returns-in_ok-made-in-Some-clause-typed
bound::further-returns-in_ok-made-in-Some-clause-typed t c =
    further-made c.args.around.now c.in_ok-inner-in-Some.inner c.args.sites.now c.val_in.new.sites (mode_of (option_copied c.args.wanted)) c.args.vals.now c.in-Some.val.now c.in-Some.rest.now c.args.body.now c.in_ok-out-in-Some.out c.in_ok-made-in-Some.made
    c.in_ok-inner-in-Some.ensures.0 c.in_ok-inner-in-Some.ensures.1 c.in-Some.ensures.cases.0 c.in_ok-out-in-Some.ensures.typed c.in_ok-made-in-Some.ensures.settled

-- ---- lambdas

pub bound::lambda-returns-in_err-locals-clause-refused : goal.bound::lambda-returns-in_err-locals-clause-refused
bound::lambda-returns-in_err-locals-clause-refused t c = refused-exit c.from_residual.result c.in_err-locals.field-0.0 c.from_residual.ensures.1
    (form-broken c.args.around.now c.args.sites.now (mode_of (option_copied c.args.wanted)) c.args.params.now c.args.body.now) c.in_err-locals.ensures.refused

pub bound::lambda-returns-in_err-are_once-clause-refused : goal.bound::lambda-returns-in_err-are_once-clause-refused
bound::lambda-returns-in_err-are_once-clause-refused t c = refused-exit c.from_residual-in_err-are_once.result c.in_err-are_once.field-0.0 c.from_residual-in_err-are_once.ensures.1
    (name-broken c.args.around.now c.args.sites.now (mode_of (option_copied c.args.wanted)) c.args.params.now c.args.body.now c.in_ok-locals.locals c.as_slice-own.result.now c.in_ok-locals.ensures.params c.as_slice-own.ensures) c.in_err-are_once.ensures.refused

pub bound::lambda-returns-in_err-are_params-clause-refused : goal.bound::lambda-returns-in_err-are_params-clause-refused
bound::lambda-returns-in_err-are_params-clause-refused t c = refused-exit c.from_residual-in_err-are_params.result c.in_err-are_params.field-0.0 c.from_residual-in_err-are_params.ensures.1
    (param-broken c.args.around.now c.args.sites.now (mode_of (option_copied c.args.wanted)) c.args.params.now c.args.body.now c.in_ok-locals.locals c.as_slice-own.result.now c.in_ok-locals.ensures.params c.as_slice-own.ensures) c.in_err-are_params.ensures.refused

pub bound::lambda-returns-in_err-out-clause-refused : goal.bound::lambda-returns-in_err-out-clause-refused
bound::lambda-returns-in_err-out-clause-refused t c = refused-exit c.from_residual-in_err-out.result c.in_err-out.field-0.0 c.from_residual-in_err-out.ensures.1
    (in-body c.args.around.now c.within_lambda-inner.result c.args.sites.now (mode_of (option_copied c.args.wanted)) c.args.params.now c.args.body.now c.in_ok-locals.locals c.as_slice-own.result.now (mode_of (option_copied c.of_result-asked.result))
    c.in_ok-locals.ensures.params c.as_slice-own.ensures c.within_lambda-inner.ensures c.of_result-asked.ensures) c.in_err-out.ensures.refused

pub bound::lambda-returns-in_err-made-clause-refused : goal.bound::lambda-returns-in_err-made-clause-refused
bound::lambda-returns-in_err-made-clause-refused t c = refused-exit c.from_residual-in_err-made.result c.in_err-made.field-0.0 c.from_residual-in_err-made.ensures.1
    (curried-told c.args.around.now c.within_lambda-inner.result c.args.sites.now c.typed.new.sites (mode_of (option_copied c.args.wanted)) c.args.params.now c.args.body.now c.in_ok-locals.locals c.as_slice-own.result.now (mode_of (option_copied c.of_result-asked.result)) c.in_ok-out.out
    c.in_ok-locals.ensures.params c.as_slice-own.ensures c.within_lambda-inner.ensures c.of_result-asked.ensures c.in_ok-out.ensures.typed) c.in_err-made.ensures.refused

pub bound::lambda-returns-clause-typed : goal.bound::lambda-returns-clause-typed
bound::lambda-returns-clause-typed t c =
    lambda-made c.args.around.now c.within_lambda-inner.result c.args.sites.now c.typed.new.sites (mode_of (option_copied c.args.wanted)) c.args.params.now c.args.body.now c.in_ok-locals.locals c.as_slice-own.result.now (mode_of (option_copied c.of_result-asked.result)) c.in_ok-out.out c.in_ok-made.made
    c.in_ok-locals.ensures.params c.in_ok-are_once.ensures.ok c.in_ok-are_params.ensures.ok c.as_slice-own.ensures c.within_lambda-inner.ensures c.of_result-asked.ensures c.in_ok-out.ensures.typed c.in_ok-made.ensures.arrow c.in_ok-made.ensures.of c.in_ok-made.ensures.exp

-- ---- the recursion ends

pub chain::chosen-typed-requires : goal.chain::chosen-typed-requires
chain::chosen-typed-requires t c = (
  falls-deeper 4 1 c.args.around.now.levels c.in_ok-inner.inner.levels t c.in_ok-inner.ensures.2 (omega arith) c.decreases,
  somewhere-there c.args.around.now c.in_ok-inner.inner c.in_ok-inner.ensures.0 c.in_ok-inner.ensures.1 c.requires,
)

pub chain::chosen-typed-requires-2 : goal.chain::chosen-typed-requires-2
chain::chosen-typed-requires-2 t c = (
  falls-deeper 4 1 c.args.around.now.levels c.in_ok-inner.inner.levels t c.in_ok-inner.ensures.2 (omega arith) c.decreases,
  somewhere-there c.args.around.now c.in_ok-inner.inner c.in_ok-inner.ensures.0 c.in_ok-inner.ensures.1 c.requires,
)

pub bound::binding-typed-requires-2 : goal.bound::binding-typed-requires-2
bound::binding-typed-requires-2 t c = (
  falls 4 5 c.args.around.now.levels c.within-inner.result.levels t c.within-inner.ensures.levels (omega arith) c.decreases,
  somewhere-bound c.args.around.now c.within-inner.result c.args.x.now c.in_ok-value.value c.in_ok-local.local c.from_ref.result.now c.in_ok-local.ensures c.from_ref.ensures.value c.within-inner.ensures c.requires,
)

pub bound::branch-typed-requires : goal.bound::branch-typed-requires
bound::branch-typed-requires t c = (
  falls 4 5 c.args.around.now.levels c.within-inner.result.levels t c.within-inner.ensures.levels (omega arith) c.decreases,
  somewhere-branch c.args.around.now c.within-inner.result c.args.written.now.pat.form c.in_ok-locals.pattern c.in_ok-locals.locals c.as_slice-own.result.now c.in_ok-locals.ensures.pattern c.as_slice-own.ensures c.within-inner.ensures c.requires,
)

pub bound::val_in-further-requires : goal.bound::val_in-further-requires
bound::val_in-further-requires t c = (
  falls 5 6 c.args.around.now.levels c.within-inner.result.levels t c.within-inner.ensures.levels (omega arith) c.decreases,
  somewhere-val c.args.around.now c.within-inner.result c.args.val.now c.in_ok-of.of c.in_ok-local.local c.from_ref.result.now c.in_ok-local.ensures c.from_ref.ensures.value c.within-inner.ensures c.requires,
)

pub bound::further-val_in-requires : goal.bound::further-val_in-requires
bound::further-val_in-requires t c = (
  falls-deeper 6 5 c.args.around.now.levels c.in_ok-inner-in-Some.inner.levels t c.in_ok-inner-in-Some.ensures.2 (omega arith) c.decreases,
  somewhere-there c.args.around.now c.in_ok-inner-in-Some.inner c.in_ok-inner-in-Some.ensures.0 c.in_ok-inner-in-Some.ensures.1 c.requires,
)

pub bound::lambda-typed-requires : goal.bound::lambda-typed-requires
bound::lambda-typed-requires t c = (
  falls 4 5 c.args.around.now.levels c.within_lambda-inner.result.levels t c.within_lambda-inner.ensures.levels (omega arith) c.decreases,
  somewhere-lambda c.args.around.now c.within_lambda-inner.result c.as_slice-own.result.now c.within_lambda-inner.ensures c.requires,
)

-- ---- arms that hand on

pub bound::let_in-returns-in-Some-clause-typed : goal.bound::let_in-returns-in-Some-clause-typed
bound::let_in-returns-in-Some-clause-typed t c =
    ok-along c.val_in.result (λ o g. let-made c.args.around.now c.args.sites.now c.val_in.new.sites (mode_of (option_copied c.args.wanted)) c.args.vals.now c.in-Some.val.now c.in-Some.rest.now c.args.body.now o c.in-Some.ensures.cases.0 g) c.val_in.ensures.typed

pub bound::let_in-returns-in-Some-clause-refused : goal.bound::let_in-returns-in-Some-clause-refused
bound::let_in-returns-in-Some-clause-refused t c =
    refused-along c.val_in.result (in-vals c.args.around.now c.args.sites.now (mode_of (option_copied c.args.wanted)) c.args.vals.now c.in-Some.val.now c.in-Some.rest.now c.args.body.now c.in-Some.ensures.cases.0) c.val_in.ensures.refused

pub walk::sequence-returns-clause-typed : goal.walk::sequence-returns-clause-typed
walk::sequence-returns-clause-typed t c =
    ok-along c.binding.result (seq-made c.args.around.now c.args.sites.now c.binding.new.sites (mode_of (option_copied c.args.wanted)) c.args.a.now c.args.b.now) c.binding.ensures.typed

pub walk::sequence-returns-clause-refused : goal.walk::sequence-returns-clause-refused
walk::sequence-returns-clause-refused t c =
    refused-along c.binding.result (λ r h. h refl) c.binding.ensures.alone

-- ---- the body of a `let`

pub bound::further-returns-in-None-clause-typed : goal.bound::further-returns-in-None-clause-typed
bound::further-returns-in-None-clause-typed t c =
    ok-along c.typed.result (λ o g. body-made c.args.around.now c.args.sites.now c.typed.new.sites (mode_of (option_copied c.args.wanted)) c.args.vals.now c.args.body.now o (nil_from_length c.args.vals.now c.in-None.ensures.cases) g) c.typed.ensures.typed

pub bound::further-returns-in-None-clause-refused : goal.bound::further-returns-in-None-clause-refused
bound::further-returns-in-None-clause-refused t c =
    refused-along c.typed.result (let-body-faulty c.args.around.now c.args.sites.now (mode_of (option_copied c.args.wanted)) c.args.vals.now c.args.body.now (nil_from_length c.args.vals.now c.in-None.ensures.cases)) c.typed.ensures.refused

-- ---- cookies

pub embedded::set_cookie-returns-clause-typed : goal.embedded::set_cookie-returns-clause-typed
embedded::set_cookie-returns-clause-typed t c =
    λ m. cookie-gives c.args.around.now c.args.sites.now c.typed.new.sites c.args.name.now c.args.value.now c.in_ok-e.e.now c.in_ok-cookie.cookie.number
    c.in_ok-cookie.cookie.kind c.in_ok-of.of m c.in_ok-out.out c.in_ok-made.made c.in_ok-cookie.ensures.cookie c.in_ok-e.ensures.value c.in_ok-of.ensures
    c.in_ok-out.ensures.typed c.in_ok-made.ensures

pub embedded::set_cookie-returns-in_err-cookie-clause-refused : goal.embedded::set_cookie-returns-in_err-cookie-clause-refused
embedded::set_cookie-returns-in_err-cookie-clause-refused t c =
    refused-exit c.from_residual.result c.in_err-cookie.field-0.0 c.from_residual.ensures.1 (λ r h m. no-cookie-tells c.args.around.now c.args.sites.now c.args.name.now c.args.value.now m r h) c.in_err-cookie.ensures.refused

pub embedded::set_cookie-returns-in_err-e-clause-refused : goal.embedded::set_cookie-returns-in_err-e-clause-refused
embedded::set_cookie-returns-in_err-e-clause-refused t c =
    refused-exit c.from_residual-in_err-e.result c.in_err-e.field-0.0 c.from_residual-in_err-e.ensures.1 (λ r h m. tells-as c.args.around.now c.args.sites.now (e.SetCookie c.args.name.now c.args.value.now) _ m r (set-cookie-made c.args.name.now c.args.value.now) (λ w s st. rule (h c.args.around.now.world.now.datatype_names w s (sites_in c.args.sites.now) m c.args.name.now c.args.value.now.span))) c.in_err-e.ensures.refused

pub embedded::set_cookie-returns-in_err-out-clause-refused : goal.embedded::set_cookie-returns-in_err-out-clause-refused
embedded::set_cookie-returns-in_err-out-clause-refused t c =
    refused-exit c.from_residual-in_err-out.result c.in_err-out.field-0.0 c.from_residual-in_err-out.ensures.1
    (λ r h m. cookie-tells c.args.around.now c.args.sites.now c.args.name.now c.args.value.now c.in_ok-e.e.now c.in_ok-cookie.cookie.number
    c.in_ok-cookie.cookie.kind c.in_ok-of.of m r c.in_ok-cookie.ensures.cookie c.in_ok-e.ensures.value c.in_ok-of.ensures h) c.in_err-out.ensures.refused

pub walk::walk_statement-returns-in-SetCookie-clause-typed : goal.walk::walk_statement-returns-in-SetCookie-clause-typed
walk::walk_statement-returns-in-SetCookie-clause-typed t c =
    arm-any c.args.around.now c.args.sites.now c.set_cookie.new.sites c.args.e.now.form (e.SetCookie c.in-SetCookie.name c.get-in-SetCookie.result.now) (mode_of (option_copied c.args.wanted)) c.set_cookie.result (c.in-SetCookie.is ∙ ap (λ x. e.SetCookie c.in-SetCookie.name x) (sym c.get-in-SetCookie.ensures)) c.set_cookie.ensures.typed

pub walk::walk_statement-returns-in-SetCookie-clause-refused : goal.walk::walk_statement-returns-in-SetCookie-clause-refused
walk::walk_statement-returns-in-SetCookie-clause-refused t c =
    arm-tells-any c.args.around.now c.args.sites.now c.args.e.now.form (e.SetCookie c.in-SetCookie.name c.get-in-SetCookie.result.now) (mode_of (option_copied c.args.wanted)) c.set_cookie.result (c.in-SetCookie.is ∙ ap (λ x. e.SetCookie c.in-SetCookie.name x) (sym c.get-in-SetCookie.ensures)) c.set_cookie.ensures.refused

-- ---- folds

pub folded::fold-returns-in_err-function-clause-refused : goal.folded::fold-returns-in_err-function-clause-refused
folded::fold-returns-in_err-function-clause-refused t c =
    refused-exit c.from_residual.result c.in_err-function.field-0.0 c.from_residual.ensures.1
    (λ r h m. function-broken c.args.around.now c.args.sites.now m c.args.of.now c.args.row.now c.args.step.now c.args.start.now r h) c.in_err-function.ensures.refused

pub folded::fold-returns-in_err-parts-clause-refused : goal.folded::fold-returns-in_err-parts-clause-refused
folded::fold-returns-in_err-parts-clause-refused t c =
    refused-exit c.from_residual-in_err-parts.result c.in_err-parts.field-0.0 c.from_residual-in_err-parts.ensures.1
    (λ r h m. row-broken c.args.around.now c.args.sites.now m c.args.of.now c.args.row.now c.args.step.now c.args.start.now r h) c.in_err-parts.ensures.refused

pub folded::fold-returns-in_err-acc-clause-refused : goal.folded::fold-returns-in_err-acc-clause-refused
folded::fold-returns-in_err-acc-clause-refused t c =
    refused-exit c.from_residual-in_err-acc.result c.in_err-acc.field-0.0 c.from_residual-in_err-acc.ensures.1
    (λ r h m. step-broken c.args.around.now c.args.sites.now m c.args.of.now c.args.row.now c.args.step.now c.args.start.now (as_function c.in_ok-function.function) c.in_ok-parts.parts (types-are c.args.around.now c.args.of.now c.args.row.now c.in_ok-function.function c.in_ok-parts.parts c.in_ok-function.ensures.form c.in_ok-function.ensures.small c.in_ok-parts.ensures.row c.in_ok-parts.ensures.plain) r h) c.in_err-acc.ensures.refused

pub folded::fold-returns-in_err-empty-clause-refused : goal.folded::fold-returns-in_err-empty-clause-refused
folded::fold-returns-in_err-empty-clause-refused t c =
    refused-exit c.from_residual-in_err-empty.result c.in_err-empty.field-0.0 c.from_residual-in_err-empty.ensures.1
    (λ r h m. start-large c.args.around.now c.args.sites.now c.step_at.new.sites m c.args.of.now c.args.row.now c.args.step.now c.args.start.now (as_function c.in_ok-function.function) c.in_ok-parts.parts c.in_ok-acc.acc c.in_ok-acc.out (types-are c.args.around.now c.args.of.now c.args.row.now c.in_ok-function.function c.in_ok-parts.parts c.in_ok-function.ensures.form c.in_ok-function.ensures.small c.in_ok-parts.ensures.row c.in_ok-parts.ensures.plain) c.in_ok-acc.ensures.typed r (h.0, subst (λ z. most_nodes < type_nodes (at_row (as_function c.in_ok-function.function) z)) c.new.ensures h.1)) c.in_err-empty.ensures.refused

pub folded::fold-returns-in_err-first-clause-refused : goal.folded::fold-returns-in_err-first-clause-refused
folded::fold-returns-in_err-first-clause-refused t c =
    refused-exit c.from_residual-in_err-first.result c.in_err-first.field-0.0 c.from_residual-in_err-first.ensures.1
    (λ r h m. in-start c.args.around.now c.args.sites.now c.step_at.new.sites m c.args.of.now c.args.row.now c.args.step.now c.args.start.now (as_function c.in_ok-function.function) c.in_ok-empty.empty c.in_ok-parts.parts c.in_ok-acc.acc c.in_ok-acc.out (types-are c.args.around.now c.args.of.now c.args.row.now c.in_ok-function.function c.in_ok-parts.parts c.in_ok-function.ensures.form c.in_ok-function.ensures.small c.in_ok-parts.ensures.row c.in_ok-parts.ensures.plain) c.in_ok-acc.ensures.typed (c.in_ok-empty.ensures.form ∙ ap (at_row (as_function c.in_ok-function.function)) c.new.ensures) r h) c.in_err-first.ensures.refused

pub folded::fold-returns-in_err-made-clause-refused : goal.folded::fold-returns-in_err-made-clause-refused
folded::fold-returns-in_err-made-clause-refused t c =
    refused-exit c.from_residual-in_err-made.result c.in_err-made.field-0.0 c.from_residual-in_err-made.ensures.1
    (λ r h m. whole-large c.args.around.now c.args.sites.now c.step_at.new.sites c.typed.new.sites m c.args.of.now c.args.row.now c.args.step.now c.args.start.now (as_function c.in_ok-function.function) c.in_ok-empty.empty c.in_ok-parts.parts c.in_ok-acc.acc c.in_ok-acc.out c.in_ok-first.first (types-are c.args.around.now c.args.of.now c.args.row.now c.in_ok-function.function c.in_ok-parts.parts c.in_ok-function.ensures.form c.in_ok-function.ensures.small c.in_ok-parts.ensures.row c.in_ok-parts.ensures.plain) c.in_ok-acc.ensures.typed (c.in_ok-empty.ensures.form ∙ ap (at_row (as_function c.in_ok-function.function)) c.new.ensures) c.in_ok-first.ensures.typed r h) c.in_err-made.ensures.refused

pub folded::fold-returns-clause-typed : goal.folded::fold-returns-clause-typed
folded::fold-returns-clause-typed t c =
    λ m. fold-made c.args.around.now c.args.sites.now c.step_at.new.sites c.typed.new.sites m c.args.of.now c.args.row.now c.args.step.now c.args.start.now (as_function c.in_ok-function.function) c.in_ok-empty.empty c.in_ok-parts.parts c.in_ok-acc.acc c.in_ok-acc.out c.in_ok-first.first c.in_ok-made.made (types-are c.args.around.now c.args.of.now c.args.row.now c.in_ok-function.function c.in_ok-parts.parts c.in_ok-function.ensures.form c.in_ok-function.ensures.small c.in_ok-parts.ensures.row c.in_ok-parts.ensures.plain) c.in_ok-acc.ensures.typed (c.in_ok-empty.ensures.form ∙ ap (at_row (as_function c.in_ok-function.function)) c.new.ensures) c.in_ok-first.ensures.typed c.in_ok-made.ensures.of c.in_ok-made.ensures.exp

pub folded::step_at-returns-in-Lambda-clause-typed : goal.folded::step_at-returns-in-Lambda-clause-typed
folded::step_at-returns-in-Lambda-clause-typed t c =
    ok-along c.step_in.result (λ o g. step-as c.args.around.now c.args.sites.now c.step_in.new.sites c.args.step.now.form (e.Lambda c.as_slice.result.now c.get.result.now) (as_function c.args.function.now) o (c.in-Lambda.is ∙ ap₂ e.Lambda (sym c.as_slice.ensures) (sym c.get.ensures)) g) c.step_in.ensures.typed

pub folded::step_at-returns-in-Lambda-clause-refused : goal.folded::step_at-returns-in-Lambda-clause-refused
folded::step_at-returns-in-Lambda-clause-refused t c =
    refused-along c.step_in.result (λ r g. tells-step c.args.around.now c.args.sites.now c.args.step.now.form (e.Lambda c.as_slice.result.now c.get.result.now) (as_function c.args.function.now) r (c.in-Lambda.is ∙ ap₂ e.Lambda (sym c.as_slice.ensures) (sym c.get.ensures)) g) c.step_in.ensures.refused

pub folded::step_at-returns-in_default : goal.folded::step_at-returns-in_default
folded::step_at-returns-in_default t c =
    record { typed = tt; refused = no-lambda c.args.around.now c.args.sites.now c.args.step.now.form (as_function c.args.function.now) c.no_step.result c.in_default.not-Lambda c.no_step.ensures }

pub folded::step_in-returns-in_err-step-clause-refused : goal.folded::step_in-returns-in_err-step-clause-refused
folded::step_in-returns-in_err-step-clause-refused t c =
    refused-exit c.from_residual.result c.in_err-step.field-0.0 c.from_residual.ensures.1
    (form-refused c.args.around.now c.args.sites.now c.args.params.now c.args.body.now (as_function c.args.function.now)) c.in_err-step.ensures.refused

pub folded::step_in-returns-in_err-local-clause-refused : goal.folded::step_in-returns-in_err-local-clause-refused
folded::step_in-returns-in_err-local-clause-refused t c =
    refused-exit c.from_residual-in_err-local.result c.in_err-local.field-0.0 c.from_residual-in_err-local.ensures.1
    (acc-large c.args.around.now c.in_step-bare.result c.args.sites.now c.args.params.now c.args.body.now (as_function c.args.function.now) c.in_ok-step.step c.in_ok-scope.scope (record { form = c.in_ok-step.ensures.form; made = (record { names = c.in_ok-scope.ensures.names; kinds = c.in_ok-scope.ensures.kinds; known = c.in_ok-scope.ensures.known }); there = c.in_step-bare.ensures })) c.in_err-local.ensures.refused

pub folded::step_in-returns-in_err-accumulates-clause-refused : goal.folded::step_in-returns-in_err-accumulates-clause-refused
folded::step_in-returns-in_err-accumulates-clause-refused t c =
    refused-exit c.from_residual-in_err-accumulates.result c.in_err-accumulates.field-0.0 c.from_residual-in_err-accumulates.ensures.1
    (acc-broken c.args.around.now c.in_step-bare.result c.args.sites.now c.args.params.now c.args.body.now (as_function c.args.function.now) c.in_ok-step.step c.in_ok-scope.scope c.in_ok-local.local (record { form = c.in_ok-step.ensures.form; made = (record { names = c.in_ok-scope.ensures.names; kinds = c.in_ok-scope.ensures.kinds; known = c.in_ok-scope.ensures.known }); there = c.in_step-bare.ensures }) c.in_ok-local.ensures.param) c.in_err-accumulates.ensures.refused

pub folded::step_in-returns-in_err-wanted-clause-refused : goal.folded::step_in-returns-in_err-wanted-clause-refused
folded::step_in-returns-in_err-wanted-clause-refused t c =
    refused-exit c.from_residual-in_err-wanted.result c.in_err-wanted.field-0.0 c.from_residual-in_err-wanted.ensures.1
    (λ r h. step-large c.args.around.now c.in_step-bare.result c.args.sites.now c.args.params.now c.args.body.now (as_function c.args.function.now) c.in_ok-step.step c.in_ok-scope.scope c.in_ok-local.local (record { form = c.in_ok-step.ensures.form; made = (record { names = c.in_ok-scope.ensures.names; kinds = c.in_ok-scope.ensures.kinds; known = c.in_ok-scope.ensures.known }); there = c.in_step-bare.ensures }) c.in_ok-local.ensures.param r (h.0, subst (λ z. most_nodes < type_nodes (at_row (as_function c.args.function.now) z)) c.in_ok-row.ensures h.1)) c.in_err-wanted.ensures.refused

pub folded::step_in-returns-in_err-out-clause-refused : goal.folded::step_in-returns-in_err-out-clause-refused
folded::step_in-returns-in_err-out-clause-refused t c =
    refused-exit c.from_residual-in_err-out.result c.in_err-out.field-0.0 c.from_residual-in_err-out.ensures.1
    (in-step c.args.around.now c.in_step-bare.result c.behind_acc-inner.result c.args.sites.now c.args.params.now c.args.body.now (as_function c.args.function.now) c.in_ok-wanted.wanted c.in_ok-step.step c.in_ok-scope.scope c.in_ok-local.local c.from_ref-own.result.now (record { form = c.in_ok-step.ensures.form; made = (record { names = c.in_ok-scope.ensures.names; kinds = c.in_ok-scope.ensures.kinds; known = c.in_ok-scope.ensures.known }); there = c.in_step-bare.ensures }) c.in_ok-local.ensures.param (c.in_ok-wanted.ensures.form ∙ ap (at_row (as_function c.args.function.now)) c.in_ok-row.ensures) c.from_ref-own.ensures.value c.behind_acc-inner.ensures) c.in_err-out.ensures.refused

pub folded::step_in-returns-clause-typed : goal.folded::step_in-returns-clause-typed
folded::step_in-returns-clause-typed t c =
    step-made c.args.around.now c.in_step-bare.result c.behind_acc-inner.result c.args.sites.now c.typed.new.sites c.args.params.now c.args.body.now (as_function c.args.function.now) c.in_ok-wanted.wanted c.in_ok-step.step c.in_ok-scope.scope c.in_ok-local.local c.from_ref-own.result.now c.in_ok-acc.acc c.in_ok-out.out (record { form = c.in_ok-step.ensures.form; made = (record { names = c.in_ok-scope.ensures.names; kinds = c.in_ok-scope.ensures.kinds; known = c.in_ok-scope.ensures.known }); there = c.in_step-bare.ensures }) c.in_ok-local.ensures.param c.in_ok-accumulates.ensures.param c.in_ok-accumulates.ensures.same (c.in_ok-wanted.ensures.form ∙ ap (at_row (as_function c.args.function.now)) c.in_ok-row.ensures) c.from_ref-own.ensures.value c.behind_acc-inner.ensures c.in_ok-out.ensures.typed c.in_ok-acc.ensures

pub folded::step_in-typed-requires : goal.folded::step_in-typed-requires
folded::step_in-typed-requires t c = (
  falls 4 5 c.args.around.now.levels c.behind_acc-inner.result.levels t c.behind_acc-inner.ensures.levels (omega arith) c.decreases,
  somewhere-step c.args.around.now c.in_step-bare.result c.behind_acc-inner.result c.args.params.now c.in_ok-step.step c.in_ok-scope.scope c.in_ok-local.local c.from_ref-own.result.now (record { form = c.in_ok-step.ensures.form; made = (record { names = c.in_ok-scope.ensures.names; kinds = c.in_ok-scope.ensures.kinds; known = c.in_ok-scope.ensures.known }); there = c.in_step-bare.ensures }) c.from_ref-own.ensures.value c.behind_acc-inner.ensures c.requires,
)

pub walk::walk_statement-returns-in-Fold-clause-typed : goal.walk::walk_statement-returns-in-Fold-clause-typed
walk::walk_statement-returns-in-Fold-clause-typed t c =
    arm-any c.args.around.now c.args.sites.now c.fold.new.sites c.args.e.now.form (e.Fold c.in-Fold.of c.get-in-Fold.result.now c.get-in-Fold-2.result.now c.in-Fold.row) (mode_of (option_copied c.args.wanted)) c.fold.result (c.in-Fold.is ∙ ap₂ (λ x y. e.Fold c.in-Fold.of x y c.in-Fold.row) (sym c.get-in-Fold.ensures) (sym c.get-in-Fold-2.ensures)) c.fold.ensures.typed

pub walk::walk_statement-returns-in-Fold-clause-refused : goal.walk::walk_statement-returns-in-Fold-clause-refused
walk::walk_statement-returns-in-Fold-clause-refused t c =
    arm-tells-any c.args.around.now c.args.sites.now c.args.e.now.form (e.Fold c.in-Fold.of c.get-in-Fold.result.now c.get-in-Fold-2.result.now c.in-Fold.row) (mode_of (option_copied c.args.wanted)) c.fold.result (c.in-Fold.is ∙ ap₂ (λ x y. e.Fold c.in-Fold.of x y c.in-Fold.row) (sym c.get-in-Fold.ensures) (sym c.get-in-Fold-2.ensures)) c.fold.ensures.refused

-- ---- statements with antiquotes

pub embedded::all_antiquotes-loop-i-init : goal.embedded::all_antiquotes-loop-i-init
embedded::all_antiquotes-loop-i-init t c =
    quoted.all-first c.args.around.now c.args.args.now c.args.sites.now c.no_antiquotes-list.result c.no_antiquotes-list.ensures.exps c.no_antiquotes-list.ensures.types

pub embedded::all_antiquotes-loop-i-preserved : goal.embedded::all_antiquotes-loop-i-preserved
embedded::all_antiquotes-loop-i-preserved t c =
    quoted.all-next c.args.around.now c.args.args.now c.loop-i.i c.index-args-i.result c.args.sites.now c.loop-i.sites c.typed.new.sites c.loop-i.list c.in_ok-list.list c.in_ok-out.out c.loop-i-test.true c.index-args-i.is c.in_ok-out.ensures.typed c.in_ok-list.ensures.exps c.in_ok-list.ensures.types c.loop-i.invariant

pub embedded::all_antiquotes-returns-in_err-out-clause-refused : goal.embedded::all_antiquotes-returns-in_err-out-clause-refused
embedded::all_antiquotes-returns-in_err-out-clause-refused t c =
    refused-exit c.from_residual.result c.in_err-out.field-0.0 c.from_residual.ensures.1 (quoted.all-broken c.args.around.now c.args.args.now c.loop-i.i c.index-args-i.result c.args.sites.now c.loop-i.sites c.loop-i.list c.loop-i-test.true c.index-args-i.is c.loop-i.invariant) c.in_err-out.ensures.refused

pub embedded::all_antiquotes-returns-clause-typed : goal.embedded::all_antiquotes-returns-clause-typed
embedded::all_antiquotes-returns-clause-typed t c =
    quoted.all-given c.args.around.now c.args.args.now c.loop-i.i c.args.sites.now c.loop-i.sites c.loop-i.list c.loop-i-test.false c.loop-i.invariant

pub embedded::change-returns-clause-typed : goal.embedded::change-returns-clause-typed
embedded::change-returns-clause-typed t c =
    λ m. stated.change-gives c.args.around.now c.args.sites.now c.change_slot.new.sites c.all_antiquotes.new.sites c.write_out.new.sites c.args.written.now c.args.args.now c.in_ok-at.at c.in_ok-list.list m c.in_ok-made.made c.in_ok-at.ensures.number c.in_ok-at.ensures.slot c.in_ok-list.ensures.typed c.in_ok-made.ensures.written

pub embedded::change-returns-in_err-list-clause-refused : goal.embedded::change-returns-in_err-list-clause-refused
embedded::change-returns-in_err-list-clause-refused t c =
    refused-exit c.from_residual-in_err-list.result c.in_err-list.field-0.0 c.from_residual-in_err-list.ensures.1 (λ r h m. stated.change-quoted c.args.around.now c.args.sites.now c.change_slot.new.sites c.args.written.now c.args.args.now m c.in_ok-at.ensures.slot r h) c.in_err-list.ensures.refused

pub embedded::change-returns-in_err-made-clause-refused : goal.embedded::change-returns-in_err-made-clause-refused
embedded::change-returns-in_err-made-clause-refused t c =
    refused-exit c.from_residual-in_err-made.result c.in_err-made.field-0.0 c.from_residual-in_err-made.ensures.1 (λ r h m. stated.change-broken c.args.around.now c.args.sites.now c.change_slot.new.sites c.all_antiquotes.new.sites c.args.written.now c.args.args.now c.in_ok-list.list m c.in_ok-at.ensures.slot c.in_ok-list.ensures.typed r h) c.in_err-made.ensures.refused

pub embedded::query-returns-clause-typed : goal.embedded::query-returns-clause-typed
embedded::query-returns-clause-typed t c =
    λ m. stated.query-gives c.args.around.now c.args.sites.now c.query_slot.new.sites c.all_antiquotes.new.sites c.query_at.new.sites c.args.how c.args.written.now c.args.args.now c.in_ok-at.at c.in_ok-row.row c.in_ok-list.list m c.in_ok-made.made c.in_ok-at.ensures.number c.in_ok-at.ensures.slot c.in_ok-list.ensures.typed c.in_ok-row.ensures.asked c.in_ok-made.ensures

pub embedded::query-returns-in_err-list-clause-refused : goal.embedded::query-returns-in_err-list-clause-refused
embedded::query-returns-in_err-list-clause-refused t c =
    refused-exit c.from_residual-in_err-list.result c.in_err-list.field-0.0 c.from_residual-in_err-list.ensures.1 (λ r h m. stated.query-quoted c.args.around.now c.args.sites.now c.query_slot.new.sites c.args.how c.args.written.now c.args.args.now m c.in_ok-at.ensures.slot r h) c.in_err-list.ensures.refused

pub embedded::query-returns-in_err-row-clause-refused : goal.embedded::query-returns-in_err-row-clause-refused
embedded::query-returns-in_err-row-clause-refused t c =
    refused-exit c.from_residual-in_err-row.result c.in_err-row.field-0.0 c.from_residual-in_err-row.ensures.1 (λ r h m. stated.query-broken c.args.around.now c.args.sites.now c.query_slot.new.sites c.all_antiquotes.new.sites c.args.how c.args.written.now c.args.args.now c.in_ok-list.list m c.in_ok-at.ensures.slot c.in_ok-list.ensures.typed r h) c.in_err-row.ensures.refused

pub embedded::each-returns-in_err-list-clause-refused : goal.embedded::each-returns-in_err-list-clause-refused
embedded::each-returns-in_err-list-clause-refused t c =
    refused-exit c.from_residual-in_err-list.result c.in_err-list.field-0.0 c.from_residual-in_err-list.ensures.1 (stated.each-quoted c.args.around.now c.args.sites.now c.query_slot.new.sites c.args.written.now c.args.args.now c.args.f.now (mode_of (option_copied c.args.wanted)) c.in_ok-at.ensures.slot) c.in_err-list.ensures.refused

pub embedded::each-returns-in_err-row-clause-refused : goal.embedded::each-returns-in_err-row-clause-refused
embedded::each-returns-in_err-row-clause-refused t c =
    refused-exit c.from_residual-in_err-row.result c.in_err-row.field-0.0 c.from_residual-in_err-row.ensures.1 (stated.each-broken c.args.around.now c.args.sites.now c.query_slot.new.sites c.all_antiquotes.new.sites c.args.written.now c.args.args.now c.args.f.now c.in_ok-list.list (mode_of (option_copied c.args.wanted)) c.in_ok-at.ensures.slot c.in_ok-list.ensures.typed) c.in_err-row.ensures.refused

pub embedded::each-returns-in_err-out-in-Lambda-clause-refused : goal.embedded::each-returns-in_err-out-in-Lambda-clause-refused
embedded::each-returns-in_err-out-in-Lambda-clause-refused t c =
    refused-exit c.from_residual-in_err-out-in-Lambda.result c.in_err-out-in-Lambda.field-0.0 c.from_residual-in_err-out-in-Lambda.ensures.1 (stated.each-faulty c.args.around.now c.args.sites.now c.query_slot.new.sites c.all_antiquotes.new.sites c.query_at.new.sites c.args.written.now c.args.args.now c.args.f.now c.as_slice-own.result.now c.get-e.result.now c.in_ok-at.at c.in_ok-row.row c.in_ok-list.list (mode_of (option_copied c.args.wanted)) c.in_ok-at.ensures.number c.in_ok-at.ensures.slot c.in_ok-list.ensures.typed c.in_ok-row.ensures.asked (c.in-Lambda.is ∙ ap₂ e.Lambda (sym c.as_slice-own.ensures) (sym c.get-e.ensures))) c.in_err-out-in-Lambda.ensures.refused

pub embedded::each-returns-in_err-made-in-Lambda-clause-refused : goal.embedded::each-returns-in_err-made-in-Lambda-clause-refused
embedded::each-returns-in_err-made-in-Lambda-clause-refused t c =
    refused-exit c.from_residual-in_err-made-in-Lambda.result c.in_err-made-in-Lambda.field-0.0 c.from_residual-in_err-made-in-Lambda.ensures.1 (stated.each-unfit c.args.around.now c.args.sites.now c.query_slot.new.sites c.all_antiquotes.new.sites c.query_at.new.sites c.rows.new.sites c.args.written.now c.args.args.now c.args.f.now c.as_slice-own.result.now c.get-e.result.now c.in_ok-at.at c.in_ok-row.row c.in_ok-list.list (mode_of (option_copied c.args.wanted)) c.in_ok-out-in-Lambda.out c.in_ok-at.ensures.number c.in_ok-at.ensures.slot c.in_ok-list.ensures.typed c.in_ok-row.ensures.asked (c.in-Lambda.is ∙ ap₂ e.Lambda (sym c.as_slice-own.ensures) (sym c.get-e.ensures)) c.in_ok-out-in-Lambda.ensures.typed) c.in_err-made-in-Lambda.ensures.refused

pub embedded::each-returns-in_ok-made-in-Lambda-clause-typed : goal.embedded::each-returns-in_ok-made-in-Lambda-clause-typed
embedded::each-returns-in_ok-made-in-Lambda-clause-typed t c =
    stated.each-gives c.args.around.now c.args.sites.now c.query_slot.new.sites c.all_antiquotes.new.sites c.query_at.new.sites c.rows.new.sites c.args.written.now c.args.args.now c.args.f.now c.as_slice-own.result.now c.get-e.result.now c.in_ok-at.at c.in_ok-row.row c.in_ok-list.list (mode_of (option_copied c.args.wanted)) c.in_ok-out-in-Lambda.out c.in_ok-made-in-Lambda.made c.in_ok-at.ensures.number c.in_ok-at.ensures.slot c.in_ok-list.ensures.typed c.in_ok-row.ensures.asked (c.in-Lambda.is ∙ ap₂ e.Lambda (sym c.as_slice-own.ensures) (sym c.get-e.ensures)) c.in_ok-out-in-Lambda.ensures.typed c.in_ok-made-in-Lambda.ensures.each

pub embedded::each-returns-in_default-clause-refused : goal.embedded::each-returns-in_default-clause-refused
embedded::each-returns-in_default-clause-refused t c =
    stated.each-unapplied c.args.around.now c.args.sites.now c.args.written.now c.args.args.now c.args.f.now (mode_of (option_copied c.args.wanted)) c.no_lambda.result c.in_default.not-Lambda c.no_lambda.ensures

pub embedded::rows-typed-requires : goal.embedded::rows-typed-requires
embedded::rows-typed-requires t c = (
  falls 4 5 c.args.around.now.levels c.within-inner.result.levels t c.within-inner.ensures.levels (omega arith) c.decreases,
  somewhere-bound c.args.around.now c.within-inner.result c.in_ok-x.x.now c.row_record-whole.result c.in_ok-local.local c.from_ref.result.now c.in_ok-local.ensures c.from_ref.ensures.value c.within-inner.ensures c.requires,
)

pub embedded::rows-returns-clause-typed : goal.embedded::rows-returns-clause-typed
embedded::rows-returns-clause-typed t c =
    stated.rows-made c.args.around.now c.within-inner.result c.args.sites.now c.typed.new.sites c.args.row c.args.params.now c.args.body.now (mode_of (option_copied c.args.wanted)) (mode_of (option_copied c.of_transaction-asked.result)) c.in_ok-out.out c.in_ok-x.x.now c.row_record-whole.result c.in_ok-local.local c.from_ref.result.now c.row_record-whole.ensures c.in_ok-x.ensures.variable c.in_ok-local.ensures c.from_ref.ensures.value c.within-inner.ensures c.of_transaction-asked.ensures c.in_ok-out.ensures.typed

pub embedded::rows-returns-in_err-x-clause-refused : goal.embedded::rows-returns-in_err-x-clause-refused
embedded::rows-returns-in_err-x-clause-refused t c =
    refused-exit c.from_residual.result c.in_err-x.field-0.0 c.from_residual.ensures.1 (stated.param-broken c.args.around.now c.args.sites.now c.args.row c.args.params.now c.args.body.now (mode_of (option_copied c.args.wanted)) c.row_record-whole.result c.row_record-whole.ensures) c.in_err-x.ensures.refused

pub embedded::rows-returns-in_err-out-clause-refused : goal.embedded::rows-returns-in_err-out-clause-refused
embedded::rows-returns-in_err-out-clause-refused t c =
    refused-exit c.from_residual-in_err-out.result c.in_err-out.field-0.0 c.from_residual-in_err-out.ensures.1 (stated.row-faulty c.args.around.now c.within-inner.result c.args.sites.now c.args.row c.args.params.now c.args.body.now (mode_of (option_copied c.args.wanted)) (mode_of (option_copied c.of_transaction-asked.result)) c.in_ok-x.x.now c.row_record-whole.result c.in_ok-local.local c.from_ref.result.now c.row_record-whole.ensures c.in_ok-x.ensures.variable c.in_ok-local.ensures c.from_ref.ensures.value c.within-inner.ensures c.of_transaction-asked.ensures) c.in_err-out.ensures.refused

pub walk::walk_statement-returns-in-Dml-clause-typed : goal.walk::walk_statement-returns-in-Dml-clause-typed
walk::walk_statement-returns-in-Dml-clause-typed t c =
    arm-any c.args.around.now c.args.sites.now c.change.new.sites c.args.e.now.form (e.Dml c.in-Dml.written c.as_slice.result.now) (mode_of (option_copied c.args.wanted)) c.change.result (c.in-Dml.is ∙ ap (λ x. e.Dml c.in-Dml.written x) (sym c.as_slice.ensures)) c.change.ensures.typed

pub walk::walk_statement-returns-in-Dml-clause-refused : goal.walk::walk_statement-returns-in-Dml-clause-refused
walk::walk_statement-returns-in-Dml-clause-refused t c =
    arm-tells-any c.args.around.now c.args.sites.now c.args.e.now.form (e.Dml c.in-Dml.written c.as_slice.result.now) (mode_of (option_copied c.args.wanted)) c.change.result (c.in-Dml.is ∙ ap (λ x. e.Dml c.in-Dml.written x) (sym c.as_slice.ensures)) c.change.ensures.refused

pub walk::walk_statement-returns-in-Query-clause-typed : goal.walk::walk_statement-returns-in-Query-clause-typed
walk::walk_statement-returns-in-Query-clause-typed t c =
    arm-any c.args.around.now c.args.sites.now c.query.new.sites c.args.e.now.form (e.Query c.in-Query.how c.in-Query.written c.as_slice-in-Query.result.now) (mode_of (option_copied c.args.wanted)) c.query.result (c.in-Query.is ∙ ap (λ x. e.Query c.in-Query.how c.in-Query.written x) (sym c.as_slice-in-Query.ensures)) c.query.ensures.typed

pub walk::walk_statement-returns-in-Query-clause-refused : goal.walk::walk_statement-returns-in-Query-clause-refused
walk::walk_statement-returns-in-Query-clause-refused t c =
    arm-tells-any c.args.around.now c.args.sites.now c.args.e.now.form (e.Query c.in-Query.how c.in-Query.written c.as_slice-in-Query.result.now) (mode_of (option_copied c.args.wanted)) c.query.result (c.in-Query.is ∙ ap (λ x. e.Query c.in-Query.how c.in-Query.written x) (sym c.as_slice-in-Query.ensures)) c.query.ensures.refused

pub walk::walk_statement-returns-in-QueryX-clause-typed : goal.walk::walk_statement-returns-in-QueryX-clause-typed
walk::walk_statement-returns-in-QueryX-clause-typed t c =
    arm c.args.around.now c.args.sites.now c.each.new.sites c.args.e.now.form (e.QueryX c.in-QueryX.written c.as_slice-in-QueryX.result.now c.get-in-QueryX.result.now) (mode_of (option_copied c.args.wanted)) c.each.result (c.in-QueryX.is ∙ ap₂ (λ x y. e.QueryX c.in-QueryX.written x y) (sym c.as_slice-in-QueryX.ensures) (sym c.get-in-QueryX.ensures)) c.each.ensures.typed

pub walk::walk_statement-returns-in-QueryX-clause-refused : goal.walk::walk_statement-returns-in-QueryX-clause-refused
walk::walk_statement-returns-in-QueryX-clause-refused t c =
    arm-tells c.args.around.now c.args.sites.now c.args.e.now.form (e.QueryX c.in-QueryX.written c.as_slice-in-QueryX.result.now c.get-in-QueryX.result.now) (mode_of (option_copied c.args.wanted)) c.each.result (c.in-QueryX.is ∙ ap₂ (λ x y. e.QueryX c.in-QueryX.written x y) (sym c.as_slice-in-QueryX.ensures) (sym c.get-in-QueryX.ensures)) c.each.ensures.refused

-- ---- literals of XML

pub walk::walk_further-returns-in-Xml-clause-typed : goal.walk::walk_further-returns-in-Xml-clause-typed
walk::walk_further-returns-in-Xml-clause-typed t c =
    arm c.args.around.now c.args.sites.now c.literal.new.sites c.args.e.now.form (e.Xml c.in-Xml.xml c.in-Xml.splices c.in-Xml.attributes) (mode_of (option_copied c.args.wanted)) c.literal.result c.in-Xml.is c.literal.ensures.typed

pub walk::walk_further-returns-in-Xml-clause-refused : goal.walk::walk_further-returns-in-Xml-clause-refused
walk::walk_further-returns-in-Xml-clause-refused t c =
    arm-tells c.args.around.now c.args.sites.now c.args.e.now.form (e.Xml c.in-Xml.xml c.in-Xml.splices c.in-Xml.attributes) (mode_of (option_copied c.args.wanted)) c.literal.result c.in-Xml.is c.literal.ensures.refused

pub markup::literal-returns-in_err-sort-clause-refused : goal.markup::literal-returns-in_err-sort-clause-refused
markup::literal-returns-in_err-sort-clause-refused t c =
    refused-exit c.from_residual.result c.in_err-sort.field-0.0 c.from_residual.ensures.1
    (sort-tells c.args.around.now c.args.sites.now c.args.xml.now c.args.splices.now c.args.attributes.now (option_copied c.args.wanted)) c.in_err-sort.ensures.refused

pub markup::literal-returns-in_err-framed-clause-refused : goal.markup::literal-returns-in_err-framed-clause-refused
markup::literal-returns-in_err-framed-clause-refused t c =
    refused-exit c.from_residual-in_err-framed.result c.in_err-framed.field-0.0 c.from_residual-in_err-framed.ensures.1
    (frame-tells c.args.around.now c.args.sites.now c.args.xml.now c.args.splices.now c.args.attributes.now (option_copied c.args.wanted) c.as_slice-parts.result.now (sort_in c.in_ok-sort.sort) c.as_slice-parts.ensures c.in_ok-sort.ensures.sort) c.in_err-framed.ensures.refused

pub markup::literal-returns-in_err-marked-clause-refused : goal.markup::literal-returns-in_err-marked-clause-refused
markup::literal-returns-in_err-marked-clause-refused t c =
    refused-exit c.from_residual-in_err-marked.result c.in_err-marked.field-0.0 c.from_residual-in_err-marked.ensures.1
    (parts-tell c.args.around.now c.args.sites.now c.args.xml.now (record { splices = c.as_slice.result; attributes = c.as_slice-2.result }) c.args.splices.now c.args.attributes.now (option_copied c.args.wanted) c.as_slice-parts.result.now (sort_in c.in_ok-sort.sort) (place_in c.place_of-place.result) c.as_slice.ensures c.as_slice-2.ensures c.as_slice-parts.ensures c.in_ok-sort.ensures.sort c.place_of-place.ensures) c.in_err-marked.ensures.refused

pub markup::literal-returns-in_err-made-clause-refused : goal.markup::literal-returns-in_err-made-clause-refused
markup::literal-returns-in_err-made-clause-refused t c =
    refused-exit c.from_residual-in_err-made.result c.in_err-made.field-0.0 c.from_residual-in_err-made.ensures.1
    (fields-tell c.args.around.now c.args.sites.now c.parts_out.new.sites c.args.xml.now (record { splices = c.as_slice.result; attributes = c.as_slice-2.result }) c.args.splices.now c.args.attributes.now (option_copied c.args.wanted) c.as_slice-parts.result.now (sort_in c.in_ok-sort.sort) (place_in c.place_of-place.result) c.in_ok-marked.marked c.as_slice.ensures c.as_slice-2.ensures c.as_slice-parts.ensures c.in_ok-sort.ensures.sort c.place_of-place.ensures c.in_ok-marked.ensures.typed) c.in_err-made.ensures.refused

pub markup::literal-returns-clause-typed : goal.markup::literal-returns-clause-typed
markup::literal-returns-clause-typed t c =
    literal-given c.args.around.now c.args.sites.now c.parts_out.new.sites c.args.xml.now (record { splices = c.as_slice.result; attributes = c.as_slice-2.result }) c.args.splices.now c.args.attributes.now (option_copied c.args.wanted) c.as_slice-parts.result.now (sort_in c.in_ok-sort.sort) (place_in c.place_of-place.result) c.in_ok-marked.marked c.in_ok-made.made c.as_slice.ensures c.as_slice-2.ensures c.as_slice-parts.ensures
    c.in_ok-sort.ensures.sort c.in_ok-framed.ensures.framed c.place_of-place.ensures c.in_ok-marked.ensures.typed c.in_ok-made.ensures.fits c.in_ok-made.ensures.made

pub markup::parts_out-loop-i-init : goal.markup::parts_out-loop-i-init
markup::parts_out-loop-i-init t c =
    parted-start c.args.around.now c.args.within.now (place_in c.args.place) c.args.parts.now c.args.sites.now c.no_marks-marked.result c.no_marks-marked.ensures.front

pub markup::parts_out-loop-i-preserved : goal.markup::parts_out-loop-i-preserved
markup::parts_out-loop-i-preserved t c =
    parted-next c.args.around.now c.args.within.now (place_in c.args.place) c.args.parts.now c.loop-i.i c.index-parts-i.result c.args.sites.now c.loop-i.sites c.part_out.new.sites c.loop-i.marked c.in_ok-one.one c.in_ok-marked.marked c.loop-i-test.true c.index-parts-i.is c.in_ok-one.ensures.typed c.in_ok-marked.ensures c.loop-i.invariant

pub markup::parts_out-returns-in_err-one-clause-refused : goal.markup::parts_out-returns-in_err-one-clause-refused
markup::parts_out-returns-in_err-one-clause-refused t c =
    refused-exit c.from_residual.result c.in_err-one.field-0.0 c.from_residual.ensures.1
    (parted-broken c.args.around.now c.args.within.now (place_in c.args.place) c.args.parts.now c.loop-i.i c.index-parts-i.result c.args.sites.now c.loop-i.sites c.loop-i.marked c.loop-i-test.true c.index-parts-i.is c.loop-i.invariant) c.in_err-one.ensures.refused

pub markup::parts_out-returns-clause-typed : goal.markup::parts_out-returns-clause-typed
markup::parts_out-returns-clause-typed t c =
    parted-end c.args.around.now c.args.within.now (place_in c.args.place) c.args.parts.now c.loop-i.i c.args.sites.now c.loop-i.sites c.loop-i.marked c.in_ok-made.made c.loop-i-test.false c.in_ok-made.ensures c.loop-i.invariant

pub markup::part_out-returns-in-Text-clause-typed : goal.markup::part_out-returns-in-Text-clause-typed
markup::part_out-returns-in-Text-clause-typed t c =
    text-arm c.args.around.now c.args.sites.now c.args.within.now (place_in c.args.place) c.args.part.now.form c.as_slice.result.now c.text_out.result (c.in-Text.is ∙ ap xml_form.Text (sym c.as_slice.ensures)) c.text_out.ensures.text

pub markup::part_out-returns-in-Text-clause-refused : goal.markup::part_out-returns-in-Text-clause-refused
markup::part_out-returns-in-Text-clause-refused t c =
    text-arm-tells c.args.around.now c.args.sites.now c.args.within.now (place_in c.args.place) c.args.part.now.form c.as_slice.result.now c.text_out.result (c.in-Text.is ∙ ap xml_form.Text (sym c.as_slice.ensures)) c.text_out.ensures.refused

pub markup::part_out-returns-in-Show-clause-typed : goal.markup::part_out-returns-in-Show-clause-typed
markup::part_out-returns-in-Show-clause-typed t c =
    part-arm c.args.around.now c.args.sites.now c.shown.new.sites c.args.within.now (place_in c.args.place) c.args.part.now.form (xml_form.Show c.in-Show.n) c.shown.result c.in-Show.is c.shown.ensures.typed

pub markup::part_out-returns-in-Show-clause-refused : goal.markup::part_out-returns-in-Show-clause-refused
markup::part_out-returns-in-Show-clause-refused t c =
    part-arm-tells c.args.around.now c.args.sites.now c.args.within.now (place_in c.args.place) c.args.part.now.form (xml_form.Show c.in-Show.n) c.shown.result c.in-Show.is c.shown.ensures.refused

pub markup::part_out-returns-in-Splice-clause-typed : goal.markup::part_out-returns-in-Splice-clause-typed
markup::part_out-returns-in-Splice-clause-typed t c =
    part-arm c.args.around.now c.args.sites.now c.spliced.new.sites c.args.within.now (place_in c.args.place) c.args.part.now.form (xml_form.Splice c.in-Splice.n) c.spliced.result c.in-Splice.is c.spliced.ensures.typed

pub markup::part_out-returns-in-Splice-clause-refused : goal.markup::part_out-returns-in-Splice-clause-refused
markup::part_out-returns-in-Splice-clause-refused t c =
    part-arm-tells c.args.around.now c.args.sites.now c.args.within.now (place_in c.args.place) c.args.part.now.form (xml_form.Splice c.in-Splice.n) c.spliced.result c.in-Splice.is c.spliced.ensures.refused

pub markup::part_out-returns-in_ok-inner-in-Element-clause-typed : goal.markup::part_out-returns-in_ok-inner-in-Element-clause-typed
markup::part_out-returns-in_ok-inner-in-Element-clause-typed t c =
    part-arm-there c.args.around.now c.in_ok-inner-in-Element.inner c.args.sites.now c.element.new.sites c.args.within.now (place_in c.args.place) c.args.part.now.form (xml_form.Element c.in-Element.tag c.as_slice-in-Element.result.now c.as_slice-in-Element-2.result.now) c.element.result (c.in-Element.is ∙ ap₂ (λ u v. xml_form.Element c.in-Element.tag u v) (sym c.as_slice-in-Element.ensures) (sym c.as_slice-in-Element-2.ensures))
    c.in_ok-inner-in-Element.ensures.0 c.in_ok-inner-in-Element.ensures.1 c.element.ensures.typed

pub markup::part_out-returns-in_ok-inner-in-Element-clause-refused : goal.markup::part_out-returns-in_ok-inner-in-Element-clause-refused
markup::part_out-returns-in_ok-inner-in-Element-clause-refused t c =
    part-arm-there-tells c.args.around.now c.in_ok-inner-in-Element.inner c.args.sites.now c.args.within.now (place_in c.args.place) c.args.part.now.form (xml_form.Element c.in-Element.tag c.as_slice-in-Element.result.now c.as_slice-in-Element-2.result.now) c.element.result (c.in-Element.is ∙ ap₂ (λ u v. xml_form.Element c.in-Element.tag u v) (sym c.as_slice-in-Element.ensures) (sym c.as_slice-in-Element-2.ensures))
    c.in_ok-inner-in-Element.ensures.0 c.in_ok-inner-in-Element.ensures.1 c.element.ensures.refused

pub markup::part_out-element-requires : goal.markup::part_out-element-requires
markup::part_out-element-requires t c =
    (falls-deeper 35 23 c.args.around.now.levels c.in_ok-inner-in-Element.inner.levels t c.in_ok-inner-in-Element.ensures.2 (omega arith) c.decreases, somewhere-there c.args.around.now c.in_ok-inner-in-Element.inner c.in_ok-inner-in-Element.ensures.0 c.in_ok-inner-in-Element.ensures.1 c.requires)

pub splices::shown-returns-in_err-may_show-clause-refused : goal.splices::shown-returns-in_err-may_show-clause-refused
splices::shown-returns-in_err-may_show-clause-refused t c =
    refused-exit c.from_residual.result c.in_err-may_show.field-0.0 c.from_residual.ensures.1
    (shows-nothing c.args.around.now c.args.sites.now c.args.within.now (place_in c.args.place) c.args.number) c.in_err-may_show.ensures.refused

pub splices::shown-returns-in_err-out-clause-refused : goal.splices::shown-returns-in_err-out-clause-refused
splices::shown-returns-in_err-out-clause-refused t c =
    refused-exit c.from_residual-in_err-out.result c.in_err-out.field-0.0 c.from_residual-in_err-out.ensures.1
    (within-shown c.args.around.now c.args.sites.now c.args.within.now (place_in c.args.place) c.args.number c.in_ok-e.e.now c.in_ok-e.ensures) c.in_err-out.ensures.refused

pub splices::shown-returns-in_err-made-clause-refused : goal.splices::shown-returns-in_err-made-clause-refused
splices::shown-returns-in_err-made-clause-refused t c =
    refused-exit c.from_residual-in_err-made.result c.in_err-made.field-0.0 c.from_residual-in_err-made.ensures.1
    (shows-other c.args.around.now c.args.sites.now c.typed.new.sites c.args.within.now (place_in c.args.place) c.args.number c.in_ok-e.e.now c.in_ok-out.out c.in_ok-e.ensures c.in_ok-out.ensures.typed) c.in_err-made.ensures.refused

pub splices::shown-returns-clause-typed : goal.splices::shown-returns-clause-typed
splices::shown-returns-clause-typed t c =
    shown-given c.args.around.now c.args.sites.now c.typed.new.sites c.args.within.now (place_in c.args.place) c.args.number c.in_ok-e.e.now c.in_ok-out.out c.in_ok-made.made c.in_ok-may_show.ensures.shows c.in_ok-e.ensures c.in_ok-out.ensures.typed c.in_ok-made.ensures.basic c.in_ok-made.ensures.mark

pub splices::spliced-returns-in_err-asked-clause-refused : goal.splices::spliced-returns-in_err-asked-clause-refused
splices::spliced-returns-in_err-asked-clause-refused t c =
    refused-exit c.from_residual-in_err-asked.result c.in_err-asked.field-0.0 c.from_residual-in_err-asked.ensures.1
    (splices-nothing c.args.around.now c.args.sites.now c.args.within.now (place_in c.args.place) c.args.number c.lacks_type-lacks.result) c.in_err-asked.ensures.refused

pub splices::spliced-returns-in_err-made-clause-refused : goal.splices::spliced-returns-in_err-made-clause-refused
splices::spliced-returns-in_err-made-clause-refused t c =
    refused-exit c.from_residual-in_err-made.result c.in_err-made.field-0.0 c.from_residual-in_err-made.ensures.1
    (within-splice c.args.around.now c.args.sites.now c.args.within.now (place_in c.args.place) c.args.number c.in_ok-e.e.now c.lacks_type-lacks.result (asked_in c.in_ok-asked.asked) c.in_ok-e.ensures c.lacks_type-lacks.ensures c.in_ok-asked.ensures.asked) c.in_err-made.ensures.refused

pub splices::spliced-returns-clause-typed : goal.splices::spliced-returns-clause-typed
splices::spliced-returns-clause-typed t c =
    splice-given c.args.around.now c.args.sites.now c.splice_asked.new.sites c.args.within.now (place_in c.args.place) c.args.number c.in_ok-e.e.now c.lacks_type-lacks.result (asked_in c.in_ok-asked.asked) c.in_ok-made.made c.in_ok-e.ensures c.lacks_type-lacks.ensures c.in_ok-asked.ensures.asked c.in_ok-made.ensures.typed

pub splices::splice_asked-returns-in-Decides-clause-typed : goal.splices::splice_asked-returns-in-Decides-clause-typed
splices::splice_asked-returns-in-Decides-clause-typed t c =
    asked-arm c.args.around.now c.args.sites.now c.found_splice.new.sites c.args.e.now.form (asked_in c.args.asked.now) decides c.found_splice.result (ap asked_in c.in-Decides.is) c.found_splice.ensures.typed

pub splices::splice_asked-returns-in-Decides-clause-refused : goal.splices::splice_asked-returns-in-Decides-clause-refused
splices::splice_asked-returns-in-Decides-clause-refused t c =
    asked-arm-tells c.args.around.now c.args.sites.now (place_in c.args.place) c.args.e.now.form (asked_in c.args.asked.now) decides c.found_splice.result (ap asked_in c.in-Decides.is) c.found_splice.ensures.refused

pub splices::splice_asked-returns-in-Asks-clause-typed : goal.splices::splice_asked-returns-in-Asks-clause-typed
splices::splice_asked-returns-in-Asks-clause-typed t c =
    asked-arm c.args.around.now c.args.sites.now c.typed_splice.new.sites c.args.e.now.form (asked_in c.args.asked.now) (asks c.in-Asks.of) c.typed_splice.result (ap asked_in c.in-Asks.is) c.typed_splice.ensures.typed

pub splices::splice_asked-returns-in-Asks-clause-refused : goal.splices::splice_asked-returns-in-Asks-clause-refused
splices::splice_asked-returns-in-Asks-clause-refused t c =
    asked-arm-tells c.args.around.now c.args.sites.now (place_in c.args.place) c.args.e.now.form (asked_in c.args.asked.now) (asks c.in-Asks.of) c.typed_splice.result (ap asked_in c.in-Asks.is) (refused-along c.typed_splice.result (λ r h. h (place_in c.args.place)) c.typed_splice.ensures.refused)

pub splices::found_splice-returns-in_err-out-clause-refused : goal.splices::found_splice-returns-in_err-out-clause-refused
splices::found_splice-returns-in_err-out-clause-refused t c =
    refused-exit c.from_residual.result c.in_err-out.field-0.0 c.from_residual.ensures.1
    (within-asked c.args.around.now c.args.sites.now (place_in c.args.place) c.args.e.now.form decides) c.in_err-out.ensures.refused

pub splices::found_splice-returns-in_err-made-clause-refused : goal.splices::found_splice-returns-in_err-made-clause-refused
splices::found_splice-returns-in_err-made-clause-refused t c =
    refused-exit c.from_residual-in_err-made.result c.in_err-made.field-0.0 c.from_residual-in_err-made.ensures.1
    (found-none c.args.around.now c.args.sites.now c.typed.new.sites (place_in c.args.place) c.args.e.now.form c.in_ok-out.out c.in_ok-out.ensures.typed) c.in_err-made.ensures.refused

pub splices::found_splice-returns-clause-typed : goal.splices::found_splice-returns-clause-typed
splices::found_splice-returns-clause-typed t c =
    found-given c.args.around.now c.args.sites.now c.typed.new.sites c.args.e.now.form c.in_ok-out.out c.in_ok-made.made c.in_ok-out.ensures.typed c.in_ok-made.ensures.mark

pub splices::typed_splice-returns-in_err-out-clause-refused : goal.splices::typed_splice-returns-in_err-out-clause-refused
splices::typed_splice-returns-in_err-out-clause-refused t c =
    refused-exit c.from_residual.result c.in_err-out.field-0.0 c.from_residual.ensures.1
    (λ r h p. within-asked c.args.around.now c.args.sites.now p c.args.e.now.form (asks c.args.of.now) r h) c.in_err-out.ensures.refused

pub splices::typed_splice-returns-clause-typed : goal.splices::typed_splice-returns-clause-typed
splices::typed_splice-returns-clause-typed t c =
    typed-given c.args.around.now c.args.sites.now c.typed.new.sites c.args.e.now.form c.args.of.now c.in_ok-out.out c.new-none.result c.in_ok-made.made c.in_ok-out.ensures.typed c.new-none.ensures c.in_ok-made.ensures

pub markup::element-returns-in_err-node-clause-refused : goal.markup::element-returns-in_err-node-clause-refused
markup::element-returns-in_err-node-clause-refused t c =
    refused-exit c.from_residual-in_err-node.result c.in_err-node.field-0.0 c.from_residual-in_err-node.ensures.1
    (tag-bad c.args.around.now c.args.sites.now c.args.within.now (place_in c.args.place) c.args.tag.now c.args.attrs.now c.args.parts.now c.in_ok-label.label c.is_empty.result c.in_ok-label.ensures c.is_empty.ensures) c.in_err-node.ensures.refused

pub markup::element-returns-in_err-made-clause-refused : goal.markup::element-returns-in_err-made-clause-refused
markup::element-returns-in_err-made-clause-refused t c =
    refused-exit c.from_residual-in_err-made.result c.in_err-made.field-0.0 c.from_residual-in_err-made.ensures.1
    (tag-tells c.args.around.now c.args.sites.now c.args.within.now (place_in c.args.place) c.args.tag.now c.args.attrs.now c.args.parts.now c.in_ok-label.label c.is_empty.result (node_in c.in_ok-node.node) c.in_ok-label.ensures c.is_empty.ensures c.in_ok-node.ensures.node) c.in_err-made.ensures.refused

pub markup::element-returns-clause-typed : goal.markup::element-returns-clause-typed
markup::element-returns-clause-typed t c =
    tag-given c.args.around.now c.args.sites.now c.node_out.new.sites c.args.within.now (place_in c.args.place) c.args.tag.now c.args.attrs.now c.args.parts.now c.in_ok-label.label c.is_empty.result (node_in c.in_ok-node.node) c.in_ok-made.made c.in_ok-label.ensures c.is_empty.ensures c.in_ok-node.ensures.node c.in_ok-made.ensures.typed

pub markup::node_out-returns-in-Element-clause-typed : goal.markup::node_out-returns-in-Element-clause-typed
markup::node_out-returns-in-Element-clause-typed t c =
    node-arm c.args.around.now c.args.sites.now c.held.new.sites c.args.within.now (place_in c.args.place) c.args.parts.now (node_in c.args.node) (node.element c.in-Element.word (place_in c.in-Element.inner)) c.held.result (ap node_in c.in-Element.is) (ok-along c.held.result (λ d h. h (place_in c.args.place)) c.held.ensures.typed)

pub markup::node_out-returns-in-Element-clause-refused : goal.markup::node_out-returns-in-Element-clause-refused
markup::node_out-returns-in-Element-clause-refused t c =
    node-arm-tells c.args.around.now c.args.sites.now c.args.within.now (place_in c.args.place) c.args.parts.now (node_in c.args.node) (node.element c.in-Element.word (place_in c.in-Element.inner)) c.held.result (ap node_in c.in-Element.is) (refused-along c.held.result (λ d h. h (place_in c.args.place)) c.held.ensures.refused)

pub markup::node_out-returns-in-Form-clause-typed : goal.markup::node_out-returns-in-Form-clause-typed
markup::node_out-returns-in-Form-clause-typed t c =
    node-arm c.args.around.now c.args.sites.now c.form.new.sites c.args.within.now (place_in c.args.place) c.args.parts.now (node_in c.args.node) (node.form) c.form.result (ap node_in c.in-Form.is) (ok-along c.form.result (λ d h. h (place_in c.args.place)) c.form.ensures.typed)

pub markup::node_out-returns-in-Form-clause-refused : goal.markup::node_out-returns-in-Form-clause-refused
markup::node_out-returns-in-Form-clause-refused t c =
    node-arm-tells c.args.around.now c.args.sites.now c.args.within.now (place_in c.args.place) c.args.parts.now (node_in c.args.node) (node.form) c.form.result (ap node_in c.in-Form.is) (refused-along c.form.result (λ d h. h (place_in c.args.place)) c.form.ensures.refused)

pub markup::node_out-returns-in-Link-clause-typed : goal.markup::node_out-returns-in-Link-clause-typed
markup::node_out-returns-in-Link-clause-typed t c =
    node-arm c.args.around.now c.args.sites.now c.link.new.sites c.args.within.now (place_in c.args.place) c.args.parts.now (node_in c.args.node) (node.link c.in-Link.n) c.link.result (ap node_in c.in-Link.is) c.link.ensures.typed

pub markup::node_out-returns-in-Link-clause-refused : goal.markup::node_out-returns-in-Link-clause-refused
markup::node_out-returns-in-Link-clause-refused t c =
    node-arm-tells c.args.around.now c.args.sites.now c.args.within.now (place_in c.args.place) c.args.parts.now (node_in c.args.node) (node.link c.in-Link.n) c.link.result (ap node_in c.in-Link.is) c.link.ensures.refused

pub markup::node_out-returns-in-Input-clause-typed : goal.markup::node_out-returns-in-Input-clause-typed
markup::node_out-returns-in-Input-clause-typed t c =
    node-arm c.args.around.now c.args.sites.now c.input.new.sites c.args.within.now (place_in c.args.place) c.args.parts.now (node_in c.args.node) (node.input c.in-Input.kind c.in-Input.name (option_copied c.in-Input.value)) c.input.result (ap node_in c.in-Input.is) (ok-along c.input.result (λ d h. h (place_in c.args.place) c.args.parts.now) c.input.ensures.typed)

pub markup::node_out-returns-in-Input-clause-refused : goal.markup::node_out-returns-in-Input-clause-refused
markup::node_out-returns-in-Input-clause-refused t c =
    node-arm-tells c.args.around.now c.args.sites.now c.args.within.now (place_in c.args.place) c.args.parts.now (node_in c.args.node) (node.input c.in-Input.kind c.in-Input.name (option_copied c.in-Input.value)) c.input.result (ap node_in c.in-Input.is) (refused-along c.input.result (λ d h. h (place_in c.args.place) c.args.parts.now) c.input.ensures.refused)

pub markup::node_out-returns-in-Submit-clause-typed : goal.markup::node_out-returns-in-Submit-clause-typed
markup::node_out-returns-in-Submit-clause-typed t c =
    node-arm c.args.around.now c.args.sites.now c.submit.new.sites c.args.within.now (place_in c.args.place) c.args.parts.now (node_in c.args.node) (node.submit c.in-Submit.n (option_copied c.in-Submit.value)) c.submit.result (ap node_in c.in-Submit.is) (ok-along c.submit.result (λ d h. h (place_in c.args.place) c.args.parts.now) c.submit.ensures.typed)

pub markup::node_out-returns-in-Submit-clause-refused : goal.markup::node_out-returns-in-Submit-clause-refused
markup::node_out-returns-in-Submit-clause-refused t c =
    node-arm-tells c.args.around.now c.args.sites.now c.args.within.now (place_in c.args.place) c.args.parts.now (node_in c.args.node) (node.submit c.in-Submit.n (option_copied c.in-Submit.value)) c.submit.result (ap node_in c.in-Submit.is) (refused-along c.submit.result (λ d h. h (place_in c.args.place) c.args.parts.now) c.submit.ensures.refused)

pub markup::held-returns-in_err-marked-clause-refused : goal.markup::held-returns-in_err-marked-clause-refused
markup::held-returns-in_err-marked-clause-refused t c =
    refused-exit c.from_residual.result c.in_err-marked.field-0.0 c.from_residual.ensures.1
    (λ r h p. element-tells c.args.around.now c.args.sites.now c.args.within.now p c.args.parts.now c.args.word (place_in c.args.inner) r h) c.in_err-marked.ensures.refused

pub markup::held-returns-clause-typed : goal.markup::held-returns-clause-typed
markup::held-returns-clause-typed t c =
    λ p. element-given c.args.around.now c.args.sites.now c.parts_out.new.sites c.args.within.now p c.args.parts.now c.args.word (place_in c.args.inner) c.in_ok-marked.marked c.in_ok-made.made c.in_ok-marked.ensures.typed c.in_ok-made.ensures

pub markup::form-returns-in_err-inner-clause-refused : goal.markup::form-returns-in_err-inner-clause-refused
markup::form-returns-in_err-inner-clause-refused t c =
    refused-exit c.from_residual.result c.in_err-inner.field-0.0 c.from_residual.ensures.1
    (λ r h p. form-tells c.args.around.now c.args.sites.now c.args.within.now p c.args.parts.now r h) c.in_err-inner.ensures.refused

pub markup::form-returns-in_err-made-clause-refused : goal.markup::form-returns-in_err-made-clause-refused
markup::form-returns-in_err-made-clause-refused t c =
    refused-exit c.from_residual-in_err-made.result c.in_err-made.field-0.0 c.from_residual-in_err-made.ensures.1
    (λ r h p. form-unfit c.args.around.now c.args.sites.now c.parts_out.new.sites c.args.within.now p c.args.parts.now c.in_ok-inner.inner c.in_ok-inner.ensures.typed r h) c.in_err-made.ensures.refused

pub markup::form-returns-clause-typed : goal.markup::form-returns-clause-typed
markup::form-returns-clause-typed t c =
    λ p. form-given c.args.around.now c.args.sites.now c.parts_out.new.sites c.args.within.now p c.args.parts.now c.in_ok-inner.inner c.in_ok-made.made c.in_ok-inner.ensures.typed c.in_ok-made.ensures.form

-- ---- targets, and values of fields

pub targets::target_at-returns-clause-typed : goal.targets::target_at-returns-clause-typed
targets::target_at-returns-clause-typed t c =
    ok-along c.target_named.result (λ o h. whole-aims c.args.around.now c.args.sites.now c.target_named.new.sites c.args.aim o (applying.no-forms c.new-args.result c.new-args.ensures) c.in_ok-head.ensures.applied (h c.in_ok-head.ensures.head)) c.target_named.ensures.typed

pub targets::target_at-returns-clause-refused : goal.targets::target_at-returns-clause-refused
targets::target_at-returns-clause-refused t c =
    refused-along c.target_named.result (λ r h. whole-misses c.args.around.now c.args.sites.now c.args.aim r (applying.no-forms c.new-args.result c.new-args.ensures) c.in_ok-head.ensures.applied (h c.in_ok-head.ensures.head)) c.target_named.ensures.refused

pub targets::target_named-returns-clause-typed : goal.targets::target_named-returns-clause-typed
targets::target_named-returns-clause-typed t c =
    λ na. target-gives c.args.around.now c.args.sites.now c.arguments.new.sites c.args.aim c.args.e.now.form (forms_in c.args.args) c.in_ok-target.target c.as_slice-types.result.now c.in_ok-done.done na c.in_ok-target.ensures.named c.in_ok-target.ensures.target c.as_slice-types.ensures c.in_ok-done.ensures.typed

pub targets::target_named-returns-in_err-target-clause-refused : goal.targets::target_named-returns-in_err-target-clause-refused
targets::target_named-returns-in_err-target-clause-refused t c =
    refused-exit c.from_residual.result c.in_err-target.field-0.0 c.from_residual.ensures.1 (λ r h na. aim-tells c.args.around.now c.args.sites.now c.args.aim c.args.e.now.form (forms_in c.args.args) r na h) c.in_err-target.ensures.refused

pub targets::target_named-returns-in_err-few_enough-clause-refused : goal.targets::target_named-returns-in_err-few_enough-clause-refused
targets::target_named-returns-in_err-few_enough-clause-refused t c =
    refused-exit c.from_residual-in_err-few_enough.result c.in_err-few_enough.field-0.0 c.from_residual-in_err-few_enough.ensures.1 (λ r h na. more-tells c.args.around.now c.args.sites.now c.args.aim c.args.e.now.form (forms_in c.args.args) c.in_ok-target.target c.as_slice-types.result.now r na c.in_ok-target.ensures.named c.in_ok-target.ensures.target c.as_slice-types.ensures h.0 h.1) c.in_err-few_enough.ensures.refused

pub targets::target_named-returns-in_err-done-clause-refused : goal.targets::target_named-returns-in_err-done-clause-refused
targets::target_named-returns-in_err-done-clause-refused t c =
    refused-exit c.from_residual-in_err-done.result c.in_err-done.field-0.0 c.from_residual-in_err-done.ensures.1 (λ r h na. args-tell c.args.around.now c.args.sites.now c.args.aim c.args.e.now.form (forms_in c.args.args) c.in_ok-target.target c.as_slice-types.result.now r na c.in_ok-target.ensures.named c.in_ok-target.ensures.target c.as_slice-types.ensures c.in_ok-few_enough.ensures.ok h) c.in_err-done.ensures.refused

pub targets::value_given-returns-in_ok-made-in-Text-clause-typed : goal.targets::value_given-returns-in_ok-made-in-Text-clause-typed
targets::value_given-returns-in_ok-made-in-Text-clause-typed t c =
    text-gives c.args.around.now c.args.sites.now c.args.within.now c.args.given.now c.in-Text.text c.in_ok-made-in-Text.made c.in-Text.is c.in_ok-made-in-Text.ensures

pub targets::value_given-returns-in_ok-out-in-Exp-clause-typed : goal.targets::value_given-returns-in_ok-out-in-Exp-clause-typed
targets::value_given-returns-in_ok-out-in-Exp-clause-typed t c =
    value-gives c.args.around.now c.args.sites.now c.typed.new.sites c.args.within.now c.in-Exp.number c.in_ok-e-in-Exp.e.now c.args.given.now c.in_ok-out-in-Exp.out _ c.in_ok-e-in-Exp.ensures c.in-Exp.is c.in_ok-out-in-Exp.ensures.typed refl

pub targets::value_given-returns-in_err-out-in-Exp-clause-refused : goal.targets::value_given-returns-in_err-out-in-Exp-clause-refused
targets::value_given-returns-in_err-out-in-Exp-clause-refused t c =
    refused-exit c.from_residual-in_err-out-in-Exp.result c.in_err-out-in-Exp.field-0.0 c.from_residual-in_err-out-in-Exp.ensures.1 (λ r h. value-refused c.args.around.now c.args.sites.now c.args.within.now c.in-Exp.number c.in_ok-e-in-Exp.e.now c.args.given.now r c.in_ok-e-in-Exp.ensures c.in-Exp.is h) c.in_err-out-in-Exp.ensures.refused

pub targets::value_at-returns-in_ok-made-in-Some-clause-typed : goal.targets::value_at-returns-in_ok-made-in-Some-clause-typed
targets::value_at-returns-in_ok-made-in-Some-clause-typed t c =
    value-as c.args.around.now c.args.sites.now c.value_given.new.sites c.args.within.now (Some c.in-Some.given.now) (option_copied c.args.value) (Some c.in_ok-made-in-Some.made) (ap option_copied c.in-Some.is) c.in_ok-made-in-Some.ensures.typed

pub targets::value_at-returns-in_err-made-in-Some-clause-refused : goal.targets::value_at-returns-in_err-made-in-Some-clause-refused
targets::value_at-returns-in_err-made-in-Some-clause-refused t c =
    refused-exit c.from_residual.result c.in_err-made-in-Some.field-0.0 c.from_residual.ensures.1 (λ r h. value-told-as c.args.around.now c.args.sites.now c.args.within.now (Some c.in-Some.given.now) (option_copied c.args.value) r (ap option_copied c.in-Some.is) h) c.in_err-made-in-Some.ensures.refused

pub targets::value_at-returns-in-None-clause-typed : goal.targets::value_at-returns-in-None-clause-typed
targets::value_at-returns-in-None-clause-typed t c =
    value-as c.args.around.now c.args.sites.now c.args.sites.now c.args.within.now None (option_copied c.args.value) None (ap option_copied c.in-None.is) (λ w s st. refl)

pub targets::link-returns-clause-typed : goal.targets::link-returns-clause-typed
targets::link-returns-clause-typed t c =
    link-gives c.args.around.now c.args.sites.now c.target_at.new.sites c.parts_out.new.sites c.args.within.now (place_in c.args.place) c.args.parts.now c.args.number c.in_ok-e.e.now c.in_ok-target.target c.in_ok-target.args c.in_ok-inner.inner c.in_ok-made.made c.in_ok-e.ensures c.in_ok-target.ensures.typed c.in_ok-inner.ensures.typed c.in_ok-made.ensures

pub targets::link-returns-in_err-target-clause-refused : goal.targets::link-returns-in_err-target-clause-refused
targets::link-returns-in_err-target-clause-refused t c =
    refused-exit c.from_residual-in_err-target.result c.in_err-target.field-0.0 c.from_residual-in_err-target.ensures.1 (λ r h. link-target-tells c.args.around.now c.args.sites.now c.args.within.now (place_in c.args.place) c.args.parts.now c.args.number c.in_ok-e.e.now r c.in_ok-e.ensures h) c.in_err-target.ensures.refused

pub targets::link-returns-in_err-inner-clause-refused : goal.targets::link-returns-in_err-inner-clause-refused
targets::link-returns-in_err-inner-clause-refused t c =
    refused-exit c.from_residual-in_err-inner.result c.in_err-inner.field-0.0 c.from_residual-in_err-inner.ensures.1 (λ r h. link-parts-tell c.args.around.now c.args.sites.now c.target_at.new.sites c.args.within.now (place_in c.args.place) c.args.parts.now c.args.number c.in_ok-e.e.now c.in_ok-target.target c.in_ok-target.args r c.in_ok-e.ensures c.in_ok-target.ensures.typed h) c.in_err-inner.ensures.refused

pub targets::input-returns-clause-typed : goal.targets::input-returns-clause-typed
targets::input-returns-clause-typed t c =
    λ p parts. input-gives c.args.around.now c.args.sites.now c.value_at.new.sites c.args.within.now p parts c.args.kind c.args.name (option_copied c.args.value) c.in_ok-held.held c.in_ok-made.made c.in_ok-may_name.ensures.scoped c.in_ok-held.ensures.typed c.in_ok-made.ensures

pub targets::input-returns-in_err-may_name-clause-refused : goal.targets::input-returns-in_err-may_name-clause-refused
targets::input-returns-in_err-may_name-clause-refused t c =
    refused-exit c.from_residual.result c.in_err-may_name.field-0.0 c.from_residual.ensures.1 (λ r h p parts. stray-tells c.args.around.now c.args.sites.now c.args.within.now p parts c.args.kind c.args.name (option_copied c.args.value) r h) c.in_err-may_name.ensures.refused

pub targets::input-returns-in_err-held-clause-refused : goal.targets::input-returns-in_err-held-clause-refused
targets::input-returns-in_err-held-clause-refused t c =
    refused-exit c.from_residual-in_err-held.result c.in_err-held.field-0.0 c.from_residual-in_err-held.ensures.1 (λ r h p parts. input-value-tells c.args.around.now c.args.sites.now c.args.within.now p parts c.args.kind c.args.name (option_copied c.args.value) r h) c.in_err-held.ensures.refused

pub targets::submit-returns-clause-typed : goal.targets::submit-returns-clause-typed
targets::submit-returns-clause-typed t c =
    λ p parts. submit-gives c.args.around.now c.args.sites.now c.target_at.new.sites c.value_at.new.sites c.args.within.now p parts c.args.number (option_copied c.args.value) c.in_ok-e.e.now c.in_ok-target.target c.in_ok-target.args c.in_ok-held.held c.in_ok-made.made c.in_ok-e.ensures c.in_ok-target.ensures.typed c.in_ok-held.ensures.typed c.in_ok-made.ensures

pub targets::submit-returns-in_err-target-clause-refused : goal.targets::submit-returns-in_err-target-clause-refused
targets::submit-returns-in_err-target-clause-refused t c =
    refused-exit c.from_residual-in_err-target.result c.in_err-target.field-0.0 c.from_residual-in_err-target.ensures.1 (λ r h p parts. submit-target-tells c.args.around.now c.args.sites.now c.args.within.now p parts c.args.number (option_copied c.args.value) c.in_ok-e.e.now r c.in_ok-e.ensures h) c.in_err-target.ensures.refused

pub targets::submit-returns-in_err-held-clause-refused : goal.targets::submit-returns-in_err-held-clause-refused
targets::submit-returns-in_err-held-clause-refused t c =
    refused-exit c.from_residual-in_err-held.result c.in_err-held.field-0.0 c.from_residual-in_err-held.ensures.1 (λ r h p parts. submit-value-tells c.args.around.now c.args.sites.now c.target_at.new.sites c.args.within.now p parts c.args.number (option_copied c.args.value) c.in_ok-e.e.now c.in_ok-target.target c.in_ok-target.args r c.in_ok-e.ensures c.in_ok-target.ensures.typed h) c.in_err-held.ensures.refused
