use Rattle.std.proofs.Common.{arith, sym, ◌∙◌}
use Rattle.ur_parse_rules.proofs.Steps.{passed, made}
use Rattle.ur_parse_rules.specs.DeclParts.{whole}
use Rattle.ur_parse_rules.specs.Parts.{of_decl}
use Rattle.ur_parse_rules.proofs.AllDecided.{one_of}
use Rattle.ur_parse.proofs.Modules.{decls_start, decls_more, module_refused, module_done, module_open}
use Rattle.ur_parse.proofs.module.parse.Goals as goal

pub decls-init : goal.decls-init
decls-init c = let e = c.new-decls.ensures in rw e (record { within = omega arith; read = decls_start 256 c.args.tokens.now })

pub returns-in_err-next-clause-refused : goal.returns-in_err-next-clause-refused
returns-in_err-next-clause-refused c = passed _ _ c.from_residual.ensures.1 c.in_err-next.ensures.refused (λ r h. module_refused c.decls.invariant.read (sym c.sees_decl.ensures ∙ c.decls-test.true) h)

pub decls-preserved : goal.decls-preserved
decls-preserved c = let p = c.in_ok-pushed.ensures.found in rw p (record { within = c.in_ok-next.ensures.moves.within; read = decls_more c.decls.invariant.read (sym c.sees_decl.ensures ∙ c.decls-test.true) c.in_ok-next.next.end c.in_ok-next.ensures.found })

pub returns-then-at-len-clause-refused : goal.returns-then-at-len-clause-refused
returns-then-at-len-clause-refused c = made _ c.unexpected.ensures (λ r s. module_open c.decls.invariant.read (sym c.sees_decl.ensures ∙ c.decls-test.false) (omega arith) s)

pub returns-clause-found : goal.returns-clause-found
returns-clause-found c = module_done c.decls.invariant.read (omega arith)

pub returns-clause-only : goal.returns-clause-only
returns-clause-only c = λ n other y. one_of (of_decl whole) n 256 other _ c.args.tokens.now y (module_done c.decls.invariant.read (omega arith))
