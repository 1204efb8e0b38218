-- Code fits where each of its parts does.
use Rattle.ur_verify_operations.proofs.Replies.{refused_exit, answers_by}
use Rattle.ur_verify_operations.proofs.Told.{told_exit, says_by}
use Rattle.ur_verify.specs.Misfits.{CodeMisfit, FunctionsMisfit, QueriesMisfit, ChangesMisfit, RoutesMisfit, TablesMisfit, CookiesMisfit, in_functions, in_queries, in_changes, in_routes, in_tables, in_cookies}
use Rattle.ur_verify.proofs.verified.code_fits.Goals as goal

pub returns-in_err-functions_fit-clause-fits : goal.returns-in_err-functions_fit-clause-fits
returns-in_err-functions_fit-clause-fits c = refused_exit c.from_residual.result c.in_err-functions_fit.field-0.0 c.from_residual.ensures.1 (λ k. (tt, k.1.functions)) c.in_err-functions_fit.ensures.fits

pub returns-in_err-queries_fit-clause-fits : goal.returns-in_err-queries_fit-clause-fits
returns-in_err-queries_fit-clause-fits c =
    refused_exit c.from_residual-in_err-queries_fit.result c.in_err-queries_fit.field-0.0 c.from_residual-in_err-queries_fit.ensures.1 (λ k. (tt, k.1.queries)) c.in_err-queries_fit.ensures.fits

pub returns-in_err-changes_fit-clause-fits : goal.returns-in_err-changes_fit-clause-fits
returns-in_err-changes_fit-clause-fits c =
    refused_exit c.from_residual-in_err-changes_fit.result c.in_err-changes_fit.field-0.0 c.from_residual-in_err-changes_fit.ensures.1 (λ k. (tt, k.1.changes)) c.in_err-changes_fit.ensures.fits

pub returns-in_err-routes_fit-clause-fits : goal.returns-in_err-routes_fit-clause-fits
returns-in_err-routes_fit-clause-fits c =
    refused_exit c.from_residual-in_err-routes_fit.result c.in_err-routes_fit.field-0.0 c.from_residual-in_err-routes_fit.ensures.1 (λ k. (tt, k.1.routes)) c.in_err-routes_fit.ensures.fits

pub returns-in_err-tables_fit-clause-fits : goal.returns-in_err-tables_fit-clause-fits
returns-in_err-tables_fit-clause-fits c =
    refused_exit c.from_residual-in_err-tables_fit.result c.in_err-tables_fit.field-0.0 c.from_residual-in_err-tables_fit.ensures.1 (λ k. (tt, k.1.tables))
    c.in_err-tables_fit.ensures.fits

pub returns-clause-fits : goal.returns-clause-fits
returns-clause-fits c =
    answers_by c.cookies_fit.result
    (λ u h. record {
      functions = c.in_ok-functions_fit.ensures.fits;
      queries = c.in_ok-queries_fit.ensures.fits;
      changes = c.in_ok-changes_fit.ensures.fits;
      routes = c.in_ok-routes_fit.ensures.fits;
      tables = c.in_ok-tables_fit.ensures.fits;
      cookies = h;
    })
    (λ u k. k.cookies) c.cookies_fit.ensures.fits

pub returns-in_err-functions_fit-clause-told : goal.returns-in_err-functions_fit-clause-told
returns-in_err-functions_fit-clause-told c =
    told_exit {M = CodeMisfit c.args.code.now} {N = FunctionsMisfit c.args.code.now} c.from_residual.result c.in_err-functions_fit.field-0.0 c.from_residual.ensures.1
    (λ said k. in_functions k) c.in_err-functions_fit.ensures.told

pub returns-in_err-queries_fit-clause-told : goal.returns-in_err-queries_fit-clause-told
returns-in_err-queries_fit-clause-told c =
    told_exit {M = CodeMisfit c.args.code.now} {N = QueriesMisfit c.args.code.now} c.from_residual-in_err-queries_fit.result c.in_err-queries_fit.field-0.0 c.from_residual-in_err-queries_fit.ensures.1
    (λ said k. in_queries k) c.in_err-queries_fit.ensures.told

pub returns-in_err-changes_fit-clause-told : goal.returns-in_err-changes_fit-clause-told
returns-in_err-changes_fit-clause-told c =
    told_exit {M = CodeMisfit c.args.code.now} {N = ChangesMisfit c.args.code.now} c.from_residual-in_err-changes_fit.result c.in_err-changes_fit.field-0.0 c.from_residual-in_err-changes_fit.ensures.1
    (λ said k. in_changes k) c.in_err-changes_fit.ensures.told

pub returns-in_err-routes_fit-clause-told : goal.returns-in_err-routes_fit-clause-told
returns-in_err-routes_fit-clause-told c =
    told_exit {M = CodeMisfit c.args.code.now} {N = RoutesMisfit c.args.code.now} c.from_residual-in_err-routes_fit.result c.in_err-routes_fit.field-0.0 c.from_residual-in_err-routes_fit.ensures.1
    (λ said k. in_routes k) c.in_err-routes_fit.ensures.told

pub returns-in_err-tables_fit-clause-told : goal.returns-in_err-tables_fit-clause-told
returns-in_err-tables_fit-clause-told c =
    told_exit {M = CodeMisfit c.args.code.now} {N = TablesMisfit c.args.code.now} c.from_residual-in_err-tables_fit.result c.in_err-tables_fit.field-0.0
    c.from_residual-in_err-tables_fit.ensures.1
    (λ said k. in_tables k) c.in_err-tables_fit.ensures.told

pub returns-clause-told : goal.returns-clause-told
returns-clause-told c =
    says_by {M = CodeMisfit c.args.code.now} {N = CookiesMisfit c.args.code.now} c.cookies_fit.result (λ said k. in_cookies k) c.cookies_fit.ensures.told
