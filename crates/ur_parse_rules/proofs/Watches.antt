-- What does not begin with a name and `::` or `<-`, with `[` and no `]`, or with a column alone.
use Rattle.std.specs.Prelude.{◌≡◌, ℕ, Bool, true, false, not, List, [], ◌∷◌, ◌++◌, refl}
use Rattle.ur_lex.specs.declared.token.Lexeme.{Lexeme}
use Rattle.ur_parse_rules.specs.Rules.{part, Spells}
use Rattle.ur_parse_rules.specs.Classes.{Classes}
use Rattle.ur_parse_rules.specs.Quoted.{Quoting}
use Rattle.ur_parse_rules.specs.ConParts as c
use Rattle.ur_parse_rules.specs.ExpParts as e
use Rattle.ur_parse_rules.specs.SqlParts as s
use Rattle.ur_parse_rules.specs.Parts.{Part, of_con, of_exp, of_sql, of_xml, of_decl, of_quote, of_code, Tree}
use Rattle.ur_parse_rules.specs.Language.{language, rules}
use Rattle.ur_parse_rules.proofs.Tests.{false_true}
use Rattle.ur_parse_rules.proofs.Checks.{implies}
use Rattle.ur_parse_rules.proofs.Starts.{first, empty}
use Rattle.ur_parse_rules.proofs.Firsts.{fit}
use Rattle.ur_parse_rules.proofs.Leads.{all_lead, no_hit, hits, behind}
use Rattle.ur_parse_rules.proofs.Choice.{colons, arrow, a_name, bracket, a_bracket, goes_on, a_column}

abbrev Led : (set : Classes) (wanted known : Bool) (ws : List Classes) (lead : Part → Bool) → Part → Type 0
Led set wanted known ws lead p = implies (lead p) (all_lead set wanted first empty known lead ws (rules p)) ≡ true

-- ---- constructors

abbrev con_leads : c.ConPart → Bool
con_leads (c.con place) = true
con_leads (c.arrow keys) = true
con_leads (c.concat keys) = true
con_leads (c.app keys) = true
con_leads (c.atom keys) = true
con_leads _ = false

abbrev con_lead : Part → Bool
con_lead (of_con p) = con_leads p
con_lead _ = false

con_parts_led : (p : c.ConPart) → Led colons true true a_name con_lead (of_con p)
con_parts_led (c.con place) = refl
con_parts_led _ = refl

con_led : (p : Part) → Led colons true true a_name con_lead p
con_led (of_con p) = con_parts_led p
con_led (of_exp p) = refl
con_led (of_sql q p) = refl
con_led (of_xml q p) = refl
con_led (of_decl p) = refl
con_led (of_quote q) = refl
con_led (of_code p) = refl

-- no constructor begins as `x ::`
pub no_colons : (p : Part) → con_lead p ≡ true → (n : ℕ) (x : Tree p) (taken us : List Lexeme) → Spells language n (part p x ∷ []) taken → behind colons true us ≡ false → hits colons true a_name (taken ++ us) ≡ false
no_colons p l n x taken us d h = no_hit language first empty fit colons true true con_lead a_name con_led p l n x taken us d (λ _. h)

-- ---- expressions

abbrev exp_leads : e.ExpPart → Bool
exp_leads e.line = true
exp_leads (e.left l) = true
exp_leads (e.operand l) = true
exp_leads e.comparison = true
exp_leads e.cons = true
exp_leads e.negative = true
exp_leads e.app = true
exp_leads e.head = true
exp_leads (e.post first) = true
exp_leads (e.base first) = true
exp_leads _ = false

abbrev exp_lead : Part → Bool
exp_lead (of_exp p) = exp_leads p
exp_lead _ = false

left_led : (l : e.Level) → Led arrow true true a_name exp_lead (of_exp (e.left l))
left_led e.disjunction = refl
left_led _ = refl

operand_led : (l : e.Level) → Led arrow true true a_name exp_lead (of_exp (e.operand l))
operand_led e.disjunction = refl
operand_led _ = refl

post_led : (first : Bool) → Led arrow true true a_name exp_lead (of_exp (e.post first))
post_led true = refl
post_led false = refl

exp_parts_led : (p : e.ExpPart) → Led arrow true true a_name exp_lead (of_exp p)
exp_parts_led (e.left l) = left_led l
exp_parts_led (e.operand l) = operand_led l
exp_parts_led (e.post first) = post_led first
exp_parts_led _ = refl

exp_led : (p : Part) → Led arrow true true a_name exp_lead p
exp_led (of_con p) = refl
exp_led (of_exp p) = exp_parts_led p
exp_led (of_sql q p) = refl
exp_led (of_xml q p) = refl
exp_led (of_decl p) = refl
exp_led (of_quote q) = refl
exp_led (of_code p) = refl

-- no line begins as `x <-`
pub no_arrow : (n : ℕ) (x : Tree (of_exp e.line)) (taken us : List Lexeme) → Spells language n (part (of_exp e.line) x ∷ []) taken → behind arrow true us ≡ false → hits arrow true a_name (taken ++ us) ≡ false
no_arrow n x taken us d h = no_hit language first empty fit arrow true true exp_lead a_name exp_led (of_exp e.line) refl n x taken us d (λ _. h)

abbrev bracket_leads : e.ExpPart → Bool
bracket_leads e.exp = true
bracket_leads p = exp_leads p

abbrev bracket_lead : Part → Bool
bracket_lead (of_exp p) = bracket_leads p
bracket_lead _ = false

left_bracket : (l : e.Level) → Led bracket false false a_bracket bracket_lead (of_exp (e.left l))
left_bracket e.disjunction = refl
left_bracket _ = refl

operand_bracket : (l : e.Level) → Led bracket false false a_bracket bracket_lead (of_exp (e.operand l))
operand_bracket e.disjunction = refl
operand_bracket _ = refl

post_bracket : (first : Bool) → Led bracket false false a_bracket bracket_lead (of_exp (e.post first))
post_bracket true = refl
post_bracket false = refl

bracket_parts_led : (p : e.ExpPart) → Led bracket false false a_bracket bracket_lead (of_exp p)
bracket_parts_led (e.left l) = left_bracket l
bracket_parts_led (e.operand l) = operand_bracket l
bracket_parts_led (e.post first) = post_bracket first
bracket_parts_led _ = refl

bracket_led : (p : Part) → Led bracket false false a_bracket bracket_lead p
bracket_led (of_con p) = refl
bracket_led (of_exp p) = bracket_parts_led p
bracket_led (of_sql q p) = refl
bracket_led (of_xml q p) = refl
bracket_led (of_decl p) = refl
bracket_led (of_quote q) = refl
bracket_led (of_code p) = refl

-- behind `[` an expression goes on with `]`
pub no_bracket : (n : ℕ) (x : Tree (of_exp e.exp)) (taken us : List Lexeme) → Spells language n (part (of_exp e.exp) x ∷ []) taken → hits bracket false a_bracket (taken ++ us) ≡ false
no_bracket n x taken us d = no_hit language first empty fit bracket false false bracket_lead a_bracket bracket_led (of_exp e.exp) refl n x taken us d (λ h. false_true h)

-- ---- SQL

abbrev column_leads : s.SqlPart → Bool
column_leads (s.sexp bare) = not bare
column_leads (s.left bare l) = not bare
column_leads (s.operand bare l) = not bare
column_leads (s.negation bare) = not bare
column_leads (s.comparison bare) = not bare
column_leads (s.negative bare) = not bare
column_leads (s.atom bare) = not bare
column_leads (s.column bare) = not bare
column_leads _ = false

abbrev column_lead : Part → Bool
column_lead (of_sql q p) = column_leads p
column_lead _ = false

sql_left_led : (q : Quoting) (bare : Bool) (l : s.SqlLevel) → Led goes_on false true a_column column_lead (of_sql q (s.left bare l))
sql_left_led q true l = refl
sql_left_led q false s.disjunction = refl
sql_left_led q false _ = refl

sql_operand_led : (q : Quoting) (bare : Bool) (l : s.SqlLevel) → Led goes_on false true a_column column_lead (of_sql q (s.operand bare l))
sql_operand_led q true l = refl
sql_operand_led q false s.disjunction = refl
sql_operand_led q false _ = refl

sexp_led : (q : Quoting) (bare : Bool) → Led goes_on false true a_column column_lead (of_sql q (s.sexp bare))
sexp_led q true = refl
sexp_led q false = refl

negation_led : (q : Quoting) (bare : Bool) → Led goes_on false true a_column column_lead (of_sql q (s.negation bare))
negation_led q true = refl
negation_led q false = refl

comparison_led : (q : Quoting) (bare : Bool) → Led goes_on false true a_column column_lead (of_sql q (s.comparison bare))
comparison_led q true = refl
comparison_led q false = refl

negative_led : (q : Quoting) (bare : Bool) → Led goes_on false true a_column column_lead (of_sql q (s.negative bare))
negative_led q true = refl
negative_led q false = refl

atom_led : (q : Quoting) (bare : Bool) → Led goes_on false true a_column column_lead (of_sql q (s.atom bare))
atom_led q true = refl
atom_led q false = refl

column_led : (q : Quoting) (bare : Bool) → Led goes_on false true a_column column_lead (of_sql q (s.column bare))
column_led q true = refl
column_led q false = refl

sql_parts_led : (q : Quoting) (p : s.SqlPart) → Led goes_on false true a_column column_lead (of_sql q p)
sql_parts_led q (s.sexp bare) = sexp_led q bare
sql_parts_led q (s.left bare l) = sql_left_led q bare l
sql_parts_led q (s.operand bare l) = sql_operand_led q bare l
sql_parts_led q (s.negation bare) = negation_led q bare
sql_parts_led q (s.comparison bare) = comparison_led q bare
sql_parts_led q (s.negative bare) = negative_led q bare
sql_parts_led q (s.atom bare) = atom_led q bare
sql_parts_led q (s.column bare) = column_led q bare
sql_parts_led q _ = refl

sql_led : (p : Part) → Led goes_on false true a_column column_lead p
sql_led (of_con p) = refl
sql_led (of_exp p) = refl
sql_led (of_sql q p) = sql_parts_led q p
sql_led (of_xml q p) = refl
sql_led (of_decl p) = refl
sql_led (of_quote q) = refl
sql_led (of_code p) = refl

-- an expression before an operator or `AS` does not begin as a column alone
pub no_column : (q : Quoting) (n : ℕ) (x : Tree (of_sql q (s.sexp false))) (taken us : List Lexeme) → Spells language n (part (of_sql q (s.sexp false)) x ∷ []) taken → behind goes_on false us ≡ false → hits goes_on false a_column (taken ++ us) ≡ false
no_column q n x taken us d h = no_hit language first empty fit goes_on false true column_lead a_column sql_led (of_sql q (s.sexp false)) refl n x taken us d (λ _. h)
