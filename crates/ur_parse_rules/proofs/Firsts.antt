-- The tables of what nonterminals begin with fit the rules.
use Rattle.std.specs.Prelude.{◌≡◌, Bool, true, false, refl}
use Rattle.ur_parse_rules.specs.ConParts as c
use Rattle.ur_parse_rules.specs.ExpParts as e
use Rattle.ur_parse_rules.specs.SqlParts as s
use Rattle.ur_parse_rules.specs.XmlParts as x
use Rattle.ur_parse_rules.specs.DeclParts as d
use Rattle.ur_parse_rules.specs.CodeParts as code
use Rattle.ur_parse_rules.specs.Quoted.{Quoting, expressions, raw}
use Rattle.ur_parse_rules.specs.Parts.{Part, of_con, of_exp, of_sql, of_xml, of_decl, of_quote, of_code}
use Rattle.ur_parse_rules.specs.Language.{rules}
use Rattle.ur_parse_rules.proofs.Starts.{first, empty}
use Rattle.ur_parse_rules.proofs.Checks.{firsts_fit}

abbrev Fits : Part → Type 0
Fits p = firsts_fit first empty p (rules p) ≡ true

keys_args : (keys : Bool) → Fits (of_con (c.args keys))
keys_args true = refl
keys_args false = refl

keys_arg : (keys : Bool) → Fits (of_con (c.arg keys))
keys_arg true = refl
keys_arg false = refl

keys_atom : (keys : Bool) → Fits (of_con (c.atom keys))
keys_atom true = refl
keys_atom false = refl

con_fit : (p : c.ConPart) → Fits (of_con p)
con_fit (c.args keys) = keys_args keys
con_fit (c.arg keys) = keys_arg keys
con_fit (c.atom keys) = keys_atom keys
con_fit c.kind = refl
con_fit c.kind_atom = refl
con_fit c.kind_tail = refl
con_fit (c.con place) = refl
con_fit _ = refl

post_fit : (first : Bool) → Fits (of_exp (e.post first))
post_fit true = refl
post_fit false = refl

base_fit : (first : Bool) → Fits (of_exp (e.base first))
base_fit true = refl
base_fit false = refl

step_fit : (l : e.Level) → Fits (of_exp (e.left_step l))
step_fit e.disjunction = refl
step_fit _ = refl

tail_fit : (l : e.Level) → Fits (of_exp (e.left_tail l))
tail_fit e.disjunction = refl
tail_fit _ = refl

operand_fit : (l : e.Level) → Fits (of_exp (e.operand l))
operand_fit e.disjunction = refl
operand_fit _ = refl

exp_fit : (p : e.ExpPart) → Fits (of_exp p)
exp_fit (e.post first) = post_fit first
exp_fit (e.base first) = base_fit first
exp_fit (e.left_step l) = step_fit l
exp_fit (e.left_tail l) = tail_fit l
exp_fit (e.operand l) = operand_fit l
exp_fit _ = refl

sql_left_fit : (q : Quoting) (bare : Bool) (l : s.SqlLevel) → Fits (of_sql q (s.left bare l))
sql_left_fit q bare s.disjunction = refl
sql_left_fit q bare _ = refl

sql_operand_fit : (q : Quoting) (bare : Bool) (l : s.SqlLevel) → Fits (of_sql q (s.operand bare l))
sql_operand_fit q bare s.disjunction = refl
sql_operand_fit q bare _ = refl

sql_tail_fit : (q : Quoting) (bare : Bool) (l : s.SqlLevel) → Fits (of_sql q (s.left_tail bare l))
sql_tail_fit q bare s.disjunction = refl
sql_tail_fit q bare _ = refl

sql_step_fit : (q : Quoting) (bare : Bool) (l : s.SqlLevel) → Fits (of_sql q (s.left_step bare l))
sql_step_fit q bare s.disjunction = refl
sql_step_fit q bare _ = refl

column_fit : (q : Quoting) (bare : Bool) → Fits (of_sql q (s.column bare))
column_fit q true = refl
column_fit q false = refl

sql_fit : (q : Quoting) (p : s.SqlPart) → Fits (of_sql q p)
sql_fit q (s.left bare l) = sql_left_fit q bare l
sql_fit q (s.operand bare l) = sql_operand_fit q bare l
sql_fit q (s.left_tail bare l) = sql_tail_fit q bare l
sql_fit q (s.left_step bare l) = sql_step_fit q bare l
sql_fit q (s.column bare) = column_fit q bare
sql_fit q _ = refl

xml_fit : (q : Quoting) (p : x.XmlPart) → Fits (of_xml q p)
xml_fit q x.literal = refl
xml_fit q _ = refl

decl_fit : (p : d.DeclPart) → Fits (of_decl p)
decl_fit d.whole = refl
decl_fit _ = refl

quote_fit : (q : Quoting) → Fits (of_quote q)
quote_fit expressions = refl
quote_fit raw = refl

code_fit : (p : code.CodePart) → Fits (of_code p)
code_fit code.pieces = refl
code_fit code.piece = refl

pub fit : (p : Part) → Fits p
fit (of_con p) = con_fit p
fit (of_exp p) = exp_fit p
fit (of_sql q p) = sql_fit q p
fit (of_xml q p) = xml_fit q p
fit (of_decl p) = decl_fit p
fit (of_quote q) = quote_fit q
fit (of_code p) = code_fit p
