-- Where more than n are open, just one more than n are, behind a shorter front.
use Rattle.std.specs.Prelude.{◌≡◌, ℕ, ◌+◌, ◌-◌, ◌≤◌, List, [], ◌∷◌, ◌++◌, refl}
use Rattle.std.proofs.Common.{arith, append_assoc, sym, inl, inr, ap, subst, ◌∙◌}
use Rattle.ur_lex.specs.declared.token.Lexeme.{Lexeme}
use Rattle.ur_parse_rules.specs.Rules.{Slot, one, Open, here, past, within}
use Rattle.ur_parse_rules.specs.ConParts as c
use Rattle.ur_parse_rules.specs.ExpParts as e
use Rattle.ur_parse_rules.specs.SqlParts as s
use Rattle.ur_parse_rules.specs.XmlParts as x
use Rattle.ur_parse_rules.specs.Parts.{Part, of_con, of_exp, of_sql, of_xml, of_decl, of_quote, of_code}
use Rattle.ur_parse_rules.specs.Constructors.{con_cost}
use Rattle.ur_parse_rules.specs.Expressions.{exp_cost}
use Rattle.ur_parse_rules.specs.Statements.{sql_cost}
use Rattle.ur_parse_rules.specs.Markup.{xml_cost}
use Rattle.ur_parse_rules.specs.Language.{language}
use Rattle.ur_parse_embed_code.specs.Filled.{OpensBeyond, OpensBehind}
use Rattle.ur_parse_embed_code.proofs.Completed.{within_or_over}

con_small : (p : c.ConPart) → con_cost p ≤ 1
con_small (c.con place) = omega arith
con_small _ = omega arith

exp_small : (p : e.ExpPart) → exp_cost p ≤ 1
exp_small e.exp = omega arith
exp_small _ = omega arith

sql_small : (p : s.SqlPart) → sql_cost p ≤ 1
sql_small (s.sexp bare) = omega arith
sql_small _ = omega arith

xml_small : (p : x.XmlPart) → xml_cost p ≤ 1
xml_small x.element = omega arith
xml_small _ = omega arith

-- each part counts once at most
small : (p : Part) → language.cost p ≤ 1
small (of_con p) = con_small p
small (of_exp p) = exp_small p
small (of_sql q p) = sql_small p
small (of_xml q p) = xml_small p
small (of_decl p) = omega arith
small (of_quote q) = omega arith
small (of_code p) = omega arith

trim : (m : ℕ) (slots : List (Slot Part)) (ts : List Lexeme) → Open language slots ts m → (j : ℕ) → 1 ≤ j → j ≤ m → OpensBehind j slots ts
trim m slots ts (here {p = p} {slots = rest}) j a b = let l = small p in
    let z : language.cost p ≡ j = omega (arith, a, b, l) in ([], [], refl, subst (λ y. Open language (one p ∷ rest) [] y) z here)
trim m slots ts (past {n = n} {slots = after} {inner = inner} {tokens = tokens} v d o) j a b =
    let r = trim n after tokens o j a b in (inner ++ r.0, r.1, ap (λ y. inner ++ y) r.2 ∙ sym (append_assoc inner r.0 r.1), past v d r.3)
trim m slots ts (within {n = n} {p = p} {inner = inner} {slots = after} c o) j a b =
    elim (within_or_over j (language.cost p)) [
      | inl h ↦ (let l = small p in let z : language.cost p ≡ j = omega (arith, a, h, l) in ([], ts, refl, subst (λ y. Open language (one p ∷ after) [] y) z here))
      | inr h ↦ (let l = small p in
          let r = trim n inner ts o (j - language.cost p) (omega (arith, h)) (omega (arith, b, h)) in
          let z : language.cost p + (j - language.cost p) ≡ j = omega (arith, h) in
          (r.0, r.1, r.2, subst (λ y. Open language (one p ∷ after) r.0 y) z (within c r.3)))
    ]

pub one_beyond : (n : ℕ) (slots : List (Slot Part)) (ts : List Lexeme) → OpensBeyond n slots ts → OpensBehind (n + 1) slots ts
one_beyond n slots ts o = let v = o.over in
    let r = trim o.count slots o.taken o.opens (n + 1) (omega arith) (omega (arith, v)) in
    (r.0, r.1 ++ o.rest, o.split ∙ ap (λ y. y ++ o.rest) r.2 ∙ append_assoc r.0 r.1 o.rest, r.3)
