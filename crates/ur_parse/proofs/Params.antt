-- Parameters one behind another.
use Rattle.std.specs.Prelude.{ℕ, List, [], ◌∷◌, ◌++◌, drop, refl}
use Rattle.std.proofs.Common.{arith, inl, inr, append_assoc}
use Rattle.std.proofs.lemmas.List.{append-nil}
use Rattle.ur_base.specs.declared.refusal.Refusal.{Refusal}
use Rattle.ur_lex.specs.declared.token.Symbol.TheVariants as symbol
use Rattle.ur_lex.specs.declared.token.TokenKind.TheVariants as token
use Rattle.ur_lex.specs.declared.token.Lexeme.{Lexeme}
use Rattle.ur_syntax.specs.declared.con.ConParam.{ConParam}
use Rattle.ur_syntax.specs.declared.exp.Param.{Param}
use Rattle.ur_parse_rules.specs.Rules.{Read, Refused, no_span}
use Rattle.ur_parse_rules.specs.Places.{Moves, IsAt, Other, OfKind}
use Rattle.ur_parse_rules.proofs.Steps.{Leads, nothing, an_one, one_read, one_refused, reads_by, refused_by}
use Rattle.ur_parse_rules.proofs.Choices.{chosen_mark_at}
use Rattle.ur_parse_rules.specs.ConParts as con
use Rattle.ur_parse_rules.specs.ExpParts as exp
use Rattle.ur_parse_rules.specs.DeclParts.{con_params, params}
use Rattle.ur_parse_rules.specs.Parts.{of_con, of_exp, of_decl}
use Rattle.ur_parse_rules.specs.Language.{language}
use Rattle.ur_parse_rules.proofs.Choice.{choice}
use Rattle.ur_parse_rules.proofs.AllDecided.{decided}
use Rattle.ur_parse_rules.proofs.Places.{moves_on, missing}
use Rattle.ur_parse_con.specs.Forms.{Stays}

-- one step further on
pub stays_moves : {tokens : List Lexeme} {i j k : ℕ} → Stays tokens i j → Moves tokens j k → Stays tokens i k
stays_moves (inl e) m = inr (rw (← e) m)
stays_moves (inr o) m = inr (moves_on o m)

-- ---- constructors

pub record ConParamsRead (n : ℕ) (tokens : List Lexeme) (at end : ℕ) (qs : List ConParam) : Type 0 where
  pub leads : Leads language n (of_decl con_params) (of_decl con_params) (drop at tokens) (drop end tokens) (λ ys. qs ++ ys)

pub con_params_start : {n : ℕ} {tokens : List Lexeme} (at : ℕ) → ConParamsRead n tokens at at []
con_params_start at = record { leads = record { found = λ rest y a. a; refused = λ ref h. h } }

module _ {n : ℕ} {tokens : List Lexeme} {at end : ℕ} {qs : List ConParam} (st : ConParamsRead n tokens at end qs) where
  module _ {next : ℕ} (a : IsAt tokens end next (OfKind (token.Symbol symbol.LBracket))) where
    pub con_params_refused : {r : Refusal} → Refused language n (of_con con.con_param) (drop end tokens) r → Refused language n (of_decl con_params) (drop at tokens) r
    con_params_refused {r = r} h = st.leads.refused r (refused_by decided 1 n (omega arith) (chosen_mark_at (choice (of_decl con_params)) a (λ w s us. refl)) (one_refused h))

    pub con_params_more : (stop : ℕ) {q : ConParam} → Read language n (of_con con.con_param) (drop end tokens) (drop stop tokens) q → ConParamsRead n tokens at stop (qs ++ q ∷ [])
    con_params_more stop {q = q} h = record {
      leads = record {
        found = λ rest ys b. rw (append_assoc qs (q ∷ []) ys) (st.leads.found rest (q ∷ ys)
            (reads_by 1 n (omega arith) (record { v = (q, (ys, tt)); span = no_span; is_span = refl; allowed = refl; builds = refl; fills = an_one h (an_one b nothing) }) b.stops));
        refused = λ ref g. st.leads.refused ref (refused_by decided 1 n (omega arith) (chosen_mark_at (choice (of_decl con_params)) a (λ w s us. refl)) (one_read decided h (one_refused g)));
      };
    }

  pub con_params_done : Other tokens end (OfKind (token.Symbol symbol.LBracket)) → Read language n (of_decl con_params) (drop at tokens) (drop end tokens) qs
  con_params_done o = rw append-nil at (st.leads.found (drop end tokens) [] (reads_by 0 n (omega arith) (record { v = tt; span = no_span; is_span = refl; allowed = refl; builds = refl; fills = nothing }) (missing refl o)))

-- ---- values

pub record ParamsRead (n : ℕ) (tokens : List Lexeme) (at end : ℕ) (ps : List Param) : Type 0 where
  pub leads : Leads language n (of_decl params) (of_decl params) (drop at tokens) (drop end tokens) (λ ys. ps ++ ys)

pub params_start : {n : ℕ} {tokens : List Lexeme} (at : ℕ) → ParamsRead n tokens at at []
params_start at = record { leads = record { found = λ rest y a. a; refused = λ ref h. h } }

module _ {n : ℕ} {tokens : List Lexeme} {at end : ℕ} {ps : List Param} (st : ParamsRead n tokens at end ps) where
  module _ {next : ℕ} (a : IsAt tokens end next (OfKind (token.Symbol symbol.LParen))) where
    pub params_refused : {r : Refusal} → Refused language n (of_exp exp.param) (drop end tokens) r → Refused language n (of_decl params) (drop at tokens) r
    params_refused {r = r} h = st.leads.refused r (refused_by decided 1 n (omega arith) (chosen_mark_at (choice (of_decl params)) a (λ w s us. refl)) (one_refused h))

    pub params_more : (stop : ℕ) {p : Param} → Read language n (of_exp exp.param) (drop end tokens) (drop stop tokens) p → ParamsRead n tokens at stop (ps ++ p ∷ [])
    params_more stop {p = p} h = record {
      leads = record {
        found = λ rest ys b. rw (append_assoc ps (p ∷ []) ys) (st.leads.found rest (p ∷ ys)
            (reads_by 1 n (omega arith) (record { v = (p, (ys, tt)); span = no_span; is_span = refl; allowed = refl; builds = refl; fills = an_one h (an_one b nothing) }) b.stops));
        refused = λ ref g. st.leads.refused ref (refused_by decided 1 n (omega arith) (chosen_mark_at (choice (of_decl params)) a (λ w s us. refl)) (one_read decided h (one_refused g)));
      };
    }

  pub params_done : Other tokens end (OfKind (token.Symbol symbol.LParen)) → Read language n (of_decl params) (drop at tokens) (drop end tokens) ps
  params_done o = rw append-nil at (st.leads.found (drop end tokens) [] (reads_by 0 n (omega arith) (record { v = tt; span = no_span; is_span = refl; allowed = refl; builds = refl; fills = nothing }) (missing refl o)))
