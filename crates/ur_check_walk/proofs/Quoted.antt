-- Antiquotes, one by one, and the forms that hold them, as the definitions name them.
use Rattle.std.proofs.Common.{◌≡◌, ◌∙◌, refl, ap, ap₂, sym, subst, ℕ, ◌+◌, ◌<◌, ◌≤◌, List, [], ◌∷◌, ◌++◌, map, length, drop, get_or, drop_of_length-le, Some}
use Rattle.std.specs.Prelude.{option_map, option_and_then}
use Rattle.std.proofs.lemmas.List.{append_assoc, append-nil}
use Rattle.ur_base.specs.Shape.{Shape, count}
use Rattle.ur_base.specs.declared.refusal.Refusal.{Refusal}
use Rattle.ur_syntax.specs.declared.sql.SqlQuery.{SqlQuery}
use Rattle.ur_syntax.specs.declared.sql.SqlChange.{SqlChange}
use Rattle.ur_syntax.specs.declared.exp.QueryWord.{QueryWord}
use Rattle.ur_syntax.specs.declared.exp.Exp.{Exp}
use Rattle.ur_syntax.specs.declared.exp.ExpForm.{ExpForm, Row_of-Exp, end_of-Exp as alone, more_of-Exp as its}
use Rattle.ur_syntax.specs.declared.exp.ExpForm.TheVariants as e
use Rattle.ur_syntax.specs.declared.exp.ExpForm.TheBlock as T
use Rattle.ur_rows.specs.declared.normal.Normal.{Normal}
use Rattle.ur_rows.specs.declared.normal.Normal.TheVariants as normal
use Rattle.ur_rows.specs.declared.normal.NormalType.{NormalType}
use Rattle.ur_rows.specs.Put.{as_type}
use Rattle.ur_tree.specs.declared.exp.Exp.{Exp as Resolved}
use Rattle.ur_typed_rules.specs.Scopes.{World, Scope, finds}
use Rattle.ur_typed.specs.Rules.{Sites, Out, Antiquotes, with_antiquote}
use Rattle.ur_typed.specs.Walking.{typed, antiquotes_walk}
use Rattle.ur_typed.specs.Parts.{InAntiquotes, this_antiquote, later_antiquote}
use Rattle.ur_check_scopes.specs.declared.around.Around.{Around}
use Rattle.ur_check_scopes.specs.Views.{Stands}
use Rattle.ur_check_scopes.proofs.Loops.{drop-here, drop-none}
use Rattle.ur_check_rules.specs.declared.out.Out.{Out as HeldOut}
use Rattle.ur_check_rules.specs.declared.out.Sites.{Sites as HeldSites}
use Rattle.ur_check_rules.specs.Views.{sites_in, out_in, args_with}
use Rattle.ur_check_forms.specs.declared.statements.Antiquotes.{Antiquotes as HeldAntiquotes}
use Rattle.ur_check_walk.specs.Promises.{GivesTyped, Tells}
use Rattle.ur_check_walk.specs.Listed.{exp_row}
use Rattle.ur_check_walk.specs.Embedding.{GivesAntiquotes, TellsAntiquotes}

-- ---- forms

exp-row-made : (xs : List Exp) → ◌≡◌ {A = (s : Shape) × Row_of-Exp (count s)} (T.shape-the_row-Exp-3 xs, T.hidden-the_row-Exp-3 xs) (exp_row xs)
unfolding T.hidden-the_row-Exp-3 T.shape-the_row-Exp-3 denote.Hole.Carrier.hidden
exp-row-made [] = refl
exp-row-made (x ∷ xs) = ap (λ (k : (s : Shape) × Row_of-Exp (count s)). (tt ∷ k.0, its x.span x.form k.1)) (exp-row-made xs)

pub dml-made : (u : SqlChange) (xs : List Exp) → e.Dml u xs ≡ e.Dml' u (exp_row xs).0 (exp_row xs).1
unfolding T.shape-the_row-Exp-3
dml-made u xs = ap (λ (k : (s : Shape) × Row_of-Exp (count s)). e.Dml' u k.0 k.1) (exp-row-made xs)

pub query-made : (how : QueryWord) (q : SqlQuery) (xs : List Exp) → e.Query how q xs ≡ e.Query' how q (exp_row xs).0 (exp_row xs).1
unfolding T.shape-the_row-Exp-3
query-made how q xs = ap (λ (k : (s : Shape) × Row_of-Exp (count s)). e.Query' how q k.0 k.1) (exp-row-made xs)

pub each-made : (q : SqlQuery) (xs : List Exp) (f : Exp) → e.QueryX q xs f ≡ e.QueryX' q (exp_row xs).0 (exp_row xs).1 tt (its f.span f.form alone)
unfolding T.hidden-the_row-Exp-0 T.shape-the_row-Exp-3 denote.Hole.Carrier.hidden
each-made q xs f = ap (λ (k : (s : Shape) × Row_of-Exp (count s)). e.QueryX' q k.0 k.1 tt (its f.span f.form alone)) (exp-row-made xs)

-- ---- one antiquote after the other

-- antiquotes with these types and trees
abbrev pub quoted : List NormalType → List Resolved → Sites → Antiquotes
quoted ts es st = record { types = ts; exps = args_with es; sites = st }

-- What is found of the antiquotes that are left is so of all, behind those so far, and so is what stands in them.
pub record Leads (w : World) (s : Scope) (xs : List Exp) (before : Sites) (ys : List Exp) (st : Sites) (ts : List NormalType) (done : List Resolved) : Type 0 where
  pub found : (us : List NormalType) (es : List Resolved) (after : Sites) → antiquotes_walk w (exp_row ys).1 s st ≡ Some (quoted us es after) → antiquotes_walk w (exp_row xs).1 s before ≡ Some (quoted (ts ++ us) (done ++ es) after)
  pub inside : (su : Sites) (y : ExpForm) → InAntiquotes w s _ (exp_row ys).1 st su y → InAntiquotes w s _ (exp_row xs).1 before su y

abbrev pub AllLead : Around → List Exp → HeldSites → List Exp → HeldSites → HeldAntiquotes → Type 0
AllLead a xs before ys st held = (w : World) (s : Scope) → Stands a w s → Leads w s xs (sites_in before) ys (sites_in st) (map as_type held.types) held.exps

none-taken : (w : World) (s : Scope) (xs ys : List Exp) (st : Sites) (ns : List Normal) (done : List Resolved) → ys ≡ xs → ns ≡ [] → done ≡ [] → Leads w s xs st ys st (map as_type ns) done
none-taken w s xs ys st ns done ey en ed =
    subst (λ z. Leads w s xs st z st (map as_type ns) done) (sym ey) (subst (λ z. Leads w s xs st xs st (map as_type z) done) (sym en) (subst (λ z. Leads w s xs st xs st [] z) (sym ed) (record { found = λ us es after g. g; inside = λ su y g. g })))

pub all-first : (a : Around) (xs : List Exp) (before : HeldSites) (held : HeldAntiquotes) → held.exps ≡ [] → held.types ≡ [] → AllLead a xs before (drop 0 xs) before held
all-first a xs before held ee et w s stands = none-taken w s xs (drop 0 xs) (sites_in before) held.types held.exps (drop-none xs) et ee

one-found : (w : World) (s : Scope) (y : Exp) (ys : List Exp) (st : Sites) (o : Out) (us : List NormalType) (es : List Resolved) (after : Sites) → typed w y.form s st finds ≡ Some o → antiquotes_walk w (exp_row ys).1 s o.sites ≡ Some (quoted us es after) →
    antiquotes_walk w (exp_row (y ∷ ys)).1 s st ≡ Some (quoted (o.of ∷ us) (o.exp ∷ es) after)
one-found w s y ys st o us es after h g =
    ap (option_and_then (λ z. option_map (with_antiquote z) (antiquotes_walk w (exp_row ys).1 s z.sites))) h ∙ ap (option_map (with_antiquote o)) g

leads-step : (w : World) (s : Scope) (xs : List Exp) (before : Sites) (y : Exp) (ys : List Exp) (st : Sites) (ts : List NormalType) (done : List Resolved) (o : Out) → typed w y.form s st finds ≡ Some o →
    Leads w s xs before (y ∷ ys) st ts done → Leads w s xs before ys o.sites (ts ++ o.of ∷ []) (done ++ o.exp ∷ [])
leads-step w s xs before y ys st ts done o h leads = record {
  found = λ us es after g. leads.found (o.of ∷ us) (o.exp ∷ es) after (one-found w s y ys st o us es after h g) ∙ ap₂ (λ ks zs. Some (quoted ks zs after)) (sym (append_assoc ts (o.of ∷ []) us)) (sym (append_assoc done (o.exp ∷ []) es));
  inside = λ su z g. leads.inside su z (later_antiquote h g);
}

types-end : (ns : List Normal) (t : NormalType) → map as_type (ns ++ normal.Type t ∷ []) ≡ map as_type ns ++ t ∷ []
types-end [] t = refl
types-end (n ∷ ns) t = ap (λ z. as_type n ∷ z) (types-end ns t)

-- one antiquote more
pub all-next : (a : Around) (xs : List Exp) (i : ℕ) (y : Exp) (before st after : HeldSites) (held more : HeldAntiquotes) (o : HeldOut) → i < length xs → y ≡ get_or xs i y → GivesTyped a st y.form finds o after →
    more.exps ≡ held.exps ++ o.exp ∷ [] → more.types ≡ held.types ++ normal.Type o.of ∷ [] → AllLead a xs before (drop i xs) st held → AllLead a xs before (drop (i + 1) xs) after more
all-next a xs i y before st after held more o lt at typed ee et leads w s stands =
    let there : Leads w s xs (sites_in before) (y ∷ drop (i + 1) xs) (sites_in st) (map as_type held.types) held.exps = subst (λ z. Leads w s xs (sites_in before) z (sites_in st) (map as_type held.types) held.exps) (drop-here xs i y lt at) (leads w s stands) in
    let past : Leads w s xs (sites_in before) (drop (i + 1) xs) (sites_in after) (map as_type held.types ++ o.of ∷ []) (held.exps ++ o.exp ∷ []) = leads-step w s xs (sites_in before) y (drop (i + 1) xs) (sites_in st) (map as_type held.types) held.exps (out_in o after) (typed w s stands) there in
    let types : map as_type more.types ≡ map as_type held.types ++ o.of ∷ [] = ap (map as_type) et ∙ types-end held.types o.of in
    subst (λ z. Leads w s xs (sites_in before) (drop (i + 1) xs) (sites_in after) z more.exps) (sym types) (subst (λ z. Leads w s xs (sites_in before) (drop (i + 1) xs) (sites_in after) (map as_type held.types ++ o.of ∷ []) z) (sym ee) past)

pub all-given : (a : Around) (xs : List Exp) (i : ℕ) (before st : HeldSites) (held : HeldAntiquotes) → length xs ≤ i → AllLead a xs before (drop i xs) st held → GivesAntiquotes a before xs held st
all-given a xs i before st held end leads w s stands =
    let all : Leads w s xs (sites_in before) [] (sites_in st) (map as_type held.types) held.exps = subst (λ z. Leads w s xs (sites_in before) z (sites_in st) (map as_type held.types) held.exps) (drop_of_length-le xs end) (leads w s stands) in
    all.found [] [] (sites_in st) refl ∙ ap₂ (λ ks zs. Some (quoted ks zs (sites_in st))) (append-nil (map as_type held.types)) (append-nil held.exps)

pub all-broken : (a : Around) (xs : List Exp) (i : ℕ) (y : Exp) (before st : HeldSites) (held : HeldAntiquotes) → i < length xs → y ≡ get_or xs i y → AllLead a xs before (drop i xs) st held → (r : Refusal) → Tells a st y.form finds r → TellsAntiquotes a before xs r
all-broken a xs i y before st held lt at leads r h w s stands =
    let there : Leads w s xs (sites_in before) (y ∷ drop (i + 1) xs) (sites_in st) (map as_type held.types) held.exps = subst (λ z. Leads w s xs (sites_in before) z (sites_in st) (map as_type held.types) held.exps) (drop-here xs i y lt at) (leads w s stands) in
    record { behind = sites_in st; place = y.form; stands = there.inside (sites_in st) y.form this_antiquote; fault = h w s stands }
