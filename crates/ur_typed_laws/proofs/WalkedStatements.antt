-- `setCookie`, queries and changes: the walk gives what the rules say.
use Rattle.std.proofs.lemmas.List.{length-append}
use Rattle.std.proofs.lemmas.Option.{slice_get-map}
use Rattle.std.proofs.Common.{inl, inr, ◌⊎◌, ◌≡◌, ◌∙◌, refl, sym, ap, ap₂, subst, true, Option, Some, None, List, [], ◌∷◌, ◌++◌, ℕ, zero, suc, ◌+◌, length, map}
use Rattle.std.specs.Prelude.{◌≤◌, nat_le, set, option_map, option_and_then, slice_get}
use mathlib.Core.List.{append_assoc}
use mathlib.Core.Former.{Count}
use Rattle.ur_base.specs.Shape.{Shape, count}
use Rattle.ur_base.specs.declared.refusal.Span.{Span}
use Rattle.ur_syntax.specs.declared.con.Con.{Con}
use Rattle.ur_syntax.specs.declared.sql.DeclName.{DeclName}
use Rattle.ur_syntax.specs.declared.sql.SqlQuery.{SqlQuery}
use Rattle.ur_syntax.specs.declared.sql.SqlChange.{SqlChange}
use Rattle.ur_syntax.specs.declared.exp.Binder.{Binder}
use Rattle.ur_syntax.specs.declared.exp.Param.TheVariants as written_param
use Rattle.ur_syntax.specs.declared.exp.LambdaParam.{LambdaParam}
use Rattle.ur_syntax.specs.declared.exp.LambdaParam.TheVariants as lambda_param
use Rattle.ur_syntax.specs.declared.exp.QueryWord.{QueryWord}
use Rattle.ur_syntax.specs.declared.exp.ExpForm.{ExpForm, Row_of-Exp, end_of-Exp as alone, more_of-Exp as its, Row_of-Field}
use Rattle.ur_syntax.specs.declared.exp.ExpForm.TheVariants as e
use Rattle.ur_values.specs.declared.schema.ColumnKind.{ColumnKind}
use Rattle.ur_values.specs.declared.schema.ColumnKind.TheVariants as kind
use Rattle.ur_terms.specs.declared.term.AnswerForm.{AnswerForm}
use Rattle.ur_sql.specs.declared.query.Query.{Query}
use Rattle.ur_sql.specs.declared.change.Change.{Change}
use Rattle.ur_rows.specs.declared.normal.Normal.{Normal}
use Rattle.ur_rows.specs.declared.normal.NormalType.{NormalType}
use Rattle.ur_rows.specs.declared.normal.Part.{Part as RowPart}
use Rattle.ur_rows.specs.Made.{unit, record_of}
use Rattle.ur_rows.specs.Nodes.{nodes}
use Rattle.ur_rows.specs.Normal.{nf}
use Rattle.ur_rows.specs.Put.{as_type}
use Rattle.ur_rows.specs.Types.{transaction_of}
use Rattle.ur_tree.specs.Places.{sort_of, Sort}
use Rattle.ur_tree.specs.Scalars.{kind_type}
use Rattle.ur_tree.specs.QueryRow.{query_row}
use Rattle.ur_sqltype.specs.Lists.{and_then, all_of}
use Rattle.ur_sqltype.specs.Table.{column_type_kind}
use Rattle.ur_sqltype.specs.Query.{query_of}
use Rattle.ur_sqltype.specs.IsQuery.{IsQuery}
use Rattle.ur_sqltype.specs.Change.{change_of, IsChange}
use Rattle.ur_tree.specs.declared.exp.Exp.{Exp}
use Rattle.ur_tree.specs.declared.exp.Exp.TheVariants as exp
use Rattle.ur_tree.specs.declared.exp.Exp.TheBlock.{Row_of-Exp as Row_of-Resolved, end_of-Exp as no_more, more_of-Exp as one_more}
use Rattle.ur_tree.specs.Make as make
use Rattle.ur_tree.specs.Env.{Env, with_value}
use Rattle.ur_tree.specs.Occurrences.{Occurrence, site, update, occurrences, occurrences_of}
use Rattle.ur_tree.specs.Typing.{Accepts, AreFound, answer_type}
use Rattle.ur_typed_rules.specs.Names.{Names, WritesType, declared, name_of, with_local, bound_name}
use Rattle.ur_typed_rules.specs.Names as here
use Rattle.ur_typed_rules.specs.Scopes.{World, Scope, Mode, finds, wants, within_binder, of_transaction}
use Rattle.ur_typed_rules.specs.Tests.{same_type}
use Rattle.ur_typed.specs.Resolves.{Statements, IsCookieRecord, IsAnswer}
use Rattle.ur_typed.specs.Resolves as resolves
use Rattle.ur_typed.specs.Typed.{sites_in, updates_in, CountsFrom}
use Rattle.ur_typed.specs.Rules.{Sites, Out, Args, gives, fits, cookie_at, Antiquotes, with_antiquote, with_query_slot, with_change_slot, with_query, with_change, query_at, change_at, answer_of, row_param, rows_out}
use Rattle.ur_typed.specs.Walking.{walk, typed, antiquotes_walk, cookie_field_walk}
use Rattle.ur_typed_rules.specs.Rules.{if_so, small_type}
use Rattle.ur_typed_rules.proofs.Options.{then_some, some_of}
use Rattle.ur_typed_laws.specs.Judged.{Fills, Numbered, stated, Judged}
use Rattle.ur_typed_laws.proofs.Numbers.{numbered_none, numbered_end, numbered_both, set_slot}
use Rattle.ur_typed_laws.proofs.Stating.{query_numbered, change_numbered, columns_of, params_of, asked_of, written_of, rows_at, shown_rows, each_of}
use Rattle.ur_typed_laws.specs.Walked.{scope_at, out_of, Starts, IsWalked, Walks}
use Rattle.ur_typed_laws.proofs.Walked.{so_true, within, typed_by, same_self, starts_left, starts_right, starts_end, IsFound, found_by, cookie_there}
use Rattle.ur_typed_laws.proofs.Queried.{query_back, change_back}

-- ---- `setCookie`

cookie_walk_is : (w : World) (n : Count) (fs : Row_of-Field n) (y : ExpForm) → IsCookieRecord n fs y → (s : Scope) (st : Sites) (m : Mode) → cookie_field_walk w fs s st m ≡ typed w y s st m
cookie_walk_is w _ _ y resolves.IsCookieRecord.literally s st m = refl

abbrev kept_of : ℕ → Out → Option Out
kept_of c o = gives (transaction_of unit) (make.set_cookie c o.exp) o.sites

abbrev setting : World → {n : _} → Row_of-Field n → Scope → Sites → ℕ × ColumnKind → Option Out
setting w fs s st c = option_and_then (kept_of c.0) (cookie_field_walk w fs s st (wants (kind_type c.1)))

pub set_cookie_walked : (w : World) (d : Statements) (names : Names) (x : DeclName) (c : ℕ) (p : Span) (n : Shape) (fs : Row_of-Field (count n)) (y : ExpForm) (b : Exp) → declared w.globals (name_of x) w.globals.cookies ≡ Some c → IsCookieRecord _ fs y → Walks w d names y b →
    Walks w d names (e.SetCookie' x tt (its p (e.Record' n fs) alone)) (make.set_cookie c b)
set_cookie_walked w d names x c p n fs y b ec lit k env m t j st g u =
    let s : Scope = scope_at names env in
    let f : ExpForm = e.SetCookie' x tt (its p (e.Record' n fs) alone) in
    let v : Exp = make.set_cookie c b in
    let q : IsFound (stated d w) s m v t = found_by (stated d w) s m v t refl j in
    let kd : ColumnKind = q.rule.0 in
    let i : IsWalked w d y s st (wants (kind_type kd)) b (kind_type kd) = k env (wants (kind_type kd)) (kind_type kd) (refl, q.rule.2.0, q.rule.2.1) st g (starts_end (occurrences b) u) in
    let h : walk w f s st m ≡ Some (out_of t v i.sites) =
    then_some (setting w fs s st) (cookie_at w x) (c, kd) _ (cookie_there w x c kd ec q.rule.1)
    (then_some (kept_of c) (cookie_field_walk w fs s st (wants (kind_type kd))) (out_of (kind_type kd) b i.sites) _ (cookie_walk_is w _ fs y lit s st (wants (kind_type kd)) ∙ i.walked) (ap (λ z. Some (out_of z v i.sites)) (sym q.rule.3))) in
    record { sites = i.sites; walked = typed_by w f s st m (out_of t v i.sites) h q.accepts q.fit; fills = i.fills; numbered = numbered_end i.numbered }

-- ---- antiquotes

abbrev pub shaped_exps : {n : _} → Row_of-Resolved n → Args
shaped_exps no_more = ([], no_more)
shaped_exps (one_more b rest) = (tt ∷ (shaped_exps rest).0, one_more b (shaped_exps rest).1)

pub exps_shaped : (q : Shape) (out : Row_of-Resolved (count q)) → ◌≡◌ {A = Args} (shaped_exps out) (q, out)
exps_shaped [] no_more = refl
exps_shaped (tt ∷ q) (one_more b rest) = ap (λ z. (tt ∷ z.0, one_more b z.1)) (exps_shaped q rest)

-- each antiquote gives what the rules say
pub data RowWalks (w : World) (d : Statements) (names : Names) : (n : Count) → Row_of-Exp n → (m : Count) → Row_of-Resolved m → Type 0 where
  row_none : RowWalks w d names _ alone _ no_more
  row_one : {p : Span} {x : ExpForm} {b : Exp} {n m : Count} {rest : Row_of-Exp n} {out : Row_of-Resolved m} → Walks w d names x b → RowWalks w d names _ rest _ out → RowWalks w d names _ (its p x rest) _ (one_more b out)

record RowIsWalked (w : World) (d : Statements) (n : Count) (xs : Row_of-Exp n) (s : Scope) (st : Sites) (k : Count) (out : Row_of-Resolved k) (ts : List NormalType) : Type 0 where
  sites : Sites
  walked : antiquotes_walk w xs s st ≡ Some (record { types = ts; exps = shaped_exps out; sites = sites })
  fills : Fills w d sites
  numbered : Numbered st (occurrences_of out) sites

row_walked : (w : World) (d : Statements) (names : Names) (env : Env) (n : Count) (xs : Row_of-Exp n) (k : Count) (out : Row_of-Resolved k) (ts : List NormalType) → RowWalks w d names n xs k out → AreFound (stated d w).declared w.most env out ts → (st : Sites) → Fills w d st → Starts st (occurrences_of out) →
    RowIsWalked w d n xs (scope_at names env) st k out ts
row_walked w d names env _ _ _ _ ts row_none h st g u = subst (λ z. RowIsWalked w d _ alone (scope_at names env) st _ no_more z) (sym h) (record { sites = st; walked = refl; fills = g; numbered = numbered_none st })
row_walked w d names env _ _ _ _ ts (row_one {p = p} {x = x} {b = b} {n = n} {m = k} {rest = rest} {out = out} kx kr) h st g u =
    let s : Scope = scope_at names env in
    let i : IsWalked w d x s st finds b h.0 = kx env finds h.0 (h.3, h.4) st g (starts_left (occurrences b) (occurrences_of out) u) in
    let v : RowIsWalked w d n rest s i.sites k out h.1 = row_walked w d names env n rest k out h.1 kr h.5 i.sites i.fills (starts_right (occurrences b) (occurrences_of out) u i.numbered) in
    subst (λ z. RowIsWalked w d _ (its p x rest) s st _ (one_more b out) z) (sym h.2)
    (record { sites = v.sites; walked = then_some _ _ (out_of h.0 b i.sites) _ i.walked (ap (option_map (with_antiquote (out_of h.0 b i.sites))) v.walked); fills = v.fills; numbered = numbered_both i.numbered v.numbered })

kind_back : (k : ColumnKind) → column_type_kind (kind_type k) ≡ Some k
kind_back kind.Int = refl
kind_back kind.Str = refl
kind_back kind.Bool = refl
kind_back kind.OptInt = refl
kind_back kind.OptStr = refl
kind_back kind.OptBool = refl

kinds_back : (ks : List ColumnKind) → all_of column_type_kind (map kind_type ks) ≡ Some ks
kinds_back [] = refl
kinds_back (k ∷ ks) = ap₂ and_then (kind_back k) (kinds_back ks)

-- ---- slots

slot_filled : {A : Type 0} (xs : List (Option A)) (n : ℕ) (a : A) → slice_get (xs ++ None ∷ []) n ≡ Some (Some a) → slice_get xs n ≡ Some (Some a)
slot_filled [] n a h = no_slot n h where
  no_slot : (k : ℕ) → slice_get (None ∷ []) k ≡ Some (Some a) → slice_get [] k ≡ Some (Some a)
  no_slot zero i = cc
  no_slot (suc k) i = i
slot_filled (x ∷ xs) zero a h = h
slot_filled (x ∷ xs) (suc n) a h = slot_filled xs n a h

query_slot_fills : (w : World) (d : Statements) (st : Sites) → Fills w d st → Fills w d (with_query_slot st)
query_slot_fills w d st g = record { names = g.names; queries = λ n q h. g.queries n q (slot_filled st.queries n q h); changes = g.changes }

change_slot_fills : (w : World) (d : Statements) (st : Sites) → Fills w d st → Fills w d (with_change_slot st)
change_slot_fills w d st g = record { names = g.names; queries = g.queries; changes = λ n q h. g.changes n q (slot_filled st.changes n q h) }

-- behind one number more
counts_slot : {A : Type 0} (xs : List (Option A)) (ns : List ℕ) → CountsFrom (length xs + 1) ns → CountsFrom (length (xs ++ None ∷ [])) ns
counts_slot xs ns h = subst (λ z. CountsFrom z ns) (sym (length-append xs (None ∷ []))) h

query_starts : {st : Sites} (n : ℕ) (os : List Occurrence) → Starts st (site n ∷ os) → (n ≡ length st.queries) × Starts (with_query_slot st) os
query_starts {st} n os u = (u.sites.0, record { sites = counts_slot st.queries (sites_in os) u.sites.1; updates = u.updates })

change_starts : {st : Sites} (n : ℕ) (os : List Occurrence) → Starts st (update n ∷ os) → (n ≡ length st.changes) × Starts (with_change_slot st) os
change_starts {st} n os u = (u.updates.0, record { sites = u.sites; updates = counts_slot st.changes (updates_in os) u.updates.1 })

-- what stands in a place behind its filling is what stood there, or the filling
got_else : {A : Type 0} (xs ys : List (Option A)) (a : A) (n : ℕ) (b : A) → slice_get (xs ++ Some a ∷ ys) n ≡ Some (Some b) → (slice_get (xs ++ None ∷ ys) n ≡ Some (Some b)) ⊎ ((n ≡ length xs) × (b ≡ a))
got_else [] ys a zero b h = inr (refl, some_of (some_of (sym h)))
got_else [] ys a (suc n) b h = inl h
got_else (x ∷ xs) ys a zero b h = inl h
got_else (x ∷ xs) ys a (suc n) b h = elim (got_else xs ys a n b h) [ inl i ↦ inl i | inr i ↦ inr (ap (λ z. suc z) i.0, i.1) ]

slots_are : {A : Type 0} (xs all ys : List (Option A)) → all ≡ (xs ++ None ∷ []) ++ ys → all ≡ xs ++ None ∷ ys
slots_are xs all ys h = h ∙ append_assoc xs (None ∷ []) ys

query_fills : (w : World) (d : Statements) (st su : Sites) (os : List Occurrence) (c : Query) → Numbered (with_query_slot st) os su → Fills w d su → slice_get d.queries (length st.queries) ≡ Some c → Fills w d (with_query (length st.queries) c su)
query_fills w d st su os c n g th = record {
  names = g.names;
  changes = g.changes;
  queries = λ k q h.
      let l : su.queries ≡ st.queries ++ None ∷ n.queries = slots_are st.queries su.queries n.queries n.all_queries in
      let v : slice_get (st.queries ++ Some c ∷ n.queries) k ≡ Some (Some q) = sym (ap (λ z. slice_get z k) (ap (λ z. set z (length st.queries) (Some c)) l ∙ set_slot st.queries n.queries c)) ∙ h in
      elim (got_else st.queries n.queries c k q v) [
        | inl i ↦ g.queries k q (ap (λ z. slice_get z k) l ∙ i)
        | inr i ↦ ap (slice_get d.queries) i.0 ∙ (th ∙ ap Some (sym i.1))
      ];
}

change_fills : (w : World) (d : Statements) (st su : Sites) (os : List Occurrence) (c : Change) → Numbered (with_change_slot st) os su → Fills w d su → slice_get d.changes (length st.changes) ≡ Some c → Fills w d (with_change (length st.changes) c su)
change_fills w d st su os c n g th = record {
  names = g.names;
  queries = g.queries;
  changes = λ k q h.
      let l : su.changes ≡ st.changes ++ None ∷ n.changes = slots_are st.changes su.changes n.changes n.all_changes in
      let v : slice_get (st.changes ++ Some c ∷ n.changes) k ≡ Some (Some q) = sym (ap (λ z. slice_get z k) (ap (λ z. set z (length st.changes) (Some c)) l ∙ set_slot st.changes n.changes c)) ∙ h in
      elim (got_else st.changes n.changes c k q v) [
        | inl i ↦ g.changes k q (ap (λ z. slice_get z k) l ∙ i)
        | inr i ↦ ap (slice_get d.changes) i.0 ∙ (th ∙ ap Some (sym i.1))
      ];
}

-- ---- a query in its place

-- the query at the place that it takes, with its antiquotes
record IsAsked (w : World) (d : Statements) (s : Scope) (st : Sites) (n : Shape) (args : Row_of-Exp (count n)) (q : SqlQuery) (c : Query) (k : Shape) (out : Row_of-Resolved (count k)) : Type 0 where
  row : RowIsWalked w d _ args s (with_query_slot st) _ out (map kind_type c.params)
  core : query_at w q (record { types = map kind_type c.params; exps = shaped_exps out; sites = row.sites }) ≡ Some c
  fills : Fills w d (with_query (length st.queries) c row.sites)
  numbered : Numbered st (site (length st.queries) ∷ occurrences_of out) (with_query (length st.queries) c row.sites)

-- the columns of a statement by its number
query_columns : (w : World) (d : Statements) (n : ℕ) (c : Query) (k : List ColumnKind × List RowPart) → slice_get d.queries n ≡ Some c → slice_get (stated d w).declared.queries n ≡ Some k → k ≡ (c.params, query_row w.fields c)
query_columns w d n c k h i = some_of (sym i ∙ (slice_get-map (columns_of w) d.queries n ∙ ap (option_map (columns_of w)) h))

change_columns : (w : World) (d : Statements) (n : ℕ) (c : Change) (k : List ColumnKind) → slice_get d.changes n ≡ Some c → slice_get (stated d w).declared.changes n ≡ Some k → k ≡ c.params
change_columns w d n c k h i = some_of (sym i ∙ (slice_get-map params_of d.changes n ∙ ap (option_map params_of) h))

is_asked : (w : World) (d : Statements) (names : Names) (env : Env) (st : Sites) (n : Shape) (args : Row_of-Exp (count n)) (q : SqlQuery) (c : Query) (k : Shape) (out : Row_of-Resolved (count k)) → RowWalks w d names _ args _ out → AreFound (stated d w).declared w.most env out (map kind_type c.params) →
    slice_get d.queries (length st.queries) ≡ Some c → IsQuery w.globals.home w.globals.tables d.names c.params q c → Fills w d st → Starts (with_query_slot st) (occurrences_of out) → IsAsked w d (scope_at names env) st n args q c k out
is_asked w d names env st n args q c k out kr f th core g u =
    let r : RowIsWalked w d _ args (scope_at names env) (with_query_slot st) _ out (map kind_type c.params) = row_walked w d names env _ args _ out (map kind_type c.params) kr f (with_query_slot st) (query_slot_fills w d st g) u in
    let i : IsQuery w.globals.home w.globals.tables w.fields c.params q c = subst (λ z. IsQuery w.globals.home w.globals.tables z c.params q c) g.names core in
    record {
      row = r;
      core = then_some (λ ks. query_of w.globals.home w.globals.tables w.fields ks q) (all_of column_type_kind (map kind_type c.params)) c.params (Some c)
          (kinds_back c.params) (query_back w.globals.home w.globals.tables w.fields c.params q c i);
      fills = query_fills w d st r.sites (occurrences_of out) c r.numbered r.fills th;
      numbered = query_numbered st r.sites (occurrences_of out) c r.numbered;
    }

answer_is : (how : QueryWord) (a : AnswerForm) → IsAnswer how a → answer_of how ≡ a
answer_is _ _ resolves.IsAnswer.all = refl
answer_is _ _ resolves.IsAnswer.one = refl
answer_is _ _ resolves.IsAnswer.one_or_none = refl

query_at_place : (w : World) (d : Statements) (names : Names) (how : QueryWord) (q : SqlQuery) (st : Sites) (c : Query) (n : Shape) (args : Row_of-Exp (count n)) (k : Shape) (out : Row_of-Resolved (count k)) → slice_get d.queries (length st.queries) ≡ Some c → IsQuery w.globals.home w.globals.tables d.names c.params q c →
    RowWalks w d names _ args _ out → (env : Env) (m : Mode) (t : NormalType) → Judged (stated d w) (scope_at names env) m (exp.Ask' (answer_of how) (length st.queries) k out) t → Fills w d st → Starts (with_query_slot st) (occurrences_of out) →
    IsWalked w d (e.Query' how q n args) (scope_at names env) st m (exp.Ask' (answer_of how) (length st.queries) k out) t
query_at_place w d names how q st c n args k out th core kr env m t j g u =
    let s : Scope = scope_at names env in
    let f : ExpForm = e.Query' how q n args in
    let v : Exp = exp.Ask' (answer_of how) (length st.queries) k out in
    let z : IsFound (stated d w) s m v t = found_by (stated d w) s m v t refl j in
    let cs : z.rule.0 ≡ (c.params, query_row w.fields c) = query_columns w d (length st.queries) c z.rule.0 th z.rule.1 in
    let fd : AreFound (stated d w).declared w.most env out (map kind_type c.params) = subst (λ (y : List ColumnKind × List RowPart). AreFound (stated d w).declared w.most env out (map kind_type y.0)) cs z.rule.2 in
    let et : t ≡ transaction_of (answer_type (answer_of how) (query_row w.fields c)) = z.rule.3 ∙ ap (λ (y : List ColumnKind × List RowPart). transaction_of (answer_type (answer_of how) y.1)) cs in
    let a : IsAsked w d s st n args q c k out = is_asked w d names env st n args q c k out kr fd th core g u in
    let sv : Sites = with_query (length st.queries) c a.row.sites in
    let aq : Antiquotes = record { types = map kind_type c.params; exps = shaped_exps out; sites = a.row.sites } in
    let h : walk w f s st m ≡ Some (out_of t v sv) =
    then_some _ _ aq _ a.row.walked (then_some (asked_of w how st aq) _ c _ a.core
    (ap₂ (λ y (i : Args). Some (out_of y (exp.Ask' (answer_of how) (length st.queries) i.0 i.1) sv)) (sym et) (exps_shaped k out))) in
    record { sites = sv; walked = typed_by w f s st m (out_of t v sv) h z.accepts z.fit; fills = a.fills; numbered = a.numbered }

pub query_walked : (w : World) (d : Statements) (names : Names) (how : QueryWord) (a : AnswerForm) (q : SqlQuery) (i : ℕ) (c : Query) (n : Shape) (args : Row_of-Exp (count n)) (k : Shape) (out : Row_of-Resolved (count k)) → IsAnswer how a → slice_get d.queries i ≡ Some c →
    IsQuery w.globals.home w.globals.tables d.names c.params q c → RowWalks w d names _ args _ out → Walks w d names (e.Query' how q n args) (exp.Ask' a i k out)
query_walked w d names how a q i c n args k out ia th core kr env m t j st g u =
    let x : (i ≡ length st.queries) × Starts (with_query_slot st) (occurrences_of out) = query_starts i (occurrences_of out) u in
    let b : exp.Ask' (answer_of how) (length st.queries) k out ≡ exp.Ask' a i k out = ap₂ (λ y z. exp.Ask' y z k out) (answer_is how a ia) (sym x.0) in
    subst (λ y. IsWalked w d (e.Query' how q n args) (scope_at names env) st m y t) b
    (query_at_place w d names how q st c n args k out (ap (slice_get d.queries) (sym x.0) ∙ th) core kr env m t (subst (λ y. Judged (stated d w) (scope_at names env) m y t) (sym b) j) g x.1)

-- ---- changes

pub change_walked : (w : World) (d : Statements) (names : Names) (u : SqlChange) (i : ℕ) (c : Change) (n : Shape) (args : Row_of-Exp (count n)) (k : Shape) (out : Row_of-Resolved (count k)) → slice_get d.changes i ≡ Some c → IsChange w.globals.home w.globals.tables c.params u c → RowWalks w d names _ args _ out →
    Walks w d names (e.Dml' u n args) (exp.Write' i k out)
change_walked w d names u i c n args k out th core kr env m t j st g z =
    let x : (i ≡ length st.changes) × Starts (with_change_slot st) (occurrences_of out) = change_starts i (occurrences_of out) z in
    let s : Scope = scope_at names env in
    let f : ExpForm = e.Dml' u n args in
    let v : Exp = exp.Write' i k out in
    let y : IsFound (stated d w) s m v t = found_by (stated d w) s m v t refl j in
    let cs : y.rule.0 ≡ c.params = change_columns w d i c y.rule.0 th y.rule.1 in
    let fd : AreFound (stated d w).declared w.most env out (map kind_type c.params) = subst (λ q. AreFound (stated d w).declared w.most env out (map kind_type q)) cs y.rule.2 in
    let r : RowIsWalked w d _ args s (with_change_slot st) _ out (map kind_type c.params) = row_walked w d names env _ args _ out (map kind_type c.params) kr fd (with_change_slot st) (change_slot_fills w d st g) x.1 in
    let a : Antiquotes = record { types = map kind_type c.params; exps = shaped_exps out; sites = r.sites } in
    let sv : Sites = with_change (length st.changes) c r.sites in
    let th' : slice_get d.changes (length st.changes) ≡ Some c = ap (slice_get d.changes) (sym x.0) ∙ th in
    let ec : change_at w u a ≡ Some c = then_some (λ ks. change_of w.globals.home w.globals.tables ks u) (all_of column_type_kind (map kind_type c.params))
    c.params (Some c) (kinds_back c.params) (change_back w.globals.home w.globals.tables c.params u c core) in
    let out_is : exp.Write' (length st.changes) (shaped_exps out).0 (shaped_exps out).1 ≡ v = ap₂ (λ q (b : Args). exp.Write' q b.0 b.1) (sym x.0) (exps_shaped k out) in
    let h : walk w f s st m ≡ Some (out_of t v sv) =
    then_some _ _ a _ r.walked (then_some (written_of st a) (change_at w u a) c _ ec (ap₂ (λ q b. Some (out_of q b sv)) (sym y.rule.3) out_is)) in
    record {
      sites = sv;
      walked = typed_by w f s st m (out_of t v sv) h y.accepts y.fit;
      fills = change_fills w d st r.sites (occurrences_of out) c r.numbered r.fills th';
      numbered = subst (λ q. Numbered st (update q ∷ occurrences_of out) sv) (sym x.0) (change_numbered st r.sites (occurrences_of out) c r.numbered);
    }

-- ---- `queryX`

-- the rows are walked in the body of this function
record IsEach (w : World) (s : Scope) (m : Mode) (i : ℕ) (k : Shape) (out : Row_of-Resolved (count k)) (x : Binder) (b : Exp) (t : NormalType) : Type 0 where
  columns : List ColumnKind × List RowPart
  body : NormalType
  sort : Sort
  there : slice_get w.declared.queries i ≡ Some columns
  found : AreFound w.declared w.most s.env out (map kind_type columns.0)
  inside : Judged w (within_binder x (record_of columns.1) s) (of_transaction m) b body
  sorted : sort_of body ≡ Some sort
  is : t ≡ transaction_of body
  accepts : Accepts w.most (make.each i k out b) t
  fit : fits m t ≡ true

each_judged : (w : World) (s : Scope) (m : Mode) (i : ℕ) (k : Shape) (out : Row_of-Resolved (count k)) (x : Binder) (b : Exp) (t : NormalType) → Judged w s m (make.each i k out b) t → IsEach w s m i k out x b t
each_judged w s finds i k out x b t j = record { columns = j.0.0; body = j.0.1; sort = j.0.5.0; there = j.0.2; found = j.0.3; inside = (j.0.4.0, j.0.4.1); sorted = j.0.5.1; is = j.0.6; accepts = j.1; fit = refl }
each_judged w s (wants v) i k out x b t j = record {
  columns = j.1.0;
  body = j.1.1;
  sort = j.1.5.0;
  there = j.1.2;
  found = j.1.3;
  inside = subst (λ z. Judged w (within_binder x (record_of j.1.0.1) s) (of_transaction (wants z)) b j.1.1) (sym j.1.6) (refl, j.1.4.0, j.1.4.1);
  sorted = j.1.5.1;
  is = j.0 ∙ j.1.6;
  accepts = subst (λ z. Accepts w.most (make.each i k out b) z) (sym j.0) j.2;
  fit = same_self t v j.0;
}

each_walked : (w : World) (d : Statements) (names : Names) (q : SqlQuery) (i : ℕ) (c : Query) (n : Shape) (args : Row_of-Exp (count n)) (k : Shape) (out : Row_of-Resolved (count k)) (p o : Span) (ps : List LambdaParam) (x : Binder) (y : ExpForm) (b : Exp) → slice_get d.queries i ≡ Some c →
    IsQuery w.globals.home w.globals.tables d.names c.params q c → RowWalks w d names _ args _ out → ((s : Scope) → s.names ≡ names → d.names ≡ w.fields → row_param w s (query_row w.fields c) ps ≡ Some x) → Walks w d (with_local (here.value (bound_name x)) names) y b →
    Walks w d names (e.QueryX' q n args tt (its p (e.Lambda' ps tt (its o y alone)) alone)) (make.each i k out b)
each_walked w d names q i c n args k out p o ps x y b th core kr kp ky env m t j st g u =
    let s : Scope = scope_at names env in
    let f : ExpForm = e.QueryX' q n args tt (its p (e.Lambda' ps tt (its o y alone)) alone) in
    let v : Exp = make.each i k out b in
    let ob : List Occurrence = occurrences b ++ [] in
    let l : (i ≡ length st.queries) × Starts (with_query_slot st) (occurrences_of out ++ ob) = query_starts i (occurrences_of out ++ ob) u in
    let z : IsEach (stated d w) s m i k out x b t = each_judged (stated d w) s m i k out x b t j in
    let cs : z.columns ≡ (c.params, query_row w.fields c) = query_columns w d i c z.columns th z.there in
    let fd : AreFound (stated d w).declared w.most env out (map kind_type c.params) = subst (λ (r : List ColumnKind × List RowPart). AreFound (stated d w).declared w.most env out (map kind_type r.0)) cs z.found in
    let th' : slice_get d.queries (length st.queries) ≡ Some c = ap (slice_get d.queries) (sym l.0) ∙ th in
    let a : IsAsked w d s st n args q c k out = is_asked w d names env st n args q c k out kr fd th' core g (starts_left (occurrences_of out) ob l.1) in
    let aq : Antiquotes = record { types = map kind_type c.params; exps = shaped_exps out; sites = a.row.sites } in
    let su : Sites = with_query (length st.queries) c a.row.sites in
    let jb : Judged (stated d w) (within_binder x (record_of (query_row w.fields c)) s) (of_transaction m) b z.body = subst (λ (r : List ColumnKind × List RowPart). Judged (stated d w) (within_binder x (record_of r.1) s) (of_transaction m) b z.body) cs z.inside in
    let sb : Starts su ob = starts_right (site (length st.queries) ∷ occurrences_of out) ob (subst (λ r. Starts st (site r ∷ (occurrences_of out ++ ob))) l.0 u) a.numbered in
    let ib : IsWalked w d y (within_binder x (record_of (query_row w.fields c)) s) su (of_transaction m) b z.body = ky (with_value (record_of (query_row w.fields c)) env) (of_transaction m) z.body jb su a.fills (starts_end (occurrences b) sb) in
    let out_is : make.each (length st.queries) (shaped_exps out).0 (shaped_exps out).1 b ≡ v = ap₂ (λ r (h : Args). make.each r h.0 h.1 b) (sym l.0) (exps_shaped k out) in
    let h : walk w f s st m ≡ Some (out_of t v ib.sites) =
    then_some _ _ aq _ a.row.walked (then_some (each_of w s st m p (e.Lambda' ps tt (its o y alone)) aq) (query_at w q aq) c _ a.core
    (then_some (rows_out st aq) _ (out_of z.body b ib.sites) _ (then_some (rows_at w s st m aq c y) (row_param w s (query_row w.fields c) ps) x _ (kp s refl g.names) ib.walked)
    (then_some (shown_rows st aq (out_of z.body b ib.sites)) (sort_of z.body) z.sort _ z.sorted (ap₂ (λ r h. Some (out_of r h ib.sites)) (sym z.is) out_is)))) in
    record {
      sites = ib.sites;
      walked = typed_by w f s st m (out_of t v ib.sites) h z.accepts z.fit;
      fills = ib.fills;
      numbered = subst (λ r. Numbered st (site r ∷ (occurrences_of out ++ ob)) ib.sites) (sym l.0) (numbered_both a.numbered (numbered_end ib.numbered));
    }

pub bare_each_walked : (w : World) (d : Statements) (names : Names) (q : SqlQuery) (i : ℕ) (c : Query) (n : Shape) (args : Row_of-Exp (count n)) (k : Shape) (out : Row_of-Resolved (count k)) (p o : Span) (x : Binder) (y : ExpForm) (b : Exp) → slice_get d.queries i ≡ Some c →
    IsQuery w.globals.home w.globals.tables d.names c.params q c → RowWalks w d names _ args _ out → Walks w d (with_local (here.value (bound_name x)) names) y b →
    Walks w d names (e.QueryX' q n args tt (its p (e.Lambda' (lambda_param.Bare x ∷ []) tt (its o y alone)) alone)) (make.each i k out b)
bare_each_walked w d names q i c n args k out p o x y b th core kr ky = each_walked w d names q i c n args k out p o (lambda_param.Bare x ∷ []) x y b th core kr (λ s en ef. refl) ky

typed_row_param : (w : World) (s : Scope) (r : List RowPart) (x : Binder) (c : Con) → WritesType w.most s.names.cons c (record_of r) → row_param w s r (lambda_param.Typed (written_param.Value x c) ∷ []) ≡ Some x
typed_row_param w s r x c k =
    let n : Normal = nf s.names.cons c in
    let i : record_of r ≡ as_type n = k.2 ∙ ap as_type k.1.form in
    let a : nat_le (nodes n) w.most ≡ true = within (nodes n) w.most (subst (λ z. nodes z ≤ w.most) k.1.form k.1.small) in
    then_some (λ t. if_so (same_type t (record_of r)) (Some x)) (small_type w.most n) (as_type n) (Some x) (so_true (nat_le (nodes n) w.most) (Some (as_type n)) a) (so_true (same_type (as_type n) (record_of r)) (Some x) (same_self (as_type n) (record_of r) (sym i)))

pub typed_each_walked : (w : World) (d : Statements) (names : Names) (q : SqlQuery) (i : ℕ) (c : Query) (n : Shape) (args : Row_of-Exp (count n)) (k : Shape) (out : Row_of-Resolved (count k)) (p o : Span) (x : Binder) (con : Con) (r : List RowPart) (y : ExpForm) (b : Exp) → slice_get d.queries i ≡ Some c →
    IsQuery w.globals.home w.globals.tables d.names c.params q c → query_row d.names c ≡ r → WritesType w.most names.cons con (record_of r) → RowWalks w d names _ args _ out → Walks w d (with_local (here.value (bound_name x)) names) y b →
    Walks w d names (e.QueryX' q n args tt (its p (e.Lambda' (lambda_param.Typed (written_param.Value x con) ∷ []) tt (its o y alone)) alone)) (make.each i k out b)
typed_each_walked w d names q i c n args k out p o x con r y b th core er kt kr ky =
    each_walked w d names q i c n args k out p o (lambda_param.Typed (written_param.Value x con) ∷ []) x y b th core kr
    (λ s en ef.
    let e2 : r ≡ query_row w.fields c = sym er ∙ ap (λ z. query_row z c) ef in
    typed_row_param w s (query_row w.fields c) x con (subst (λ z. WritesType w.most s.names.cons con (record_of z)) e2 (subst (λ (z : Names). WritesType w.most z.cons con (record_of r)) (sym en) kt))) ky
