-- Queries and changes: what is typed resolves, has its type by the rules, and is numbered in order.
use Rattle.std.proofs.lemmas.List.{length-append}
use Rattle.std.proofs.Common.{◌≡◌, ◌∙◌, refl, sym, ap, subst, Bool, true, false, Option, Some, None, List, [], ◌∷◌, ◌++◌, ℕ, suc, ◌+◌, length, map}
use Rattle.std.specs.Prelude.{nat_le, set, slice_get, option_map, option_and_then}
use Rattle.std.proofs.lemmas.Option.{slice_get-map}
use mathlib.Core.List.{append_assoc}
use mathlib.Core.Former.{Count}
use Rattle.ur_base.specs.Shape.{Shape, count}
use Rattle.ur_base.specs.declared.refusal.Span.{Span}
use Rattle.ur_syntax.specs.declared.sql.SqlQuery.{SqlQuery}
use Rattle.ur_syntax.specs.declared.sql.SqlChange.{SqlChange}
use Rattle.ur_syntax.specs.declared.exp.Binder.{Binder}
use Rattle.ur_syntax.specs.declared.exp.Param.TheVariants as written_param
use Rattle.ur_syntax.specs.declared.exp.LambdaParam.{LambdaParam}
use Rattle.ur_syntax.specs.declared.exp.LambdaParam.TheVariants as lambda_param
use Rattle.ur_syntax.specs.declared.exp.QueryWord.{QueryWord}
use Rattle.ur_syntax.specs.declared.exp.QueryWord.TheVariants as word
use Rattle.ur_syntax.specs.declared.exp.ExpForm.{ExpForm, Row_of-Exp, end_of-Exp as alone, more_of-Exp as its}
use Rattle.ur_syntax.specs.declared.exp.ExpForm.TheVariants as e
use Rattle.ur_values.specs.declared.schema.ColumnKind.{ColumnKind}
use Rattle.ur_values.specs.Kinds.{optional}
use Rattle.ur_sql.specs.declared.query.Query.{Query}
use Rattle.ur_sql.specs.declared.change.Change.{Change}
use Rattle.ur_rows.specs.declared.normal.NormalType.{NormalType, more_of-NormalType as its_type, end_of-NormalType as none}
use Rattle.ur_rows.specs.declared.normal.NormalType.TheVariants as ty
use Rattle.ur_rows.specs.declared.normal.Part.{Part as RowPart}
use Rattle.ur_rows.specs.Made.{unit, option_of, record_of}
use Rattle.ur_rows.specs.Nodes.{nodes}
use Rattle.ur_rows.specs.Normal.{nf}
use Rattle.ur_rows.specs.Put.{as_type}
use Rattle.ur_rows.specs.Types.{transaction_of}
use Rattle.ur_tree.specs.Places.{sort_of, Sort}
use Rattle.ur_tree.specs.Scalars.{kind_type}
use Rattle.ur_tree.specs.QueryRow.{query_row}
use Rattle.ur_sqltype.specs.Lists.{all_of}
use Rattle.ur_sqltype.specs.Table.{type_kind, column_type_kind}
use Rattle.ur_sqltype.specs.IsQuery.{IsQuery}
use Rattle.ur_sqltype.specs.Query.{query_of}
use Rattle.ur_sqltype.specs.Change.{IsChange, change_of}
use Rattle.ur_tree.specs.declared.exp.Exp.{Exp}
use Rattle.ur_tree.specs.declared.exp.Exp.TheVariants as exp
use Rattle.ur_tree.specs.declared.exp.Exp.TheBlock.{Row_of-Exp as Row_of-Resolved}
use Rattle.ur_tree.specs.Make as make
use Rattle.ur_tree.specs.Typing.{Finds, Accepts, AreFound, answer_type}
use Rattle.ur_tree.specs.Occurrences.{Occurrence, site, update, occurrences_of}
use Rattle.ur_typed_rules.specs.Names.{WritesType, with_local, bound_name}
use Rattle.ur_typed_rules.specs.Names as here
use Rattle.ur_typed_rules.specs.Scopes.{World, Scope, Mode, finds, wants, within_binder, of_transaction}
use Rattle.ur_typed_rules.specs.Tests.{same_type}
use Rattle.ur_typed.specs.Resolves.{Statements, Resolves, ResolvesAll, all_none, all_one, IsAnswer}
use Rattle.ur_typed.specs.Resolves as resolves
use Rattle.ur_typed.specs.Typed.{sites_in, updates_in, CountsFrom}
use Rattle.ur_typed.specs.Rules.{Sites, Out, fits, gives, Antiquotes, no_antiquotes, with_antiquote, with_query_slot, with_change_slot, with_query, with_change, query_at, change_at, answer_of, row_param, rows_out}
use Rattle.ur_typed.specs.Walking.{typed, antiquotes_walk, row_walk}
use Rattle.ur_typed.specs.Causes.{is_lambda}
use Rattle.ur_typed_laws.specs.Judged.{AreTold, Fills, stated, Numbered, Judged, IsSound, Sound}
use Rattle.ur_typed_laws.proofs.Sql.{query_is, change_is}
use Rattle.ur_typed_laws.proofs.Sound.{at_most, IsSettled, settled_by, judged_by, sound_at}
use Rattle.ur_typed_laws.proofs.Folding.{BodyIsSound}
use Rattle.ur_typed_laws.proofs.Numbers.{numbered_none, numbered_both, numbered_end, filled, fills_filled, set_slot, get_slot, get_else}
use Rattle.ur_typed_rules.specs.Rules.{if_so, small_type}
use Rattle.ur_typed_rules.proofs.Options.{some_of, opened, opened_if, mapped}
use Rattle.ur_typed.proofs.Shapes.{lambda_is, front_get}

-- ---- antiquotes

abbrev pub RowIsSound : World → {n : _} → Row_of-Exp n → Type 0
RowIsSound w alone = Unit {0}
RowIsSound w (its p x rest) = Sound w x × RowIsSound w rest

record AntiquotesAreSound (w : World) (s : Scope) (n : Count) (xs : Row_of-Exp n) (st : Sites) (d : Statements) (a : Antiquotes) : Type 0 where
  before : Fills w d st
  resolve : ResolvesAll d w.most w.globals (stated d w).declared s.names n xs _ a.exps.1
  found : AreFound (stated d w).declared w.most s.env a.exps.1 a.types
  numbered : Numbered st (occurrences_of a.exps.1) a.sites

antiquotes_sound : (w : World) (s : Scope) (n : Count) (xs : Row_of-Exp n) → RowIsSound w xs → (st : Sites) (a : Antiquotes) → antiquotes_walk w xs s st ≡ Some a → (d : Statements) → Fills w d a.sites → AntiquotesAreSound w s n xs st d a
antiquotes_sound w s _ alone k st a h d g =
    let i : no_antiquotes st ≡ a = some_of h in
    subst (λ v. AntiquotesAreSound w s _ alone st d v) i (record { before = subst (λ v. Fills w d v.sites) (sym i) g; resolve = all_none; found = refl; numbered = numbered_none st })
antiquotes_sound w s _ (its {n = n} p x rest) k st a h d g =
    let c : (o : Out) × (typed w x s st finds ≡ Some o) × (option_map (with_antiquote o) (antiquotes_walk w rest s o.sites) ≡ Some a) = opened _ _ a h in
    let v : (z : Antiquotes) × (antiquotes_walk w rest s c.0.sites ≡ Some z) × (with_antiquote c.0 z ≡ a) = mapped _ _ a c.2 in
    let ir : AntiquotesAreSound w s n rest c.0.sites d v.0 = antiquotes_sound w s n rest k.1 c.0.sites v.0 v.1 d (subst (λ z. Fills w d z.sites) (sym v.2) g) in
    let ix : IsSound w x s st finds d c.0 = k.0 s st finds c.0 c.1 d ir.before in
    subst (λ z. AntiquotesAreSound w s _ (its p x rest) st d z) v.2 (record { before = ix.before; resolve = all_one ix.resolves ir.resolve; found = (c.0.of, v.0.types, refl, ix.judged.0, ix.judged.1, ir.found); numbered = numbered_both ix.numbered ir.numbered })

option_is : (t : NormalType) (k : ColumnKind) → option_and_then optional (type_kind t) ≡ Some k → option_of t ≡ kind_type k
option_is ty.Int k h = ap kind_type (some_of h)
option_is ty.Str k h = ap kind_type (some_of h)
option_is ty.Bool k h = ap kind_type (some_of h)
option_is _ k h = cc

kind_is : (t : NormalType) (k : ColumnKind) → column_type_kind t ≡ Some k → t ≡ kind_type k
kind_is ty.Int k h = ap kind_type (some_of h)
kind_is ty.Str k h = ap kind_type (some_of h)
kind_is ty.Bool k h = ap kind_type (some_of h)
kind_is (ty.Opt' _ (its_type t none)) k h = option_is t k h
kind_is _ k h = cc

kinds_are : (ts : List NormalType) (ks : List ColumnKind) → all_of column_type_kind ts ≡ Some ks → ts ≡ map kind_type ks
kinds_are [] ks h = ap (map kind_type) (some_of h)
kinds_are (t ∷ ts) ks h =
    let c : (k : ColumnKind) × (column_type_kind t ≡ Some k) × (option_map (λ rest. k ∷ rest) (all_of column_type_kind ts) ≡ Some ks) = opened _ _ ks h in
    let v : (z : List ColumnKind) × (all_of column_type_kind ts ≡ Some z) × (c.0 ∷ z ≡ ks) = mapped _ _ ks c.2 in
    ap (λ z. z ∷ ts) (kind_is t c.0 c.1) ∙ (ap (λ z. kind_type c.0 ∷ z) (kinds_are ts v.0 v.1) ∙ ap (map kind_type) v.2)

-- ---- the slot of a query

-- the queries behind the antiquotes, the slot being empty, and filled
slots : {A : Type 0} (xs : List (Option A)) (all ys : List (Option A)) → all ≡ (xs ++ None ∷ []) ++ ys → all ≡ xs ++ None ∷ ys
slots xs all ys h = h ∙ append_assoc xs (None ∷ []) ys

filled_slot : {A : Type 0} (xs : List (Option A)) (all ys : List (Option A)) (a : A) → all ≡ (xs ++ None ∷ []) ++ ys → set all (length xs) (Some a) ≡ xs ++ Some a ∷ ys
filled_slot xs all ys a h = ap (λ z. set z (length xs) (Some a)) (slots xs all ys h) ∙ set_slot xs ys a

still_there : {A : Type 0} (xs : List (Option A)) (all ys : List (Option A)) (a : A) (n : ℕ) (b : A) → all ≡ (xs ++ None ∷ []) ++ ys → slice_get all n ≡ Some (Some b) → slice_get (set all (length xs) (Some a)) n ≡ Some (Some b)
still_there xs all ys a n b h i = ap (λ z. slice_get z n) (filled_slot xs all ys a h) ∙ get_else xs ys a n b (sym (ap (λ z. slice_get z n) (slots xs all ys h)) ∙ i)

slot_there : {A : Type 0} (xs : List (Option A)) (all ys : List (Option A)) (a : A) → all ≡ (xs ++ None ∷ []) ++ ys → slice_get (set all (length xs) (Some a)) (length xs) ≡ Some (Some a)
slot_there xs all ys a h = ap (λ z. slice_get z (length xs)) (filled_slot xs all ys a h) ∙ get_slot xs ys a

behind_slot : {A : Type 0} (xs : List (Option A)) (ns : List ℕ) → CountsFrom (length (xs ++ None ∷ [])) ns → CountsFrom (length xs + 1) ns
behind_slot xs ns h = subst (λ z. CountsFrom z ns) (length-append xs (None ∷ [])) h

pub query_numbered : (st su : Sites) (os : List Occurrence) (q : Query) → Numbered (with_query_slot st) os su → Numbered st (site (length st.queries) ∷ os) (with_query (length st.queries) q su)
query_numbered st su os q n = record {
  queries = Some q ∷ n.queries;
  changes = n.changes;
  all_queries = filled_slot st.queries su.queries n.queries q n.all_queries;
  all_changes = n.all_changes;
  filled_queries = n.filled_queries;
  filled_changes = n.filled_changes;
  sites = (refl, behind_slot st.queries (sites_in os) n.sites);
  updates = n.updates;
  how_many_sites = ap suc n.how_many_sites;
  how_many_updates = n.how_many_updates;
}

pub change_numbered : (st su : Sites) (os : List Occurrence) (u : Change) → Numbered (with_change_slot st) os su → Numbered st (update (length st.changes) ∷ os) (with_change (length st.changes) u su)
change_numbered st su os u n = record {
  queries = n.queries;
  changes = Some u ∷ n.changes;
  all_queries = n.all_queries;
  all_changes = filled_slot st.changes su.changes n.changes u n.all_changes;
  filled_queries = n.filled_queries;
  filled_changes = n.filled_changes;
  sites = n.sites;
  updates = (refl, behind_slot st.changes (updates_in os) n.updates);
  how_many_sites = n.how_many_sites;
  how_many_updates = ap suc n.how_many_updates;
}

before_query : (w : World) (d : Statements) (st su : Sites) (os : List Occurrence) (q : Query) → Numbered (with_query_slot st) os su → Fills w d (with_query (length st.queries) q su) → Fills w d su
before_query w d st su os q n f = record { names = f.names; queries = λ k x h. f.queries k x (still_there st.queries su.queries n.queries q k x n.all_queries h); changes = f.changes }

before_change : (w : World) (d : Statements) (st su : Sites) (os : List Occurrence) (u : Change) → Numbered (with_change_slot st) os su → Fills w d (with_change (length st.changes) u su) → Fills w d su
before_change w d st su os u n f = record { names = f.names; queries = f.queries; changes = λ k x h. f.changes k x (still_there st.changes su.changes n.changes u k x n.all_changes h) }

-- what was filled before the slot was there
without_query_slot : (w : World) (d : Statements) (st : Sites) → Fills w d (with_query_slot st) → Fills w d st
without_query_slot w d st f = record { names = f.names; queries = λ n q h. f.queries n q (front_get st.queries (None ∷ []) n (Some q) h); changes = f.changes }

without_change_slot : (w : World) (d : Statements) (st : Sites) → Fills w d (with_change_slot st) → Fills w d st
without_change_slot w d st f = record { names = f.names; queries = f.queries; changes = λ n u h. f.changes n u (front_get st.changes (None ∷ []) n (Some u) h) }

-- ---- a query in its place

-- what is known of a query and its antiquotes
record Asked (w : World) (s : Scope) (st : Sites) (n : Shape) (args : Row_of-Exp (count n)) (q : SqlQuery) (a : Antiquotes) (c : Query) (d : Statements) : Type 0 where
  before : Fills w d st
  resolve : ResolvesAll d w.most w.globals (stated d w).declared s.names _ args _ a.exps.1
  found : AreFound (stated d w).declared w.most s.env a.exps.1 (map kind_type c.params)
  numbered : Numbered st (site (length st.queries) ∷ occurrences_of a.exps.1) (with_query (length st.queries) c a.sites)
  core : IsQuery w.globals.home w.globals.tables d.names c.params q c
  there : slice_get d.queries (length st.queries) ≡ Some c
  row : slice_get (stated d w).declared.queries (length st.queries) ≡ Some (c.params, query_row w.fields c)

abbrev pub columns_of : World → Query → List ColumnKind × List RowPart
columns_of w q = (q.params, query_row w.fields q)

asked : (w : World) (s : Scope) (st : Sites) (n : Shape) (args : Row_of-Exp (count n)) (q : SqlQuery) (a : Antiquotes) (c : Query) (d : Statements) → RowIsSound w args → antiquotes_walk w args s (with_query_slot st) ≡ Some a → query_at w q a ≡ Some c →
    Fills w d (with_query (length st.queries) c a.sites) → Asked w s st n args q a c d
asked w s st n args q a c d k ea ec f =
    let N : Numbered (with_query_slot st) (occurrences_of a.exps.1) a.sites = (antiquotes_sound w s _ args k (with_query_slot st) a ea (filled w a.sites) (fills_filled w a.sites)).numbered in
    let g : Fills w d a.sites = before_query w d st a.sites (occurrences_of a.exps.1) c N f in
    let i : AntiquotesAreSound w s _ args (with_query_slot st) d a = antiquotes_sound w s _ args k (with_query_slot st) a ea d g in
    let ks : (ks : List ColumnKind) × (all_of column_type_kind a.types ≡ Some ks) × (query_of w.globals.home w.globals.tables w.fields ks q ≡ Some c)
    = opened _ _ c ec in
    let is : IsQuery w.globals.home w.globals.tables w.fields ks.0 q c = query_is w.globals.home w.globals.tables w.fields ks.0 q c ks.2 in
    let t : a.types ≡ map kind_type c.params = kinds_are a.types ks.0 ks.1 ∙ ap (map kind_type) (sym is.params) in
    let th : slice_get d.queries (length st.queries) ≡ Some c = f.queries (length st.queries) c (slot_there st.queries a.sites.queries N.queries c N.all_queries) in
    record {
      before = without_query_slot w d st i.before;
      resolve = i.resolve;
      found = subst (λ z. AreFound (stated d w).declared w.most s.env a.exps.1 z) t i.found;
      numbered = query_numbered st a.sites (occurrences_of a.exps.1) c N;
      core = subst (λ z. IsQuery w.globals.home w.globals.tables z c.params q c) (sym f.names) (subst (λ z. IsQuery w.globals.home w.globals.tables w.fields z q c) (sym is.params) is);
      there = th;
      row = slice_get-map (columns_of w) d.queries (length st.queries) ∙ ap (option_map (columns_of w)) th;
    }

is_answer : (how : QueryWord) → IsAnswer how (answer_of how)
is_answer word.QueryL = resolves.IsAnswer.all
is_answer word.OneRow = resolves.IsAnswer.one
is_answer word.OneOrNoRows = resolves.IsAnswer.one_or_none

abbrev pub asked_of : World → QueryWord → Sites → Antiquotes → Query → Option Out
asked_of w how st a c = gives (transaction_of (answer_type (answer_of how) (query_row w.fields c))) (exp.Ask' (answer_of how) (length st.queries) a.exps.0 a.exps.1) (with_query (length st.queries) c a.sites)

pub query_sound : AreTold → (w : World) (how : QueryWord) (q : SqlQuery) (n : Shape) (args : Row_of-Exp (count n)) → RowIsSound w args → Sound w (e.Query' how q n args)
query_sound told w how q n args k s st m o h d g =
    let y : ExpForm = e.Query' how q n args in
    let v : IsSettled w y s st m o = settled_by w y s st m o h in
    let a : (z : Antiquotes) × (antiquotes_walk w args s (with_query_slot st) ≡ Some z) × (option_and_then (asked_of w how st z) (query_at w q z) ≡ Some o) = opened _ _ o v.walked in
    let c : (z : Query) × (query_at w q a.0 ≡ Some z) × (asked_of w how st a.0 z ≡ Some o) = opened _ _ o a.2 in
    let b : Out = record { of = transaction_of (answer_type (answer_of how) (query_row w.fields c.0)); exp = exp.Ask' (answer_of how) (length st.queries) a.0.exps.0 a.0.exps.1; sites = with_query (length st.queries) c.0 a.0.sites } in
    sound_at w y s st m d b o v c.2 g (λ acc fit g'.
    let i : Asked w s st n args q a.0 c.0 d = asked w s st n args q a.0 c.0 d k a.1 c.1 g' in
    let F : Finds (stated d w).declared w.most s.env b.exp b.of = ((c.0.params, query_row w.fields c.0), i.row, i.found, refl) in
    record { before = i.before; numbered = i.numbered; resolves = resolves.query (is_answer how) i.there i.core i.resolve; judged = judged_by told (stated d w) s m b.exp b.of F F acc fit })

-- ---- changes

abbrev pub written_of : Sites → Antiquotes → Change → Option Out
written_of st a c = gives (transaction_of unit) (exp.Write' (length st.changes) a.exps.0 a.exps.1) (with_change (length st.changes) c a.sites)

abbrev pub params_of : Change → List ColumnKind
params_of u = u.params

pub change_sound : AreTold → (w : World) (u : SqlChange) (n : Shape) (args : Row_of-Exp (count n)) → RowIsSound w args → Sound w (e.Dml' u n args)
change_sound told w u n args k s st m o h d g =
    let y : ExpForm = e.Dml' u n args in
    let v : IsSettled w y s st m o = settled_by w y s st m o h in
    let a : (z : Antiquotes) × (antiquotes_walk w args s (with_change_slot st) ≡ Some z) × (option_and_then (written_of st z) (change_at w u z) ≡ Some o) = opened _ _ o v.walked in
    let c : (z : Change) × (change_at w u a.0 ≡ Some z) × (written_of st a.0 z ≡ Some o) = opened _ _ o a.2 in
    let b : Out = record { of = transaction_of unit; exp = exp.Write' (length st.changes) a.0.exps.0 a.0.exps.1; sites = with_change (length st.changes) c.0 a.0.sites } in
    sound_at w y s st m d b o v c.2 g (λ acc fit f.
    let N : Numbered (with_change_slot st) (occurrences_of a.0.exps.1) a.0.sites = (antiquotes_sound w s _ args k (with_change_slot st) a.0 a.1 (filled w a.0.sites) (fills_filled w a.0.sites)).numbered in
    let g' : Fills w d a.0.sites = before_change w d st a.0.sites (occurrences_of a.0.exps.1) c.0 N f in
    let i : AntiquotesAreSound w s _ args (with_change_slot st) d a.0 = antiquotes_sound w s _ args k (with_change_slot st) a.0 a.1 d g' in
    let ks : (ks : List ColumnKind) × (all_of column_type_kind a.0.types ≡ Some ks) × (change_of w.globals.home w.globals.tables ks u ≡ Some c.0) = opened _
    _ c.0 c.1 in
    let is : IsChange w.globals.home w.globals.tables ks.0 u c.0 = change_is w.globals.home w.globals.tables ks.0 u c.0 ks.2 in
    let t : a.0.types ≡ map kind_type c.0.params = kinds_are a.0.types ks.0 ks.1 ∙ ap (map kind_type) (sym is.params) in
    let th : slice_get d.changes (length st.changes) ≡ Some c.0 = f.changes (length st.changes) c.0 (slot_there st.changes a.0.sites.changes N.changes c.0 N.all_changes) in
    let F : Finds (stated d w).declared w.most s.env b.exp b.of = (c.0.params, slice_get-map params_of d.changes (length st.changes) ∙ ap (option_map params_of) th, subst (λ z. AreFound (stated d w).declared w.most s.env a.0.exps.1 z) t i.found, refl) in
    record {
      before = without_change_slot w d st i.before;
      numbered = change_numbered st a.0.sites (occurrences_of a.0.exps.1) c.0 N;
      resolves = resolves.dml th (subst (λ z. IsChange w.globals.home w.globals.tables z u c.0) (sym is.params) is) i.resolve;
      judged = judged_by told (stated d w) s m b.exp b.of F F acc fit;
    })

-- ---- `queryX`

abbrev an_each : SqlQuery → (n : Shape) → Row_of-Exp (count n) → Span → List LambdaParam → Span → ExpForm → ExpForm
an_each q n args p ps r b = e.QueryX' q n args tt (its p (e.Lambda' ps tt (its r b alone)) alone)

each_resolves : AreTold → (w : World) (s : Scope) (d : Statements) (q : SqlQuery) (n : Shape) (args : Row_of-Exp (count n)) (p : Span) (ps : List LambdaParam) (r : Span) (b : ExpForm) (k : ℕ) (c : Query) (z : Shape) (out : Row_of-Resolved (count z)) (B : Exp) (x : Binder) → d.names ≡ w.fields →
    row_param w s (query_row w.fields c) ps ≡ Some x → slice_get d.queries k ≡ Some c → IsQuery w.globals.home w.globals.tables d.names c.params q c → ResolvesAll d w.most w.globals (stated d w).declared s.names _ args _ out →
    Resolves d w.most w.globals (stated d w).declared (with_local (here.value (bound_name x)) s.names) b B → Resolves d w.most w.globals (stated d w).declared s.names (an_each q n args p ps r b) (make.each k z out B)
each_resolves told w s d q n args p (lambda_param.Bare y ∷ []) r b k c z out B x en h th core ra rb =
    resolves.query_each th core ra (subst (λ v. Resolves d w.most w.globals (stated d w).declared (with_local (here.value (bound_name v)) s.names) b B) (sym (some_of h)) rb)
each_resolves told w s d q n args p (lambda_param.Typed (written_param.Value y c') ∷ []) r b k c z out B x en h th core ra rb =
    let t : (t : NormalType) × (small_type w.most (nf s.names.cons c') ≡ Some t) × (if_so (same_type t (record_of (query_row w.fields c))) (Some y) ≡ Some x) = opened _ _ x h in
    let v : (nat_le (nodes (nf s.names.cons c')) w.most ≡ true) × (Some (as_type (nf s.names.cons c')) ≡ Some t.0) = opened_if (nat_le (nodes (nf s.names.cons c')) w.most) (Some (as_type (nf s.names.cons c'))) t.0 t.1 in
    let u : (same_type t.0 (record_of (query_row w.fields c)) ≡ true) × (Some y ≡ Some x) = opened_if (same_type t.0 (record_of (query_row w.fields c))) (Some y) x t.2 in
    let i : WritesType w.most s.names.cons c' (record_of (query_row w.fields c)) = (nf s.names.cons c', record { form = refl; small = at_most (nodes (nf s.names.cons c')) w.most v.0 }, sym (told t.0 (record_of (query_row w.fields c)) u.0) ∙ sym (some_of v.1)) in
    resolves.query_each_typed (query_row w.fields c) th core (ap (λ z. query_row z c) en) i ra (subst (λ v. Resolves d w.most w.globals (stated d w).declared (with_local (here.value (bound_name v)) s.names) b B) (sym (some_of u.1)) rb)
each_resolves told w s d q n args p _ r b k c z out B x en h th core ra rb = cc

abbrev pub rows_at : World → Scope → Sites → Mode → Antiquotes → Query → ExpForm → Binder → Option Out
rows_at w s st m a c b x = typed w b (within_binder x (record_of (query_row w.fields c)) s) (with_query (length st.queries) c a.sites) (of_transaction m)

abbrev pub shown_rows : Sites → Antiquotes → Out → Sort → Option Out
shown_rows st a o sort = gives (transaction_of o.of) (make.each (length st.queries) a.exps.0 a.exps.1 o.exp) o.sites

abbrev pub each_of : World → Scope → Sites → Mode → Span → ExpForm → Antiquotes → Query → Option Out
each_of w s st m p y a c = option_and_then (rows_out st a) (row_walk w (its p y alone) s (query_row w.fields c) (with_query (length st.queries) c a.sites) (of_transaction m))

each_judged : AreTold → (w : World) (s : Scope) (m : Mode) (k : ℕ) (z : Shape) (out : Row_of-Resolved (count z)) (b : Exp) (t : NormalType) (c : List ColumnKind × List RowPart) (x : Binder) (o : Sort) → slice_get w.declared.queries k ≡ Some c → AreFound w.declared w.most s.env out (map kind_type c.0) →
    Judged w (within_binder x (record_of c.1) s) (of_transaction m) b t → sort_of t ≡ Some o → Accepts w.most (make.each k z out b) (transaction_of t) → fits m (transaction_of t) ≡ true → Judged w s m (make.each k z out b) (transaction_of t)
each_judged told w s finds k z out b t c x o ek f j eo acc fit = ((c, t, ek, f, (j.0, j.1), (o, eo), refl), acc)
each_judged told w s (wants u) k z out b t c x o ek f j eo acc fit =
    let q : transaction_of t ≡ u = told (transaction_of t) u fit in
    let i : Judged w (within_binder x (record_of c.1) s) (wants t) b t = subst (λ v. Judged w (within_binder x (record_of c.1) s) (of_transaction (wants v)) b t) (sym q) j in
    (q, (c, t, ek, f, (i.1, i.2), (o, eo), sym q), subst (λ v. Accepts w.most (make.each k z out b) v) q acc)

each_lambda : AreTold → (w : World) (q : SqlQuery) (n : Shape) (args : Row_of-Exp (count n)) (p : Span) (ps : List LambdaParam) (r : Span) (b : ExpForm) → RowIsSound w args → Sound w b → Sound w (an_each q n args p ps r b)
each_lambda told w q n args p ps r b k kb s st m o h d g =
    let y : ExpForm = an_each q n args p ps r b in
    let v : IsSettled w y s st m o = settled_by w y s st m o h in
    let a : (z : Antiquotes) × (antiquotes_walk w args s (with_query_slot st) ≡ Some z) × (option_and_then (each_of w s st m p (e.Lambda' ps tt (its r b alone)) z) (query_at w q z) ≡ Some o) = opened _ _ o v.walked in
    let c : (z : Query) × (query_at w q a.0 ≡ Some z) × (each_of w s st m p (e.Lambda' ps tt (its r b alone)) a.0 z ≡ Some o) = opened _ _ o a.2 in
    let l : (i : Out) × (option_and_then (rows_at w s st m a.0 c.0 b) (row_param w s (query_row w.fields c.0) ps) ≡ Some i) × (rows_out st a.0 i ≡ Some o) = opened _ _ o c.2 in
    let x : (x : Binder) × (row_param w s (query_row w.fields c.0) ps ≡ Some x) × (rows_at w s st m a.0 c.0 b x ≡ Some l.0) = opened _ _ l.0 l.1 in
    let t : (t : Sort) × (sort_of l.0.of ≡ Some t) × (shown_rows st a.0 l.0 t ≡ Some o) = opened _ _ o l.2 in
    let s' : Scope = within_binder x.0 (record_of (query_row w.fields c.0)) s in
    let su : Sites = with_query (length st.queries) c.0 a.0.sites in
    let out : Out = record { of = transaction_of l.0.of; exp = make.each (length st.queries) a.0.exps.0 a.0.exps.1 l.0.exp; sites = l.0.sites } in
    sound_at w y s st m d out o v t.2 g (λ acc fit g'.
    let ib : IsSound w b s' su (of_transaction m) d l.0 = kb s' su (of_transaction m) l.0 x.2 d g' in
    let i : Asked w s st n args q a.0 c.0 d = asked w s st n args q a.0 c.0 d k a.1 c.1 ib.before in
    record {
      before = i.before;
      numbered = numbered_both i.numbered (numbered_end ib.numbered);
      resolves = each_resolves told w s d q n args p ps r b (length st.queries) c.0 a.0.exps.0 a.0.exps.1 l.0.exp x.0 g'.names x.1 i.there i.core i.resolve ib.resolves;
      judged = each_judged told (stated d w) s m (length st.queries) a.0.exps.0 a.0.exps.1 l.0.exp l.0.of (c.0.params, query_row w.fields c.0) x.0 t.0 i.row i.found ib.judged t.1 acc fit;
    })

no_row_lambda : (w : World) (s : Scope) (r : List RowPart) (st : Sites) (m : Mode) (p : Span) (y : ExpForm) → is_lambda y ≡ false → row_walk w (its p y alone) s r st m ≡ None
no_row_lambda w s r st m p (e.Lambda' ps _ x) h = cc
no_row_lambda w s r st m p _ h = refl

each_other : (w : World) (q : SqlQuery) (n : Shape) (args : Row_of-Exp (count n)) (p : Span) (x : ExpForm) → is_lambda x ≡ false → Sound w (e.QueryX' q n args tt (its p x alone))
each_other w q n args p x i s st m o h d g =
    let y : ExpForm = e.QueryX' q n args tt (its p x alone) in
    let v : IsSettled w y s st m o = settled_by w y s st m o h in
    let a : (z : Antiquotes) × (antiquotes_walk w args s (with_query_slot st) ≡ Some z) × (option_and_then (each_of w s st m p x z) (query_at w q z) ≡ Some o) = opened _ _ o v.walked in
    let c : (z : Query) × (query_at w q a.0 ≡ Some z) × (each_of w s st m p x a.0 z ≡ Some o) = opened _ _ o a.2 in
    let l : (j : Out) × (row_walk w (its p x alone) s (query_row w.fields c.0) (with_query (length st.queries) c.0 a.0.sites) (of_transaction m) ≡ Some j) × (rows_out st a.0 j ≡ Some o) = opened _ _ o c.2 in
    absurd (none_is (sym (no_row_lambda w s (query_row w.fields c.0) (with_query (length st.queries) c.0 a.0.sites) (of_transaction m) p x i) ∙ l.1)) where
      none_is : {A : Type 0} {x : A} → None ≡ Some x → ⊥
      none_is i = cc

pub each_sound : AreTold → (w : World) (q : SqlQuery) (n : Shape) (args : Row_of-Exp (count n)) (p : Span) (x : ExpForm) → RowIsSound w args → BodyIsSound w x → Sound w (e.QueryX' q n args tt (its p x alone))
each_sound told w q n args p x k kx = by_lambda (is_lambda x) refl where
  by_lambda : (b : Bool) → is_lambda x ≡ b → Sound w (e.QueryX' q n args tt (its p x alone))
  by_lambda true i =
      let l : (ps : List LambdaParam) × (a : Span) × (b : ExpForm) × (x ≡ e.Lambda' ps tt (its a b alone)) = lambda_is x i in
      subst (λ z. Sound w (e.QueryX' q n args tt (its p z alone))) (sym l.3) (each_lambda told w q n args p l.0 l.1 l.2 k (subst (BodyIsSound w) l.3 kx))
  by_lambda false i = each_other w q n args p x i
