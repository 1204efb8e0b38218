-- What each form of plain term makes.
use Rattle.std.proofs.Common.{◌≡◌, ℕ, ◌+◌, ◌≤◌, max, Bool, true, false, not, if◌then◌else◌, ◌&&◌, List, [], ◌∷◌, ◌++◌, length, take, drop, get_or, Option}
use Rattle.std.proofs.Common.{Some, None, refl, sym, ap, ap₂, subst, ◌∙◌, arith}
use Rattle.std.specs.Prelude.{slice_get, nat_le}
use Rattle.std.proofs.lemmas.Bool.{le-leb}
use Rattle.std.proofs.lemmas.List.Sums.{sum_by-append, sum_by-cons}
use Rattle.ur_base.specs.declared.names.Name.{Name}
use Rattle.ur_values.specs.declared.types.ValueType.{ValueType}
use Rattle.ur_values.specs.declared.value.Value.{Value, out-Value}
use Rattle.ur_values.specs.declared.value.Value.TheVariants as v
use Rattle.ur_values.specs.declared.value.Node.{Node}
use Rattle.ur_values.specs.declared.value.Node.TheVariants as n
use Rattle.ur_values.specs.declared.value.Tag.{Tag}
use Rattle.ur_values.specs.declared.value.FieldKind.{FieldKind}
use Rattle.ur_values.specs.Size.{node_sizes, node_nestings, size_of_node, nesting_of_node, greatest, is_small, size, nesting, greatest_size}
use Rattle.ur_values.proofs.Equations.{size-Markup, nesting-Markup, size-Element, nesting-Element, size-Link, nesting-Link}
use Rattle.ur_terms.specs.declared.term.Op.{Op}
use Rattle.ur_terms.specs.declared.term.Op.TheVariants as op
use Rattle.ur_terms.specs.declared.term.Branch.{Branch}
use Rattle.ur_terms.specs.declared.term.Term.{Term}
use Rattle.ur_terms.specs.declared.term.Term.TheVariants as t
use Rattle.ur_terms.specs.State.{State, Outcome, Done, Spent, after, built}
use Rattle.ur_terms.specs.Values.{as_items, as_nodes, all_nodes, append_option, open_nodes, open_items, shown}
use Rattle.ur_terms.specs.Ops.{given, markup, optional_text, with_unit}
use Rattle.ur_terms.specs.Run.{Does, Calls, eval, eval_list, first_branch, for_each, joined, choose}
use Rattle.ur_terms.proofs.Equations.{eval-Make, eval-Let, eval-If, eval-Case, eval-Each}
use Rattle.ur_machine_frames.specs.Plays.{Plays}
use Rattle.ur_machine_frames.specs.Fields.{ReadsAs}
use Rattle.ur_emit.specs.Makes.{AreSmall, Makes, MakeAll, MakeEach, MakesCase, ReadAll}

-- ---- parts of small nodes are small

greatest-append : {X : Type 0} (f : X → ℕ) (xs ys : List X) → greatest f (xs ++ ys) ≡ max (greatest f xs) (greatest f ys)
greatest-append f [] ys = omega arith
greatest-append f (x ∷ xs) ys = let e = greatest-append f xs ys in omega arith

pub sizes_of_both : (xs ys : List Node) → node_sizes (xs ++ ys) ≡ node_sizes xs + node_sizes ys
sizes_of_both xs ys = sum_by-append size_of_node xs ys

pub nestings_of_both : (xs ys : List Node) → node_nestings (xs ++ ys) ≡ max (node_nestings xs) (node_nestings ys)
nestings_of_both xs ys = greatest-append nesting_of_node xs ys

pub sizes_of_one : (x : Node) → node_sizes (x ∷ []) ≡ size_of_node x
sizes_of_one x = let e = sum_by-cons size_of_node x [] in omega arith

first_small : (xs ys : List Node) → AreSmall (xs ++ ys) → AreSmall xs
first_small xs ys (s, d) =
    let e = sizes_of_both xs ys in
    let f = nestings_of_both xs ys in
    (omega arith, omega arith)

rest_small : (xs ys : List Node) → AreSmall (xs ++ ys) → AreSmall ys
rest_small xs ys (s, d) =
    let e = sizes_of_both xs ys in
    let f = nestings_of_both xs ys in
    (omega arith, omega arith)

-- ---- small nodes are built

le_true : (a b : ℕ) → a ≤ b → nat_le a b ≡ true
le_true a b h = le-leb a b h

pub builds : (nodes : List Node) → AreSmall nodes → (s : State) → markup nodes s ≡ Done (v.Markup nodes) s
builds nodes (h, k) s =
    let e = size-Markup nodes in
    let f = nesting-Markup nodes in
    let one : nat_le (size (v.Markup nodes)) greatest_size ≡ true = le_true _ _ (omega arith) in
    let two : nat_le (nesting (v.Markup nodes)) 1024 ≡ true = le_true _ _ (omega arith) in
    ap (λ b. if b && nat_le (nesting (v.Markup nodes)) 1024 then Done (v.Markup nodes) s else Spent s.events) one
    ∙ ap (λ b. if b then Done (v.Markup nodes) s else Spent s.events) two

-- ---- lists of terms, and a term for each item

-- terms come to XML of these nodes
pub record Come (env : List Value) (args : List Term) (nodes : List Node) : Type 0 where
  pub values : List Value
  pub all : all_nodes values ≡ Some nodes
  pub comes : (d : Does) → Plays d → (calls : Calls) (s : State) → eval_list d calls args env s ≡ Done values s

nodes_first : (first rest : List Node) (xs : List Value) → all_nodes xs ≡ Some rest → all_nodes (v.Markup first ∷ xs) ≡ Some (first ++ rest)
nodes_first first rest xs e = ap₂ append_option (ap open_nodes (v.outs-Markup first)) e

pub come : (env : List Value) (args : List Term) (nodes : List Node) → MakeAll env args nodes → AreSmall nodes → Come env args nodes
come env [] nodes e small = record { values = []; all = ap Some (sym e); comes = λ d p calls s. refl }
come env (a ∷ more) nodes (first, rest, e, m, ms) small =
    let both = subst AreSmall e small in
    let is = m (first_small first rest both) in
    let others = come env more rest ms (rest_small first rest both) in
    record {
      values = v.Markup first ∷ others.values;
      all = nodes_first first rest others.values others.all ∙ ap Some (sym e);
      comes = λ d p calls s.
          ap (λ o. after o (λ y u. after (eval_list d calls more env u) (λ ys w. Done (y ∷ ys) w))) (is d p calls s)
          ∙ ap (λ o. after o (λ ys w. Done (v.Markup first ∷ ys) w)) (others.comes d p calls s);
    }

-- a term comes to XML of these nodes for these items together
pub record ComeEach (env : List Value) (body : Term) (items : List Value) (nodes : List Node) : Type 0 where
  pub values : List Value
  pub all : all_nodes values ≡ Some nodes
  pub comes : (d : Does) → Plays d → (calls : Calls) (s : State) → for_each (λ item. eval d calls body (item ∷ env)) items s ≡ Done values s

pub come_each : (env : List Value) (body : Term) (items : List Value) (nodes : List Node) → MakeEach env body items nodes → AreSmall nodes
    → ComeEach env body items nodes
come_each env body [] nodes e small = record { values = []; all = ap Some (sym e); comes = λ d p calls s. refl }
come_each env body (x ∷ more) nodes (first, rest, e, m, ms) small =
    let both = subst AreSmall e small in
    let is = m (first_small first rest both) in
    let others = come_each env body more rest ms (rest_small first rest both) in
    record {
      values = v.Markup first ∷ others.values;
      all = nodes_first first rest others.values others.all ∙ ap Some (sym e);
      comes = λ d p calls s.
          ap (λ o. after o (λ y u. after (for_each (λ item. eval d calls body (item ∷ env)) more u) (λ ys w. Done (y ∷ ys) w))) (is d p calls s)
          ∙ ap (λ o. after o (λ ys w. Done (v.Markup first ∷ ys) w)) (others.comes d p calls s);
    }

-- one more at the end
pub all_more : (env : List Value) (args : List Term) (a : Term) (nodes more : List Node) → MakeAll env args nodes → Makes env a more
    → MakeAll env (args ++ a ∷ []) (nodes ++ more)
all_more env [] a nodes more e m = (more, [], ap (λ z. z ++ more) e ∙ sym (append_nil more), m, refl)
  where
    append_nil : (xs : List Node) → xs ++ [] ≡ xs
    append_nil [] = refl
    append_nil (x ∷ xs) = ap (λ z. x ∷ z) (append_nil xs)
all_more env (b ∷ args) a nodes more (first, rest, e, m, ms) h =
    (first, rest ++ more, ap (λ z. z ++ more) e ∙ assoc first rest more, m, all_more env args a rest more ms h)
  where
    assoc : (xs ys zs : List Node) → (xs ++ ys) ++ zs ≡ xs ++ (ys ++ zs)
    assoc [] ys zs = refl
    assoc (x ∷ xs) ys zs = ap (λ z. x ∷ z) (assoc xs ys zs)

pub each_more : (env : List Value) (body : Term) (items : List Value) (x : Value) (nodes more : List Node) → MakeEach env body items nodes
    → Makes (x ∷ env) body more
    → MakeEach env body (items ++ x ∷ []) (nodes ++ more)
each_more env body [] x nodes more e m = (more, [], ap (λ z. z ++ more) e ∙ sym (append_nil more), m, refl)
  where
    append_nil : (xs : List Node) → xs ++ [] ≡ xs
    append_nil [] = refl
    append_nil (x ∷ xs) = ap (λ z. x ∷ z) (append_nil xs)
each_more env body (b ∷ items) x nodes more (first, rest, e, m, ms) h =
    (first, rest ++ more, ap (λ z. z ++ more) e ∙ assoc first rest more, m, each_more env body items x rest more ms h)
  where
    assoc : (xs ys zs : List Node) → (xs ++ ys) ++ zs ≡ xs ++ (ys ++ zs)
    assoc [] ys zs = refl
    assoc (x ∷ xs) ys zs = ap (λ z. x ∷ z) (assoc xs ys zs)

-- ---- forms

-- an operation on what its arguments come to
pub done_by : (env : List Value) (o : Op) (args : List Term) (xs : List Value) (d : Does) (calls : Calls) (s : State) (r : Outcome Value)
    → eval_list d calls args env s ≡ Done xs s → d o xs s ≡ r → eval d calls (t.Make o args) env s ≡ r
done_by env o args xs d calls s r e f = eval-Make d calls o args env s ∙ ap (λ z. after z (d o)) e ∙ f

pub makes-Text : (env : List Value) (text : List ℕ) → Makes env (t.Make (op.Text text) []) (n.Text text ∷ [])
makes-Text env text small d p calls s =
    done_by env (op.Text text) [] [] d calls s _ refl (p.plain (op.Text text) tt [] s ∙ builds (n.Text text ∷ []) small s)

one_read : (env : List Value) (a : Term) (x : Value) → ReadsAs env a x → (d : Does) → Plays d → (calls : Calls) (s : State)
    → eval_list d calls (a ∷ []) env s ≡ Done (x ∷ []) s
one_read env a x h d p calls s = ap (λ o. after o (λ z u. after (Done [] u) (λ zs w. Done (z ∷ zs) w))) (h d p calls s)

pub makes-Shown : (env : List Value) (a : Term) (x : Value) (text : List ℕ) → ReadsAs env a x → shown x ≡ Some text
    → Makes env (t.Make op.Shown (a ∷ [])) (n.Text text ∷ [])
makes-Shown env a x text h e small d p calls s =
    done_by env op.Shown (a ∷ []) (x ∷ []) d calls s _ (one_read env a x h d p calls s)
    (p.plain op.Shown tt (x ∷ []) s ∙ ap (λ z. given z (λ t. markup (n.Text t ∷ []) s)) e ∙ builds (n.Text text ∷ []) small s)

pub makes-Element : (env : List Value) (tag : Tag) (args : List Term) (nodes : List Node) → MakeAll env args nodes
    → Makes env (t.Make (op.Element tag) args) (n.Element tag nodes ∷ [])
makes-Element env tag args nodes m small d p calls s =
    let one = sizes_of_one (n.Element tag nodes) in
    let two = size-Element tag nodes in
    let three = nesting-Element tag nodes in
    let inner : AreSmall nodes = (omega arith, omega arith) in
    let c = come env args nodes m inner in
    done_by env (op.Element tag) args c.values d calls s _ (c.comes d p calls s)
    (p.plain (op.Element tag) tt c.values s ∙ ap (λ z. given z (λ kids. markup (n.Element tag kids ∷ []) s)) c.all ∙ builds (n.Element tag nodes ∷ []) small s)

pub makes-Markup : (env : List Value) (of : ValueType) (args : List Term) (nodes : List Node) → MakeAll env args nodes
    → Makes env (t.Make (op.Markup of) args) nodes
makes-Markup env of args nodes m small d p calls s =
    let c = come env args nodes m small in
    done_by env (op.Markup of) args c.values d calls s _ (c.comes d p calls s)
    (p.plain (op.Markup of) tt c.values s ∙ ap (λ z. given z (λ ns. markup ns s)) c.all ∙ builds nodes small s)

pub makes-Variable : (env : List Value) (i : ℕ) (nodes : List Node) → slice_get env i ≡ Some (v.Markup nodes) → Makes env (t.Variable i) nodes
makes-Variable env i nodes e small d p calls s = ap (λ z. given z (λ x. Done x s)) e

pub makes-If : (env : List Value) (q a b : Term) (truth : Bool) (nodes : List Node) → ReadsAs env q (v.Bool truth) → Makes env (if truth then a else b) nodes
    → Makes env (t.If q a b) nodes
makes-If env q a b true nodes h m small d p calls s =
    eval-If d calls q a b env s ∙ ap (λ o. after o (λ y u. choose y (eval d calls a env u) (eval d calls b env u))) (h d p calls s) ∙ m small d p calls s
makes-If env q a b false nodes h m small d p calls s =
    eval-If d calls q a b env s ∙ ap (λ o. after o (λ y u. choose y (eval d calls a env u) (eval d calls b env u))) (h d p calls s) ∙ m small d p calls s

pub makes-Case : (env : List Value) (q : Term) (bs : List Branch) (x : Value) (b : Branch) (bound : List Value) (nodes : List Node) → ReadsAs env q x
    → ((d : Does) (calls : Calls) (s : State) → first_branch d calls bs x env s ≡ eval d calls b.body (bound ++ env) s)
    → Makes (bound ++ env) b.body nodes → Makes env (t.Case q bs) nodes
makes-Case env q bs x b bound nodes h f m small d p calls s =
    eval-Case d calls q bs env s ∙ ap (λ o. after o (λ y u. first_branch d calls bs y env u)) (h d p calls s) ∙ f d calls s ∙ m small d p calls s

pub makes-Each : (env : List Value) (rows body : Term) (items : List Value) (nodes : List Node) → ReadsAs env rows (v.Many items)
    → MakeEach env body items nodes
    → Makes env (t.Each rows body) nodes
makes-Each env rows body items nodes h m small d p calls s =
    let c = come_each env body items nodes m small in
    eval-Each d calls rows body env s
    ∙ ap (λ o. after o (λ y u. given (as_items y) (λ xs. after (for_each (λ item. eval d calls body (item ∷ env)) xs u) joined))) (h d p calls s)
    ∙ ap (λ z. given z (λ xs. after (for_each (λ item. eval d calls body (item ∷ env)) xs s) joined)) (ap open_items (v.outs-Many items))
    ∙ ap (λ o. after o joined) (c.comes d p calls s)
    ∙ ap (λ z. given z (λ ns. markup ns s)) c.all ∙ builds nodes small s

pub reads_all : (env : List Value) (args : List Term) (xs : List Value) → ReadAll env args xs → (d : Does) → Plays d → (calls : Calls) (s : State)
    → eval_list d calls args env s ≡ Done xs s
reads_all env [] xs e d p calls s = ap (λ z. Done z s) (sym e)
reads_all env (a ∷ more) xs (x, rest, e, h, hs) d p calls s =
    ap (λ o. after o (λ y u. after (eval_list d calls more env u) (λ ys w. Done (y ∷ ys) w))) (h d p calls s)
    ∙ ap (λ o. after o (λ ys w. Done (x ∷ ys) w)) (reads_all env more rest hs d p calls s) ∙ ap (λ z. Done z s) (sym e)

pub makes-Let : (env : List Value) (args : List Term) (body : Term) (xs : List Value) (nodes : List Node) → ReadAll env args xs → Makes (xs ++ env) body nodes
    → Makes env (t.Let args body) nodes
makes-Let env args body xs nodes hs m small d p calls s =
    eval-Let d calls args body env s ∙ ap (λ o. after o (λ ys u. eval d calls body (ys ++ env) u)) (reads_all env args xs hs d p calls s) ∙ m small d p calls s
