-- Laws of what is held: it only grows, numbers stand for what they stood for, and each node is a static expression of its own.
use Rattle.std.proofs.Common.{◌≡◌, ℕ, zero, suc, ◌+◌, ◌<◌, ◌≤◌, List, [], ◌∷◌, ◌++◌, map, length, Some, refl, sym, ap, ap₂, subst, ◌∙◌, arith, append_assoc, append-nil}
use Rattle.std.specs.Prelude.{slice_get}
use Rattle.std.proofs.Math.ListN.{get_or-append}
use Rattle.std.proofs.lemmas.List.{length-append}
use Rattle.std.proofs.lemmas.Option.{slice_get-get_or}
use Rattle.ur_rows.specs.declared.normal.Normal.{Normal}
use Rattle.ur_rows.specs.declared.normal.Normal.TheVariants as normal
use Rattle.ur_rows.specs.Made.{unit}
use Rattle.ur_tree.specs.declared.exp.Exp.TheVariants as x
use Rattle.ur_tree.specs.declared.closed.Static.{Static}
use Rattle.ur_tree.specs.declared.closed.Static.TheVariants as st
use Rattle.ur_source.specs.Static.{static_record}
use Rattle.ur_unfold_static.specs.declared.node.Field.{Field}
use Rattle.ur_unfold_static.specs.declared.node.Node.{Node}
use Rattle.ur_unfold_static.specs.declared.node.Node.TheVariants as node
use Rattle.ur_unfold_static.specs.Held.{Held, Written, con_at, static_at, field_of, lambda_with, static_of_node, with_static, held_from, AreBelow, NodeFits, Rises, Grows}

-- ---- numbers in lists

the_same : {A : Type 0} (a b : A) → Some a ≡ Some b → a ≡ b
the_same a b e = cc

pub get_longer : {A : Type 0} (xs ys : List A) (j : ℕ) (d : A) → j < length xs → slice_get (xs ++ ys) j ≡ slice_get xs j
get_longer xs ys j d h =
    let within : j < length (xs ++ ys) = omega (arith, h, length-append xs ys) in
    slice_get-get_or (xs ++ ys) j d within ∙ ap Some (get_or-append xs ys d j h) ∙ sym (slice_get-get_or xs j d h)

pub at_seam : {A : Type 0} (xs : List A) (y : A) (ys : List A) → slice_get (xs ++ y ∷ ys) (length xs) ≡ Some y
at_seam [] y ys = refl
at_seam (z ∷ xs) y ys = at_seam xs y ys

all_same : {A : Type 0} (f g : ℕ → A) (most : ℕ) (js : List ℕ) → AreBelow most js → ((j : ℕ) → j < most → f j ≡ g j) → map f js ≡ map g js
all_same f g most [] h e = refl
all_same f g most (j ∷ js) h e = ap₂ (λ a b. a ∷ b) (e j h.0) (all_same f g most js h.1 e)

fields_same : (old new : List Static) (fs : List Field) → AreBelow (length old) (map (λ f. f.of) fs) → ((j : ℕ) → j < length old → static_at new j ≡ static_at old j)
    → map (field_of new) fs ≡ map (field_of old) fs
fields_same old new [] h e = refl
fields_same old new (f ∷ fs) h e = ap₂ (λ a b. a ∷ b) (ap (λ s. record { name = f.name; of = s }) (e f.of h.0)) (fields_same old new fs h.1 e)

below_up : (a b : ℕ) (js : List ℕ) → a ≤ b → AreBelow a js → AreBelow b js
below_up a b [] l h = tt
below_up a b (j ∷ js) l h = (omega (arith, l, h.0), below_up a b js l h.1)

-- ---- growth

pub grows_so : (held : Held) → Grows held held
grows_so held = record {
  cons = [];
  lambdas = [];
  statics = [];
  more_cons = sym (append-nil held.cons);
  more_lambdas = sym (append-nil held.lambdas);
  more_statics = sym (append-nil held.statics);
}

pub grows_then : (a b c : Held) → Grows a b → Grows b c → Grows a c
grows_then a b c g h = record {
  cons = g.cons ++ h.cons;
  lambdas = g.lambdas ++ h.lambdas;
  statics = g.statics ++ h.statics;
  more_cons = h.more_cons ∙ ap (λ l. l ++ h.cons) g.more_cons ∙ append_assoc a.cons g.cons h.cons;
  more_lambdas = h.more_lambdas ∙ ap (λ l. l ++ h.lambdas) g.more_lambdas ∙ append_assoc a.lambdas g.lambdas h.lambdas;
  more_statics = h.more_statics ∙ ap (λ l. l ++ h.statics) g.more_statics ∙ append_assoc a.statics g.statics h.statics;
}

pub grows_static : (held : Held) (s : Static) → Grows held (with_static held s)
grows_static held s = record {
  cons = [];
  lambdas = [];
  statics = s ∷ [];
  more_cons = sym (append-nil held.cons);
  more_lambdas = sym (append-nil held.lambdas);
  more_statics = refl;
}

pub from_grows : (held : Held) (ns : List Node) → Grows held (held_from held ns)
from_grows held [] = grows_so held
from_grows held (n ∷ ns) =
    let s = static_of_node held n in
    grows_then held (with_static held s) (held_from (with_static held s) ns) (grows_static held s) (from_grows (with_static held s) ns)

-- ---- what a node is stays

module _ (old new : Held) (g : Grows old new) where
  con_stays : (j : ℕ) → j < length old.cons → con_at new.cons j ≡ con_at old.cons j
  con_stays j h = ap (λ l. con_at l j) g.more_cons ∙ get_or-append old.cons g.cons (normal.Type unit) j h

  static_stays : (j : ℕ) → j < length old.statics → static_at new.statics j ≡ static_at old.statics j
  static_stays j h = ap (λ l. static_at l j) g.more_statics ∙ get_or-append old.statics g.statics (static_record []) j h

  lambda_stays : (j : ℕ) → j < length old.lambdas → slice_get new.lambdas j ≡ slice_get old.lambdas j
  lambda_stays j h = ap (λ l. slice_get l j) g.more_lambdas ∙ get_longer old.lambdas g.lambdas j ([], x.Unit) h

  pub node_same : (n : Node) → NodeFits old n → static_of_node new n ≡ static_of_node old n
  node_same (node.Int i) h = refl
  node_same (node.Str s) h = refl
  node_same (node.Bool b) h = refl
  node_same (node.Function k js) h = ap (λ cs. st.Function k cs) (all_same (con_at new.cons) (con_at old.cons) (length old.cons) js h con_stays)
  node_same (node.Lambda l js fs) h =
      ap (λ w. lambda_with w (map (con_at new.cons) js) (map (static_at new.statics) fs)) (lambda_stays l h.0)
      ∙ ap₂ (λ cs ss. lambda_with (slice_get old.lambdas l) cs ss)
      (all_same (con_at new.cons) (con_at old.cons) (length old.cons) js h.1 con_stays)
      (all_same (static_at new.statics) (static_at old.statics) (length old.statics) fs h.2 static_stays)
  node_same (node.Record fs) h = ap (λ gs. st.Record gs) (fields_same old.statics new.statics fs h static_stays)

  more_cons : length old.cons ≤ length new.cons
  more_cons = omega (arith, ap length g.more_cons, length-append old.cons g.cons)

  more_lambdas : length old.lambdas ≤ length new.lambdas
  more_lambdas = omega (arith, ap length g.more_lambdas, length-append old.lambdas g.lambdas)

  more_statics : length old.statics ≤ length new.statics
  more_statics = omega (arith, ap length g.more_statics, length-append old.statics g.statics)

  pub node_fits : (n : Node) → NodeFits old n → NodeFits new n
  node_fits (node.Int i) h = tt
  node_fits (node.Str s) h = tt
  node_fits (node.Bool b) h = tt
  node_fits (node.Function k js) h = below_up (length old.cons) (length new.cons) js more_cons h
  node_fits (node.Lambda l js fs) h =
      (omega (arith, h.0, more_lambdas), below_up (length old.cons) (length new.cons) js more_cons h.1, below_up (length old.statics) (length new.statics) fs more_statics h.2)
  node_fits (node.Record fs) h = below_up (length old.statics) (length new.statics) (map (λ f. f.of) fs) more_statics h

-- ---- nodes, one after the other

pub from_more : (held : Held) (ns : List Node) (n : Node) → held_from held (ns ++ n ∷ []) ≡ with_static (held_from held ns) (static_of_node (held_from held ns) n)
from_more held [] n = refl
from_more held (m ∷ ns) n = from_more (with_static held (static_of_node held m)) ns n

pub rises_more : (held : Held) (ns : List Node) (n : Node) → Rises held ns → NodeFits (held_from held ns) n → Rises held (ns ++ n ∷ [])
rises_more held [] n r h = (h, tt)
rises_more held (m ∷ ns) n r h = (r.0, rises_more (with_static held (static_of_node held m)) ns n r.1 h)

pub from_length : (held : Held) (ns : List Node) → length (held_from held ns).statics ≡ length held.statics + length ns
from_length held [] = omega arith
from_length held (n ∷ ns) =
    let s = static_of_node held n in
    omega (arith, from_length (with_static held s) ns, length-append held.statics (s ∷ []))

pub node_at : (held : Held) (ns : List Node) → Rises held ns → (j : ℕ) (n : Node) → slice_get ns j ≡ Some n
    → (slice_get (held_from held ns).statics (length held.statics + j) ≡ Some (static_of_node (held_from held ns) n)) × NodeFits (held_from held ns) n
node_at held [] r j n e = absurd (cc)
node_at held (m ∷ ns) r zero n e =
    let s = static_of_node held m in
    let mid = with_static held s in
    let last = held_from mid ns in
    let g = from_grows mid ns in
    let whole = grows_then held mid last (grows_static held s) g in
    let is : m ≡ n = the_same m n e in
    let there : slice_get last.statics (length held.statics) ≡ Some s =
    ap (λ l. slice_get l (length held.statics)) (g.more_statics ∙ append_assoc held.statics (s ∷ []) g.statics) ∙ at_seam held.statics s g.statics in
    subst (λ k. (slice_get last.statics (length held.statics + 0) ≡ Some (static_of_node last k)) × NodeFits last k) is
    (ap (λ j. slice_get last.statics j) (omega arith) ∙ there ∙ ap Some (sym (node_same held last whole m r.0)), node_fits held last whole m r.0)
node_at held (m ∷ ns) r (suc j) n e =
    let mid = with_static held (static_of_node held m) in
    let rest = node_at mid ns r.1 j n e in
    let place : length held.statics + suc j ≡ length mid.statics + j = omega (arith, length-append held.statics (static_of_node held m ∷ [])) in
    (ap (λ j. slice_get (held_from mid ns).statics j) place ∙ rest.0, rest.1)

-- ---- more constructors and lambdas

pub record Widens (old new : Held) : Type 0 where
  pub cons : List Normal
  pub lambdas : List Written
  pub more_cons : new.cons ≡ old.cons ++ cons
  pub more_lambdas : new.lambdas ≡ old.lambdas ++ lambdas
  pub same : new.statics ≡ old.statics

pub widens_grows : (old new : Held) → Widens old new → Grows old new
widens_grows old new w = record {
  cons = w.cons;
  lambdas = w.lambdas;
  statics = [];
  more_cons = w.more_cons;
  more_lambdas = w.more_lambdas;
  more_statics = w.same ∙ sym (append-nil old.statics);
}

pub from_wider : (ns : List Node) (old new : Held) → Widens old new → Rises old ns → Widens (held_from old ns) (held_from new ns) × Rises new ns
from_wider [] old new w r = (w, tt)
from_wider (n ∷ ns) old new w r =
    let g = widens_grows old new w in
    let e = node_same old new g n r.0 in
    let wider : Widens (with_static old (static_of_node old n)) (with_static new (static_of_node new n)) = record {
      cons = w.cons;
      lambdas = w.lambdas;
      more_cons = w.more_cons;
      more_lambdas = w.more_lambdas;
      same = ap₂ (λ l s. l ++ s ∷ []) w.same e;
    } in
    let rest = from_wider ns (with_static old (static_of_node old n)) (with_static new (static_of_node new n)) wider r.1 in
    (rest.0, (node_fits old new g n r.0, rest.1))
