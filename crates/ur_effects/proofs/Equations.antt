-- The deeds of each form of term, over plain lists.
use Rattle.std.proofs.Common.{◌≡◌, ℕ, List, ◌∷◌, ◌++◌, refl, sym, ap, ap₂, ◌∙◌, flat_map, map, append-nil, append_assoc, Result, IfOk, subst}
use mathlib.Core.Former.{Count}
use denote.Hole.Carrier
use Rattle.std.proofs.lemmas.Result.{IfOk-weaker}
use Rattle.ur_base.specs.declared.refusal.Memory.{Memory}
use Rattle.ur_terms.specs.declared.term.Op.{Op}
use Rattle.ur_terms.specs.declared.term.Branch.{Branch}
use Rattle.ur_terms.specs.declared.term.Term.TheBlock as block
use Rattle.ur_terms.specs.declared.term.Term.{Term, Row_of-Term, end_of-Term, more_of-Term, Row_of-Branch, end_of-Branch, more_of-Branch, items-the_row-Term, items_hidden-the_row-Term-0, items-the_row-Branch, items_hidden-the_row-Branch-2}
use Rattle.ur_terms.specs.declared.term.Term.TheVariants as t
use Rattle.ur_terms.specs.Shape.{Deed, calls, op_deeds, deeds, deeds_of_all, deeds_of_branches}
use Rattle.ur_effects.specs.declared.act.Act.{Act}
use Rattle.ur_effects.specs.Acts.{act_deed}

abbrev row_of : Term → (n : Count) × Row_of-Term n
row_of (t.Make' o _ row) = (_, row)
row_of (t.Call' f _ row) = (_, row)
row_of (t.Let' _ row _ body) = (_, row)
row_of _ = (_, end_of-Term)

abbrev branches_of : Term → (n : Count) × Row_of-Branch n
branches_of (t.Case' _ x _ row) = (_, row)
branches_of _ = (_, end_of-Branch)

pub deeds_row : (m : Count) (row : Row_of-Term m) → deeds_of_all row ≡ flat_map deeds (items-the_row-Term m row)
deeds_row m end_of-Term = refl
deeds_row m (more_of-Term x rest) = ap (λ ds. deeds x ++ ds) (deeds_row _ rest)

pub branches_row : (m : Count) (row : Row_of-Branch m) → deeds_of_branches row ≡ flat_map (λ b. deeds b.body) (items-the_row-Branch m row)
branches_row m end_of-Branch = refl
branches_row m (more_of-Branch pattern body rest) = ap (λ ds. deeds body ++ ds) (branches_row _ rest)

pub deeds-Make : (o : Op) (args : List Term) → deeds (t.Make o args) ≡ op_deeds o ++ flat_map deeds args
deeds-Make o args =
    let row = row_of (t.Make o args) in
    ap (λ ds. op_deeds o ++ ds) (deeds_row row.0 row.1 ∙ ap (flat_map deeds) (items_hidden-the_row-Term-0 args))

pub deeds-Call : (f : ℕ) (args : List Term) → deeds (t.Call f args) ≡ calls f ∷ flat_map deeds args
deeds-Call f args =
    let row = row_of (t.Call f args) in
    ap (λ ds. calls f ∷ ds) (deeds_row row.0 row.1 ∙ ap (flat_map deeds) (items_hidden-the_row-Term-0 args))

pub deeds-Let : (args : List Term) (body : Term) → deeds (t.Let args body) ≡ flat_map deeds args ++ deeds body
unfolding block.hidden-the_row-Term-1 Carrier.hidden
deeds-Let args body =
    let row = row_of (t.Let args body) in
    ap₂ (λ (u w : List Deed). u ++ w) (deeds_row row.0 row.1 ∙ ap (flat_map deeds) (items_hidden-the_row-Term-0 args)) (append-nil (deeds body))

pub deeds-If : (x a b : Term) → deeds (t.If x a b) ≡ deeds x ++ deeds a ++ deeds b
unfolding block.hidden-the_row-Term-1 Carrier.hidden
deeds-If x a b = ap₂ (λ (u w : List Deed). u ++ w) (ap₂ (λ (u w : List Deed). u ++ w) (append-nil (deeds x)) (append-nil (deeds a))) (append-nil (deeds b))

pub deeds-Case : (x : Term) (bs : List Branch) → deeds (t.Case x bs) ≡ deeds x ++ flat_map (λ b. deeds b.body) bs
unfolding block.hidden-the_row-Term-1 Carrier.hidden
deeds-Case x bs =
    let row = branches_of (t.Case x bs) in
    ap₂ (λ (u w : List Deed). u ++ w) (append-nil (deeds x)) (branches_row row.0 row.1 ∙ ap (flat_map (λ b. deeds b.body)) (items_hidden-the_row-Branch-2 bs))

pub deeds-Each : (x body : Term) → deeds (t.Each x body) ≡ deeds x ++ deeds body
unfolding block.hidden-the_row-Term-1 Carrier.hidden
deeds-Each x body = ap₂ (λ (u w : List Deed). u ++ w) (append-nil (deeds x)) (append-nil (deeds body))

-- ---- acts with more

-- the acts with those of the deeds
abbrev pub Has : List Act → List Deed → List Act → Type 0
Has acts ds more = map act_deed more ≡ map act_deed acts ++ ds

pub has_both : (acts more most : List Act) (a b : List Deed) → Has acts a more → Has more b most → Has acts (a ++ b) most
has_both acts more most a b one two = two ∙ ap (λ (xs : List Deed). xs ++ b) one ∙ append_assoc (map act_deed acts) a b

-- the last step of a walk
pub has_all : (r : Result (List Act) Memory) (acts more : List Act) (a b all : List Deed) → Has acts a more → all ≡ a ++ b → IfOk r (Has more b) → IfOk r (Has acts all)
has_all r acts more a b all one same two =
    IfOk-weaker r _ _ (λ most h. subst (λ (ds : List Deed). Has acts ds most) (sym same) (has_both acts more most a b one h)) two
