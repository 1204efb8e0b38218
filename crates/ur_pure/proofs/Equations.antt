-- The acts of each form of term, over plain lists.
use Rattle.std.proofs.Common.{◌≡◌, ℕ, List, ◌∷◌, ◌++◌, refl, sym, ap, ap₂, ◌∙◌, flat_map, append-nil, append_assoc, Result, IfOk, subst}
use mathlib.Core.Former.{Count}
use denote.Hole.Carrier
use Rattle.std.proofs.lemmas.Result.{IfOk-weaker}
use Rattle.ur_base.specs.declared.refusal.Memory.{Memory}
use Rattle.ur_terms.specs.declared.term.Op.{Op}
use Rattle.ur_terms.specs.declared.term.Branch.{Branch}
use Rattle.ur_terms.specs.declared.term.Term.TheBlock as block
use Rattle.ur_terms.specs.declared.term.Term.{Term, Row_of-Term, end_of-Term, more_of-Term, Row_of-Branch, end_of-Branch, more_of-Branch}
use Rattle.ur_terms.specs.declared.term.Term.{items-the_row-Term, items_hidden-the_row-Term-0, items-the_row-Branch, items_hidden-the_row-Branch-2}
use Rattle.ur_terms.specs.declared.term.Term.TheVariants as t
use Rattle.ur_pure.specs.Acts.{op_acts, acts, acts_of_all, acts_of_branches}
use Rattle.ur_pure.specs.declared.act.Act.TheVariants.{Calls}
use Rattle.ur_pure.specs.declared.act.Act.{Act}
use Rattle.ur_pure.specs.Acts.{acts}

abbrev row_of : Term → (n : Count) × Row_of-Term n
row_of (t.Make' o _ row) = (_, row)
row_of (t.Call' f _ row) = (_, row)
row_of (t.Let' _ row _ body) = (_, row)
row_of _ = (_, end_of-Term)

abbrev branches_of : Term → (n : Count) × Row_of-Branch n
branches_of (t.Case' _ x _ row) = (_, row)
branches_of _ = (_, end_of-Branch)

pub deeds_row : (m : Count) (row : Row_of-Term m) → acts_of_all row ≡ flat_map acts (items-the_row-Term m row)
deeds_row m end_of-Term = refl
deeds_row m (more_of-Term x rest) = ap (λ ds. acts x ++ ds) (deeds_row _ rest)

pub branches_row : (m : Count) (row : Row_of-Branch m) → acts_of_branches row ≡ flat_map (λ b. acts b.body) (items-the_row-Branch m row)
branches_row m end_of-Branch = refl
branches_row m (more_of-Branch pattern body rest) = ap (λ ds. acts body ++ ds) (branches_row _ rest)

pub deeds-Make : (o : Op) (args : List Term) → acts (t.Make o args) ≡ op_acts o ++ flat_map acts args
deeds-Make o args =
    let row = row_of (t.Make o args) in
    ap (λ ds. op_acts o ++ ds) (deeds_row row.0 row.1 ∙ ap (flat_map acts) (items_hidden-the_row-Term-0 args))

pub deeds-Call : (f : ℕ) (args : List Term) → acts (t.Call f args) ≡ Calls f ∷ flat_map acts args
deeds-Call f args =
    let row = row_of (t.Call f args) in
    ap (λ ds. Calls f ∷ ds) (deeds_row row.0 row.1 ∙ ap (flat_map acts) (items_hidden-the_row-Term-0 args))

pub deeds-Let : (args : List Term) (body : Term) → acts (t.Let args body) ≡ flat_map acts args ++ acts body
unfolding block.hidden-the_row-Term-1 Carrier.hidden
deeds-Let args body =
    let row = row_of (t.Let args body) in
    ap₂ (λ (u w : List Act). u ++ w) (deeds_row row.0 row.1 ∙ ap (flat_map acts) (items_hidden-the_row-Term-0 args)) (append-nil (acts body))

pub deeds-If : (x a b : Term) → acts (t.If x a b) ≡ acts x ++ acts a ++ acts b
unfolding block.hidden-the_row-Term-1 Carrier.hidden
deeds-If x a b = ap₂ (λ (u w : List Act). u ++ w) (ap₂ (λ (u w : List Act). u ++ w) (append-nil (acts x)) (append-nil (acts a))) (append-nil (acts b))

pub deeds-Case : (x : Term) (bs : List Branch) → acts (t.Case x bs) ≡ acts x ++ flat_map (λ b. acts b.body) bs
unfolding block.hidden-the_row-Term-1 Carrier.hidden
deeds-Case x bs =
    let row = branches_of (t.Case x bs) in
    ap₂ (λ (u w : List Act). u ++ w) (append-nil (acts x)) (branches_row row.0 row.1 ∙ ap (flat_map (λ b. acts b.body)) (items_hidden-the_row-Branch-2 bs))

pub deeds-Each : (x body : Term) → acts (t.Each x body) ≡ acts x ++ acts body
unfolding block.hidden-the_row-Term-1 Carrier.hidden
deeds-Each x body = ap₂ (λ (u w : List Act). u ++ w) (append-nil (acts x)) (append-nil (acts body))

-- ---- acts with more

-- the acts with those of the acts
abbrev pub Has : List Act → List Act → List Act → Type 0
Has items ds more = more ≡ items ++ ds

pub has_both : (items more most : List Act) (a b : List Act) → Has items a more → Has more b most → Has items (a ++ b) most
has_both items more most a b one two = two ∙ ap (λ (xs : List Act). xs ++ b) one ∙ append_assoc items a b

-- the last step of a walk
pub has_all : (r : Result (List Act) Memory) (items more : List Act) (a b all : List Act) → Has items a more → all ≡ a ++ b → IfOk r (Has more b)
    → IfOk r (Has items all)
has_all r items more a b all one same two =
    IfOk-weaker r _ _ (λ most h. subst (λ (ds : List Act). Has items ds most) (sym same) (has_both items more most a b one h)) two
