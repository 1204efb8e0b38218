-- The shapes of terms: a symbol at terms, or a leaf.
use Rattle.std.proofs.Common.{◌≡◌, ℕ, ◌==◌, cond, List, [], ◌∷◌, ◌++◌, map, flat_map, Option, Some, None, refl, sym, ap, ap₂, ◌∙◌, subst, append-nil}
use Rattle.std.specs.List.{AllByRecursion}
use Rattle.ur_values.specs.declared.value.Value.{Value, more_of-Value, end_of-Value}
use Rattle.ur_values.specs.declared.value.Node.TheBlock as block
use Rattle.ur_values.specs.declared.value.Value.TheVariants as v
use Rattle.ur_values.specs.declared.atom.Atom.{Atom}
use Rattle.ur_values.specs.declared.atom.Atom.TheVariants as atom
use Rattle.ur_values.specs.Atom.{atom_value}
use Rattle.ur_sql.specs.declared.term.SqlTerm.{SqlTerm, more_of-SqlTerm as more, end_of-SqlTerm as none}
use Rattle.ur_sql.specs.declared.term.SqlTerm.TheVariants as t
use Rattle.ur_congruence.specs.Derives.{some_symbol}
use Rattle.ur_congruence.specs.declared.terms.TermNode.{TermNode}
use Rattle.ur_conditions.specs.Terms.{application, subterms, constant_of, HasAtoms}
use Rattle.ur_invalidate.specs.declared.leaf.Leaf.{Leaf}
use Rattle.ur_invalidate.specs.declared.leaf.Leaf.TheVariants as leaf
use Rattle.ur_invalidate.specs.Numbers.{leaf_of, leaf_number, all_numbers, applied, number_of}

-- ---- applications

-- what is known of a term that is a symbol at terms
pub record IsApplication (a : SqlTerm) (f : ℕ) (parts : List SqlTerm) : Type 0 where
  pub is : application a ≡ Some (f, parts)
  pub number : (leaves : List Leaf) (nodes : List TermNode) → number_of leaves nodes a ≡ applied nodes f (all_numbers (map (number_of leaves nodes) parts))
  pub terms : subterms a ≡ a ∷ flat_map subterms parts
  pub no_constant : constant_of a ≡ None
  pub no_leaf : leaf_of a ≡ None
  pub atoms : HasAtoms a → AllByRecursion HasAtoms parts

-- what is known of a term without parts
pub record IsLeaf (a : SqlTerm) : Type 0 where
  pub is : application a ≡ None
  pub number : (leaves : List Leaf) (nodes : List TermNode) → number_of leaves nodes a ≡ leaf_number leaves nodes (leaf_of a)
  pub terms : subterms a ≡ a ∷ []

pub data Shape (a : SqlTerm) : Type 0 where
  of_parts : (f : ℕ) (parts : List SqlTerm) → IsApplication a f parts → Shape a
  of_none : IsLeaf a → Shape a

pub add_is : (u : _) (a : SqlTerm) (w : _) (b : SqlTerm) → IsApplication (t.Add' u (more a none) w (more b none)) 0 (a ∷ b ∷ [])
unfolding number_of subterms Rattle.ur_sql.specs.declared.term.SqlTerm.TheBlock.hidden-the_row-SqlTerm-0 denote.Hole.Carrier.hidden
add_is u a w b = record { is = refl; number = λ l n. refl; terms = ap (λ xs. t.Add a b ∷ subterms a ++ xs) (sym (append-nil (subterms b))); no_constant = refl; no_leaf = refl; atoms = λ h. (h.0, (h.1, tt)) }

pub sub_is : (u : _) (a : SqlTerm) (w : _) (b : SqlTerm) → IsApplication (t.Sub' u (more a none) w (more b none)) 1 (a ∷ b ∷ [])
unfolding number_of subterms Rattle.ur_sql.specs.declared.term.SqlTerm.TheBlock.hidden-the_row-SqlTerm-0 denote.Hole.Carrier.hidden
sub_is u a w b = record { is = refl; number = λ l n. refl; terms = ap (λ xs. t.Sub a b ∷ subterms a ++ xs) (sym (append-nil (subterms b))); no_constant = refl; no_leaf = refl; atoms = λ h. (h.0, (h.1, tt)) }

pub mul_is : (u : _) (a : SqlTerm) (w : _) (b : SqlTerm) → IsApplication (t.Mul' u (more a none) w (more b none)) 2 (a ∷ b ∷ [])
unfolding number_of subterms Rattle.ur_sql.specs.declared.term.SqlTerm.TheBlock.hidden-the_row-SqlTerm-0 denote.Hole.Carrier.hidden
mul_is u a w b = record { is = refl; number = λ l n. refl; terms = ap (λ xs. t.Mul a b ∷ subterms a ++ xs) (sym (append-nil (subterms b))); no_constant = refl; no_leaf = refl; atoms = λ h. (h.0, (h.1, tt)) }

pub neg_is : (u : _) (a : SqlTerm) → IsApplication (t.Neg' u (more a none)) 3 (a ∷ [])
unfolding number_of subterms Rattle.ur_sql.specs.declared.term.SqlTerm.TheBlock.hidden-the_row-SqlTerm-0 denote.Hole.Carrier.hidden
neg_is u a = record { is = refl; number = λ l n. refl; terms = ap (λ xs. t.Neg a ∷ xs) (sym (append-nil (subterms a))); no_constant = refl; no_leaf = refl; atoms = λ h. (h, tt) }

pub present_is : (u : _) (a : SqlTerm) → IsApplication (t.Present' u (more a none)) some_symbol (a ∷ [])
unfolding number_of subterms Rattle.ur_sql.specs.declared.term.SqlTerm.TheBlock.hidden-the_row-SqlTerm-0 denote.Hole.Carrier.hidden
present_is u a =
    record {
      is = refl;
      number = λ l n. refl;
      terms = ap (λ xs. t.Present a ∷ xs) (sym (append-nil (subterms a)));
      no_constant = refl;
      no_leaf = refl;
      atoms
          = λ h. (h, tt);
    }

pub item_is : (i c : ℕ) → IsLeaf (t.Item i c)
unfolding number_of subterms Rattle.ur_sql.specs.declared.term.SqlTerm.TheBlock.hidden-the_row-SqlTerm-0 denote.Hole.Carrier.hidden
item_is i c = record { is = refl; number = λ l n. refl; terms = refl }

pub row_is : (c : ℕ) → IsLeaf (t.Row c)
unfolding number_of subterms Rattle.ur_sql.specs.declared.term.SqlTerm.TheBlock.hidden-the_row-SqlTerm-0 denote.Hole.Carrier.hidden
row_is c = record { is = refl; number = λ l n. refl; terms = refl }

pub old_is : (c : ℕ) → IsLeaf (t.Old c)
unfolding number_of subterms Rattle.ur_sql.specs.declared.term.SqlTerm.TheBlock.hidden-the_row-SqlTerm-0 denote.Hole.Carrier.hidden
old_is c = record { is = refl; number = λ l n. refl; terms = refl }

pub key_is : (n : ℕ) → IsLeaf (t.Key n)
unfolding number_of subterms Rattle.ur_sql.specs.declared.term.SqlTerm.TheBlock.hidden-the_row-SqlTerm-0 denote.Hole.Carrier.hidden
key_is n = record { is = refl; number = λ l n. refl; terms = refl }

pub arg_is : (n : ℕ) → IsLeaf (t.Arg n)
unfolding number_of subterms Rattle.ur_sql.specs.declared.term.SqlTerm.TheBlock.hidden-the_row-SqlTerm-0 denote.Hole.Carrier.hidden
arg_is n = record { is = refl; number = λ l n. refl; terms = refl }

pub constant_is : (x : Value) → IsLeaf (t.Constant x)
unfolding number_of subterms Rattle.ur_sql.specs.declared.term.SqlTerm.TheBlock.hidden-the_row-SqlTerm-0 denote.Hole.Carrier.hidden
constant_is x = record { is = refl; number = λ l n. refl; terms = refl }

pub shape : (a : SqlTerm) → Shape a
shape (t.Add' u (more a none) w (more b none)) = of_parts 0 (a ∷ b ∷ []) (add_is u a w b)
shape (t.Sub' u (more a none) w (more b none)) = of_parts 1 (a ∷ b ∷ []) (sub_is u a w b)
shape (t.Mul' u (more a none) w (more b none)) = of_parts 2 (a ∷ b ∷ []) (mul_is u a w b)
shape (t.Neg' u (more a none)) = of_parts 3 (a ∷ []) (neg_is u a)
shape (t.Present' u (more a none)) = of_parts some_symbol (a ∷ []) (present_is u a)
shape (t.Item i c) = of_none (item_is i c)
shape (t.Row c) = of_none (row_is c)
shape (t.Old c) = of_none (old_is c)
shape (t.Key n) = of_none (key_is n)
shape (t.Arg n) = of_none (arg_is n)
shape (t.Constant x) = of_none (constant_is x)

-- at the plain constructors
pub add_at : (a b : SqlTerm) → IsApplication (t.Add a b) 0 (a ∷ b ∷ [])
unfolding Rattle.ur_sql.specs.declared.term.SqlTerm.TheBlock.hidden-the_row-SqlTerm-0 denote.Hole.Carrier.hidden
add_at a b = add_is tt a tt b

pub sub_at : (a b : SqlTerm) → IsApplication (t.Sub a b) 1 (a ∷ b ∷ [])
unfolding Rattle.ur_sql.specs.declared.term.SqlTerm.TheBlock.hidden-the_row-SqlTerm-0 denote.Hole.Carrier.hidden
sub_at a b = sub_is tt a tt b

pub mul_at : (a b : SqlTerm) → IsApplication (t.Mul a b) 2 (a ∷ b ∷ [])
unfolding Rattle.ur_sql.specs.declared.term.SqlTerm.TheBlock.hidden-the_row-SqlTerm-0 denote.Hole.Carrier.hidden
mul_at a b = mul_is tt a tt b

pub neg_at : (a : SqlTerm) → IsApplication (t.Neg a) 3 (a ∷ [])
unfolding Rattle.ur_sql.specs.declared.term.SqlTerm.TheBlock.hidden-the_row-SqlTerm-0 denote.Hole.Carrier.hidden
neg_at a = neg_is tt a

pub present_at : (a : SqlTerm) → IsApplication (t.Present a) some_symbol (a ∷ [])
unfolding Rattle.ur_sql.specs.declared.term.SqlTerm.TheBlock.hidden-the_row-SqlTerm-0 denote.Hole.Carrier.hidden
present_at a = present_is tt a

-- at terms that equal these
pub add_of : (term a b x y : SqlTerm) → term ≡ t.Add a b → x ≡ a → y ≡ b → IsApplication term 0 (x ∷ y ∷ [])
add_of term a b x y is left right = subst (λ (z : SqlTerm). IsApplication z 0 (x ∷ y ∷ [])) (sym (is ∙ ap₂ t.Add (sym left) (sym right))) (add_at x y)

pub sub_of : (term a b x y : SqlTerm) → term ≡ t.Sub a b → x ≡ a → y ≡ b → IsApplication term 1 (x ∷ y ∷ [])
sub_of term a b x y is left right = subst (λ (z : SqlTerm). IsApplication z 1 (x ∷ y ∷ [])) (sym (is ∙ ap₂ t.Sub (sym left) (sym right))) (sub_at x y)

pub mul_of : (term a b x y : SqlTerm) → term ≡ t.Mul a b → x ≡ a → y ≡ b → IsApplication term 2 (x ∷ y ∷ [])
mul_of term a b x y is left right = subst (λ (z : SqlTerm). IsApplication z 2 (x ∷ y ∷ [])) (sym (is ∙ ap₂ t.Mul (sym left) (sym right))) (mul_at x y)

pub neg_of : (term a x : SqlTerm) → term ≡ t.Neg a → x ≡ a → IsApplication term 3 (x ∷ [])
neg_of term a x is part = subst (λ (z : SqlTerm). IsApplication z 3 (x ∷ [])) (sym (is ∙ ap t.Neg (sym part))) (neg_at x)

pub present_of : (term a x : SqlTerm) → term ≡ t.Present a → x ≡ a → IsApplication term some_symbol (x ∷ [])
present_of term a x is part = subst (λ (z : SqlTerm). IsApplication z some_symbol (x ∷ [])) (sym (is ∙ ap t.Present (sym part))) (present_at x)

-- a term has one symbol and one list of parts
abbrev symbol_if : Option (ℕ × List SqlTerm) → ℕ
symbol_if None = 0
symbol_if (Some p) = p.0

abbrev parts_if : Option (ℕ × List SqlTerm) → List SqlTerm
parts_if None = []
parts_if (Some p) = p.1

pub one_symbol : (a : SqlTerm) (f g : ℕ) (ps qs : List SqlTerm) → application a ≡ Some (f, ps) → application a ≡ Some (g, qs) → f ≡ g
one_symbol a f g ps qs e h = sym (ap symbol_if e) ∙ ap symbol_if h

pub one_parts : (a : SqlTerm) (f g : ℕ) (ps qs : List SqlTerm) → application a ≡ Some (f, ps) → application a ≡ Some (g, qs) → ps ≡ qs
one_parts a f g ps qs e h = sym (ap parts_if e) ∙ ap parts_if h

-- the term that a symbol at terms is
abbrev built : ℕ → List SqlTerm → SqlTerm
built f [] = t.Row 0
built f (a ∷ []) = cond (f == some_symbol) (t.Present a) (t.Neg a)
built f (a ∷ b ∷ rest) = cond (f == 0) (t.Add a b) (cond (f == 1) (t.Sub a b) (t.Mul a b))

abbrev built_if : Option (ℕ × List SqlTerm) → SqlTerm
built_if None = t.Row 0
built_if (Some p) = built (p.0) (p.1)

built_back : (a : SqlTerm) (f : ℕ) (parts : List SqlTerm) → application a ≡ Some (f, parts) → a ≡ built f parts
unfolding Rattle.ur_sql.specs.declared.term.SqlTerm.TheBlock.hidden-the_row-SqlTerm-0 denote.Hole.Carrier.hidden
built_back (t.Add' _ (more a none) _ (more b none)) f parts e = ap built_if e
built_back (t.Sub' _ (more a none) _ (more b none)) f parts e = ap built_if e
built_back (t.Mul' _ (more a none) _ (more b none)) f parts e = ap built_if e
built_back (t.Neg' _ (more a none)) f parts e = ap built_if e
built_back (t.Present' _ (more a none)) f parts e = ap built_if e
built_back (t.Item i c) f parts e = cc
built_back (t.Row c) f parts e = cc
built_back (t.Old c) f parts e = cc
built_back (t.Key n) f parts e = cc
built_back (t.Arg n) f parts e = cc
built_back (t.Constant x) f parts e = cc

-- a symbol at terms is one term
pub same_application : (a b : SqlTerm) (f : ℕ) (parts : List SqlTerm) → application a ≡ Some (f, parts) → application b ≡ Some (f, parts) → a ≡ b
same_application a b f parts e h = built_back a f parts e ∙ sym (built_back b f parts h)

-- ---- leaves

-- the term that a leaf is
abbrev pub leaf_term : Leaf → SqlTerm
leaf_term (leaf.Item i c) = t.Item i c
leaf_term (leaf.Row c) = t.Row c
leaf_term (leaf.Old c) = t.Old c
leaf_term (leaf.Key n) = t.Key n
leaf_term (leaf.Arg n) = t.Arg n
leaf_term (leaf.Constant a) = t.Constant (atom_value a)

abbrev leaf_term_if : Option Leaf → SqlTerm
leaf_term_if None = t.Row 0
leaf_term_if (Some l) = leaf_term l

pub leaf_back : (a : SqlTerm) (l : Leaf) → leaf_of a ≡ Some l → a ≡ leaf_term l
unfolding block.hidden-the_row-Value-3 denote.Hole.Carrier.hidden
leaf_back (t.Add' _ (more a none) _ (more b none)) l e = cc
leaf_back (t.Sub' _ (more a none) _ (more b none)) l e = cc
leaf_back (t.Mul' _ (more a none) _ (more b none)) l e = cc
leaf_back (t.Neg' _ (more a none)) l e = cc
leaf_back (t.Present' _ (more a none)) l e = cc
leaf_back (t.Item i c) l e = ap leaf_term_if e
leaf_back (t.Row c) l e = ap leaf_term_if e
leaf_back (t.Old c) l e = ap leaf_term_if e
leaf_back (t.Key n) l e = ap leaf_term_if e
leaf_back (t.Arg n) l e = ap leaf_term_if e
leaf_back (t.Constant (v.Int n)) l e = ap leaf_term_if e
leaf_back (t.Constant (v.Bool b)) l e = ap leaf_term_if e
leaf_back (t.Constant (v.Str s)) l e = ap leaf_term_if e
leaf_back (t.Constant v.Absent) l e = ap leaf_term_if e
leaf_back (t.Constant (v.Present' _ (more_of-Value (v.Int n) end_of-Value))) l e = ap leaf_term_if e
leaf_back (t.Constant (v.Present' _ (more_of-Value (v.Bool b) end_of-Value))) l e = ap leaf_term_if e
leaf_back (t.Constant (v.Present' _ (more_of-Value (v.Str s) end_of-Value))) l e = ap leaf_term_if e
leaf_back (t.Constant (v.Present' _ (more_of-Value _ end_of-Value))) l e = cc
leaf_back (t.Constant _) l e = cc

-- a constant that an atom stands for
pub constant_leaf_is : (a : Atom) (x : Value) → atom_value a ≡ x → leaf_of (t.Constant x) ≡ Some (leaf.Constant a)
unfolding block.hidden-the_row-Value-3 denote.Hole.Carrier.hidden
constant_leaf_is (atom.Int n) x e = ap (λ (y : Value). leaf_of (t.Constant y)) (sym e)
constant_leaf_is (atom.Bool b) x e = ap (λ (y : Value). leaf_of (t.Constant y)) (sym e)
constant_leaf_is (atom.Str s) x e = ap (λ (y : Value). leaf_of (t.Constant y)) (sym e)
constant_leaf_is atom.Null x e = ap (λ (y : Value). leaf_of (t.Constant y)) (sym e)
constant_leaf_is (atom.SomeInt n) x e = ap (λ (y : Value). leaf_of (t.Constant y)) (sym e)
constant_leaf_is (atom.SomeBool b) x e = ap (λ (y : Value). leaf_of (t.Constant y)) (sym e)
constant_leaf_is (atom.SomeStr s) x e = ap (λ (y : Value). leaf_of (t.Constant y)) (sym e)

-- one leaf is one term
pub same_leaf : (a b : SqlTerm) (l : Leaf) → leaf_of a ≡ Some l → leaf_of b ≡ Some l → a ≡ b
same_leaf a b l e h = leaf_back a l e ∙ sym (leaf_back b l h)
