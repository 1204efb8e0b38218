-- What each way of adding a term gives.
use Rattle.std.proofs.Common.{◌≡◌, ℕ, ◌≤◌, List, [], ◌∷◌, ◌++◌, map, flat_map, length, Option, Some, None, All, refl, sym, ap, ◌∙◌, subst, arith, append-nil, append_assoc, length-append}
use Rattle.std.specs.Prelude.{filter_map}
use Rattle.std.specs.List.{cons_option}
use Rattle.std.proofs.lemmas.List.{map-append}
use Rattle.std.proofs.lemmas.List.Elements.{All-append, All-from_recursion}
use Rattle.std.proofs.lemmas.Option.{slice_get_within}
use Rattle.ur_values.specs.declared.value.Value.{Value}
use Rattle.ur_sql.specs.declared.term.SqlTerm.{SqlTerm}
use Rattle.ur_sql.specs.declared.term.SqlTerm.TheVariants as t
use Rattle.ur_congruence.specs.declared.terms.TermNode.TheVariants.{Variable, Apply}
use Rattle.ur_congruence.specs.Graph.{Graph}
use Rattle.ur_congruence.specs.Terms.{IsNumberOf}
use Rattle.ur_conditions.specs.Terms.{subterms, constant_of}
use Rattle.ur_invalidate.specs.declared.leaf.Leaf.{Leaf}
use Rattle.ur_invalidate.specs.declared.numbering.Numbering.{Numbering}
use Rattle.ur_invalidate.specs.Numbers.{leaf_of, leaf_place, all_numbers, number_of, IsNumber, AreNumbered}
use Rattle.ur_invalidate.specs.Numbering.{NumberIn, Numbered, Keeps, AddsTerm, AddsNode, AddsLeaf}
use Rattle.ur_invalidate.proofs.Numbers.{numbers_cons}
use Rattle.ur_invalidate.proofs.Shapes.{IsApplication, IsLeaf, Shape, of_parts, of_none, shape}
use Rattle.ur_invalidate.proofs.Steps.{nodes_grow, leaf_keeps, leaf_added, application_keeps, application_added}

-- a term that is a leaf has no parts
is_leaf : (a : SqlTerm) (l : Leaf) → leaf_of a ≡ Some l → IsLeaf a
is_leaf a l e = go (shape a)
  where
    go : Shape a → IsLeaf a
    go (of_none is) = is
    go (of_parts f ps is) = let clash : None ≡ Some l = sym is.no_leaf ∙ e in cc

grown : (old new : Graph) → ((more : List _) × (new.nodes ≡ old.nodes ++ more)) → length old.nodes ≤ length new.nodes
grown old new g = let e = ap length (g.1) in let f = length-append old.nodes (g.0) in omega (arith, e, f)

-- ---- leaves

pub leaf_adds : (old final : Numbering) (l : Leaf) (a : SqlTerm) (n place : ℕ) (more : List Leaf) → final.leaves.keys ≡ old.leaves.keys ++ more
    → leaf_place final.leaves.keys l ≡ Some place → IsNumberOf (Variable place) old.closure final.closure n → leaf_of a ≡ Some l
    → map (λ (c : Value × ℕ). c.0) final.constants ≡ map (λ (c : Value × ℕ). c.0) old.constants ++ filter_map constant_of (a ∷ [])
    → (All (λ (c : Value × ℕ). NumberIn final (t.Constant (c.0)) (c.1)) old.constants → NumberIn final a n → All (λ (c : Value × ℕ). NumberIn final (t.Constant (c.0)) (c.1)) final.constants)
    → AddsTerm old final a n
leaf_adds old final l a n place more grow placed node same are have =
    let leaf = is_leaf a l same in
    record {
      equations = node.equations;
      keeps = leaf_keeps old.leaves.keys more final.leaves.keys grow place l placed old.closure final.closure n node;
      longer = grown old.closure final.closure (nodes_grow (Variable place) old.closure final.closure n node);
      within = slice_get_within final.closure.nodes n (Variable place) node.number;
      numbered = λ known before. leaf_added old.leaves.keys more final.leaves.keys grow place l placed old.closure final.closure n node known old.constants final.constants before a leaf same are have;
    }

-- a column or an antiquote
pub plain_leaf_adds : (old final : Numbering) (l : Leaf) (n : ℕ) → AddsLeaf old final l n → (a : SqlTerm) → leaf_of a ≡ Some l → constant_of a ≡ None → AddsTerm old final a n
plain_leaf_adds old final l n is a same no_constant =
    leaf_adds old final l a n is.place (is.leaves.0) (is.leaves.1) is.placed is.node same
    (ap (map (λ (c : Value × ℕ). c.0)) is.constants ∙ sym (append-nil (map (λ (c : Value × ℕ). c.0) old.constants))
    ∙ ap (λ cs. map (λ (c : Value × ℕ). c.0) old.constants ++ cs) (sym (ap (λ (o : Option Value). cons_option o []) no_constant)))
    (λ all here. subst (λ cs. All (λ (c : Value × ℕ). NumberIn final (t.Constant (c.0)) (c.1)) cs) (sym is.constants) all)

-- a constant, which is noted
pub constant_adds : (old new final : Numbering) (l : Leaf) (n : ℕ) → AddsLeaf old new l n → (x : Value) → leaf_of (t.Constant x) ≡ Some l
    → final.leaves.keys ≡ new.leaves.keys → final.closure ≡ new.closure → final.constants ≡ new.constants ++ (x, n) ∷ [] → AddsTerm old final (t.Constant x) n
constant_adds old new final l n is x same leaves closure constants =
    let noted : final.constants ≡ old.constants ++ (x, n) ∷ [] = constants ∙ ap (λ cs. cs ++ (x, n) ∷ []) is.constants in
    leaf_adds old final l (t.Constant x) n is.place (is.leaves.0) (leaves ∙ is.leaves.1) (ap (λ ls. leaf_place ls l) leaves ∙ is.placed)
    (subst (λ (g : Graph). IsNumberOf (Variable is.place) old.closure g n) (sym closure) is.node) same
    (ap (map (λ (c : Value × ℕ). c.0)) noted ∙ map-append (λ (c : Value × ℕ). c.0) old.constants ((x, n) ∷ []))
    (λ all here. subst (λ cs. All (λ (c : Value × ℕ). NumberIn final (t.Constant (c.0)) (c.1)) cs) (sym noted)
    (All-append (λ (c : Value × ℕ). NumberIn final (t.Constant (c.0)) (c.1)) old.constants ((x, n) ∷ []) all
    (All-from_recursion (λ (c : Value × ℕ). NumberIn final (t.Constant (c.0)) (c.1)) ((x, n) ∷ []) (here, tt))))

-- ---- applications

-- the node of an application is added where its parts are numbered
application_step : (old middle final : Numbering) (f : ℕ) (ns : List ℕ) (a : SqlTerm) (parts : List SqlTerm) (n : ℕ) → IsApplication a f parts → AddsNode middle final (Apply f ns) n
    → middle.closure.equations ≡ old.closure.equations → Keeps old middle → length old.closure.nodes ≤ length middle.closure.nodes
    → ((known : List SqlTerm) → Numbered known old → Numbered (known ++ flat_map subterms parts) middle × (all_numbers (map (number_of middle.leaves.keys middle.closure.nodes) parts) ≡ Some ns))
    → AddsTerm old final a n
application_step old middle final f ns a parts n is adds equations keeps longer numbered =
    let node = adds.is in
    let leaves = adds.leaves in
    let more = grown middle.closure final.closure (nodes_grow (Apply f ns) middle.closure final.closure n node) in
    record {
      equations = node.equations ∙ equations;
      keeps = λ b m e. subst (λ ls. IsNumber ls final.closure.nodes b m) (sym leaves) (application_keeps middle.leaves.keys middle.closure final.closure f ns n node b m (keeps b m e));
      longer = omega (arith, longer, more);
      within = slice_get_within final.closure.nodes n (Apply f ns) node.number;
      numbered = λ known before.
          let r = numbered known before in
          let all = application_added middle.leaves.keys middle.closure final.closure f ns n node known middle.constants a parts is (r.0) (r.1) in (
            subst (λ ls. AreNumbered (known ++ subterms a) ls final.closure.nodes final.constants) (sym leaves) (subst (λ cs. AreNumbered (known ++ subterms a) middle.leaves.keys final.closure.nodes cs) (sym adds.constants) (all.0)),
            subst (λ ls. IsNumber ls final.closure.nodes a n) (sym leaves) (all.1),
          );
    }

-- of one term
pub one_adds : (old middle final : Numbering) (f : ℕ) (term a : SqlTerm) (m n : ℕ) → IsApplication term f (a ∷ []) → AddsTerm old middle a m → AddsNode middle final (Apply f (m ∷ [])) n
    → AddsTerm old final term n
one_adds old middle final f term a m n is first node =
    let nil = append-nil (subterms a) in
    application_step old middle final f (m ∷ []) term (a ∷ []) n is node first.equations first.keeps first.longer
    (λ known before. let r = first.numbered known before in
    (subst (λ more. Numbered (known ++ more) middle) (sym nil) (r.0), numbers_cons (number_of middle.leaves.keys middle.closure.nodes a) [] m [] (r.1) refl))

-- of two terms
pub both_adds : (old first second final : Numbering) (f : ℕ) (term a b : SqlTerm) (m k n : ℕ) → IsApplication term f (a ∷ b ∷ []) → AddsTerm old first a m → AddsTerm first second b k
    → AddsNode second final (Apply f (m ∷ k ∷ [])) n → AddsTerm old final term n
both_adds old first second final f term a b m k n is left right node =
    let nil = append-nil (subterms b) in
    let far = left.longer in
    let further = right.longer in
    application_step old second final f (m ∷ k ∷ []) term (a ∷ b ∷ []) n is node (right.equations ∙ left.equations) (λ c i e. right.keeps c i (left.keeps c i e)) (omega (arith, far, further))
    (λ known before. let r = left.numbered known before in let s = right.numbered (known ++ subterms a) (r.0) in (
      subst (λ xs. Numbered (known ++ (subterms a ++ xs)) second) (sym nil) (subst (λ xs. Numbered xs second) (append_assoc known (subterms a) (subterms b)) (s.0)),
      numbers_cons (number_of second.leaves.keys second.closure.nodes a) (number_of second.leaves.keys second.closure.nodes b ∷ []) m (k ∷ []) (right.keeps a m (r.1))
          (numbers_cons (number_of second.leaves.keys second.closure.nodes b) [] k [] (s.1) refl),
    ))
