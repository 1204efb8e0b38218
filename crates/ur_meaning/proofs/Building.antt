-- The term of a form whose parts are made.
use Rattle.std.proofs.Common.{◌≡◌, ◌≢◌, ℕ, suc, ◌+◌, ◌≤◌, max, List, [], ◌∷◌, ◌++◌, map, reverse, refl, sym, ap, subst, ◌∙◌, arith, append_assoc, length}
use Rattle.std.proofs.lemmas.List.{reverse-append, length-append, append-nil, length-map, length-reverse}
use Rattle.ur_terms.specs.declared.term.Branch.{Branch}
use Rattle.ur_terms.specs.declared.term.Pattern.{Pattern}
use Rattle.ur_terms.specs.declared.term.Term.{Term}
use Rattle.ur_terms.specs.Shape.{nodes, depth}
use Rattle.ur_meaning.specs.Form.{Form, Language, same_form, no_form, parts}
use Rattle.ur_meaning.specs.Unfolds as u
use Rattle.ur_meaning.specs.Unfolds.{Unfolds, Becomes, UnfoldAll, UnfoldBranches}
use Rattle.ur_meaning.specs.Instances.{own_nodes, own_levels}
use Rattle.ur_meaning.proofs.Parts.{get_longer}
use Rattle.ur_meaning.proofs.Sizes.{branch_nodes, branch_depth, list_depth, nodes-Make, nodes-Call, nodes-Let, nodes-If, nodes-Case, nodes-Each, depth-Make, depth-Call, depth-Let, depth-If, depth-Case, depth-Each}
use Rattle.ur_meaning.specs.declared.head.Head.{Head}
use Rattle.ur_meaning.specs.declared.head.Head.TheVariants as head
use Rattle.ur_meaning.specs.Heads as h
use Rattle.ur_meaning.specs.Heads.{Heads}
use Rattle.ur_meaning.specs.Building.{IsBuilt}
use Rattle.ur_meaning.specs.Making.{list_nodes, AreWithin}

-- ---- sizes of parts

within_depth : (levels : ℕ) (ts : List Term) → AreWithin levels ts → list_depth ts ≤ levels
within_depth levels [] w = omega arith
within_depth levels (a ∷ ts) w =
    let rest : list_depth ts ≤ levels = within_depth levels ts w.1 in
    grind (arith, w.0, rest)

body_nodes : (bs : List Branch) → list_nodes (map (λ b. b.body) bs) ≡ branch_nodes bs
body_nodes [] = refl
body_nodes (b ∷ bs) = ap (λ k. nodes b.body + k) (body_nodes bs)

body_depth : (bs : List Branch) → list_depth (map (λ b. b.body) bs) ≡ branch_depth bs
body_depth [] = refl
body_depth (b ∷ bs) = ap (max (depth b.body)) (body_depth bs)

last_nodes : (ts : List Term) (b : Term) → list_nodes (ts ++ b ∷ []) ≡ list_nodes ts + (nodes b + 0)
last_nodes [] b = omega arith
last_nodes (a ∷ ts) b = ap (λ k. nodes a + k) (last_nodes ts b) ∙ omega arith

last_depth : (ts : List Term) (b : Term) → list_depth (ts ++ b ∷ []) ≡ max (list_depth ts) (max (depth b) 0)
last_depth [] b = grind arith
last_depth (a ∷ ts) b = ap (max (depth a)) (last_depth ts b) ∙ grind arith

-- ---- what a head tells of its form

pub heads_parts : {I K : Type 0} (l : List K) (x : Head) (items : List I) (f : Form I K) → Heads l x items f → parts f ≡ items
heads_parts l _ _ _ (h.int n) = refl
heads_parts l _ _ _ (h.text s) = refl
heads_parts l _ _ _ (h.bool b) = refl
heads_parts l _ _ _ (h.variable n) = refl
heads_parts l _ _ _ (h.strict op items) = refl
heads_parts l _ _ _ (h.same i) = refl
heads_parts l _ _ _ (h.choice c x y) = refl
heads_parts l _ _ _ (h.bound items j) = refl
heads_parts l _ _ _ (h.cases g bs) = refl
heads_parts l _ _ _ (h.each g body) = refl
heads_parts l _ _ _ (h.call k args j e) = refl
heads_parts l _ _ _ h.nothing = refl

pub heads_own : {I K : Type 0} (l : List K) (x : Head) (items : List I) (f : Form I K) → Heads l x items f → x ≢ head.Same → x ≢ head.Nothing
    → (own_nodes f ≡ 1) × (own_levels f ≡ 1)
heads_own l _ _ _ (h.int n) s q = (refl, refl)
heads_own l _ _ _ (h.text t) s q = (refl, refl)
heads_own l _ _ _ (h.bool b) s q = (refl, refl)
heads_own l _ _ _ (h.variable n) s q = (refl, refl)
heads_own l _ _ _ (h.strict op items) s q = (refl, refl)
heads_own l _ _ _ (h.same i) s q = absurd (s refl)
heads_own l _ _ _ (h.choice c x y) s q = (refl, refl)
heads_own l _ _ _ (h.bound items j) s q = (refl, refl)
heads_own l _ _ _ (h.cases g bs) s q = (refl, refl)
heads_own l _ _ _ (h.each g body) s q = (refl, refl)
heads_own l _ _ _ (h.call k args j e) s q = (refl, refl)
heads_own l _ _ _ h.nothing s q = absurd (q refl)

pub heads_nothing : {I K : Type 0} (l : List K) (x : Head) (items : List I) (f : Form I K) → Heads l x items f → x ≡ head.Nothing → f ≡ no_form
heads_nothing l _ _ _ (h.int n) e = absurd (cc)
heads_nothing l _ _ _ (h.text t) e = absurd (cc)
heads_nothing l _ _ _ (h.bool b) e = absurd (cc)
heads_nothing l _ _ _ (h.variable n) e = absurd (cc)
heads_nothing l _ _ _ (h.strict op items) e = absurd (cc)
heads_nothing l _ _ _ (h.same i) e = absurd (cc)
heads_nothing l _ _ _ (h.choice c x y) e = absurd (cc)
heads_nothing l _ _ _ (h.bound items j) e = absurd (cc)
heads_nothing l _ _ _ (h.cases g bs) e = absurd (cc)
heads_nothing l _ _ _ (h.each g body) e = absurd (cc)
heads_nothing l _ _ _ (h.call k args j q) e = absurd (cc)
heads_nothing l _ _ _ h.nothing e = refl

pub record OnlyPart {I K : Type 0} (items : List I) (f : Form I K) : Type 0 where
  pub part : I
  pub items_are : items ≡ part ∷ []
  pub form_is : f ≡ same_form part

pub heads_same : {I K : Type 0} (l : List K) (x : Head) (items : List I) (f : Form I K) → Heads l x items f → x ≡ head.Same → OnlyPart items f
heads_same l _ _ _ (h.int n) e = absurd (cc)
heads_same l _ _ _ (h.text t) e = absurd (cc)
heads_same l _ _ _ (h.bool b) e = absurd (cc)
heads_same l _ _ _ (h.variable n) e = absurd (cc)
heads_same l _ _ _ (h.strict op items) e = absurd (cc)
heads_same l _ _ _ (h.same i) e = record { part = i; items_are = refl; form_is = refl }
heads_same l _ _ _ (h.choice c x y) e = absurd (cc)
heads_same l _ _ _ (h.bound items j) e = absurd (cc)
heads_same l _ _ _ (h.cases g bs) e = absurd (cc)
heads_same l _ _ _ (h.each g body) e = absurd (cc)
heads_same l _ _ _ (h.call k args j q) e = absurd (cc)
heads_same l _ _ _ h.nothing e = absurd (cc)

-- ---- the term

pub record Node {I K : Type 0} (p : Language I K) (numbers : List K) (f : Form I K) (ts : List Term) (a : Term) : Type 0 where
  pub becomes : Becomes p numbers f a
  pub count : nodes a ≡ suc (list_nodes ts)
  pub deep : depth a ≤ suc (list_depth ts)

module _ {I K : Type 0} (p : Language I K) (numbers : List K) where
  record Last (items : List I) (j : I) (ts : List Term) : Type 0 where
    pub before : List Term
    pub last : Term
    pub whole : ts ≡ before ++ last ∷ []
    pub each_unfolds : UnfoldAll p numbers items before
    pub unfolds : Unfolds p numbers j last

  split_last : (items : List I) (j : I) (ts : List Term) → UnfoldAll p numbers (items ++ j ∷ []) ts → Last items j ts
  split_last [] j _ (u.one_more _ _ a _ w u.no_item) = record { before = []; last = a; whole = refl; each_unfolds = u.no_item; unfolds = w }
  split_last (i ∷ items) j _ (u.one_more _ _ a ts w v) =
      let r = split_last items j ts v in
      record { before = a ∷ r.before; last = r.last; whole = ap (λ l. a ∷ l) r.whole; each_unfolds = u.one_more i items a r.before w r.each_unfolds; unfolds = r.unfolds }

  record Branched (bs : List (Pattern × I)) (ts : List Term) : Type 0 where
    pub branches : List Branch
    pub bodies : ts ≡ map (λ b. b.body) branches
    pub patterns : map (λ b. b.0) bs ≡ map (λ b. b.pattern) branches
    pub unfolded : UnfoldBranches p numbers bs branches

  branched : (bs : List (Pattern × I)) (ts : List Term) → UnfoldAll p numbers (map (λ b. b.1) bs) ts → Branched bs ts
  branched [] _ u.no_item = record { branches = []; bodies = refl; patterns = refl; unfolded = u.no_branch }
  branched (b ∷ bs) _ (u.one_more _ _ a ts w v) =
      let r = branched bs ts v in
      record {
        branches = record { pattern = b.0; body = a } ∷ r.branches;
        bodies = ap (λ l. a ∷ l) r.bodies;
        patterns = ap (λ l. b.0 ∷ l) r.patterns;
        unfolded = u.branch_more b.0 b.1 bs a r.branches w r.unfolded;
      }

pub node_of : {I K : Type 0} (p : Language I K) (l more : List K) (x : Head) (items : List I) (f : Form I K) (ts : List Term) (a : Term)
    → Heads l x items f → UnfoldAll p (l ++ more) items ts → IsBuilt x ts a → Node p (l ++ more) f ts a
node_of p l more _ _ _ _ a (h.int n) u.no_item e =
    subst (Node p (l ++ more) _ []) (sym e) (record { becomes = u.int n; count = omega arith; deep = omega arith })
node_of p l more _ _ _ _ a (h.text s) u.no_item e =
    subst (Node p (l ++ more) _ []) (sym e) (record { becomes = u.text s; count = omega arith; deep = omega arith })
node_of p l more _ _ _ _ a (h.bool b) u.no_item e =
    subst (Node p (l ++ more) _ []) (sym e) (record { becomes = u.bool b; count = omega arith; deep = omega arith })
node_of p l more _ _ _ _ a (h.variable n) u.no_item e =
    subst (Node p (l ++ more) _ []) (sym e) (record { becomes = u.variable n; count = omega arith; deep = omega arith })
node_of p l more _ _ _ ts a (h.strict op items) w e =
    subst (Node p (l ++ more) _ ts) (sym e) (record { becomes = u.strict op items ts w; count = omega (arith, nodes-Make op ts); deep = omega (arith, depth-Make op ts) })
node_of p l more _ _ _ ts a (h.same i) w e = absurd e
node_of p l more _ _ _ _ a (h.choice c x y) (u.one_more _ _ b _ w (u.one_more _ _ d _ v (u.one_more _ _ g _ z u.no_item))) e =
    subst (Node p (l ++ more) _ (b ∷ d ∷ g ∷ [])) (sym (e b d g refl))
    (record { becomes = u.choice c x y b d g w v z; count = omega (arith, nodes-If b d g); deep = grind (arith, depth-If b d g) })
node_of p l more _ _ _ ts a (h.bound items j) w e =
    let r = split_last p (l ++ more) items j ts w in
    subst (Node p (l ++ more) _ ts) (sym (e r.before r.last r.whole))
    (record {
      becomes = u.bound items j r.before r.last r.each_unfolds r.unfolds;
      count = omega (arith, nodes-Let r.before r.last, ap list_nodes r.whole, last_nodes r.before r.last);
      deep = grind (arith, depth-Let r.before r.last, ap list_depth r.whole, last_depth r.before r.last);
    })
node_of p l more _ _ _ _ a (h.cases g bs) (u.one_more _ _ b ts w v) e =
    let r = branched p (l ++ more) bs ts v in
    subst (Node p (l ++ more) _ (b ∷ ts)) (sym (e b r.branches (ap (λ l. b ∷ l) r.bodies) r.patterns))
    (record {
      becomes = u.cases g bs b r.branches w r.unfolded;
      count = omega (arith, nodes-Case b r.branches, ap list_nodes r.bodies, body_nodes r.branches);
      deep = grind (arith, depth-Case b r.branches, ap list_depth r.bodies, body_depth r.branches);
    })
node_of p l more _ _ _ _ a (h.each g body) (u.one_more _ _ b _ w (u.one_more _ _ d _ v u.no_item)) e =
    subst (Node p (l ++ more) _ (b ∷ d ∷ [])) (sym (e b d refl))
    (record { becomes = u.each g body b d w v; count = omega (arith, nodes-Each b d); deep = grind (arith, depth-Each b d) })
node_of p l more _ _ _ ts a (h.call k args j q) w e =
    subst (Node p (l ++ more) _ ts) (sym e)
    (record { becomes = u.call k args j ts (get_longer l more j k q) w; count = omega (arith, nodes-Call j ts); deep = omega (arith, depth-Call j ts) })
node_of p l more _ _ _ ts a h.nothing w e = absurd e

pub deep_within : (levels : ℕ) (ts : List Term) (a : Term) → depth a ≤ suc (list_depth ts) → AreWithin levels ts → depth a ≤ suc levels
deep_within levels ts a d w = omega (arith, d, within_depth levels ts w)

-- ---- branches are what their patterns and bodies are

abbrev head_branch : Branch → List Branch → Branch
head_branch b [] = b
head_branch b (c ∷ bs) = c

abbrev first_of : {A : Type 0} → A → List A → A
first_of x [] = x
first_of x (a ∷ l) = a

abbrev rest_of : {A : Type 0} → List A → List A
rest_of [] = []
rest_of (a ∷ l) = l

same_branch : (b c : Branch) → b.body ≡ c.body → b.pattern ≡ c.pattern → b ≡ c
same_branch b c e g = ap (λ x. record { pattern = x; body = b.body }) g ∙ ap (λ y. record { pattern = c.pattern; body = y }) e

same_branches : (bs cs : List Branch) → map (λ b. b.body) bs ≡ map (λ b. b.body) cs → map (λ b. b.pattern) bs ≡ map (λ b. b.pattern) cs → bs ≡ cs
same_branches [] [] e g = refl
same_branches [] (c ∷ cs) e g = absurd (cc)
same_branches (b ∷ bs) [] e g = absurd (cc)
same_branches (b ∷ bs) (c ∷ cs) e g =
    let one : b ≡ c = same_branch b c (ap (first_of b.body) e) (ap (first_of b.pattern) g) in
    let rest : bs ≡ cs = same_branches bs cs (ap rest_of e) (ap rest_of g) in
    cc

-- what was taken from the end stands, the other way round, behind what is left
pub taken_more : {A : Type 0} (f : Branch → A) (xs before now : List A) (made : List Branch) (b : Branch) → xs ≡ before ++ map f (reverse made) → before ≡ now ++ f b ∷ []
    → xs ≡ now ++ map f (reverse (made ++ b ∷ []))
taken_more f xs before now made b e g =
    e ∙ ap (λ l. l ++ map f (reverse made)) g ∙ append_assoc now (f b ∷ []) (map f (reverse made)) ∙ ap (λ l. now ++ map f l) (sym (reverse-append made (b ∷ [])))

without_length : {A : Type 0} (xs ys : List A) (k : ℕ) → length (xs ++ ys) ≡ k → length ys ≡ k → xs ++ ys ≡ ys
without_length [] ys k e g = refl
without_length (x ∷ xs) ys k e g = absurd (omega (arith, e, g, length-append (x ∷ xs) ys, length-append xs ys))

pub taken_all : (ps before : List Pattern) (ts others : List Term) (made bs : List Branch) → ps ≡ before ++ map (λ b. b.pattern) (reverse made)
    → ts ≡ others ++ map (λ b. b.body) (reverse made) → length made ≡ length ps → ts ≡ map (λ b. b.body) bs → ps ≡ map (λ b. b.pattern) bs → reverse made ≡ bs
taken_all ps before ts others made bs e g n h k =
    let patterns : length (map (λ b. b.pattern) (reverse made)) ≡ length ps = length-map (reverse made) (λ b. b.pattern) ∙ length-reverse made ∙ n in
    let bodies : length (map (λ b. b.body) (reverse made)) ≡ length ps = length-map (reverse made) (λ b. b.body) ∙ length-reverse made ∙ n in
    let as_many : length ts ≡ length ps = ap length h ∙ length-map bs (λ b. b.body) ∙ sym (length-map bs (λ b. b.pattern)) ∙ sym (ap length k) in
    same_branches (reverse made) bs
    (sym (without_length others (map (λ b. b.body) (reverse made)) (length ps) (ap length (sym g) ∙ as_many) bodies) ∙ sym g ∙ h)
    (sym (without_length before (map (λ b. b.pattern) (reverse made)) (length ps) (ap length (sym e)) patterns) ∙ sym e ∙ k)

pub none_taken : {A : Type 0} (f : Branch → A) (xs : List A) (made : List Branch) → made ≡ [] → xs ≡ xs ++ map f (reverse made)
none_taken f xs made e = subst (λ l. xs ≡ xs ++ map f (reverse l)) (sym e) (sym (append-nil xs))

pub taken_next : {A : Type 0} (f : Branch → A) (xs before now : List A) (made more : List Branch) (b : Branch) → xs ≡ before ++ map f (reverse made) → before ≡ now ++ f b ∷ []
    → more ≡ made ++ b ∷ [] → xs ≡ now ++ map f (reverse more)
taken_next f xs before now made more b e g h = subst (λ l. xs ≡ now ++ map f (reverse l)) (sym h) (taken_more f xs before now made b e g)

pub one_longer : (made more : List Branch) (b : Branch) (k : ℕ) → more ≡ made ++ b ∷ [] → length made ≡ k → length more ≡ k + 1
one_longer made more b k e h =
    let one : length (b ∷ []) ≡ 1 = refl in
    omega (arith, ap length e, length-append made (b ∷ []), h, one)
