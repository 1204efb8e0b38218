-- What it is that an expression with parts has a kind, and that it reads columns.
use Rattle.std.proofs.Common.{◌≡◌, Bool, List, Some, None, refl, sym, ap, subst, ◌∙◌}
use Rattle.std.specs.Prelude.{◌↔◌, IsTrue, IsSome}
use denote.Hole.Carrier
use Rattle.ur_values.specs.declared.schema.ColumnKind.{ColumnKind}
use Rattle.ur_values.specs.declared.schema.ColumnKind.TheVariants as kind
use Rattle.ur_values.specs.Kinds.{inside}
use Rattle.ur_sql.specs.declared.query.ColumnAt.{ColumnAt}
use Rattle.ur_sql.specs.declared.scalar.Comparison.{Comparison}
use Rattle.ur_sql.specs.declared.scalar.Scalar.{Scalar}
use Rattle.ur_sql.specs.declared.scalar.Scalar.TheBlock as block
use Rattle.ur_sql.specs.declared.scalar.Scalar.TheVariants as s
use Rattle.ur_sql.specs.Typing.{Kinds, Compares, HasKind, HasSomeKind, HasBasicKind, ReadsOnly}
use Rattle.ur_sql.specs.Kinds.{scalar_kind}
use Rattle.ur_sql.proofs.HeadKinds.{head_is}

itself : {A : Type 0} → A ↔ A
itself = ((λ a. a), (λ a. a))

module _ (ks : Kinds) where
  pub kind_Or : (a b : Scalar) (k : ColumnKind) → HasKind ks (s.Or a b) k ↔ ((k ≡ kind.Bool) × HasKind ks a kind.Bool × HasKind ks b kind.Bool)
  unfolding block.hidden-the_row-Scalar-0 Carrier.hidden
  kind_Or a b k = itself

  pub kind_And : (a b : Scalar) (k : ColumnKind) → HasKind ks (s.And a b) k ↔ ((k ≡ kind.Bool) × HasKind ks a kind.Bool × HasKind ks b kind.Bool)
  unfolding block.hidden-the_row-Scalar-0 Carrier.hidden
  kind_And a b k = itself

  pub kind_Add : (a b : Scalar) (k : ColumnKind) → HasKind ks (s.Add a b) k ↔ ((k ≡ kind.Int) × HasKind ks a kind.Int × HasKind ks b kind.Int)
  unfolding block.hidden-the_row-Scalar-0 Carrier.hidden
  kind_Add a b k = itself

  pub kind_Sub : (a b : Scalar) (k : ColumnKind) → HasKind ks (s.Sub a b) k ↔ ((k ≡ kind.Int) × HasKind ks a kind.Int × HasKind ks b kind.Int)
  unfolding block.hidden-the_row-Scalar-0 Carrier.hidden
  kind_Sub a b k = itself

  pub kind_Mul : (a b : Scalar) (k : ColumnKind) → HasKind ks (s.Mul a b) k ↔ ((k ≡ kind.Int) × HasKind ks a kind.Int × HasKind ks b kind.Int)
  unfolding block.hidden-the_row-Scalar-0 Carrier.hidden
  kind_Mul a b k = itself

  pub kind_Not : (a : Scalar) (k : ColumnKind) → HasKind ks (s.Not a) k ↔ ((k ≡ kind.Bool) × HasKind ks a kind.Bool)
  unfolding block.hidden-the_row-Scalar-0 Carrier.hidden
  kind_Not a k = itself

  pub kind_Neg : (a : Scalar) (k : ColumnKind) → HasKind ks (s.Neg a) k ↔ ((k ≡ kind.Int) × HasKind ks a kind.Int)
  unfolding block.hidden-the_row-Scalar-0 Carrier.hidden
  kind_Neg a k = itself

  pub kind_Compare : (c : Comparison) (a b : Scalar) (k : ColumnKind)
      → HasKind ks (s.Compare c a b) k ↔ ((k ≡ kind.Bool) × ((j : ColumnKind) × HasKind ks a j × HasKind ks b j × Compares c j))
  unfolding block.hidden-the_row-Scalar-0 Carrier.hidden
  kind_Compare c a b k = itself

  pub kind_Present : (a : Scalar) (k : ColumnKind) → HasKind ks (s.Present a) k ↔ ((j : ColumnKind) × (inside k ≡ Some j) × HasKind ks a j)
  unfolding block.hidden-the_row-Scalar-0 Carrier.hidden
  kind_Present a k = itself

  none_some : {A : Type 0} {k : ColumnKind} → None ≡ Some k → A
  none_some e = absurd (apart e)
    where
      apart : {k : ColumnKind} → None ≡ Some k → ⊥
      apart e = cc

  only : (a x : Scalar) (of j : ColumnKind) → x ≡ a → scalar_kind ks x ≡ Some of → HasKind ks a j → j ≡ of
  only a x of j f e h = some_same (sym (head_is ks a j h) ∙ ap (scalar_kind ks) (sym f) ∙ e)
    where
      some_same : {m n : ColumnKind} → Some m ≡ Some n → m ≡ n
      some_same e = cc

  pub kind_of_Compare : (by : Scalar) (c : Comparison) (a b : Scalar) (k : ColumnKind) → by ≡ s.Compare c a b → HasKind ks by k → k ≡ kind.Bool
  kind_of_Compare by c a b k is q = ((kind_Compare c a b k).0 (subst (λ z. HasKind ks z k) is q)).0

  -- what has a kind has the one at its head
  pub some_kind : (e : Scalar) (of : ColumnKind) → scalar_kind ks e ≡ Some of → (r : Bool) → IsTrue r ↔ HasKind ks e of → IsTrue r ↔ HasSomeKind ks e
  some_kind e of h r w = ((λ q. (of, w.0 q)), (λ k. w.1 (subst (HasKind ks e) (only e e of k.0 refl h k.1) k.1)))

  -- the same of a kind that is not optional
  pub basic_kind : (e : Scalar) (of : ColumnKind) → scalar_kind ks e ≡ Some of → inside of ≡ None → (r : Bool) → IsTrue r ↔ HasKind ks e of →
      IsTrue r ↔ HasBasicKind ks e
  basic_kind e of h b r w = ((λ q. (of, b, w.0 q)), (λ k. w.1 (subst (HasKind ks e) (only e e of k.0 refl h k.2) k.2)))

  pub no_basic_kind : (e : Scalar) (of j : ColumnKind) → scalar_kind ks e ≡ Some of → inside of ≡ Some j → HasBasicKind ks e → ⊥
  no_basic_kind e of j h b k = none_some (sym k.1 ∙ ap inside (only e e of k.0 refl h k.2) ∙ b)

  pub without_any : (e : Scalar) → scalar_kind ks e ≡ None → HasSomeKind ks e → ⊥
  without_any e h k = none_some (sym h ∙ head_is ks e k.0 k.1)

  pub without_kind : (e : Scalar) → scalar_kind ks e ≡ None → HasBasicKind ks e → ⊥
  without_kind e h k = none_some (sym h ∙ head_is ks e k.0 k.2)

  -- NULL and SOME
  pub null_kind : (by : Scalar) (j k : ColumnKind) → by ≡ s.Null j → (r : Bool) → IsTrue r ↔ ((k ≡ j) × IsSome (inside j)) → IsTrue r ↔ HasKind ks by k
  null_kind by j k is r w = ((λ q. subst (λ z. HasKind ks z k) (sym is) (w.0 q)), (λ q. w.1 (subst (λ z. HasKind ks z k) is q)))

  pub present_none : (by a : Scalar) (k : ColumnKind) → by ≡ s.Present a → inside k ≡ None → HasKind ks by k → ⊥
  present_none by a k is e q = let h = (kind_Present a k).0 (subst (λ z. HasKind ks z k) is q) in none_some (sym e ∙ h.1)

  pub present_some : (by a x : Scalar) (k of : ColumnKind) → by ≡ s.Present a → x ≡ a → inside k ≡ Some of → (r : Bool) → IsTrue r ↔ HasKind ks x of →
      IsTrue r ↔ HasKind ks by k
  present_some by a x k of is f e r w = (
    (λ q. subst (λ z. HasKind ks z k) (sym is) ((kind_Present a k).1 (of, e, subst (λ z. HasKind ks z of) f (w.0 q)))),
    (λ q. let h = (kind_Present a k).0 (subst (λ z. HasKind ks z k) is q) in w.1
        (subst (λ z. HasKind ks z of) (sym f) (subst (HasKind ks a) (same_some (sym h.1 ∙ e)) h.2))),
  )
    where
      same_some : {m n : ColumnKind} → Some m ≡ Some n → m ≡ n
      same_some e = cc

  -- a comparison of what has no kind
  pub compare_none : (by : Scalar) (c : Comparison) (a b x : Scalar) (k : ColumnKind) → by ≡ s.Compare c a b → x ≡ a → scalar_kind ks x ≡ None → HasKind ks by k → ⊥
  compare_none by c a b x k is f e q =
      let h = (kind_Compare c a b k).0 (subst (λ z. HasKind ks z k) is q) in
      none_some (sym e ∙ ap (scalar_kind ks) f ∙ head_is ks a h.1.0 h.1.1)

  -- what a comparison of this kind asks for
  pub compare_parts : (by : Scalar) (c : Comparison) (a b x : Scalar) (k of : ColumnKind) → by ≡ s.Compare c a b → x ≡ a → scalar_kind ks x ≡ Some of → HasKind ks by k
      → (k ≡ kind.Bool) × HasKind ks a of × HasKind ks b of × Compares c of
  compare_parts by c a b x k of is f e q =
      let h = (kind_Compare c a b k).0 (subst (λ z. HasKind ks z k) is q) in
      let same : h.1.0 ≡ of = only a x of h.1.0 f e h.1.1 in
      (h.0, subst (HasKind ks a) same h.1.1, subst (HasKind ks b) same h.1.2, subst (Compares c) same h.1.3)

  pub compare_made : (by : Scalar) (c : Comparison) (a b : Scalar) (k of : ColumnKind) → by ≡ s.Compare c a b → k ≡ kind.Bool → HasKind ks a of → HasKind ks b of → Compares c of
      → HasKind ks by k
  compare_made by c a b k of is e ha hb comp = subst (λ z. HasKind ks z k) (sym is) ((kind_Compare c a b k).1 (e, (of, ha, hb, comp)))

module _ (group : List ColumnAt) where
  pub reads_Or : (a b : Scalar) → ReadsOnly group (s.Or a b) ↔ (ReadsOnly group a × ReadsOnly group b)
  unfolding block.hidden-the_row-Scalar-0 Carrier.hidden
  reads_Or a b = itself

  pub reads_And : (a b : Scalar) → ReadsOnly group (s.And a b) ↔ (ReadsOnly group a × ReadsOnly group b)
  unfolding block.hidden-the_row-Scalar-0 Carrier.hidden
  reads_And a b = itself

  pub reads_Add : (a b : Scalar) → ReadsOnly group (s.Add a b) ↔ (ReadsOnly group a × ReadsOnly group b)
  unfolding block.hidden-the_row-Scalar-0 Carrier.hidden
  reads_Add a b = itself

  pub reads_Sub : (a b : Scalar) → ReadsOnly group (s.Sub a b) ↔ (ReadsOnly group a × ReadsOnly group b)
  unfolding block.hidden-the_row-Scalar-0 Carrier.hidden
  reads_Sub a b = itself

  pub reads_Mul : (a b : Scalar) → ReadsOnly group (s.Mul a b) ↔ (ReadsOnly group a × ReadsOnly group b)
  unfolding block.hidden-the_row-Scalar-0 Carrier.hidden
  reads_Mul a b = itself

  pub reads_Compare : (c : Comparison) (a b : Scalar) → ReadsOnly group (s.Compare c a b) ↔ (ReadsOnly group a × ReadsOnly group b)
  unfolding block.hidden-the_row-Scalar-0 Carrier.hidden
  reads_Compare c a b = itself

  pub reads_Not : (a : Scalar) → ReadsOnly group (s.Not a) ↔ ReadsOnly group a
  unfolding block.hidden-the_row-Scalar-0 Carrier.hidden
  reads_Not a = itself

  pub reads_Neg : (a : Scalar) → ReadsOnly group (s.Neg a) ↔ ReadsOnly group a
  unfolding block.hidden-the_row-Scalar-0 Carrier.hidden
  reads_Neg a = itself

  pub reads_Present : (a : Scalar) → ReadsOnly group (s.Present a) ↔ ReadsOnly group a
  unfolding block.hidden-the_row-Scalar-0 Carrier.hidden
  reads_Present a = itself
