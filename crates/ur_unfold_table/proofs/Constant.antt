-- The forms of closed static expressions.
use Rattle.std.proofs.Common.{◌≡◌, ℕ, ℤ, Bool, List, [], ◌∷◌, map, length, get_or, Result, refl, sym, ap, subst, ◌∙◌}
use Rattle.std.specs.List.{AllZip}
use Rattle.std.proofs.lemmas.Option.{slice_get-get_or}
use Rattle.ur_values.specs.declared.value.Value.TheVariants as v
use Rattle.ur_terms.specs.declared.term.Op.TheVariants as op
use Rattle.ur_tree.specs.declared.exp.Exp.TheVariants as x
use Rattle.ur_tree.specs.declared.typed.Function.{Function}
use Rattle.ur_tree.specs.declared.closed.Static.{Static, out-Static}
use Rattle.ur_tree.specs.declared.closed.Static.TheVariants as st
use Rattle.ur_tree.specs.declared.closed.StaticField.{StaticField}
use Rattle.ur_meaning.specs.Form.{int_form, text_form, bool_form, strict_form, no_form}
use Rattle.ur_source.specs.Static.{static_record}
use Rattle.ur_source.specs.Items as i
use Rattle.ur_source.specs.Items.{Item, ItemForm, closed_form}
use Rattle.ur_meaning.specs.declared.head.Opened.{Opened}
use Rattle.ur_meaning.specs.declared.halt.Halt.{Halt}
use Rattle.ur_unfold_static.specs.declared.node.Field.{Field}
use Rattle.ur_unfold_static.specs.declared.node.Node.{Node}
use Rattle.ur_unfold_static.specs.declared.node.Node.TheVariants as node
use Rattle.ur_unfold_static.specs.Held.{Held, con_at, static_at, field_of, lambda_with, static_of_node, AreBelow, NodeFits}
use Rattle.ur_unfold_static.specs.Scopes.{IsAt}
use Rattle.ur_unfold_pieces.specs.declared.piece.Piece.{Piece}
use Rattle.ur_unfold_pieces.specs.declared.opening.Opening.{Opening}
use Rattle.ur_unfold_pieces.specs.Told.{closed}
use Rattle.ur_unfold_pieces.specs.Standing.{SaysFor, IsWhole}
use Rattle.ur_unfold_pieces.specs.Forming.{FormedAs, OpensItem}
use Rattle.ur_unfold_pieces.proofs.Lists.{the_same}

-- ---- what a node is

module _ (functions : List Function) (held : Held) where
  abbrev form_at : Node → ItemForm
  form_at n = closed_form functions (out-Static (static_of_node held n))

  pub node-Int : (n : ℤ) → form_at (node.Int n) ≡ int_form n
  node-Int n = ap (closed_form functions) (st.outs-Literal (v.Int n))

  pub node-Str : (t : List ℕ) → form_at (node.Str t) ≡ text_form t
  node-Str t = ap (closed_form functions) (st.outs-Literal (v.Str t))

  pub node-Bool : (b : Bool) → form_at (node.Bool b) ≡ bool_form b
  node-Bool b = ap (closed_form functions) (st.outs-Literal (v.Bool b))

  pub node-Lambda : (l : ℕ) (js fs : List ℕ) → NodeFits held (node.Lambda l js fs) → form_at (node.Lambda l js fs) ≡ no_form
  node-Lambda l js fs h =
      let w = get_or held.lambdas l ([], x.Unit) in
      ap (λ y. closed_form functions (out-Static (lambda_with y (map (con_at held.cons) js) (map (static_at held.statics) fs)))) (slice_get-get_or held.lambdas l ([], x.Unit) h.0)
      ∙ ap (closed_form functions) (st.outs-Lambda w.0 w.1 (map (con_at held.cons) js) (map (static_at held.statics) fs))

  names_are : (fs : List Field) → map (λ (q : StaticField). q.name) (map (field_of held.statics) fs) ≡ map (λ (f : Field). f.name) fs
  names_are [] = refl
  names_are (f ∷ fs) = ap (λ l. f.name ∷ l) (names_are fs)

  abbrev pub field_items : List Field → List Item
  field_items fs = map (λ (q : StaticField). i.closed q.of) (map (field_of held.statics) fs)

  pub node-Record : (fs : List Field) → form_at (node.Record fs) ≡ strict_form (op.Record (map (λ (f : Field). f.name) fs)) (field_items fs)
  node-Record fs = ap (closed_form functions) (st.outs-Record (map (field_of held.statics) fs)) ∙ ap (λ l. strict_form (op.Record l) (field_items fs)) (names_are fs)

  pub fields_say : (s : Opening) → s.closing ≡ held → (fs : List Field) → AreBelow (length held.statics) (map (λ (f : Field). f.of) fs) → AllZip (SaysFor s) (map (λ (f : Field). closed f.of) fs) (field_items fs)
  fields_say s e [] h = tt
  fields_say s e (f ∷ fs) h =
      ((static_at held.statics f.of, subst (λ (k : Held). IsAt k.statics f.of (static_at held.statics f.of)) (sym e) (slice_get-get_or held.statics f.of (static_record []) h.0), refl), fields_say s e fs h.1)

-- what has the number is what the node is
pub opens_node : (old new : Opening) (number : ℕ) (n : Node) (form : ItemForm) (r : Result (Opened Piece) Halt) → IsAt old.closing.statics number (static_of_node old.closing n)
    → closed_form old.typed.now.functions (out-Static (static_of_node old.closing n)) ≡ form → (IsWhole old → FormedAs old new form r)
    → (s : Static) → IsAt old.closing.statics number s → OpensItem old new (i.closed s) r
opens_node old new number n form r at is go s there = λ whole.
    subst (λ (t : Static). FormedAs old new (closed_form old.typed.now.functions (out-Static t)) r) (the_same (static_of_node old.closing n) s (sym at ∙ there))
    (subst (λ f. FormedAs old new f r) (sym is) (go whole))
