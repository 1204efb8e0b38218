-- Parts of XML as they are opened.
use Rattle.std.proofs.Common.{◌≡◌, ℕ, List, [], ◌∷◌, ◌++◌, length, Option, Result, refl, sym, ap, subst, ◌∙◌}
use Rattle.ur_values.specs.declared.value.FieldKind.{FieldKind}
use Rattle.ur_values.specs.declared.value.Tag.{Tag}
use Rattle.ur_rows.specs.declared.normal.Label.{Label}
use Rattle.ur_terms.specs.declared.term.Op.TheVariants as op
use Rattle.ur_tree.specs.declared.exp.Exp.{Exp}
use Rattle.ur_tree.specs.declared.exp.Markup.{Markup}
use Rattle.ur_tree.specs.declared.exp.Markup.TheVariants as markup
use Rattle.ur_meaning.specs.Form.{strict_form, same_form}
use Rattle.ur_source.specs.Items as i
use Rattle.ur_source.specs.Items.{Scope, ItemForm, exps, markups, optional, strict_with, form_with, form_of, route_of, has_unit, label_name}
use Rattle.ur_source.specs.Source.{source_of}
use Rattle.ur_meaning.specs.declared.head.Head.TheVariants as head
use Rattle.ur_meaning.specs.declared.head.Opened.{Opened}
use Rattle.ur_meaning.specs.declared.halt.Halt.{Halt}
use Rattle.ur_unfold_pieces.specs.declared.piece.Piece.{Piece}
use Rattle.ur_unfold_pieces.specs.declared.opening.Opening.{Opening}
use Rattle.ur_unfold_pieces.specs.Told.{exp, exps_told, parts_told, held_told}
use Rattle.ur_unfold_pieces.specs.Standing.{ScopeIs}
use Rattle.ur_unfold_pieces.specs.Forming.{FormedAs, OpensItem}
use Rattle.ur_unfold_table.specs.Opened.{IsOpened}
use Rattle.ur_unfold_table.specs.Having.{OpenedBy, OpenedWith}
use Rattle.ur_unfold_table.proofs.Telling.{both_say, exps_say, parts_say, held_says}
use Rattle.ur_unfold_table.proofs.Forming.{strict_formed, same_formed, with_formed, by_formed}
use Rattle.ur_unfold_table.proofs.Forms.{part-Text, part-Shown, part-Splice, part-Element, part-Link, part-Input, part-Submit}

-- the form of a part of XML under the scope with this number
abbrev pub OpensPart : Opening → ℕ → Markup → Result (Opened Piece) Halt → Type 0
OpensPart s n m r = (scope : Scope) → ScopeIs s n scope → OpensItem s s (i.part scope m) r

module _ (s : Opening) (n : ℕ) (m : Markup) (r : Result (Opened Piece) Halt) where
  along : (q : Markup) (form : Scope → ItemForm) → m ≡ q → ((scope : Scope) → form_of (source_of s.typed.now) (i.part scope q) ≡ form scope)
      → ((scope : Scope) → ScopeIs s n scope → FormedAs s s (form scope) r) → OpensPart s n m r
  along q form e out go = λ scope at whole.
      subst (λ f. FormedAs s s f r) (sym (ap (λ m. form_of (source_of s.typed.now) (i.part scope m)) e ∙ out scope)) (go scope at)

  pub text-opens : (t : List ℕ) → m ≡ markup.Text t → IsOpened (head.Strict (op.Text t)) [] r → OpensPart s n m r
  text-opens t e opened = along (markup.Text t) (λ scope. strict_form (op.Text t) []) e (λ scope. part-Text (source_of s.typed.now) scope t) (λ scope at. strict_formed s s refl (op.Text t) [] [] r opened tt)

  pub shown-opens : (e : Exp) → m ≡ markup.Shown e → IsOpened (head.Strict op.Shown) (exps_told n (e ∷ [])) r → OpensPart s n m r
  shown-opens e is opened =
      along (markup.Shown e) (λ scope. strict_form op.Shown (exps scope (e ∷ []))) is (λ scope. part-Shown (source_of s.typed.now) scope e)
      (λ scope at. strict_formed s s refl op.Shown (exps_told n (e ∷ [])) (exps scope (e ∷ [])) r opened (exps_say s n scope at (e ∷ [])))

  pub splice-opens : (e : Exp) → m ≡ markup.Splice e → IsOpened head.Same (exp n e ∷ []) r → OpensPart s n m r
  splice-opens e is opened =
      along (markup.Splice e) (λ scope. same_form (i.exp scope e)) is (λ scope. part-Splice (source_of s.typed.now) scope e)
      (λ scope at. same_formed s s refl (exp n e) (i.exp scope e) r opened (scope, at, refl))

  pub element-opens : (tag : Tag) (ms : List Markup) → m ≡ markup.Element tag ms → IsOpened (head.Strict (op.Element tag)) (parts_told n ms) r → OpensPart s n m r
  element-opens tag ms is opened =
      along (markup.Element tag ms) (λ scope. strict_form (op.Element tag) (markups scope ms)) is (λ scope. part-Element (source_of s.typed.now) scope tag ms)
      (λ scope at. strict_formed s s refl (op.Element tag) (parts_told n ms) (markups scope ms) r opened (parts_say s n scope at ms))

  pub link-opens : (k : ℕ) (args : List Exp) (ms : List Markup) → m ≡ markup.Link k args ms
      → OpenedWith (route_of s.typed.now.targets k) (λ r. op.Link r (length args)) (exps_told n args ++ parts_told n ms) r → OpensPart s n m r
  link-opens k args ms is opened =
      along (markup.Link k args ms) (λ scope. strict_with (route_of s.typed.now.targets k) (λ r. op.Link r (length args)) (exps scope args ++ markups scope ms)) is
      (λ scope. part-Link (source_of s.typed.now) scope k args ms)
      (λ scope at. with_formed s s refl (route_of s.typed.now.targets k) (λ r. op.Link r (length args)) (exps_told n args ++ parts_told n ms) (exps scope args ++ markups scope ms) r opened
      (both_say s (exps_told n args) (parts_told n ms) (exps scope args) (markups scope ms) (exps_say s n scope at args) (parts_say s n scope at ms)))

  pub submit-opens : (k : ℕ) (args : List Exp) (e : Option Exp) → m ≡ markup.Submit k args e
      → OpenedBy (route_of s.typed.now.targets k) (λ r. OpenedWith (has_unit s.typed.now.handlers r (length args)) (op.Submit r (length args)) (exps_told n args ++ held_told n e)) r
      → OpensPart s n m r
  submit-opens k args e is opened =
      along (markup.Submit k args e)
      (λ scope. form_with (route_of s.typed.now.targets k)
      (λ r. strict_with (has_unit s.typed.now.handlers r (length args)) (op.Submit r (length args)) (exps scope args ++ optional scope e))) is
      (λ scope. part-Submit (source_of s.typed.now) scope k args e)
      (λ scope at. by_formed s s refl (route_of s.typed.now.targets k) (λ r. has_unit s.typed.now.handlers r (length args)) (λ r. op.Submit r (length args)) (exps_told n args ++ held_told n e)
      (exps scope args ++ optional scope e) r opened
      (both_say s (exps_told n args) (held_told n e) (exps scope args) (optional scope e) (exps_say s n scope at args) (held_says s n scope at e)))

  pub input-opens : (kind : FieldKind) (l : Label) (e : Option Exp) → m ≡ markup.Input kind l e
      → ((scope : Scope) → ScopeIs s n scope → OpenedWith (label_name s.typed.now.names scope.cons l) (λ n. op.Input kind n.0 n.1) (held_told n e) r) → OpensPart s n m r
  input-opens kind l e is opened =
      along (markup.Input kind l e) (λ scope. strict_with (label_name s.typed.now.names scope.cons l) (λ n. op.Input kind n.0 n.1) (optional scope e)) is
      (λ scope. part-Input (source_of s.typed.now) scope kind l e)
      (λ scope at. with_formed s s refl (label_name s.typed.now.names scope.cons l) (λ n. op.Input kind n.0 n.1) (held_told n e) (optional scope e) r (opened scope at) (held_says s n scope at e))

  pub same-opens : (q : Markup) → m ≡ q → OpensPart s n q r → OpensPart s n m r
  same-opens q e h = subst (λ m. OpensPart s n m r) (sym e) h
