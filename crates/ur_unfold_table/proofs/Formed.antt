-- Forms of expressions, and what may be static.
use Rattle.std.proofs.Common.{◌≡◌, ℕ, [], ◌∷◌, Option, None, Some, Result, sym, ap, subst, ◌∙◌}
use Rattle.ur_tree.specs.declared.exp.Exp.{Exp}
use Rattle.ur_tree.specs.declared.closed.Static.{Static}
use Rattle.ur_source.specs.Items as i
use Rattle.ur_source.specs.Items.{Scope, ItemForm, form_of, if_static}
use Rattle.ur_source.specs.Source.{source_of}
use Rattle.ur_meaning.specs.declared.head.Head.TheVariants as head
use Rattle.ur_meaning.specs.declared.head.Opened.{Opened}
use Rattle.ur_meaning.specs.declared.halt.Halt.{Halt}
use Rattle.ur_unfold_static.specs.Scopes.{MayBeAt}
use Rattle.ur_unfold_pieces.specs.declared.piece.Piece.{Piece}
use Rattle.ur_unfold_pieces.specs.declared.opening.Opening.{Opening}
use Rattle.ur_unfold_pieces.specs.Told.{closed}
use Rattle.ur_unfold_pieces.specs.Standing.{ScopeIs, IsWhole, instances_in}
use Rattle.ur_unfold_pieces.specs.Forming.{FormedAs, OpensExp}
use Rattle.ur_unfold_table.specs.Opened.{IsOpened}
use Rattle.ur_unfold_table.proofs.Forming.{static_formed}

-- what may be static, as it is found
pub found_formed : (old new : Opening) → instances_in new ≡ instances_in old → (c : Option Static) (other : ItemForm) (o : Option ℕ) (j : ℕ) (r : Result (Opened Piece) Halt) → o ≡ Some j → MayBeAt new.closing.statics o c
    → IsOpened head.Same (closed j ∷ []) r → FormedAs old new (if_static c other) r
found_formed old new stay c other o j r e m is = static_formed old new stay j c other r (subst (λ p. MayBeAt new.closing.statics p c) e m) is

pub none_static : (old new : Opening) (c : Option Static) (other : ItemForm) (r : Result (Opened Piece) Halt) → c ≡ None → FormedAs old new other r → FormedAs old new (if_static c other) r
none_static old new c other r none f = subst (λ c. FormedAs old new (if_static c other) r) (sym none) f

pub value_formed : (old new : Opening) (c : Option Static) (other : ItemForm) (o : Option ℕ) (r : Result (Opened Piece) Halt) → o ≡ None → MayBeAt new.closing.statics o c
    → FormedAs old new other r → FormedAs old new (if_static c other) r
value_formed old new c other o r e m f = none_static old new c other r (subst (λ p. MayBeAt new.closing.statics p c) e m) f

-- an expression of this shape
pub opens_exp : (old new : Opening) (n : ℕ) (e shape : Exp) (r : Result (Opened Piece) Halt) (form : Scope → ItemForm) → e ≡ shape → ((scope : Scope) → form_of (source_of old.typed.now) (i.exp scope shape) ≡ form scope)
    → ((scope : Scope) → ScopeIs old n scope → IsWhole old → FormedAs old new (form scope) r) → OpensExp old new n e r
opens_exp old new n e shape r form is forms go =
    λ scope at whole. subst (λ f. FormedAs old new f r) (sym (ap (λ e. form_of (source_of old.typed.now) (i.exp scope e)) is ∙ forms scope)) (go scope at whole)
