-- What is computed statically.
use Rattle.std.proofs.Common.{◌≡◌, ℕ, Bool, true, false, Option, None, Result, refl, sym, ap, ap₂, subst, ◌∙◌}
use Rattle.ur_tree.specs.declared.typed.Typed.{Typed}
use Rattle.ur_tree.specs.declared.exp.Exp.{Exp}
use Rattle.ur_tree.specs.declared.closed.Static.{Static}
use Rattle.ur_source.specs.Items as i
use Rattle.ur_source.specs.Items.{Source, Scope, ItemForm, form_of, is_computed, only_where, if_static, static_in}
use Rattle.ur_source.specs.Source.{source_of}
use Rattle.ur_unfold_static.specs.Words as words
use Rattle.ur_meaning.specs.declared.head.Opened.{Opened}
use Rattle.ur_meaning.specs.declared.halt.Halt.{Halt}
use Rattle.ur_unfold_pieces.specs.declared.piece.Piece.{Piece}
use Rattle.ur_unfold_pieces.specs.declared.opening.Opening.{Opening}
use Rattle.ur_unfold_pieces.specs.Standing.{ScopeIs, IsWhole}
use Rattle.ur_unfold_pieces.specs.Moving.{Stays}
use Rattle.ur_unfold_pieces.specs.Forming.{FormedAs, OpensExp}
use Rattle.ur_unfold_pieces.proofs.Staying.{instances_stay, scope_stays, whole_stays}
use Rattle.ur_unfold_table.proofs.Forming.{formed_after}

pub computed_is : (app : Typed) (e : Exp) → words.is_computed app.functions e ≡ is_computed (source_of app) e
unfolding words.is_computed
computed_is app e = refl

pub is_computed_here : (app : Typed) (e f : Exp) (flag : Bool) → flag ≡ words.is_computed app.functions f → f ≡ e → flag ≡ is_computed (source_of app) e
is_computed_here app e f flag is same = is ∙ computed_is app f ∙ ap (is_computed (source_of app)) same

pub not_computed : (b : Bool) (s : Option Static) → b ≡ false → only_where b s ≡ None
not_computed b s e = ap (λ b. only_where b s) e

pub where_computed : (b : Bool) (s : Option Static) → b ≡ true → s ≡ only_where b s
where_computed b s e = sym (ap (λ b. only_where b s) e)

pub only_none : (b : Bool) (s : Option Static) → s ≡ None → only_where b s ≡ None
only_none true s e = e
only_none false s e = refl

-- an expression that is computed statically where one of its parts is
pub opens_computed : (old new : Opening) (n : ℕ) (e shape : Exp) (flag truth : Bool) (other : Scope → ItemForm) (r : Result (Opened Piece) Halt) → e ≡ shape → flag ≡ truth
    → ((scope : Scope) → form_of (source_of old.typed.now) (i.exp scope shape) ≡ if_static (only_where truth (static_in (source_of old.typed.now) scope shape)) (other scope))
    → ((scope : Scope) → ScopeIs old n scope → IsWhole old → FormedAs old new (if_static (only_where flag (static_in (source_of old.typed.now) scope e)) (other scope)) r) → OpensExp old new n e r
opens_computed old new n e shape flag truth other r is same forms go = λ scope at whole.
    let p = source_of old.typed.now in
    let form : form_of p (i.exp scope e) ≡ if_static (only_where flag (static_in p scope e)) (other scope) =
    ap (λ e. form_of p (i.exp scope e)) is ∙ forms scope ∙ ap₂ (λ b e. if_static (only_where b (static_in p scope e)) (other scope)) (sym same) (sym is) in
    subst (λ f. FormedAs old new f r) (sym form) (go scope at whole)

-- the form under a table that has widened
pub formed_later : (old mid new : Opening) (n : ℕ) (scope : Scope) (form : Source → ItemForm) (r : Result (Opened Piece) Halt) → Stays old mid → ScopeIs old n scope → IsWhole old
    → (ScopeIs mid n scope → IsWhole mid → FormedAs mid new (form (source_of mid.typed.now)) r) → FormedAs old new (form (source_of old.typed.now)) r
formed_later old mid new n scope form r st at whole go =
    subst (λ (app : Typed). FormedAs old new (form (source_of app)) r) st.widens.typed
    (formed_after old mid new (form (source_of mid.typed.now)) r st.widens.typed (instances_stay old mid st whole) (go (scope_stays old mid st.widens n scope at) (whole_stays old mid st whole)))
